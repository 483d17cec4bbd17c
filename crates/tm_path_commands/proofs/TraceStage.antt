-- What tracing has given, piece after piece, and at the end.
use Rattle.std.proofs.Common.{◌≡◌, ℕ, ◌+◌, ◌≤◌, List, [], ◌∷◌, ◌++◌, length, sym, ◌∙◌, ap, subst, arith, append_assoc}
use Rattle.tm_base.specs.Handed.{Handed, items_of}
use Rattle.tm_base.specs.Limits.{most_limit}
use Rattle.tm_base.specs.Takers.{HandedOver}
use Rattle.tm_base.proofs.Handing.{HandedOver-push}
use Rattle.tm_config.specs.Configuration.{Configuration}
use Rattle.tm_driver.specs.Writing.{Text, Out}
use Rattle.tm_viterbi.specs.WindowBlock.{WindowBlock}
use Rattle.tm_inner.specs.Handing.{AreHanded, ReadsLast}
use Rattle.tm_inner.specs.Inner.{inner_bits}
use Rattle.tm_inner.specs.InnerDecoding.{InnerDecoding}
use Rattle.tm_inner.specs.Receiving.{HasHanded, Hands}
use Rattle.tm_inner.specs.declared.decoder.InnerEnd.{InnerEnd}
use Rattle.tm_path_commands.specs.declared.tally.Tally.{Tally}
use Rattle.tm_path_commands.specs.declared.trace_command.WindowLines.{WindowLines}
use Rattle.tm_path_commands.specs.Lines.{no_blocks, trace_end_text}
use Rattle.tm_path_commands.specs.Tracing.{Traces, TracesAll, counted_by, lines_by, traced}
use Rattle.tm_path_commands.proofs.TraceLines.{counted_by-append, lines-given, lines_by-append}

-- lines after those of what was handed over before
lines-after : (tally : Tally) (done : List Text) (before more : List (Handed WindowBlock))
    → tally ≡ counted_by no_blocks before → done ≡ lines_by no_blocks before
    → done ++ lines_by tally more ≡ lines_by no_blocks (before ++ more)
lines-after tally done before more counted lines =
    ap (λ l. l ++ lines_by tally more) lines
    ∙ ap (λ (n : Tally). lines_by no_blocks before ++ lines_by n more) counted
    ∙ sym (lines_by-append no_blocks before more)

counted-after : (tally now : Tally) (before more : List (Handed WindowBlock)) → tally ≡ counted_by no_blocks before
    → now ≡ counted_by tally more → now ≡ counted_by no_blocks (before ++ more)
counted-after tally now before more counted is =
    is ∙ ap (λ (n : Tally). counted_by n more) counted ∙ sym (counted_by-append no_blocks before more)

pub traces-more : {T : Type 0} (took : T → Text → T → Type 0) (d now : InnerDecoding) (a b : WindowLines T)
    (octets : List ℕ) → now.config ≡ d.config → Hands (traced took) HasHanded d now a b octets
    → (lines : List Text) × HandedOver took a.texts.now lines b.texts.now
    × ((c : Configuration) (given : List ℕ) (done : List Text) → length given + length octets ≤ most_limit
    → Traces c d a.tally given done → Traces c now b.tally (given ++ octets) (done ++ lines))
traces-more took d now a b octets config h =
    let g = lines-given took h.more a b h.handed in (
      lines_by a.tally h.more,
      g.1,
      λ c given done few t. record {
        accepted = t.accepted;
        config = config ∙ t.config;
        handed = t.handed ++ h.more;
        stands = h.stands given t.handed (omega (arith, few)) t.stands;
        counted = counted-after a.tally b.tally t.handed h.more t.counted g.2;
        lines = lines-after a.tally done t.handed h.more t.counted t.lines;
      },
    )

-- the last lines, and the end
pub traces-end : {T : Type 0} (took : T → Text → T → Type 0) (d now : InnerDecoding) (a b : WindowLines T) (last : T)
    (end : InnerEnd) → ReadsLast (traced took) d now a b end
    → took b.texts.now (Out (trace_end_text b.tally.blocks end.bits end.leftover)) last
    → (lines : List Text) × HandedOver took a.texts.now lines last
    × ((c : Configuration) (given : List ℕ) (done : List Text) → Traces c d a.tally given done
    → TracesAll c given (done ++ lines))
traces-end took d now a b last end r ended =
    let all = r.last in
    let g = lines-given took all a b r.handed in
    let line : List ℕ = trace_end_text b.tally.blocks end.bits end.leftover in (
      lines_by a.tally all ++ Out line ∷ [],
      HandedOver-push took a.texts.now b.texts.now last (lines_by a.tally all) (Out line) g.1 ended,
      λ c given done t.
          let w = subst (λ (k : Configuration). AreHanded k given (t.handed ++ all) end.leftover
          × (end.bits ≡ length (inner_bits k given (items_of (t.handed ++ all))))) t.config
          (let w = r.all given t.handed t.stands in (w.0, w.1)) in
          let counted = counted-after a.tally b.tally t.handed all t.counted g.2 in
          record {
            accepted = t.accepted;
            handed = t.handed ++ all;
            left = end.leftover;
            are_handed = w.0;
            lines = sym (append_assoc done (lines_by a.tally all) (Out line ∷ []))
                ∙ ap (λ (l : List Text). l ++ Out line ∷ [])
                (lines-after a.tally done t.handed all t.counted t.lines)
                ∙ ap (λ (n : Tally). lines_by no_blocks (t.handed ++ all)
                ++ Out (trace_end_text n.blocks end.bits end.leftover) ∷ []) counted
                ∙ ap (λ (n : ℕ). lines_by no_blocks (t.handed ++ all)
                ++ Out (trace_end_text (counted_by no_blocks (t.handed ++ all)).blocks n end.leftover) ∷ []) w.1;
          },
    )
