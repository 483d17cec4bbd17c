-- A decoder that octets are put in, and that is read run after run: what the loop keeps that does so.
use Rattle.std.proofs.Common.{◌≡◌, inl, inr, ℕ, ◌+◌, ◌-◌, ◌<◌, ◌≤◌, ◌^◌, false, List, [], ◌++◌, length, take, drop, refl, sym, ap, ◌∙◌, subst, arith, append_assoc, length-take, take-add, take-append-drop, Option, None}
use Rattle.std.proofs.lemmas.Bool.{cases_lt}
use Rattle.std.proofs.lemmas.List.{append-nil, take_all, take_rest}
use Rattle.tm_base.specs.Handed.{Handed}
use Rattle.tm_config.specs.Configuration.{Configuration}
use Rattle.tm_viterbi.specs.WindowBlock.{WindowBlock}
use Rattle.tm_windows.specs.declared.choosing.Chosen.{Chosen}
use Rattle.tm_windows.proofs.Phases.{IsPhase-prefix}
use Rattle.tm_inner.specs.Handing.{AreHandedFirst, IsKept, Keeps, ReadsDue}
use Rattle.tm_inner.specs.InnerDecoding.{InnerDecoderStandsFor, InnerDecoding, IsDrained, IsSameDecoder, IsSettledQueue, unread}
use Rattle.tm_inner.specs.Phase.{IsChosenSoFar, IsSettled, phase_octets}
use Rattle.tm_inner.specs.Receiving.{HasHanded, HasRead, Hands}
use Rattle.tm_inner.proofs.DecoderCalls.{Runs}
use Rattle.tm_inner.proofs.DecoderPieces.{Fills, IsLater}
use Rattle.tm_inner.proofs.DecoderReads.{is-kept, read-first, read-on, some-chosen}
use Rattle.tm_inner.proofs.Decoders.{settled-chosen}
use Rattle.tm_inner.proofs.GivenPieces.{hands-more, hands-none, hands-then}
use Rattle.tm_inner.proofs.WithPhase.{so_far-stays}

-- the phase that is kept is that of the octets read before
abbrev pub KeepsNow : InnerDecoding → InnerDecoding → Type 0
KeepsNow d now = (given : List ℕ) (done : List (Handed WindowBlock)) → HasRead d given done → IsKept now given

-- by a run
pub run-keeps : (d now : InnerDecoding) (ready : List WindowBlock) → now.has_ended ≡ d.has_ended → Runs d now ready
    → KeepsNow d now
run-keeps d now ready ended runs given done r =
    let s = runs given r.blocks r.stands in
    is-kept now given (r.blocks ++ ready) s.0 (λ going. s.1 (sym ended ∙ going))

-- ---- the loop

-- the first `count` of these octets were put in
pub record Filled (d filled : InnerDecoding) (count : ℕ) (octets : List ℕ) : Type 0 where
  pub later : IsLater d filled
  pub ended : filled.has_ended ≡ d.has_ended
  pub most : count ≤ length octets
  pub stands : (given : List ℕ) (blocks : List WindowBlock) → d.has_ended ≡ false → length given + count < 2 ^ 60
      → InnerDecoderStandsFor d given blocks → InnerDecoderStandsFor filled (given ++ take count octets) blocks

-- of a slice of octets
pub fills-piece : (d filled : InnerDecoding) (octets : List ℕ) (done count : ℕ) → d.has_ended ≡ false
    → Filled d filled count (take (length octets - done) (drop done octets))
    → Fills d filled (take count (drop done octets))
fills-piece d filled octets done count going slice = λ given blocks few stood.
    let f = subst (Filled d filled count) (take_rest octets done) slice in
    f.stands given blocks going (omega (arith, few, length-take count (drop done octets), f.most)) stood

hands-filled : {T : Type 0} (took : T → Handed WindowBlock → T → Type 0) (d filled : InnerDecoding) (taker : T)
    (piece : List ℕ) → IsLater d filled → Fills d filled piece → Hands took HasRead d filled taker taker piece
hands-filled took d filled taker piece later fills = record {
  more = [];
  handed = refl;
  stands = λ given done few r.
      subst (HasRead filled (given ++ piece)) (sym (append-nil done))
      (read-on d filled given (given ++ piece) done later.config later.phase later.stays r
      (fills given r.blocks few r.stands));
}

-- the first `done` of the octets were put in, and what was decoded of them was read
pub record ReadsUp {T : Type 0} (took : T → Handed WindowBlock → T → Type 0) (d now : InnerDecoding) (start taker : T)
    (octets : List ℕ) (done : ℕ) : Type 0 where
  pub within : done ≤ length octets
  pub config : now.config ≡ d.config
  pub ended : now.has_ended ≡ d.has_ended
  pub still : length octets ≡ 0 → IsSettledQueue d.queue → IsSettledQueue now.queue
  pub read : Hands took HasRead d now start taker (take done octets)

pub reads-none : {T : Type 0} (took : T → Handed WindowBlock → T → Type 0) (d : InnerDecoding) (start : T)
    (octets : List ℕ) → ReadsUp took d d start start octets 0
reads-none took d start octets = record {
  within = omega arith;
  config = refl;
  ended = refl;
  still = λ _ is. is;
  read = hands-none took HasRead d start;
}

module _ {T : Type 0} (took : T → Handed WindowBlock → T → Type 0) (d b : InnerDecoding) (start middle : T)
    (octets : List ℕ) (done : ℕ) (r : ReadsUp took d b start middle octets done) where
  -- a run is decoded and read
  pub reads-run : (now : InnerDecoding) (last : T) → IsSameDecoder b now → Hands took HasRead b now middle last []
      → ReadsUp took d now start last octets done
  reads-run now last same h = record {
    within = r.within;
    config = same.config ∙ r.config;
    ended = same.ended ∙ r.ended;
    still = λ none is. same.settled (r.still none is);
    read = hands-then took HasRead d b now start middle last (take done octets) r.read h;
  }

  -- further octets are put in
  pub reads-filled : (filled : InnerDecoding) (count : ℕ) → (0 < length octets → d.has_ended ≡ false)
      → done < length octets → Filled b filled count (take (length octets - done) (drop done octets))
      → ReadsUp took d filled start middle octets (done + count)
  reads-filled filled count going some slice =
      let piece = take count (drop done octets) in record {
        within = omega (arith, slice.most, length-take (length octets - done) (drop done octets), r.within);
        config = slice.later.config ∙ r.config;
        ended = slice.ended ∙ r.ended;
        still = λ none. absurd (omega (arith, none, some));
        read = subst (Hands took HasRead d filled start middle) (sym (take-add done count octets))
            (hands-more took HasRead d b filled start middle middle (take done octets) piece r.read
            (hands-filled took b filled middle piece slice.later
            (fills-piece b filled octets done count (r.ended ∙ going (omega (arith, some))) slice)));
      }

  -- the phase that is kept is theirs
  reads-keep : (now : InnerDecoding) → KeepsNow b now → Keeps d now (take done octets)
  reads-keep now kept given before few s =
      kept (given ++ take done octets) (before ++ r.read.more) (r.read.stands given before few s)

  -- the last run, once all were put in
  pub reads-due : (now : InnerDecoding) (last : T) → length octets ≤ done → IsSameDecoder b now
      → Hands took HasRead b now middle last [] → IsDrained now.queue → unread now ≡ None → KeepsNow b now
      → ReadsDue took d now start last octets
  reads-due now last all same h drained read kept =
      let n = reads-run now last same h in record {
        config = n.config;
        ended = n.ended;
        still = n.still;
        drained = drained;
        all = read;
        read = subst (Hands took HasRead d now start last) (take_all done octets all) n.read;
        kept = subst (Keeps d now) (take_all done octets all) (reads-keep now kept);
      }

-- of a decoder of which all was read that is due
pub hands-all : {T : Type 0} (took : T → Handed WindowBlock → T → Type 0) (d now : InnerDecoding) (taker last : T)
    (octets : List ℕ) → d.has_ended ≡ false → ReadsDue took d now taker last octets
    → Hands took HasHanded d now taker last octets
hands-all took d now taker last octets going r = record {
  more = r.read.more;
  handed = r.read.handed;
  stands = λ given done few stood. record {
    read = r.read.stands given done few stood.read;
    all = r.all;
    drained = r.drained;
    so_far = (r.kept given done few stood.read).so_far (r.ended ∙ going);
  };
}

-- the phase so far of octets of which the first were put in is theirs where it was settled, or all were
pub so_far-whole : (c : Configuration) (given octets : List ℕ) (n : ℕ) (chosen : Option Chosen)
    → (n < length octets → IsSettled c (given ++ take n octets)) → IsChosenSoFar c (given ++ take n octets) chosen
    → IsChosenSoFar c (given ++ octets) chosen
so_far-whole c given octets n chosen settled so_far =
    elim (cases_lt n (length octets)) as (λ _. IsChosenSoFar c (given ++ octets) chosen) [
      | inl cut ↦ subst (λ (l : List ℕ). IsChosenSoFar c l chosen)
          (append_assoc given (take n octets) (drop n octets)
          ∙ ap (λ (l : List ℕ). given ++ l) (take-append-drop n octets))
          (so_far-stays IsPhase-prefix c (given ++ take n octets) (drop n octets) chosen (settled cut) so_far)
      | inr all ↦ subst (λ (l : List ℕ). IsChosenSoFar c (given ++ l) chosen) (take_all n octets all) so_far
    ]

-- what was handed over is the first of what is due, where something was
pub handed-first : (d : InnerDecoding) (given : List ℕ) (done : List (Handed WindowBlock)) → HasHanded d given done
    → (done ≡ [] → ⊥) → AreHandedFirst d.config given done
handed-first d given done h some =
    let choice = some-chosen d given done h.read h.all some in (
      settled-chosen d.config (phase_octets d.config given) d.chosen h.so_far choice,
      read-first d given done h.read h.all choice,
    )
