-- What `check` shows of a certificate that passes, and that what `certify` writes passes, from the
-- laws of certificates.
use Rattle.std.proofs.Common.{◌≡◌, ℕ, ◌+◌, ◌-◌, ◌<◌, ◌≤◌, ◌==◌, Bool, true, false, List, [], ◌∷◌, ◌++◌, length, take, drop, map, Option, Some, None, refl, sym, ap, ◌∙◌, subst, arith}
use Rattle.std.proofs.lemmas.Bool.Decides.{nat_tests}
use Rattle.std.proofs.lemmas.List.{length-map, take_all}
use Rattle.std.proofs.lemmas.List.Elements.{All-drop, All-map, All-weaker}
use Rattle.tm_base.specs.Bits.{AreOctets}
use Rattle.tm_base.specs.Handed.{Item, items_of}
use Rattle.tm_base.specs.Written.{Wrote}
use Rattle.tm_base.proofs.HandedItems.{items_of-items}
use Rattle.tm_config.specs.Configuration.{Configuration, unfollowed}
use Rattle.tm_config.specs.Accepted.{IsAccepted}
use Rattle.tm_conv.specs.declared.rates.Rate.{Rate}
use Rattle.tm_conv.specs.Path.{steps_size}
use Rattle.tm_viterbi.specs.Settings.{Settings}
use Rattle.tm_viterbi.specs.Starts.{first_start}
use Rattle.tm_viterbi.specs.WindowBlock.{WindowBlock}
use Rattle.tm_viterbi.specs.Blocks.{AreBlocks, AreBlocksOf}
use Rattle.tm_viterbi.specs.Clean.{kept_bits}
use Rattle.tm_inner.specs.Inner.{BlocksAt, bits_at, inner_bits, settings_of, soft_octets, soft_value}
use Rattle.tm_inner.specs.Phase.{skip_of}
use Rattle.tm_inner.proofs.ReceivedBits.{kept-count, kept-le}
use Rattle.tm_inner.proofs.Unfollowed.{blocks-unfollowed}
use Rattle.tm_cert_file.specs.declared.seen.Reason.{Reason}
use Rattle.tm_cert_file.specs.declared.seen.Seen.{Seen}
use Rattle.tm_cert_file.specs.declared.seen.Seen.TheVariants.{More, Passed, Failed}
use Rattle.tm_cert_file.specs.Window.{Window}
use Rattle.tm_cert_file.specs.Before.{Rules}
use Rattle.tm_cert_file.specs.Certificate.{IsCertificate}
use Rattle.tm_cert_file.specs.File.{IsRead, IsBroken, IsCut, IsWhole, all_kept, is_cut}
use Rattle.tm_cert_file.specs.Passes.{rules_by, starts_by, block_of}
use Rattle.tm_cert_file.specs.Shown.{AreAllShown}
use Rattle.tm_driver.specs.Meaning.{Ends, taken_by}
use Rattle.tm_driver.specs.Statuses.{status_of}
use Rattle.tm_driver.specs.declared.ending.Ending.{Ending}
use Rattle.tm_driver.specs.declared.ending.Ending.TheVariants.{Done, Bad, BadWindow, LeftOver, SourceFault, SinkFault, PastLimit}
use Rattle.tm_path_commands.specs.Certify.{TextAt, IsCertifiedAll}
use Rattle.tm_path_commands.specs.Check.{ReadAt, IsChecked, check_meaning, rules_of, windows_text, bits_kept, end_text}
use Rattle.tm_path_commands.specs.declared.tally.Tally.{Tally}
use Rattle.tm_path_commands.specs.Lines.{no_blocks, tally_after, window_text, trace_end_text}
use Rattle.tm_path_commands.specs.Shown.{ShowsLeast, HasSamePaths, PassesCertified}
use Rattle.tm_path_commands.specs.Trace.{blocks_text, trace_text}

-- octets are read in one way
abbrev OneRead : Type 0
OneRead = (rules : Rules) (octets : List ℕ) (windows others : List Window) (seen other : Seen)
    (read : IsRead rules octets windows seen) (again : IsRead rules octets others other)
    → (windows ≡ others) × (seen ≡ other) × (read.before ≡ again.before) × (read.rest ≡ again.rest)

-- the windows of a whole certificate are shown
abbrev AllShown : Type 0
AllShown =
    (rules : Rules) (octets : List ℕ) (windows : List Window) → IsWhole rules octets windows
    → AreAllShown rules (all_kept rules.rate 0 windows) windows

-- the certificate of all blocks is whole
abbrev Passing : Type 0
Passing = (s : Settings) (octets : List ℕ) (blocks : List WindowBlock) (left : ℕ) (text : List ℕ)
    → 0 < s.keep → s.keep + s.ahead ≤ 69632 → AreOctets octets → AreBlocksOf s octets blocks left
    → IsCertificate s octets blocks text
    → (windows : List Window) × IsWhole (rules_by s) text windows × (map block_of windows ≡ blocks)
    × (all_kept s.rate 0 windows ≡ take (length octets - left) octets)

-- ---- what is shown

not-true : (b : Bool) → (b ≡ true → ⊥) → b ≡ false
not-true true never = absurd (never refl)
not-true false never = refl

-- where no window fails and the certificate is not cut, it is whole
whole-of : (rules : Rules) (octets : List ℕ) (windows : List Window) (seen : Seen) → IsRead rules octets windows seen
    → ((windows : List Window) × IsCut rules octets windows → ⊥)
    → ((windows : List Window) × (reason : Reason) × IsBroken rules octets windows reason → ⊥)
    → IsWhole rules octets windows
whole-of rules octets windows More read cut broken =
    (read, not-true (is_cut read.before.next read.rest) (λ is. cut (windows, (read, is))))
whole-of rules octets windows Passed read cut broken = absurd (read.stops refl)
whole-of rules octets windows (Failed reason) read cut broken = absurd (broken (windows, reason, read))

shown-at : AllShown → (rate : Option Rate) (c : Configuration) (octets out notes : List ℕ)
    (taken taken_now : Option (List ℕ))
    → ReadAt (λ rules. IsChecked rules octets out notes) rate c → Wrote taken taken_now out
    → (ReadAt (λ rules. (windows : List Window) × IsCut rules octets windows) rate c → ⊥)
    → (ReadAt (λ rules. (windows : List Window) × (reason : Reason) × IsBroken rules octets windows reason) rate c → ⊥)
    → ReadAt (λ rules. (windows : List Window) × IsWhole rules octets windows
    × Wrote taken taken_now (all_kept rules.rate 0 windows)
    × AreAllShown rules (all_kept rules.rate 0 windows) windows) rate c
shown-at shown None c octets out notes taken taken_now checked wrote cut broken = absurd checked
shown-at shown (Some rate) c octets out notes taken taken_now checked wrote cut broken =
    let rules = rules_of c rate in
    let whole = whole-of rules octets checked.windows checked.seen checked.read cut broken in (
      checked.windows,
      whole,
      subst (Wrote taken taken_now) checked.is_out wrote,
      shown rules octets checked.windows whole,
    )

pub shows-least : AllShown → (e : Ending) (status : ℕ) (c : Configuration) (octets : List ℕ)
    (taken taken_now noted noted_now : Option (List ℕ))
    → status ≡ status_of e → Ends e (check_meaning c) c.limit octets (taken_by taken taken_now noted noted_now)
    → status ≡ 0 → ShowsLeast c octets taken taken_now
shows-least shown Done status c octets taken taken_now noted noted_now said ends none =
    let o = ends.0.0 in
    shown-at shown c.inner c octets o.out o.notes taken taken_now ends.0.1 ends.0.2.out ends.2 ends.3
shows-least shown Bad status c octets taken taken_now noted noted_now said ends none =
    absurd (omega (arith, said, none))
shows-least shown BadWindow status c octets taken taken_now noted noted_now said ends none =
    absurd (omega (arith, said, none))
shows-least shown LeftOver status c octets taken taken_now noted noted_now said ends none =
    absurd (omega (arith, said, none))
shows-least shown SourceFault status c octets taken taken_now noted noted_now said ends none =
    absurd (omega (arith, said, none))
shows-least shown SinkFault status c octets taken taken_now noted noted_now said ends none =
    absurd (omega (arith, said, none))
shows-least shown PastLimit status c octets taken taken_now noted noted_now said ends none =
    absurd (omega (arith, said, none))

-- ---- what `certify` writes is whole

-- what is read, is read by the rate of an inner code
by-rate : (P : Rules → Type 0) (rate : Option Rate) (c : Configuration) → ReadAt P rate c → (r : Rate)
    × (rate ≡ Some r) × P (rules_of c r)
by-rate P None c read = absurd read
by-rate P (Some r) c read = (r, refl, read)

-- the same paths are candidates by the same rules
same-rules : (c d : Configuration) (rate : Rate) → c.inner ≡ Some rate → HasSamePaths c d
    → rules_by (settings_of d rate) ≡ rules_of c rate
same-rules c d rate is same =
    λ i. record {
      rate = rate;
      invert = sym (same.inverted rate is) i;
      starts = starts_by (sym same.start i);
      keep = sym same.keep i;
      ahead = sym same.ahead i;
    }

soft-octet : (c : Configuration) (octet : ℕ) → octet < 256 → soft_value c octet < 256
soft-octet c octet small = grind (arith, nat_tests)

soft-small : (c : Configuration) (phase : ℕ) (octets : List ℕ) → AreOctets octets
    → AreOctets (soft_octets c phase octets)
soft-small c phase octets small =
    let after = drop phase (drop c.skip octets) in
    All-map (λ v. v < 256) (soft_value c) after
    (All-weaker (λ v. v < 256) (λ v. soft_value c v < 256) (soft-octet c) after
    (All-drop (λ v. v < 256) phase (drop c.skip octets) (All-drop (λ v. v < 256) c.skip octets small)))

-- a certificate is whole; its windows are of these blocks, and keep as many bits as are received
record Certifies (c d : Configuration) (given octets : List ℕ) (blocks : List WindowBlock) (rate : Rate) : Type 0 where
  windows : List Window
  whole : IsWhole (rules_of c rate) octets windows
  same : map block_of windows ≡ blocks
  bits : length (inner_bits d given blocks) ≡ bits_kept windows

-- windows keep all steps
all-bits : (rate : Rate) (invert : Bool) (keep ahead : ℕ) (starts : Option ℕ) (t n : ℕ) (octets : List ℕ)
    (windows : List Window)
    → AreBlocks rate invert keep ahead starts t n octets (map block_of windows) → bits_kept windows ≡ n
all-bits rate invert keep ahead starts t n octets [] are = sym are
all-bits rate invert keep ahead starts t n octets (w ∷ windows) are =
    let b = block_of w in
    let rest = all-bits rate invert keep ahead (Some b.end_state) (t + w.kept) (n - w.kept)
    (drop (steps_size rate t w.kept) octets) windows are.2 in
    omega (arith, are.1.kept, kept-le keep ahead n, rest)

certifies : Passing → (c d : Configuration) (given octets : List ℕ) (rate : Rate) → c.inner ≡ Some rate → IsAccepted c
    → HasSamePaths c d → d.follow ≡ false → AreOctets given
    → (all : IsCertifiedAll d given octets) → Certifies c d given octets all.are_handed.items rate
certifies passing c d given octets rate is accepted same plain small all =
    let s = settings_of d rate in
    let phase = skip_of all.are_handed.chosen in
    let soft = soft_octets d phase given in
    let blocks = all.are_handed.items in
    let here : d.inner ≡ Some rate = sym same.inner ∙ is in
    let are : AreBlocksOf s soft blocks all.left =
    blocks-unfollowed d rate soft blocks all.left plain (subst
    (λ (r : Option Rate). BlocksAt r d phase given blocks all.left) here all.are_handed.are_items) in
    let text : IsCertificate s soft blocks octets = subst (λ (r : Option Rate). TextAt r d phase given blocks octets)
    here all.is_text in
    let passed = passing s soft blocks all.left octets (omega (arith, accepted.some_keep, same.keep))
    (omega (arith, accepted.keep, accepted.ahead, same.keep, same.ahead))
    (soft-small d phase given small) are text in
    let kept = kept-count rate s.invert s.keep s.ahead (first_start s.start) 0 are.count soft blocks are.steps.whole
    are.are in
    let counted = all-bits rate s.invert s.keep s.ahead (first_start s.start) 0 are.count soft passed.0
    (subst (AreBlocks rate s.invert s.keep s.ahead (first_start s.start) 0 are.count soft) (sym passed.2) are.are) in
    let long : length (inner_bits d given blocks) ≡ length (kept_bits blocks) =
    subst (λ (r : Option Rate). length (bits_at r d given blocks) ≡ length (kept_bits blocks)) (sym here)
    (length-map (kept_bits blocks) (λ bit. bit == 1)) in
    record {
      windows = passed.0;
      whole = subst (λ (rules : Rules). IsWhole rules octets passed.0) (same-rules c d rate is same) passed.1;
      same = passed.2;
      bits = long ∙ kept ∙ sym counted;
    }

-- ---- and what `check` writes of it

same-lines : (was : Tally) (windows : List Window) → windows_text was.blocks windows
    ≡ blocks_text was (map Item (map block_of windows))
same-lines was [] = refl
same-lines was (w ∷ windows) =
    ap (λ l. window_text was.blocks w.steps w.kept w.metric ++ l) (same-lines (tally_after was (block_of w)) windows)

same-trace : (c d : Configuration) (given octets : List ℕ) (blocks : List WindowBlock) (rate : Rate)
    (k : Certifies c d given octets blocks rate)
    → windows_text 0 k.windows ++ trace_end_text (length k.windows) (bits_kept k.windows) 0
    ≡ trace_text (map Item blocks) (length (inner_bits d given blocks)) 0
same-trace c d given octets blocks rate k =
    let lines : windows_text 0 k.windows ≡ blocks_text no_blocks (map Item blocks) =
    same-lines no_blocks k.windows ∙ ap (λ (l : List WindowBlock). blocks_text no_blocks (map Item l)) k.same in
    let count : length k.windows ≡ length (items_of (map Item blocks)) = sym (length-map k.windows block_of)
    ∙ ap length k.same ∙ ap length (sym (items_of-items blocks)) in
    λ i. lines i ++ trace_end_text (count i) (sym k.bits i) 0

-- what is read of a whole certificate
read-whole : OneRead → (rules : Rules) (octets : List ℕ) (windows others : List Window) (seen : Seen)
    (read : IsRead rules octets windows seen) → IsWhole rules octets others
    → (windows ≡ others) × (seen ≡ More) × (is_cut read.before.next read.rest ≡ false)
read-whole one rules octets windows others seen read whole =
    let h = one rules octets windows others seen More read whole.0 in
    (h.0, h.1, (λ i. is_cut (h.2 i).next (h.3 i)) ∙ whole.1)

notes-whole : OneRead → (rules : Rules) (octets out notes : List ℕ) (windows : List Window)
    → IsChecked rules octets out notes → IsWhole rules octets windows
    → notes ≡ windows_text 0 windows ++ trace_end_text (length windows) (bits_kept windows) 0
notes-whole one rules octets out notes windows checked whole =
    let h = read-whole one rules octets checked.windows windows checked.seen checked.read whole in
    checked.are_notes ∙ (λ i. windows_text 0 (h.0 i) ++ end_text (h.1 i) (h.2 i) (h.0 i))

not-broken : OneRead → Passing → (c d : Configuration) (given octets : List ℕ) → IsAccepted c → HasSamePaths c d
    → d.follow ≡ false → AreOctets given → IsCertifiedAll d given octets → (check_meaning c).is_bad octets → ⊥
not-broken one passing c d given octets accepted same plain small all bad =
    let r = by-rate (λ rules. (windows : List Window) × (reason : Reason) × IsBroken rules octets windows reason)
    c.inner c bad in
    let k = certifies passing c d given octets r.0 r.1 accepted same plain small all in
    let failed : Failed r.2.1 ≡ More = (read-whole one (rules_of c r.0) octets r.2.0 k.windows
    (Failed r.2.1) r.2.2 k.whole).1 in
    cc failed

not-cut : OneRead → Passing → (c d : Configuration) (given octets : List ℕ) → IsAccepted c → HasSamePaths c d
    → d.follow ≡ false → AreOctets given → IsCertifiedAll d given octets → (check_meaning c).is_partial octets → ⊥
not-cut one passing c d given octets accepted same plain small all partial =
    let r = by-rate (λ rules. (windows : List Window) × IsCut rules octets windows) c.inner c partial in
    let k = certifies passing c d given octets r.0 r.1 accepted same plain small all in
    let no : true ≡ false = sym r.2.1.1 ∙ (read-whole one (rules_of c r.0) octets r.2.0 k.windows More r.2.1.0
    k.whole).2 in
    cc no

-- the same paths are candidates where the phase is found once
same-unfollowed : (c d : Configuration) → HasSamePaths c d → HasSamePaths c (unfollowed d)
same-unfollowed c d same =
    record { inner = same.inner; inverted = same.inverted; start = same.start; keep = same.keep; ahead = same.ahead }

pub passes-certified : OneRead → Passing → (e : Ending) (status : ℕ) (c : Configuration) (octets : List ℕ)
    (taken taken_now noted noted_now : Option (List ℕ))
    → IsAccepted c → status ≡ status_of e → Ends e (check_meaning c) c.limit octets
    (taken_by taken taken_now noted noted_now) → PassesCertified status c octets noted noted_now
passes-certified one passing Done status c octets taken taken_now noted noted_now accepted said ends =
    λ d given same small all within source sink.
    let o = ends.0.0 in
    let r = by-rate (λ rules. IsChecked rules octets o.out o.notes) c.inner c ends.0.1 in
    let k = certifies passing c (unfollowed d) given octets r.0 r.1 accepted
    (same-unfollowed c d same) refl small all in
    let text = notes-whole one (rules_of c r.0) octets o.out o.notes k.windows r.2 k.whole
    ∙ same-trace c (unfollowed d) given octets all.are_handed.items r.0 k in
    (said, subst (Wrote noted noted_now) text ends.0.2.notes)
passes-certified one passing Bad status c octets taken taken_now noted noted_now accepted said ends =
    λ d given same small all within source sink.
    absurd (not-broken one passing c (unfollowed d) given octets accepted
    (same-unfollowed c d same) refl small all ends.2)
passes-certified one passing BadWindow status c octets taken taken_now noted noted_now accepted said ends =
    λ d given same small all within source sink.
    absurd (not-broken one passing c (unfollowed d) given octets accepted (same-unfollowed c d same) refl small all
    (subst (check_meaning c).is_bad (take_all c.limit octets within) ends.2))
passes-certified one passing LeftOver status c octets taken taken_now noted noted_now accepted said ends =
    λ d given same small all within source sink.
    absurd (not-cut one passing c (unfollowed d) given octets accepted (same-unfollowed c d same) refl small all ends.2)
passes-certified one passing SourceFault status c octets taken taken_now noted noted_now accepted said ends =
    λ d given same small all within source sink. absurd (source said)
passes-certified one passing SinkFault status c octets taken taken_now noted noted_now accepted said ends =
    λ d given same small all within source sink. absurd (sink said)
passes-certified one passing PastLimit status c octets taken taken_now noted noted_now accepted said ends =
    λ d given same small all within source sink.
    absurd (omega (arith, within, ends.1))
