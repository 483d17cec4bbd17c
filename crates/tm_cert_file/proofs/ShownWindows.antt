-- What windows show that pass, one after the other, to the end of a certificate.
use Rattle.std.proofs.Common.{◌≡◌, ℕ, ◌+◌, ◌-◌, ◌<◌, ◌≤◌, ◌∙◌, inl, inr, sym, ap, subst, refl, arith, Bool, true, false, eqb, IsTrue, List, [], ◌∷◌, ◌++◌, map, Option, Some, length, length-append, length-drop, length-take-le, take, drop, take_all, take_at, drop_at, take-append-drop, append_assoc}
use Rattle.std.proofs.lemmas.Bool.{cases_lt, both_ways, and_parts}
use Rattle.std.proofs.Math.Path.{transport}
use Rattle.std.proofs.lemmas.Bool.Decides.{Decides-eqb, nat_tests}
use Rattle.std.proofs.lemmas.Slice.Eq.{starts_is}
use Rattle.std.specs.List.{starts_with}
use Rattle.tm_conv.specs.declared.rates.Rate.{Rate}
use Rattle.tm_conv.specs.Path.{AreBits, steps_size, path, register_after}
use Rattle.tm_conv.specs.Cost.{cost}
use Rattle.tm_conv.specs.Best.{IsCandidate}
use Rattle.tm_conv.proofs.Sizes.{steps_size-add, steps_size-le}
use Rattle.tm_conv.proofs.Paths.{length-path, steps_size-zero}
use Rattle.tm_path_cert.specs.declared.verdicts.Starts.{Starts}
use Rattle.tm_path_cert.specs.declared.verdicts.Starts.TheVariants.{One}
use Rattle.tm_path_cert.specs.declared.verdicts.Verdict.TheVariants.{Yes}
use Rattle.tm_path_cert.specs.Claim.{Claim, is_start, path_cost}
use Rattle.tm_path_cert.specs.Tests.{Pass}
use Rattle.tm_viterbi.specs.WindowBlock.{WindowBlock}
use Rattle.tm_viterbi.specs.Blocks.{AreSteps, AreBlocks, window_steps, kept_steps}
use Rattle.tm_cert_file.specs.declared.seen.Next.{Next}
use Rattle.tm_cert_file.specs.declared.seen.Seen.TheVariants.{Passed}
use Rattle.tm_cert_file.specs.Window.{Window, window_in, window_size, bits_end, soft_end, steps_in, start_in, bits_in, soft_in}
use Rattle.tm_cert_file.specs.Before.{Rules, Before, after_window, next_after}
use Rattle.tm_cert_file.specs.Seen.{IsSeen, IsVerdictOn, claim_of, is_due, is_over}
use Rattle.tm_cert_file.specs.File.{ArePassed, is_cut, all_kept}
use Rattle.tm_cert_file.specs.Shown.{IsShown, AreShown}
use Rattle.tm_cert_file.proofs.BigEndian.{length-columns_in}
use Rattle.tm_cert_file.proofs.Stages.{joined_of, Holds-from_none}
use Rattle.tm_cert_file.proofs.Looking.{Shaped, Shaped-from_shape, are_bits-decides}

-- columns that pass are a bound on each candidate
abbrev pub BoundsEach : Type 0
BoundsEach =
    (claim : Claim) (columns : List (List ℕ)) (metric : ℕ) (steps initial : ℕ) (others : List ℕ)
    → Pass claim columns metric
    → length claim.soft ≡ steps_size claim.rate claim.first steps → length columns ≡ steps + 1
    → IsCandidate (is_start claim.starts) claim.rate claim.invert claim.first claim.soft initial others
    → metric ≤ path_cost claim initial others

-- ---- one window that passes

record IsRight (rules : Rules) (before : Before) (w : Window) : Type 0 where
  shaped : Shaped rules before.next w.steps w.kept w.start
  not_over : is_over before.next ≡ false
  bits : AreBits w.bits
  count : length w.bits ≡ w.steps
  from : IsTrue (is_start before.starts w.start)
  joins : w.octets ≡ before.octets ++ drop (length before.octets) w.octets
  size : length w.octets ≡ steps_size rules.rate before.t w.steps
  columns : length w.columns ≡ w.steps + 1
  verdict : IsVerdictOn rules before w Yes

right_window : (rules : Rules) (before : Before) (octets : List ℕ) → IsSeen rules before octets Passed
    → IsRight rules before (window_in rules.rate before.t octets)
unfolding joined_of
right_window rules before octets seen =
    let steps = steps_in octets in
    let soft = soft_in rules.rate before.t octets in
    let whole = seen.whole in
    let holds = Holds-from_none rules before octets seen.right in
    let joined = and_parts (is_start before.starts (start_in octets)) (starts_with eqb soft before.octets)
    (holds.joined (omega arith)) in
    record {
      shaped = Shaped-from_shape rules before octets (holds.shape (omega arith));
      not_over = holds.due (omega arith);
      bits = (are_bits-decides (bits_in octets)).0 (holds.bits (omega arith));
      count = length-take-le steps (drop 17 octets) (omega (arith, length-drop 17 octets));
      from = joined.0;
      joins = (starts_is Decides-eqb soft before.octets true (sym joined.1)).0 refl;
      size =
          length-take-le (steps_size rules.rate before.t steps) (drop (bits_end steps) octets)
          (omega (arith, length-drop (bits_end steps) octets));
      columns = length-columns_in (steps + 1) (drop (soft_end rules.rate before.t steps) octets);
      verdict = seen.is_verdict;
    }

window_shown : BoundsEach → (rules : Rules) (from : Before) (w : Window) (remaining : ℕ) (octets : List ℕ)
    → IsRight rules from w
    → w.steps ≡ window_steps rules.keep rules.ahead remaining → w.kept ≡ kept_steps rules.keep rules.ahead remaining
    → take (steps_size rules.rate from.t w.steps) octets ≡ w.octets
    → IsShown rules from.starts from.t remaining octets w
window_shown bounds rules from w remaining octets right steps kept same = record {
  steps = steps;
  kept = kept;
  candidate =
      subst (λ (v : List ℕ). IsCandidate (is_start from.starts) rules.rate rules.invert from.t v w.start w.bits)
      (sym same) (record {
        start = right.from;
        register = right.shaped.register;
        each = right.bits;
        covers =
            length-path rules.rate rules.invert from.t w.start w.bits ∙ ap (steps_size rules.rate from.t) right.count
            ∙ sym right.size;
      });
  metric = sym right.verdict.1 ∙ ap (cost (path rules.rate rules.invert from.t w.start w.bits)) (sym same);
  least = λ other others candidate.
      subst (λ (v : List ℕ). w.metric ≤ cost (path rules.rate rules.invert from.t other others) v) (sym same)
      (bounds (claim_of rules from w.octets) w.columns w.metric w.steps other others right.verdict.0 right.size
      right.columns
      (subst (λ (v : List ℕ). IsCandidate (is_start from.starts) rules.rate rules.invert from.t v other others) same
      candidate));
}

-- ---- what follows it

-- how many steps windows keep
abbrev pub steps_kept : List Window → ℕ
steps_kept [] = 0
steps_kept (w ∷ windows) = w.kept + steps_kept windows

-- what windows show that pass to the end, and what the window before them needs
pub record ShowAll (rules : Rules) (from : Before) (windows : List Window) : Type 0 where
  pub size : length (all_kept rules.rate from.t windows) ≡ steps_size rules.rate from.t (steps_kept windows)
  pub shown : AreShown rules from.starts from.t (steps_kept windows) (all_kept rules.rate from.t windows) windows
  pub none : is_over from.next ≡ true → steps_kept windows ≡ 0
  pub enough : is_due from.next ≡ true → rules.ahead < steps_kept windows
  pub begins : is_due from.next ≡ true → (rest : List ℕ) × (all_kept rules.rate from.t windows ≡ from.octets ++ rest)

-- a window is the one that is due where as many steps remain as it and those after it keep
record IsNext (rules : Rules) (n k remaining : ℕ) : Type 0 where
  steps : n ≡ window_steps rules.keep rules.ahead remaining
  kept : k ≡ kept_steps rules.keep rules.ahead remaining
  some : 0 < remaining
  enough : rules.ahead < n → rules.ahead < remaining

is_next : (rules : Rules) (next : Next) (steps kept start later : ℕ) → Shaped rules next steps kept start
    → (is_over (next_after rules steps kept) ≡ true → later ≡ 0)
    → (is_due (next_after rules steps kept) ≡ true → rules.ahead < later) → IsNext rules steps kept (kept + later)
is_next rules next steps kept start later shaped none enough = grind (arith, nat_tests)

must_follow : (rules : Rules) (steps kept : ℕ) → kept < steps → is_due (next_after rules steps kept) ≡ true
must_follow rules steps kept less = grind (arith, nat_tests)

-- its octets come first among those that are kept
first_octets : (rules : Rules) (from : Before) (w : Window) (windows : List Window) → IsRight rules from w
    → ShowAll rules (after_window rules from w) windows
    → (rest : List ℕ) × (all_kept rules.rate from.t (w ∷ windows) ≡ w.octets ++ rest)
first_octets rules from w windows right more =
    let size = steps_size rules.rate from.t w.kept in
    elim (cases_lt w.kept w.steps) [
      | inl less ↦
          let begins = more.begins (must_follow rules w.steps w.kept less) in (
            begins.0,
            ap (λ v. take size w.octets ++ v) begins.1
                ∙ sym (append_assoc (take size w.octets) (drop size w.octets) begins.0)
                ∙ ap (λ v. v ++ begins.0) (take-append-drop size w.octets),
          )
      | inr all ↦ (
        _,
        ap (λ v. v ++ all_kept rules.rate (from.t + w.kept) windows) (take_all size w.octets
            (omega (arith, right.size, steps_size-le rules.rate from.t w.steps w.kept all))),
      )
    ]

show_next : BoundsEach → (rules : Rules) (from : Before) (w : Window) (windows : List Window) → IsRight rules from w
    → ShowAll rules (after_window rules from w) windows
    → ShowAll rules from (w ∷ windows)
show_next bounds rules from w windows right more =
    let rate = rules.rate in
    let t : ℕ = from.t in
    let count : ℕ = steps_kept windows in
    let size : ℕ = steps_size rate t w.kept in
    let later : List ℕ = all_kept rate (t + w.kept) windows in
    let left : count ≡ w.kept + count - w.kept = omega arith in
    let first = first_octets rules from w windows right more in
    let due = is_next rules from.next w.steps w.kept w.start count right.shaped more.none more.enough in
    let within : size ≤ length w.octets =
    omega (arith, right.size, steps_size-le rate t w.kept w.steps right.shaped.kept_within) in
    let fits = length-take-le size w.octets within in
    let rest : later ≡ drop size (take size w.octets ++ later) = sym (drop_at (take size w.octets) later size fits) in
    record {
      size =
          length-append (take size w.octets) later
          ∙ omega (arith, fits, more.size, steps_size-add rate t w.kept count);
      shown = (
        due.some,
        window_shown bounds rules from w (w.kept + count) (all_kept rate t (w ∷ windows)) right due.steps due.kept
            (ap (take (steps_size rate t w.steps)) first.1
            ∙ take_at w.octets first.0 (steps_size rate t w.steps) right.size),
        transport (λ i. AreShown rules (One (register_after w.start (take w.kept w.bits))) (t + w.kept) (left i)
            (rest i) windows) more.shown,
      );
      none = λ over. absurd (both_ways (is_over from.next) right.not_over over);
      enough = λ is. due.enough (right.shaped.enough is);
      begins = λ is. (
        drop (length from.octets) w.octets ++ first.0,
        first.1 ∙ ap (λ (v : List ℕ). v ++ first.0) right.joins
            ∙ append_assoc from.octets (drop (length from.octets) w.octets) first.0,
      );
    }

pub show_all : BoundsEach → (rules : Rules) (from to : Before) (octets rest : List ℕ) (windows : List Window)
    → is_due to.next ≡ false
    → ArePassed rules from octets windows to rest → ShowAll rules from windows
show_all bounds rules from to octets rest [] ended passed =
    let none_due : is_due from.next ≡ false = ap (λ (b : Before). is_due b.next) (sym passed.0) ∙ ended in
    record {
      size = sym (steps_size-zero rules.rate from.t);
      shown = refl;
      none = λ over. refl;
      enough = λ due. absurd (both_ways (is_due from.next) none_due due);
      begins = λ due. absurd (both_ways (is_due from.next) none_due due);
    }
show_all bounds rules from to octets rest (w ∷ windows) ended passed =
    show_next bounds rules from w windows (subst (IsRight rules from) (sym passed.1)
    (right_window rules from octets passed.0))
    (show_all bounds rules (after_window rules from w) to (drop (window_size rules.rate from.t w.steps) octets) rest
    windows ended passed.2)

pub none_due : (next : Next) (rest : List ℕ) → is_cut next rest ≡ false → is_due next ≡ false
none_due next [] whole = whole
none_due next (octet ∷ rest) whole = absurd cc

-- ---- the steps of blocks

pub one_count : (rate : Rate) (t n m : ℕ) (octets : List ℕ) → AreSteps rate t octets n → AreSteps rate t octets m → n ≡ m
one_count rate t n m octets these those =
    grind (arith, nat_tests, steps_size-le rate t (n + 1) m, steps_size-le rate t (m + 1) n)

abbrev pub SameSteps : List Window → List WindowBlock → Type 0
SameSteps windows blocks =
    (map (λ (w : Window). w.steps) windows ≡ map (λ (block : WindowBlock). block.steps) blocks)
    × (map (λ (w : Window). w.kept) windows ≡ map (λ (block : WindowBlock). block.kept) blocks)

pub same_from : (rules : Rules) (starts : Starts) (invert : Bool) (from : Option ℕ) (t n : ℕ) (octets : List ℕ)
    (windows : List Window) (blocks : List WindowBlock) → AreShown rules starts t n octets windows
    → AreBlocks rules.rate invert rules.keep rules.ahead from t n octets blocks → SameSteps windows blocks
same_from rules starts invert from t n octets [] [] shown are = (refl, refl)
same_from rules starts invert from t n octets [] (b ∷ blocks) shown are = absurd (omega (arith, shown, are.0))
same_from rules starts invert from t n octets (w ∷ windows) [] shown are = absurd (omega (arith, shown.0, are))
same_from rules starts invert from t n octets (w ∷ windows) (b ∷ blocks) shown are =
    let steps : w.steps ≡ b.steps = shown.1.steps ∙ sym are.1.steps in
    let kept : w.kept ≡ b.kept = shown.1.kept ∙ sym are.1.kept in
    let rest = same_from rules (One (register_after w.start (take w.kept w.bits))) invert (Some b.end_state) (t + w.kept) (n - w.kept)
    (drop (steps_size rules.rate t w.kept) octets) windows blocks shown.2
    (subst (λ k. AreBlocks rules.rate invert rules.keep rules.ahead (Some b.end_state) (t + k) (n - k)
    (drop (steps_size rules.rate t k) octets) blocks) (sym kept) are.2) in
    ((λ i. steps i ∷ rest.0 i), (λ i. kept i ∷ rest.1 i))
