-- The best path from one register, whatever path metrics stand before it.
use Rattle.std.proofs.Common.{◌≡◌, [], ℕ, ◌+◌, ◌-◌, ◌++◌, ◌*◌, ◌^◌, ◌<◌, ◌≤◌, ◌∙◌, sym, ap, subst, arith, length, length-drop, take, drop, List, Bool, get_or, slice_index, IsTrue, Option, Some}
use Rattle.std.specs.List.{All}
use Rattle.std.proofs.lemmas.List.{append-nil, length-reverse, length-take-le, reverse-reverse, take-take}
use Rattle.std.proofs.lemmas.Slice.{take-put_mid}
use borrow.Rule.Slice.PartMut.{put_mid}
use Rattle.std.proofs.Math.Seq.{take-add}
use Rattle.std.proofs.lemmas.Bool.Decides.{nat_tests}
use mathlib.Core.List.{reverse}
use Rattle.tm_conv.specs.declared.rates.Rate.{Rate}
use Rattle.tm_conv.proofs.Sizes.{same_from_steps_size, steps_size-add}
use Rattle.tm_conv.proofs.Paths.{length-path, steps_size-zero}
use Rattle.tm_conv.proofs.DictionaryOrder.{All-reverse}
use Rattle.tm_conv.specs.Path.{steps_size, path}
use Rattle.tm_conv.specs.Cost.{cost}
use Rattle.tm_conv.specs.Best.{IsLexLe, register_bits, IsCandidate, IsBest}
use Rattle.tm_viterbi.specs.Carries.{Carries}
use Rattle.tm_viterbi.proofs.Carrying.{Carries-append}
use Rattle.tm_viterbi.specs.Overlap.{IsPathFrom}
use Rattle.tm_viterbi.specs.Starts.{starts_from}
use Rattle.tm_viterbi.specs.Totals.{total_of, AreFirsts, IsFirstLeast}
use Rattle.tm_viterbi.specs.Walk.{rank, IsNoWorse, IsBestTo, past_of, start_of, AreBest}
use Rattle.tm_viterbi.proofs.Final.{best_of_all, IsBest-from_columns}
use Rattle.tm_viterbi.proofs.Totals.{IsLexLe-from_rank}
use Rattle.tm_viterbi.proofs.Walk.{AreBest-none}

same_register : (q r : ℕ) → IsTrue (starts_from (Some r) q) → q ≡ r
same_register q r is = grind (arith, nat_tests)

is_itself : (r : ℕ) → IsTrue (starts_from (Some r) r)
is_itself r = grind (arith, nat_tests)

pub IsBest-from_any : (rate : Rate) (invert : Bool) (t n s : ℕ) (firsts octets sums survivors : List ℕ)
    → length octets ≡ steps_size rate t n
    → AreBest (total_of rate invert t firsts octets) n sums survivors → IsFirstLeast sums s
    → IsBest (starts_from (Some (start_of survivors s))) rate invert t octets (start_of survivors s)
    (reverse (past_of survivors s))
IsBest-from_any rate invert t n s firsts octets sums survivors long best least =
    let total = total_of rate invert t firsts octets in
    let r = start_of survivors s in
    let past = past_of survivors s in
    let bits = reverse past in
    let here : IsBestTo total n s (get_or sums s 0) r past = best s least.register in
    let each : All (λ b. b < 2) past = here.is_path.each in
    let rl : r < 64 = here.is_path.start in
    let over = best_of_all total n s sums survivors best least in
    let sum_is : get_or firsts r 0 + cost (path rate invert t r bits) octets ≡ get_or sums s 0 = here.is_sum in
    let size : (q : ℕ) (ks : List ℕ) → length (path rate invert t q ks) ≡ length octets → length ks ≡ n = λ q ks e.
    same_from_steps_size rate t (length ks) n (sym (length-path rate invert t q ks) ∙ e ∙ long) in
    let other_is : (q : ℕ) (ks : List ℕ) → IsCandidate (starts_from (Some r)) rate invert t octets q ks
    → IsNoWorse (cost (path rate invert t r bits) octets) (rank r past) (cost (path rate invert t q ks) octets)
    (rank q (reverse ks))
    = λ q ks c.
    (let o = reverse ks in
    let h : IsNoWorse (get_or sums s 0) (rank r past) (total q o) (rank q o) =
    over q o c.register (All-reverse ks c.each) (length-reverse ks ∙ size q ks c.covers) in
    let e : q ≡ r = same_register q r c.start in
    let same : total q o ≡ get_or firsts r 0 + cost (path rate invert t q ks) octets
    =
    ap (λ v. get_or firsts q 0 + cost (path rate invert t q v) octets) (reverse-reverse ks)
    ∙ ap (λ (v : ℕ). get_or firsts v 0 + cost (path rate invert t q ks) octets) e in
    record { least = omega (arith, h.least, same, sum_is); first = λ le. h.first (omega (arith, le, same, sum_is)) })
    in record {
      candidate = record {
        start = is_itself r;
        register = rl;
        each = All-reverse past each;
        covers =
            length-path rate invert t r bits ∙ ap (steps_size rate t) (length-reverse past ∙ here.is_path.long)
            ∙ sym long;
      };
      least = λ q ks c. (other_is q ks c).least;
      first = λ q ks c e.
          (let k : rank r past ≤ rank q (reverse ks) = (other_is q ks c).first (omega (arith, e)) in
          let lex : IsLexLe (past ++ register_bits r) (reverse ks ++ register_bits q)
          =
          IsLexLe-from_rank r q past (reverse ks) rl c.register each (All-reverse ks c.each)
          (here.is_path.long ∙ sym (length-reverse ks ∙ size q ks c.covers)) k in
          let P : List ℕ → Type 0 = λ v. IsLexLe (v ++ register_bits r) (reverse ks ++ register_bits q) in
          subst P (sym (reverse-reverse past)) lex);
    }

-- what the path costs is its metric
metric_is : (rate : Rate) (invert : Bool) (t n : ℕ) (before octets : List ℕ) (first : ℕ) (bits : List ℕ) (metric : ℕ)
    → IsPathFrom rate invert t n before octets first bits metric
    → metric ≡ cost (path rate invert t first bits) octets
metric_is rate invert t n before octets first bits metric f =
    let r = start_of f.survivors f.last in
    let past = past_of f.survivors f.last in
    let here = f.best f.last f.least.register in
    let is : get_or before r 0 + cost (path rate invert t r (reverse past)) octets ≡ get_or f.sums f.last 0 = here.is_sum in
    let so : get_or before first 0 + cost (path rate invert t first bits) octets ≡ get_or f.sums f.last 0 =
    ap (λ (v : ℕ). get_or before v 0 + cost (path rate invert t v bits) octets) f.start
    ∙ ap (λ (v : List ℕ). get_or before r 0 + cost (path rate invert t r v) octets) f.path ∙ is in
    omega (arith, so, f.sum)

pub path_from_any : (rate : Rate) (invert : Bool) (t n : ℕ) (before octets : List ℕ) (first : ℕ) (bits : List ℕ)
    (metric : ℕ)
    → length octets ≡ steps_size rate t n → IsPathFrom rate invert t n before octets first bits metric
    → IsBest (starts_from (Some first)) rate invert t octets first bits
    × (metric ≡ cost (path rate invert t first bits) octets)
path_from_any rate invert t n before octets first bits metric long f =
    let P : ℕ → List ℕ → Type 0 = λ v w. IsBest (starts_from (Some v)) rate invert t octets v w in (
      subst (λ (v : ℕ). P v bits) (sym f.start)
          (subst (λ (w : List ℕ). P (start_of f.survivors f.last) w) (sym f.path)
          (IsBest-from_any rate invert t n f.last before octets f.sums f.survivors long f.best f.least)),
      metric_is rate invert t n before octets first bits metric f,
    )

pub path_from_firsts : (starts : ℕ → Bool) (rate : Rate) (invert : Bool) (t n : ℕ) (before octets : List ℕ) (first : ℕ)
    (bits : List ℕ) (metric : ℕ)
    → AreFirsts starts before → (some : ℕ) → some < 64 → IsTrue (starts some)
    → length octets ≡ steps_size rate t n → All (λ y. y < 256) octets → length octets < 2 ^ 20
    → IsPathFrom rate invert t n before octets first bits metric
    → IsBest starts rate invert t octets first bits
    × (metric ≡ cost (path rate invert t first bits) octets)
path_from_firsts starts rate invert t n before octets first bits metric firsts some below is_start long bytes few f =
    let P : ℕ → List ℕ → Type 0 = λ v w. IsBest starts rate invert t octets v w in
    let found = IsBest-from_columns starts rate invert t n f.last before octets f.sums f.survivors firsts some below
    is_start long bytes few f.best f.least in (
      subst (λ (v : ℕ). P v bits) (sym f.start)
          (subst (λ (w : List ℕ). P (start_of f.survivors f.last) w) (sym f.path) found.0),
      metric_is rate invert t n before octets first bits metric f,
    )

-- ---- the steps in two parts

-- a part after those before
pub part_on : (rate : Rate) (invert : Bool) (t at r done n : ℕ) (soft sums middle next survivors piece : List ℕ)
    → at ≡ steps_size rate t done → at + r ≤ length soft → done + n ≤ length survivors → length piece ≡ n
    → Carries rate invert t (take at soft) sums middle (take done survivors)
    → Carries rate invert (t + done) (take r (drop at soft)) middle next piece
    → Carries rate invert t (take (at + r) soft) sums next (take (done + n) (put_mid done n survivors piece))
part_on rate invert t at r done n soft sums middle next survivors piece place room le len before block =
    let count : length (take done survivors) ≡ done = length-take-le done survivors (omega arith) in
    let rows : take done survivors ++ piece ≡ take (done + n) (put_mid done n survivors piece) =
    sym (take-put_mid done n survivors piece (done + n) (omega (arith, len)) (omega arith)) in
    subst (λ (w : List ℕ). Carries rate invert t (take (at + r) soft) sums next w) rows
    (subst (λ (v : List ℕ). Carries rate invert t v sums next (take done survivors ++ piece)) (sym (take-add at r soft))
    (Carries-append rate invert t (t + done) (take at soft) (take r (drop at soft)) sums middle next
    (take done survivors) piece before
    (ap (λ (v : ℕ). t + v) (sym count)) block))

-- the octets of the steps between
pub between_size : (rate : Rate) (t overlap kept first middle : ℕ) (octets : List ℕ) → overlap ≤ kept
    → first ≡ steps_size rate t overlap → middle ≡ steps_size rate t kept → middle ≤ length octets
    → length (take (middle - first) (drop first octets)) ≡ steps_size rate (t + overlap) (kept - overlap)
between_size rate t overlap kept first middle octets le f m room =
    let sum : overlap + (kept - overlap) ≡ kept = omega arith in
    let more : steps_size rate t kept ≡ steps_size rate t overlap + steps_size rate (t + overlap) (kept - overlap) =
    ap (steps_size rate t) (sym sum) ∙ steps_size-add rate t overlap (kept - overlap) in
    omega (
      arith,
      length-take-le (middle - first) (drop first octets) (omega (arith, length-drop first octets, room)),
      f,
      m,
      more,
    )

-- ---- the path that is found

pub best_of : (rate : Rate) (invert : Bool) (t : ℕ) (octets before sums survivors : List ℕ)
    → Carries rate invert t octets before sums survivors
    → AreBest (total_of rate invert t before octets) (length survivors) sums (reverse survivors)
best_of rate invert t octets before sums survivors h =
    let none : 0 + length survivors ≡ length survivors = omega arith in
    let P : ℕ → List ℕ → Type 0 = λ n rows. AreBest (total_of rate invert t before octets) n sums rows in
    subst (λ (n : ℕ). P n (reverse survivors)) none
    (subst (λ (rows : List ℕ). P (0 + length survivors) rows) (append-nil (reverse survivors))
    (h.carries t 0 before [] [] (omega arith) (sym (steps_size-zero rate t))
    (AreBest-none (total_of rate invert t before []) before (λ register below. omega arith))))

pub sum_over : (rate : Rate) (invert : Bool) (t : ℕ) (octets before sums survivors : List ℕ) (last : ℕ)
    → Carries rate invert t octets before sums survivors → last < 64
    → slice_index before (start_of (reverse survivors) last) ≤ slice_index sums last
sum_over rate invert t octets before sums survivors last h below =
    let best = best_of rate invert t octets before sums survivors h in
    let here = best last below in
    omega (arith, here.is_sum)

pub path_of : (rate : Rate) (invert : Bool) (t n : ℕ) (octets before sums survivors : List ℕ)
    (last first : ℕ) (bits : List ℕ) (metric : ℕ)
    → Carries rate invert t octets before sums survivors → n ≡ length survivors → IsFirstLeast sums last
    → first ≡ start_of (reverse survivors) last → bits ≡ reverse (past_of (reverse survivors) last)
    → metric ≡ slice_index sums last - slice_index before first
    → IsPathFrom rate invert t n before octets first bits metric
path_of rate invert t n octets before sums survivors last first bits metric h count least start path is =
    let best = best_of rate invert t octets before sums survivors h in
    let over = sum_over rate invert t octets before sums survivors last h least.register in
    let same : slice_index before first ≡ slice_index before (start_of (reverse survivors) last) =
    ap (λ (v : ℕ). slice_index before v) start in
    record {
      sums = sums;
      survivors = reverse survivors;
      last = last;
      best = subst (λ (m : ℕ). AreBest (total_of rate invert t before octets) m sums (reverse survivors)) (sym count) best;
      least = least;
      start = start;
      path = path;
      sum = omega (arith, is, same, over);
    }

-- the steps of a pass at the beginning of a window
pub overlap_on : (rate : Rate) (invert : Bool) (t overlap size n : ℕ) (held octets before after items rows : List ℕ)
    → size ≡ steps_size rate t overlap → take size octets ≡ take size held → rows ≡ items → overlap ≤ n
    → Carries rate invert t (take size held) before after (take overlap items)
    → Carries rate invert t (take (steps_size rate t overlap) octets) before after (take overlap (take n rows))
overlap_on rate invert t overlap size n held octets before after items rows is same rows_are fits h =
    let P : List ℕ → List ℕ → Type 0 = λ v w. Carries rate invert t v before after w in
    let survivors : take overlap items ≡ take overlap (take n rows) =
    ap (take overlap) (sym rows_are) ∙ sym (take-take overlap n rows fits) in
    subst (λ (m : ℕ). P (take m octets) (take overlap (take n rows))) is
    (subst (λ (v : List ℕ). P v (take overlap (take n rows))) (sym same)
    (subst (λ (w : List ℕ). P (take size held) w) survivors h))
