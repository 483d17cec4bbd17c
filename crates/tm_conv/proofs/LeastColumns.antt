-- Octets of whole steps have one column of least costs; what a step adds to it, and its bounds.
use Rattle.std.proofs.Common.{◌≡◌, ℕ, zero, suc, ◌+◌, ◌-◌, ◌*◌, ◌/◌, ◌%◌, ◌^◌, ◌<◌, ◌≤◌, ◌⊎◌, inl, inr, ◌∙◌, sym, ap, subst, refl, arith, length, List, [], ◌∷◌, ◌++◌, Bool, true, false, cond, eqb, get_or, take, drop, map, slice_index, All, length-append}
use Rattle.std.specs.List.{range_with_len}
use Rattle.std.proofs.lemmas.List.{ext_get_or, nil_from_length, length-take-le, length-drop, take-append-drop, take_all, take_more}
use Rattle.std.proofs.lemmas.List.Elements.{All-nil, All-head, All-tail, All-push, All-take, All-get_or}
use Rattle.std.proofs.lemmas.List.FromFn.{length-map-range_with_len, get_or-map-range_with_len}
use Rattle.std.proofs.lemmas.Bool.{cases_lt, cases_Bool}
use Rattle.tm_conv.specs.declared.rates.Rate.{Rate}
use Rattle.tm_conv.specs.Path.{AreBits, next_register, step_symbols, step_size, steps_size, path, register_after}
use Rattle.tm_conv.specs.Cost.{cost}
use Rattle.tm_conv.specs.Best.{IsBest}
use Rattle.tm_conv.specs.Columns.{first_cost, EndsIn, total, IsLeastTo, IsColumn}
use Rattle.tm_conv.proofs.Sizes.{same_from_steps_size}
use Rattle.tm_conv.proofs.Paths.{length-path, register_after-push, path-push, cost-append, steps_size-more, steps_size-zero}

-- ---- a path, and one step more
register_after-small : (register : ℕ) (bits : List ℕ) → register < 64 → AreBits bits → register_after register bits < 64
register_after-small register [] small each = small
register_after-small register (bit ∷ bits) small each =
    let is_bit : bit < 2 = All-head (λ b. b < 2) bit bits each in
    register_after-small (next_register register bit) bits (omega arith) (All-tail (λ b. b < 2) bit bits each)

-- a path to a register has as many bits as the octets have steps
pub EndsIn-steps : (rate : Rate) (invert : Bool) (t steps last initial : ℕ) (octets bits : List ℕ)
    → length octets ≡ steps_size rate t steps → EndsIn rate invert t octets last initial bits → length bits ≡ steps
EndsIn-steps rate invert t steps last initial octets bits size is =
    same_from_steps_size rate t (length bits) steps (sym (length-path rate invert t initial bits) ∙ is.covers ∙ size)

length-more : (rate : Rate) (t steps : ℕ) (octets here : List ℕ) → length octets ≡ steps_size rate t steps
    → length here ≡ step_size rate (t + steps)
    → length (octets ++ here) ≡ steps_size rate t (steps + 1)
length-more rate t steps octets here size step =
    length-append octets here ∙ omega (arith, size, step, steps_size-more rate t steps)

-- a path goes on by a bit
pub EndsIn-push : (rate : Rate) (invert : Bool) (t steps from bit initial : ℕ) (octets here bits : List ℕ)
    → length octets ≡ steps_size rate t steps → length here ≡ step_size rate (t + steps) → bit < 2
    → EndsIn rate invert t octets from initial bits
    → EndsIn rate invert t (octets ++ here) (next_register from bit) initial (bits ++ bit ∷ [])
EndsIn-push rate invert t steps from bit initial octets here bits size step is_bit is =
    let count : length bits ≡ steps = EndsIn-steps rate invert t steps from initial octets bits size is in
    let more : length (bits ++ bit ∷ []) ≡ steps + 1 = length-append bits (bit ∷ []) ∙ omega (arith, count) in
    record {
      register = is.register;
      each = All-push (λ b. b < 2) bits bit is.each is_bit;
      covers =
          length-path rate invert t initial (bits ++ bit ∷ []) ∙ ap (steps_size rate t) more
          ∙ sym (length-more rate t steps octets here size step);
      ends = register_after-push initial bits bit ∙ ap (λ r. next_register r bit) is.ends;
    }

-- and costs so much more
pub total-push : (starts : ℕ → Bool) (rate : Rate) (invert : Bool) (t steps bit initial : ℕ) (octets here bits : List ℕ)
    → length octets ≡ steps_size rate t steps → length bits ≡ steps
    → total starts rate invert t (octets ++ here) initial (bits ++ bit ∷ [])
    ≡ total starts rate invert t octets initial bits + cost
    (step_symbols rate invert (t + steps) (register_after initial bits) bit) here
total-push starts rate invert t steps bit initial octets here bits size count =
    let before = path rate invert t initial bits in
    let symbols = step_symbols rate invert (t + steps) (register_after initial bits) bit in
    let whole : cost (path rate invert t initial (bits ++ bit ∷ [])) (octets ++ here)
    ≡ cost before octets + cost symbols here
    = ap (λ p. cost p (octets ++ here)) (path-push rate invert t (t + steps) initial bits bit (omega (arith, count)))
    ∙ cost-append before octets symbols here (length-path rate invert t initial bits ∙ ap (steps_size rate t) count
    ∙ sym size) in
    omega (arith, whole)

-- ---- the least total to a register
pub IsLeastTo-unique : (starts : ℕ → Bool) (rate : Rate) (invert : Bool) (t last entry other : ℕ) (octets : List ℕ)
    → IsLeastTo starts rate invert t octets last entry → IsLeastTo starts rate invert t octets last other
    → entry ≡ other
IsLeastTo-unique starts rate invert t last entry other octets a b =
    omega (arith, a.least b.initial b.bits b.path, b.least a.initial a.bits a.path, a.reached, b.reached)

pub IsLeastTo-first : (starts : ℕ → Bool) (rate : Rate) (invert : Bool) (t register : ℕ) → register < 64
    → IsLeastTo starts rate invert t [] register (first_cost starts register)
IsLeastTo-first starts rate invert t register small = record {
  initial = register;
  bits = [];
  path = record { register = small; each = All-nil (λ b. b < 2); covers = refl; ends = refl };
  reached = omega arith;
  least = λ other others is.
      let none : others ≡ [] = nil_from_length others (EndsIn-steps rate invert t 0 register other [] others
      (sym (steps_size-zero rate t)) is) in
      let same : other ≡ register = ap (register_after other) (sym none) ∙ is.ends in
      let costs : first_cost starts other ≡ first_cost starts register = ap (first_cost starts) same in
      omega (arith, costs);
}

-- what is at most each total by an edge into a register is at most that of each path to it
least_more : (starts : ℕ → Bool) (rate : Rate) (invert : Bool) (t steps last low : ℕ) (octets here : List ℕ)
    → length octets ≡ steps_size rate t steps → length here ≡ step_size rate (t + steps)
    → ((from bit other : ℕ) (others : List ℕ) → from < 64 → bit < 2 → next_register from bit ≡ last
    → EndsIn rate invert t octets from other others
    → low ≤ total starts rate invert t octets other others + cost (step_symbols rate invert (t + steps) from bit) here)
    → (other : ℕ) (others : List ℕ) → EndsIn rate invert t (octets ++ here) last other others
    → low ≤ total starts rate invert t (octets ++ here) other others
least_more starts rate invert t steps last low octets here size step edges other others is =
    let count : length others ≡ steps + 1
    =
    EndsIn-steps rate invert t (steps + 1) last other (octets ++ here) others
    (length-more rate t steps octets here size step) is in
    let prefixes = take steps others in
    let bit = get_or others steps 0 in
    let from = register_after other prefixes in
    let whole : others ≡ prefixes ++ bit ∷ [] = sym (take_all (steps + 1) others (omega (arith, count)))
    ∙ take_more others steps 0 (omega (arith, count)) in
    let long : length prefixes ≡ steps = length-take-le steps others (omega (arith, count)) in
    let each : AreBits prefixes = All-take (λ b. b < 2) steps others is.each in
    let is_bit : bit < 2 = All-get_or (λ b. b < 2) others steps 0 (omega (arith, count)) is.each in
    let goes : next_register from bit ≡ last = sym (register_after-push other prefixes bit)
    ∙ ap (register_after other) (sym whole) ∙ is.ends in
    let before : EndsIn rate invert t octets from other prefixes = record {
      register = is.register;
      each = each;
      covers = length-path rate invert t other prefixes ∙ ap (steps_size rate t) long ∙ sym size;
      ends = refl;
    } in
    let sum = ap (total starts rate invert t (octets ++ here) other) whole
    ∙ total-push starts rate invert t steps bit other octets here prefixes size long in
    omega (
      arith,
      sum,
      edges from bit other prefixes (register_after-small other prefixes is.register each) is_bit
          goes before,
    )

-- a register is reached from two, 2 * (register % 32) and the one after it, by the bit register / 32
two_edges : (from bit last : ℕ) → from < 64 → bit < 2 → next_register from bit ≡ last
    → ((from ≡ 2 * (last % 32)) ⊎ (from ≡ 2 * (last % 32) + 1)) × (bit ≡ last / 32)
two_edges from bit last small is_bit goes =
    (elim (cases_lt (from % 2) 1) [ inl even ↦ inl (omega arith) | inr odd ↦ inr (omega arith) ], omega arith)

abbrev LeastTo : (ℕ → Bool) → Rate → Bool → ℕ → List ℕ → ℕ → Type 0
LeastTo starts rate invert t octets last = (entry : ℕ) × IsLeastTo starts rate invert t octets last entry

least_to-more : (starts : ℕ → Bool) (rate : Rate) (invert : Bool) (t steps : ℕ) (octets here : List ℕ)
    → length octets ≡ steps_size rate t steps → length here ≡ step_size rate (t + steps)
    → ((last : ℕ) → last < 64 → LeastTo starts rate invert t octets last) → (last : ℕ) → last < 64
    → LeastTo starts rate invert t (octets ++ here) last
least_to-more starts rate invert t steps octets here size step before last small =
    let low : ℕ = 2 * (last % 32) in
    let bit : ℕ = last / 32 in
    let added : ℕ → ℕ = λ from. cost (step_symbols rate invert (t + steps) from bit) here in
    let a = before low (omega arith) in
    let b = before (low + 1) (omega arith) in
    -- by the lesser of the two edges
    let by : (from entry : ℕ) → next_register from bit ≡ last → IsLeastTo starts rate invert t octets from entry
    → entry + added from ≤ a.0 + added low → entry + added from ≤ b.0 + added (low + 1)
    → LeastTo starts rate invert t (octets ++ here) last
    = λ from entry goes is at_low at_high. (
      entry + added from,
      record {
        initial = is.initial;
        bits = is.bits ++ bit ∷ [];
        path = subst (λ (r : ℕ). EndsIn rate invert t (octets ++ here) r is.initial (is.bits ++ bit ∷ [])) goes
            (EndsIn-push rate invert t steps from bit is.initial octets here is.bits size step (omega arith) is.path);
        reached =
            total-push starts rate invert t steps bit is.initial octets here is.bits size
            (EndsIn-steps rate invert t steps from is.initial octets is.bits size is.path)
            ∙ omega (arith, is.reached, ap added is.path.ends);
        least = least_more starts rate invert t steps last (entry + added from) octets here size step
            (λ from' bit' other others from_small is_bit from_goes ends.
            (let two = two_edges from' bit' last from_small is_bit from_goes in
            let same : cost (step_symbols rate invert (t + steps) from' bit') here ≡ added from' =
            ap (λ c. cost (step_symbols rate invert (t + steps) from' c) here) two.1 in
            elim two.0 [
              | inl is_low ↦ omega (
                arith,
                same,
                ap added is_low,
                at_low,
                a.1.least other others (subst (λ (r : ℕ). EndsIn rate invert t octets r other others) is_low ends),
              )
              | inr is_high ↦ omega (
                arith,
                same,
                ap added is_high,
                at_high,
                b.1.least other others (subst (λ (r : ℕ). EndsIn rate invert t octets r other others) is_high ends),
              )
            ]));
      },
    ) in
    elim (cases_lt (b.0 + added (low + 1)) (a.0 + added low)) [
      | inl less ↦ by (low + 1) b.0 (omega arith) b.1 (omega arith) (omega arith)
      | inr no_less ↦ by low a.0 (omega arith) a.1 (omega arith) no_less
    ]

least_to : (starts : ℕ → Bool) (rate : Rate) (invert : Bool) (t steps : ℕ) (octets : List ℕ)
    → length octets ≡ steps_size rate t steps
    → (last : ℕ) → last < 64 → LeastTo starts rate invert t octets last
least_to starts rate invert t zero octets size last small =
    let none : [] ≡ octets = sym (nil_from_length octets (size ∙ steps_size-zero rate t)) in (
      first_cost starts last,
      subst (λ (l : List ℕ). IsLeastTo starts rate invert t l last (first_cost starts last))
          none (IsLeastTo-first starts rate invert t last small),
    )
least_to starts rate invert t (suc steps) octets size last small =
    let count = steps_size rate t steps in
    let more : length octets ≡ count + step_size rate (t + steps) = size
    ∙ ap (steps_size rate t) (let e : suc steps ≡ steps + 1 = omega arith in e) ∙ steps_size-more rate t steps in
    let prefix : length (take count octets) ≡ count = length-take-le count octets (omega (arith, more)) in
    let here : length (drop count octets) ≡ step_size rate (t + steps) = length-drop count octets
    ∙ omega (arith, more) in
    subst (λ (l : List ℕ). LeastTo starts rate invert t l last) (take-append-drop count octets)
    (least_to-more starts rate invert t steps (take count octets) (drop count octets) prefix here
    (least_to starts rate invert t steps (take count octets) prefix) last small)

-- ---- the column
pub IsColumn-exists : (starts : ℕ → Bool) (rate : Rate) (invert : Bool) (t steps : ℕ) (octets : List ℕ)
    → length octets ≡ steps_size rate t steps
    → (column : List ℕ) × IsColumn starts rate invert t octets column
IsColumn-exists starts rate invert t steps octets size =
    let entries : (last : ℕ) → LeastTo starts rate invert t octets (last % 64) =
    λ last. least_to starts rate invert t steps octets size (last % 64) (omega arith) in
    let column = map (λ last. (entries last).0) (range_with_len 0 64) in (
      column,
      record {
        long = length-map-range_with_len (λ last. (entries last).0) 0 64;
        each = λ last small.
            let at : slice_index column last ≡ (entries last).0 =
            get_or-map-range_with_len (λ last. (entries last).0) 0 64 last last 0 small (omega arith) in
            let same : last % 64 ≡ last = omega arith in
            subst (λ (v : ℕ). IsLeastTo starts rate invert t octets last v) (sym at)
            (subst (λ (r : ℕ). IsLeastTo starts rate invert t octets r (entries last).0) same (entries last).1);
      },
    )

pub IsColumn-unique : (starts : ℕ → Bool) (rate : Rate) (invert : Bool) (t : ℕ) (octets column other : List ℕ)
    → IsColumn starts rate invert t octets column → IsColumn starts rate invert t octets other → column ≡ other
IsColumn-unique starts rate invert t octets column other a b =
    ext_get_or 0 column other (a.long ∙ sym b.long) (λ last below.
    let small : last < 64 = omega (arith, a.long) in
    IsLeastTo-unique starts rate invert t last (slice_index column last) (slice_index other last) octets
    (a.each last small) (b.each last small))

pub IsColumn-first : (starts : ℕ → Bool) (rate : Rate) (invert : Bool) (t register : ℕ) (column : List ℕ)
    → IsColumn starts rate invert t [] column → register < 64 → slice_index column register ≡ first_cost starts register
IsColumn-first starts rate invert t register column is small =
    IsLeastTo-unique starts rate invert t register (slice_index column register) (first_cost starts register) []
    (is.each register small) (IsLeastTo-first starts rate invert t register small)

pub IsColumn-edge : (starts : ℕ → Bool) (rate : Rate) (invert : Bool) (t steps from bit : ℕ)
    (octets here before after : List ℕ)
    → IsColumn starts rate invert t octets before → IsColumn starts rate invert t (octets ++ here) after
    → length octets ≡ steps_size rate t steps → length here ≡ step_size rate (t + steps) → from < 64 → bit < 2
    → slice_index after (next_register from bit) ≤ slice_index before from + cost
    (step_symbols rate invert (t + steps) from bit) here
IsColumn-edge starts rate invert t steps from bit octets here before after b a size step small is_bit =
    let least_path = b.each from small in
    let there = a.each (next_register from bit) (omega arith) in
    let more = total-push starts rate invert t steps bit least_path.initial octets here least_path.bits size
    (EndsIn-steps rate invert t steps from least_path.initial octets least_path.bits size least_path.path) in
    omega (
      arith,
      more,
      least_path.reached,
      ap (λ r. cost (step_symbols rate invert (t + steps) r bit) here) least_path.path.ends,
      there.least least_path.initial (least_path.bits ++ bit ∷ [])
          (EndsIn-push rate invert t steps from bit least_path.initial octets here least_path.bits size step is_bit
          least_path.path),
    )

pub IsColumn-least : (starts : ℕ → Bool) (rate : Rate) (invert : Bool) (t initial register : ℕ)
    (octets column bits : List ℕ)
    → IsColumn starts rate invert t octets column → IsBest starts rate invert t octets initial bits
    → cost (path rate invert t initial bits) octets ≤ 2 ^ 30 → register < 64
    → cost (path rate invert t initial bits) octets ≤ slice_index column register
IsColumn-least starts rate invert t initial register octets column bits is best low small =
    let least_path = is.each register small in
    elim (cases_Bool (starts least_path.initial)) [
      | inl starts_there ↦ omega (
        arith,
        least_path.reached,
        best.least least_path.initial least_path.bits (record {
          start = starts_there;
          register = least_path.path.register;
          each = least_path.path.each;
          covers = least_path.path.covers;
        }),
      )
      | inr starts_not ↦ (let first : first_cost starts least_path.initial
          ≡ 2 ^ 30 = ap (λ b. cond b 0 (2 ^ 30)) starts_not in omega (arith, least_path.reached, first, low))
    ]

distance_le : (b : Bool) (octet : ℕ) → octet < 256 → cond b octet (255 - octet) ≤ 255
distance_le true octet small = omega arith
distance_le false octet small = omega arith

pub cost_le : (symbols octets : List ℕ) → All (λ octet. octet < 256) octets → cost symbols octets ≤ 255 * length octets
cost_le [] octets each = omega arith
cost_le (symbol ∷ symbols) [] each = omega arith
cost_le (symbol ∷ symbols) (octet ∷ octets) each =
    omega (
      arith,
      distance_le (eqb symbol 0) octet (All-head (λ o. o < 256) octet octets each),
      cost_le symbols octets (All-tail (λ o. o < 256) octet octets each),
    )

first_cost_le : (starts : ℕ → Bool) (register : ℕ) → first_cost starts register ≤ 2 ^ 30
first_cost_le starts register = go (starts register)
  where
    go : (b : Bool) → cond b 0 (2 ^ 30) ≤ 2 ^ 30
    go true = omega arith
    go false = omega arith

pub IsColumn-most : (starts : ℕ → Bool) (rate : Rate) (invert : Bool) (t register : ℕ) (octets column : List ℕ)
    → All (λ octet. octet < 256) octets → IsColumn starts rate invert t octets column → register < 64
    → slice_index column register ≤ 2 ^ 30 + 255 * length octets
IsColumn-most starts rate invert t register octets column each is small =
    let least_path = is.each register small in
    omega (
      arith,
      least_path.reached,
      first_cost_le starts least_path.initial,
      cost_le (path rate invert t least_path.initial least_path.bits) octets each,
    )
