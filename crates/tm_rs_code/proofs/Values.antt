-- Values at given places with given power sums, and a sequence from its recurrence.
use Rattle.std.proofs.Common.{◌≡◌, ◌<◌, ◌≢◌, ℕ, zero, suc, ◌+◌, ◌-◌, List, [], ◌∷◌, length, refl, ap, sym, ◌∙◌, arith, inl, inr, subst, add-zero, add-suc}
use Rattle.std.specs.Prelude.{bit_xor}
use Rattle.std.specs.Int.Bits.{xor_zero_r, xor_assoc, xor_self}
use Rattle.std.proofs.lemmas.Bool.{cases_lt, cases_eq}
use Rattle.tm_gf256.specs.Field.{times, power}
use Rattle.tm_gf256.proofs.Ring.{times-lt, times-comm, times-assoc, times-zero, zero-times, one-times, times-one, times-inverse, inverse, power-lt, power-nonzero, plus_apart, plus-lt}
use Rattle.tm_rs_code.proofs.Vanish.{Term, power_sum, AreTerms, ApartFrom, power_sum-scaled, scaled}
use Rattle.tm_rs_code.specs.Code.{AreElements}
use Rattle.tm_rs_code.proofs.Factor.{AllDifferent, AllOther}
use Rattle.tm_rs_code.proofs.Windows.{places_of, window}

-- terms at the given places whose first power sums from b on are s
pub record Solution (b : ℕ) (places : List ℕ) (s : ℕ → ℕ) : Type 0 where
  pub terms : List Term
  pub at : places_of terms ≡ places
  pub fit : AreTerms terms
  pub meets : (k : ℕ) → k < length places → power_sum (b + k) terms ≡ s k

abbrev pub NoZero : List ℕ → Type 0
NoZero [] = Unit {0}
NoZero (x ∷ xs) = (x ≢ 0) × NoZero xs

-- each value divided by the difference of its place and x
abbrev unscaled : ℕ → List Term → List Term
unscaled x [] = []
unscaled x (t ∷ ts) = record { value = times t.value (inverse (bit_xor t.place x)); place = t.place } ∷ unscaled x ts

places_of-unscaled : (x : ℕ) (ts : List Term) → places_of (unscaled x ts) ≡ places_of ts
places_of-unscaled x [] = refl
places_of-unscaled x (t ∷ ts) = ap (λ (ys : List ℕ). t.place ∷ ys) (places_of-unscaled x ts)

AreTerms-unscaled : (x : ℕ) (ts : List Term) → AreTerms ts → AreTerms (unscaled x ts)
AreTerms-unscaled x [] h = tt
AreTerms-unscaled x (t ∷ ts) h = (times-lt t.value (inverse (bit_xor t.place x)), h.1, h.2, AreTerms-unscaled x ts h.3)

ApartFrom_of_places : (x : ℕ) (ts : List Term) → AllOther x (places_of ts) → ApartFrom x ts
ApartFrom_of_places x [] h = tt
ApartFrom_of_places x (t ∷ ts) h = (h.0, ApartFrom_of_places x ts h.1)

-- to divide and then multiply changes nothing
scaled-unscaled : (x : ℕ) (ts : List Term) → x < 256 → AreTerms ts → ApartFrom x ts → scaled x (unscaled x ts) ≡ ts
scaled-unscaled x [] l h a = refl
scaled-unscaled x (t ∷ ts) l h a =
    ap (λ (v : ℕ). let u : Term = record { value = v; place = t.place } in u ∷ scaled x (unscaled x ts))
    (times-assoc t.value (inverse (bit_xor t.place x)) (bit_xor t.place x)
    ∙ ap (times t.value) (times-comm (inverse (bit_xor t.place x)) (bit_xor t.place x)
    ∙ times-inverse (bit_xor t.place x) (plus-lt t.place x h.1 l) (λ e. a.0 (plus_apart t.place x e)))
    ∙ times-one t.value h.0)
    ∙ ap (λ (us : List Term). t ∷ us) (scaled-unscaled x ts l h.3 a.1)

cancel_right : (a b c : ℕ) → bit_xor a c ≡ bit_xor b c → a ≡ b
cancel_right a b c e =
    sym (xor_assoc a c c ∙ ap (bit_xor a) (xor_self c) ∙ xor_zero_r a)
    ∙ ap (λ (y : ℕ). bit_xor y c) e ∙ xor_assoc b c c ∙ ap (bit_xor b) (xor_self c) ∙ xor_zero_r b

abbrev term : ℕ → ℕ → Term
term v x = record { value = v; place = x }

-- the head's term is gone from the scaled list
scaled_head : (j v x : ℕ) (us : List Term) → power_sum j (scaled x (term v x ∷ us)) ≡ power_sum j (scaled x us)
scaled_head j v x us =
    ap (λ (y : ℕ). bit_xor (times (times v y) (power x j)) (power_sum j (scaled x us))) (xor_self x)
    ∙ ap (λ (y : ℕ). bit_xor (times y (power x j)) (power_sum j (scaled x us))) (times-zero v)
    ∙ ap (λ (y : ℕ). bit_xor y (power_sum j (scaled x us))) (zero-times (power x j))

next_sum : (b k v x : ℕ) (us : List Term) (s : ℕ → ℕ)
    → power_sum (b + k) (scaled x us) ≡ bit_xor (s (suc k)) (times x (s k))
    → power_sum (b + k) (term v x ∷ us) ≡ s k → power_sum (b + suc k) (term v x ∷ us) ≡ s (suc k)
next_sum b k v x us s step here =
    cancel_right (power_sum (b + suc k) (term v x ∷ us)) (s (suc k)) (times x (s k))
    (ap (λ (y : ℕ). bit_xor (power_sum (b + suc k) (term v x ∷ us)) (times x y)) (sym here)
    ∙ ap (λ (n : ℕ). bit_xor (power_sum n (term v x ∷ us)) (times x (power_sum (b + k) (term v x ∷ us)))) (add-suc b k)
    ∙ sym (power_sum-scaled x (term v x ∷ us) (b + k))
    ∙ scaled_head (b + k) v x us ∙ step)

meets_all : (b v x n : ℕ) (us : List Term) (s : ℕ → ℕ)
    → ((k : ℕ) → k < n → power_sum (b + k) (scaled x us) ≡ bit_xor (s (suc k)) (times x (s k)))
    → power_sum b (term v x ∷ us) ≡ s 0 → (k : ℕ) → k < suc n → power_sum (b + k) (term v x ∷ us) ≡ s k
meets_all b v x n us s step here zero l = ap (λ (m : ℕ). power_sum m (term v x ∷ us)) (add-zero b) ∙ here
meets_all b v x n us s step here (suc k) l =
    next_sum b k v x us s (step k (omega arith)) (meets_all b v x n us s step here k (omega arith))

pub power_sum-lt : (j : ℕ) (ts : List Term) → power_sum j ts < 256
power_sum-lt j [] = omega arith
power_sum-lt j (t ∷ ts) =
    plus-lt (times t.value (power t.place j)) (power_sum j ts) (times-lt t.value (power t.place j))
    (power_sum-lt j ts)

-- the head's value
head_value : (b x p s : ℕ) → x < 256 → x ≢ 0 → p < 256 → s < 256
    → bit_xor (times (times (bit_xor s p) (inverse (power x b))) (power x b)) p ≡ s
head_value b x p s l nz pl sl =
    ap (λ (y : ℕ). bit_xor y p)
    (times-assoc (bit_xor s p) (inverse (power x b)) (power x b)
    ∙ ap (times (bit_xor s p)) (times-comm (inverse (power x b)) (power x b)
    ∙ times-inverse (power x b) (power-lt x b) (power-nonzero x b l nz))
    ∙ times-one (bit_xor s p) (plus-lt s p sl pl))
    ∙ xor_assoc s p p ∙ ap (bit_xor s) (xor_self p) ∙ xor_zero_r s

-- the values exist
pub solution : (b : ℕ) (places : List ℕ) (s : ℕ → ℕ) → ((k : ℕ) → s k < 256) → AreElements places → NoZero places
    → AllDifferent places → Solution b places s
solution b [] s sl el nz d = record { terms = []; at = refl; fit = tt; meets = λ k l. absurd (omega arith) }
solution b (x ∷ xs) s sl el nz d =
    let rest : Solution b xs (λ k. bit_xor (s (suc k)) (times x (s k))) =
    solution b xs (λ k. bit_xor (s (suc k)) (times x (s k)))
    (λ k. plus-lt (s (suc k)) (times x (s k)) (sl (suc k)) (times-lt x (s k))) el.1 nz.1 d.1 in
    let us : List Term = unscaled x rest.terms in
    let p : ℕ = power_sum b us in
    let apart : ApartFrom x rest.terms = ApartFrom_of_places x rest.terms (subst (AllOther x) (sym rest.at) d.0) in
    let same : scaled x us ≡ rest.terms = scaled-unscaled x rest.terms el.0 rest.fit apart in
    record {
      terms = term (times (bit_xor (s 0) p) (inverse (power x b))) x ∷ us;
      at = ap (λ (ys : List ℕ). x ∷ ys) (places_of-unscaled x rest.terms ∙ rest.at);
      fit = (times-lt (bit_xor (s 0) p) (inverse (power x b)), el.0, nz.0, AreTerms-unscaled x rest.terms rest.fit);
      meets = meets_all b (times (bit_xor (s 0) p) (inverse (power x b))) x (length xs) us s
          (λ k l. ap (power_sum (b + k)) same ∙ rest.meets k l)
          (head_value b x p (s 0) el.0 nz.0 (power_sum-lt b us) (sl 0));
    }

-- ---- a sequence from its recurrence

pub window-same : (cs : List ℕ) (s s' : ℕ → ℕ) (m : ℕ) → ((j : ℕ) → j < m + length cs → s j ≡ s' j)
    → window cs s m ≡ window cs s' m
window-same [] s s' m h = refl
window-same (c ∷ cs) s s' m h =
    ap (λ (y : ℕ). bit_xor (times c y) (window cs s m)) (h (m + length cs) (omega arith))
    ∙ ap (bit_xor (times c (s' (m + length cs)))) (window-same cs s s' m (λ j l. h j (omega arith)))

-- what comes next is what the recurrence gives from those before
next_is : (cs : List ℕ) (s s' : ℕ → ℕ) (m : ℕ) → ((k : ℕ) → s k < 256) → ((k : ℕ) → s' k < 256)
    → window (1 ∷ cs) s m ≡ 0 → window (1 ∷ cs) s' m ≡ 0 → ((j : ℕ) → j < m + length cs → s j ≡ s' j)
    → s (m + length cs) ≡ s' (m + length cs)
next_is cs s s' m sl sl' w w' h =
    sym (one-times (s (m + length cs)) (sl (m + length cs)))
    ∙ plus_apart (times 1 (s (m + length cs))) (window cs s m) w
    ∙ window-same cs s s' m h
    ∙ sym (plus_apart (times 1 (s' (m + length cs))) (window cs s' m) w')
    ∙ one-times (s' (m + length cs)) (sl' (m + length cs))

-- sequences that begin alike and meet one recurrence are alike
pub same_below : (n : ℕ) (cs : List ℕ) (s s' : ℕ → ℕ) → ((k : ℕ) → s k < 256) → ((k : ℕ) → s' k < 256)
    → ((j : ℕ) → j < length cs → s j ≡ s' j)
    → ((m : ℕ) → m + length cs < n → window (1 ∷ cs) s m ≡ 0) → ((m : ℕ) → m + length cs < n → window (1 ∷ cs) s' m ≡ 0)
    → (j : ℕ) → j < n → s j ≡ s' j
same_below zero cs s s' sl sl' first w w' j l = absurd (omega arith)
same_below (suc n) cs s s' sl sl' first w w' j l =
    elim (cases_lt j (length cs)) [
      | inl lt ↦ first j lt
      | inr le ↦ elim (cases_eq j n) [
        | inr ne ↦ same_below n cs s s' sl sl' first (λ m lm. w m (omega arith)) (λ m lm. w' m (omega arith)) j
            (omega arith)
        | inl e ↦
            let back_ : (j - length cs) + length cs ≡ j = omega arith in
            subst (λ (i : ℕ). s i ≡ s' i) back_
            (next_is cs s s' (j - length cs) sl sl' (w (j - length cs) (omega arith)) (w' (j - length cs) (omega arith))
            (λ i li. same_below n cs s s' sl sl' first (λ m lm. w m (omega arith)) (λ m lm. w' m (omega arith)) i
            (omega arith)))
      ]
    ]
