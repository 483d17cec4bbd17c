-- There is just one codeword that begins with given information symbols.
use Rattle.std.proofs.Common.{◌≡◌, ◌⊎◌, ◌<◌, ◌≤◌, ◌+◌, ◌-◌, ◌*◌, ◌++◌, ◌∙◌, ◌||◌, ◌&&◌, ℕ, zero, suc, Bool, true, false, cond, eqb, List, [], ◌∷◌, length, take, map, append_assoc, append-nil, length-append, refl, ap, sym, subst, arith, inl, inr, add-zero}
use Rattle.std.specs.Prelude.{replicate, find, unwrap_or}
use Rattle.std.specs.List.{range_with_len, list_all, list_any, flat_map}
use Rattle.std.proofs.lemmas.Bool.{cases_eq, eqb-true}
use Rattle.std.proofs.lemmas.Bool.Decides.{eqb_tells}
use Rattle.std.proofs.lemmas.List.{length-replicate}
use Rattle.std.proofs.lemmas.List.Folds.{list_any-append}
use Rattle.std.proofs.Math.Seq.{take-append_seam}
use Rattle.tm_gf256.specs.Poly.{value_at}
use Rattle.tm_rs_code.specs.Code.{AreElements, IsCodeword, IsSystematic, root, distance, is_codeword, all_words, encode_word}
use Rattle.tm_rs_code.specs.Register.{shift}
use Rattle.tm_rs_code.proofs.DistanceLaw.{distance_law, same_of_distance}
use Rattle.tm_rs_code.proofs.Nearest.{distance-self}
use Rattle.tm_rs_code.proofs.Numbers.{AreElements-append, AreElements-take, AreElements-replicate}
use Rattle.tm_rs_code.proofs.Generator.{generator_of, length-generator_of, generator_vanishes}
use Rattle.tm_rs_code.proofs.Register.{register_keeps, length-shift, AreElements-shift, value_at-zeros}

-- ---- tests

first_of : (a b : Bool) → (a && b) ≡ true → a ≡ true
first_of true b e = refl
first_of false b e = absurd cc

second_of : (a b : Bool) → (a && b) ≡ true → b ≡ true
second_of true b e = e
second_of false b e = absurd cc

yes_or_no : (b : Bool) → (b ≡ true) ⊎ (b ≡ false)
yes_or_no true = inl refl
yes_or_no false = inr refl

either_left : (a b : Bool) → a ≡ true → (a || b) ≡ true
either_left a b e = grind arith

either_right : (a b : Bool) → b ≡ true → (a || b) ≡ true
either_right a b e = grind arith

all_at : (p : ℕ → Bool) (a n : ℕ) → list_all p (range_with_len a n) ≡ true → (k : ℕ) → k < n → p (a + k) ≡ true
all_at p a zero h k lt = absurd (omega arith)
all_at p a (suc n) h zero lt = ap p (add-zero a) ∙ first_of (p a) (list_all p (range_with_len (a + 1) n)) h
all_at p a (suc n) h (suc k) lt =
    let moved : a + suc k ≡ (a + 1) + k = omega arith in
    ap p moved ∙ all_at p (a + 1) n (second_of (p a) (list_all p (range_with_len (a + 1) n)) h) k (omega arith)

all_of : (p : ℕ → Bool) (a n : ℕ) → ((k : ℕ) → k < n → p (a + k) ≡ true) → list_all p (range_with_len a n) ≡ true
all_of p a zero h = refl
all_of p a (suc n) h =
    let here : p a ≡ true = ap p (sym (add-zero a)) ∙ h 0 (omega arith) in
    let rest : list_all p (range_with_len (a + 1) n) ≡ true =
    all_of p (a + 1) n (λ k lt. let moved : (a + 1) + k ≡ a + suc k = omega arith in ap p moved
    ∙ h (suc k) (omega arith)) in
    ap (λ (b : Bool). b && list_all p (range_with_len (a + 1) n)) here ∙ rest

pub codeword_by_test : (e : ℕ) (w : List ℕ) → is_codeword e w ≡ true → IsCodeword e w
unfolding is_codeword
codeword_by_test e w h k lt =
    let at : eqb (value_at w (root e (0 + k))) 0 ≡ true = all_at (λ j. eqb (value_at w (root e j)) 0) 0
    (2 * e) h k lt in
    let same : k ≡ 0 + k = omega arith in
    ap (λ (j : ℕ). value_at w (root e j)) same ∙ eqb-true (value_at w (root e (0 + k))) 0 at

zero_is : (n : ℕ) → n ≡ 0 → eqb n 0 ≡ true
zero_is n z = elim (eqb_tells n 0) [ inl t ↦ t.0 | inr t ↦ absurd (t.1 z) ]

pub is_codeword_holds : (e : ℕ) (w : List ℕ) → IsCodeword e w → is_codeword e w ≡ true
unfolding is_codeword
is_codeword_holds e w h =
    all_of (λ j. eqb (value_at w (root e j)) 0) 0 (2 * e)
    (λ k lt. let same : 0 + k ≡ k = omega arith in zero_is (value_at w (root e (0 + k)))
    (ap (λ (j : ℕ). value_at w (root e j)) same ∙ h k lt))

-- ---- all words of a length

-- P holds of each word
abbrev pub Each : (List ℕ → Type 0) → List (List ℕ) → Type 0
Each P [] = Unit {0}
Each P (w ∷ ws) = P w × Each P ws

Each-append : (P : List ℕ → Type 0) (vs ws : List (List ℕ)) → Each P vs → Each P ws → Each P (vs ++ ws)
Each-append P [] ws h l = l
Each-append P (v ∷ vs) ws h l = (h.0, Each-append P vs ws h.1 l)

abbrev pub AreWords : ℕ → List ℕ → Type 0
AreWords n w = (length w ≡ n) × AreElements w

Each-put : (n v : ℕ) (ws : List (List ℕ)) → v < 256 → Each (AreWords n) ws
    → Each (AreWords (suc n)) (map (λ rest. v ∷ rest) ws)
Each-put n v [] small h = tt
Each-put n v (w ∷ ws) small h = ((ap suc h.0.0, (small, h.0.1)), Each-put n v ws small h.1)

Each-spread : (n a k : ℕ) (ws : List (List ℕ)) → a + k ≤ 256 → Each (AreWords n) ws
    → Each (AreWords (suc n)) (flat_map (λ first. map (λ rest. first ∷ rest) ws) (range_with_len a k))
Each-spread n a zero ws le h = tt
Each-spread n a (suc k) ws le h =
    Each-append (AreWords (suc n)) (map (λ rest. a ∷ rest) ws)
    (flat_map (λ first. map (λ rest. first ∷ rest) ws) (range_with_len (a + 1) k))
    (Each-put n a ws (omega arith) h) (Each-spread n (a + 1) k ws (omega arith) h)

pub Each-all_words : (n : ℕ) → Each (AreWords n) (all_words n)
unfolding all_words
Each-all_words zero = ((refl, tt), tt)
Each-all_words (suc n) = Each-spread n 0 256 (all_words n) (omega arith) (Each-all_words n)

any-put : (test : List ℕ → Bool) (v : ℕ) (ws : List (List ℕ)) → list_any (λ rest. test (v ∷ rest)) ws ≡ true
    → list_any test (map (λ rest. v ∷ rest) ws) ≡ true
any-put test v [] h = h
any-put test v (w ∷ ws) h =
    elim (yes_or_no (test (v ∷ w))) [
      | inl t ↦ either_left (test (v ∷ w)) (list_any test (map (λ rest. v ∷ rest) ws)) t
      | inr t ↦
          either_right (test (v ∷ w)) (list_any test (map (λ rest. v ∷ rest) ws))
          (any-put test v ws (sym (ap (λ (b : Bool). b || list_any (λ rest. test (v ∷ rest)) ws) t) ∙ h))
    ]

any-spread : (test : List ℕ → Bool) (v a k : ℕ) (ws : List (List ℕ)) → a ≤ v → v < a + k
    → list_any (λ rest. test (v ∷ rest)) ws ≡ true
    → list_any test (flat_map (λ first. map (λ rest. first ∷ rest) ws) (range_with_len a k)) ≡ true
any-spread test v a zero ws le lt h = absurd (omega arith)
any-spread test v a (suc k) ws le lt h =
    let here : List (List ℕ) = map (λ rest. a ∷ rest) ws in
    let more : List (List ℕ) = flat_map (λ first. map (λ rest. first ∷ rest) ws) (range_with_len (a + 1) k) in
    list_any-append test here more
    ∙ elim (cases_eq v a) [
      | inl same ↦ either_left (list_any test here) (list_any test more)
          (any-put test a ws (subst (λ (y : ℕ). list_any (λ rest. test (y ∷ rest)) ws ≡ true) same h))
      | inr ne ↦ either_right (list_any test here) (list_any test more)
          (any-spread test v (a + 1) k ws (omega arith) (omega arith) h)
    ]

-- a word that passes is among all words of its length
pub any-all_words : (w : List ℕ) (test : List ℕ → Bool) → AreElements w → test w ≡ true
    → list_any test (all_words (length w)) ≡ true
unfolding all_words
any-all_words [] test h e = either_left (test []) false e
any-all_words (c ∷ cs) test h e =
    any-spread test c 0 256 (all_words (length cs)) (omega arith) (omega (arith, h.0))
    (any-all_words cs (λ rest. test (c ∷ rest)) h.1 e)

-- what a search finds passes, and is one of the list
pub find_passes : (P : List ℕ → Type 0) (test : List ℕ → Bool) (ws : List (List ℕ)) → Each P ws → list_any test ws ≡ true
    → P (unwrap_or (find test ws) []) × (test (unwrap_or (find test ws) []) ≡ true)
find_passes P test [] h e = absurd cc
find_passes P test (w ∷ ws) h e =
    elim (yes_or_no (test w)) [
      | inl t ↦ rw t (h.0, t)
      | inr t ↦ let e' = rw t at e in rw t (find_passes P test ws h.1 e')
    ]

-- a word of n elements that passes, or none does
abbrev pub PassesOrNone : ℕ → (List ℕ → Bool) → Type 0
PassesOrNone n test =
    ((c : List ℕ) × (length c ≡ n) × AreElements c × (test c ≡ true))
    ⊎ ((c : List ℕ) → length c ≡ n → AreElements c → test c ≡ true → ⊥)

pub search_words : (n : ℕ) (test : List ℕ → Bool) → PassesOrNone n test
search_words n test = elim (yes_or_no (list_any test (all_words n))) [
  | inl some ↦ (let h = find_passes (AreWords n) test (all_words n) (Each-all_words n) some in
      inl (unwrap_or (find test (all_words n)) [], h.0.0, h.0.1, h.1))
  | inr none ↦ inr (λ c long elements passes.
      let among : list_any test (all_words n) ≡ true = ap (λ (k : ℕ). list_any test (all_words k)) (sym long)
      ∙ any-all_words c test elements passes in
      absurd cc)
]

-- ---- the shift register finds a codeword

-- the register after some symbols
abbrev shifted : List ℕ → List ℕ → List ℕ → List ℕ
shifted g register [] = register
shifted g register (d ∷ ds) = shifted g (shift g d register) ds

length-shifted : (g register ds : List ℕ) → length g ≡ length register
    → length (shifted g register ds) ≡ length register
length-shifted g register [] e = refl
length-shifted g register (d ∷ ds) e =
    let step : length (shift g d register) ≡ length register = length-shift g d register e in
    length-shifted g (shift g d register) ds (e ∙ sym step) ∙ step

AreElements-shifted : (g register ds : List ℕ) → AreElements register → AreElements (shifted g register ds)
AreElements-shifted g register [] h = h
AreElements-shifted g register (d ∷ ds) h =
    AreElements-shifted g (shift g d register) ds (AreElements-shift g d register h)

shifted_keeps : (g : List ℕ) (x : ℕ) → value_at (1 ∷ g) x ≡ 0 → (u register ds : List ℕ) → length g ≡ length register
    → 0 < length register
    → AreElements ds → value_at (u ++ register) x ≡ 0 → value_at ((u ++ ds) ++ shifted g register ds) x ≡ 0
shifted_keeps g x z u register [] e some h v = ap (λ (us : List ℕ). value_at (us ++ register) x) (append-nil u) ∙ v
shifted_keeps g x z u register (d ∷ ds) e some h v =
    let step : length (shift g d register) ≡ length register = length-shift g d register e in
    ap (λ (us : List ℕ). value_at (us ++ shifted g (shift g d register) ds) x) (sym (append_assoc u (d ∷ []) ds))
    ∙ shifted_keeps g x z (u ++ d ∷ []) (shift g d register) ds (e ∙ sym step) (omega arith) h.1
    (register_keeps g x z u d register e some v h.0)

-- the check symbols
checks_of : ℕ → List ℕ → List ℕ
checks_of e info = shifted (generator_of e) (replicate (2 * e) 0) info

same_length : (e : ℕ) → length (generator_of e) ≡ length {A = ℕ} (replicate (2 * e) 0)
same_length e = length-generator_of e ∙ sym (length-replicate (2 * e) 0)

length-checks_of : (e : ℕ) (info : List ℕ) → length (checks_of e info) ≡ 2 * e
unfolding checks_of
length-checks_of e info =
    length-shifted (generator_of e) (replicate (2 * e) 0) info (same_length e) ∙ length-replicate (2 * e) 0

AreElements-checks_of : (e : ℕ) (info : List ℕ) → AreElements (checks_of e info)
unfolding checks_of
AreElements-checks_of e info =
    AreElements-shifted (generator_of e) (replicate (2 * e) 0) info (AreElements-replicate (2 * e))

checks_of_is : (e : ℕ) (info : List ℕ) → AreElements info → IsCodeword e (info ++ checks_of e info)
unfolding checks_of
checks_of_is e info h k lt =
    shifted_keeps (generator_of e) (root e k) (generator_vanishes e k lt) [] (replicate (2 * e) 0) info (same_length e)
    (omega (arith, length-replicate {A = ℕ} (2 * e) 0)) h (value_at-zeros (2 * e) (root e k))

-- ---- the law

pub systematic_exists : (e : ℕ) (info : List ℕ) → AreElements info → IsSystematic e info (encode_word e info)
unfolding encode_word
systematic_exists e info h =
    let test : List ℕ → Bool = λ checks. is_codeword e (info ++ checks) in
    let among : list_any test (all_words (length (checks_of e info))) ≡ true =
    any-all_words (checks_of e info) test (AreElements-checks_of e info)
    (is_codeword_holds e (info ++ checks_of e info) (checks_of_is e info h)) in
    let searched : list_any test (all_words (2 * e)) ≡ true =
    ap (λ (n : ℕ). list_any test (all_words n)) (sym (length-checks_of e info)) ∙ among in
    let found = find_passes (AreWords (2 * e)) test (all_words (2 * e)) (Each-all_words (2 * e)) searched in
    record {
      elements = AreElements-append info (unwrap_or (find test (all_words (2 * e))) []) h found.0.1;
      codeword = codeword_by_test e (info ++ unwrap_or (find test (all_words (2 * e))) []) found.1;
      size =
          length-append info (unwrap_or (find test (all_words (2 * e))) [])
          ∙ ap (λ (n : ℕ). length info + n) found.0.0;
      begins = take-append_seam info (unwrap_or (find test (all_words (2 * e))) []);
    }

-- two words that begin alike differ after that alone
distance_after : (n : ℕ) (xs ys : List ℕ) → length xs ≡ length ys → take n xs ≡ take n ys
    → distance xs ys ≤ length xs - n
distance_after n [] ys e same = omega arith
distance_after n (x ∷ xs) [] e same = absurd (omega arith)
distance_after zero (x ∷ xs) (y ∷ ys) e same =
    omega (arith, at_most_one (eqb x y), distance_after 0 xs ys (omega arith) refl)
  where
    at_most_one : (b : Bool) → cond b 0 1 ≤ 1
    at_most_one true = omega arith
    at_most_one false = omega arith
distance_after (suc n) (x ∷ xs) (y ∷ ys) e same =
    let head : x ≡ y = cc in
    let tail : take n xs ≡ take n ys = cc in
    elim (eqb_tells x y) [
      | inl t ↦ rw t.0 (omega (arith, distance_after n xs ys (omega arith) tail))
      | inr t ↦ absurd (t.1 head)
    ]

pub systematic_unique : (e : ℕ) (info c d : List ℕ) → length info + 2 * e ≤ 255 → IsSystematic e info c
    → IsSystematic e info d → c ≡ d
systematic_unique e info c d small hc hd =
    let long : length c ≡ length d = hc.size ∙ sym hd.size in
    elim (cases_eq (distance c d) 0) [
      | inl z ↦ same_of_distance c d long z
      | inr ne ↦ absurd (omega (
        arith,
        distance_law e c d hc.elements hd.elements long (omega (arith, hc.size)) hc.codeword hd.codeword
            (λ same. ne (ap (distance c) (sym same) ∙ distance-self c)),
        distance_after (length info) c d long (hc.begins ∙ sym hd.begins),
        hc.size,
      ))
    ]

pub systematic_only : (e : ℕ) (info c : List ℕ) → length info + 2 * e ≤ 255 → IsSystematic e info c
    → c ≡ encode_word e info
systematic_only e info c small h =
    let elements : AreElements info = subst AreElements h.begins (AreElements-take (length info) c h.elements) in
    systematic_unique e info c (encode_word e info) small h (systematic_exists e info elements)
