-- Sums over lists in which an element changes, and how often a number stands in a list.
use Rattle.std.proofs.Common.{◌≡◌, ℕ, zero, suc, ◌+◌, ◌<◌, ◌≤◌, ◌==◌, Bool, true, false, cond, min, length, List, [], ◌∷◌, ◌++◌, set, refl, sym, ap, ◌∙◌, arith}
use Rattle.std.proofs.lemmas.Bool.Decides.{nat_tests}
use mathlib.Core.Option.{some, some-injective, some-ne-none}
use lib.ListN.{get_elem?}
use Rattle.tm_workers.specs.Numbers.{times, once_below, total}

module _ {A : Type 0} (f : A → ℕ) where
  pub total-set : (l : List A) (i : ℕ) (v w : A) → get_elem? l i ≡ some v → total f (set l i w) + f v ≡ total f l + f w
  total-set [] i v w e = absurd (some-ne-none v (sym e))
  total-set (x ∷ xs) zero v w e = let is : f x ≡ f v = ap f (some-injective x v e) in omega arith
  total-set (x ∷ xs) (suc i) v w e = let r = total-set xs i v w e in omega arith

  pub total-push : (l : List A) (v : A) → total f (l ++ v ∷ []) ≡ total f l + f v
  total-push [] v = omega arith
  total-push (x ∷ xs) v = let r = total-push xs v in omega arith

  pub total-at : (l : List A) (i : ℕ) (v : A) → get_elem? l i ≡ some v → f v ≤ total f l
  total-at [] i v e = absurd (some-ne-none v (sym e))
  total-at (x ∷ xs) zero v e = let is : f x ≡ f v = ap f (some-injective x v e) in omega arith
  total-at (x ∷ xs) (suc i) v e = let r = total-at xs i v e in omega arith

-- where one element has all of g, and f is 0 where g is, f adds up to that of this element
module _ {A : Type 0} (f g : A → ℕ) where
  pub total-none : (l : List A) → ((i : ℕ) (v : A) → get_elem? l i ≡ some v → g v ≡ 0 → f v ≡ 0) → total g l ≡ 0
      → total f l ≡ 0
  total-none [] h e = refl
  total-none (x ∷ xs) h e =
      let first = h 0 x refl (omega arith) in
      let rest = total-none xs (λ i v at. h (suc i) v at) (omega arith) in
      omega arith

  pub total-one : (l : List A) (i : ℕ) (v : A) → ((j : ℕ) (u : A) → get_elem? l j ≡ some u → g u ≡ 0 → f u ≡ 0)
      → get_elem? l i ≡ some v → total g l ≡ g v → total f l ≡ f v
  total-one [] i v h at e = absurd (some-ne-none v (sym at))
  total-one (x ∷ xs) zero v h at e =
      let same : x ≡ v = some-injective x v at in
      let fs : f x ≡ f v = ap f same in
      let gs : g x ≡ g v = ap g same in
      let rest = total-none xs (λ i u at'. h (suc i) u at') (omega arith) in
      omega arith
  total-one (x ∷ xs) (suc i) v h at e =
      let least = total-at g xs i v at in
      let first = h 0 x refl (omega arith) in
      let rest = total-one xs i v (λ j u at'. h (suc j) u at') at (omega arith) in
      omega arith

pub times-append : (x : ℕ) (a b : List ℕ) → times x (a ++ b) ≡ times x a + times x b
times-append x [] b = omega arith
times-append x (y ∷ ys) b = let r = times-append x ys b in omega arith

-- the counter goes up by one below n, and past n
pub once_below-more : (x c n : ℕ) → c < n → once_below x (min (c + 1) n) ≡ once_below x (min c n) + cond (c == x) 1 0
once_below-more x c n h = grind (arith, nat_tests)

pub once_below-past : (x c n : ℕ) → n ≤ c → once_below x (min (c + 1) n) ≡ once_below x (min c n)
once_below-past x c n h = let e : min (c + 1) n ≡ min c n = omega arith in ap (once_below x) e

pub once_below-min : (x c n : ℕ) → once_below x (min c n) ≤ once_below x n
once_below-min x c n = grind (arith, nat_tests)

-- ---- a list with each number below n at most once has no more than n
abbrev without : ℕ → List ℕ → List ℕ
without n [] = []
without n (y ∷ ys) = cond (y == n) (without n ys) (y ∷ without n ys)

-- a test is true or false
pub data Tested (b : Bool) : Type 0 where
  hit : b ≡ true → Tested b
  miss : b ≡ false → Tested b

pub tested : (b : Bool) → Tested b
tested true = hit refl
tested false = miss refl

length-without : (n : ℕ) (l : List ℕ) → length l ≡ times n l + length (without n l)
length-without n [] = omega arith
length-without n (y ∷ ys) = let r = length-without n ys in go (y == n) r
  where
    go : (b : Bool) → length ys ≡ times n ys + length (without n ys)
        → suc (length ys) ≡ cond b 1 0 + times n ys + length (cond b (without n ys) (y ∷ without n ys))
    go true r = omega arith
    go false r = omega arith

times-without-le : (x n : ℕ) (l : List ℕ) → times x (without n l) ≤ times x l
times-without-le x n [] = omega arith
times-without-le x n (y ∷ ys) = let r = times-without-le x n ys in go (y == n) r
  where
    go : (b : Bool) → times x (without n ys) ≤ times x ys → times x (cond b (without n ys) (y ∷ without n ys))
        ≤ cond (y == x) 1 0 + times x ys
    go true r = omega arith
    go false r = omega arith

times-without : (n : ℕ) (l : List ℕ) → times n (without n l) ≡ 0
times-without n [] = refl
times-without n (y ∷ ys) = let r = times-without n ys in go (y == n) refl r
  where
    go : (b : Bool) → (y == n) ≡ b → times n (without n ys) ≡ 0 → times n (cond b (without n ys) (y ∷ without n ys)) ≡ 0
    go true e r = r
    go false e r = let none : cond {A = ℕ} (y == n) 1 0 ≡ 0 = ap (λ (c : Bool). cond {A = ℕ} c 1 0) e in omega arith

times-head : (y : ℕ) (ys : List ℕ) → 1 ≤ times y (y ∷ ys)
times-head y ys =
    let here : (y == y) ≡ true = grind (arith, nat_tests) in let one : cond {A = ℕ} (y == y) 1 0 ≡ 1 =
    ap (λ (c : Bool). cond {A = ℕ} c 1 0) here in omega arith

pub pigeons : (n : ℕ) (l : List ℕ) → ((x : ℕ) → times x l ≤ once_below x n) → length l ≤ n
pigeons zero [] h = omega arith
pigeons zero (y ∷ ys) h =
    let at = h y in
    let here = times-head y ys in
    let none : once_below y 0 ≡ 0 = grind (arith, nat_tests) in
    absurd (omega arith)
pigeons (suc n) l h =
    let parts = length-without n l in
    let one : times n l ≤ once_below n (suc n) = h n in
    let most : once_below n (suc n) ≤ 1 = grind (arith, nat_tests) in
    let rest = pigeons n (without n l) (λ x. go x (tested (x == n))) in
    omega arith
  where
    go : (x : ℕ) → Tested (x == n) → times x (without n l) ≤ once_below x n
    go x (hit e) =
        let same : x ≡ n = grind (arith, nat_tests) in
        let none : times x (without n l) ≡ 0 = ap (λ k. times k (without n l)) same ∙ times-without n l in
        omega arith
    go x (miss e) =
        let less = times-without-le x n l in
        let was = h x in
        let same : once_below x (suc n) ≡ once_below x n = grind (arith, nat_tests) in
        omega arith
