-- Lists of words, each of which changes in its place.
use Rattle.std.proofs.Common.{◌≡◌, ℕ, zero, suc, ◌+◌, ◌-◌, ◌<◌, ◌≤◌, get_or, sym, ap, ◌∙◌, subst, List, [], ◌∷◌, ◌++◌, length, take, drop, set, arith}
use Rattle.std.proofs.Math.Seq.{take-add}
use Rattle.std.proofs.lemmas.List.{drop-drop, length-drop, length-take-le}
use Rattle.std.proofs.lemmas.Slice.Zip.{AllZip-long}
use Rattle.std.proofs.lemmas.Slice.{take-put_mid, drop-put_mid}
use borrow.Rule.Slice.PartMut.{put_mid}
use Rattle.tm_workers.specs.Batch.{EachBecomes}

module _ {W : Type 0} (becomes : W → W → Type 0) where
  pub EachBecomes-append : (a a' b b' : List W) → EachBecomes becomes a a' → EachBecomes becomes b b'
      → EachBecomes becomes (a ++ b) (a' ++ b')
  EachBecomes-append [] [] b b' h k = k
  EachBecomes-append [] (x ∷ a') b b' h k = absurd h
  EachBecomes-append (x ∷ a) [] b b' h k = absurd h
  EachBecomes-append (x ∷ a) (x' ∷ a') b b' h k = (h.0, EachBecomes-append a a' b b' h.1 k)

  -- one word more
  pub each_more : (olds xs : List W) (i : ℕ) (w' d : W) → i < length olds → length xs ≡ length olds
      → drop i xs ≡ drop i olds
      → becomes (get_or xs i d) w' → EachBecomes becomes (take i olds) (take i xs)
      → EachBecomes becomes (take (suc i) olds) (take (suc i) (set xs i w'))
      × (drop (suc i) (set xs i w') ≡ drop (suc i) olds)
  each_more [] xs i w' d lt len rest h done = absurd (omega arith)
  each_more (o ∷ olds) [] i w' d lt len rest h done = absurd (omega arith)
  each_more (o ∷ olds) (x ∷ xs) zero w' d lt len rest h done =
      let head : x ≡ o = cc in
      let tail : xs ≡ olds = cc in
      ((subst (λ v. becomes v w') head h, tt), tail)
  each_more (o ∷ olds) (x ∷ xs) (suc i) w' d lt len rest h done =
      let r = each_more olds xs i w' d (omega arith) (omega arith) rest h done.1 in
      ((done.0, r.0), r.1)

  -- a part more, from place a to place b
  pub part_more : (olds xs ys : List W) (a b : ℕ) → a ≤ b → b ≤ length xs → drop a xs ≡ drop a olds
      → EachBecomes becomes (take (b - a) (drop a xs)) ys
      → EachBecomes becomes (take a olds) (take a xs)
      → EachBecomes becomes (take b olds) (take b (put_mid a (b - a) xs ys))
      × (drop b (put_mid a (b - a) xs ys) ≡ drop b olds)
  part_more olds xs ys a b order within rest part done =
      let k : ℕ = b - a in
      let sum : b ≡ a + k = omega arith in
      let long : length ys ≡ k = AllZip-long becomes (take k (drop a xs)) ys part
      ∙ length-take-le k (drop a xs) (omega (arith, length-drop a xs)) in
      let before : take b olds ≡ take a olds ++ take k (drop a xs) = ap (λ n. take n olds) sum
      ∙ take-add a k olds ∙ ap (λ l. take a olds ++ take k l) (sym rest) in
      let after : take b (put_mid a k xs ys) ≡ take a xs ++ ys =
      take-put_mid a k xs ys b (omega arith) (omega arith) in
      let same : drop b xs ≡ drop b olds = ap (λ n. drop n xs) sum ∙ sym (drop-drop k a xs)
      ∙ ap (drop k) rest ∙ drop-drop k a olds ∙ ap (λ n. drop n olds) (sym sum) in (
        subst (EachBecomes becomes (take b olds)) (sym after)
            (subst (λ l. EachBecomes becomes l (take a xs ++ ys)) (sym before)
            (EachBecomes-append (take a olds) (take a xs) (take k (drop a xs)) ys done part)),
        drop-put_mid a k xs ys b (omega arith) (omega arith) long ∙ same,
      )

-- what each word becomes in one way it becomes in another
pub each_as : {W : Type 0} (R S : W → W → Type 0) (a b : List W) → EachBecomes R a b
    → ((w w' : W) → R w w' → S w w') → EachBecomes S a b
each_as R S [] [] h f = tt
each_as R S [] (y ∷ b) h f = absurd h
each_as R S (x ∷ a) [] h f = absurd h
each_as R S (x ∷ a) (y ∷ b) h f = (f x y h.0, each_as R S a b h.1 f)

-- what the words at each place become
pub each_at : {W : Type 0} (R : W → W → Type 0) (a b : List W) → length b ≡ length a
    → ((i : ℕ) (d : W) → i < length a → R (get_or a i d) (get_or b i d)) → EachBecomes R a b
each_at R [] [] same h = tt
each_at R [] (y ∷ b) same h = absurd (omega arith)
each_at R (x ∷ a) [] same h = absurd (omega arith)
each_at R (x ∷ a) (y ∷ b) same h =
    (h 0 x (omega arith), each_at R a b (omega arith) (λ i d below. h (suc i) d (omega arith)))
