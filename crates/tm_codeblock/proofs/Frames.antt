-- The whole frames of a list that goes on.
use Rattle.std.proofs.Common.{◌≡◌, ℕ, zero, suc, ◌+◌, ◌*◌, ◌/◌, ◌<◌, ◌≤◌, List, [], ◌∷◌, ◌++◌, length, take, drop, refl, sym, ◌∙◌, ap, arith, append_assoc, length-append, take-append-drop, length-drop}
use Rattle.std.specs.List.{concat}
use Rattle.std.proofs.lemmas.List.Folds.{concat-append}
use Rattle.std.proofs.lemmas.List.{take_at, drop_at, length-take-le, drop-drop}
use Rattle.std.proofs.lemmas.Nat.{div-mul-add, div-add-mod', mod_below}
use Rattle.std.proofs.lemmas.Grind.{common_steps}
use Rattle.tm_codeblock.specs.Frames.{first_frames, whole_frames, after_frames, HaveSize, Splits}

length-concat : (size : ℕ) (frames : List (List ℕ)) → HaveSize size frames
    → length (concat frames) ≡ length frames * size
length-concat size [] sized = omega arith
length-concat size (frame ∷ frames) sized =
    let more = length-concat size frames sized.1 in grind (arith, common_steps, length-append frame (concat frames))

first-are : (size : ℕ) (frames : List (List ℕ)) (held : List ℕ) → HaveSize size frames
    → first_frames size (length frames) (concat frames ++ held) ≡ frames
first-are size [] held sized = refl
first-are size (frame ∷ frames) held sized =
    let joined = append_assoc frame (concat frames) held in
    let prefix : take size ((frame ++ concat frames) ++ held) ≡ frame =
    rw joined (take_at frame (concat frames ++ held) size sized.0) in
    let rest : drop size ((frame ++ concat frames) ++ held) ≡ concat frames ++ held =
    rw joined (drop_at frame (concat frames ++ held) size sized.0) in
    (λ i. prefix i ∷ first_frames size (length frames) (rest i))
    ∙ ap (λ fs. frame ∷ fs) (first-are size frames held sized.1)

count-is : (size : ℕ) (octets : List ℕ) (frames : List (List ℕ)) (held : List ℕ) → Splits size octets frames held
    → length octets / size ≡ length frames
count-is size octets frames held s =
    ap (λ n. n / size) (ap length s.whole ∙ length-append (concat frames) held
    ∙ ap (λ n. n + length held) (length-concat size frames s.sized))
    ∙ div-mul-add (length frames) size (length held) s.partial

pub frames-are : (size : ℕ) (octets : List ℕ) (frames : List (List ℕ)) (held : List ℕ)
    → Splits size octets frames held → whole_frames size octets ≡ frames
unfolding whole_frames
frames-are size octets frames held s =
    (λ i. first_frames size (count-is size octets frames held s i) (s.whole i)) ∙ first-are size frames held s.sized

pub after-is : (size : ℕ) (octets : List ℕ) (frames : List (List ℕ)) (held : List ℕ) → Splits size octets frames held
    → after_frames size octets ≡ held
after-is size octets frames held s =
    (λ i. drop (count-is size octets frames held s i * size) (s.whole i))
    ∙ drop_at (concat frames) held (length frames * size) (length-concat size frames s.sized)

first-split : (size count : ℕ) (octets : List ℕ) → count * size ≤ length octets
    → (concat (first_frames size count octets) ++ drop (count * size) octets ≡ octets)
    × HaveSize size (first_frames size count octets)
first-split size zero octets le = let none : 0 * size ≡ 0 = omega arith in (ap (λ n. drop n octets) none, tt)
first-split size (suc count) octets le =
    let more = first-split size count (drop size octets) (grind (arith, common_steps)) in
    let steps : suc count * size ≡ size + count * size = grind arith in
    let rest : drop (suc count * size) octets ≡ drop (count * size) (drop size octets) = ap (λ n. drop n octets) steps
    ∙ sym (drop-drop (count * size) size octets) in (
      append_assoc (take size octets) (concat (first_frames size count (drop size octets)))
          (drop (suc count * size) octets)
          ∙ ap (λ l. take size octets ++ (concat (first_frames size count (drop size octets)) ++ l)) rest
          ∙ ap (λ l. take size octets ++ l) more.0 ∙ take-append-drop size octets,
      (length-take-le size octets (grind arith), more.1),
    )

pub splits : (size : ℕ) (octets : List ℕ) → 0 < size → Splits size octets (whole_frames size octets)
    (after_frames size octets)
unfolding whole_frames
splits size octets pos =
    let parts = first-split size (length octets / size) octets (omega (arith, div-add-mod' (length octets) size)) in
    record {
      whole = sym parts.0;
      sized = parts.1;
      partial =
          let below = mod_below (length octets) size pos in
          omega (arith, length-drop (length octets / size * size) octets, div-add-mod' (length octets) size);
    }

-- what comes after goes on from the octets that are held
pub splits-more : (size : ℕ) (octets more held rest : List ℕ) (frames others : List (List ℕ))
    → Splits size octets frames held → Splits size (held ++ more) others rest
    → Splits size (octets ++ more) (frames ++ others) rest
splits-more size octets more held rest frames others s t = record {
  whole =
      ap (λ l. l ++ more) s.whole ∙ append_assoc (concat frames) held more ∙ ap (λ l. concat frames ++ l) t.whole
      ∙ sym (append_assoc (concat frames) (concat others) rest)
      ∙ ap (λ l. l ++ rest) (sym (concat-append frames others));
  sized = joined frames s.sized;
  partial = t.partial;
}
  where
    joined : (fs : List (List ℕ)) → HaveSize size fs → HaveSize size (fs ++ others)
    joined [] h = t.sized
    joined (f ∷ fs) h = (h.0, joined fs h.1)

-- the whole frames of a longer list are those of its prefix, and then others
pub whole_frames-more : (size : ℕ) (octets more : List ℕ) → 0 < size
    → whole_frames size (octets ++ more) ≡ whole_frames size octets
    ++ whole_frames size (after_frames size octets ++ more)
whole_frames-more size octets more pos =
    let held = after_frames size octets in
    let others = whole_frames size (held ++ more) in
    let rest = after_frames size (held ++ more) in
    frames-are size (octets ++ more) (whole_frames size octets ++ others) rest
    (splits-more size octets more held rest (whole_frames size octets) others (splits size octets pos)
    (splits size (held ++ more) pos))
