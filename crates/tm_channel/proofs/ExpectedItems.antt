-- Slots that hold the items of their codeblocks.
use Rattle.std.proofs.Common.{get_or, length-append, length-drop, length-set, ◌≡◌, ◌∙◌, ◌+◌, ◌-◌, ◌*◌, ◌<◌, ◌≤◌, ℕ, zero, suc, Bool, List, [], ◌∷◌, ◌++◌, length, map, take, drop, set, refl, sym, ap, subst, arith}
use Rattle.std.proofs.lemmas.List.{append-nil, drop_all, get_or-set_same, length-take-le, map-append, take_at}
use Rattle.std.proofs.Math.Seq.{drop-append-add, take-append-add}
use borrow.Rule.Slice.PartMut.{put_mid}
use Rattle.tm_config.specs.Configuration.{Configuration, codeblock_length}
use Rattle.tm_sync.specs.declared.found.Found.{Found}
use Rattle.tm_codeblock.specs.ReceivedCodeblock.{codeblock_in, is_sound}
use Rattle.tm_channel.specs.Items.{IsItem, are_fixed}
use Rattle.tm_channel.specs.Receiving.{StoredCodeblock, stored_of}
use Rattle.tm_channel.specs.Storing.{AreItemsIn, item_in, stored_in}
use Rattle.tm_channel.specs.declared.slot.Slot.{Slot}
use Rattle.tm_channel.proofs.Repaired.{item-sound}
use Rattle.tm_channel.proofs.Streaming.{take-take}

pub in-first : (c : Configuration) (count : ℕ) (slots : List Slot) → AreItemsIn c slots
    → AreItemsIn c (take count slots)
in-first c zero slots are = tt
in-first c (suc count) [] are = tt
in-first c (suc count) (s ∷ slots) are = (are.0, in-first c count slots are.1)

in-both : (c : Configuration) (slots others : List Slot) → AreItemsIn c slots → AreItemsIn c others
    → AreItemsIn c (slots ++ others)
in-both c [] others are also = also
in-both c (s ∷ slots) others are also = (are.0, in-both c slots others are.1 also)

-- fewer of the first ones
pub in-fewer : (c : Configuration) (count most : ℕ) (slots : List Slot) → count ≤ most
    → AreItemsIn c (take most slots) → AreItemsIn c (take count slots)
in-fewer c count most slots fewer are =
    subst (AreItemsIn c) (take-take count most slots fewer) (in-first c count (take most slots) are)

-- those behind the first one
none-in : (c : Configuration) (count : ℕ) → AreItemsIn c (take count [])
none-in c zero = tt
none-in c (suc count) = tt

rest-in : (c : Configuration) (count : ℕ) (slots : List Slot) → AreItemsIn c (take (suc count) slots)
    → AreItemsIn c (take count (drop 1 slots))
rest-in c count [] are = none-in c count
rest-in c count (s ∷ slots) are = are.1

pub in-rest : (c : Configuration) (count : ℕ) (slots : List Slot) → AreItemsIn c (take (count + 1) slots)
    → AreItemsIn c (take count (drop 1 slots))
in-rest c count slots are =
    let next : count + 1 ≡ suc count = omega arith in
    rest-in c count slots (subst (λ n. AreItemsIn c (take n slots)) next are)

-- the first slot was written
pub first-set : {B : Type 0} (f : Slot → B) (slots : List Slot) (x : Slot) → 0 < length slots
    → map f (take 1 (set slots 0 x)) ≡ f x ∷ []
first-set f [] x some = absurd (omega (arith, some))
first-set f (s ∷ slots) x some = refl

pub first-stored : (c : Configuration) (f : Found) (size : ℕ) (x : Slot) (rest : List Bool) → size ≡ codeblock_length c
    → stored_in size x ≡ stored_of c f (take (8 * size) rest)
    → stored_in (codeblock_length c) x ≡ stored_of c f (take (8 * codeblock_length c) rest)
first-stored c f size x rest same fill =
    (λ i. stored_in (sym same i) x) ∙ fill ∙ (λ i. stored_of c f (take (8 * same i) rest))

-- the first of the slots that were read and repaired
pub first-kept : {B : Type 0} (f : Slot → B) (count : ℕ) (now read rest : List Slot) → 0 < count → count ≤ length read
    → map f (take count now) ≡ map f (take count (read ++ rest)) → map f (take 1 now) ≡ map f (take 1 read)
first-kept f zero now read rest some most same = absurd (omega (arith, some))
first-kept f (suc count) now [] rest some most same = absurd (omega (arith, most))
first-kept f (suc count) [] (s ∷ read) rest some most same = ap (take 1) same
first-kept f (suc count) (x ∷ now) (s ∷ read) rest some most same = ap (take 1) same

-- a slot was written and repaired, and its item says whether the codeblock is sound
pub probe-sound : (c : Configuration) (f : Found) (rest : List Bool) (slots : List Slot) (index size : ℕ) (x y d : Slot)
    → index < length slots → size ≡ codeblock_length c → stored_in size x ≡ stored_of c f (take (8 * size) rest)
    → IsItem c (get_or (set slots index x) index d).found
    (take (codeblock_length c) (get_or (set slots index x) index d).octets) (item_in c y)
    → are_fixed (item_in c (get_or (set (set slots index x) index y) index d)).answers
    ≡ is_sound c (codeblock_in c f.inverted (take (8 * codeblock_length c) rest))
probe-sound c f rest slots index size x y d below same fill is =
    let here : get_or (set slots index x) index d ≡ x = get_or-set_same slots index x d below in
    let there : get_or (set (set slots index x) index y) index d ≡ y =
    get_or-set_same (set slots index x) index y d (omega (arith, below, length-set slots index x)) in
    ap (λ (s : Slot). are_fixed (item_in c s).answers) there ∙ sym (item-sound c _ _ _ is)
    ∙ ap (λ (s : Slot). is_sound c (take (codeblock_length c) s.octets)) here
    ∙ ap (λ (k : StoredCodeblock). is_sound c k.codeblock) (first-stored c f size x rest same fill)

-- ---- the free slots, behind those that are stored

pub put-rest : {A : Type 0} (a k : ℕ) (xs ys : List A) → length xs ≤ a + k → put_mid a k xs ys ≡ take a xs ++ ys
put-rest a k xs ys all =
    ap (λ l. take a xs ++ (ys ++ l)) (drop_all k (drop a xs) (omega (arith, all, length-drop a xs)))
    ∙ ap (λ l. take a xs ++ l) (append-nil ys)

-- all slots, once the free ones of the old list were written
abbrev pub with_free : (len k : ℕ) → (items old free : List Slot) → List Slot
with_free len k items old free =
    take len (put_mid k (length old - k) old free ++ drop (length (put_mid k (length old - k) old free)) items)

pub free-length : (k : ℕ) (items old free : List Slot) → old ≡ items
    → length free ≡ length (take (length old - k) (drop k old)) → length free ≡ length items - k
free-length k items old free same long =
    omega (
      arith,
      long,
      ap length same,
      length-drop k old,
      length-take-le (length old - k) (drop k old) (omega (arith, length-drop k old)),
    )

pub whole-free : (len k : ℕ) (items old free : List Slot) → old ≡ items → len ≡ length items → k ≤ length items
    → length free ≡ length (take (length old - k) (drop k old))
    → with_free len k items old free ≡ take k items ++ free
whole-free len k items old free same all most long =
    let n = length old - k in
    let put : put_mid k n old free ≡ take k items ++ free =
    put-rest k n old free (omega arith) ∙ ap (λ l. take k l ++ free) same in
    take_at (put_mid k n old free) (drop (length (put_mid k n old free)) items) len
    (omega (
      arith,
      ap length put,
      length-append (take k items) free,
      length-take-le k items most,
      free-length k items old free same long,
      all,
      most,
    )) ∙ put

pub final-length : (len k : ℕ) (items old free : List Slot) → old ≡ items → len ≡ length items → k ≤ length items
    → length free ≡ length (take (length old - k) (drop k old))
    → length (with_free len k items old free) ≡ length items
final-length len k items old free same all most long =
    omega (
      arith,
      ap length (whole-free len k items old free same all most long),
      length-append (take k items) free,
      length-take-le k items most,
      free-length k items old free same long,
      most,
    )

-- one more is stored
pub next-kept : {B : Type 0} (f : Slot → B) (k : ℕ) (items now free : List Slot) (b : B) → now ≡ take k items ++ free
    → k ≤ length items → map f (take 1 free) ≡ b ∷ [] → map f (take (k + 1) now) ≡ map f (take k items) ++ b ∷ []
next-kept f k items now free b whole most one =
    ap (λ l. map f (take (k + 1) l)) whole
    ∙ ap (λ n. map f (take (n + 1) (take k items ++ free))) (sym (length-take-le k items most))
    ∙ ap (map f) (take-append-add (take k items) free 1) ∙ map-append f (take k items) (take 1 free)
    ∙ ap (λ l. map f (take k items) ++ l) one

-- those behind it are still expected
pub next-left : (c : Configuration) (k count : ℕ) (items now free : List Slot) → now ≡ take k items ++ free
    → k ≤ length items → AreItemsIn c (take (count + 1) free) → AreItemsIn c (take count (drop (k + 1) now))
next-left c k count items now free whole most are =
    let left : drop (k + 1) now ≡ drop 1 free =
    ap (drop (k + 1)) whole ∙ ap (λ n. drop (n + 1) (take k items ++ free)) (sym (length-take-le k items most))
    ∙ drop-append-add (take k items) free 1 in
    subst (λ l. AreItemsIn c (take count l)) (sym left) (in-rest c count free are)

-- with its item
pub next-written : (c : Configuration) (k : ℕ) (items now free : List Slot) → now ≡ take k items ++ free
    → k ≤ length items → AreItemsIn c (take k items) → AreItemsIn c (take 1 free) → AreItemsIn c (take (k + 1) now)
next-written c k items now free whole most are one =
    let all : take (k + 1) now ≡ take k items ++ take 1 free =
    ap (take (k + 1)) whole ∙ ap (λ n. take (n + 1) (take k items ++ free)) (sym (length-take-le k items most))
    ∙ take-append-add (take k items) free 1 in
    subst (AreItemsIn c) (sym all) (in-both c (take k items) (take 1 free) are one)

-- and its item says whether it is sound
pub next-sound : (c : Configuration) (free : List Slot) (f : Found) (bits : List Bool) (d : Slot)
    → AreItemsIn c (take 1 free) → map (stored_in (codeblock_length c)) (take 1 free) ≡ stored_of c f bits ∷ []
    → are_fixed (item_in c (get_or free 0 d)).answers ≡ is_sound c (codeblock_in c f.inverted bits)
next-sound c [] f bits d are same = absurd (let none = ap length same in omega (arith, none))
next-sound c (s ∷ free) f bits d are same =
    sym (item-sound c _ _ _ are.0)
    ∙ ap (λ (l : List StoredCodeblock). is_sound c (get_or l 0 (stored_of c f bits)).codeblock) same
