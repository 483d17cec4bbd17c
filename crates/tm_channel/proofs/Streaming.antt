-- What a receiver keeps and has handed over, as bits go on.
use Rattle.std.proofs.Common.{◌≡◌, ℕ, zero, suc, ◌+◌, ◌-◌, ◌<◌, ◌≤◌, Bool, List, [], ◌∷◌, ◌++◌, length, take, drop, map, refl, sym, ap, ◌∙◌, subst, arith, length-drop, take-append-drop, None, inl, inr}
use Rattle.std.specs.List.{AllByRecursion}
use Rattle.std.proofs.lemmas.List.{length-map, take-append-le, drop-append-le, append-nil}
use Rattle.std.proofs.Math.Seq.{drop-length, drop-nil, take-length}
use Rattle.tm_base.specs.Pieces.{beyond}
use Rattle.tm_sync.specs.declared.found.Found.{Found}
use Rattle.tm_sync.specs.Finding.{Finding, places_left}
use Rattle.tm_sync.proofs.Longer.{EndBefore}
use Rattle.tm_sync.proofs.Rescanned.{places_after-nil}
use Rattle.tm_config.specs.Configuration.{Configuration}
use Rattle.tm_sync.specs.Places.{Rules}
use Rattle.tm_codeblock.specs.ReceivedCodeblock.{rules_of, codeblock_at, columns_of, places_in, sound_in}
use Rattle.tm_codeblock.proofs.PlacesIn.{places_in-end}
use Rattle.tm_channel.specs.Items.{ItemValue, IsItem, AreItemsOf, AreFirstItemsOf}
use Rattle.tm_channel.specs.Due.{in_batches, due_count, due_count_of, due_of, due}
use Rattle.tm_channel.specs.Receiving.{StoredCodeblock, stored_of, stored_at, AreItemsFor, Holding, IsHanded}
use Rattle.tm_channel.proofs.Batches.{batches-le, full, length-due, not_full}

-- ---- codeblocks stay as the bits go on
block-same : (c : Configuration) (bits more : List Bool) (f : Found)
    → f.place + 32 + (rules_of c).block_bits ≤ length bits → stored_at c (bits ++ more) f ≡ stored_at c bits f
block-same c bits more f ends =
    let far : take (rules_of c).block_bits (drop (f.place + 32) (bits ++ more))
    ≡ take (rules_of c).block_bits (drop (f.place + 32) bits) =
    ap (take (rules_of c).block_bits) (drop-append-le (f.place + 32) bits more (omega arith))
    ∙ take-append-le (rules_of c).block_bits (drop (f.place + 32) bits) more
    (omega (arith, length-drop (f.place + 32) bits)) in
    λ i. stored_of c f (far i)

pub stored-same : (c : Configuration) (bits more : List Bool) (fs : List Found)
    → EndBefore (rules_of c) (length bits) fs → map (stored_at c (bits ++ more)) fs ≡ map (stored_at c bits) fs
stored-same c bits more [] ends = refl
stored-same c bits more (f ∷ fs) ends = λ i. block-same c bits more f ends.0 i ∷ stored-same c bits more fs ends.1 i

pub drop-all : {A : Type 0} (P : A → Type 0) (count : ℕ) (xs : List A) → AllByRecursion P xs
    → AllByRecursion P (drop count xs)
drop-all P zero xs all = all
drop-all P (suc count) [] all = tt
drop-all P (suc count) (x ∷ xs) all = drop-all P count xs all.1

-- ---- items of stored codeblocks are items of the bits
pub items-of : (c : Configuration) (bits : List Bool) (fs : List Found) (items : List ItemValue)
    → AreItemsFor c (map (stored_at c bits) fs) items → AreItemsOf c bits fs items
items-of c bits [] [] are = tt
items-of c bits [] (item ∷ items) are = absurd are
items-of c bits (f ∷ fs) [] are = absurd are
items-of c bits (f ∷ fs) (item ∷ items) are = (are.0, items-of c bits fs items are.1)

-- ---- the places that were found are the first ones

found-parts : (c : Configuration) (s : Finding) (recent : List Bool) (stored : List StoredCodeblock) (handed : ℕ)
    (bits : List Bool) (found : List Found) → Holding c s recent stored handed bits found
    → places_in c bits ≡ found ++ places_left s (sound_in c (bits ++ [])) (recent ++ [])
found-parts c s recent stored handed bits found h = ap (places_in c) (sym (append-nil bits)) ∙ h.places []

-- their codeblocks are whole
all-first : (P : Found → Type 0) (xs ys : List Found) → AllByRecursion P (xs ++ ys) → AllByRecursion P xs
all-first P [] ys all = tt
all-first P (x ∷ xs) ys all = (all.0, all-first P xs ys all.1)

pub found-end : (c : Configuration) (s : Finding) (recent : List Bool) (stored : List StoredCodeblock) (handed : ℕ)
    (bits : List Bool) (found : List Found) → Holding c s recent stored handed bits found
    → EndBefore (rules_of c) (length bits) found
found-end c s recent stored handed bits found h =
    all-first (λ f. f.place + 32 + (rules_of c).block_bits ≤ length bits) found
    (places_left s (sound_in c (bits ++ [])) (recent ++ []))
    (subst (λ (fs : List Found). EndBefore (rules_of c) (length bits) fs)
    (found-parts c s recent stored handed bits found h) (places_in-end c bits))

-- items of a prefix of the places are first ones
pub first-of : (c : Configuration) (bits : List Bool) (count : ℕ) (fs : List Found) (items : List ItemValue)
    → AreItemsOf c bits (take count fs) items → AreFirstItemsOf c bits fs items
first-of c bits count fs [] are = tt
first-of c bits zero fs (item ∷ items) are = absurd are
first-of c bits (suc count) [] (item ∷ items) are = absurd are
first-of c bits (suc count) (f ∷ fs) (item ∷ items) are = (are.0, first-of c bits count fs items are.1)

-- ---- items of a prefix of the places

pub items-append : (c : Configuration) (bits : List Bool) (fs gs : List Found) (items others : List ItemValue)
    → AreItemsOf c bits fs items → AreItemsOf c bits gs others
    → AreItemsOf c bits (fs ++ gs) (items ++ others)
items-append c bits [] gs [] others are also = also
items-append c bits [] gs (item ∷ items) others are also = absurd are
items-append c bits (f ∷ fs) gs [] others are also = absurd are
items-append c bits (f ∷ fs) gs (item ∷ items) others are also =
    (are.0, items-append c bits fs gs items others are.1 also)

-- ---- a batch that is full, or not

-- how many codeblocks wait
waiting-count : (c : Configuration) (s : Finding) (recent : List Bool)
    (stored : List StoredCodeblock)
    (handed : ℕ) (bits : List Bool) (reported : List Found)
    → Holding c s recent stored handed bits reported → length stored ≡ length reported - handed
waiting-count c s recent stored handed bits reported h =
    ap length h.waiting ∙ length-map (drop handed reported) (stored_at c bits) ∙ length-drop handed reported

-- what follows the places of a prefix that are due
pub after-due : (c : Configuration) (bits : List Bool) (fs : List Found)
    → beyond (due c bits) fs ≡ drop (due_count c bits) fs
after-due c bits fs =
    ap (λ k. drop k fs) (length-due c bits)

-- the batch was handed over where it is full with what was reported last
pub batch-stands : (c : Configuration) (s : Finding) (recent : List Bool) (stored stored' : List StoredCodeblock)
    (reported now : List Found) (bits : List Bool) (items : List ItemValue)
    → Holding c s recent stored (due_count_of c reported) bits now → IsHanded c stored stored' items
    → Holding c s recent stored' (due_count_of c now) bits now
batch-stands c s recent stored stored' reported now bits items h (inl (few, same, none)) =
    let count = waiting-count c s recent stored (due_count_of c reported) bits now h in
    let still = not_full c.batch (length reported) (length now) h.within (subst (λ n. n < c.batch) count few) in
    subst (λ (l : List StoredCodeblock). Holding c s recent l (due_count_of c now) bits now) (sym same)
    (subst (λ n. Holding c s recent stored n bits now) (sym still) h)
batch-stands c s recent stored stored' reported now bits items h (inr (many, nothing, are)) =
    let count = waiting-count c s recent stored (due_count_of c reported) bits now h in
    let whole = full c.batch (length reported) (length now) h.within (sym count ∙ many) in
    record {
      passed = h.passed;
      left = h.left;
      places = h.places;
      within = batches-le c.batch (length now);
      waiting = nothing ∙ ap (map (stored_at c bits)) (sym (ap (λ n. drop n now) whole ∙ drop-length now));
    }

-- the places reported that are due, before and after those that wait
due-before : (c : Configuration) (reported fs : List Found)
    → take (due_count_of c reported) (reported ++ fs) ≡ due_of c reported
due-before c reported fs =
    take-append-le (due_count_of c reported) reported fs (batches-le c.batch (length reported))

-- the items of the places reported that are due, and those handed over
pub batch-items : (c : Configuration) (s : Finding) (recent : List Bool) (stored stored' : List StoredCodeblock)
    (reported fs : List Found) (bits : List Bool) (items others : List ItemValue)
    → Holding c s recent stored (due_count_of c reported) bits (reported ++ fs)
    → IsHanded c stored stored' others → AreItemsOf c bits (due_of c reported) items
    → AreItemsOf c bits (due_of c (reported ++ fs)) (items ++ others)
batch-items c s recent stored stored' reported fs bits items others h (inl (few, same, none)) were =
    let now : List Found = reported ++ fs in
    let wait = waiting-count c s recent stored (due_count_of c reported) bits now h in
    let still = not_full c.batch (length reported) (length now) h.within (subst (λ n. n < c.batch) wait few) in
    let due_now : due_of c now ≡ due_of c reported = ap (λ n. take n now) still ∙ due-before c reported fs in
    subst (λ (fs : List Found). AreItemsOf c bits fs (items ++ others)) (sym due_now)
    (subst (λ (l : List ItemValue). AreItemsOf c bits (due_of c reported) l)
    (sym (ap (λ l. items ++ l) none ∙ append-nil items)) were)
batch-items c s recent stored stored' reported fs bits items others h (inr (many, nothing, are)) were =
    let now : List Found = reported ++ fs in
    let rest : List Found = drop (due_count_of c reported) now in
    let wait = waiting-count c s recent stored (due_count_of c reported) bits now h in
    let whole = full c.batch (length reported) (length now) h.within (sym wait ∙ many) in
    let all : due_of c now ≡ due_of c reported ++ rest = ap (λ n. take n now) whole ∙ take-length now
    ∙ sym (take-append-drop (due_count_of c reported) now) ∙ ap (λ l. l ++ rest) (due-before c reported fs) in
    subst (λ (fs : List Found). AreItemsOf c bits fs (items ++ others)) (sym all)
    (items-append c bits (due_of c reported) rest items others were (items-of c bits rest others
    (subst (λ (ks : List StoredCodeblock). AreItemsFor c ks others) h.waiting are)))

pub take-take : {A : Type 0} (a c : ℕ) (xs : List A) → a ≤ c → take a (take c xs) ≡ take a xs
take-take zero c xs le = refl
take-take (suc a) zero xs le = absurd (omega arith)
take-take (suc a) (suc c) [] le = refl
take-take (suc a) (suc c) (x ∷ xs) le = ap (λ l. x ∷ l) (take-take a c xs (omega arith))

-- ---- items stay as the bits go on
item-more : (c : Configuration) (bits more : List Bool) (f : Found) (item : ItemValue)
    → f.place + 32 + (rules_of c).block_bits ≤ length bits
    → IsItem c f (codeblock_at c bits f) item → IsItem c f (codeblock_at c (bits ++ more) f) item
item-more c bits more f item ends is =
    subst (λ (k : StoredCodeblock). IsItem c f k.codeblock item) (sym (block-same c bits more f ends)) is

pub items-more : (c : Configuration) (bits more : List Bool) (fs : List Found) (items : List ItemValue)
    → EndBefore (rules_of c) (length bits) fs → AreItemsOf c bits fs items → AreItemsOf c (bits ++ more) fs items
items-more c bits more [] [] ends are = tt
items-more c bits more [] (item ∷ items) ends are = absurd are
items-more c bits more (f ∷ fs) [] ends are = absurd are
items-more c bits more (f ∷ fs) (item ∷ items) ends are =
    (item-more c bits more f item ends.0 are.0, items-more c bits more fs items ends.1 are.1)

take-all : {A : Type 0} (P : A → Type 0) (count : ℕ) (xs : List A) → AllByRecursion P xs
    → AllByRecursion P (take count xs)
take-all P zero xs all = tt
take-all P (suc count) [] all = tt
take-all P (suc count) (x ∷ xs) all = (all.0, take-all P count xs all.1)

pub due-end : (c : Configuration) (bits : List Bool) → EndBefore (rules_of c) (length bits) (due c bits)
due-end c bits =
    take-all (λ f. f.place + 32 + (rules_of c).block_bits ≤ length bits) (due_count c bits) (places_in c bits)
    (places_in-end c bits)

pub ends-longer : (rules : Rules) (count more : ℕ) (fs : List Found) → count ≤ more → EndBefore rules count fs
    → EndBefore rules more fs
ends-longer rules count more [] within ends = tt
ends-longer rules count more (f ∷ fs) within ends =
    (omega (arith, ends.0, within), ends-longer rules count more fs within ends.1)

-- ---- the end
pub items-last : (c : Configuration) (s : Finding) (recent : List Bool)
    (stored : List StoredCodeblock) (bits : List Bool) (items : List ItemValue)
    → Holding c s recent stored (due_count c bits) bits (places_in c bits) → AreItemsFor c stored items
    → AreItemsOf c bits (beyond (due c bits) (places_in c bits)) items
items-last c s recent stored bits items h are =
    let waiting : List Found = drop (due_count c bits) (places_in c bits) in
    subst (λ (fs : List Found). AreItemsOf c bits fs items) (sym (after-due c bits (places_in c bits)))
    (items-of c bits waiting items (subst (λ (ks : List StoredCodeblock). AreItemsFor c ks items) h.waiting are))

-- no bits
pub stands-new : (c : Configuration) (s : Finding) (recent : List Bool)
    → s ≡ record { rules = rules_of c; columns = columns_of c; passed = 0; last = None } → recent ≡ []
    → Holding c s recent [] (due_count c []) [] (places_in c [])
stands-new c s recent new none =
    let no : places_in c [] ≡ [] = places_after-nil (rules_of c) (columns_of c) (sound_in c []) 0 None in
    subst (λ (s : Finding). Holding c s recent [] (due_count c []) [] (places_in c [])) (sym new)
    (subst (λ (recent : List Bool). Holding c
    (record { rules = rules_of c; columns = columns_of c; passed = 0; last = None }) recent [] (due_count c []) []
    (places_in c [])) (sym none)
    (record {
      passed = omega arith;
      left = refl;
      places = λ more. ap (λ fs. fs ++ places_in c more) (sym no);
      within = batches-le c.batch (length (places_in c []));
      waiting = ap (map (stored_at c [])) (sym (drop-nil (in_batches c.batch 0)))
          ∙ ap (λ (fs : List Found). map (stored_at c []) (drop (in_batches c.batch (length fs)) fs)) (sym no);
    }))
