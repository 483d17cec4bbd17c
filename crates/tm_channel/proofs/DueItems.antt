-- The items of first places stand first, whatever bits come.
use Rattle.std.proofs.Common.{◌≡◌, ◌<◌, ◌≤◌, ◌+◌, ◌*◌, ℕ, zero, suc, Bool, List, [], ◌∷◌, ◌++◌, length, take, drop, refl, sym, ap, ◌∙◌, subst, arith, take-append-drop, append_assoc, length-drop, length-append}
use Rattle.std.specs.List.{AllByRecursion}
use Rattle.std.proofs.lemmas.List.{drop-append-le, take-append-le}
use Rattle.tm_config.specs.Configuration.{Configuration, codeblock_length}
use Rattle.tm_config.specs.Accepted.{IsAccepted}
use Rattle.tm_sync.specs.declared.found.Found.{Found}
use Rattle.tm_codeblock.specs.ReceivedCodeblock.{codeblock_in, codeblock_at, places_in}
use Rattle.tm_channel.specs.Items.{ItemValue, IsItem, AreItemsOf, AreItems, HaveSymbols}
use Rattle.tm_channel.proofs.OnlyItems.{items-same}
use Rattle.tm_channel.proofs.Symbols.{have-first, have-longer}
use Rattle.tm_codeblock.proofs.PlacesIn.{places_in-append, places_in-end}

-- the codeblocks of these places end within the first `bound` bits
abbrev pub EndWithin : Configuration → ℕ → List Found → Type 0
EndWithin c bound fs = AllByRecursion (λ f. f.place + 32 + 8 * codeblock_length c ≤ bound) fs

-- items of some places are items of the first and of the rest
record Split (c : Configuration) (bits : List Bool) (fs gs : List Found) (items : List ItemValue) : Type 0 where
  first : List ItemValue
  rest : List ItemValue
  parts : items ≡ first ++ rest
  are_first : AreItemsOf c bits fs first

split : (c : Configuration) (bits : List Bool) (fs gs : List Found) (items : List ItemValue)
    → AreItemsOf c bits (fs ++ gs) items → Split c bits fs gs items
split c bits [] gs items are = record { first = []; rest = items; parts = refl; are_first = tt }
split c bits (f ∷ fs) gs [] are = absurd are
split c bits (f ∷ fs) gs (item ∷ items) are =
    let more = split c bits fs gs items are.1 in
    record {
      first = item ∷ more.first;
      rest = more.rest;
      parts = ap (λ l. item ∷ l) more.parts;
      are_first = (are.0, more.are_first);
    }

-- a codeblock that ends within the prefix of bits is the same in them all
codeblock-prefix : (c : Configuration) (prefix rest : List Bool) (f : Found)
    → f.place + 32 + 8 * codeblock_length c ≤ length prefix
    → codeblock_at c (prefix ++ rest) f ≡ codeblock_at c prefix f
codeblock-prefix c prefix rest f within =
    ap (codeblock_in c f.inverted)
    (ap (take (8 * codeblock_length c)) (drop-append-le (f.place + 32) prefix rest (omega arith))
    ∙ take-append-le (8 * codeblock_length c) (drop (f.place + 32) prefix) rest
    (omega (arith, length-drop (f.place + 32) prefix)))

items-prefix : (c : Configuration) (prefix rest : List Bool) (fs : List Found) (items : List ItemValue)
    → EndWithin c (length prefix) fs → AreItemsOf c prefix fs items → AreItemsOf c (prefix ++ rest) fs items
items-prefix c prefix rest [] [] within are = tt
items-prefix c prefix rest [] (item ∷ items) within are = absurd are
items-prefix c prefix rest (f ∷ fs) [] within are = absurd are
items-prefix c prefix rest (f ∷ fs) (item ∷ items) within are = (
  subst (λ (b : List ℕ). IsItem c f b item) (sym (codeblock-prefix c prefix rest f within.0)) are.0,
  items-prefix c prefix rest fs items within.1 are.1,
)

within-more : (c : Configuration) (n m : ℕ) (fs : List Found) → n ≤ m → EndWithin c n fs → EndWithin c m fs
within-more c n m [] le within = tt
within-more c n m (f ∷ fs) le within = (let one = within.0 in omega arith, within-more c n m fs le within.1)

within-take : (c : Configuration) (n k : ℕ) (fs : List Found) → EndWithin c n fs → EndWithin c n (take k fs)
within-take c n zero fs within = tt
within-take c n (suc k) [] within = tt
within-take c n (suc k) (f ∷ fs) within = (within.0, within-take c n k fs within.1)

-- the items of some of the first places of a prefix stand first among those of all bits
pub first-items : (c : Configuration) (at then : ℕ → ℕ) (prefix rest : List Bool) (k : ℕ)
    (due items : List ItemValue) → IsAccepted c
    → AreItemsOf c prefix (take k (places_in c prefix)) due → HaveSymbols at due
    → ((n : ℕ) → n < length prefix → at n ≡ then n)
    → AreItems c (prefix ++ rest) items → HaveSymbols then items
    → (others : List ItemValue) × (items ≡ due ++ others)
first-items c at then prefix rest k due items ok first have same_at all also =
    let fs = places_in c prefix in
    let gs = drop (length fs) (places_in c (prefix ++ rest)) in
    let whole : places_in c (prefix ++ rest) ≡ take k (places_in c prefix) ++ (drop k fs ++ gs) =
    places_in-append c prefix rest ∙ ap (λ l. l ++ gs) (sym (take-append-drop k fs))
    ∙ append_assoc (take k fs) (drop k fs) gs in
    let parts = split c (prefix ++ rest) (take k fs) (drop k fs ++ gs) items
    (subst (λ (l : List Found). AreItemsOf c (prefix ++ rest) l items) whole all) in
    let within = within-take c (length prefix) k fs (places_in-end c prefix) in
    let same : parts.first ≡ due =
    items-same c then (prefix ++ rest) (take k fs) parts.first due ok
    (within-more c (length prefix) (length (prefix ++ rest)) (take k fs)
    (omega (arith, length-append prefix rest)) within)
    parts.are_first (have-first then parts.first parts.rest (subst (HaveSymbols then) parts.parts also))
    (items-prefix c prefix rest (take k fs) due within first)
    (have-longer c at then (length prefix) prefix (take k fs) due first within same_at have) in
    (parts.rest, parts.parts ∙ ap (λ l. l ++ parts.rest) same)
