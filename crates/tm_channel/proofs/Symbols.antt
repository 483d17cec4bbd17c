-- The symbols that items say.
use Rattle.std.proofs.Common.{◌≡◌, ◌<◌, ◌≤◌, ◌+◌, ◌*◌, ℕ, Bool, List, [], ◌∷◌, ◌++◌, map, refl, sym, ap, ◌∙◌, arith}
use Rattle.std.specs.List.{AllByRecursion}
use Rattle.tm_config.specs.Configuration.{Configuration, codeblock_length}
use Rattle.tm_sync.specs.declared.found.Found.{Found}
use Rattle.tm_channel.specs.Items.{ItemValue, AreItemsOf, HaveSymbols}
use Rattle.tm_channel.specs.Origins.{AreAt, PlaceSymbol, place_symbol}

pub have-first : (at : ℕ → ℕ) (xs ys : List ItemValue) → HaveSymbols at (xs ++ ys) → HaveSymbols at xs
have-first at [] ys have = tt
have-first at (x ∷ xs) ys have = (have.0, have-first at xs ys have.1)

pub at-append : (at : ℕ → ℕ) (count : ℕ) (xs ys : List PlaceSymbol) → AreAt at count xs → AreAt at count ys
    → AreAt at count (xs ++ ys)
at-append at count [] ys are also = also
at-append at count (x ∷ xs) ys are also = (are.0, at-append at count xs ys are.1 also)

-- by symbols that are the same up to there, among more bits
pub at-longer : (at then : ℕ → ℕ) (count more : ℕ) (xs : List PlaceSymbol) → count ≤ more
    → ((n : ℕ) → n < count → then n ≡ at n) → AreAt at count xs → AreAt then more xs
at-longer at then count more [] le same are = tt
at-longer at then count more (x ∷ xs) le same are = (
  (are.0.0 ∙ sym (same x.place are.0.1), let below = are.0.1 in omega (arith, below, le)),
  at-longer at then count more xs le same are.1,
)

pub have-of : (at : ℕ → ℕ) (count : ℕ) (items : List ItemValue) → AreAt at count (map place_symbol items)
    → HaveSymbols at items
have-of at count [] are = tt
have-of at count (item ∷ items) are = (are.0.0, have-of at count items are.1)

-- the places of items end within so many bits, up to which the symbols are the same
pub have-longer : (c : Configuration) (at then : ℕ → ℕ) (count : ℕ) (bits : List Bool) (fs : List Found)
    (items : List ItemValue) → AreItemsOf c bits fs items
    → AllByRecursion (λ f. f.place + 32 + 8 * codeblock_length c ≤ count) fs
    → ((n : ℕ) → n < count → at n ≡ then n) → HaveSymbols at items → HaveSymbols then items
have-longer c at then count bits [] [] are within same have = tt
have-longer c at then count bits [] (item ∷ items) are within same have = absurd are
have-longer c at then count bits (f ∷ fs) [] are within same have = absurd are
have-longer c at then count bits (f ∷ fs) (item ∷ items) are within same have = (
  have.0 ∙ same item.found.place
      (let ends = within.0 in omega (arith, ends, ap (λ (v : Found). v.place) are.0.place)),
  have-longer c at then count bits fs items are.1 within.1 same have.1,
)

-- the same symbols
pub have-same : (at then : ℕ → ℕ) (items : List ItemValue) → ((n : ℕ) → at n ≡ then n) → HaveSymbols at items
    → HaveSymbols then items
have-same at then [] same have = tt
have-same at then (item ∷ items) same have =
    (have.0 ∙ same item.found.place, have-same at then items same have.1)

-- of items that are changed, but neither their places nor their symbols
pub have-map : (at : ℕ → ℕ) (f : ItemValue → ItemValue) → ((item : ItemValue) → place_symbol (f item) ≡ place_symbol item)
    → (items : List ItemValue) → HaveSymbols at items → HaveSymbols at (map f items)
have-map at f stays [] have = tt
have-map at f stays (item ∷ items) have = (
  ap (λ (p : PlaceSymbol). p.symbol) (stays item) ∙ have.0
      ∙ ap (λ (p : PlaceSymbol). at p.place) (sym (stays item)),
  have-map at f stays items have.1,
)

-- items of places say any symbols
abbrev pub said : (at : ℕ → ℕ) → ItemValue → ItemValue
said at item = record item { symbol = at item.found.place }

pub items-said : (c : Configuration) (at : ℕ → ℕ) (bits : List Bool) (fs : List Found) (items : List ItemValue)
    → AreItemsOf c bits fs items → AreItemsOf c bits fs (map (said at) items)
items-said c at bits [] [] are = tt
items-said c at bits [] (item ∷ items) are = absurd are
items-said c at bits (f ∷ fs) [] are = absurd are
items-said c at bits (f ∷ fs) (item ∷ items) are = (
  record { place = are.0.place; words = are.0.words; nearest = are.0.nearest; frame = are.0.frame },
  items-said c at bits fs items are.1,
)

pub have-said : (at : ℕ → ℕ) (items : List ItemValue) → HaveSymbols at (map (said at) items)
have-said at [] = tt
have-said at (item ∷ items) = (refl, have-said at items)
