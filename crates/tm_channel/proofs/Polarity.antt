-- The items of bits that were all complemented.
use Rattle.std.proofs.Common.{◌≡◌, ◌+◌, ◌*◌, ℕ, Bool, true, List, [], ◌∷◌, take, drop, map, refl, sym, ap, ◌∙◌, subst, arith}
use Rattle.tm_base.specs.Bits.{octets_of}
use Rattle.tm_config.specs.Configuration.{Configuration, codeblock_length, is_sought}
use Rattle.tm_config.specs.declared.values.Sought.{Sought}
use Rattle.tm_config.specs.declared.values.Sought.TheVariants.{Find}
use Rattle.tm_config.specs.Accepted.{IsAccepted}
use Rattle.tm_sync.specs.declared.found.Found.{Found}
use Rattle.tm_sync.specs.Bits.{flip, complement}
use Rattle.tm_sync.specs.Places.{complemented_place}
use Rattle.tm_sync.proofs.Complemented.{take-complement, drop-complement, in_polarity-complemented}
use Rattle.tm_codeblock.specs.ReceivedCodeblock.{unmasked, codeblock_in, codeblock_at, places_in}
use Rattle.tm_codeblock.proofs.PlacesIn.{places_in-complemented}
use Rattle.tm_channel.specs.Items.{ItemValue, IsItem, AreItemsOf, AreItems, complemented_item}

in-complemented : (c : Configuration) (inverted : Bool) (bits : List Bool)
    → codeblock_in c (flip inverted) (complement bits) ≡ codeblock_in c inverted bits
unfolding codeblock_in
in-complemented c inverted bits = ap (λ l. unmasked c (octets_of l)) (in_polarity-complemented inverted bits)

codeblock-complemented : (c : Configuration) (bits : List Bool) (f : Found)
    → codeblock_at c (complement bits) (complemented_place f) ≡ codeblock_at c bits f
codeblock-complemented c bits f =
    ap (codeblock_in c (flip f.inverted)) (ap (take (8 * codeblock_length c)) (drop-complement (f.place + 32) bits)
    ∙ take-complement (8 * codeblock_length c) (drop (f.place + 32) bits))
    ∙ in-complemented c f.inverted (take (8 * codeblock_length c) (drop (f.place + 32) bits))

items-of-complemented : (c : Configuration) (bits : List Bool) (fs : List Found) (items : List ItemValue)
    → AreItemsOf c bits fs items
    → AreItemsOf c (complement bits) (map complemented_place fs) (map complemented_item items)
items-of-complemented c bits [] [] are = tt
items-of-complemented c bits [] (item ∷ items) are = absurd are
items-of-complemented c bits (f ∷ fs) [] are = absurd are
items-of-complemented c bits (f ∷ fs) (item ∷ items) are =
    let it : IsItem c f (codeblock_at c bits f) item = are.0 in
    let complemented : IsItem c (complemented_place f) (codeblock_at c bits f) (complemented_item item) =
    record { place = ap complemented_place it.place; words = it.words; nearest = it.nearest; frame = it.frame } in (
      subst (λ (b : List ℕ). IsItem c (complemented_place f) b (complemented_item item))
          (sym (codeblock-complemented c bits f)) complemented,
      items-of-complemented c bits fs items are.1,
    )

either : (sought : Sought) → sought ≡ Find → is_sought sought ≡ true
either sought find = rw find refl

pub items-complemented : (c : Configuration) (bits : List Bool) (items : List ItemValue) → IsAccepted c
    → c.polarity ≡ Find
    → AreItems c bits items
    → AreItems c (complement bits) (map complemented_item items)
items-complemented c bits items ok find are =
    subst (λ (fs : List Found). AreItemsOf c (complement bits) fs (map complemented_item items))
    (sym (places_in-complemented c bits (either c.polarity find) (omega (arith, ok.tolerance))))
    (items-of-complemented c bits (places_in c bits) items are)
