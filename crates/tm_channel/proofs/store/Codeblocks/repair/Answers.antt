use Rattle.std.proofs.Common.{◌≡◌, ◌∙◌, ap, sym, map, take, length, subst, ℕ, List}
use Rattle.std.proofs.lemmas.List.{with_items_is}
use Rattle.tm_config.specs.Configuration.{Configuration}
use Rattle.tm_channel.specs.Receiving.{AreItemsFor, Batching, StoredCodeblock}
use Rattle.tm_channel.specs.Storing.{item_in, place_in, stored_in}
use Rattle.tm_channel.specs.declared.slot.Slot.{Slot}
use Rattle.tm_channel.proofs.store.Codeblocks.repair.Goals as goal

-- what slots hold stays through a call that takes them out and puts them back
stored-through : (size number count : ℕ) (now repaired given old : List Slot) (stored : List StoredCodeblock)
    → size ≡ number → now ≡ repaired
    → map (stored_in number) (take count repaired) ≡ map (stored_in number) (take count given) → given ≡ old
    → map (stored_in size) (take count old) ≡ stored → map (stored_in size) (take count now) ≡ stored
stored-through size number count now repaired given old stored same is through was are =
    (λ k. map (stored_in (same k)) (take count (is k))) ∙ through
    ∙ (λ k. map (stored_in (sym same k)) (take count (was k))) ∙ are

pub returns-clause-stored : goal.returns-clause-stored
returns-clause-stored g c =
    let s = c.self.inside in
    let old = c.as_mut_slice.ensures.value in
    let now = with_items_is s.slots c.repair.new.slots (c.repair.ensures.slots ∙ ap length old ∙ sym s.slots.ok.0) in
    stored-through _ _ s.count _ _ _ _ _ c.self.invariant.0 now c.repair.ensures.stored old
    (ap (λ (v : Batching). v.stored) c.self.view_is)

pub returns-clause-symbols : goal.returns-clause-symbols
returns-clause-symbols g c =
    let s = c.self.inside in
    let old = c.as_mut_slice.ensures.value in
    let now = with_items_is s.slots c.repair.new.slots (c.repair.ensures.slots ∙ ap length old ∙ sym s.slots.ok.0) in
    ap (λ (l : List Slot). map place_in (take s.count l)) now ∙ c.repair.ensures.places
    ∙ ap (λ (l : List Slot). map place_in (take s.count l)) old ∙ ap (λ (v : Batching). v.symbols) c.self.view_is

-- the items of repaired slots are those of what was stored
items-through : (c : Configuration) (size number count : ℕ) (now repaired given : List Slot) → size ≡ number
    → now ≡ repaired
    → map (stored_in number) (take count repaired) ≡ map (stored_in number) (take count given)
    → AreItemsFor c (map (stored_in number) (take count given)) (map (item_in c) (take count repaired))
    → AreItemsFor c (map (stored_in size) (take count now)) (map (item_in c) (take count now))
items-through c size number count now repaired given same is through items =
    subst (λ (slots : List Slot). AreItemsFor c (map (stored_in size) (take count slots))
    (map (item_in c) (take count slots))) (sym is)
    (subst (λ (n : ℕ). AreItemsFor c (map (stored_in n) (take count repaired))
    (map (item_in c) (take count repaired))) (sym same)
    (subst (λ k. AreItemsFor c k (map (item_in c) (take count repaired))) (sym through) items))

pub returns-clause-repaired : goal.returns-clause-repaired
returns-clause-repaired g c =
    let s = c.self.inside in
    let now = with_items_is s.slots c.repair.new.slots (c.repair.ensures.slots
    ∙ ap length c.as_mut_slice.ensures.value ∙ sym s.slots.ok.0) in
    items-through s.config s.size _ s.count _ c.repair.new.slots _ c.self.invariant.0 now c.repair.ensures.stored
    c.repair.ensures.items
