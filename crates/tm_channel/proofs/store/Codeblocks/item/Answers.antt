use Rattle.std.proofs.Common.{◌≡◌, ◌∙◌, ◌<◌, ◌+◌, ◌++◌, ◌∷◌, suc, List, [], length, map, take, get_or, sym, ap, subst, arith}
use Rattle.std.proofs.lemmas.List.{length-map, length-take-le}
use Rattle.tm_channel.specs.Origins.{PlaceSymbol, place_symbol}
use Rattle.tm_channel.specs.Items.{ItemValue}
use Rattle.tm_channel.specs.Receiving.{AreItemsFor, Batching, IsItemAt}
use Rattle.tm_channel.specs.Storing.{item_in, place_in, stored_in}
use Rattle.tm_channel.proofs.Repaired.{item-in-slot, place-next}
use Rattle.tm_channel.proofs.store.Codeblocks.item.Goals as goal

pub returns-clause-item : goal.returns-clause-item
returns-clause-item c =
    let s = c.self.inside in
    let slot = c.index.result.now in
    let is : item_in s.config (get_or s.slots.items c.args.index slot) ≡ c.item.result =
    ap (item_in s.config) (sym c.index.ensures) ∙ sym c.item.ensures in
    subst (λ (v : Batching). AreItemsFor v.config v.stored v.items → c.args.index < length v.stored
    → IsItemAt v.config v.stored c.args.index c.item.result) c.self.view_is
    (λ are below. subst (λ (item : ItemValue). IsItemAt s.config
    (map (stored_in s.size) (take s.count s.slots.items)) c.args.index item) is
    (item-in-slot s.config s.size s.count s.slots.items c.args.index slot are below))
    c.requires.repaired c.requires.within

pub returns-clause-symbol : goal.returns-clause-symbol
returns-clause-symbol c =
    let s = c.self.inside in
    let slots = s.slots.items in
    let slot = c.index.result.now in
    let is : place_in (get_or slots c.args.index slot) ≡ place_symbol c.item.result =
    ap place_in (sym c.index.ensures) ∙ sym (ap place_symbol c.item.ensures) in
    let below : c.args.index < s.count =
    omega (
      arith,
      c.requires.within,
      ap (λ (v : Batching). length v.stored) c.self.view_is,
      length-map (take s.count slots) (stored_in s.size),
      length-take-le s.count slots (omega (arith, c.self.invariant)),
    ) in
    let next : c.args.index + 1 ≡ suc c.args.index = omega arith in
    subst (λ (l : List PlaceSymbol). take (c.args.index + 1) l ≡ take c.args.index l ++ place_symbol c.item.result ∷ [])
    (ap (λ (v : Batching). v.symbols) c.self.view_is)
    (ap (λ n. take n (map place_in (take s.count slots))) next
    ∙ place-next s.count slots c.args.index slot below (omega (arith, c.self.invariant))
    ∙ ap (λ k. take c.args.index (map place_in (take s.count slots)) ++ k ∷ []) is)
