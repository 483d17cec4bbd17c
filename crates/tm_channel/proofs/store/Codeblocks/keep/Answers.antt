use Rattle.std.proofs.Common.{◌≡◌, ◌⊎◌, inl, inr, Bool, true, false, IsTrue, ◌∙◌, ◌+◌, ◌<◌, ◌*◌, ◌++◌, ◌∷◌, [], ℕ, length, map, take, drop, ap, sym, subst, arith}
use Rattle.std.proofs.lemmas.List.{with_items_is}
use Rattle.tm_base.specs.Marker.{marker_size}
use Rattle.tm_config.specs.Configuration.{codeblock_length}
use Rattle.tm_channel.specs.Receiving.{AreItemsFor, AreWritten, Batching, stored_of}
use Rattle.tm_channel.specs.Storing.{item_in, place_in, stored_in}
use Rattle.tm_channel.proofs.ExpectedItems.{final-length, free-length, in-fewer, next-kept, next-left, next-written, whole-free, with_free}
use Rattle.tm_channel.proofs.Repaired.{slot-left}
use Rattle.tm_channel.proofs.store.Codeblocks.keep.Goals as goal

-- what is kept inside of another one is sound
is-kept : (inside sound : Bool) → ((inside ≡ true) × (sound ≡ true)) ⊎ (inside ≡ false) → inside ≡ true → IsTrue sound
is-kept inside sound (inl both) is = both.1
is-kept inside sound (inr out) is = absurd (let no = sym out ∙ is in cc)

pub returns-clause-stored : goal.returns-clause-stored
returns-clause-stored g c = λ kept.
    let s = c.self.inside in
    let taken = c.take_next-sound in
    let items = s.slots.items in
    let free = taken.new.slots in
    let below : s.count < length items =
    slot-left s.config s.size s.count items _ _ _ c.self.invariant.2 c.self.invariant.4 c.self.view_is c.requires.room in
    let whole = whole-free s.slots.len s.count items c.as_mut_slice-slots.result.now free
    c.as_mut_slice-slots.ensures.value s.slots.ok.0 (omega (arith, below)) taken.ensures.slots in
    next-kept (stored_in s.size) s.count items _ free _ whole (omega (arith, below))
    ((λ i. map (stored_in (c.self.invariant.0 i)) (take 1 free)) ∙ taken.ensures.stored kept)
    ∙ ap (λ (v : Batching). v.stored ++ stored_of v.config c.args.found
    (take (8 * codeblock_length v.config) (drop marker_size c.args.recent.now.bits)) ∷ []) c.self.view_is

pub returns-clause-symbols : goal.returns-clause-symbols
returns-clause-symbols g c = λ kept.
    let s = c.self.inside in
    let taken = c.take_next-sound in
    let items = s.slots.items in
    let free = taken.new.slots in
    let below : s.count < length items =
    slot-left s.config s.size s.count items _ _ _ c.self.invariant.2 c.self.invariant.4 c.self.view_is c.requires.room in
    let whole = whole-free s.slots.len s.count items c.as_mut_slice-slots.result.now free
    c.as_mut_slice-slots.ensures.value s.slots.ok.0 (omega (arith, below)) taken.ensures.slots in
    next-kept place_in s.count items _ free _ whole (omega (arith, below)) (taken.ensures.places kept)
    ∙ ap (λ (v : Batching). v.symbols ++ record { place = c.args.found.place; symbol = c.args.symbol } ∷ [])
    c.self.view_is

pub returns-clause-written : goal.returns-clause-written
returns-clause-written g c = λ on.
    let s = c.self.inside in
    let taken = c.take_next-sound in
    let kept = is-kept c.args.is_inside taken.result c.else-is_inside.either in
    let items = s.slots.items in
    let free = taken.new.slots in
    let below : s.count < length items =
    slot-left s.config s.size s.count items _ _ _ c.self.invariant.2 c.self.invariant.4 c.self.view_is c.requires.room in
    let now = with_free s.slots.len s.count items c.as_mut_slice-slots.result.now free in
    let whole = whole-free s.slots.len s.count items c.as_mut_slice-slots.result.now free
    c.as_mut_slice-slots.ensures.value s.slots.ok.0 (omega (arith, below)) taken.ensures.slots in
    subst (λ (n : ℕ). AreItemsFor s.config (map (stored_in n) (take (s.count + 1) now))
    (map (item_in s.config) (take (s.count + 1) now))) (sym c.self.invariant.0)
    (next-written s.config s.count items now free whole (omega (arith, below))
    (subst (λ (n : ℕ). AreItemsFor s.config (map (stored_in n) (take s.count items))
    (map (item_in s.config) (take s.count items))) c.self.invariant.0
    (subst AreWritten (sym c.self.view_is) c.requires.written on))
    (in-fewer s.config 1 (taken.new.expected.count + 1) free (omega arith) (taken.ensures.expected kept).1))

pub invariant_of-self-2 : goal.invariant_of-self-2
invariant_of-self-2 g c =
    let s = c.self.inside in
    let taken = c.take_next-sound in
    let kept = is-kept c.args.is_inside taken.result c.else-is_inside.either in
    let items = s.slots.items in
    let free = taken.new.slots in
    let old = c.as_mut_slice-slots.ensures.value in
    let long = taken.ensures.slots in
    let below : s.count < length items =
    slot-left s.config s.size s.count items _ _ _ c.self.invariant.2 c.self.invariant.4 c.self.view_is c.requires.room in
    let whole = whole-free s.slots.len s.count items c.as_mut_slice-slots.result.now free old s.slots.ok.0
    (omega (arith, below)) long in
    let words = taken.ensures.words ∙ ap length c.as_mut_slice.ensures.value in
    let left = free-length s.count items c.as_mut_slice-slots.result.now free old long in (
      c.self.invariant.0,
      c.self.invariant.1,
      final-length s.slots.len s.count items c.as_mut_slice-slots.result.now free old s.slots.ok.0
          (omega (arith, below)) long ∙ c.self.invariant.2,
      ap length (with_items_is s.words taken.new.words (words ∙ sym s.words.ok.0)) ∙ words ∙ c.self.invariant.3,
      omega (arith, below, c.self.invariant.2),
      c.self.invariant.5,
      c.self.invariant.6,
      omega (arith, below, left, (taken.ensures.expected kept).0, c.self.invariant.2),
      next-left s.config s.count taken.new.expected.count items _ free whole (omega (arith, below))
          (taken.ensures.expected kept).1,
    )
