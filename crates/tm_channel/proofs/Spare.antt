-- Further bits that make no item due.
use Rattle.std.proofs.Common.{◌≡◌, ◌+◌, ◌-◌, ◌<◌, ◌≤◌, ℕ, Bool, true, false, cond, nat_lt, List, [], ◌∷◌, ◌++◌, length, take, drop, append_assoc, refl, sym, subst, ap, ◌∙◌, arith, inl, inr, length-append, length-drop}
use Rattle.std.proofs.lemmas.Bool.{cases_lt}
use Rattle.std.proofs.lemmas.List.{append-nil, length-map, take-append-le}
use Rattle.tm_sync.specs.Finding.{Finding, Recent, places_left}
use Rattle.tm_config.specs.Configuration.{Configuration}
use Rattle.tm_codeblock.specs.ReceivedCodeblock.{rules_of, columns_of, places_in, sound_in}
use Rattle.tm_channel.specs.Due.{due, due_count}
use Rattle.tm_channel.specs.Receiving.{Agree, Batching, Holding, HoldsMore, Stands, least_bits, stored_at, waiting_bits}
use Rattle.tm_channel.proofs.Apart.{left-least, least-more}
use Rattle.tm_channel.proofs.Batches.{not_full}
use Rattle.tm_channel.proofs.Holding.{agree-more, holding-more, recent-count}

-- fewer codeblocks have fewer bits
pub waiting-more : (c : Configuration) (count more : ℕ) → count ≤ more → waiting_bits c count ≤ waiting_bits c more
waiting-more c count more less = by_workers (nat_lt 1 c.workers)
  where
    by_workers : (many : Bool) → cond many (least_bits c count) 0 ≤ cond many (least_bits c more) 0
    by_workers true = least-more (columns_of c) (32 + (rules_of c).block_bits) count more less
    by_workers false = omega arith

-- and no more than they have with any number of workers
waiting-most : (c : Configuration) (count : ℕ) → waiting_bits c count ≤ least_bits c count
waiting-most c count = by_workers (nat_lt 1 c.workers)
  where
    by_workers : (many : Bool) → cond many (least_bits c count) 0 ≤ least_bits c count
    by_workers true = omega arith
    by_workers false = omega arith

pub lacking-most : (b : Batching) → waiting_bits b.config (b.config.batch - length b.stored)
    ≤ waiting_bits b.config b.config.batch
lacking-most b = waiting-more b.config (b.config.batch - length b.stored) b.config.batch (omega arith)

-- places that are left take as many bits as there are, so that they are fewer than a batch lacks
few-left : (c : Configuration) (count lacking all : ℕ) → (0 < count → least_bits c count ≤ all) → 0 < lacking
    → all < least_bits c lacking → count < lacking
few-left c count lacking all room some few = elim (cases_lt count lacking) as (λ _. count < lacking) [
  | inl less ↦ less
  | inr many ↦ absurd (omega (
    arith,
    room (omega (arith, some, many)),
    least-more (columns_of c) (32 + (rules_of c).block_bits) lacking count many,
    few,
  ))
]

-- all bits that are not passed are fewer than the codeblocks have that a batch lacks
pub none-due : (s : Finding) (room : Recent) (b : Batching) (bits more : List Bool) → Agree s room b
    → length b.stored < b.config.batch → HoldsMore s room b (due_count b.config bits) bits more
    → length room.bits < waiting_bits b.config (b.config.batch - length b.stored)
    → due b.config (bits ++ more) ≡ due b.config bits
none-due s room b bits more agree lacks held few =
    let c = b.config in
    let given = bits ++ more in
    let all = places_in c bits in
    let count = due_count c bits in
    let lacking = c.batch - length b.stored in
    let longer = places_in c given in
    let left = places_left s (sound_in c given) room.bits in
    let waiting : length b.stored ≡ length all - count = ap length held.waiting
    ∙ length-map (drop count all) (stored_at c given) ∙ length-drop count all in
    let goes_on : longer ≡ all ++ left = ap (places_in c) (sym (append-nil given)) ∙ held.places []
    ∙ (λ i. all ++ places_left s (sound_in c (append-nil given i)) (append-nil room.bits i)) in
    let most : length longer ≡ length all + length left = ap length goes_on ∙ length-append all left in
    let there = recent-count c s room.bits b.stored count given all held in
    let less : length left < lacking = few-left c (length left) lacking (length room.bits)
    (left-least c s room.bits given all agree.rules agree.columns (omega (arith, there)) goes_on)
    (omega (arith, lacks)) (omega (arith, few, waiting-most c lacking)) in
    let within = held.within in
    let still : due_count c given ≡ count = not_full c.batch (length all) (length longer)
    (omega (arith, within, most)) (omega (arith, less, waiting, most, within)) in
    ap (λ n. take n longer) still ∙ ap (take count) goes_on ∙ take-append-le count all left within

pub spare-due : (s : Finding) (room : Recent) (b : Batching) (bits more : List Bool) → Agree s room b
    → length b.stored < b.config.batch → Stands s room b bits
    → length more ≤ waiting_bits b.config (b.config.batch - length b.stored) - (length room.bits + 1)
    → due b.config (bits ++ more) ≡ due b.config bits
spare-due s room b bits [] agree lacks stood few = ap (due b.config) (append-nil bits)
spare-due s room b bits (bit ∷ rest) agree lacks stood few =
    let c = b.config in
    let more = bit ∷ rest in
    let first = stood.first in
    let longer : Recent = record room { bits = room.bits ++ more } in
    ap (λ l. due c (l ++ more)) stood.are ∙ ap (due c) (append_assoc first stood.more more)
    ∙ none-due s longer b first (stood.more ++ more) (agree-more s room longer b more refl refl agree) lacks
    (subst (λ (l : List Bool). Holding c s longer.bits b.stored (due_count c first) l (places_in c first))
    (append_assoc first stood.more more)
    (holding-more c s room.bits b.stored (due_count c first) (first ++ stood.more) more (places_in c first)
    stood.holds))
    (omega (arith, few, length-append room.bits more)) ∙ sym stood.same
