use Rattle.std.proofs.Common.{◌≡◌, ◌+◌, ◌-◌, ◌≤◌, ◌++◌, ◌∙◌, ℕ, List, true, ap, sym, arith, take, drop, length, length-drop}
use borrow.Rule.Slice.PartMut.{put_mid, same_len_mid}
use Rattle.std.proofs.lemmas.List.{take-take, take-append-le, length-take-le, drop-take}
use Rattle.std.proofs.lemmas.Slice.{take-put_mid}
use Rattle.tm_base.specs.SoftForm.{from_form}
use Rattle.tm_base.proofs.held.Held.to_unsigned.Goals as goal

pub returns-clause-octets : goal.returns-clause-octets
returns-clause-octets c =
    let first : ℕ = c.args.first in
    let len : ℕ = c.self.inside.len in
    let items : List ℕ = c.self.inside.octets.items in
    let before : List ℕ = c.deref_mut.result.now in
    let part : List ℕ = c.to_unsigned.new.octets in
    let count : ℕ = len - first in
    let octets : take len items ≡ c.args.self.now.octets = ap (λ h. h.octets) c.self.view_is in
    let room : len ≤ length before = omega (arith, c.self.invariant, c.deref_mut.ensures.len) in
    let there : length items ≡ length before = ap length (sym c.deref_mut.ensures.value) in
    let within : first ≤ len = omega (arith, c.requires, ap length octets, length-take-le len items (omega (arith, there, room))) in
    let inside : length (take count (drop first before)) ≡ count =
    length-take-le count (drop first before) (omega (arith, length-drop first before, room)) in
    let long : length part ≡ count = c.to_unsigned.auto.octets ∙ inside in
    let all : List ℕ = put_mid first count before part in
    let size : length all ≡ length before = same_len_mid first count before part (long ∙ sym inside) in
    let sum : first + count ≡ len = omega (arith, within) in
    let head : take first items ≡ take first c.args.self.now.octets =
    sym (take-take first len items within) ∙ ap (take first) octets in
    let rest : take count (drop first items) ≡ drop first c.args.self.now.octets =
    sym (drop-take first count items) ∙ ap (λ n. drop first (take n items)) sum ∙ ap (drop first) octets in
    take-take len c.self.inside.octets.len (all ++ drop (length all) items) (omega (arith, room, c.deref_mut.ensures.len))
    ∙ take-append-le len all (drop (length all) items) (omega (arith, size, room))
    ∙ take-put_mid first count before part len (omega (arith, long, sum)) (omega (arith, within, room))
    ∙ (λ i. (ap (take first) c.deref_mut.ensures.value ∙ head) i
    ++ (c.to_unsigned.ensures ∙ ap (λ l. from_form true (take count (drop first l))) c.deref_mut.ensures.value
    ∙ ap (from_form true) rest) i)
