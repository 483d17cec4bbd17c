use Rattle.std.proofs.Common.{◌≡◌, ◌+◌, ◌-◌, ◌*◌, ◌/◌, ◌≤◌, ℕ, Bool, List, ◌++◌, length, take, drop, ap, sym, subst, refl, ◌∙◌, arith}
use Rattle.std.proofs.lemmas.List.{drop-append-le, length-take-le, with_items_is}
use Rattle.std.specs.Vec.{with_items}
use Rattle.tm_base.specs.Bits.{bits_of}
use Rattle.tm_base.proofs.Packing.{length-bits_of}
use Rattle.tm_sync.specs.Finding.{Recent}
use Rattle.tm_sync.specs.declared.recent_bits.RecentBits.TheInside.{Inside}
use Rattle.tm_sync.proofs.PackedBits.{length-part, moved-bits}
use Rattle.tm_sync.proofs.recent_bits.RecentBits.push.Goals.{After-as_mut_slice, then-self-octets, else-self-octets}
use Rattle.tm_sync.proofs.recent_bits.RecentBits.push.Goals as goal

-- the room holds the same bits, and after them `count` octets fit
record HasRoom (was now : Inside) (count : ℕ) : Type 0 where
  ordered : now.from ≤ now.to
  size : length now.room.items ≡ length was.room.items
  fits : now.to + 8 * count ≤ 8 * length was.room.items
  bits : drop now.from (take now.to (bits_of now.room.items))
      ≡ drop was.from (take was.to (bits_of was.room.items))

has-room : (c : After-as_mut_slice) → HasRoom c.self.inside c.if-self-octets.self-inside
    (length c.args.octets.now)
has-room c =
    let was = c.self.inside in
    let count : ℕ = length c.args.octets.now in
    let first : ℕ = was.from / 8 in
    let view : length c.args.self.now.bits ≡ was.to - was.from =
    ap (λ (v : Recent). length v.bits) (sym c.self.view_is)
    ∙ length-part was.room.items was.from was.to c.self.invariant.1 in
    let all : c.args.self.now.size ≡ length was.room.items =
    ap (λ (v : Recent). v.size) (sym c.self.view_is) in
    elim c.if-self-octets.branch [
      | then-self-octets w ↦
          let end = w.div_ceil.result in
          let ceil : end ≡ (was.to + 7) / 8 = omega (arith, w.div_ceil.ensures) in
          subst (λ (v : Inside). HasRoom was v count) (sym w.self-inside-is) record {
            ordered = omega (arith, c.self.invariant.0);
            size = sym w.copy_within.new.self.ok.0 ∙ w.copy_within.ensures.len ∙ was.room.ok.0;
            fits = omega (arith, c.requires.room, c.self.invariant.0);
            bits = moved-bits was.room.items w.copy_within.new.self.items first end was.from was.to
                (omega arith) c.self.invariant.0 (omega arith) (omega (arith, c.self.invariant.1))
                w.copy_within.ensures.items;
          }
      | else-self-octets w ↦
          subst (λ (v : Inside). HasRoom was v count) (sym w.self-inside-is) record {
            ordered = c.self.invariant.0;
            size = refl;
            fits = omega (arith, w.if-self-octets.false, c.len.ensures, was.room.ok.0);
            bits = refl;
          }
    ]

pub put_bits-requires-clause-room : goal.put_bits-requires-clause-room
put_bits-requires-clause-room c =
    let room = has-room c in
    omega (arith, room.fits, room.size, ap (λ (l : List ℕ). length l) c.as_mut_slice.ensures.value)

pub invariant_of-self : goal.invariant_of-self
invariant_of-self c =
    let room = has-room (goal.at.invariant_of-self c).After-as_mut_slice in
    let now = c.if-self-octets.self-inside in
    let written = with_items_is now.room c.put_bits.new.room
    (c.put_bits.ensures.length ∙ c.as_mut_slice.ensures.len) in
    let size : length (with_items now.room c.put_bits.new.room).items
    ≡ length c.self.inside.room.items =
    ap (λ (l : List ℕ). length l) written ∙ c.put_bits.ensures.length
    ∙ ap (λ (l : List ℕ). length l) c.as_mut_slice.ensures.value ∙ room.size in (
      omega (arith, room.ordered),
      omega (arith, size, room.fits),
      omega (arith, size, c.self.invariant.2),
    )

pub returns : goal.returns
returns c =
    let room = has-room (goal.at.returns c).After-as_mut_slice in
    let now = c.if-self-octets.self-inside in
    let more : List Bool = drop c.args.from (bits_of c.args.octets.now) in
    let count : ℕ = 8 * length c.args.octets.now - c.args.from in
    let held = c.as_mut_slice.result.now in
    let value = c.as_mut_slice.ensures.value in
    let all = length-bits_of held in
    let same = ap (λ (l : List ℕ). length l) value in
    let long : length (take now.to (bits_of held)) ≡ now.to = length-take-le now.to (bits_of held)
    (omega (arith, room.fits, room.size)) in
    let written = with_items_is now.room c.put_bits.new.room
    (c.put_bits.ensures.length ∙ c.as_mut_slice.ensures.len) in
    let bits :
    drop now.from (take (now.to + count) (bits_of (with_items now.room c.put_bits.new.room).items))
    ≡ c.args.self.now.bits ++ more =
    ap (λ l. drop now.from (take (now.to + count) (bits_of l))) written
    ∙ ap (drop now.from) c.put_bits.ensures.bits
    ∙ drop-append-le now.from (take now.to (bits_of held)) more (omega (arith, room.ordered))
    ∙ ap (λ l. l ++ more) (ap (λ l. drop now.from (take now.to (bits_of l))) value ∙ room.bits
    ∙ ap (λ (v : Recent). v.bits) c.self.view_is) in
    let size : length (with_items now.room c.put_bits.new.room).items ≡ c.args.self.now.size =
    ap (λ (l : List ℕ). length l) written ∙ c.put_bits.ensures.length ∙ same ∙ room.size
    ∙ ap (λ (v : Recent). v.size) c.self.view_is in
    λ i. record { bits = bits i; size = size i }
