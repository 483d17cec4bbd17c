-- A read from a list of octets in memory: what it gave, what is left, and the state of a source in memory then.
use Rattle.std.proofs.Common.{◌≡◌, ℕ, ◌+◌, ◌≤◌, List, ◌++◌, take, drop, length, sym, arith, ap, ◌∙◌, take-append-drop, refl, Bool, false, ◌||◌, ◌&&◌, ◌==◌, nat_lt, if◌then◌else◌}
use Rattle.std.proofs.Math.Seq.{take-add}
use Rattle.std.proofs.lemmas.List.{take_at, drop-drop}
use Rattle.std.proofs.lemmas.Grind.{common_steps}
use Rattle.tm_base.specs.Count.{raised_by, is_failing}
use Rattle.tm_base.specs.SourceInMemory.{SourceState, share_of, after_read}

copied : (at count : ℕ) (content prefix rest : List ℕ) → at + count ≤ length content
    → prefix ≡ take count (drop at content) → take count (prefix ++ rest) ≡ take count (drop at content)
copied at count content prefix rest within is = take_at prefix rest count (grind (arith, common_steps)) ∙ is

-- the octets given, with those at the start of the buffer
pub gave : (at count : ℕ) (content prefix rest : List ℕ) → at + count ≤ length content
    → prefix ≡ take count (drop at content)
    → take (at + count) content ≡ take at content ++ take count (prefix ++ rest)
gave at count content prefix rest within is =
    rw (copied at count content prefix rest within is, take-add at count content) refl

-- the octets left before, from those at the start of the buffer
pub leaves : (at count : ℕ) (content prefix rest : List ℕ) → at + count ≤ length content
    → prefix ≡ take count (drop at content)
    → drop at content ≡ take count (prefix ++ rest) ++ drop (at + count) content
leaves at count content prefix rest within is =
    rw (copied at count content prefix rest within is, ← drop-drop count at content)
    (sym (take-append-drop count (drop at content)))

-- the state after a read that doesn't fail
pub state-read : (source : SourceState) (room calls : ℕ) (given left : List ℕ) (ended : Bool)
    → is_failing source.fails source.calls ≡ false
    → calls ≡ raised_by 1 source.calls → given ≡ source.given ++ take (share_of source room) source.left
    → left ≡ drop (share_of source room) source.left
    → ended ≡ (source.ended || ((share_of source room == 0) && nat_lt 0 room))
    → record source { given = given; left = left; calls = calls; ended = ended } ≡ after_read source room
state-read source room calls given left ended sound counted gives leaves ends =
    let failed : SourceState = record source { calls = raised_by 1 source.calls; faults = raised_by 1 source.faults } in
    let read : SourceState = record source {
      given = source.given ++ take (share_of source room) source.left;
      left = drop (share_of source room) source.left;
      calls = raised_by 1 source.calls;
      ended =
          source.ended || ((share_of source room == 0) && nat_lt 0 room);
    } in
    (λ i. record source { given = gives i; left = leaves i; calls = counted i; ended = ends i })
    ∙ ap (λ (b : Bool). if b then failed else read) (sym sound)
