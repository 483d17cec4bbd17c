use Rattle.std.proofs.Common.{◌≡◌, ◌+◌, ℕ, Bool, List, None, is_some, take, drop, ap, sym, ◌∙◌, arith, below_more}
use Rattle.std.proofs.lemmas.List.{drop-drop, length-take-le}
use Rattle.tm_base.specs.Bits.{bits_of}
use Rattle.tm_sync.specs.Places.{match_of}
use Rattle.tm_sync.proofs.Looks.{match-received}
use Rattle.tm_sync.proofs.PackedBits.{length-from}
use Rattle.tm_sync.proofs.recent_bits.far_bits.Goals as goal

pub returns-then-not-is_far-clause-first : goal.returns-then-not-is_far-clause-first
returns-then-not-is_far-clause-first c = λ rules tell.
    let room : List Bool = bits_of c.args.room.now in
    let at : ℕ = c.args.from + c.loop-k.k in
    let size = length-from c.args.room.now at in
    record {
      none = c.loop-k.invariant rules tell;
      some = λ below.
          ap is_some (ap (match_of rules) (drop-drop c.loop-k.k c.args.from room)
          ∙ sym (match-received rules (drop at room) (omega arith)))
          ∙ c.is_far.ensures.near c.if-not-is_far.true rules (take 32 (drop at room)) tell
          (length-take-le 32 (drop at room) (omega arith)) c.word_at.ensures;
    }

pub loop-k-preserved : goal.loop-k-preserved
loop-k-preserved c = λ rules tell.
    let room : List Bool = bits_of c.args.room.now in
    let at : ℕ = c.args.from + c.loop-k.k in
    let size = length-from c.args.room.now at in
    below_more (λ (q : ℕ). match_of rules (drop q (drop c.args.from room)) ≡ None) c.loop-k.k
    (c.loop-k.invariant rules tell)
    (ap (match_of rules) (drop-drop c.loop-k.k c.args.from room)
    ∙ sym (match-received rules (drop at room) (omega arith))
    ∙ (c.is_far.ensures.far c.if-not-is_far.false).1 rules (take 32 (drop at room)) tell
    (length-take-le 32 (drop at room) (omega arith)) c.word_at.ensures)
