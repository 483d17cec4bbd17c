use Rattle.std.proofs.Common.{rules, refl, nat_lt, zero, suc, Bool, ℕ, ◌+◌, ◌||◌, ◌&&◌, ◌==◌, not, ◌≡◌, subst, length, ◌++◌, take, drop, ap, sym, Some, arith, ◌∙◌}
use Rattle.std.proofs.lemmas.Bool.Decides.{nat_tests}
use Rattle.std.proofs.Math.Seq.{take-add}
use Rattle.std.proofs.lemmas.List.{drop-drop}
use Rattle.std.proofs.lemmas.Grind.{common_steps}
use Rattle.tm_base.specs.SourceInMemory.{SourceState, share_of, after_read}
use Rattle.tm_base.proofs.InMemory.{gave, leaves, state-read}
use Rattle.tm_base.proofs.memory.MemSourceSource.read.Goals as goal

-- whether the end is reported, in the words of the code and of the state
ends : (ended empty : Bool) (count share long room : ℕ) → count ≡ share → long ≡ room → empty ≡ (long == 0)
    → (ended || ((count == 0) && not empty)) ≡ (ended || ((share == 0) && nat_lt 0 room))
ends ended empty count share long room same size is = (λ i. ended || ((same i == 0) && some i))
  where
    positive : (n : ℕ) → not (n == 0) ≡ nat_lt 0 n
    positive zero = refl
    positive (suc n) = grind (arith, nat_tests)

    some : not empty ≡ nat_lt 0 room
    some = ap not (is ∙ ap (λ n. n == 0) size) ∙ positive room

pub returns-clause-given : goal.returns-clause-given
returns-clause-given c =
    ap Some (gave c.self.inside.at c.min-count.result c.self.inside.content.items c.copy_from_slice.new.self
    (drop c.min-count.result c.args.buf.now) (grind (arith, common_steps))
    (c.copy_from_slice.ensures.after ∙ grind (arith, common_steps))
    ∙ ap (λ (s : SourceState). s.given ++ take c.min-count.result
    (c.copy_from_slice.new.self ++ drop c.min-count.result c.args.buf.now)) c.self.view_is)

pub returns-clause-left : goal.returns-clause-left
returns-clause-left c =
    ap Some (sym (ap (λ (s : SourceState). s.left) c.self.view_is)
    ∙ leaves c.self.inside.at c.min-count.result c.self.inside.content.items c.copy_from_slice.new.self
    (drop c.min-count.result c.args.buf.now) (grind (arith, common_steps))
    (c.copy_from_slice.ensures.after ∙ grind (arith, common_steps)))

pub returns-clause-state : goal.returns-clause-state
returns-clause-state c =
    let room : ℕ = length c.args.buf.now in
    let source : SourceState = record {
      given = take c.self.inside.at c.self.inside.content.items;
      left = drop c.self.inside.at c.self.inside.content.items;
      cuts = c.self.inside.cuts.items;
      fails =
          c.self.inside.fails.items;
      calls = c.self.inside.calls;
      faults = c.self.inside.faults;
      ended =
          c.self.inside.ended;
    } in
    let share : c.min-count.result ≡ share_of source room = grind (arith, common_steps) in
    let now : SourceState = record source {
      given = take (c.self.inside.at + c.min-count.result)
          c.self.inside.content.items;
      left = drop (c.self.inside.at + c.min-count.result) c.self.inside.content.items;
      calls = c.saturating_add-self-inside.result;
      ended =
          c.self.inside.ended || ((c.min-count.result == 0) && not c.is_empty.result);
    } in
    subst (λ (s : SourceState). now ≡ after_read s room) c.self.view_is
    (state-read source room c.saturating_add-self-inside.result now.given now.left now.ended (search rules)
    (search rules)
    (take-add c.self.inside.at c.min-count.result c.self.inside.content.items
    ∙ ap (λ n. source.given ++ take n source.left) share)
    (sym (drop-drop c.min-count.result c.self.inside.at c.self.inside.content.items)
    ∙ ap (λ n. drop n source.left) share)
    (ends c.self.inside.ended c.is_empty.result c.min-count.result (share_of source room)
    (length (c.copy_from_slice.new.self ++ drop c.min-count.result c.args.buf.now)) room share
    (grind (arith, common_steps)) c.is_empty.ensures))
