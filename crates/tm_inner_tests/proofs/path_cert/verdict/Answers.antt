use Rattle.std.proofs.Common.{◌+◌, sym, ap, ◌∙◌, arith}
use Rattle.tm_inner_tests.proofs.OneStep.{one_step, no_step, room, room_end}
use Rattle.tm_inner_tests.proofs.path_cert.verdict.Goals as goal

pub new-check-requires-clause-steps : goal.new-check-requires-clause-steps
new-check-requires-clause-steps c = (1, omega arith, sym one_step)

pub column-requires : goal.column-requires
column-requires c =
    record {
      more = room c.new-check.result.claim _ c.new-check.result.count 0 c.new-check.ensures.claim
          c.new-check.ensures.count (omega (arith, no_step));
    }

pub column-requires-2 : goal.column-requires-2
column-requires-2 c = record {
  more = room c.column.new.self.claim _ c.column.new.self.count 1 (c.column.ensures.claim ∙ c.new-check.ensures.claim)
      (c.column.ensures.count ∙ ap (λ n. n + 1) c.new-check.ensures.count) (omega (arith, one_step));
}

pub finish-requires-clause-steps : goal.finish-requires-clause-steps
finish-requires-clause-steps c =
    room_end c.column-2.new.self.claim _
    (c.column-2.ensures.claim ∙ c.column.ensures.claim ∙ c.new-check.ensures.claim) (sym one_step)
