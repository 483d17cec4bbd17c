use Rattle.std.proofs.Common.{ap, arith, ◌∙◌}
use Rattle.tm_cert_file.specs.Window.{steps_in}
use Rattle.tm_conv.proofs.Sizes.{steps_size-most}
use Rattle.tm_cert_file.proofs.reader.Reader.ends.Goals as goal

pub overflow_add-soft_end : goal.overflow_add-soft_end
overflow_add-soft_end c =
    let size = steps_size-most c.self.inside.rate c.self.inside.t c.from.result in record { fits = omega arith }

pub overflow_add-result-2 : goal.overflow_add-result-2
overflow_add-result-2 c =
    let size = steps_size-most c.self.inside.rate c.self.inside.t c.from.result in record { fits = omega arith }

pub returns-clause-room : goal.returns-clause-room
returns-clause-room c =
    let size = steps_size-most c.self.inside.rate c.self.inside.t c.from.result in
    omega (arith, ap steps_in (c.as_slice.ensures.octets ∙ ap (λ v. v.octets) c.self.view_is))
