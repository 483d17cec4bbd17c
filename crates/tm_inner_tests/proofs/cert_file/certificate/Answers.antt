use Rattle.std.proofs.Common.{sym}
use Rattle.tm_inner_tests.proofs.OneStep.{one_step}
use Rattle.tm_inner_tests.proofs.cert_file.certificate.Goals as goal

pub write_window-requires-clause-steps : goal.write_window-requires-clause-steps
write_window-requires-clause-steps g c = sym one_step
