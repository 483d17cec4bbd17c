use Rattle.std.proofs.Common.{◌∙◌}
use Rattle.tm_path_commands.specs.Certifying.{certifier}
use Rattle.tm_path_commands.proofs.certify_command.CertifyingStage.feed.Goals as goal

pub returns-clause-goes_on : goal.returns-clause-goes_on
returns-clause-goes_on g c = λ _.
    let e = c.certify_octets.ensures in record {
      texts = e.gave.texts;
      handed = e.gave.handed;
      stands = λ new given done few stood. record {
        config = e.config ∙ stood.config;
        drained = e.drained;
        so_far = e.so_far c.requires.ready.0 given done few stood.certifies;
        certifies =
            e.gave.stands (certifier c.args.self.now.inner c.args.self.now.start) given done few stood.certifies;
      };
    }
