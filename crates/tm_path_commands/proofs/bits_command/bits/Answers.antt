use Rattle.std.proofs.Common.{◌∙◌, ◌<◌, Bool, List, [], length, arith, refl, sym, subst}
use Rattle.std.proofs.lemmas.List.Elements.{All-nil}
use Rattle.tm_config.specs.Accepted.{IsAccepted}
use Rattle.tm_driver.proofs.Answered.{answered}
use Rattle.tm_inner.proofs.PlainBits.{bits-nil}
use Rattle.tm_path_commands.specs.declared.bits_command.BitsOf.{BitsOf}
use Rattle.tm_path_commands.proofs.BitsEndings.{bits-ends}
use Rattle.tm_path_commands.proofs.bits_command.bits.Goals as goal

pub drive_stage-requires : goal.drive_stage-requires
drive_stage-requires g c =
    let k = c.in-Ok.inner.config in record {
      ready = c.in-Ok.ensures.going;
      limit = (let most = c.limit.ensures.accepted.limit in omega (arith, most, c.limit.ensures.value));
      fresh = record {
        accepted = subst IsAccepted (sym c.in-Ok.ensures.config) c.limit.ensures.accepted;
        config = refl;
        handed = [];
        stands = c.in-Ok.ensures.stands;
        counted = refl;
        few = subst (λ (l : List Bool). length l < 8) (sym c.new.ensures) (omega arith);
        given = record {
          are_octets = All-nil (λ octet. octet < 256);
          octets = c.new.ensures ∙ sym (bits-nil k.inner k);
          noted = record { first = []; rest = []; split = refl; silent = refl; noted = refl; only = refl };
        };
      };
    }

pub returns-clause-answered : goal.returns-clause-answered
returns-clause-answered g c =
    let d = c.drive_stage.ensures.staged in (
      d.0,
      answered d.0 _ _ _ _ _ _ _ c.limit.ensures.value d.2 d.3
          (bits-ends c.handed_law.ensures (λ (t : BitsOf). t.inner) (λ t. t.packer) (λ t. t.windows) _ _ _
          c.in-Ok.ensures.config c.limit.ensures.value _ _ d.0 d.1 _ d.4 d.5)
          c.drive_stage.ensures.source c.drive_stage.ensures.sinks,
    )
