use Rattle.std.proofs.Common.{◌∙◌, ◌∷◌, ◌++◌, [], take, refl, sym, subst, ap, arith}
use Rattle.std.proofs.lemmas.List.{append-nil}
use Rattle.tm_base.specs.Bits.{AreOctets, bits_of, low_bits}
use Rattle.tm_base.proofs.Packing.{length-low_bits}
use Rattle.tm_driver.specs.Writing.{Out}
use Rattle.tm_path_commands.proofs.bits_command.Packer.give.Goals as goal

pub returns-clause-given : goal.returns-clause-given
returns-clause-given g c =
    let p = c.self.inside in
    let octets = take p.count p.room in
    let e = c.give_octets.ensures in record {
      texts = Out octets ∷ [];
      gives = record {
        handed = (c.give_octets.new.texts, e.given, refl);
        are_octets = subst AreOctets (sym (append-nil octets)) e.octets;
        all = ap (λ l. bits_of l ++ low_bits p.pending p.last) (append-nil octets) ∙ c.self.view_is
            ∙ sym (append-nil c.args.self.now);
      };
      silent = refl;
    }

pub returns-clause-few : goal.returns-clause-few
returns-clause-few g c = omega (arith, length-low_bits c.self.inside.pending c.self.inside.last, c.self.invariant.1)
