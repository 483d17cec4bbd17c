use Rattle.std.proofs.Common.{◌≡◌, ◌++◌, take, refl, sym, subst}
use Rattle.tm_base.specs.Bits.{bits_of}
use Rattle.tm_conv.specs.Encoding.{Encoding, EncoderStandsFor, sent_for, levels}
use Rattle.tm_conv.proofs.OctetPaths.{EncoderStandsFor-octets, sent_for-octets}
use Rattle.tm_conv.proofs.encoder.Encoder.encode.Goals as goal

pub returns-clause-stands : goal.returns-clause-stands
returns-clause-stands c = λ given stood.
    let before : Encoding =
    record {
      rate = c.self.inside.rate;
      invert = c.self.inside.invert;
      register = c.self.inside.register;
      position =
          c.self.inside.position;
    } in
    EncoderStandsFor-octets before _ given c.args.octets.now refl c.encode_octets-count.ensures.register.0
    c.encode_octets-count.ensures.position.0
    (subst (λ e. EncoderStandsFor e given) (sym c.self.view_is) stood)

pub returns-clause-sent : goal.returns-clause-sent
returns-clause-sent c = λ given.
    let octets = c.args.octets.now in
    let symbols = take c.encode_octets-count.result.0 c.encode_octets-count.new.out in
    let before : Encoding =
    record {
      rate = c.self.inside.rate;
      invert = c.self.inside.invert;
      register = c.self.inside.register;
      position =
          c.self.inside.position;
    } in
    let P : Encoding → Type 0 = λ e. EncoderStandsFor e given
    → levels c.args.low (sent_for e.rate e.invert (given ++ bits_of octets)) ≡ levels c.args.low
    (sent_for e.rate e.invert given) ++ symbols in
    subst P c.self.view_is (sent_for-octets before c.args.low given octets symbols c.encode_octets-count.ensures.sent)
