use Rattle.std.proofs.Common.{◌≡◌, ◌+◌, ◌*◌, ◌/◌, ◌%◌, ◌∷◌, [], ◌++◌, refl, sym, ap, subst, ◌∙◌}
use Rattle.tm_base.specs.Bits.{bit_number}
use Rattle.tm_conv.specs.Encoding.{Encoding, EncoderStandsFor, sent_for, symbol_list}
use Rattle.tm_conv.proofs.Encoded.{EncoderStandsFor-push, sent_for-next, bit_byte}
use Rattle.tm_conv.proofs.encoder.Encoder.step.Goals as goal

pub returns-clause-stands : goal.returns-clause-stands
returns-clause-stands c = λ given stands.
    let P : Encoding → Type 0 = λ e. EncoderStandsFor e given in
    let byte : c.from.result ≡ bit_number c.args.bit = c.from.ensures ∙ bit_byte c.args.bit in
    EncoderStandsFor-push (record {
      rate = c.self.inside.rate;
      invert = c.self.inside.invert;
      register = c.self.inside.register;
      position = c.self.inside.position;
    }) _ given c.args.bit refl
    (ap (λ v. c.self.inside.register / 2 + 32 * v) byte)
    (ap (λ v. (c.self.inside.position + 1) % v) c.period.ensures.period)
    (subst P (sym c.self.view_is) stands)

pub returns-clause-sent : goal.returns-clause-sent
returns-clause-sent c = λ given.
    let P : Encoding → Type 0 = λ e. EncoderStandsFor e given
    → sent_for e.rate e.invert (given ++ c.args.bit ∷ []) ≡ sent_for e.rate e.invert given
    ++ symbol_list c.symbols_kept-symbols.result in
    let here : Encoding = record {
      rate = c.self.inside.rate;
      invert = c.self.inside.invert;
      register = c.self.inside.register;
      position = c.self.inside.position;
    } in
    subst P c.self.view_is
    (sent_for-next here given c.args.bit (symbol_list c.symbols_kept-symbols.result) _ _
    c.symbols_kept-symbols.ensures c.sums-first.ensures.first c.sums-first.ensures.second)
