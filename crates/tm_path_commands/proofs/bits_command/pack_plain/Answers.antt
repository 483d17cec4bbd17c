use Rattle.std.proofs.Common.{◌≡◌, ℕ, ◌∙◌, Bool, true, false, List, [], drop, refl, sym, ap, subst, Option, Some, None}
use Rattle.std.specs.Option.{is_some}
use Rattle.std.proofs.lemmas.List.{append-nil}
use Rattle.tm_config.specs.Configuration.{Configuration}
use Rattle.tm_conv.specs.declared.rates.Rate.{Rate}
use Rattle.tm_inner.specs.Inner.{plain_bits}
use Rattle.tm_inner.proofs.PlainBits.{plain-nearest, plain-packed}
use Rattle.tm_path_commands.specs.Packing.{Packs, plain_more}
use Rattle.tm_path_commands.proofs.PackedBits.{packs-none}
use Rattle.tm_path_commands.proofs.bits_command.pack_plain.Goals as goal

coded : (rate : Option Rate) (c : Configuration) (skip : ℕ) (octets : List ℕ) → is_some rate ≡ true
    → [] ≡ plain_more rate c skip octets
coded None c skip octets is = absurd cc
coded (Some rate) c skip octets is = refl

plain : (rate : Option Rate) (c : Configuration) (skip : ℕ) (octets : List ℕ) → is_some rate ≡ false
    → drop skip (plain_bits c octets) ≡ plain_more rate c skip octets
plain None c skip octets is = refl
plain (Some rate) c skip octets is = absurd cc

pub returns-then-has_inner_code : goal.returns-then-has_inner_code
returns-then-has_inner_code g c =
    let took = g.W.TextTaker.took in
    let k = c.args.inner.now.config in
    let packer = c.args.packer.now in
    subst (λ (l : List Bool). Packs took packer c.args.texts.now l packer c.args.texts.now)
    (coded k.inner k c.args.skip c.args.octets.now (sym c.has_inner_code.ensures ∙ c.if-has_inner_code.true))
    (packs-none took packer [] packer c.args.texts.now (sym (append-nil packer)))

pub returns-then-is_packed : goal.returns-then-is_packed
returns-then-is_packed g c =
    let k = c.args.inner.now.config in
    let octets = c.args.octets.now in
    let now = c.add_octets.new in
    subst (λ (l : List Bool). Packs g.W.TextTaker.took c.args.packer.now c.args.texts.now l now.self now.texts)
    (ap (drop c.args.skip) (sym (plain-packed k octets (sym c.is_packed.ensures ∙ c.if-is_packed.true)))
    ∙ plain k.inner k c.args.skip octets (sym c.has_inner_code.ensures ∙ c.if-has_inner_code.false))
    c.add_octets.ensures

pub returns-else-is_packed : goal.returns-else-is_packed
returns-else-is_packed g c =
    let k = c.args.inner.now.config in
    let octets = c.args.octets.now in
    let now = c.pack_nearest.new in
    subst (λ (l : List Bool). Packs g.W.TextTaker.took c.args.packer.now c.args.texts.now l now.packer now.texts)
    (ap (drop c.args.skip) (sym (plain-nearest k octets (sym c.is_packed.ensures ∙ c.if-is_packed.false)))
    ∙ plain k.inner k c.args.skip octets (sym c.has_inner_code.ensures ∙ c.if-has_inner_code.false))
    c.pack_nearest.ensures
