use Rattle.std.proofs.Common.{ℕ, ◌≡◌, ◌∙◌, ◌+◌, ◌-◌, ◌*◌, ◌%◌, ◌^◌, ◌/◌, ◌++◌, ◌∷◌, Bool, List, [], bit_and, bit_or, set, ap, take, arith, refl, sym, subst}
use Rattle.std.proofs.lemmas.List.{append-nil, length-set, take_all}
use Rattle.tm_base.specs.Bits.{AreOctets, bits_of, low_bits}
use Rattle.tm_driver.specs.Writing.{Out}
use Rattle.tm_path_commands.proofs.PackedBits.{add-part, add-whole, packs-none}
use Rattle.tm_path_commands.proofs.bits_command.Packer.add.Goals as goal

-- the low bits of an octet after what is left of the last one, as the code joins them
abbrev joined : (count last octet : ℕ) → ℕ
joined count last octet = bit_or (last * 2 ^ count % 2 ^ 32) (octet % (1 * 2 ^ count % 2 ^ 32))

pub returns-then-pending-lt8 : goal.returns-then-pending-lt8
returns-then-pending-lt8 g c =
    let p = c.self.inside in
    let count = c.args.bits in
    let low = low_bits count c.args.octet in
    let value = joined count c.from-2.result c.from.result in
    let is : value ≡ joined count p.last c.args.octet = λ i. joined count (c.from-2.ensures i) (c.from.ensures i) in
    packs-none g.W.TextTaker.took c.args.self.now low _ c.args.texts.now
    (add-part (bits_of (take p.count p.room)) p.last c.args.octet p.pending count value (bit_and value 255)
    c.requires (omega arith) is c.if-pending-lt8.true refl
    ∙ ap (λ (l : List Bool). l ++ low) c.self.view_is)

pub returns-then-self-eq-TURN : goal.returns-then-self-eq-TURN
returns-then-self-eq-TURN g c =
    let p = c.self.inside in
    let count = c.args.bits in
    let low = low_bits count c.args.octet in
    let value = joined count c.from-2.result c.from.result in
    let is : value ≡ joined count p.last c.args.octet = λ i. joined count (c.from-2.ensures i) (c.from.ensures i) in
    let left : ℕ = p.pending + count - 8 in
    let room : List ℕ = set p.room p.count (bit_and (value / 2 ^ left) 255) in
    let all : room ++ [] ≡ take (p.count + 1) room = append-nil room ∙ sym (take_all (p.count + 1) room
    (omega (arith, c.if-self-eq-TURN.true, c.self.told, length-set p.room p.count (bit_and (value / 2 ^ left) 255)))) in
    let e = c.give_octets.ensures in record {
      texts = Out room ∷ [];
      gives = record {
        handed = (c.give_octets.new.texts, e.given, refl);
        are_octets = subst AreOctets (sym (append-nil room)) e.octets;
        all = ap (λ l. bits_of l ++ low_bits left (bit_and value 255)) all
            ∙ add-whole p.room p.count p.last c.args.octet p.pending count value
            (omega (arith, c.self.invariant.0, c.self.told)) c.requires (omega arith) is c.if-pending-lt8.false
            c.self.invariant.1
            ∙ ap (λ (l : List Bool). l ++ low) c.self.view_is;
      };
      silent = refl;
    }

pub returns-else-self-eq-TURN : goal.returns-else-self-eq-TURN
returns-else-self-eq-TURN g c =
    let p = c.self.inside in
    let count = c.args.bits in
    let low = low_bits count c.args.octet in
    let value = joined count c.from-2.result c.from.result in
    let is : value ≡ joined count p.last c.args.octet = λ i. joined count (c.from-2.ensures i) (c.from.ensures i) in
    packs-none g.W.TextTaker.took c.args.self.now low _ c.args.texts.now
    (add-whole p.room p.count p.last c.args.octet p.pending count value
    (omega (arith, c.self.invariant.0, c.self.told)) c.requires (omega arith) is c.if-pending-lt8.false
    c.self.invariant.1
    ∙ ap (λ (l : List Bool). l ++ low) c.self.view_is)
