use Rattle.std.proofs.Common.{rules, ◌-◌, ◌==◌, ◌∙◌, List, ℕ, length, map, drop, ap, sym, arith}
use Rattle.std.proofs.lemmas.List.{drop-map, take_at}
use Rattle.std.proofs.lemmas.Slice.{between_to_end, between-put_mid, overwrites}
use Rattle.tm_base.specs.Bits.{bits_of}
use Rattle.tm_channel.proofs.packed.pack_run.Goals as goal

pub returns-then-bits-lt8-clause-bits : goal.returns-then-bits-lt8-clause-bits
returns-then-bits-lt8-clause-bits c =
    let from = 8 - length c.args.bits.now in
    ap (λ (l : List ℕ). drop from (bits_of l)) (take_at c.pack.new.octets (drop 1 c.args.room.now) 1 (search rules))
    ∙ ap (drop from) c.pack.ensures.bits ∙ drop-map (λ bit. bit == 1) from _
    ∙ ap (map (λ bit. bit == 1)) (sym (between_to_end _ from 8 (search (rules, overwrites)))
    ∙ between-put_mid from (8 - from) _ _ 8 (omega arith) (search rules) ∙ search rules)
