use Rattle.std.proofs.Common.{◌<◌, arith}
use Rattle.std.proofs.lemmas.List.Elements.{All-from_get_or}
use Rattle.tm_codeblock.proofs.Masks.{masked-twice}
use Rattle.tm_codeblock.proofs.randomizer.masked_twice.Goals as goal

pub returns : goal.returns
returns c =
    masked-twice c.args.block.now
    (All-from_get_or (λ octet. octet < 256) c.args.block.now 0
    (λ n within. let fits = c.type_inv.block n in omega arith))
