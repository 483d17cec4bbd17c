use Rattle.std.proofs.Common.{◌+◌, arith}
use Rattle.tm_buffers.proofs.SymbolRoom.{units-few}
use Rattle.tm_buffers.proofs.buffer_sender.symbols_room.Goals as goal

pub overflow_mul-octets : goal.overflow_mul-octets
overflow_mul-octets c = record {
  fits = omega (
    arith,
    units-few c.args.count c.length-length.result (c.codeblock_size.result + 4) (omega arith)
        (omega (arith, c.codeblock_size.ensures.most)),
  );
}
