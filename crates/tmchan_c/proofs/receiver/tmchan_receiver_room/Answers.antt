use Rattle.std.proofs.Common.{arith, mul-le-mul_right}
use Rattle.tm_config.proofs.Lengths.{codeblock_length-is, codeblock_length-le}
use Rattle.tmchan_c.proofs.receiver.tmchan_receiver_room.Goals as goal

pub overflow_mul-frames_length : goal.overflow_mul-frames_length
overflow_mul-frames_length c =
    omega (
      arith,
      mul-le-mul_right c.length.result c.in-Some.ensures.most,
      c.length.ensures.value,
      codeblock_length-is _ c.length.ensures.accepted,
      codeblock_length-le _ c.length.ensures.accepted,
    )
