use Rattle.std.proofs.Common.{◌≡◌, ◌≤◌, ◌%◌, ◌-◌, take, drop, length}
use Rattle.tm_base.specs.Bits.{AreOctets}
use Rattle.tm_codeblock.specs.Masked.{masked}
use Rattle.tm_codeblock.proofs.randomizer.mask.Given as goal

abbrev pub invariant-loop-block : goal.invariant-loop-block
invariant-loop-block l = record {
  octets : AreOctets l.initial.block;
  within : l.start ≤ length l.block;
  whole : l.start % 255 ≡ 0;
  prefix : take l.start l.block ≡ masked (take l.start l.initial.block);
  rest : drop l.start l.block ≡ drop l.start l.initial.block;
}

abbrev pub decreases-loop-block : goal.decreases-loop-block
decreases-loop-block l = length l.block - l.start
