use Rattle.std.proofs.Common.{◌%◌, ◌≡◌, ◌∙◌, ◌<◌, ◌≤◌, ◌+◌, ◌++◌, ℕ, List, sym, ap, arith, length, take, drop, length-drop, ◌-◌}
use borrow.Rule.Slice.PartMut.{put_mid, same_len_mid}
use Rattle.std.proofs.Math.Seq.{take-add}
use Rattle.std.proofs.lemmas.List.{drop-drop, length-take-le, take_all}
use Rattle.std.proofs.lemmas.List.Elements.{All-take, All-drop}
use Rattle.std.proofs.lemmas.Slice.{take-put_mid, drop-put_mid}
use Rattle.tm_base.specs.Bits.{AreOctets}
use Rattle.tm_codeblock.specs.Masked.{masked}
use Rattle.tm_codeblock.proofs.Masks.{masked-append, length-masked}
use Rattle.tm_codeblock.proofs.randomizer.mask.Goals as goal

-- what was masked, and a part that is masked after it
after : (start count : ℕ) (before block part : List ℕ) → AreOctets before → start + count ≤ length before
    → start % 255 ≡ 0
    → take start block ≡ masked (take start before) → drop start block ≡ drop start before
    → part ≡ masked (take count (drop start block))
    → take start block ++ part ≡ masked (take (start + count) before)
after start count before block part are within whole prefix rest is =
    (λ t. prefix t ++ (is ∙ ap (λ l. masked (take count l)) rest) t)
    ∙ sym (masked-append (take start before) (take count (drop start before))
    (All-take (λ octet. octet < 256) start before are)
    (All-take (λ octet. octet < 256) count (drop start before) (All-drop (λ octet. octet < 256) start before are))
    (ap (λ n. n % 255) (length-take-le start before (omega arith)) ∙ whole))
    ∙ ap masked (sym (take-add start count before))

-- how long the masked part is
part_long : (start count : ℕ) (block part : List ℕ) → start + count ≤ length block
    → part ≡ masked (take count (drop start block)) → length part ≡ count
part_long start count block part within is =
    ap length is ∙ length-masked (take count (drop start block))
    ∙ length-take-le count (drop start block) (omega (arith, length-drop start block))

later : (start count : ℕ) (block before : List ℕ) → drop start block ≡ drop start before
    → drop (start + count) block ≡ drop (start + count) before
later start count block before rest =
    sym (drop-drop count start block) ∙ ap (drop count) rest ∙ drop-drop count start before

pub loop-block-preserved : goal.loop-block-preserved
loop-block-preserved c =
    let start : ℕ = c.loop-block.start in
    let block : List ℕ = c.loop-block.block in
    let part : List ℕ = c.mask_piece.new.piece in
    let inv = c.loop-block.invariant in
    let size : start + 255 - start ≡ 255 = omega arith in
    let is : part ≡ masked (take 255 (drop start block)) = c.mask_piece.ensures
    ∙ ap (λ n. masked (take n (drop start block))) size in
    let room : start + 255 ≤ length block = omega arith in
    let long : length part ≡ 255 = part_long start 255 block part room is in
    record {
      octets = inv.octets;
      within =
          omega (
            arith,
            room,
            same_len_mid start (start + 255 - start) block part
                (omega (
                  arith,
                  long,
                  length-take-le (start + 255 - start) (drop start block)
                      (omega (arith, length-drop start block)),
                )),
          );
      whole = omega (arith, inv.whole);
      prefix = take-put_mid start (start + 255 - start) block part (start + 255) (omega (arith, long)) inv.within
          ∙ after start 255 c.args.block.now block part inv.octets
          (omega (arith, c.loop-block.auto.block)) inv.whole inv.prefix inv.rest is;
      rest =
          drop-put_mid start (start + 255 - start) block part (start + 255) (omega arith) inv.within (long ∙ sym size)
          ∙ later start 255 block c.args.block.now inv.rest;
    }

pub returns : goal.returns
returns c =
    let start : ℕ = c.loop-block.start in
    let block : List ℕ = c.loop-block.block in
    let part : List ℕ = c.mask_piece-2.new.piece in
    let inv = c.loop-block.invariant in
    let count : ℕ = length block - start in
    let room : start + count ≤ length block = omega (arith, inv.within) in
    let is : part ≡ masked (take count (drop start block)) = c.mask_piece-2.ensures in
    let long : length part ≡ count = part_long start count block part room is in
    let size : length (put_mid start count block part) ≡ length block =
    same_len_mid start count block part
    (omega (arith, long, length-take-le count (drop start block) (omega (arith, length-drop start block)))) in
    let all : start + count ≡ length block = omega (arith, inv.within) in
    sym (take_all (start + count) (put_mid start count block part) (omega (arith, size, all)))
    ∙ take-put_mid start count block part (start + count) (omega (arith, long)) inv.within
    ∙ after start count c.args.block.now block part inv.octets
    (omega (arith, c.loop-block.auto.block, all)) inv.whole inv.prefix inv.rest is
    ∙ ap masked (take_all (start + count) c.args.block.now (omega (arith, c.loop-block.auto.block, all)))
