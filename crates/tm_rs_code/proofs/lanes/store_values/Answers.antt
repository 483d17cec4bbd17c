use Rattle.std.proofs.Common.{◌≡◌, ◌+◌, ◌*◌, ◌∙◌, ℕ, arith, ap, length}
use Rattle.std.proofs.lemmas.Simd.{length-put_chunk}
use Rattle.std.specs.Simd.Lanes.{put_chunk}
use Rattle.tm_gf256.specs.Poly.{numbers, value_at}
use Rattle.tm_rs_code.specs.Code.{place_of}
use Rattle.tm_rs_code.proofs.PowerRows.{put_values}
use Rattle.tm_rs_code.proofs.lanes.store_values.Goals as goal

pub loop-pair-preserved : goal.loop-pair-preserved
loop-pair-preserved c =
    let a : ℕ = 32 * c.loop-pair.pair in
    let out = c.loop-pair.out in
    let group : ℕ = c.args.first + 2 * c.loop-pair.pair in
    let value : ℕ → ℕ = λ i. value_at (numbers c.args.poly.now) (place_of (16 * c.args.first + i)) in
    let found = c.place_values.ensures in
    let half : length (put_chunk a out c.place_values.result.0) ≡ length out =
    length-put_chunk a out c.place_values.result.0 in
    record {
      size =
          length-put_chunk (a + 16) (put_chunk a out c.place_values.result.0) c.place_values.result.1 ∙ half
          ∙ c.loop-pair.invariant.size;
      done = λ i lt.
          put_values value (put_chunk a out c.place_values.result.0) c.place_values.result.1 (a + 16) found.next_long
          (omega (arith, half, c.loop-pair.auto.out))
          (λ m lm. found.next_values m lm ∙ ap (λ (p : ℕ). value_at (numbers c.args.poly.now) (place_of p))
          (omega arith))
          (put_values value out c.place_values.result.0 a found.long (omega (arith, c.loop-pair.auto.out))
          (λ m lm. found.values m lm ∙ ap (λ (p : ℕ). value_at (numbers c.args.poly.now) (place_of p)) (omega arith))
          c.loop-pair.invariant.done) i (omega arith);
    }
