use Rattle.std.proofs.Common.{◌≡◌, ℕ, ◌++◌, ◌∙◌, ap, length, arith, take, drop, List}
use lib.Lanes.{put_chunk}
use Rattle.std.proofs.lemmas.Simd.{put_chunk_whole}
use Rattle.std.proofs.lemmas.List.{take_at, drop_at, take_all, drop_all, append-nil, length-take-le, length-drop}
use Rattle.tm_viterbi.proofs.lanes.store_halves.Goals as goal

stored : (next low high : List ℕ) → length next ≡ 64 → length low ≡ 32 → length high ≡ 32
    → (let begun = put_chunk 0 (take 32 next) low ++ drop 32 next in
    take 32 begun ++ (put_chunk 0 (take 32 (drop 32 begun)) high ++ drop 32 (drop 32 begun))) ≡ low ++ high
stored next low high l ll lh =
    let tail = drop 32 next in
    let lt : length tail ≡ 32 = omega (arith, length-drop 32 next) in
    let put : List ℕ → List ℕ = λ begun. take 32 begun ++ (put_chunk 0 (take 32 (drop 32 begun)) high
    ++ drop 32 (drop 32 begun)) in
    let a : put_chunk 0 (take 32 next) low ≡ low = put_chunk_whole (take 32 next) low
    (omega (arith, length-take-le 32 next (omega arith))) in
    let b : put_chunk 0 (take 32 tail) high ≡ high = ap (λ v. put_chunk 0 v high) (take_all 32 tail (omega arith))
    ∙ put_chunk_whole tail high (omega arith) in
    ap (λ v. put (v ++ tail)) a
    ∙ ap (λ v. v ++ (put_chunk 0 (take 32 (drop 32 (low ++ tail))) high ++ drop 32 (drop 32 (low ++ tail))))
    (take_at low tail 32 ll)
    ∙ ap (λ v. low ++ (put_chunk 0 (take 32 v) high ++ drop 32 v)) (drop_at low tail 32 ll)
    ∙ ap (λ v. low ++ (v ++ drop 32 tail)) b
    ∙ ap (λ v. low ++ (high ++ v)) (drop_all 32 tail (omega arith))
    ∙ ap (λ v. low ++ v) (append-nil high)

pub returns : goal.returns
returns c = stored c.args.next.now c.args.low c.args.high (omega arith) (omega arith) (omega arith)
