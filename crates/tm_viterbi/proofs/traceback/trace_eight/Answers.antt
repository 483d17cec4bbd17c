use Rattle.std.proofs.Common.{ℕ, rules, ◌≡◌, ◌<◌, ◌/◌, ◌%◌, ◌∙◌, ap, arith, length, get_or, []}
use Rattle.tm_viterbi.specs.declared.traceback.eight_bits.TheConstants.{EIGHT_BITS}
use Rattle.tm_viterbi.proofs.StepsBack.{eight_bits, row_is, eight_walked, eight_start}
use Rattle.tm_viterbi.proofs.traceback.trace_eight.Goals as goal

-- a row has eight octets
row_long : (number : ℕ) → number < 256 → length (get_or EIGHT_BITS number []) ≡ 8
row_long number lt = ap length (row_is number lt)

pub slice_bounds-copy_from_slice-end : goal.slice_bounds-copy_from_slice-end
slice_bounds-copy_from_slice-end c =
    let long = row_long (c.eight_steps_back-walked.result / 64 % 256) (omega arith) in
    search rules

pub copy_from_slice-requires : goal.copy_from_slice-requires
copy_from_slice-requires c =
    let long = row_long (c.eight_steps_back-walked.result / 64 % 256) (omega arith) in
    omega (arith, c.requires.room)

pub returns-clause-bits : goal.returns-clause-bits
returns-clause-bits c =
    let walked = c.eight_steps_back-walked in
    c.copy_from_slice.ensures.after ∙ row_is (walked.result / 64 % 256) (omega arith)
    ∙ ap (λ v. eight_bits (v / 64 % 256)) walked.ensures.value
    ∙ eight_walked c.args.survivors.now c.args.register c.requires.size c.requires.register

pub returns-clause-start : goal.returns-clause-start
returns-clause-start c =
    ap (λ v. v % 64) c.eight_steps_back-walked.ensures.value
    ∙ eight_start c.args.survivors.now c.args.register c.requires.register
