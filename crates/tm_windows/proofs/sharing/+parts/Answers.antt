use Rattle.std.proofs.Common.{◌≡◌, ◌+◌, ◌-◌, ◌*◌, ◌/◌, ◌≤◌, ◌∙◌, ◌++◌, ℕ, List, sym, ap, arith, length, length-append, vec_len}
use Rattle.std.proofs.Math.Nat.{div-le_self}
use Rattle.std.proofs.lemmas.List.Elements.{All-append}
use Rattle.tm_conv.specs.Path.{steps_size}
use Rattle.tm_viterbi.specs.declared.window_decoder.WindowShape.{WindowShape}
use Rattle.tm_windows.specs.declared.candidate.Candidate.{Candidate}
use Rattle.tm_windows.proofs.Runs.{parts_of, joined, All-first_part, All-other_part}
use Rattle.tm_windows.proofs.sharing.+parts.Goals as goal

-- candidates cut in two, and how many octets the first part goes on by
record IsCut (s : WindowShape) (t size : ℕ) (all first_part other_part : List Candidate) : Type 0 where
  whole : length first_part + length other_part ≡ length all
  goes_on : size ≡ steps_size s.rate t (length first_part * s.keep)

is_cut : (s : WindowShape) (t middle size : ℕ) (all first_part other_part : List Candidate)
    → all ≡ first_part ++ other_part → length first_part ≡ middle → size ≡ steps_size s.rate t (middle * s.keep)
    → IsCut s t size all first_part other_part
is_cut s t middle size all first_part other_part value front_len is = record {
  whole = omega (arith, ap length value, length-append first_part other_part);
  goes_on = is ∙ ap (λ (m : ℕ). steps_size s.rate t (m * s.keep)) (sym front_len);
}

pub decode_evenly-overflow_add-place : goal.decode_evenly-overflow_add-place
decode_evenly-overflow_add-place g t c =
    let n = length c.args.candidates.now in
    let low = n / c.min-parts.result in
    let le : low ≤ n = div-le_self n c.min-parts.result in
    let parts = parts_of c.args.shape c.args.t c.args.at low (n - low) n c.steps_len.result (length c.args.octets.now)
    (omega (arith, le)) c.steps_len.ensures c.requires.room c.requires.few in
    record { fits = omega (arith, parts.within, c.requires.long.1) }

pub decode_evenly-decode_both-requires-clause-first_part : goal.decode_evenly-decode_both-requires-clause-first_part
decode_evenly-decode_both-requires-clause-first_part g t c κs within =
    let s = c.args.shape in
    let cut = c.split_at_mut-first_part.ensures in
    let is = is_cut s c.args.t _ c.steps_len.result _ _ _ cut.value cut.front_len c.steps_len.ensures in
    let parts = parts_of s c.args.t c.args.at _ _ _ c.steps_len.result (length c.args.octets.now) is.whole is.goes_on
    c.requires.room c.requires.few in (
      All-first_part (λ (x : Candidate). vec_len x.bits ≡ s.keep + s.ahead) _ _ _ cut.value c.requires.bits,
      omega (arith, is.whole, c.requires.long.0),
      c.requires.within,
      parts.first_part,
      parts.few_first,
    )

pub decode_evenly-decode_both-requires-clause-other_part : goal.decode_evenly-decode_both-requires-clause-other_part
decode_evenly-decode_both-requires-clause-other_part g t c κs within =
    let s = c.args.shape in
    let cut = c.split_at_mut-first_part.ensures in
    let other_part = c.split_at_mut-first_part.result.1.now in
    let is = is_cut s c.args.t _ c.steps_len.result _ _ _ cut.value cut.front_len c.steps_len.ensures in
    let parts = parts_of s c.args.t c.args.at _ _ _ c.steps_len.result (length c.args.octets.now) is.whole is.goes_on
    c.requires.room c.requires.few in
    let steps = ap (λ (m : ℕ). m * s.keep) cut.front_len in
    let later = ap (λ (m : ℕ). steps_size s.rate (c.args.t + m) (length other_part * s.keep + s.ahead + 1)) steps in (
      All-other_part (λ (x : Candidate). vec_len x.bits ≡ s.keep + s.ahead) _ _ _ cut.value c.requires.bits,
      omega (arith, is.whole, c.requires.long.0),
      parts.within,
      omega (arith, parts.other_part, later),
      omega (arith, parts.few_other, steps),
    )

pub decode_evenly-returns-clause-candidates : goal.decode_evenly-returns-clause-candidates
decode_evenly-returns-clause-candidates g t c =
    let s = c.args.shape in
    let both = c.decode_both.ensures in
    let cut = c.split_at_mut-first_part.ensures in
    let is = is_cut s c.args.t _ c.steps_len.result _ _ _ cut.value cut.front_len c.steps_len.ensures in
    joined s c.args.t c.args.at _ _ _ _ _ c.args.octets.now c.decode_both.new.first_part c.decode_both.new.other_part
    c.decode_both.auto.first_part is.whole
    (ap (λ (m : ℕ). c.args.t + m * s.keep) (sym cut.front_len))
    (ap (λ (m : ℕ). c.args.at + m) is.goes_on) both.first_part.0 both.other_part.0

pub decode_evenly-returns-clause-bits : goal.decode_evenly-returns-clause-bits
decode_evenly-returns-clause-bits g t c =
    let s = c.args.shape in
    let both = c.decode_both.ensures in
    All-append (λ (x : Candidate). vec_len x.bits ≡ s.keep + s.ahead) c.decode_both.new.first_part
    c.decode_both.new.other_part both.first_part.1 both.other_part.1

pub decode_evenly-returns-clause-shape : goal.decode_evenly-returns-clause-shape
decode_evenly-returns-clause-shape g t c =
    let both = c.decode_both.ensures in
    All-append (λ (d : WindowShape). d ≡ c.args.shape) c.decode_both.new.first c.decode_both.new.others
    both.first_part.2 both.other_part.2
