-- The windows of a run, from a number on.
use Rattle.std.proofs.Common.{◌≡◌, ℕ, ◌+◌, ◌*◌, ◌^◌, ◌<◌, ◌≤◌, ◌∙◌, ◌++◌, ◌∷◌, [], sym, ap, subst, arith, refl, List, Option, Some, length, vec_len, drop, drop-drop, get_or, set, map, take, mul-le-mul_right}
use Rattle.std.proofs.lemmas.List.{get_or-set_same, get_or_read_under, map-append, take_more, take_more_set}
use Rattle.std.proofs.lemmas.List.Elements.{All-set}
use Rattle.tm_conv.specs.Path.{steps_size}
use Rattle.tm_conv.proofs.Paths.{steps_size-zero}
use Rattle.tm_conv.proofs.Sizes.{steps_size-le}
use Rattle.tm_viterbi.specs.WindowBlock.{WindowBlock}
use Rattle.tm_viterbi.specs.Due.{Place, after_block}
use Rattle.tm_viterbi.specs.declared.window_decoder.WindowShape.{WindowShape}
use Rattle.tm_viterbi.proofs.Closing.{Closed-push, kept_is}
use Rattle.tm_windows.specs.Candidates.{IsCandidate, AreCandidates, HaveRoom, ClosesWith, ClosedWith, after_windows, block_of, run_place}
use Rattle.tm_windows.specs.declared.candidate.Candidate.{Candidate}
use Rattle.tm_windows.specs.declared.window_run.WindowRun.{WindowRun}
use Rattle.tm_windows.proofs.Runs.{more_times, room_of, further, candidate_at, one_more, those_left}

-- the run from the window of number j on
pub record IsFrom (from : WindowRun) (j : ℕ) (here : WindowRun) : Type 0 where
  pub shape : here.shape ≡ from.shape
  pub t : here.t ≡ from.t + j * from.shape.keep
  pub octets : here.octets.now ≡ drop (steps_size from.shape.rate from.t (j * from.shape.keep)) from.octets.now

pub from_first : (from : WindowRun) → IsFrom from 0 from
from_first from =
    let s = from.shape in
    let none : 0 * s.keep ≡ 0 = omega arith in
    let size : steps_size s.rate from.t (0 * s.keep) ≡ 0
    = ap (λ (n : ℕ). steps_size s.rate from.t n) none ∙ steps_size-zero s.rate from.t in
    record {
      shape = refl;
      t = omega (arith, none);
      octets = sym (ap (λ (n : ℕ). drop n from.octets.now) size);
    }

pub from_next : (from here now : WindowRun) (j : ℕ) → IsFrom from j here → now.shape ≡ here.shape
    → now.t ≡ here.t + here.shape.keep
    → now.octets.now ≡ drop (steps_size here.shape.rate here.t here.shape.keep) here.octets.now
    → IsFrom from (j + 1) now
from_next from here now j is es et eo =
    let s = from.shape in
    let at = steps_size s.rate from.t (j * s.keep) in
    let size = steps_size s.rate here.t s.keep in
    let keep : here.shape.keep ≡ s.keep = ap (λ (w : WindowShape). w.keep) is.shape in
    let same : steps_size here.shape.rate here.t here.shape.keep ≡ size
    = ap (λ (w : WindowShape). steps_size w.rate here.t w.keep) is.shape in
    let sum : at + size ≡ steps_size s.rate from.t ((j + 1) * s.keep)
    = further s from.t j here.t at size is.t refl refl in
    record {
      shape = es ∙ is.shape;
      t = omega (arith, et, keep, is.t, more_times j s.keep);
      octets = eo ∙ ap (λ (n : ℕ). drop n here.octets.now) same ∙ ap (λ (o : List ℕ). drop size o) is.octets
          ∙ drop-drop size at from.octets.now ∙ ap (λ (n : ℕ). drop n from.octets.now) sum;
    }

-- the octets have the next window of n, a step more, and few symbols
pub record HasNext (here : WindowRun) : Type 0 where
  pub room : steps_size here.shape.rate here.t (here.shape.keep + here.shape.ahead + 1) ≤ length here.octets.now
  pub kept : steps_size here.shape.rate here.t here.shape.keep ≤ length here.octets.now
  pub few : here.t + here.shape.keep < 2 ^ 61

pub has_next : (from here : WindowRun) (j n : ℕ) → IsFrom from j here → j < n
    → steps_size from.shape.rate from.t (n * from.shape.keep + from.shape.ahead + 1) ≤ length from.octets.now
    → from.t + n * from.shape.keep < 2 ^ 61 → HasNext here
has_next from here j n is lt room few =
    let s = from.shape in
    let there = room_of s from.t n j here.t (steps_size s.rate from.t (j * s.keep)) from.octets.now is.t refl lt room in
    let whole : steps_size s.rate here.t (s.keep + s.ahead + 1) ≤ length here.octets.now
    = omega (arith, there.room, ap length is.octets) in
    let part = steps_size-le s.rate here.t s.keep (s.keep + s.ahead + 1) (omega arith) in
    let some : steps_size s.rate here.t s.keep ≤ length here.octets.now = omega (arith, whole, part) in
    let keep : here.shape.keep ≡ s.keep = ap (λ (w : WindowShape). w.keep) is.shape in
    let last : (j + 1) * s.keep ≤ n * s.keep = mul-le-mul_right s.keep (let le : j + 1 ≤ n = omega (arith, lt) in le) in
    record {
      room = subst (λ (w : WindowShape). steps_size w.rate here.t (w.keep + w.ahead + 1) ≤ length here.octets.now)
          (sym is.shape) whole;
      kept = subst (λ (w : WindowShape). steps_size w.rate here.t w.keep ≤ length here.octets.now) (sym is.shape) some;
      few = omega (arith, is.t, keep, last, more_times j s.keep, few);
    }

-- the candidate of the next window
is_there : (from here : WindowRun) (j : ℕ) (c : Candidate) → IsFrom from j here
    → IsCandidate here.shape here.t here.octets.now c
    → IsCandidate from.shape here.t (drop (steps_size from.shape.rate from.t (j * from.shape.keep)) from.octets.now) c
is_there from here j c is h =
    subst (λ (o : List ℕ). IsCandidate from.shape here.t o c) is.octets
    (subst (λ (w : WindowShape). IsCandidate w here.t here.octets.now c) is.shape h)

pub candidate_there : (from here : WindowRun) (j n : ℕ) (candidates : List Candidate) (d : Candidate)
    → IsFrom from j here → j < n
    → AreCandidates from.shape from.t from.octets.now j n candidates
    → IsCandidate here.shape here.t here.octets.now (get_or candidates j d)
candidate_there from here j n candidates d is lt are =
    let s = from.shape in
    let c = get_or candidates j d in
    let there = candidate_at s from.t from.octets.now j n here.t (steps_size s.rate from.t (j * s.keep))
    candidates d is.t refl lt are in
    subst (λ (w : WindowShape). IsCandidate w here.t here.octets.now c) (sym is.shape)
    (subst (λ (o : List ℕ). IsCandidate s here.t o c) (sym is.octets) there)

-- each window of a run before number j has been decoded for its candidate
abbrev pub DecodedTo : WindowRun → ℕ → WindowRun → WindowShape → List Candidate → Type 0
DecodedTo from j here decoder candidates = record {
  shape : decoder ≡ from.shape;
  here : IsFrom from j here;
  bits : HaveRoom (from.shape.keep + from.shape.ahead) candidates;
  candidates : AreCandidates from.shape from.t from.octets.now 0 j candidates;
}

pub decoded_next : (from here now : WindowRun) (j : ℕ) (before after : WindowShape) (candidates : List Candidate)
    (c d : Candidate) → DecodedTo from j here before candidates → j < length candidates
    → after ≡ here.shape → vec_len c.bits ≡ vec_len (get_or candidates j d).bits
    → IsCandidate here.shape here.t here.octets.now c
    → now.shape ≡ here.shape → now.t ≡ here.t + here.shape.keep
    → now.octets.now ≡ drop (steps_size here.shape.rate here.t here.shape.keep) here.octets.now
    → DecodedTo from (j + 1) now after (set candidates j c)
decoded_next from here now j before after candidates c d is long ea eb one es et eo =
    let s = from.shape in
    record {
      shape = ea ∙ is.here.shape;
      here = from_next from here now j is.here es et eo;
      bits = All-set (λ (x : Candidate). vec_len x.bits ≡ s.keep + s.ahead) candidates j c
          (eb ∙ is.bits j d long) is.bits;
      candidates = one_more s from.t from.octets.now candidates c j
          here.t (steps_size s.rate from.t (j * s.keep))
          is.here.t refl long (is_there from here j c is.here one) is.candidates;
    }

-- where the window after all n begins
pub place_there : (from here : WindowRun) (j n : ℕ) → IsFrom from j here → j ≡ n
    → run_place here ≡ after_windows from.shape from.t from.octets.now n here.starts
place_there from here j n is e =
    let s = from.shape in
    let place : ℕ → List ℕ → Place = λ u o. record { starts = here.starts; t = u; octets = o } in
    ap (λ (u : ℕ). place u here.octets.now) is.t
    ∙ ap (λ (o : List ℕ). place (from.t + j * s.keep) o) is.octets
    ∙ ap (λ (m : ℕ). place (from.t + m * s.keep) (drop (steps_size s.rate from.t (m * s.keep)) from.octets.now)) e

-- one more window is closed after others
pub push_next : (from here now : WindowRun) (first : Place) (more : List WindowBlock) (block : WindowBlock) (next : ℕ)
    → here.shape ≡ from.shape → block.end_state ≡ next → block.kept ≡ here.shape.keep
    → now.starts ≡ Some next → now.t ≡ here.t + here.shape.keep
    → now.octets.now ≡ drop (steps_size here.shape.rate here.t here.shape.keep) here.octets.now
    → ClosedWith from.shape first more (run_place here) → ClosesWith here.shape (run_place here) block
    → ClosedWith from.shape first (more ++ block ∷ []) (run_place now)
push_next from here now first more block next e ee ek es et eo closed closes =
    let s = here.shape in
    let all = more ++ block ∷ [] in
    let place : Option ℕ → ℕ → List ℕ → Place = λ r u o. record { starts = r; t = u; octets = o } in
    let rest : ℕ → List ℕ = λ k. drop (steps_size s.rate here.t k) here.octets.now in
    let before = subst (λ (w : WindowShape). ClosedWith w first more (run_place here)) (sym e) closed in
    let pushed : ClosedWith s first all (after_block s.rate (run_place here) block)
    = Closed-push s.rate s.invert s.keep s.ahead first (run_place here) more block before closes in
    let there : after_block s.rate (run_place here) block ≡ run_place now
    = ap (λ (r : ℕ). place (Some r) (here.t + block.kept) (rest block.kept)) ee
    ∙ ap (λ (k : ℕ). place (Some next) (here.t + k) (rest k)) ek
    ∙ ap (λ (r : Option ℕ). place r (here.t + s.keep) (rest s.keep)) (sym es)
    ∙ ap (λ (u : ℕ). place now.starts u (rest s.keep)) (sym et)
    ∙ ap (λ (o : List ℕ). place now.starts now.t o) (sym eo) in
    subst (λ (w : WindowShape). ClosedWith w first all (run_place now)) e
    (subst (λ (p : Place). ClosedWith s first all p) there pushed)

-- the candidate of number j stands for its window: it was decoded from the register after the one before it
pub record Settles (from here : WindowRun) (j n : ℕ) (before after : List Candidate) (c : Candidate) : Type 0 where
  pub item : (d : Candidate) → get_or after j d ≡ c
  pub starts : c.starts ≡ here.starts
  pub is : IsCandidate here.shape here.t here.octets.now c
  pub first : take (j + 1) after ≡ take j before ++ c ∷ []
  pub bits : HaveRoom (from.shape.keep + from.shape.ahead) after
  pub left : AreCandidates from.shape from.t from.octets.now (j + 1) n after

-- as it was
pub settles-kept : (from here : WindowRun) (j n : ℕ) (candidates : List Candidate) (c : Candidate) → IsFrom from j here
    → j < n → j < length candidates → HaveRoom (from.shape.keep + from.shape.ahead) candidates
    → AreCandidates from.shape from.t from.octets.now j n candidates → c ≡ get_or candidates j c
    → c.starts ≡ here.starts → Settles from here j n candidates candidates c
settles-kept from here j n candidates c is lt long bits are item starts = record {
  item = λ d. sym (get_or_read_under candidates j (length candidates) c d item long refl);
  starts = starts;
  is = subst (IsCandidate here.shape here.t here.octets.now) (sym item)
      (candidate_there from here j n candidates c is lt are);
  first = take_more candidates j c long ∙ ap (λ (x : Candidate). take j candidates ++ x ∷ []) (sym item);
  bits = bits;
  left = λ k d le less. are k d (omega (arith, le)) less;
}

-- decoded again
pub settles-again : (from here : WindowRun) (j n : ℕ) (candidates : List Candidate) (c d : Candidate)
    → j < length candidates → HaveRoom (from.shape.keep + from.shape.ahead) candidates
    → AreCandidates from.shape from.t from.octets.now j n candidates → c.starts ≡ here.starts
    → IsCandidate here.shape here.t here.octets.now c → vec_len c.bits ≡ vec_len (get_or candidates j d).bits
    → Settles from here j n candidates (set candidates j c) c
settles-again from here j n candidates c d long bits are starts is eb = record {
  item = λ e. get_or-set_same candidates j c e long;
  starts = starts;
  is = is;
  first = take_more_set candidates j c long;
  bits = All-set (λ (x : Candidate). vec_len x.bits ≡ from.shape.keep + from.shape.ahead) candidates j c
      (eb ∙ bits j d long) bits;
  left = those_left from.shape from.t from.octets.now j n candidates c are;
}

-- its block is closed after those before it
pub settled_next : (from here now : WindowRun) (j n : ℕ) (before after : List Candidate) (c d : Candidate)
    → here.shape ≡ from.shape → Settles from here j n before after c
    → now.starts ≡ Some (get_or after j d).path.end_state → now.t ≡ here.t + here.shape.keep
    → now.octets.now ≡ drop (steps_size here.shape.rate here.t here.shape.keep) here.octets.now
    → ClosedWith from.shape (run_place from) (map block_of (take j before)) (run_place here)
    → ClosedWith from.shape (run_place from) (map block_of (take (j + 1) after)) (run_place now)
settled_next from here now j n before after c d e one es et eo closed =
    let s = here.shape in
    let place : Option ℕ → Place = λ r. record { starts = r; t = here.t; octets = here.octets.now } in
    let closes : ClosesWith s (run_place here) (block_of c) =
    subst (λ (r : Option ℕ). ClosesWith s (place r) (block_of c)) one.starts one.is in
    let all = ap (λ (l : List Candidate). map block_of l) one.first ∙ map-append block_of (take j before) (c ∷ []) in
    subst (λ (l : List WindowBlock). ClosedWith from.shape (run_place from) l (run_place now)) (sym all)
    (push_next from here now (run_place from) (map block_of (take j before)) (block_of c) c.path.end_state e refl
    (closes.is_block.kept ∙ kept_is s.keep s.ahead) (es ∙ ap (λ (x : Candidate). Some x.path.end_state) (one.item d))
    et eo closed closes)
