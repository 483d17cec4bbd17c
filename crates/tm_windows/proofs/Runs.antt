-- Windows one after another.
use Rattle.std.proofs.Common.{◌≡◌, ℕ, ◌+◌, ◌-◌, ◌*◌, ◌^◌, ◌<◌, ◌≤◌, ◌∙◌, ◌++◌, ◌⊎◌, inl, inr, All, length-append, sym, ap, subst, arith, List, Some, length, drop, drop-drop, length-drop, get_or, get_or-append-add, set, add-mul, mul-le-mul_right}
use Rattle.std.specs.Option.{ForSome}
use Rattle.std.proofs.lemmas.Bool.{cases_lt}
use Rattle.std.proofs.lemmas.List.{get_or-set_same, get_or-set_other, get_or_append_left}
use Rattle.tm_conv.specs.Path.{steps_size}
use Rattle.tm_conv.proofs.Sizes.{steps_size-le, steps_size-add}
use Rattle.tm_viterbi.specs.declared.window_decoder.WindowShape.{WindowShape}
use Rattle.tm_windows.specs.Candidates.{IsCandidate, AreCandidates}
use Rattle.tm_windows.specs.declared.candidate.Candidate.{Candidate}

pub more_times : (j k : ℕ) → (j + 1) * k ≡ j * k + k
more_times j k = let one : 1 * k ≡ k = omega arith in add-mul j 1 k ∙ ap (λ (v : ℕ). j * k + v) one

pub small_some : (n : ℕ) → n < 64 → ForSome (Some n) (λ register. register < 64)
small_some n lt x e = subst (λ (v : ℕ). v < 64) (let h : n ≡ x = cc in h) lt

-- a window that begins at step `now` has its room among the octets, from place `at` on, and so has the one after it
pub record HasRoom (s : WindowShape) (now at : ℕ) (octets : List ℕ) : Type 0 where
  pub room : steps_size s.rate now (s.keep + s.ahead + 1) ≤ length (drop at octets)
  pub next : at + steps_size s.rate now s.keep ≤ length octets

-- the window of number j of n
pub room_of : (s : WindowShape) (t n j now at : ℕ) (octets : List ℕ) → now ≡ t + j * s.keep
    → at ≡ steps_size s.rate t (j * s.keep) → j < n
    → steps_size s.rate t (n * s.keep + s.ahead + 1) ≤ length octets → HasRoom s now at octets
room_of s t n j now at octets en eat lt room =
    let steps = s.keep + s.ahead + 1 in
    let last : (j + 1) * s.keep ≤ n * s.keep = mul-le-mul_right s.keep (let le : j + 1 ≤ n = omega (arith, lt) in le) in
    let within : j * s.keep + steps ≤ n * s.keep + s.ahead + 1 = omega (arith, last, more_times j s.keep) in
    let le = steps_size-le s.rate t (j * s.keep + steps) (n * s.keep + s.ahead + 1) within in
    let add = steps_size-add s.rate t (j * s.keep) steps in
    let same : steps_size s.rate now steps ≡ steps_size s.rate (t + j * s.keep) steps =
    ap (λ (u : ℕ). steps_size s.rate u steps) en in
    let first_part = steps_size-le s.rate now s.keep steps (omega arith) in
    record {
      room = omega (arith, length-drop at octets, eat, le, add, room, same);
      next = omega (arith, eat, le, add, room, same, first_part);
    }

-- one window further
pub further : (s : WindowShape) (t j now at size : ℕ) → now ≡ t + j * s.keep → at ≡ steps_size s.rate t (j * s.keep)
    → size ≡ steps_size s.rate now s.keep
    → at + size ≡ steps_size s.rate t ((j + 1) * s.keep)
further s t j now at size en eat es =
    let same : steps_size s.rate now s.keep ≡ steps_size s.rate (t + j * s.keep) s.keep =
    ap (λ (u : ℕ). steps_size s.rate u s.keep) en in
    let whole : steps_size s.rate t ((j + 1) * s.keep) ≡ steps_size s.rate t (j * s.keep + s.keep) =
    ap (λ (m : ℕ). steps_size s.rate t m) (more_times j s.keep) in
    omega (arith, eat, es, same, whole, steps_size-add s.rate t (j * s.keep) s.keep)

-- the candidate of number j
at_number : (s : WindowShape) (t : ℕ) (octets : List ℕ) (j now at : ℕ) (c : Candidate) → now ≡ t + j * s.keep
    → at ≡ steps_size s.rate t (j * s.keep)
    → IsCandidate s now (drop at octets) c → IsCandidate s (t + j * s.keep)
    (drop (steps_size s.rate t (j * s.keep)) octets) c
at_number s t octets j now at c en eat is =
    subst (λ (u : ℕ). IsCandidate s u (drop (steps_size s.rate t (j * s.keep)) octets) c) en
    (subst (λ (a : ℕ). IsCandidate s now (drop a octets) c) eat is)

pub candidate_at : (s : WindowShape) (t : ℕ) (octets : List ℕ) (j n now at : ℕ) (candidates : List Candidate)
    (d : Candidate) → now ≡ t + j * s.keep → at ≡ steps_size s.rate t (j * s.keep)
    → j < n → AreCandidates s t octets j n candidates → IsCandidate s now (drop at octets) (get_or candidates j d)
candidate_at s t octets j n now at candidates d en eat lt are =
    let c = get_or candidates j d in
    subst (λ (u : ℕ). IsCandidate s u (drop at octets) c) (sym en)
    (subst (λ (a : ℕ). IsCandidate s (t + j * s.keep) (drop a octets) c) (sym eat) (are j d (omega arith) lt))

-- one candidate more stands
pub one_more : (s : WindowShape) (t : ℕ) (octets : List ℕ) (candidates : List Candidate) (c : Candidate)
    (j now at : ℕ) → now ≡ t + j * s.keep → at ≡ steps_size s.rate t (j * s.keep) → j < length candidates
    → IsCandidate s now (drop at octets) c → AreCandidates s t octets 0 j candidates
    → AreCandidates s t octets 0 (j + 1) (set candidates j c)
one_more s t octets candidates c j now at en eat lt is are k d from less = go (cases_lt k j)
  where
    P : ℕ → Candidate → Type 0
    P n x = IsCandidate s (t + n * s.keep) (drop (steps_size s.rate t (n * s.keep)) octets) x

    go : (k < j) ⊎ (j ≤ k) → P k (get_or (set candidates j c) k d)
    go (inl below) =
        subst (λ (x : Candidate). P k x) (sym (get_or-set_other candidates j k c d (λ e. omega (arith, e, below))))
        (are k d from below)
    go (inr le) =
        let here : j ≡ k = omega (arith, le, less) in
        subst (λ (n : ℕ). P n (get_or (set candidates j c) n d)) here
        (subst (λ (x : Candidate). P j x) (sym (get_or-set_same candidates j c d lt))
        (at_number s t octets j now at c en eat is))

-- the candidates after number j stand, whatever is done to it
pub those_left : (s : WindowShape) (t : ℕ) (octets : List ℕ) (j n : ℕ) (candidates : List Candidate) (c : Candidate)
    → AreCandidates s t octets j n candidates → AreCandidates s t octets (j + 1) n (set candidates j c)
those_left s t octets j n candidates c are k d from less =
    subst (λ (x : Candidate). IsCandidate s (t + k * s.keep) (drop (steps_size s.rate t (k * s.keep)) octets) x)
    (sym (get_or-set_other candidates j k c d (λ e. omega (arith, e, from)))) (are k d (omega (arith, from)) less)

-- ---- two parts, side by side
pub All-first_part : (P : Candidate → Type 0) (all first_part other_part : List Candidate)
    → all ≡ first_part ++ other_part → All P all → All P first_part
All-first_part P all first_part other_part is h =
    let whole = subst (λ (v : List Candidate). All P v) is h in
    λ k d lt. subst P (get_or_append_left first_part other_part d k lt)
    (whole k d (omega (arith, lt, length-append first_part other_part)))

pub All-other_part : (P : Candidate → Type 0) (all first_part other_part : List Candidate)
    → all ≡ first_part ++ other_part → All P all → All P other_part
All-other_part P all first_part other_part is h =
    let whole = subst (λ (v : List Candidate). All P v) is h in
    λ k d lt. subst P (get_or-append-add first_part other_part k d)
    (whole (length first_part + k) d (omega (arith, lt, length-append first_part other_part)))

pub record HasParts (s : WindowShape) (t at low high size len : ℕ) : Type 0 where
  pub first_part : at + steps_size s.rate t (low * s.keep + s.ahead + 1) ≤ len
  pub within : at + size ≤ len
  pub other_part : at + size + steps_size s.rate (t + low * s.keep) (high * s.keep + s.ahead + 1) ≤ len
  pub few_first : t + low * s.keep < 2 ^ 61
  pub few_other : t + low * s.keep + high * s.keep < 2 ^ 61

pub parts_of : (s : WindowShape) (t at low high count size len : ℕ) → low + high ≡ count
    → size ≡ steps_size s.rate t (low * s.keep)
    → at + steps_size s.rate t (count * s.keep + s.ahead + 1) ≤ len → t + count * s.keep < 2 ^ 61
    → HasParts s t at low high size len
parts_of s t at low high count size len is es room few =
    let sum : count * s.keep ≡ low * s.keep + high * s.keep = ap (λ (n : ℕ). n * s.keep) (sym is)
    ∙ add-mul low high s.keep in
    let whole : low * s.keep + (high * s.keep + s.ahead + 1) ≡ count * s.keep + s.ahead + 1 = omega (arith, sum) in
    let same : steps_size s.rate t (low * s.keep + (high * s.keep + s.ahead + 1))
    ≡ steps_size s.rate t (count * s.keep + s.ahead + 1) = ap (λ (n : ℕ). steps_size s.rate t n) whole in
    let add = steps_size-add s.rate t (low * s.keep) (high * s.keep + s.ahead + 1) in
    let le = steps_size-le s.rate t (low * s.keep + s.ahead + 1) (count * s.keep + s.ahead + 1) (omega (arith, sum)) in
    record {
      first_part = omega (arith, le, room);
      within = omega (arith, es, add, same, room);
      other_part = omega (arith, es, add, same, room);
      few_first = omega (arith, sum, few);
      few_other = omega (arith, sum, few);
    }

pub joined : (s : WindowShape) (t at low high n later place : ℕ) (octets : List ℕ)
    (first_part other_part : List Candidate) → length first_part ≡ low → low + high ≡ n
    → later ≡ t + low * s.keep → place ≡ at + steps_size s.rate t (low * s.keep)
    → AreCandidates s t (drop at octets) 0 low first_part → AreCandidates s later
    (drop place octets) 0 high other_part → AreCandidates s t (drop at octets) 0 n (first_part ++ other_part)
joined s t at low high n later place octets first_part other_part long sum el ep first_parts other_parts k d from less =
    go (cases_lt k low)
  where
    P : ℕ → List ℕ → Candidate → Type 0
    P u o x = IsCandidate s u o x

    go : (k < low) ⊎ (low ≤ k) → P (t + k * s.keep) (drop (steps_size s.rate t (k * s.keep)) (drop at octets))
        (get_or (first_part ++ other_part) k d)
    go (inl below) =
        subst (λ (x : Candidate). P (t + k * s.keep) (drop (steps_size s.rate t (k * s.keep)) (drop at octets)) x)
        (sym (get_or_append_left first_part other_part d k (omega (arith, long, below)))) (first_parts k d from below)
    go (inr le) =
        let j = k - low in
        let number : length first_part + j ≡ k = omega (arith, long, le) in
        let steps : k * s.keep ≡ low * s.keep + j * s.keep =
        ap (λ (m : ℕ). m * s.keep) (let e : k ≡ low + j = omega (arith, le) in e) ∙ add-mul low j s.keep in
        let step : later + j * s.keep ≡ t + k * s.keep = omega (arith, el, steps) in
        let there : steps_size s.rate later (j * s.keep) ≡ steps_size s.rate (t + low * s.keep) (j * s.keep) =
        ap (λ (u : ℕ). steps_size s.rate u (j * s.keep)) el in
        let whole : steps_size s.rate t (k * s.keep) ≡ steps_size s.rate t (low * s.keep + j * s.keep) =
        ap (λ (m : ℕ). steps_size s.rate t m) steps in
        let taken : place + steps_size s.rate later (j * s.keep) ≡ at + steps_size s.rate t (k * s.keep) =
        omega (arith, ep, there, whole, steps_size-add s.rate t (low * s.keep) (j * s.keep)) in
        let rest : drop (steps_size s.rate later (j * s.keep)) (drop place octets)
        ≡ drop (steps_size s.rate t (k * s.keep)) (drop at octets)
        =
        drop-drop (steps_size s.rate later (j * s.keep)) place octets ∙ ap (λ (m : ℕ). drop m octets) taken
        ∙ sym (drop-drop (steps_size s.rate t (k * s.keep)) at octets) in
        let item : get_or other_part j d ≡ get_or (first_part ++ other_part) k d =
        sym (get_or-append-add first_part other_part j d)
        ∙ ap (λ (m : ℕ). get_or (first_part ++ other_part) m d) number in
        subst (λ (x : Candidate). P (t + k * s.keep) (drop (steps_size s.rate t (k * s.keep)) (drop at octets)) x) item
        (subst (λ (u : ℕ). P u (drop (steps_size s.rate t (k * s.keep)) (drop at octets)) (get_or other_part j d)) step
        (subst (λ (o : List ℕ). P (later + j * s.keep) o (get_or other_part j d)) rest
        (other_parts j d (omega arith) (omega (arith, sum, less, le)))))
