-- Fed nothing, and fed one piece after another.
use Rattle.std.proofs.Common.{◌≡◌, ℕ, ◌+◌, ◌-◌, List, [], ◌++◌, length, take, drop, Option, sym, ◌∙◌, ap, subst, append_assoc, min, arith}
use Rattle.std.proofs.lemmas.List.{append-nil, take_min, take-append-le}
use Rattle.std.proofs.Math.Seq.{take-add, take-append-add, drop-append_seam, drop-length}
use Rattle.std.specs.Io.KnownBytes.{append_known}
use Rattle.tm_base.proofs.Known.{append_known-more, append_known-nil}
use Rattle.tm_base.specs.Pieces.{beyond, further, GoesOn, Fed, FedPrefix}

-- nothing more is due for nothing more
further-of_nothing : (due : List ℕ → List ℕ) (given : List ℕ) → further due given [] ≡ []
further-of_nothing due given =
    ap (λ (l : List ℕ). beyond (due given) (due l)) (append-nil given) ∙ drop-length (due given)

-- what is due beyond for two pieces is that for the first and then that for the second
further-twice : (due : List ℕ → List ℕ) → GoesOn due → (given first second : List ℕ)
    → further due given (first ++ second) ≡ further due given first ++ further due (given ++ first) second
further-twice due on given first second =
    let all : due (given ++ (first ++ second)) ≡ due given ++
    (further due given first ++ further due (given ++ first) second) =
    ap due (sym (append_assoc given first second)) ∙ on (given ++ first) second
    ∙ ap (λ (l : List ℕ). l ++ further due (given ++ first) second) (on given first)
    ∙ append_assoc (due given) (further due given first) (further due (given ++ first) second) in
    ap (drop (length (due given))) all ∙ drop-append_seam (due given)
    (further due given first ++ further due (given ++ first) second)

pub fed-none : {S : Type 0} (stands_for : S → List ℕ → Type 0) (due : List ℕ → List ℕ) (value : S)
    (taken : Option (List ℕ)) → Fed stands_for due value value taken taken []
fed-none stands_for due value taken = record {
  stands = λ given stood. subst (stands_for value) (sym (append-nil given)) stood;
  written = λ given stood. sym (ap (append_known taken) (further-of_nothing due given) ∙ append_known-nil taken);
}

pub fed-more : {S : Type 0} (stands_for : S → List ℕ → Type 0) (due : List ℕ → List ℕ) → GoesOn due
    → (a b c : S) (taken_a taken_b taken_c : Option (List ℕ)) (first second : List ℕ)
    → Fed stands_for due a b taken_a taken_b first → Fed stands_for due b c taken_b taken_c second
    → Fed stands_for due a c taken_a taken_c (first ++ second)
fed-more stands_for due on a b c taken_a taken_b taken_c first second p q = record {
  stands =
      λ given stood. subst (stands_for c) (append_assoc given first second)
      (q.stands (given ++ first) (p.stands given stood));
  written = λ given stood.
      q.written (given ++ first) (p.stands given stood)
      ∙ ap (λ (k : Option (List ℕ)). append_known k (further due (given ++ first) second)) (p.written given stood)
      ∙ append_known-more taken_a (further due given first) (further due (given ++ first) second)
      ∙ ap (append_known taken_a) (sym (further-twice due on given first second));
}

pub fed-prefix : {S : Type 0} (stands_for : S → List ℕ → Type 0) (due : List ℕ → List ℕ) → GoesOn due
    → (a b : S) (taken_a taken_b taken_c : Option (List ℕ)) (first second : List ℕ)
    → Fed stands_for due a b taken_a taken_b first → FedPrefix stands_for due b taken_b taken_c second
    → FedPrefix stands_for due a taken_a taken_c (first ++ second)
fed-prefix stands_for due on a b taken_a taken_b taken_c first second p q = record {
  prefix = λ given stood.
      let more = q.prefix (given ++ first) (p.stands given stood) in
      let one = further due given first in
      let two = further due (given ++ first) second in (
        length one + more.0,
        more.1
            ∙ ap (λ (k : Option (List ℕ)). append_known k (take more.0 two)) (p.written given stood)
            ∙ append_known-more taken_a one (take more.0 two)
            ∙ ap (append_known taken_a) (sym (take-append-add one two more.0)
            ∙ ap (take (length one + more.0)) (sym (further-twice due on given first second))),
      );
}

-- a prefix of what is due for a piece is one of what is due for a longer piece
pub fed-prefix_of_longer : {S : Type 0} (stands_for : S → List ℕ → Type 0) (due : List ℕ → List ℕ) → GoesOn due
    → (a : S) (taken taken_now : Option (List ℕ)) (first second : List ℕ)
    → FedPrefix stands_for due a taken taken_now first → FedPrefix stands_for due a taken taken_now (first ++ second)
fed-prefix_of_longer stands_for due on a taken taken_now first second p = record {
  prefix = λ given stood.
      let some = p.prefix given stood in
      let one = further due given first in
      let two = further due (given ++ first) second in (
        min some.0 (length one),
        some.1 ∙ ap (append_known taken) (shorter some.0 one two
            ∙ ap (take (min some.0 (length one))) (sym (further-twice due on given first second))),
      );
}
  where
    shorter : (count : ℕ) (xs ys : List ℕ) → take count xs ≡ take (min count (length xs)) (xs ++ ys)
    shorter count xs ys = sym (take_min count xs) ∙ sym (take-append-le (min count (length xs)) xs ys (omega arith))

-- one piece of a list, and then the next
pub piece-joined : (done count : ℕ) (octets : List ℕ)
    → take done octets ++ take ((done + count) - done) (drop done octets) ≡ take (done + count) octets
piece-joined done count octets =
    let same : (done + count) - done ≡ count = omega arith in
    ap (λ (n : ℕ). take done octets ++ take n (drop done octets)) same ∙ sym (take-add done count octets)
