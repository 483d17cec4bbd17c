-- Reads that follow one another.
use Rattle.std.proofs.Common.{◌≡◌, ℕ, ◌+◌, ◌-◌, ◌<◌, min, List, [], ◌∷◌, ◌++◌, Option, Some, None, refl, sym, ap, ◌∙◌, subst, append_assoc, arith}
use Rattle.std.proofs.lemmas.List.{append-nil}
use Rattle.tm_base.specs.Outside.{Read, append_reads}
use Rattle.tm_driver.specs.Turns.{AreTurns, ReadsInTurns, turn_size}

append_reads-nil : (known : Option (List Read)) → append_reads known [] ≡ known
append_reads-nil None = refl
append_reads-nil (Some reads) = ap Some (append-nil reads)

append_reads-more : (known : Option (List Read)) (first more : List Read)
    → append_reads (append_reads known first) more ≡ append_reads known (first ++ more)
append_reads-more None first more = refl
append_reads-more (Some reads) first more = ap Some (append_assoc reads first more)

-- of so many octets at most, reads that each gave some, after which these are left
abbrev TurnsTo : (left most : ℕ) → List Read → Type 0
TurnsTo left most [] = left ≡ most
TurnsTo left most (read ∷ more) = (0 < most) × (read.room ≡ min turn_size most) × (0 < read.count)
    × TurnsTo left (most - read.count) more

turns-are : (left most : ℕ) (reads : List Read) → TurnsTo left most reads → AreTurns most reads
turns-are left most [] to = tt
turns-are left most (read ∷ more) to =
    (to.0, to.1, λ none. absurd (omega (arith, none, to.2)), turns-are left (most - read.count) more to.3)

-- one more
turns-more : (left most : ℕ) (reads : List Read) (read : Read) → TurnsTo left most reads → 0 < left
    → read.room ≡ min turn_size left → 0 < read.count → TurnsTo (left - read.count) most (reads ++ read ∷ [])
turns-more left most [] read to some room gave =
    (subst (λ n. 0 < n) to some, room ∙ ap (min turn_size) to, gave, ap (λ n. n - read.count) to)
turns-more left most (first ∷ more) read to some room gave =
    (to.0, to.1, to.2, turns-more left (most - first.count) more read to.3 some room gave)

-- and a last one, whatever it gave
turns-last : (left most : ℕ) (reads : List Read) (read : Read) → TurnsTo left most reads → 0 < left
    → read.room ≡ min turn_size left → AreTurns most (reads ++ read ∷ [])
turns-last left most [] read to some room =
    (subst (λ n. 0 < n) to some, room ∙ ap (min turn_size) to, λ none. refl, tt)
turns-last left most (first ∷ more) read to some room = (
  to.0,
  to.1,
  λ none. absurd (omega (arith, none, to.2)),
  turns-last left (most - first.count) more read to.3 some room,
)

-- ---- what a source was asked for

-- reads that each gave octets, after which so many are left up to the limit and one more
pub record Asked (limit left : ℕ) (before now : Option (List Read)) : Type 0 where
  pub reads : List Read
  pub asked : now ≡ append_reads before reads
  pub to : TurnsTo left (limit + 1) reads

pub asked-none : (limit : ℕ) (before : Option (List Read)) → Asked limit (limit + 1) before before
asked-none limit before = record { reads = []; asked = sym (append_reads-nil before); to = refl }

pub asked-are : (limit left : ℕ) (before now : Option (List Read)) → Asked limit left before now
    → ReadsInTurns limit before now
asked-are limit left before now was =
    record { reads = was.reads; asked = was.asked; are = turns-are left (limit + 1) was.reads was.to }

-- one read more
module _ (limit left : ℕ) (before middle now : Option (List Read)) (read : Read)
    (was : Asked limit left before middle) (some : 0 < left)
    (is : now ≡ append_reads middle (read ∷ [])) (room : read.room ≡ min turn_size left) where
  then-asked : now ≡ append_reads before (was.reads ++ read ∷ [])
  then-asked =
      is ∙ ap (λ k. append_reads k (read ∷ [])) was.asked ∙ append_reads-more before was.reads (read ∷ [])

  pub asked-more : (count : ℕ) → read.count ≡ count → 0 < count → Asked limit (left - count) before now
  asked-more count long gave = record {
    reads = was.reads ++ read ∷ [];
    asked = then-asked;
    to = subst (λ n. TurnsTo (left - n) (limit + 1) (was.reads ++ read ∷ [])) long
        (turns-more left (limit + 1) was.reads read was.to some room (subst (λ n. 0 < n) (sym long) gave));
  }

  pub asked-last : ReadsInTurns limit before now
  asked-last = record {
    reads = was.reads ++ read ∷ [];
    asked = then-asked;
    are = turns-last left (limit + 1) was.reads read was.to some room;
  }
