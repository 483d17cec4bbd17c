-- The rows of the symbols that are kept.
use Rattle.std.proofs.Common.{◌≡◌, ◌<◌, ◌+◌, ◌%◌, ℕ, List, [], ◌∷◌, get_or, refl, arith, zero, suc, Bool, true, false, ltb, ◌&&◌}
use Rattle.std.proofs.lemmas.List.Elements.{All-cons}
use Rattle.std.proofs.lemmas.Bool.{ltb-true}
use Rattle.std.specs.Prelude.{All}
use Rattle.tm_conv.specs.declared.rates.Rate.{Rate}
use Rattle.tm_conv.specs.declared.rates.Rate.TheVariants.{R12, R23, R34, R56, R78}
use Rattle.tm_conv.specs.declared.octets.TheConstants.{KEPT, COUNTS, NEXT}
use Rattle.tm_conv.specs.Octets.{AreKept}
use Rattle.tm_conv.specs.Path.{period}

unfoldable are_below : List ℕ → Bool
are_below [] = true
are_below (x ∷ xs) = ltb x 16 && are_below xs

parts : (a b : Bool) → (a && b) ≡ true → (a ≡ true) × (b ≡ true)
parts true b e = (refl, e)
parts false b e = absurd cc

below : (xs : List ℕ) → are_below xs ≡ true → All (λ place. place < 16) xs
unfolding are_below
below [] e = λ k d within. absurd (omega arith)
below (x ∷ xs) e =
    let both = parts (ltb x 16) (are_below xs) e in
    All-cons (λ place. place < 16) x xs (ltb-true x 16 both.0) (below xs both.1)

-- the rows of a rate begin with this one
abbrev pub AreRows : ℕ → Rate → Type 0
AreRows first rate =
    (position : ℕ) → position < period rate
    → AreKept rate position (get_or KEPT (first + position) []) (get_or COUNTS (first + position) 0)

pub at_half : AreRows 0 R12
unfolding are_below
at_half zero lt =
    record {
      long = refl;
      small = below (get_or KEPT 0 []) refl;
      at_most = omega arith;
      kept = λ f invert register a b c d e g h i. refl;
    }
at_half (suc position) lt = absurd (omega arith)

pub at_two_thirds : AreRows 1 R23
unfolding are_below
at_two_thirds zero lt =
    record {
      long = refl;
      small = below (get_or KEPT 1 []) refl;
      at_most = omega arith;
      kept = λ f invert register a b c d e g h i. refl;
    }
at_two_thirds (suc zero) lt =
    record {
      long = refl;
      small = below (get_or KEPT 2 []) refl;
      at_most = omega arith;
      kept = λ f invert register a b c d e g h i. refl;
    }
at_two_thirds (suc (suc position)) lt = absurd (omega arith)

pub at_three_quarters : AreRows 3 R34
unfolding are_below
at_three_quarters zero lt =
    record {
      long = refl;
      small = below (get_or KEPT 3 []) refl;
      at_most = omega arith;
      kept = λ f invert register a b c d e g h i. refl;
    }
at_three_quarters (suc zero) lt =
    record {
      long = refl;
      small = below (get_or KEPT 4 []) refl;
      at_most = omega arith;
      kept = λ f invert register a b c d e g h i. refl;
    }
at_three_quarters (suc (suc zero)) lt =
    record {
      long = refl;
      small = below (get_or KEPT 5 []) refl;
      at_most = omega arith;
      kept = λ f invert register a b c d e g h i. refl;
    }
at_three_quarters (suc (suc (suc position))) lt = absurd (omega arith)

pub at_five_sixths : AreRows 6 R56
unfolding are_below
at_five_sixths zero lt =
    record {
      long = refl;
      small = below (get_or KEPT 6 []) refl;
      at_most = omega arith;
      kept = λ f invert register a b c d e g h i. refl;
    }
at_five_sixths (suc zero) lt =
    record {
      long = refl;
      small = below (get_or KEPT 7 []) refl;
      at_most = omega arith;
      kept = λ f invert register a b c d e g h i. refl;
    }
at_five_sixths (suc (suc zero)) lt =
    record {
      long = refl;
      small = below (get_or KEPT 8 []) refl;
      at_most = omega arith;
      kept = λ f invert register a b c d e g h i. refl;
    }
at_five_sixths (suc (suc (suc zero))) lt =
    record {
      long = refl;
      small = below (get_or KEPT 9 []) refl;
      at_most = omega arith;
      kept = λ f invert register a b c d e g h i. refl;
    }
at_five_sixths (suc (suc (suc (suc zero)))) lt =
    record {
      long = refl;
      small = below (get_or KEPT 10 []) refl;
      at_most = omega arith;
      kept = λ f invert register a b c d e g h i. refl;
    }
at_five_sixths (suc (suc (suc (suc (suc position))))) lt = absurd (omega arith)

pub at_seven_eighths : AreRows 11 R78
unfolding are_below
at_seven_eighths zero lt =
    record {
      long = refl;
      small = below (get_or KEPT 11 []) refl;
      at_most = omega arith;
      kept = λ f invert register a b c d e g h i. refl;
    }
at_seven_eighths (suc zero) lt =
    record {
      long = refl;
      small = below (get_or KEPT 12 []) refl;
      at_most = omega arith;
      kept = λ f invert register a b c d e g h i. refl;
    }
at_seven_eighths (suc (suc zero)) lt =
    record {
      long = refl;
      small = below (get_or KEPT 13 []) refl;
      at_most = omega arith;
      kept = λ f invert register a b c d e g h i. refl;
    }
at_seven_eighths (suc (suc (suc zero))) lt =
    record {
      long = refl;
      small = below (get_or KEPT 14 []) refl;
      at_most = omega arith;
      kept = λ f invert register a b c d e g h i. refl;
    }
at_seven_eighths (suc (suc (suc (suc zero)))) lt =
    record {
      long = refl;
      small = below (get_or KEPT 15 []) refl;
      at_most = omega arith;
      kept = λ f invert register a b c d e g h i. refl;
    }
at_seven_eighths (suc (suc (suc (suc (suc zero))))) lt =
    record {
      long = refl;
      small = below (get_or KEPT 16 []) refl;
      at_most = omega arith;
      kept = λ f invert register a b c d e g h i. refl;
    }
at_seven_eighths (suc (suc (suc (suc (suc (suc zero)))))) lt =
    record {
      long = refl;
      small = below (get_or KEPT 17 []) refl;
      at_most = omega arith;
      kept = λ f invert register a b c d e g h i. refl;
    }
at_seven_eighths (suc (suc (suc (suc (suc (suc (suc position))))))) lt = absurd (omega arith)

-- the places after an octet, in the rows of a rate
abbrev pub AreNext : ℕ → Rate → Type 0
AreNext first rate =
    (position : ℕ) → position < period rate → get_or NEXT (first + position) 0 ≡ (position + 8) % period rate

pub next_at_half : AreNext 0 R12
next_at_half zero lt = refl
next_at_half (suc position) lt = absurd (omega arith)

pub next_at_two_thirds : AreNext 1 R23
next_at_two_thirds zero lt = refl
next_at_two_thirds (suc zero) lt = refl
next_at_two_thirds (suc (suc position)) lt = absurd (omega arith)

pub next_at_three_quarters : AreNext 3 R34
next_at_three_quarters zero lt = refl
next_at_three_quarters (suc zero) lt = refl
next_at_three_quarters (suc (suc zero)) lt = refl
next_at_three_quarters (suc (suc (suc position))) lt = absurd (omega arith)

pub next_at_five_sixths : AreNext 6 R56
next_at_five_sixths zero lt = refl
next_at_five_sixths (suc zero) lt = refl
next_at_five_sixths (suc (suc zero)) lt = refl
next_at_five_sixths (suc (suc (suc zero))) lt = refl
next_at_five_sixths (suc (suc (suc (suc zero)))) lt = refl
next_at_five_sixths (suc (suc (suc (suc (suc position))))) lt = absurd (omega arith)

pub next_at_seven_eighths : AreNext 11 R78
next_at_seven_eighths zero lt = refl
next_at_seven_eighths (suc zero) lt = refl
next_at_seven_eighths (suc (suc zero)) lt = refl
next_at_seven_eighths (suc (suc (suc zero))) lt = refl
next_at_seven_eighths (suc (suc (suc (suc zero)))) lt = refl
next_at_seven_eighths (suc (suc (suc (suc (suc zero))))) lt = refl
next_at_seven_eighths (suc (suc (suc (suc (suc (suc zero)))))) lt = refl
next_at_seven_eighths (suc (suc (suc (suc (suc (suc (suc position))))))) lt = absurd (omega arith)
