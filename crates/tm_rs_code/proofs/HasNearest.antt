-- A word has a nearest codeword within a bound, or none, with erased places and without.
use Rattle.std.proofs.Common.{◌≡◌, ◌∙◌, ◌≤◌, ◌+◌, ◌*◌, ◌&&◌, ℕ, Bool, true, leb, nat_le, List, [], length, refl, sym, ap, arith, inl, inr}
use Rattle.std.specs.Prelude.{find, unwrap_or}
use Rattle.std.specs.List.{list_any}
use Rattle.std.proofs.lemmas.Bool.{cases_Bool}
use Rattle.std.proofs.lemmas.Bool.Decides.{nat_tests}
use Rattle.std.proofs.lemmas.Bool.{cases_lt, and_parts, and_from, leb-true, le-leb}
use Rattle.tm_rs_code.specs.Code.{all_words, distance, is_codeword}
use Rattle.tm_rs_code.specs.Nearest.{IsNearest, Nearest, is_correctable, is_fixed}
use Rattle.tm_rs_code.specs.Nearest.Nearest.{Fixed, Beyond}
use Rattle.tm_rs_code.specs.Erasures.{IsNearestErased, NearestErased, count_erased, outside, inside}
use Rattle.tm_rs_code.specs.Erasures.NearestErased.{Fixed as FixedErased, Beyond as BeyondErased}
use Rattle.tm_rs_code.proofs.Systematic.{AreWords, Each-all_words, PassesOrNone, any-all_words, find_passes, search_words, codeword_by_test, is_codeword_holds}

-- whether a word is a codeword within the bound
abbrev is_near : ℕ → ℕ → List ℕ → List ℕ → Bool
is_near e bound w c = is_codeword e c && leb (distance c w) bound

nearest_of : (e bound : ℕ) (w : List ℕ) → PassesOrNone (length w) (is_near e bound w) → (a : Nearest)
    × IsNearest e bound w a
nearest_of e bound w (inl (c, long, elements, passes)) =
    let both = and_parts (is_codeword e c) (leb (distance c w) bound) passes in (
      Fixed c (distance c w),
      (
        record { size = long; elements = elements; codeword = codeword_by_test e c both.0 },
        refl,
        leb-true (distance c w) bound both.1,
      ),
    )
nearest_of e bound w (inr none) = (
  Beyond,
  λ c code. elim (cases_lt bound (distance c w)) [
    | inl far ↦ far
    | inr near ↦ absurd (none c code.size code.elements (and_from (is_codeword e c) (leb (distance c w) bound)
        (is_codeword_holds e c code.codeword) (le-leb (distance c w) bound near)))
  ],
)

pub has_nearest : (e bound : ℕ) (w : List ℕ) → (a : Nearest) × IsNearest e bound w a
has_nearest e bound w = nearest_of e bound w (search_words (length w) (is_near e bound w))

-- it tells whether a codeword lies within the bound
pub correctable-is : (e bound : ℕ) (w : List ℕ) (a : Nearest) → IsNearest e bound w a
    → is_correctable e bound w ≡ is_fixed a
unfolding is_correctable
correctable-is e bound w (Fixed c d) (code, at, near) =
    let le : nat_le (distance c w) bound ≡ true = grind (arith, nat_tests) in
    let passes : (is_codeword e c && nat_le (distance c w) bound) ≡ true =
    and_from (is_codeword e c) (nat_le (distance c w) bound) (is_codeword_holds e c code.codeword) le in
    ap (λ (n : ℕ). list_any (λ c. is_codeword e c && nat_le (distance c w) bound) (all_words n)) (sym code.size)
    ∙ any-all_words c (λ c. is_codeword e c && nat_le (distance c w) bound) code.elements passes
correctable-is e bound w Beyond far =
    elim (cases_Bool (list_any (λ c. is_codeword e c && nat_le (distance c w) bound) (all_words (length w)))) [
      | inl some ↦ absurd (
          let test : List ℕ → Bool = λ c. is_codeword e c && nat_le (distance c w) bound in
          let c : List ℕ = unwrap_or (find test (all_words (length w))) [] in
          let h = find_passes (AreWords (length w)) test (all_words (length w)) (Each-all_words (length w)) some in
          let both = and_parts (is_codeword e c) (nat_le (distance c w) bound) h.1 in
          let least = far c record { size = h.0.0; elements = h.0.1; codeword = codeword_by_test e c both.0 } in
          let most : distance c w ≤ bound = grind (arith, nat_tests, both.1) in
          omega (arith, least, most))
      | inr none ↦ none
    ]

-- ---- erased places

-- at how many places that are not erased two words differ
abbrev differing : List Bool → List ℕ → List ℕ → ℕ
differing erased w c = distance (outside erased c) (outside erased w)

abbrev is_few : ℕ → ℕ → List Bool → List ℕ → List ℕ → Bool
is_few e bound erased w c =
    leb (differing erased w c) bound && leb (2 * differing erased w c + count_erased erased) (2 * e)

nearest_erased_of : (e bound : ℕ) (erased : List Bool) (w : List ℕ)
    → PassesOrNone (length w) (λ c. is_codeword e c && is_few e bound erased w c)
    → (a : NearestErased) × IsNearestErased e bound erased w a
nearest_erased_of e bound erased w (inl (c, long, elements, passes)) =
    let code = and_parts (is_codeword e c) (is_few e bound erased w c) passes in
    let few = and_parts (leb (differing erased w c) bound) (leb (2 * differing erased w c + count_erased erased)
    (2 * e)) code.1 in (
      FixedErased c (differing erased w c) (distance (inside erased c) (inside erased w)),
      (
        record { size = long; elements = elements; codeword = codeword_by_test e c code.0 },
        record {
          bounded = leb-true (differing erased w c) bound few.0;
          few = leb-true (2 * differing erased w c + count_erased erased) (2 * e) few.1;
        },
        refl,
        refl,
      ),
    )
nearest_erased_of e bound erased w (inr none) = (
  BeyondErased,
  λ c code within. none c code.size code.elements
      (and_from (is_codeword e c) (is_few e bound erased w c) (is_codeword_holds e c code.codeword)
      (and_from (leb (differing erased w c) bound) (leb (2 * differing erased w c + count_erased erased) (2 * e))
      (le-leb (differing erased w c) bound within.bounded)
      (le-leb (2 * differing erased w c + count_erased erased) (2 * e) within.few))),
)

pub has_nearest_erased : (e bound : ℕ) (erased : List Bool) (w : List ℕ) → (a : NearestErased)
    × IsNearestErased e bound erased w a
has_nearest_erased e bound erased w =
    nearest_erased_of e bound erased w (search_words (length w) (λ c. is_codeword e c && is_few e bound erased w c))
