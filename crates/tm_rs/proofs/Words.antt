-- What the decoder's answers say of words.
use Rattle.std.proofs.Common.{◌≡◌, ◌<◌, ◌≤◌, ◌+◌, ◌*◌, ℕ, suc, List, [], ◌∷◌, length, take, arith, ap, sym, ◌∙◌, subst}
use Rattle.std.specs.Prelude.{bit_xor}
use Rattle.std.proofs.Common.{get_or, refl, inl, inr}
use Rattle.std.proofs.lemmas.Bool.{cases_lt}
use Rattle.tm_gf256.specs.declared.Gf.{Gf}
use Rattle.tm_gf256.specs.Poly.{entry, numbers, value_at}
use Rattle.tm_rs_code.specs.Code.{AreElements, root, weight, distance}
use Rattle.tm_rs_code.specs.Register.{sums}
use Rattle.tm_rs_code.specs.Nearest.{IsNearest}
use Rattle.tm_rs_code.specs.Nearest.Nearest.{Fixed, Beyond}
use Rattle.tm_rs_code.specs.Pattern.{IsPattern}
use Rattle.tm_rs_code.specs.ErrorValues.{IsLocated}
use Rattle.tm_rs_code.proofs.DistanceLaw.{length-sums, AreElements-sums, weight-sums}
use Rattle.tm_rs_code.proofs.Nearest.{distance-comm}
use Rattle.tm_rs_code.proofs.Corrections.{pattern_unique, pattern_of_codeword, codeword_of_pattern, distance-sums}
use Rattle.tm_rs_code.proofs.Covering.{covers_self}
use Rattle.tm_rs.specs.Locator.{IsLocatorOf}

-- a word is the sum where each entry is
pub sums_by_entries : (ys xs : List Gf) (w : List ℕ) → length ys ≡ length xs → length w ≡ length xs
    → ((i : ℕ) → i < length xs → entry ys i ≡ bit_xor (entry xs i) (get_or w i 0)) → numbers ys ≡ sums (numbers xs) w
sums_by_entries [] [] w e f h = refl
sums_by_entries [] (x ∷ xs) w e f h = absurd (omega arith)
sums_by_entries (y ∷ ys) [] w e f h = absurd (omega arith)
sums_by_entries (y ∷ ys) (x ∷ xs) [] e f h = absurd (omega arith)
sums_by_entries (y ∷ ys) (x ∷ xs) (v ∷ vs) e f h =
    ap (λ (z : ℕ). z ∷ numbers ys) (h 0 (omega arith))
    ∙ ap (λ (zs : List ℕ). bit_xor x.0 v ∷ zs) (sums_by_entries ys xs vs (omega arith) (omega arith)
    (λ i lt. h (suc i) (omega arith)))

-- a pattern and its locator
pub located : (e n : ℕ) (s : ℕ → ℕ) (coefs : List Gf) (degree : ℕ) (w : List ℕ) → n ≤ 255 → IsPattern e n s w
    → IsLocatorOf coefs degree w
    → IsLocated e s (numbers (take (degree + 1) coefs)) w w
located e n s coefs degree w short p l = record {
  locator_is = l.product;
  size = refl;
  short = omega (arith, p.size);
  elements = p.elements;
  covered = covers_self w;
  few = omega (arith, p.few);
  meets = p.meets;
}

-- ---- the answers

pub fixed_is : (e n repair d : ℕ) (s : ℕ → ℕ) (old new w : List ℕ) → length old ≡ n → AreElements old
    → ((k : ℕ) → k < 2 * e → value_at old (root e k) ≡ s k)
    → IsPattern e n s w → d ≡ weight w → d ≤ repair → new ≡ sums old w → IsNearest e repair old (Fixed new d)
fixed_is e n repair d s old new w len el values pat deg few is =
    let same : length old ≡ length w = len ∙ sym pat.size in
    subst (λ (y : List ℕ). IsNearest e repair old (Fixed y d)) (sym is) (
      record {
        size = length-sums old w same;
        elements = AreElements-sums old w el pat.elements;
        codeword = codeword_of_pattern e n s old w len values pat;
      },
      distance-sums old w same ∙ sym deg,
      few,
    )

pub beyond_far : (e n repair d : ℕ) (s : ℕ → ℕ) (old w : List ℕ) → n ≤ 255 → length old ≡ n → AreElements old
    → ((k : ℕ) → k < 2 * e → value_at old (root e k) ≡ s k)
    → IsPattern e n s w → d ≡ weight w → repair < d → repair ≤ e → IsNearest e repair old Beyond
beyond_far e n repair d s old w small len el values pat deg many bound c code =
    elim (cases_lt repair (distance c old)) [
      | inl far ↦ far
      | inr near ↦
          let back : distance old c ≡ distance c old = distance-comm old c (sym code.size) in
          let mine : IsPattern e n s (sums old c) = pattern_of_codeword e n s old c len
          (code.size ∙ len) el code.elements values code.codeword (omega arith) in
          let same : sums old c ≡ w = pattern_unique e n s (sums old c) w small mine pat in
          absurd (omega (arith, weight-sums old c, ap weight same))
    ]

pub beyond_none : (e n repair : ℕ) (s : ℕ → ℕ) (old : List ℕ) → length old ≡ n → AreElements old
    → ((k : ℕ) → k < 2 * e → value_at old (root e k) ≡ s k)
    → ((w : List ℕ) → IsPattern e n s w → ⊥) → repair ≤ e → IsNearest e repair old Beyond
beyond_none e n repair s old len el values none bound c code =
    elim (cases_lt repair (distance c old)) [
      | inl far ↦ far
      | inr near ↦
          let back : distance old c ≡ distance c old = distance-comm old c (sym code.size) in
          absurd (none (sums old c) (pattern_of_codeword e n s old c len
          (code.size ∙ len) el code.elements values code.codeword (omega arith)))
    ]
