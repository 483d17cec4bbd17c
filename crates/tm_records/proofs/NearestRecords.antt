-- What is nearest to the words of records.
use Rattle.std.proofs.Common.{◌≡◌, ℕ, zero, suc, ◌+◌, ◌-◌, ◌*◌, ◌≤◌, ◌==◌, not, List, [], ◌∷◌, ◌++◌, length, map, take, drop, refl, sym, ap, ◌∙◌, subst, arith, length-append, length-drop}
use Rattle.std.proofs.Math.Path.{transport}
use Rattle.std.proofs.lemmas.List.{length-map, length-take-le, take-append-le, drop-append-le, drop-drop}
use Rattle.std.proofs.lemmas.Nat.{div-add-mod'}
use Rattle.tm_gf256.specs.Octet.{element_of}
use Rattle.tm_rs_code.specs.Erasures.{IsNearestErased, NearestErased}
use Rattle.tm_rs_code.proofs.HasNearest.{has_nearest_erased}
use Rattle.tm_rs_code.proofs.OnlyNearest.{nearest_erased_only}
use Rattle.tm_records.specs.declared.coding.Coding.{Coding}
use Rattle.tm_records.specs.Records.{record_size, record_count, first_word, first_erased, AreFirstNearest, AreNearest, AreNearestDue}

pub has_first : (c : Coding) (count : ℕ) (octets : List ℕ) → (nearest : List NearestErased)
    × AreFirstNearest c octets nearest × (length nearest ≡ count)
has_first c zero octets = ([], tt, refl)
has_first c (suc count) octets =
    let one = has_nearest_erased c.params.e c.repair (first_erased c octets) (first_word c octets) in
    let more = has_first c count (drop (record_size c) octets) in
    (one.0 ∷ more.0, (one.1, more.1), ap suc more.2)

pub length-first_word : (c : Coding) (octets : List ℕ) → record_size c ≤ length octets
    → length (first_word c octets) ≡ c.params.n
length-first_word c octets fits =
    length-map (take c.params.n octets) (element_of c.basis) ∙ length-take-le c.params.n octets (omega arith)

pub length-first_erased : (c : Coding) (octets : List ℕ) → record_size c ≤ length octets
    → length (first_erased c octets) ≡ c.params.n
length-first_erased c octets fits =
    length-map (take c.params.n (drop c.params.n octets)) (λ flag. not (flag == 0))
    ∙ length-take-le c.params.n (drop c.params.n octets) (omega (arith, length-drop c.params.n octets))

mul-suc : (m n : ℕ) → suc m * n ≡ n + m * n
mul-suc m n = grind arith

pub first_only : (c : Coding) (octets : List ℕ) (a b : List NearestErased) → c.params.n ≤ 255
    → length a * record_size c ≤ length octets → length a ≡ length b
    → AreFirstNearest c octets a → AreFirstNearest c octets b → a ≡ b
first_only c octets [] [] short fits same h k = refl
first_only c octets [] (y ∷ b) short fits same h k = absurd (omega arith)
first_only c octets (x ∷ a) [] short fits same h k = absurd (omega arith)
first_only c octets (x ∷ a) (y ∷ b) short fits same h k =
    let steps : suc (length a) * record_size c ≡ record_size c + length a * record_size c =
    mul-suc (length a) (record_size c) in
    let room : record_size c ≤ length octets = omega arith in
    let size = length-first_word c octets room in
    let one = nearest_erased_only c.params.e c.repair (first_erased c octets) (first_word c octets) x y
    (length-first_erased c octets room ∙ sym size) (omega arith) h.0 k.0 in
    let more = first_only c (drop (record_size c) octets) a b short
    (omega (arith, length-drop (record_size c) octets)) (omega arith) h.1 k.1 in
    λ i. one i ∷ more i

whole-fits : (c : Coding) (octets : List ℕ) (count : ℕ) → count ≤ record_count c octets
    → count * record_size c ≤ length octets
whole-fits c octets count le = grind (arith, div-add-mod' (length octets) (record_size c))

pub nearest_only : (c : Coding) (octets : List ℕ) (a b : List NearestErased) → c.params.n ≤ 255
    → AreNearest c octets a → AreNearest c octets b → a ≡ b
nearest_only c octets a b short h k =
    first_only c octets a b short (whole-fits c octets (length a) (omega (arith, h.all)))
    (h.all ∙ sym k.all) h.each k.each

pub nearest_due_only : (c : Coding) (octets : List ℕ) (a b : List NearestErased) → c.params.n ≤ 255
    → AreNearestDue c octets a → AreNearestDue c octets b → a ≡ b
nearest_due_only c octets a b short h k =
    first_only c octets a b short (whole-fits c octets (length a)
    (omega (arith, h.all))) (h.all ∙ sym k.all) h.each k.each

-- ---- octets that go on

-- what is nearest to first records, whatever octets come after them
pub first-longer : (c : Coding) (octets more : List ℕ) (nearest : List NearestErased)
    → length nearest * record_size c ≤ length octets
    → AreFirstNearest c octets nearest → AreFirstNearest c (octets ++ more) nearest
first-longer c octets more [] fits are = tt
first-longer c octets more (x ∷ nearest) fits are =
    let steps = mul-suc (length nearest) (record_size c) in
    let room : record_size c ≤ length octets = omega arith in
    let word = ap (map (element_of c.basis)) (take-append-le c.params.n octets more (omega arith)) in
    let erased = ap (map (λ flag. not (flag == 0))) (ap (take c.params.n)
    (drop-append-le c.params.n octets more (omega arith))
    ∙ take-append-le c.params.n (drop c.params.n octets) more (omega (arith, length-drop c.params.n octets))) in (
      transport (λ i. IsNearestErased c.params.e c.repair (sym erased i) (sym word i) x) are.0,
      subst (λ (l : List ℕ). AreFirstNearest c l nearest) (sym (drop-append-le (record_size c) octets more room))
          (first-longer c (drop (record_size c) octets) more nearest
          (omega (arith, length-drop (record_size c) octets)) are.1),
    )

-- what is nearest to first records and then to those after them
pub first-append : (c : Coding) (octets : List ℕ) (a b : List NearestErased) → AreFirstNearest c octets a
    → AreFirstNearest c (drop (length a * record_size c) octets) b → AreFirstNearest c octets (a ++ b)
first-append c octets [] b are after =
    let none : 0 * record_size c ≡ 0 = omega arith in
    subst (λ (n : ℕ). AreFirstNearest c (drop n octets) b) none after
first-append c octets (x ∷ a) b are after = (
  are.0,
  first-append c (drop (record_size c) octets) a b are.1
      (subst (λ (l : List ℕ). AreFirstNearest c l b) (ap (λ n. drop n octets) (mul-suc (length a) (record_size c))
      ∙ sym (drop-drop (length a * record_size c) (record_size c) octets)) after),
)

-- there is something nearest to the records that are left
pub has_rest : (c : Coding) (octets : List ℕ) (first : List NearestErased) → AreFirstNearest c octets first
    → length first ≤ record_count c octets
    → (others : List NearestErased) × AreNearest c octets (first ++ others)
has_rest c octets first are few =
    let rest = has_first c (record_count c octets - length first) (drop (length first * record_size c) octets) in (
      rest.0,
      record {
        each = first-append c octets first rest.0 are rest.1;
        all = length-append first rest.0
            ∙ omega (arith, rest.2);
      },
    )
