-- The register holds the check symbols of the symbols that it has taken.
use Rattle.std.proofs.Common.{◌≡◌, ◌<◌, ◌≤◌, ◌+◌, ◌*◌, ◌++◌, ◌∙◌, ℕ, suc, zero, List, [], ◌∷◌, get_or, length, take, length-append, refl, sym, ap, subst, arith, set, length-set, inl, inr}
use Rattle.std.specs.Prelude.{bit_xor, replicate}
use Rattle.std.proofs.lemmas.Bool.{cases_eq}
use Rattle.std.proofs.lemmas.List.{take_all, take_more, length-replicate, ext_get_or, get_or-set_same, get_or-set_other}
use Rattle.std.proofs.Math.Seq.{take-append_seam}
use Rattle.tm_gf256.specs.Field.{times}
use Rattle.tm_gf256.specs.declared.Gf.{Gf}
use Rattle.tm_gf256.specs.Poly.{entry, numbers}
use Rattle.tm_gf256.proofs.PolyLemmas.{numbers-append, length-numbers}
use Rattle.tm_rs_code.specs.Code.{AreElements, IsSystematic, root, encode_word}
use Rattle.tm_rs_code.specs.Register.{sums, multiple, shift}
use Rattle.tm_rs.specs.Generator.{IsGenerator}
use Rattle.tm_rs_code.proofs.Numbers.{AreElements-append, AreElements-take, AreElements-after, AreElements-replicate}
use Rattle.tm_rs_code.proofs.Systematic.{systematic_only}
use Rattle.tm_rs_code.proofs.Register.{register_keeps, length-shift, AreElements-shift, value_at-zeros}

-- no symbol has been taken
pub starts : (e : ℕ) → IsSystematic e [] (replicate (2 * e) 0)
starts e = record {
  elements = AreElements-replicate (2 * e);
  codeword = λ k lt. value_at-zeros (2 * e) (root e k);
  size = length-replicate (2 * e) 0 ∙ (omega arith);
  begins = refl;
}

-- one more symbol has been taken
pub takes : (e : ℕ) (g : List ℕ) → IsGenerator e g → (u register : List ℕ) (d : ℕ) → d < 256 → length register ≡ 2 * e
    → IsSystematic e u (u ++ register) → IsSystematic e (u ++ d ∷ []) ((u ++ d ∷ []) ++ shift g d register)
takes e g is u register d small size h =
    let same : length g ≡ length register = is.degree ∙ sym size in
    let taken : AreElements u = subst AreElements (take-append_seam u register)
    (AreElements-take (length u) (u ++ register) h.elements) in
    let held : AreElements register = AreElements-after u register h.elements in
    record {
      elements =
          AreElements-append (u ++ d ∷ []) (shift g d register) (AreElements-append u (d ∷ []) taken (small, tt))
          (AreElements-shift g d register held);
      codeword =
          λ k lt. register_keeps g (root e k) (is.roots k lt) u d register same (omega arith) (h.codeword k lt) small;
      size =
          length-append (u ++ d ∷ []) (shift g d register)
          ∙ ap (λ (n : ℕ). length (u ++ d ∷ []) + n) (length-shift g d register same ∙ size);
      begins = take-append_seam (u ++ d ∷ []) (shift g d register);
    }

-- the same over the symbols of a slice
pub takes_next : (e : ℕ) (g : List ℕ) → IsGenerator e g → (info : List Gf) (i : ℕ) (old new : List ℕ) (d : ℕ)
    → i < length info → d ≡ entry info i → d < 256 → length old ≡ 2 * e → new ≡ shift g d old
    → IsSystematic e (numbers (take i info)) (numbers (take i info) ++ old)
    → IsSystematic e (numbers (take (i + 1) info)) (numbers (take (i + 1) info) ++ new)
takes_next e g gen info i old new d lt is small size stepped h =
    let more : numbers (take (i + 1) info) ≡ numbers (take i info) ++ d ∷ [] =
    ap numbers (take_more info i (record { 0 = 0 }) lt) ∙ numbers-append (take i info)
    (get_or info i (record { 0 = 0 }) ∷ [])
    ∙ ap (λ (v : ℕ). numbers (take i info) ++ v ∷ []) (sym is) in
    rw (more, stepped) (takes e g gen (numbers (take i info)) old d small size h)

get_or-numbers : (xs : List Gf) (i : ℕ) → i < length xs → get_or (numbers xs) i 0 ≡ entry xs i
get_or-numbers [] i lt = absurd (omega arith)
get_or-numbers (x ∷ xs) zero lt = refl
get_or-numbers (x ∷ xs) (suc i) lt = get_or-numbers xs i (omega arith)

-- elements whose entries are those of a list of numbers
pub numbers_are : (xs : List Gf) (ys : List ℕ) → length xs ≡ length ys
    → ((i : ℕ) → i < length ys → entry xs i ≡ get_or ys i 0) → numbers xs ≡ ys
numbers_are xs ys size each =
    ext_get_or 0 (numbers xs) ys (length-numbers xs ∙ size)
    (λ i lt. let below : i < length xs = omega (arith, length-numbers xs) in get_or-numbers xs i below
    ∙ each i (omega arith))

-- the information symbols and the register's are the systematic codeword
pub encoded : (e d : ℕ) (info register out : List ℕ) → d ≡ e → length info + 2 * e ≤ 255 → out ≡ register
    → IsSystematic e info (info ++ register)
    → info ++ out ≡ encode_word d info
encoded e d info register out same short stored h =
    ap (λ (ys : List ℕ). info ++ ys) stored ∙ systematic_only e info (info ++ register) short h
    ∙ ap (λ (k : ℕ). encode_word k info) (sym same)

-- ---- the register of the plain form

tail_sums : (ys zs : List Gf) (g : List ℕ) (f : ℕ) → length ys ≡ suc (length zs) → length g ≡ length ys
    → ((i : ℕ) → i < length ys → entry ys i ≡ bit_xor (entry zs i) (times f (get_or g i 0)))
    → numbers ys ≡ sums (numbers zs ++ 0 ∷ []) (multiple f g)
tail_sums [] zs g f e l h = absurd (omega arith)
tail_sums (y ∷ ys) zs [] f e l h = absurd (omega arith)
tail_sums (y ∷ []) [] (c ∷ []) f e l h = ap (λ (z : ℕ). z ∷ []) (h 0 (omega arith))
tail_sums (y ∷ []) [] (c ∷ d ∷ ds) f e l h = absurd (omega arith)
tail_sums (y ∷ y' ∷ ys) [] (c ∷ cs) f e l h = absurd (omega arith)
tail_sums (y ∷ ys) (z ∷ zs) (c ∷ cs) f e l h =
    ap (λ (v : ℕ). v ∷ numbers ys) (h 0 (omega arith))
    ∙ ap (λ (vs : List ℕ). bit_xor z.0 (times f c) ∷ vs) (tail_sums ys zs cs f (omega arith) (omega arith)
    (λ i lt. h (suc i) (omega arith)))

shift_by_entries : (ys xs : List Gf) (g : List ℕ) (d f : ℕ) → 0 < length xs → length ys ≡ length xs
    → length g ≡ length xs → f ≡ bit_xor d (entry xs 0)
    → ((i : ℕ) → i < length xs → entry ys i ≡ bit_xor (entry xs (suc i)) (times f (get_or g i 0)))
    → numbers ys ≡ shift g d (numbers xs)
shift_by_entries ys [] g d f some e l fe h = absurd (omega arith)
shift_by_entries ys (x ∷ xs) g d f some e l fe h =
    tail_sums ys xs g f e (l ∙ sym e) (λ i lt. h i (omega arith))
    ∙ ap (λ (q : ℕ). sums (numbers xs ++ 0 ∷ []) (multiple q g)) fe

entry_past : (xs : List Gf) (i : ℕ) → length xs ≤ i → entry xs i ≡ 0
entry_past [] i le = refl
entry_past (x ∷ xs) zero le = absurd (omega arith)
entry_past (x ∷ xs) (suc i) le = entry_past xs i (omega arith)

-- all entries but the last are stepped, and then the last
pub last_stepped : (old done : List Gf) (g : List ℕ) (d f last : ℕ) (v : Gf) → length old ≡ suc last
    → length done ≡ length old → length g ≡ length old → f ≡ bit_xor d (entry old 0)
    → ((i : ℕ) → i < last → entry done i ≡ bit_xor (entry old (suc i)) (times f (get_or g i 0)))
    → v.0 ≡ times f (get_or g last 0) → numbers (set done last v) ≡ shift g d (numbers old)
last_stepped old done g d f last v size same long fe h is =
    shift_by_entries (set done last v) old g d f (omega arith) (length-set done last v ∙ same) long fe
    (λ i lt. elim (cases_eq i last) [
      | inl e ↦
          ap (entry (set done last v)) e
          ∙ ap (λ (c : Gf). c.0) (get_or-set_same done last v (record { 0 = 0 }) (omega arith))
          ∙ is
          ∙ ap (λ (j : ℕ). times f (get_or g j 0)) (sym e)
          ∙ sym (ap (λ (y : ℕ). bit_xor y (times f (get_or g i 0))) (entry_past old (suc i) (omega arith)))
      | inr ne ↦ ap (λ (c : Gf). c.0) (get_or-set_other done last i v (record { 0 = 0 }) ne) ∙ h i (omega arith)
    ])

pub numbers-zeros : (n : ℕ) → numbers (replicate n (record { 0 = 0 })) ≡ replicate n 0
numbers-zeros zero = refl
numbers-zeros (suc n) = ap (λ (ys : List ℕ). 0 ∷ ys) (numbers-zeros n)

pub starts_plain : (e : ℕ) (g : List ℕ) → IsGenerator e g → (register : List Gf)
    → register ≡ replicate (length g) (record { 0 = 0 }) → IsSystematic e [] (numbers register)
starts_plain e g gen register is =
    let zeros : numbers register ≡ replicate (2 * e) 0 =
    ap numbers is ∙ numbers-zeros (length g) ∙ ap (λ (n : ℕ). replicate {A = ℕ} n 0) gen.degree in
    subst (λ (ys : List ℕ). IsSystematic e [] ys) (sym zeros) (starts e)

pub all_taken : (e i : ℕ) (info : List Gf) (register : List ℕ) → length info ≤ i
    → IsSystematic e (numbers (take i info)) (numbers (take i info) ++ register)
    → IsSystematic e (numbers info) (numbers info ++ register)
all_taken e i info register le h =
    subst (λ (xs : List Gf). IsSystematic e (numbers xs) (numbers xs ++ register)) (take_all i info le) h
