-- The tables of the symbols of octets, each entry tested.
use Rattle.std.proofs.Common.{◌≡◌, ◌<◌, ◌≤◌, ◌+◌, ◌-◌, ◌*◌, ◌/◌, ◌%◌, ◌∙◌, ℕ, List, [], ◌∷◌, get_or, refl, eqb, true, false, Bool, ◌&&◌, arith, ap, subst, zero, suc, inl, inr, ltb}
use Rattle.std.specs.Prelude.{bit_xor, ◌==◌, if◌then◌else◌}
use Rattle.std.proofs.lemmas.Bool.{eqb-true, ltb-true, and_parts, cases_eq, cases_lt}
use lib.Lanes.{zip2}
use Rattle.tm_base.specs.Bits.{bits_of_octet, low_bits}
use Rattle.tm_conv.specs.declared.rates.Rate.TheVariants.{R12}
use Rattle.tm_conv.specs.Path.{c1, c2, sent_c2, next_register, path, register_after}
use Rattle.tm_conv.specs.Encoding.{bit_numbers, level, levels}
use Rattle.tm_conv.specs.declared.octets.tables.TheConstants.{FROM_REGISTER, FROM_OCTET, REGISTER_AFTER}
use Rattle.tm_conv.proofs.EqualLists.{same, same_is}

unfoldable all_below : ℕ → (ℕ → Bool) → Bool
all_below zero p = true
all_below (suc n) p = p n && all_below n p

at_below : (n : ℕ) (p : ℕ → Bool) → all_below n p ≡ true → (k : ℕ) → k < n → p k ≡ true
unfolding all_below
at_below zero p e k lt = absurd (omega arith)
at_below (suc n) p e k lt =
    let both = and_parts (p n) (all_below n p) e in
    elim (cases_eq k n) [ inl same ↦ ap p same ∙ both.0 | inr ne ↦ at_below n p both.1 k (omega arith) ]

-- the entries for a register and an octet give the octet's symbols and the register after it
abbrev fits : ℕ → ℕ → Bool
fits register octet =
    same (zip2 bit_xor (get_or FROM_REGISTER register []) (get_or FROM_OCTET octet []))
    (levels 0 (path R12 false 0 register (bit_numbers (bits_of_octet octet))))
    && eqb (get_or REGISTER_AFTER octet 0) (register_after register (bit_numbers (bits_of_octet octet)))

abbrev part : ℕ → ℕ → Bool
part from t = fits ((from + t) / 256) ((from + t) % 256)

pass_0 : all_below 1024 (part 0) ≡ true
unfolding all_below same low_bits
pass_0 = refl

pass_1 : all_below 1024 (part 1024) ≡ true
unfolding all_below same low_bits
pass_1 = refl

pass_2 : all_below 1024 (part 2048) ≡ true
unfolding all_below same low_bits
pass_2 = refl

pass_3 : all_below 1024 (part 3072) ≡ true
unfolding all_below same low_bits
pass_3 = refl

pass_4 : all_below 1024 (part 4096) ≡ true
unfolding all_below same low_bits
pass_4 = refl

pass_5 : all_below 1024 (part 5120) ≡ true
unfolding all_below same low_bits
pass_5 = refl

pass_6 : all_below 1024 (part 6144) ≡ true
unfolding all_below same low_bits
pass_6 = refl

pass_7 : all_below 1024 (part 7168) ≡ true
unfolding all_below same low_bits
pass_7 = refl

pass_8 : all_below 1024 (part 8192) ≡ true
unfolding all_below same low_bits
pass_8 = refl

pass_9 : all_below 1024 (part 9216) ≡ true
unfolding all_below same low_bits
pass_9 = refl

pass_10 : all_below 1024 (part 10240) ≡ true
unfolding all_below same low_bits
pass_10 = refl

pass_11 : all_below 1024 (part 11264) ≡ true
unfolding all_below same low_bits
pass_11 = refl

pass_12 : all_below 1024 (part 12288) ≡ true
unfolding all_below same low_bits
pass_12 = refl

pass_13 : all_below 1024 (part 13312) ≡ true
unfolding all_below same low_bits
pass_13 = refl

pass_14 : all_below 1024 (part 14336) ≡ true
unfolding all_below same low_bits
pass_14 = refl

pass_15 : all_below 1024 (part 15360) ≡ true
unfolding all_below same low_bits
pass_15 = refl

at_part : (from t : ℕ) → all_below 1024 (part from) ≡ true → from ≤ t → t < from + 1024
    → fits (t / 256) (t % 256) ≡ true
at_part from t h le lt =
    let e : from + (t - from) ≡ t = omega arith in
    subst (λ (v : ℕ). fits (v / 256) (v % 256) ≡ true) e (at_below 1024 (part from) h (t - from) (omega arith))

all_at : (t : ℕ) → t < 16384 → fits (t / 256) (t % 256) ≡ true
all_at t lt =
    (elim (cases_lt t 1024) [
      | inl l0 ↦ at_part 0 t pass_0 (omega arith) (omega arith)
      | inr g0 ↦
          (elim (cases_lt t 2048) [
            | inl l1 ↦ at_part 1024 t pass_1 (omega arith) (omega arith)
            | inr g1 ↦
                (elim (cases_lt t 3072) [
                  | inl l2 ↦ at_part 2048 t pass_2 (omega arith) (omega arith)
                  | inr g2 ↦
                      (elim (cases_lt t 4096) [
                        | inl l3 ↦ at_part 3072 t pass_3 (omega arith) (omega arith)
                        | inr g3 ↦
                            (elim (cases_lt t 5120) [
                              | inl l4 ↦ at_part 4096 t pass_4 (omega arith) (omega arith)
                              | inr g4 ↦
                                  (elim (cases_lt t 6144) [
                                    | inl l5 ↦ at_part 5120 t pass_5 (omega arith) (omega arith)
                                    | inr g5 ↦
                                        (elim (cases_lt t 7168) [
                                          | inl l6 ↦ at_part 6144 t pass_6 (omega arith) (omega arith)
                                          | inr g6 ↦
                                              (elim (cases_lt t 8192) [
                                                | inl l7 ↦ at_part 7168 t pass_7 (omega arith) (omega arith)
                                                | inr g7 ↦
                                                    (elim (cases_lt t 9216) [
                                                      | inl l8 ↦ at_part 8192 t pass_8 (omega arith) (omega arith)
                                                      | inr g8 ↦
                                                          (elim (cases_lt t 10240) [
                                                            | inl l9 ↦ at_part 9216 t pass_9 (omega arith) (omega arith)
                                                            | inr g9 ↦
                                                                (elim (cases_lt t 11264) [
                                                                  | inl l10 ↦
                                                                      at_part 10240 t pass_10 (omega arith)
                                                                      (omega arith)
                                                                  | inr g10 ↦
                                                                      (elim (cases_lt t 12288) [
                                                                        | inl l11 ↦
                                                                            at_part 11264 t pass_11 (omega arith)
                                                                            (omega arith)
                                                                        | inr g11 ↦
                                                                            (elim (cases_lt t 13312) [
                                                                              | inl l12 ↦
                                                                                  at_part 12288 t pass_12 (omega
                                                                                  arith) (omega arith)
                                                                              | inr g12 ↦
                                                                                  (elim (cases_lt t 14336) [
                                                                                    | inl l13 ↦
                                                                                        at_part 13312 t pass_13 (omega
                                                                                        arith) (omega arith)
                                                                                    | inr g13 ↦
                                                                                        (elim (cases_lt t 15360) [
                                                                                          | inl l14 ↦
                                                                                              at_part 14336 t pass_14
                                                                                              (omega arith)
                                                                                              (omega arith)
                                                                                          | inr g14 ↦
                                                                                              at_part 15360 t pass_15
                                                                                              (omega arith)
                                                                                              (omega arith)
                                                                                        ])
                                                                                  ])
                                                                            ])
                                                                      ])
                                                                ])
                                                          ])
                                                    ])
                                              ])
                                        ])
                                  ])
                            ])
                      ])
                ])
          ])
    ])

fit : (register octet : ℕ) → register < 64 → octet < 256 → fits register octet ≡ true
fit register octet small within =
    let t = 256 * register + octet in
    let a : t / 256 ≡ register = omega arith in
    let b : t % 256 ≡ octet = omega arith in
    subst (λ (y : ℕ). fits register y ≡ true) b (subst (λ (x : ℕ). fits x (t % 256) ≡ true) a (all_at t (omega arith)))

pub symbols_from_tables : (register octet : ℕ) → register < 64 → octet < 256
    → zip2 bit_xor (get_or FROM_REGISTER register []) (get_or FROM_OCTET octet [])
    ≡ levels 0 (path R12 false 0 register (bit_numbers (bits_of_octet octet)))
symbols_from_tables register octet small within = same_is _ _ (and_parts _ _ (fit register octet small within)).0

low_registers : all_below 256 (λ octet. ltb (get_or REGISTER_AFTER octet 0) 64) ≡ true
unfolding all_below
low_registers = refl

pub register_within : (octet : ℕ) → octet < 256 → get_or REGISTER_AFTER octet 0 < 64
register_within octet within =
    ltb-true _ _ (at_below 256 (λ octet. ltb (get_or REGISTER_AFTER octet 0) 64) low_registers octet within)

pub register_from_table : (register octet : ℕ) → register < 64 → octet < 256
    → get_or REGISTER_AFTER octet 0 ≡ register_after register (bit_numbers (bits_of_octet octet))
register_from_table register octet small within = eqb-true _ _ (and_parts _ _ (fit register octet small within)).1

-- ---- inversion, and the octet of a symbol 0

flips_low : all_below 256 (λ low. eqb (bit_xor 0 low) low && eqb (bit_xor 255 low) (255 - low)) ≡ true
unfolding all_below
flips_low = refl

-- a symbol as 0 or 255, with the octet of a 0 added
flip : (low symbol : ℕ) → low < 256 → bit_xor (level 0 symbol) low ≡ level low symbol
flip low symbol within = go (symbol == 0)
  where
    both : (bit_xor 0 low ≡ low) × (bit_xor 255 low ≡ 255 - low)
    both =
        let parts = and_parts _ _
        (at_below 256 (λ low. eqb (bit_xor 0 low) low && eqb (bit_xor 255 low) (255 - low)) flips_low low within) in
        (eqb-true _ _ parts.0, eqb-true _ _ parts.1)

    go : (is_zero : Bool) → bit_xor (if is_zero then 0 else 255) low ≡ (if is_zero then low else 255 - low)
    go true = both.0
    go false = both.1

-- the same of a symbol that is complemented
flip-complemented : (low symbol : ℕ) → low < 256 → symbol < 2
    → bit_xor (level 0 symbol) (255 - low) ≡ level low (1 - symbol)
flip-complemented low zero within bit = flip (255 - low) 0 (omega arith)
flip-complemented low (suc zero) within bit = flip (255 - low) 1 (omega arith) ∙ omega arith
flip-complemented low (suc (suc symbol)) within bit = absurd (omega arith)

c2-bit : (register bit : ℕ) → c2 register bit < 2
c2-bit register bit = omega arith

unfoldable pub second : Bool → ℕ → ℕ
second invert low = if invert then 255 - low else low

unfoldable pub flips : Bool → ℕ → List ℕ
flips invert low =
    low ∷ second invert low ∷ low ∷ second invert low ∷ low ∷ second invert low ∷ low ∷ second invert low ∷ low
    ∷ second invert low ∷ low ∷ second invert low ∷ low ∷ second invert low ∷ low ∷ second invert low ∷ []

-- a second symbol, which inversion complements
flip-second : (invert : Bool) (low register bit : ℕ) → low < 256
    → bit_xor (level 0 (c2 register bit)) (second invert low) ≡ level low (sent_c2 invert (c2 register bit))
unfolding second
flip-second false low register bit within = flip low (c2 register bit) within
flip-second true low register bit within = flip-complemented low (c2 register bit) within (c2-bit register bit)

flipped : (invert : Bool) (low register a b c d e g h i : ℕ) → low < 256
    → zip2 bit_xor (levels 0 (path R12 false 0 register (a ∷ b ∷ c ∷ d ∷ e ∷ g ∷ h ∷ i ∷ []))) (flips invert low)
    ≡ levels low (path R12 invert 0 register (a ∷ b ∷ c ∷ d ∷ e ∷ g ∷ h ∷ i ∷ []))
unfolding flips
flipped invert low register a b c d e g h i within =
    let r0 = register in
    let r1 = next_register r0 a in
    let r2 = next_register r1 b in
    let r3 = next_register r2 c in
    let r4 = next_register r3 d in
    let r5 = next_register r4 e in
    let r6 = next_register r5 g in
    let r7 = next_register r6 h in
    λ j. flip low (c1 r0 a) within j ∷ flip-second invert low r0 a within j ∷ flip low (c1 r1 b) within j
    ∷ flip-second invert low r1 b within j ∷ flip low (c1 r2 c) within j ∷ flip-second invert low r2 c within j
    ∷ flip low (c1 r3 d) within j ∷ flip-second invert low r3 d within j ∷ flip low (c1 r4 e) within j
    ∷ flip-second invert low r4 e within j ∷ flip low (c1 r5 g) within j ∷ flip-second invert low r5 g within j
    ∷ flip low (c1 r6 h) within j ∷ flip-second invert low r6 h within j ∷ flip low (c1 r7 i) within j
    ∷ flip-second invert low r7 i within j ∷ []

pub symbols_from_octets : (invert : Bool) (low register octet : ℕ) → low < 256 → register < 64 → octet < 256
    → zip2 bit_xor (zip2 bit_xor (get_or FROM_REGISTER register []) (get_or FROM_OCTET octet [])) (flips invert low)
    ≡ levels low (path R12 invert 0 register (bit_numbers (bits_of_octet octet)))
unfolding low_bits
symbols_from_octets invert low register octet within small fits =
    ap (λ (l : List ℕ). zip2 bit_xor l (flips invert low)) (symbols_from_tables register octet small fits)
    ∙ flipped invert low register _ _ _ _ _ _ _ _ within
