-- Complementing the bits and the register complements every symbol.
use Rattle.std.proofs.Common.{◌≡◌, ℕ, ◌+◌, ◌-◌, ◌/◌, ◌<◌, Bool, true, false, cond, List, [], ◌∷◌, ◌++◌, refl, sym, ap, ◌∙◌, arith}
use Rattle.std.proofs.lemmas.List.{map-append}
use Rattle.std.proofs.lemmas.List.Elements.{All-head, All-tail}
use Rattle.tm_conv.specs.declared.rates.Rate.{Rate}
use Rattle.tm_conv.specs.Path.{AreBits, complement, next_register, c1, c2, sent_c2, step_symbols, path, keeps_c1, keeps_c2}

c1-complement : (r b : ℕ) → r < 64 → b < 2 → c1 (63 - r) (1 - b) ≡ 1 - c1 r b
c1-complement r b small bit =
    let a32 : (63 - r) / 32 ≡ 1 - r / 32 = omega arith in
    let a16 : (63 - r) / 16 ≡ 3 - r / 16 = omega arith in
    let a8 : (63 - r) / 8 ≡ 7 - r / 8 = omega arith in
    omega (arith, a32, a16, a8)

c2-complement : (r b : ℕ) → r < 64 → b < 2 → c2 (63 - r) (1 - b) ≡ 1 - c2 r b
c2-complement r b small bit =
    let a16 : (63 - r) / 16 ≡ 3 - r / 16 = omega arith in
    let a8 : (63 - r) / 8 ≡ 7 - r / 8 = omega arith in
    let a2 : (63 - r) / 2 ≡ 31 - r / 2 = omega arith in
    omega (arith, a16, a8, a2)

next_register-complement : (r b : ℕ) → r < 64 → b < 2 → next_register (63 - r) (1 - b) ≡ 63 - next_register r b
next_register-complement r b small bit = omega arith

sent_c2-complement : (invert : Bool) (d : ℕ) → sent_c2 invert (1 - d) ≡ 1 - sent_c2 invert d
sent_c2-complement true d = refl
sent_c2-complement false d = refl

sent-complement : (k l : Bool) (c d : ℕ) → cond k ((1 - c) ∷ []) [] ++ cond l ((1 - d) ∷ []) []
    ≡ complement (cond k (c ∷ []) [] ++ cond l (d ∷ []) [])
sent-complement true true c d = refl
sent-complement true false c d = refl
sent-complement false true c d = refl
sent-complement false false c d = refl

step_symbols-complement : (rate : Rate) (invert : Bool) (t r b : ℕ) → r < 64 → b < 2
    → step_symbols rate invert t (63 - r) (1 - b) ≡ complement (step_symbols rate invert t r b)
step_symbols-complement rate invert t r b small bit =
    ap (λ v. cond (keeps_c1 rate t) (v ∷ []) [] ++ cond (keeps_c2 rate t)
    (sent_c2 invert (c2 (63 - r) (1 - b)) ∷ []) []) (c1-complement r b small bit)
    ∙ ap (λ v. cond (keeps_c1 rate t) ((1 - c1 r b) ∷ []) [] ++ cond (keeps_c2 rate t) (v ∷ []) [])
    (ap (sent_c2 invert) (c2-complement r b small bit) ∙ sent_c2-complement invert (c2 r b))
    ∙ sent-complement (keeps_c1 rate t) (keeps_c2 rate t) (c1 r b) (sent_c2 invert (c2 r b))

pub path-complement : (rate : Rate) (invert : Bool) (t r : ℕ) (bits : List ℕ) → r < 64 → AreBits bits
    → path rate invert t (63 - r) (complement bits) ≡ complement (path rate invert t r bits)
path-complement rate invert t r [] small are = refl
path-complement rate invert t r (b ∷ bits) small are =
    let bit : b < 2 = All-head (λ b. b < 2) b bits are in
    let rest = All-tail (λ b. b < 2) b bits are in
    let next = next_register r b in
    let more : path rate invert (t + 1) (63 - next) (complement bits)
    ≡ complement (path rate invert (t + 1) next bits) =
    path-complement rate invert (t + 1) next bits (omega arith) rest in
    ap (λ v. v ++ path rate invert (t + 1) (next_register (63 - r) (1 - b)) (complement bits))
    (step_symbols-complement rate invert t r b small bit)
    ∙ ap (λ v. complement (step_symbols rate invert t r b) ++ path rate invert (t + 1) v (complement bits))
    (next_register-complement r b small bit)
    ∙ ap (λ v. complement (step_symbols rate invert t r b) ++ v) more
    ∙ sym (map-append (λ bit. 1 - bit) (step_symbols rate invert t r b) (path rate invert (t + 1) next bits))
