-- Paths and their costs, one step on.
use Rattle.std.proofs.Common.{◌≡◌, ℕ, ◌+◌, ◌∙◌, sym, ap, cond, arith, length, List, [], ◌∷◌, ◌++◌, suc, refl, Bool, true, false, append_assoc, length-append, add-one}
use Rattle.std.proofs.lemmas.List.{append-nil}
use Rattle.tm_conv.specs.declared.rates.Rate.{Rate}
use Rattle.tm_conv.specs.Path.{next_register, c1, c2, sent_c2, step_symbols, step_size, steps_size, path, register_after, keeps_c1, keeps_c2}
use Rattle.tm_conv.specs.Cost.{cost}
use Rattle.tm_conv.proofs.Sizes.{steps_size-suc}

pub length-sent_by : (k l : Bool) (c d : ℕ) → length (cond k (c ∷ []) [] ++ cond l (d ∷ []) [])
    ≡ cond k 1 0 + cond l 1 0
length-sent_by true true c d = omega arith
length-sent_by true false c d = omega arith
length-sent_by false true c d = omega arith
length-sent_by false false c d = omega arith

pub length-step_symbols : (rate : Rate) (invert : Bool) (t r b : ℕ)
    → length (step_symbols rate invert t r b) ≡ step_size rate t
length-step_symbols rate invert t r b =
    length-sent_by (keeps_c1 rate t) (keeps_c2 rate t) (c1 r b) (sent_c2 invert (c2 r b))

pub length-path : (rate : Rate) (invert : Bool) (t r : ℕ) (bits : List ℕ)
    → length (path rate invert t r bits) ≡ steps_size rate t (length bits)
unfolding steps_size
length-path rate invert t r [] = refl
length-path rate invert t r (b ∷ bits) =
    length-append (step_symbols rate invert t r b) (path rate invert (t + 1) (next_register r b) bits)
    ∙ omega (arith, length-step_symbols rate invert t r b, length-path rate invert (t + 1) (next_register r b) bits)

pub register_after-push : (r : ℕ) (bits : List ℕ) (b : ℕ) → register_after r (bits ++ b ∷ [])
    ≡ next_register (register_after r bits) b
register_after-push r [] b = refl
register_after-push r (c ∷ bits) b = register_after-push (next_register r c) bits b

pub path-push : (rate : Rate) (invert : Bool) (t u r : ℕ) (bits : List ℕ) (b : ℕ) → u ≡ t + length bits
    → path rate invert t r (bits ++ b ∷ []) ≡ path rate invert t r bits
    ++ step_symbols rate invert u (register_after r bits) b
path-push rate invert t u r [] b e =
    let same : t ≡ u = omega (arith, e) in
    append-nil (step_symbols rate invert t r b) ∙ ap (λ v. step_symbols rate invert v r b) same
path-push rate invert t u r (c ∷ bits) b e =
    let l : u ≡ t + 1 + length bits = omega (arith, e) in
    ap (λ v. step_symbols rate invert t r c ++ v) (path-push rate invert (t + 1) u (next_register r c) bits b l)
    ∙ sym (append_assoc (step_symbols rate invert t r c) (path rate invert (t + 1) (next_register r c) bits)
    (step_symbols rate invert u (register_after (next_register r c) bits) b))

pub register_after-append : (register : ℕ) (bits others : List ℕ)
    → register_after register (bits ++ others) ≡ register_after (register_after register bits) others
register_after-append register [] others = refl
register_after-append register (bit ∷ bits) others = register_after-append (next_register register bit) bits others

-- a path that goes on
pub path-append : (rate : Rate) (invert : Bool) (t register : ℕ) (bits others : List ℕ)
    → path rate invert t register (bits ++ others) ≡ path rate invert t register bits
    ++ path rate invert (t + length bits) (register_after register bits) others
path-append rate invert t register [] others =
    let same : t ≡ t + 0 = omega arith in ap (λ u. path rate invert u register others) same
path-append rate invert t register (bit ∷ bits) others =
    let next = next_register register bit in
    let later : t + 1 + length bits ≡ t + suc (length bits) = omega arith in
    ap (λ l. step_symbols rate invert t register bit ++ l) (path-append rate invert (t + 1) next bits others)
    ∙ sym (append_assoc (step_symbols rate invert t register bit) (path rate invert (t + 1) next bits)
    (path rate invert (t + 1 + length bits) (register_after next bits) others))
    ∙ ap (λ u. (step_symbols rate invert t register bit ++ path rate invert (t + 1) next bits)
    ++ path rate invert u (register_after next bits) others) later

pub cost-append : (xs ys us vs : List ℕ) → length xs ≡ length ys → cost (xs ++ us) (ys ++ vs) ≡ cost xs ys + cost us vs
cost-append [] [] us vs e = omega arith
cost-append [] (y ∷ ys) us vs e = absurd (let h : 0 ≡ suc (length ys) = e in omega arith)
cost-append (x ∷ xs) [] us vs e = absurd (let h : suc (length xs) ≡ 0 = e in omega arith)
cost-append (x ∷ xs) (y ∷ ys) us vs e =
    let l : length xs ≡ length ys = (let h : suc (length xs) ≡ suc (length ys) = e in omega arith) in
    let h : cost (xs ++ us) (ys ++ vs) ≡ cost xs ys + cost us vs = cost-append xs ys us vs l in
    omega (arith, h)

pub steps_size-more : (rate : Rate) (t n : ℕ) → steps_size rate t (n + 1) ≡ steps_size rate t n + step_size rate (t + n)
steps_size-more rate t n = rw add-one (steps_size-suc rate t n)

pub steps_size-zero : (rate : Rate) (t : ℕ) → steps_size rate t 0 ≡ 0
unfolding steps_size
steps_size-zero rate t = refl
