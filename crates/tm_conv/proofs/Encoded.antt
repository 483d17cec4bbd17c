-- One more step of an encoder.
use Rattle.std.proofs.Common.{◌≡◌, ℕ, ◌+◌, ◌-◌, ◌%◌, Bool, true, false, cond, List, [], ◌∷◌, ◌++◌, length, get_or, eqb, refl, sym, ap, ◌∙◌, arith, length-append}
use Rattle.std.proofs.lemmas.List.{map-append, length-map}
use mir.Val.{bool_byte}
use Rattle.tm_base.specs.Bits.{bit_number}
use Rattle.tm_conv.specs.declared.rates.Rate.{Rate}
use Rattle.tm_conv.specs.declared.rates.Rate.TheVariants.{R12, R23, R34, R56, R78}
use Rattle.tm_conv.specs.Path.{c1, c2, c1_pattern, c2_pattern, period, sent, step_symbols, next_register, register_after, path}
use Rattle.tm_conv.specs.Encoding.{Encoding, EncoderStandsFor, bit_numbers, sent_for}
use Rattle.tm_conv.proofs.Paths.{path-push, register_after-push}

-- a bit as an octet is its number
pub bit_byte : (bit : Bool) → bool_byte bit ≡ bit_number bit
bit_byte true = refl
bit_byte false = refl

-- a step sends by its place in the pattern
pub sent-position : (rate : Rate) (invert : Bool) (t c d : ℕ)
    → sent rate invert (t % period rate) c d ≡ sent rate invert t c d
sent-position R12 invert t c d =
    ap (λ k. cond (eqb (get_or (c1_pattern R12) k 0) 1) (c ∷ []) []
    ++ cond (eqb (get_or (c2_pattern R12) k 0) 1) (cond invert (1 - d) d ∷ []) [])
    (let e : t % 1 % 1 ≡ t % 1 = omega arith in e)
sent-position R23 invert t c d =
    ap (λ k. cond (eqb (get_or (c1_pattern R23) k 0) 1) (c ∷ []) []
    ++ cond (eqb (get_or (c2_pattern R23) k 0) 1) (cond invert (1 - d) d ∷ []) [])
    (let e : t % 2 % 2 ≡ t % 2 = omega arith in e)
sent-position R34 invert t c d =
    ap (λ k. cond (eqb (get_or (c1_pattern R34) k 0) 1) (c ∷ []) []
    ++ cond (eqb (get_or (c2_pattern R34) k 0) 1) (cond invert (1 - d) d ∷ []) [])
    (let e : t % 3 % 3 ≡ t % 3 = omega arith in e)
sent-position R56 invert t c d =
    ap (λ k. cond (eqb (get_or (c1_pattern R56) k 0) 1) (c ∷ []) []
    ++ cond (eqb (get_or (c2_pattern R56) k 0) 1) (cond invert (1 - d) d ∷ []) [])
    (let e : t % 5 % 5 ≡ t % 5 = omega arith in e)
sent-position R78 invert t c d =
    ap (λ k. cond (eqb (get_or (c1_pattern R78) k 0) 1) (c ∷ []) []
    ++ cond (eqb (get_or (c2_pattern R78) k 0) 1) (cond invert (1 - d) d ∷ []) [])
    (let e : t % 7 % 7 ≡ t % 7 = omega arith in e)

pub position-next : (rate : Rate) (t : ℕ) → (t % period rate + 1) % period rate ≡ (t + 1) % period rate
position-next R12 t = let e : (t % 1 + 1) % 1 ≡ (t + 1) % 1 = omega arith in e
position-next R23 t = let e : (t % 2 + 1) % 2 ≡ (t + 1) % 2 = omega arith in e
position-next R34 t = let e : (t % 3 + 1) % 3 ≡ (t + 1) % 3 = omega arith in e
position-next R56 t = let e : (t % 5 + 1) % 5 ≡ (t + 1) % 5 = omega arith in e
position-next R78 t = let e : (t % 7 + 1) % 7 ≡ (t + 1) % 7 = omega arith in e

bit_numbers-push : (given : List Bool) (bit : Bool) → bit_numbers (given ++ bit ∷ []) ≡ bit_numbers given
    ++ bit_number bit ∷ []
bit_numbers-push given bit = map-append bit_number given (bit ∷ [])

register-push : (given : List Bool) (bit : Bool) → register_after 0 (bit_numbers (given ++ bit ∷ []))
    ≡ next_register (register_after 0 (bit_numbers given)) (bit_number bit)
register-push given bit =
    ap (register_after 0) (bit_numbers-push given bit) ∙ register_after-push 0 (bit_numbers given) (bit_number bit)

sent_for-push : (rate : Rate) (invert : Bool) (given : List Bool) (bit : Bool) (register position : ℕ)
    → register ≡ register_after 0 (bit_numbers given) → position ≡ length given % period rate
    → sent_for rate invert (given ++ bit ∷ []) ≡ sent_for rate invert given
    ++ step_symbols rate invert position register (bit_number bit)
sent_for-push rate invert given bit register position er ep =
    let numbers = bit_numbers given in
    let b = bit_number bit in
    let u : length given ≡ 0 + length numbers = sym (length-map given bit_number) ∙ omega arith in
    ap (path rate invert 0 0) (bit_numbers-push given bit)
    ∙ path-push rate invert 0 (length given) 0 numbers b u
    ∙ ap (λ v. path rate invert 0 0 numbers ++ step_symbols rate invert (length given) v b) (sym er)
    ∙ ap (λ v. path rate invert 0 0 numbers ++ v) (sym (step_at register))
  where
    step_at : (register : ℕ) → step_symbols rate invert position register (bit_number bit)
        ≡ step_symbols rate invert (length given) register (bit_number bit)
    step_at register =
        ap (λ k. step_symbols rate invert k register (bit_number bit)) ep
        ∙ sent-position rate invert (length given) _ _

-- an encoder given one more bit
pub EncoderStandsFor-push : (before now : Encoding) (given : List Bool) (bit : Bool) → now.rate ≡ before.rate
    → now.register ≡ next_register before.register (bit_number bit)
    → now.position ≡ (before.position + 1) % period before.rate
    → EncoderStandsFor before given → EncoderStandsFor now (given ++ bit ∷ [])
EncoderStandsFor-push before now given bit er eg ep stands = record {
  register = eg ∙ ap (λ v. next_register v (bit_number bit)) stands.register ∙ sym (register-push given bit);
  position = ep
      ∙ ap (λ v. (v + 1) % period before.rate) stands.position
      ∙ position-next before.rate (length given)
      ∙ ap (λ v. v % period before.rate) (sym (length-append given (bit ∷ [])))
      ∙ ap (λ (r : Rate). length (given ++ bit ∷ []) % period r) (sym er);
}

-- what it sends for it
pub sent_for-next : (before : Encoding) (given : List Bool) (bit : Bool) (symbols : List ℕ) (first second : ℕ)
    → symbols ≡ sent before.rate before.invert before.position first second
    → first ≡ c1 before.register (bit_number bit) → second ≡ c2 before.register (bit_number bit)
    → EncoderStandsFor before given → sent_for before.rate before.invert (given ++ bit ∷ [])
    ≡ sent_for before.rate before.invert given ++ symbols
sent_for-next before given bit symbols first second is ef es stands =
    sent_for-push before.rate before.invert given bit before.register before.position stands.register stands.position
    ∙ ap (λ v. sent_for before.rate before.invert given ++ v)
    (sym (is ∙ ap (λ v. sent before.rate before.invert before.position v second) ef
    ∙ ap (λ v. sent before.rate before.invert before.position (c1 before.register (bit_number bit)) v) es))
