-- The choices of a configuration have the numbers that were given for them.
use Rattle.std.proofs.Common.{◌≡◌, ◌∙◌, inl, inr, refl, sym, ap, ℕ, zero, suc, true, false, ◌==◌, List, [], ◌∷◌, Option, Some, None, arith}
use Rattle.std.proofs.lemmas.Bool.{cases_Bool, eqb-true}
use Rattle.std.proofs.lemmas.Bool.Decides.{nat_tests}
use Rattle.std.specs.Prelude.{option_map}
use Rattle.tm_gf256.specs.Octet.{basis_of}
use Rattle.tm_viterbi.specs.declared.block.Start.TheVariants.{Zero}
use Rattle.tm_config.specs.declared.values.Raw.{Raw}
use Rattle.tm_config.specs.declared.values.OuterCode.TheVariants.{Uncoded}
use Rattle.tm_config.specs.declared.values.PhaseMode.{PhaseMode}
use Rattle.tm_config.specs.declared.values.PhaseMode.TheVariants as mode
use Rattle.tm_config.specs.declared.values.SoftForm.TheVariants.{Unsigned}
use Rattle.tm_config.specs.declared.values.Sought.TheVariants.{Given}
use Rattle.tm_config.specs.Configuration.{HaveNumbers, configuration_of, numbered, correctable, all_codes, number_of_rate, all_rates}
use Rattle.tm_config.specs.Configuration.{number_of_switch, all_switches, is_on, number_of_basis, all_bases, number_of_form, all_forms}
use Rattle.tm_config.specs.Configuration.{number_of_start, all_starts, number_of_mode, all_modes, mode_of, phase_of, is_followed, mode_by}
use Rattle.tm_config.specs.Configuration.{number_of_sought, all_sought}
use Rattle.tm_config.specs.Accepted.{is_number, fits_if_given, switch_fits, refusal_of_raw}
use Rattle.tm_config.proofs.Accepting.{all_pass}

-- the value found by a number that one of the list has
numbered-has : {A : Type 0} (number_of : A → ℕ) (values : List A) (other : A) (number : ℕ)
    → is_number number_of values number ≡ true
    → number_of (numbered number_of values other number) ≡ number
numbered-has number_of [] other number fits = cc
numbered-has number_of (value ∷ values) other number fits =
    elim (cases_Bool (number == number_of value)) [
      | inl same ↦ rw same (sym (eqb-true number (number_of value) same))
      | inr differs ↦ rw differs (numbered-has number_of values other number (rw differs at fits))
    ]

basis-has : (number : ℕ) → is_number number_of_basis all_bases number ≡ true
    → number_of_basis (basis_of number) ≡ number
basis-has zero fits = refl
basis-has (suc n) fits = grind (arith, nat_tests)

-- what the two say of a mode shows which it is
same-mode : (asked : PhaseMode) → mode_by (phase_of asked) (is_followed asked) ≡ asked
same-mode mode.Given = refl
same-mode mode.Find = refl
same-mode mode.Follow = refl

phase-has : (number : ℕ) → is_number number_of_mode all_modes number ≡ true
    → number_of_mode (mode_by (phase_of (mode_of number)) (is_followed (mode_of number))) ≡ number
phase-has number fits =
    ap number_of_mode (same-mode (mode_of number))
    ∙ numbered-has number_of_mode all_modes mode.Given number fits

invert-has : (number : Option ℕ) → fits_if_given switch_fits number ≡ true
    → option_map number_of_switch (option_map is_on number) ≡ number
invert-has None fits = refl
invert-has (Some number) fits = ap (λ n. Some n) (numbered-has number_of_switch all_switches false number fits)

-- of values that are not refused
pub configuration-has : (raw : Raw) → refusal_of_raw raw ≡ None → HaveNumbers raw (configuration_of raw)
configuration-has raw none =
    let pass = all_pass raw none in
    record {
      code = numbered-has correctable all_codes Uncoded raw.code pass.code;
      inner = numbered-has number_of_rate all_rates None raw.inner pass.inner;
      invert = invert-has raw.invert pass.switches.0;
      randomize = numbered-has number_of_switch all_switches false raw.randomize pass.switches.1;
      basis = basis-has raw.basis pass.basis;
      soft = numbered-has number_of_form all_forms Unsigned raw.soft pass.soft;
      start = numbered-has number_of_start all_starts Zero raw.start pass.start;
      phase = phase-has raw.phase pass.phase;
      polarity = numbered-has number_of_sought all_sought Given raw.polarity pass.polarity;
      pack = numbered-has number_of_switch all_switches false raw.pack pass.pack;
      rescan = numbered-has number_of_switch all_switches false raw.rescan pass.rescan;
      bad = numbered-has number_of_switch all_switches false raw.bad pass.bad;
    }
