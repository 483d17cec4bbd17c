-- What is known of a choice.
use Rattle.std.proofs.Common.{◌≡◌, ◌≢◌, ◌⊎◌, inl, inr, refl, true, false}
use Rattle.tm_config.specs.declared.values.OuterCode.{OuterCode}
use Rattle.tm_config.specs.declared.values.OuterCode.TheVariants.{Rs16, Rs8, Uncoded}
use Rattle.tm_config.specs.declared.values.Sought.{Sought}
use Rattle.tm_config.specs.declared.values.Sought.TheVariants.{Given, Find}
use Rattle.tm_config.specs.Configuration.{correctable, is_uncoded}

-- there is no code, or there is one
pub uncoded_cases : (code : OuterCode)
    → ((is_uncoded code ≡ true) × (code ≡ Uncoded)) ⊎ ((is_uncoded code ≡ false) × (code ≢ Uncoded))
uncoded_cases Rs16 = inr (refl, λ is. cc)
uncoded_cases Rs8 = inr (refl, λ is. cc)
uncoded_cases Uncoded = inl (refl, refl)

-- it is given, or to be found
pub given_or_find : (sought : Sought) → (sought ≡ Given) ⊎ (sought ≡ Find)
given_or_find Given = inl refl
given_or_find Find = inr refl

pub never_both : (sought : Sought) → sought ≡ Given → sought ≡ Find → ⊥
never_both sought given find = cc

-- a code corrects 16 symbols, or 8
pub strength_of_code : (code : OuterCode) → code ≢ Uncoded → (correctable code ≡ 16) ⊎ (correctable code ≡ 8)
strength_of_code Rs16 some = inl refl
strength_of_code Rs8 some = inr refl
strength_of_code Uncoded some = absurd (some refl)

pub uncoded_false : (code : OuterCode) → code ≢ Uncoded → is_uncoded code ≡ false
uncoded_false Rs16 some = refl
uncoded_false Rs8 some = refl
uncoded_false Uncoded some = absurd (some refl)
