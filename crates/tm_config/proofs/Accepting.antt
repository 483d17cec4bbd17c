-- What the tests of the values show of the configuration.
use Rattle.std.proofs.Common.{◌≡◌, ◌⊎◌, inl, inr, ℕ, ◌*◌, ◌/◌, ◌%◌, ◌≤◌, Bool, true, false, List, [], ◌∷◌, Option, Some, None, refl, arith}
use Rattle.std.proofs.Common.{◌==◌, ◌&&◌, nat_le, unwrap_or, if◌then◌else◌, ◌≢◌}
use Rattle.std.proofs.lemmas.Bool.Decides.{nat_tests}
use Rattle.std.proofs.Math.Nat.{mul-div_cancel_left}
use Rattle.tm_base.specs.Limits.{most_workers, most_limit}
use Rattle.tm_base.specs.Marker.{most_tolerance}
use Rattle.tm_viterbi.specs.WindowSizes.{least_keep, most_keep, most_ahead}
use Rattle.tm_config.specs.Configuration.{longest_codeblock, deepest, most_skip, most_fly, most_batch, most_verify}
use Rattle.tm_config.specs.declared.values.Raw.{Raw}
use Rattle.tm_config.specs.declared.values.OuterCode.{OuterCode}
use Rattle.tm_config.specs.declared.values.OuterCode.TheVariants.{Rs16, Rs8, Uncoded}
use Rattle.tm_config.specs.declared.error.ConfigError.{ConfigError}
use Rattle.tm_config.specs.Configuration.{Configuration, configuration_of, unfollowed, most_data, correctable, all_codes, code_of, is_uncoded, number_of_rate, all_rates}
use Rattle.tm_config.specs.Configuration.{number_of_basis, all_bases, number_of_form, all_forms, number_of_start, all_starts}
use Rattle.tm_config.specs.Configuration.{number_of_mode, all_modes}
use Rattle.tm_config.specs.Accepted.{IsAccepted, is_listed, is_number, is_within, switch_fits, sought_fits, fits_if_given, depth_fits, length_fits, repair_fits, tests, first_error, refusal_of_raw}
use Rattle.tm_config.proofs.Choices.{uncoded_cases}

-- where no test fails, each passes
abbrev EachPasses : List (Bool × ConfigError) → Type 0
EachPasses [] = Unit {0}
EachPasses ((fits, error) ∷ rest) = (fits ≡ true) × EachPasses rest

each-passes : (all : List (Bool × ConfigError)) → first_error all ≡ None → EachPasses all
each-passes [] none = tt
each-passes ((true, error) ∷ rest) none = (refl, each-passes rest none)
each-passes ((false, error) ∷ rest) none = cc

both : (a b : Bool) → (a && b) ≡ true → (a ≡ true) × (b ≡ true)
both true b fits = (refl, fits)
both false b fits = cc

-- each test passes
pub record AllPass (raw : Raw) : Type 0 where
  pub code : is_number correctable all_codes raw.code ≡ true
  pub depth : depth_fits raw ≡ true
  pub length : length_fits raw ≡ true
  pub inner : is_number number_of_rate all_rates raw.inner ≡ true
  pub switches : (fits_if_given switch_fits raw.invert ≡ true) × (switch_fits raw.randomize ≡ true)
  pub basis : is_number number_of_basis all_bases raw.basis ≡ true
  pub tolerance : nat_le raw.tolerance most_tolerance ≡ true
  pub repair : repair_fits raw ≡ true
  pub soft : is_number number_of_form all_forms raw.soft ≡ true
  pub start : is_number number_of_start all_starts raw.start ≡ true
  pub skip : nat_le raw.skip most_skip ≡ true
  pub workers : is_within 1 most_workers raw.workers ≡ true
  pub limit : is_within 1 most_limit raw.limit ≡ true
  pub fly : nat_le raw.fly most_fly ≡ true
  pub keep : is_within least_keep most_keep raw.keep ≡ true
  pub ahead : nat_le raw.ahead most_ahead ≡ true
  pub phase : is_number number_of_mode all_modes raw.phase ≡ true
  pub polarity : sought_fits raw.polarity ≡ true
  pub batch : is_within 1 most_batch raw.batch ≡ true
  pub pack : switch_fits raw.pack ≡ true
  pub verify : nat_le raw.verify most_verify ≡ true
  pub rescan : switch_fits raw.rescan ≡ true
  pub bad : switch_fits raw.bad ≡ true

pub all_pass : (raw : Raw) → refusal_of_raw raw ≡ None → AllPass raw
unfolding refusal_of_raw
all_pass raw none =
    let p1 = each-passes (tests raw) none in
    let p2 = p1.1 in
    let p3 = p2.1 in
    let p4 = p3.1 in
    let p5 = p4.1 in
    let p6 = p5.1 in
    let p7 = p6.1 in
    let p8 = p7.1 in
    let p9 = p8.1 in
    let p10 = p9.1 in
    let p11 = p10.1 in
    let p12 = p11.1 in
    let p13 = p12.1 in
    let p14 = p13.1 in
    let p15 = p14.1 in
    let p16 = p15.1 in
    let p17 = p16.1 in
    let p18 = p17.1 in
    let p19 = p18.1 in
    let p20 = p19.1 in
    let p21 = p20.1 in
    let p22 = p21.1 in
    let p23 = p22.1 in
    record {
      code = p1.0;
      depth = p2.0;
      length = p3.0;
      inner = p4.0;
      switches = both _ _ p5.0;
      basis = p6.0;
      tolerance = p7.0;
      repair = p8.0;
      soft = p9.0;
      start = p10.0;
      skip = p11.0;
      workers = p12.0;
      limit = p13.0;
      fly = p14.0;
      keep = p15.0;
      ahead = p16.0;
      phase = p17.0;
      polarity = p18.0;
      batch = p19.0;
      pack = p20.0;
      verify = p21.0;
      rescan = p22.0;
      bad = p23.0;
    }

within : (least most value : ℕ) → is_within least most value ≡ true → (least ≤ value) × (value ≤ most)
within least most value fits = (grind (arith, nat_tests), grind (arith, nat_tests))

depth_listed : (depth : ℕ) → is_listed depth (1 ∷ 2 ∷ 3 ∷ 4 ∷ 5 ∷ deepest ∷ []) ≡ true → (1 ≤ depth) × (depth ≤ deepest)
depth_listed depth fits = (grind (arith, nat_tests), grind (arith, nat_tests))

by_code : (P : Bool → Type 0) (none some : Bool) (code : OuterCode) → P (if is_uncoded code then none else some)
    → ((code ≡ Uncoded) × P none) ⊎ ((code ≢ Uncoded) × P some)
by_code P none some code fits = elim (uncoded_cases code) [
  | inl is ↦ inl (is.1, (rw is.0 at fits))
  | inr is ↦ inr (is.1, (rw is.0 at fits))
]

same_number : (value wanted : ℕ) → (value == wanted) ≡ true → value ≡ wanted
same_number value wanted same = grind (arith, nat_tests)

pub depth_within : (raw : Raw) → depth_fits raw ≡ true → (1 ≤ raw.depth) × (raw.depth ≤ deepest)
depth_within raw fits = elim (by_code (λ b. b ≡ true) _ _ (code_of raw.code) fits) [
  | inl none ↦ let one = same_number raw.depth 1 none.1 in (omega arith, omega arith)
  | inr some ↦ depth_listed raw.depth some.1
]

pub no_depth : (raw : Raw) → depth_fits raw ≡ true → code_of raw.code ≡ Uncoded → raw.depth ≡ 1
no_depth raw fits no_code = elim (by_code (λ b. b ≡ true) _ _ (code_of raw.code) fits) [
  | inl none ↦ same_number raw.depth 1 none.1
  | inr some ↦ absurd (some.0 no_code)
]

pub most_data-le : (code : OuterCode) → most_data code ≤ longest_codeblock
most_data-le Rs16 = omega arith
most_data-le Rs8 = omega arith
most_data-le Uncoded = omega arith

some_most : (code : OuterCode) → 1 ≤ most_data code
some_most Rs16 = omega arith
some_most Rs8 = omega arith
some_most Uncoded = omega arith

-- a frame of whole columns, each with a data octet at least and no more than it holds
record FrameFits (depth most frame : ℕ) : Type 0 where
  pub whole : frame ≡ depth * (frame / depth)
  pub some_data : 1 ≤ frame / depth
  pub data_fits : frame / depth ≤ most

given_frame : (depth most frame : ℕ) → 1 ≤ depth → ((frame % depth == 0) && is_within 1 most (frame / depth)) ≡ true
    → FrameFits depth most frame
given_frame depth most frame some fits =
    let none_left : frame % depth ≡ 0 = grind (arith, nat_tests) in
    record {
      whole = omega arith;
      some_data = grind (arith, nat_tests);
      data_fits = grind (arith, nat_tests);
    }

longest_frame : (depth most : ℕ) → 1 ≤ depth → 1 ≤ most → FrameFits depth most (depth * most)
longest_frame depth most some some_most =
    let same : (depth * most) / depth ≡ most = mul-div_cancel_left most some in
    record {
      whole = rw same refl;
      some_data = omega arith;
      data_fits = omega arith;
    }

frame_fits : (depth most : ℕ) (length : Option ℕ) → 1 ≤ depth → 1 ≤ most
    → fits_if_given (λ length. (length % depth == 0) && is_within 1 most (length / depth)) length ≡ true
    → FrameFits depth most (unwrap_or length (depth * most))
frame_fits depth most None some some_most fits = longest_frame depth most some some_most
frame_fits depth most (Some length) some some_most fits = given_frame depth most length some fits

at_most : (value most : ℕ) → nat_le value most ≡ true → value ≤ most
at_most value most fits = grind (arith, nat_tests)

repair_within : (code : ℕ) (repair : Option ℕ) → fits_if_given (λ repair. nat_le repair code) repair ≡ true
    → unwrap_or repair code ≤ code
repair_within code None fits = omega arith
repair_within code (Some repair) fits = at_most repair code fits

-- the configuration of values that are not refused is accepted
pub configuration_is_accepted : (raw : Raw) → refusal_of_raw raw ≡ None → IsAccepted (configuration_of raw)
configuration_is_accepted raw none =
    let pass = all_pass raw none in
    let code = code_of raw.code in
    let depth = depth_within raw pass.depth in
    let frame = frame_fits raw.depth (most_data code) raw.length depth.0 (some_most code) pass.length in
    record {
      some_depth = depth.0;
      depth = depth.1;
      no_depth = no_depth raw pass.depth;
      whole = frame.whole;
      some_data = frame.some_data;
      data_fits = frame.data_fits;
      tolerance = at_most raw.tolerance most_tolerance pass.tolerance;
      repair = repair_within (correctable code) raw.repair pass.repair;
      skip = at_most raw.skip most_skip pass.skip;
      some_workers = (within 1 most_workers raw.workers pass.workers).0;
      workers = (within 1 most_workers raw.workers pass.workers).1;
      some_limit = (within 1 most_limit raw.limit pass.limit).0;
      limit = (within 1 most_limit raw.limit pass.limit).1;
      fly = at_most raw.fly most_fly pass.fly;
      some_keep = (within least_keep most_keep raw.keep pass.keep).0;
      keep = (within least_keep most_keep raw.keep pass.keep).1;
      ahead = at_most raw.ahead most_ahead pass.ahead;
      some_batch = (within 1 most_batch raw.batch pass.batch).0;
      batch = (within 1 most_batch raw.batch pass.batch).1;
      verify = at_most raw.verify most_verify pass.verify;
    }

-- a phase may be found once as well
pub unfollowed_is_accepted : (c : Configuration) → IsAccepted c → IsAccepted (unfollowed c)
unfollowed_is_accepted c accepted = record {
  some_depth = accepted.some_depth;
  depth = accepted.depth;
  no_depth = accepted.no_depth;
  whole = accepted.whole;
  some_data = accepted.some_data;
  data_fits = accepted.data_fits;
  tolerance = accepted.tolerance;
  repair = accepted.repair;
  skip = accepted.skip;
  some_workers = accepted.some_workers;
  workers = accepted.workers;
  some_limit = accepted.some_limit;
  limit = accepted.limit;
  fly = accepted.fly;
  some_keep = accepted.some_keep;
  keep = accepted.keep;
  ahead = accepted.ahead;
  some_batch = accepted.some_batch;
  batch = accepted.batch;
  verify = accepted.verify;
}
