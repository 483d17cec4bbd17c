-- Octets are read as one list of windows that pass, and one thing is seen after them.
use Rattle.std.proofs.Common.{◌≡◌, ℕ, ◌<◌, List, [], ◌∷◌, ◌++◌, length, drop, zero, suc, refl, sym, ◌∙◌, subst, arith, length-drop}
use Rattle.std.proofs.Math.Path.{transport}
use Rattle.tm_cert_file.specs.declared.seen.Seen.{Seen}
use Rattle.tm_cert_file.specs.declared.seen.Seen.TheVariants.{More, Passed, Failed}
use Rattle.tm_cert_file.specs.Window.{Window, window_in, window_size}
use Rattle.tm_cert_file.specs.Before.{Rules, Before, after_window}
use Rattle.tm_cert_file.specs.Seen.{IsSeen}
use Rattle.tm_cert_file.specs.File.{ArePassed}
use Rattle.tm_cert_file.proofs.SeenOnce.{HasVerdict, OneVerdict, has-seen, one-seen}

-- ---- octets are read

-- what octets are read as from a place on
pub record HasRead (rules : Rules) (from : Before) (octets : List ℕ) : Type 0 where
  pub windows : List Window
  pub seen : Seen
  pub to : Before
  pub rest : List ℕ
  pub passed : ArePassed rules from octets windows to rest
  pub is_seen : IsSeen rules to rest seen
  pub stops : seen ≡ Passed → ⊥

-- where nothing but a window that passes is seen, no window is read
read-none : (rules : Rules) (from : Before) (octets : List ℕ) (seen : Seen) → IsSeen rules from octets seen
    → (seen ≡ Passed → ⊥) → HasRead rules from octets
read-none rules from octets seen is stops = record {
  windows = [];
  seen = seen;
  to = from;
  rest = octets;
  passed = (refl, refl);
  is_seen = is;
  stops = stops;
}

-- after a window that passes fewer octets are left
read-next : (rules : Rules) (from : Before) (octets : List ℕ) (n : ℕ) → length octets < suc n
    → ((next : Before) (left : List ℕ) → length left < n → HasRead rules next left)
    → (seen : Seen) → IsSeen rules from octets seen → HasRead rules from octets
read-next rules from octets n few others More is = read-none rules from octets More is (λ same. absurd cc)
read-next rules from octets n few others (Failed reason) is =
    read-none rules from octets (Failed reason) is (λ same. absurd cc)
read-next rules from octets n few others Passed is =
    let whole = is.whole in
    let w = window_in rules.rate from.t octets in
    let size = window_size rules.rate from.t w.steps in
    let read = others (after_window rules from w) (drop size octets) (omega (arith, length-drop size octets)) in
    record {
      windows = w ∷ read.windows;
      seen = read.seen;
      to = read.to;
      rest = read.rest;
      passed = (is, refl, read.passed);
      is_seen = read.is_seen;
      stops = read.stops;
    }

pub read-within : HasVerdict → (n : ℕ) (rules : Rules) (from : Before) (octets : List ℕ) → length octets < n
    → HasRead rules from octets
read-within has zero rules from octets few = absurd (omega arith)
read-within has (suc n) rules from octets few =
    let found = has-seen has rules from octets in
    read-next rules from octets n few (read-within has n rules) found.0 found.1

-- ---- as one list of windows

-- windows that pass come first among those after which something else is seen
pub prefix-of : OneVerdict → (rules : Rules) (from to to_all : Before) (octets rest rest_all : List ℕ)
    (windows all : List Window) (last : Seen)
    → ArePassed rules from octets windows to rest → ArePassed rules from octets all to_all rest_all
    → IsSeen rules to_all rest_all last → (last ≡ Passed → ⊥)
    → (others : List Window) × (all ≡ windows ++ others) × ArePassed rules to rest others to_all rest_all
prefix-of one rules from to to_all octets rest rest_all [] all last are are_all is stops =
    (all, refl, transport (λ i. ArePassed rules (sym are.0 i) (sym are.1 i) all to_all rest_all) are_all)
prefix-of one rules from to to_all octets rest rest_all (w ∷ windows) [] last are are_all is stops =
    absurd (stops (one-seen one rules from octets last Passed
    (transport (λ i. IsSeen rules (are_all.0 i) (are_all.1 i) last) is) are.0))
prefix-of one rules from to to_all octets rest rest_all (w ∷ windows) (v ∷ all) last are are_all is stops =
    let same : v ≡ w = are_all.1 ∙ sym are.1 in
    let moved = subst (λ (u : Window). ArePassed rules (after_window rules from u)
    (drop (window_size rules.rate from.t u.steps) octets) all to_all rest_all) same are_all.2 in
    let found = prefix-of one rules (after_window rules from w) to to_all
    (drop (window_size rules.rate from.t w.steps) octets) rest rest_all windows all last are.2 moved is stops in
    (found.0, (λ i. same i ∷ found.1 i), found.2)

-- where something else than a window that passes is seen after both, they are the same
pub no-others : OneVerdict → (rules : Rules) (to to_all : Before) (rest rest_all : List ℕ) (others : List Window)
    (seen : Seen)
    → ArePassed rules to rest others to_all rest_all → IsSeen rules to rest seen → (seen ≡ Passed → ⊥)
    → (others ≡ []) × (to ≡ to_all) × (rest ≡ rest_all)
no-others one rules to to_all rest rest_all [] seen are is stops = (refl, sym are.0, sym are.1)
no-others one rules to to_all rest rest_all (w ∷ others) seen are is stops =
    absurd (stops (one-seen one rules to rest seen Passed is are.0))
