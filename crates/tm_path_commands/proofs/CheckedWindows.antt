-- A certificate, window by window, and the texts that are given for it.
use Rattle.std.proofs.Common.{◌≡◌, ℕ, suc, ◌+◌, ◌^◌, ◌-◌, ◌≤◌, Bool, List, [], ◌∷◌, ◌++◌, length, take, drop, min, refl, sym, ap, ◌∙◌, subst, append_assoc, arith, length-append, length-take, take-append-drop}
use Rattle.std.proofs.lemmas.List.{length-drop, take-append-le}
use Rattle.tm_base.specs.Limits.{most_limit}
use Rattle.tm_base.proofs.Handing.{HandedOver-push}
use Rattle.tm_conv.specs.declared.rates.Rate.{Rate}
use Rattle.tm_cert_file.specs.declared.seen.Reason.{Reason}
use Rattle.tm_cert_file.specs.declared.seen.Seen.{Seen}
use Rattle.tm_cert_file.specs.declared.seen.Seen.TheVariants.{More, Passed, Failed}
use Rattle.tm_cert_file.specs.Window.{Window, kept_in, steps_in, window_in, window_size}
use Rattle.tm_cert_file.specs.Before.{Rules, Before, at_first, after_window}
use Rattle.tm_cert_file.specs.Seen.{IsSeen}
use Rattle.tm_cert_file.specs.File.{ArePassed, IsBroken, IsRead, all_kept, is_cut, kept_octets}
use Rattle.tm_cert_file.specs.Reading.{Reading, HasPassed, ReaderStandsFor}
use Rattle.tm_cert_file.proofs.Stages.{Holds-from_none}
use Rattle.tm_cert_file.proofs.Looking.{Shaped-from_shape}
use Rattle.tm_driver.specs.Staged.{Takes}
use Rattle.tm_driver.specs.Turns.{but_last_turn}
use Rattle.tm_driver.specs.Writing.{Text, Out, Note, notes_of, out_of}
use Rattle.tm_driver.proofs.Pieces.{piece-all}
use Rattle.tm_path_commands.specs.Check.{bits_kept, end_text, windows_text}
use Rattle.tm_path_commands.specs.Checking.{Checks, ChecksAll, Passes, StopsChecking, window_texts}
use Rattle.tm_path_commands.specs.Lines.{bad_text, window_text}
use Rattle.tm_path_commands.specs.declared.check_command.Checking.{Checking}

-- ---- the texts of windows

texts-append : (rate : Rate) (number t : ℕ) (xs ys : List Window)
    → window_texts rate number t (xs ++ ys)
    ≡ window_texts rate number t xs ++ window_texts rate (number + length xs) (t + bits_kept xs) ys
texts-append rate number t [] ys =
    let same : number ≡ number + 0 = omega arith in
    let at : t ≡ t + 0 = omega arith in
    (λ i. window_texts rate (same i) (at i) ys)
texts-append rate number t (w ∷ xs) ys =
    let same : number + 1 + length xs ≡ number + suc (length xs) = omega arith in
    let at : t + w.kept + bits_kept xs ≡ t + (w.kept + bits_kept xs) = omega arith in
    ap (λ (l : List Text). Out (kept_octets rate t w) ∷ Note (window_text number w.steps w.kept w.metric) ∷ l)
    (texts-append rate (number + 1) (t + w.kept) xs ys
    ∙ (λ i. window_texts rate (number + 1) (t + w.kept) xs ++ window_texts rate (same i) (at i) ys))

pub texts-more : (rate : Rate) (xs ys : List Window) → window_texts rate 0 0 (xs ++ ys)
    ≡ window_texts rate 0 0 xs ++ window_texts rate (length xs) (bits_kept xs) ys
texts-more rate xs ys =
    let same : 0 + length xs ≡ length xs = omega arith in
    let at : 0 + bits_kept xs ≡ bits_kept xs = omega arith in
    texts-append rate 0 0 xs ys ∙ (λ i. window_texts rate 0 0 xs ++ window_texts rate (same i) (at i) ys)

-- their octets, and their lines
pub texts-are : (rate : Rate) (number t : ℕ) (windows : List Window)
    → (out_of (window_texts rate number t windows) ≡ all_kept rate t windows)
    × (notes_of (window_texts rate number t windows) ≡ windows_text number windows)
texts-are rate number t [] = (refl, refl)
texts-are rate number t (w ∷ windows) =
    let rest = texts-are rate (number + 1) (t + w.kept) windows in (
      ap (λ l. kept_octets rate t w ++ l) rest.0,
      ap (λ l. window_text number w.steps w.kept w.metric ++ l) rest.1,
    )

bits_kept-append : (xs ys : List Window) → bits_kept (xs ++ ys) ≡ bits_kept xs + bits_kept ys
bits_kept-append [] ys = omega arith
bits_kept-append (w ∷ xs) ys = omega (arith, bits_kept-append xs ys)

-- ---- how many they are

-- the next window begins after the kept steps
place-is : (rules : Rules) (from to : Before) (octets rest : List ℕ) (windows : List Window)
    → ArePassed rules from octets windows to rest → to.t ≡ from.t + bits_kept windows
place-is rules from to octets rest [] are = let same : to.t ≡ from.t = ap (λ (b : Before). b.t) are.0 in omega arith
place-is rules from to octets rest (w ∷ windows) are =
    let later = place-is rules (after_window rules from w) to
    (drop (window_size rules.rate from.t w.steps) octets) rest windows are.2 in omega arith

-- no more steps are kept than there are
kept-within : (rules : Rules) (from : Before) (octets : List ℕ) → IsSeen rules from octets Passed
    → kept_in octets ≤ steps_in octets
kept-within rules from octets passed =
    let whole = passed.whole in
    (Shaped-from_shape rules from octets ((Holds-from_none rules from octets passed.right).shape
    (omega arith))).kept_within

-- they are fewer than octets, and so are their kept steps
few-are : (rules : Rules) (from to : Before) (octets rest : List ℕ) (windows : List Window)
    → ArePassed rules from octets windows to rest
    → (bits_kept windows + length rest ≤ length octets) × (length windows + length rest ≤ length octets)
few-are rules from to octets rest [] are =
    let same : length rest ≡ length octets = ap length are.1 in (omega arith, omega arith)
few-are rules from to octets rest (w ∷ windows) are =
    let passed : IsSeen rules from octets Passed = are.0 in
    let whole = passed.whole in
    let within = kept-within rules from octets passed in
    let steps : w.steps ≡ steps_in octets = ap (λ (v : Window). v.steps) are.1 in
    let kept : w.kept ≡ kept_in octets = ap (λ (v : Window). v.kept) are.1 in
    let size : window_size rules.rate from.t w.steps ≤ length octets =
    subst (λ n. window_size rules.rate from.t n ≤ length octets) (sym steps) whole in
    let left = length-drop (window_size rules.rate from.t w.steps) octets in
    let later = few-are rules (after_window rules from w) to
    (drop (window_size rules.rate from.t w.steps) octets) rest windows are.2 in
    (omega (arith, later.0), omega (arith, later.1))

-- ---- what is read

-- more octets, by which nothing is seen of the next window before the last of them
pub passes-more : (new before now : Checking) (given more : List ℕ) (texts : List Text)
    → now.reader.rules ≡ before.reader.rules → now.tally ≡ before.tally
    → ((windows : List Window) → ReaderStandsFor before.reader given windows
    → ReaderStandsFor now.reader (given ++ more) windows)
    → Passes new before given texts → Passes new now (given ++ more) texts
passes-more new before now given more texts rules tally stands p = record {
  rules = rules ∙ p.rules;
  windows = p.windows;
  stands = stands p.windows p.stands;
  blocks = ap (λ t. t.blocks) tally ∙ p.blocks;
  bits = ap (λ t. t.bits) tally ∙ p.bits;
  are = p.are;
}

-- the window that passed, in a reader's octets
abbrev pub window_of : Reading → Window
window_of r = window_in r.rules.rate r.before.t r.octets

abbrev pub texts_of : Checking → List Text
texts_of k =
    let w = window_of k.reader in
    Out (kept_octets k.reader.rules.rate k.reader.before.t w)
    ∷ Note (window_text k.tally.blocks w.steps w.kept w.metric) ∷ []

-- a window that passed, once its texts were given, and it was counted
pub passes-window : (new before now : Checking) (given : List ℕ) (texts : List Text) → length given ≤ most_limit
    → HasPassed before.reader → now.reader.rules ≡ before.reader.rules
    → ((windows : List Window) → before.reader.before.t + kept_in before.reader.octets ≤ 2 ^ 43
    → ReaderStandsFor before.reader given windows
    → ReaderStandsFor now.reader given (windows ++ window_of before.reader ∷ []))
    → now.tally.blocks ≡ min (before.tally.blocks + 1) (2 ^ 64 - 1)
    → now.tally.bits ≡ min (before.tally.bits + kept_in before.reader.octets) (2 ^ 64 - 1)
    → Passes new before given texts → Passes new now given (texts ++ texts_of before)
passes-window new before now given texts short passed same stands blocks bits p =
    let r = before.reader in
    let w = window_of r in
    let place : r.before.t ≡ bits_kept p.windows =
    omega (arith, place-is r.rules (at_first r.rules) r.before given r.octets p.windows p.stands) in
    let few = few-are r.rules (at_first r.rules) r.before given r.octets p.windows p.stands in
    let whole = passed.passed.whole in
    let keeps : kept_in r.octets ≤ length r.octets =
    omega (arith, kept-within r.rules r.before r.octets passed.passed) in
    record {
      rules = same ∙ p.rules;
      windows = p.windows ++ w ∷ [];
      stands = stands p.windows (omega (arith, place, few.0, keeps)) p.stands;
      blocks = blocks ∙ omega (arith, p.blocks, few.1, length-append p.windows (w ∷ []));
      bits = bits ∙ omega (arith, p.bits, few.0, keeps, bits_kept-append p.windows (w ∷ []));
      are = (λ i. p.are i ++ Out (kept_octets (p.rules i).rate (place i) w)
          ∷ Note (window_text (p.blocks i) w.steps w.kept w.metric) ∷ [])
          ∙ sym (texts-more new.reader.rules.rate p.windows (w ∷ []));
    }

-- what is seen is seen by a reader as it is now
pub seen-now : (r now : Reading) (seen other : Seen) → now.rules ≡ r.rules → now.before ≡ r.before → seen ≡ other
    → IsSeen r.rules r.before now.octets seen → IsSeen now.rules now.before now.octets other
seen-now r now seen other rules before same is =
    subst (λ k. IsSeen k now.before now.octets other) (sym rules)
    (subst (λ b. IsSeen r.rules b now.octets other) (sym before)
    (subst (IsSeen r.rules r.before now.octets) same is))

-- what is read of octets so far
abbrev pub read-so_far : (new now : Checking) (given : List ℕ) (texts : List Text) (seen : Seen)
    → (p : Passes new now given texts) → IsSeen now.reader.rules now.reader.before now.reader.octets seen
    → (seen ≡ Passed → ⊥) → IsRead new.reader.rules given p.windows seen
read-so_far new now given texts seen p is stops =
    record {
      before = now.reader.before;
      rest = now.reader.octets;
      passed =
          subst (λ (k : Rules). ArePassed k (at_first k) given p.windows now.reader.before now.reader.octets) p.rules
          p.stands;
      is_seen = subst (λ (k : Rules). IsSeen k now.reader.before now.reader.octets seen) p.rules is;
      stops = stops;
    }

-- ---- a window that fails

-- whatever octets come, it does so
abbrev pub ReadStays : Type 0
ReadStays =
    (rules : Rules) (octets more : List ℕ) (windows : List Window) (reason : Reason)
    → IsRead rules octets windows (Failed reason) → IsRead rules (octets ++ more) windows (Failed reason)

-- octets are read in one way
abbrev pub ReadOne : Type 0
ReadOne =
    (rules : Rules) (octets : List ℕ) (windows others : List Window) (seen other : Seen)
    (read : IsRead rules octets windows seen) (again : IsRead rules octets others other)
    → (windows ≡ others) × (seen ≡ other) × (read.before ≡ again.before) × (read.rest ≡ again.rest)

-- none fails before the last turn, in which nothing was seen of the next window at first
none-fails : ReadStays → ReadOne → (new now : Checking) (given piece : List ℕ) (texts : List Text)
    → length piece ≤ 4096 → Checks new now given texts → (windows : List Window) (reason : Reason)
    → IsBroken new.reader.rules (but_last_turn (given ++ piece)) windows reason → ⊥
none-fails stays one new now given piece texts few c windows reason broken =
    let rules = new.reader.rules in
    let n = length (given ++ piece) - 4096 in
    let prefix = take-append-le n given piece (omega (arith, length-append given piece)) in
    let early = stays rules (take n given) (drop n given) windows reason
    (subst (λ o. IsRead rules o windows (Failed reason)) prefix broken) in
    let all = subst (λ o. IsRead rules o windows (Failed reason)) (take-append-drop n given) early in
    let same = one rules given windows c.1.windows (Failed reason) More all
    (read-so_far new now given texts More c.1 c.0 (λ no. cc no)) in
    cc same.1

-- checking stops by it, in a piece that follows these octets, of which `more` was not taken
stops-now : ReadStays → ReadOne → (new before now : Checking) (given piece taken more : List ℕ)
    (texts texts_now : List Text) (reason : Reason)
    → length piece ≤ 4096 → given ++ piece ≡ taken ++ more → Checks new before given texts
    → Passes new now taken texts_now → IsSeen now.reader.rules now.reader.before now.reader.octets (Failed reason)
    → StopsChecking new now (given ++ piece) (texts_now ++ Note (bad_text now.tally.blocks reason) ∷ [])
stops-now stays one new before now given piece taken more texts texts_now reason few same c p is =
    let rules = new.reader.rules in
    let read : IsRead rules (given ++ piece) p.windows (Failed reason) =
    subst (λ o. IsRead rules o p.windows (Failed reason)) (sym same)
    (stays rules taken more p.windows reason (read-so_far new now taken texts_now (Failed reason) p is (λ no. cc no)))
    in (
      (
        reason,
        is_cut read.before.next read.rest,
        record {
          windows = p.windows;
          read = read;
          ends = refl;
          are = (λ i. p.are i ++ Note (bad_text (p.blocks i) reason) ∷ []);
        },
      ),
      none-fails stays one new before given piece texts few c,
    )

-- it fails by the last octets that were taken of a piece
pub takes-failing : {T : Type 0} (took : T → Text → T → Type 0) → ReadStays → ReadOne → (before now : Checking)
    (taker middle taker_now : T) (piece : List ℕ) (count : ℕ) (reason : Reason) → length piece ≤ 4096
    → IsSeen now.reader.rules now.reader.before now.reader.octets (Failed reason)
    → took middle (Note (bad_text now.tally.blocks reason)) taker_now
    → Takes took Checks Passes before now taker middle (take count piece)
    → Takes took Checks StopsChecking before now taker taker_now piece
takes-failing took stays one before now taker middle taker_now piece count reason small is noted t =
    let line : Text = Note (bad_text now.tally.blocks reason) in record {
      texts = t.texts ++ line ∷ [];
      handed = HandedOver-push took taker middle taker_now t.texts line t.handed noted;
      stands = λ new given done few stood.
          subst (StopsChecking new now (given ++ piece)) (append_assoc done t.texts (line ∷ []))
          (stops-now stays one new before now given piece (given ++ take count piece) (drop count piece) done
          (done ++ t.texts) reason small (sym (piece-all given piece count)) stood
          (t.stands new given done (omega (arith, few, length-take count piece)) stood) is);
    }

-- ---- the end

-- the certificate is cut, or it is whole
pub checks-all : (new now : Checking) (given : List ℕ) (texts : List Text) (cut : Bool) (end : List ℕ)
    → is_cut now.reader.before.next now.reader.octets ≡ cut → (c : Checks new now given texts)
    → end ≡ end_text More cut c.1.windows
    → ChecksAll new.reader.rules More cut given (texts ++ Note end ∷ [])
checks-all new now given texts cut end is c same = record {
  windows = c.1.windows;
  read = read-so_far new now given texts More c.1 c.0 (λ no. cc no);
  ends = is;
  are = (λ i. c.1.are i ++ Note (same i) ∷ []);
}
