-- What is said of windows hangs on the octets of the steps that they keep, and on none after them.
use Rattle.std.proofs.Common.{◌≡◌, ◌∙◌, ℕ, ◌+◌, ◌<◌, ◌≤◌, ◌++◌, List, [], ◌∷◌, length, take, drop, map, refl, sym, ap, arith, inr, length-drop, length-take, Option, Some, None}
use Rattle.std.proofs.lemmas.List.{drop-append-le, length-map, map-append, take-append-le, take-take}
use Rattle.tm_config.specs.Configuration.{Configuration}
use Rattle.tm_conv.specs.Cost.{distance}
use Rattle.tm_conv.specs.Counts.{counts_by, counts_of, distances}
use Rattle.tm_conv.specs.Path.{path, steps_size}
use Rattle.tm_conv.specs.declared.rates.Rate.{Rate}
use Rattle.tm_conv.proofs.Paths.{length-path}
use Rattle.tm_conv.proofs.Sizes.{steps_size-add, steps_size-le, steps_size-least}
use Rattle.tm_viterbi.specs.Settings.{Settings}
use Rattle.tm_viterbi.specs.WindowBlock.{WindowBlock}
use Rattle.tm_viterbi.proofs.Closing.{kept_is}
use Rattle.tm_windows.specs.Windows.{Followed, Spot, Windows, block_counts, dropped_of, first_spot, kept_of, spot_after}
use Rattle.tm_windows.proofs.FollowedRuns.{dropped-append, kept-append}
use Rattle.tm_windows.proofs.ReadOctets.{followed-octets}
use Rattle.tm_inner.specs.Inner.{settings_of, soft_octets, soft_value, windows_of}
use Rattle.tm_inner.specs.InnerWindows.{counts_at, window_of, window_symbol, windows_after}
use Rattle.tm_inner.specs.Receiving.{AreInnerFirst, FirstAt}
use Rattle.tm_inner.specs.SymbolPlaces.{origin_by, symbols_before}
use Rattle.tm_inner.proofs.ReceivedBits.{length-soft}

-- ---- of one block

-- symbols are compared with as many octets
distances-first : (symbols octets : List ℕ)
    → distances symbols (take (length symbols) octets) ≡ distances symbols octets
distances-first [] octets = refl
distances-first (s ∷ ss) [] = refl
distances-first (s ∷ ss) (o ∷ os) = ap (λ l. distance s o ∷ l) (distances-first ss os)

counts-first : (symbols xs ys : List ℕ) (n : ℕ) → length symbols ≤ n → take n xs ≡ take n ys
    → counts_of symbols xs ≡ counts_of symbols ys
counts-first symbols xs ys n few same =
    let k = length symbols in
    let first : take k xs ≡ take k ys = sym (take-take k n xs few) ∙ ap (take k) same ∙ take-take k n ys few in
    ap counts_by (sym (distances-first symbols xs) ∙ ap (distances symbols) first ∙ distances-first symbols ys)

pub block-first : (s : Settings) (t : ℕ) (xs ys : List ℕ) (block : WindowBlock)
    → take (steps_size s.rate t block.kept) xs ≡ take (steps_size s.rate t block.kept) ys
    → block_counts s t xs block ≡ block_counts s t ys block
block-first s t xs ys block same =
    let bits = take block.kept block.bits in
    counts-first (path s.rate s.invert t block.start bits) xs ys (steps_size s.rate t block.kept)
    (omega (
      arith,
      length-path s.rate s.invert t block.start bits,
      steps_size-le s.rate t (length bits) block.kept (omega (arith, length-take block.kept block.bits)),
    )) same

-- ---- octets come after those of the kept steps

first-stays : (f : ℕ → ℕ) (k n : ℕ) (octets more : List ℕ) → k + n ≤ length octets
    → take n (map f (drop k octets)) ≡ take n (map f (drop k (octets ++ more)))
first-stays f k n octets more within =
    let here = drop k octets in
    sym (take-append-le n (map f here) (map f more)
    (omega (arith, within, length-map here f, length-drop k octets)))
    ∙ ap (take n) (sym (map-append f here more)
    ∙ ap (map f) (sym (drop-append-le k octets more (omega (arith, within)))))

pub steps-on : (rate : Rate) (t n : ℕ) → steps_size rate 0 (t + n) ≡ steps_size rate 0 t + steps_size rate t n
steps-on rate t n =
    let from : 0 + t ≡ t = omega arith in
    steps_size-add rate 0 t n ∙ ap (λ (u : ℕ). steps_size rate 0 t + steps_size rate u n) from

counts-longer : (inner : Option Rate) (c : Configuration) (octets more : List ℕ) (before : List WindowBlock)
    (x : WindowBlock) (origin : ℕ) → origin + symbols_before inner (kept_of before + x.kept) ≤ length octets
    → counts_at inner c (origin + symbols_before inner (kept_of before)) octets before x
    ≡ counts_at inner c (origin + symbols_before inner (kept_of before)) (octets ++ more) before x
counts-longer None c octets more before x origin within = refl
counts-longer (Some rate) c octets more before x origin within =
    let t = kept_of before in
    let at = origin + steps_size rate 0 t in
    let f = soft_value c in
    block-first (settings_of c rate) t (map f (drop at octets)) (map f (drop at (octets ++ more))) x
    (first-stays f at (steps_size rate t x.kept) octets more (omega (arith, within, steps-on rate t x.kept)))

-- the symbols of more blocks end later
ends-later : (inner : Option Rate) (c : Configuration) (phase d e m n : ℕ) → d ≤ e → m ≤ n
    → origin_by inner c phase d + symbols_before inner m ≤ origin_by inner c phase e + symbols_before inner n
ends-later None c phase d e m n dropped kept = omega (arith, kept)
ends-later (Some rate) c phase d e m n dropped kept = omega (arith, dropped, steps_size-le rate 0 m n kept)

windows-longer : (c : Configuration) (phase : ℕ) (octets more : List ℕ) (before blocks : List WindowBlock)
    → origin_by c.inner c phase (dropped_of before + dropped_of blocks)
    + symbols_before c.inner (kept_of before + kept_of blocks) ≤ length octets
    → windows_after c phase octets before blocks ≡ windows_after c phase (octets ++ more) before blocks
windows-longer c phase octets more before [] within = refl
windows-longer c phase octets more before (x ∷ xs) within =
    let d = dropped_of before in
    let k = kept_of before in
    let now = before ++ x ∷ [] in
    let first = ap (window_of (window_symbol c phase before x) x)
    (counts-longer c.inner c octets more before x (origin_by c.inner c phase (d + x.dropped)) (omega (
      arith,
      within,
      ends-later c.inner c phase (d + x.dropped) (d + dropped_of (x ∷ xs)) (k + x.kept) (k + kept_of (x ∷ xs))
          (omega arith) (omega arith),
    ))) in
    let rest = windows-longer c phase octets more now xs (omega (
      arith,
      within,
      ends-later c.inner c phase (dropped_of now + dropped_of xs) (d + dropped_of (x ∷ xs))
          (kept_of now + kept_of xs) (k + kept_of (x ∷ xs)) (omega (arith, dropped-append before (x ∷ [])))
          (omega (arith, kept-append before (x ∷ []))),
    )) in
    λ i. first i ∷ rest i

-- ---- the symbols of closed windows end among the octets

-- octets are left after a closed window
followed-left : (w : Windows) (from to : Spot) (x : WindowBlock) (xs : List WindowBlock)
    → Followed w from (x ∷ xs) to → 0 < length to.place.octets
followed-left w from to x [] h =
    let s = w.settings in
    let at = h.0.place in
    let kept : x.kept ≡ s.keep = h.2.0.is_block.kept ∙ kept_is s.keep s.ahead in
    let sum : s.keep + s.ahead + 1 ≡ x.kept + (s.ahead + 1) = omega (arith, kept) in
    omega (
      arith,
      ap (λ (v : Spot). length v.place.octets) h.3,
      length-drop (steps_size s.rate at.t x.kept) at.octets,
      h.2.0.room,
      ap (steps_size s.rate at.t) sum,
      steps_size-add s.rate at.t x.kept (s.ahead + 1),
      steps_size-least s.rate (at.t + x.kept) (s.ahead + 1),
    )
followed-left w from to x (y ∷ ys) h = followed-left w (spot_after w.settings h.0 x) to y ys h.3

first-ends : (inner : Option Rate) (c : Configuration) (phase : ℕ) (octets : List ℕ) (x : WindowBlock)
    (xs : List WindowBlock) → FirstAt inner c phase octets (x ∷ xs)
    → origin_by inner c phase (dropped_of (x ∷ xs)) + symbols_before inner (kept_of (x ∷ xs)) ≤ length octets
first-ends None c phase octets x xs is = absurd (omega (arith, ap length is))
first-ends (Some rate) c phase octets x xs is =
    let w = windows_of c rate in
    let soft = soft_octets c phase octets in
    let from = first_spot w soft in
    let taken = dropped_of (x ∷ xs) + steps_size rate 0 (kept_of (x ∷ xs)) in
    omega (
      arith,
      followed-left w from is.0 x xs is.1,
      ap length (followed-octets w from is.0 (x ∷ xs) (inr refl) is.1).octets,
      length-drop taken soft,
      length-soft c phase octets,
    )

pub windows-first : (c : Configuration) (phase : ℕ) (octets more : List ℕ) (blocks : List WindowBlock)
    → AreInnerFirst c phase octets blocks
    → windows_after c phase octets [] blocks ≡ windows_after c phase (octets ++ more) [] blocks
windows-first c phase octets more [] is = refl
windows-first c phase octets more (x ∷ xs) is =
    let d = dropped_of (x ∷ xs) in
    let k = kept_of (x ∷ xs) in
    windows-longer c phase octets more [] (x ∷ xs) (omega (
      arith,
      first-ends c.inner c phase octets x xs is,
      ends-later c.inner c phase (0 + d) d (0 + k) k (omega arith) (omega arith),
    ))
