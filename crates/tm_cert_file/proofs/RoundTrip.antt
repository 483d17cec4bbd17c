-- A window as octets, and back.
use Rattle.std.proofs.Common.{◌≡◌, ℕ, suc, ◌+◌, ◌*◌, ◌^◌, ◌<◌, List, [], ◌∷◌, ◌++◌, length, drop, take, refl, sym, ap, ◌∙◌, arith, append_assoc, length-append, drop-drop, take_at, drop_at, All, flat_map}
use Rattle.std.proofs.lemmas.List.Elements.{All-head, All-tail}
use Rattle.std.proofs.lemmas.Nat.{from_be_bytes-to_be_bytes_4, from_be_bytes-to_be_bytes_8}
use Rattle.tm_conv.specs.declared.rates.Rate.{Rate}
use Rattle.tm_conv.specs.Path.{steps_size}
use Rattle.tm_cert_file.specs.Window.{Window, column_octets, header_octets, window_octets, parts_in, numbers_in, columns_in, steps_in, kept_in, start_in, metric_in, window_in, window_size}
use Rattle.tm_cert_file.proofs.BigEndian.{numbers_in-column_octets}

-- ---- columns

-- 64 numbers, each of four octets
pub record IsWide (column : List ℕ) : Type 0 where
  pub long : length column ≡ 64
  pub each : All (λ n. n < 2 ^ 32) column

length-column_octets : (column : List ℕ) → length (column_octets column) ≡ 4 * length column
length-column_octets [] = refl
length-column_octets (n ∷ column) =
    let h : length (column_octets (n ∷ column)) ≡ suc (suc (suc (suc (length (column_octets column))))) = refl in
    let k : length (n ∷ column) ≡ suc (length column) = refl in
    omega (arith, h, k, length-column_octets column)

length-columns : (columns : List (List ℕ)) → All IsWide columns
    → length (flat_map column_octets columns) ≡ 256 * length columns
length-columns [] wide = refl
length-columns (column ∷ columns) wide =
    let here = All-head IsWide column columns wide in
    let others = length-columns columns (All-tail IsWide column columns wide) in
    omega (
      arith,
      length-append (column_octets column) (flat_map column_octets columns),
      here.long,
      length-column_octets column,
    )

columns-back : (columns : List (List ℕ)) (rest : List ℕ) → All IsWide columns
    → columns_in (length columns) (flat_map column_octets columns ++ rest) ≡ columns
unfolding parts_in
columns-back [] rest wide = refl
columns-back (column ∷ columns) rest wide =
    let here = All-head IsWide column columns wide in
    let others = flat_map column_octets columns ++ rest in
    let whole = append_assoc (column_octets column) (flat_map column_octets columns) rest in
    let first : numbers_in 64 (column_octets column ++ others) ≡ column =
    ap (λ k. numbers_in k (column_octets column ++ others)) (sym here.long)
    ∙ numbers_in-column_octets column others here.each in
    let after = ap (columns_in (length columns)) (drop_at (column_octets column) others 256
    (omega (arith, length-column_octets column, here.long)))
    ∙ columns-back columns rest (All-tail IsWide column columns wide) in
    (λ i. numbers_in 64 (whole i) ∷ columns_in (length columns) (drop 256 (whole i))) ∙ (λ i. first i ∷ after i)

-- ---- a window

-- its numbers are those of their octets, and its parts are those of its steps
pub record IsWritten (rate : Rate) (t : ℕ) (w : Window) : Type 0 where
  pub steps : w.steps < 2 ^ 32
  pub kept : w.kept < 2 ^ 32
  pub metric : w.metric < 2 ^ 64
  pub bits : length w.bits ≡ w.steps
  pub octets : length w.octets ≡ steps_size rate t w.steps
  pub count : length w.columns ≡ w.steps + 1
  pub columns : All IsWide w.columns

-- a part of octets, and what is after it
part_at : (place size : ℕ) (all xs ys : List ℕ) → drop place all ≡ xs ++ ys → length xs ≡ size
    → (take size (drop place all) ≡ xs) × (drop (place + size) all ≡ ys)
part_at place size all xs ys is long = (
  ap (take size) is ∙ take_at xs ys size long,
  sym (drop-drop size place all) ∙ ap (drop size) is ∙ drop_at xs ys size long,
)

-- of octets whose numbers are given by equations, so that no goal shows how they are read
back : (rate : Rate) (t : ℕ) (all rest : List ℕ) (w : Window) → IsWritten rate t w → steps_in all ≡ w.steps
    → kept_in all ≡ w.kept → start_in all ≡ w.start → metric_in all ≡ w.metric
    → drop 17 all ≡ w.bits ++ (w.octets ++ (flat_map column_octets w.columns ++ rest)) → window_in rate t all ≡ w
back rate t all rest w h steps kept start metric tail =
    let columns = flat_map column_octets w.columns ++ rest in
    let bits = part_at 17 (steps_in all) all w.bits (w.octets ++ columns) tail (h.bits ∙ sym steps) in
    let soft = part_at (17 + steps_in all) (steps_size rate t (steps_in all)) all w.octets columns bits.1
    (h.octets ∙ ap (steps_size rate t) (sym steps)) in
    let count : steps_in all + 1 ≡ length w.columns = omega (arith, steps, h.count) in
    λ i. record {
      steps = steps i;
      kept = kept i;
      start = start i;
      metric = metric i;
      bits = bits.0 i;
      octets = soft.0 i;
      columns = ((λ i. columns_in (count i) (soft.1 i)) ∙ columns-back w.columns rest h.columns) i;
    }

-- the window that its octets begin with
pub window-back : (rate : Rate) (t : ℕ) (w : Window) (rest : List ℕ) → IsWritten rate t w
    → window_in rate t (window_octets w ++ rest) ≡ w
window-back rate t w rest h =
    back rate t (window_octets w ++ rest) rest w h (from_be_bytes-to_be_bytes_4 w.steps h.steps)
    (from_be_bytes-to_be_bytes_4 w.kept h.kept) refl (from_be_bytes-to_be_bytes_8 w.metric h.metric)
    (append_assoc (w.bits ++ w.octets) (flat_map column_octets w.columns) rest
    ∙ append_assoc w.bits w.octets (flat_map column_octets w.columns ++ rest))

pub length-window_octets : (rate : Rate) (t : ℕ) (w : Window) → IsWritten rate t w
    → length (window_octets w) ≡ window_size rate t w.steps
length-window_octets rate t w h =
    let head = header_octets w.steps w.kept w.start w.metric in
    let header : length head ≡ 17 = refl in
    let columns = flat_map column_octets w.columns in
    omega (
      arith,
      header,
      length-append ((head ++ w.bits) ++ w.octets) columns,
      length-append (head ++ w.bits) w.octets,
      length-append head w.bits,
      h.bits,
      h.octets,
      h.count,
      length-columns w.columns h.columns,
    )
