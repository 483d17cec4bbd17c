-- Laws of the columns of a block.
use Rattle.std.proofs.Common.{◌≡◌, ◌≢◌, ℕ, zero, suc, ◌+◌, ◌-◌, ◌*◌, ◌/◌, ◌%◌, ◌<◌, ◌≤◌, List, [], ◌∷◌, ◌++◌, length, get_or, set, take, refl, sym, ap, ◌∙◌, arith, suc-mul, mul-suc, mul-zero, zero-mul, mul_comm, mod-lt, mul-le-mul_right, mod-eq_of_lt}
use Rattle.std.proofs.Math.Nat.{add-mul-mod_self_right, add-mul-div_right, div-eq_of_lt}
use Rattle.std.proofs.Math.Seq.{take-suc, take-length}
use Rattle.std.proofs.lemmas.Nat.{div-add-mod'}
use Rattle.std.proofs.lemmas.List.{ext_get_or}
use Rattle.std.proofs.lemmas.List.FromFn.{get_or-map-range_with_len, length-map-range_with_len}
use Rattle.tm_codeblock.specs.Column.{column}
use Rattle.tm_codeblock.specs.Interleaved.{interleaved, all_columns}

-- symbol k of a column
pub get_or-column : {X : Type 0} (depth i : ℕ) (block : List X) (k : ℕ) (d : X) → 0 < depth
    → get_or (column depth i block) k d ≡ get_or block (i + k * depth) d
get_or-column depth i [] k d some = refl
get_or-column depth zero (x ∷ block) zero d some =
    let first : 0 + 0 * depth ≡ 0 = omega arith in ap (λ n. get_or (x ∷ block) n d) (sym first)
get_or-column depth zero (x ∷ block) (suc k) d some =
    let next : suc (depth - 1 + k * depth) ≡ 0 + suc k * depth = omega (arith, suc-mul k depth) in
    get_or-column depth (depth - 1) block k d some ∙ ap (λ n. get_or (x ∷ block) n d) next
get_or-column depth (suc i) (x ∷ block) k d some =
    let next : suc (i + k * depth) ≡ suc i + k * depth = omega arith in
    get_or-column depth i block k d some ∙ ap (λ n. get_or (x ∷ block) n d) next

long : {X : Type 0} (depth i : ℕ) (block : List X) (n : ℕ) → i < depth → depth * n ≤ length block + (depth - 1 - i)
    → length block + (depth - 1 - i) < depth * n + depth → length (column depth i block) ≡ n
long depth i [] zero below least most = refl
long depth i [] (suc n) below least most = absurd (omega (arith, mul-suc depth n))
long depth zero (x ∷ block) zero below least most = absurd (omega (arith, mul-zero depth))
long depth zero (x ∷ block) (suc n) below least most =
    let more = mul-suc depth n in
    ap suc (long depth (depth - 1) block n (omega arith) (omega (arith, more)) (omega (arith, more)))
long depth (suc i) (x ∷ block) n below least most = long depth i block n (omega arith) (omega arith) (omega arith)

-- each of the columns of a block of `depth * size` symbols has `size` symbols
pub length-column : {X : Type 0} (depth size i : ℕ) (block : List X) → i < depth → length block ≡ depth * size
    → length (column depth i block) ≡ size
length-column depth size i block below whole = long depth i block size below (omega arith) (omega arith)

-- after the block the columns go on at j
goes_on : {X : Type 0} (depth i j rounds : ℕ) (prefix back : List X) → i < depth → j < depth
    → j + length prefix ≡ i + rounds * depth
    → column depth i (prefix ++ back) ≡ column depth i prefix ++ column depth j back
goes_on depth i j zero [] back below within meets =
    let same : i ≡ j = omega (arith, zero-mul depth) in ap (λ n. column depth n back) same
goes_on depth i j (suc rounds) [] back below within meets = absurd (omega (arith, suc-mul rounds depth))
goes_on depth zero j zero (x ∷ prefix) back below within meets = absurd (omega (arith, zero-mul depth))
goes_on depth zero j (suc rounds) (x ∷ prefix) back below within meets =
    ap (λ l. x ∷ l) (goes_on depth (depth - 1) j rounds prefix back (omega arith) within
    (omega (arith, suc-mul rounds depth)))
goes_on depth (suc i) j rounds (x ∷ prefix) back below within meets =
    goes_on depth i j rounds prefix back (omega arith) within (omega arith)

-- the columns of whole rows and of what follows them
pub column-append : {X : Type 0} (depth rows i : ℕ) (prefix back : List X) → i < depth → length prefix ≡ depth * rows
    → column depth i (prefix ++ back) ≡ column depth i prefix ++ column depth i back
column-append depth rows i prefix back below whole =
    goes_on depth i i rows prefix back below below (omega (arith, mul_comm depth rows))

-- symbol m of a block stands in column m % depth
pub get_or-block : {X : Type 0} (depth : ℕ) (block : List X) (m : ℕ) (d : X) → 0 < depth
    → get_or (column depth (m % depth) block) (m / depth) d ≡ get_or block m d
get_or-block depth block m d some =
    get_or-column depth (m % depth) block (m / depth) d some
    ∙ ap (λ n. get_or block n d) (let whole = div-add-mod' m depth in omega (arith, whole))

-- two blocks of one length whose columns are the same are the same
pub same_columns : {X : Type 0} (depth : ℕ) (xs ys : List X) → 0 < depth → length xs ≡ length ys
    → ((i : ℕ) → i < depth → column depth i xs ≡ column depth i ys) → xs ≡ ys
same_columns depth [] [] some long same = refl
same_columns depth [] (y ∷ ys) some long same = absurd (omega arith)
same_columns depth (x ∷ xs) ys some long same =
    ext_get_or x (x ∷ xs) ys long (λ m within.
    sym (get_or-block depth (x ∷ xs) m x some)
    ∙ ap (λ l. get_or l (m / depth) x) (same (m % depth) (mod-lt m some))
    ∙ get_or-block depth ys m x some)

pub length-interleaved : (depth size : ℕ) (columns : List (List ℕ))
    → length (interleaved depth size columns) ≡ depth * size
length-interleaved depth size columns =
    length-map-range_with_len (λ m. get_or (get_or columns (m % depth) []) (m / depth) 0) 0 (depth * size)

-- the columns of an interleaved block are those that it was made of
pub column-interleaved : (depth size i : ℕ) (columns : List (List ℕ)) → i < depth
    → length (get_or columns i []) ≡ size → column depth i (interleaved depth size columns) ≡ get_or columns i []
column-interleaved depth size i columns below whole =
    ext_get_or 0 (column depth i (interleaved depth size columns)) (get_or columns i []) (size_of ∙ sym whole)
    (λ k within. symbol k (omega (arith, size_of)))
  where
    size_of : length (column depth i (interleaved depth size columns)) ≡ size
    size_of = length-column depth size i (interleaved depth size columns) below (length-interleaved depth size columns)

    symbol : (k : ℕ) → k < size → get_or (column depth i (interleaved depth size columns)) k 0
        ≡ get_or (get_or columns i []) k 0
    symbol k within =
        let some : 0 < depth = omega arith in
        let next : suc k ≤ size = omega arith in
        let room : i + k * depth < depth * size = omega (
          arith,
          mul-le-mul_right depth next,
          suc-mul k depth,
          mul_comm depth size,
        ) in
        let rest : (i + k * depth) % depth ≡ i = add-mul-mod_self_right i k depth ∙ mod-eq_of_lt below in
        let place : (i + k * depth) / depth ≡ k = add-mul-div_right i k some ∙ omega (arith, div-eq_of_lt below) in
        get_or-column depth i (interleaved depth size columns) k 0 some
        ∙ get_or-map-range_with_len (λ m. get_or (get_or columns (m % depth) []) (m / depth) 0) 0 (depth * size)
        (i + k * depth) (i + k * depth) 0 room (omega arith)
        ∙ (λ t. get_or (get_or columns (rest t) []) (place t) 0)

-- the columns of a block, interleaved, are the block
pub interleaved-all_columns : (depth size : ℕ) (block : List ℕ) → 0 < depth → length block ≡ depth * size
    → interleaved depth size (all_columns depth block) ≡ block
interleaved-all_columns depth size block some whole =
    ext_get_or 0 (interleaved depth size (all_columns depth block)) block
    (length-interleaved depth size (all_columns depth block) ∙ sym whole) (λ m within.
    get_or-map-range_with_len (λ m. get_or (get_or (all_columns depth block) (m % depth) []) (m / depth) 0) 0
    (depth * size) m m 0 (omega (arith, length-interleaved depth size (all_columns depth block))) (omega arith)
    ∙ ap (λ l. get_or l (m / depth) 0) (get_or-map-range_with_len (λ i. column depth i block) 0 depth (m % depth)
    (m % depth) [] (mod-lt m some) (omega arith))
    ∙ get_or-block depth block m 0 some)

-- a symbol written into its column
pub column-set : {X : Type 0} (depth i k place : ℕ) (block : List X) (symbol : X) → 0 < depth → place ≡ i + k * depth
    → column depth i (set block place symbol) ≡ set (column depth i block) k symbol
column-set depth i k place [] symbol some is = refl
column-set depth zero zero zero (x ∷ block) symbol some is = refl
column-set depth zero zero (suc place) (x ∷ block) symbol some is = absurd (omega (arith, zero-mul depth))
column-set depth zero (suc k) zero (x ∷ block) symbol some is = absurd (omega (arith, suc-mul k depth))
column-set depth zero (suc k) (suc place) (x ∷ block) symbol some is =
    ap (λ l. x ∷ l) (column-set depth (depth - 1) k place block symbol some (omega (arith, suc-mul k depth)))
column-set depth (suc i) k zero (x ∷ block) symbol some is = absurd (omega arith)
column-set depth (suc i) k (suc place) (x ∷ block) symbol some is =
    column-set depth i k place block symbol some (omega arith)

-- it changes no other column
pub column-set_other : {X : Type 0} (depth i j k place : ℕ) (block : List X) (symbol : X) → i < depth → j < depth
    → j ≢ i → place ≡ i + k * depth → column depth j (set block place symbol) ≡ column depth j block
column-set_other depth i j k place [] symbol below within other is = refl
column-set_other depth zero zero k place (x ∷ block) symbol below within other is = absurd (other refl)
column-set_other depth zero (suc j) zero zero (x ∷ block) symbol below within other is = refl
column-set_other depth zero (suc j) zero (suc place) (x ∷ block) symbol below within other is =
    absurd (omega (arith, zero-mul depth))
column-set_other depth zero (suc j) (suc k) zero (x ∷ block) symbol below within other is =
    absurd (omega (arith, suc-mul k depth))
column-set_other depth zero (suc j) (suc k) (suc place) (x ∷ block) symbol below within other is =
    column-set_other depth (depth - 1) j k place block symbol (omega arith) (omega arith) (omega arith)
    (omega (arith, suc-mul k depth))
column-set_other depth (suc i) j k zero (x ∷ block) symbol below within other is = absurd (omega arith)
column-set_other depth (suc i) zero k (suc place) (x ∷ block) symbol below within other is =
    ap (λ l. x ∷ l) (column-set_other depth i (depth - 1) k place block symbol (omega arith) (omega arith)
    (omega arith) (omega arith))
column-set_other depth (suc i) (suc j) k (suc place) (x ∷ block) symbol below within other is =
    column-set_other depth i j k place block symbol (omega arith) (omega arith) (omega arith) (omega arith)

-- one symbol more of a column
pub take-column : (depth size i k : ℕ) (block : List ℕ) → i < depth → length block ≡ depth * size → k < size
    → take (k + 1) (column depth i block) ≡ take k (column depth i block) ++ get_or block (k * depth + i) 0 ∷ []
take-column depth size i k block below whole within =
    let some : 0 < depth = omega arith in
    let one : k + 1 ≡ suc k = omega arith in
    let place : i + k * depth ≡ k * depth + i = omega arith in
    ap (λ n. take n (column depth i block)) one
    ∙ take-suc (column depth i block) k 0 (omega (arith, length-column depth size i block below whole))
    ∙ ap (λ x. take k (column depth i block) ++ x ∷ []) (get_or-column depth i block k 0 some
    ∙ ap (λ n. get_or block n 0) place)

-- lists whose prefixes of their whole length are the same are the same
pub same_whole : (k : ℕ) (xs ys : List ℕ) → length xs ≡ k → length ys ≡ k → take k xs ≡ take k ys → xs ≡ ys
same_whole k xs ys long as_long same =
    sym (take-length xs) ∙ ap (λ n. take n xs) long ∙ same ∙ ap (λ n. take n ys) (sym as_long) ∙ take-length ys
