-- The columns of a codeblock, read into words, and a frame written from words.
use Rattle.std.proofs.Common.{◌≢◌, ◌≡◌, ℕ, zero, suc, ◌+◌, ◌<◌, ◌≤◌, ◌*◌, List, [], ◌∷◌, length, map, take, get_or, refl, sym, ap, ◌∙◌, arith, subst, None, unwrap_or, ◌⊎◌, inl, inr, drop}
use Rattle.std.specs.List.{range_with_len}
use Rattle.std.proofs.lemmas.List.{take_all, take_at, take-map, take-append-drop}
use Rattle.std.proofs.lemmas.List.FromFn.{get_or-map-range_with_len}
use Rattle.tm_base.specs.Bits.{AreOctets}
use Rattle.tm_config.specs.Configuration.{Configuration, data_length, word_length, correctable}
use Rattle.tm_config.proofs.Choices.{uncoded_false}
use Rattle.tm_config.specs.declared.values.OuterCode.TheVariants.{Uncoded}
use Rattle.tm_gf256.specs.Octet.{element_of, sent_octet}
use Rattle.tm_gf256.specs.declared.basis.Basis.{Basis}
use Rattle.tm_gf256.proofs.Sixteens.{numbers-take}
use Rattle.tm_gf256.specs.Poly.{numbers}
use Rattle.tm_codeblock.specs.Column.{column}
use Rattle.tm_codeblock.specs.Interleaved.{interleaved}
use Rattle.tm_codeblock.proofs.Codeblocks.{sent-read}
use Rattle.tm_codeblock.proofs.ColumnLaws.{same_columns, column-append, column-interleaved, length-interleaved, length-column}
use Rattle.tm_workers.specs.declared.words.Word.{Word}
use Rattle.tm_codeblock.specs.ReceivedCodeblock.{received_column, received_columns, data_octets, frame_of}
use Rattle.tm_rs.specs.Answers.{found}
use Rattle.tm_rs.specs.declared.answers.Answer.{Answer}
use Rattle.tm_rs.specs.declared.answers.Answer.TheVariants.{Beyond, Fixed}
use Rattle.tm_rs_code.specs.Nearest.{IsNearest}
use Rattle.tm_rs_code.proofs.DistanceLaw.{same_of_distance}
use Rattle.tm_channel.specs.ColumnWords.{symbols_of, all_symbols}
use Rattle.tm_channel.specs.Items.{AreNearest, IsRepaired}
use Rattle.tm_channel.specs.Storing.{IsDecoded, answers_of}
use Rattle.tm_channel.proofs.SentCodeblocks.{AreOctets-column}

-- the first symbols of words
abbrev pub first_symbols : ℕ → List Word → List (List ℕ)
first_symbols size words = map (λ (w : Word). numbers (take size w.symbols)) words

-- what an index after the last word gives
abbrev pub no_word : Word
no_word = record { symbols = []; answer = None }

-- the first symbols of one of the words, as they are sent
abbrev pub sent_column : Basis → ℕ → List Word → ℕ → List ℕ
sent_column basis size words i =
    map (sent_octet basis) (numbers (take size (get_or words i no_word).symbols))

-- columns as elements
abbrev pub column_elements : Basis → ℕ → List ℕ → ℕ → List ℕ
column_elements basis depth codeblock j = map (element_of basis) (column depth j codeblock)

pub all-read : (c : Configuration) (codeblock : List ℕ) (words : List Word) (basis : Basis) (depth size : ℕ)
    → c.code ≢ Uncoded → depth ≡ c.depth → size ≡ word_length c → basis ≡ c.basis → length words ≡ depth
    → first_symbols size (take depth words) ≡ map (column_elements basis depth codeblock) (range_with_len 0 depth)
    → all_symbols c words ≡ received_columns c codeblock
unfolding received_columns
all-read c codeblock words basis depth size coded by_depth by_size by_basis long read = rw
    (uncoded_false c.code coded) (
    ap (first_symbols (word_length c)) (sym (take_all depth words (omega arith)))
    ∙ (λ i. first_symbols (sym by_size i) (take depth words)) ∙ read
    ∙ (λ i. map (column_elements (by_basis i) (by_depth i) codeblock) (range_with_len 0 (by_depth i))))

take-less : (few many : ℕ) (xs : List ℕ) → few ≤ many → take few (take many xs) ≡ take few xs
take-less zero many xs le = refl
take-less (suc few) zero xs le = absurd (omega arith)
take-less (suc few) (suc many) [] le = refl
take-less (suc few) (suc many) (x ∷ xs) le = ap (λ l. x ∷ l) (take-less few many xs (omega arith))

get_or-words : (f : Word → List ℕ) (words : List Word) (i : ℕ) (d : Word) → i < length words
    → get_or (map f words) i [] ≡ f (get_or words i d)
get_or-words f [] i d below = absurd (omega arith)
get_or-words f (w ∷ words) zero d below = refl
get_or-words f (w ∷ words) (suc i) d below = get_or-words f words i d (omega arith)

map-both : (c : Configuration) (words : List Word) → map (data_octets c) (all_symbols c words)
    ≡ map (λ (w : Word). data_octets c (symbols_of c w)) words
map-both c [] = refl
map-both c (w ∷ words) = ap (λ l. data_octets c (symbols_of c w) ∷ l) (map-both c words)

at_most : (a b : ℕ) → a ≤ a + b
at_most a b = omega arith

data-is : (c : Configuration) (basis : Basis) (size : ℕ) (w : Word) → size ≡ data_length c → basis ≡ c.basis
    → map (sent_octet basis) (numbers (take size w.symbols)) ≡ data_octets c (symbols_of c w)
data-is c basis size w by_size by_basis =
    (λ k. map (sent_octet (by_basis k)) (numbers (take (by_size k) w.symbols)))
    ∙ ap (map (sent_octet c.basis)) (numbers-take (data_length c) w.symbols
    ∙ sym (ap (take (data_length c)) (numbers-take (word_length c) w.symbols)
    ∙ take-less (data_length c) (word_length c) (numbers w.symbols) (at_most (data_length c) (2 * correctable c.code))))

pub all-written : (c : Configuration) (codeblock : List ℕ) (words : List Word) (basis : Basis) (depth size : ℕ)
    (frame : List ℕ) → c.code ≢ Uncoded → 0 < c.depth → depth ≡ c.depth → size ≡ data_length c → basis ≡ c.basis
    → length words ≡ c.depth → length frame ≡ c.depth * data_length c
    → ((i : ℕ) → i < depth → column depth i frame ≡ sent_column basis size words i)
    → frame ≡ frame_of c codeblock (all_symbols c words)
unfolding frame_of
all-written c codeblock words basis depth size frame coded some by_depth by_size by_basis long room written = rw
    (uncoded_false c.code coded) (
    same_columns c.depth frame (interleaved c.depth (data_length c) columns) some
    (room ∙ sym (length-interleaved c.depth (data_length c) columns))
    (λ i below. at i below ∙ sym (column-interleaved c.depth (data_length c) i columns below
    (ap length (sym (at i below)) ∙ length-column c.depth (data_length c) i frame below room))))
  where
    columns : List (List ℕ)
    columns = map (data_octets c) (all_symbols c words)

    at : (i : ℕ) → i < c.depth → column c.depth i frame ≡ get_or columns i []
    at i below =
        (λ k. column (sym by_depth k) i frame) ∙ written i (subst (λ n. i < n) (sym by_depth) below)
        ∙ data-is c basis size (get_or words i no_word) by_size by_basis
        ∙ sym (get_or-words (λ (w : Word). data_octets c (symbols_of c w)) words i no_word
        (subst (λ n. i < n) (sym long) below))
        ∙ ap (λ (l : List (List ℕ)). get_or l i []) (sym (map-both c words))

-- ---- columns in which nothing was repaired

-- what is said of one of the words
word-at : (c : Configuration) (columns : List (List ℕ)) (words : List Word) (i : ℕ) (d : Word)
    → AreNearest c columns (answers_of words) (all_symbols c words) → i < length words
    → IsRepaired c (get_or columns i []) (unwrap_or (get_or words i d).answer Beyond)
    (symbols_of c (get_or words i d))
word-at c columns [] i d are below = absurd (omega (arith, below))
word-at c [] (w ∷ words) i d are below = absurd are
word-at c (column ∷ columns) (w ∷ words) zero d are below = are.0
word-at c (column ∷ columns) (w ∷ words) (suc i) d are below =
    word-at c columns words i d are.1 (omega (arith, below))

-- one in which no symbol was repaired is the column that was received
as-received : (c : Configuration) (column word : List ℕ) (answer : Answer)
    → IsRepaired c column answer word → (answer ≡ Beyond) ⊎ (answer ≡ Fixed 0) → word ≡ column
as-received c column word answer is (inl beyond) = is.left beyond
as-received c column word answer is (inr fixed) =
    let near = subst (λ a. IsNearest (correctable c.code) c.repair column (found a word)) fixed
    is.nearest in
    same_of_distance word column near.0.size near.1

-- the data of a column that was received stand in the codeblock's first octets
received-data : (c : Configuration) (codeblock : List ℕ) (i n : ℕ) → AreOctets codeblock
    → i < c.depth → length (take n codeblock) ≡ c.depth * data_length c
    → data_octets c (received_column c codeblock i) ≡ column c.depth i (take n codeblock)
received-data c codeblock i n are below long =
    let size = data_length c in
    sym (take-map (sent_octet c.basis) size (received_column c codeblock i))
    ∙ ap (take size) (sent-read c.basis (column c.depth i codeblock)
    (AreOctets-column c.depth i codeblock are)
    ∙ ap (column c.depth i) (sym (take-append-drop n codeblock))
    ∙ column-append c.depth size i (take n codeblock) (drop n codeblock) below long)
    ∙ take_at (column c.depth i (take n codeblock)) (column c.depth i (drop n codeblock)) size
    (length-column c.depth size i (take n codeblock) below long)

-- such a column is written by leaving the codeblock's octets in the frame
pub left-column : (c : Configuration) (codeblock : List ℕ) (words : List Word) (basis : Basis)
    (depth size i n : ℕ) (frame : List ℕ) → c.code ≢ Uncoded → depth ≡ c.depth
    → size ≡ data_length c → basis ≡ c.basis → AreOctets codeblock → length words ≡ c.depth
    → frame ≡ take n codeblock → length frame ≡ c.depth * data_length c
    → IsDecoded c codeblock words → i < depth
    → (unwrap_or (get_or words i no_word).answer Beyond ≡ Beyond)
    ⊎ (unwrap_or (get_or words i no_word).answer Beyond ≡ Fixed 0)
    → column depth i frame ≡ sent_column basis size words i
unfolding received_columns
left-column c codeblock words basis depth size i n frame coded by_depth by_size by_basis are long
    first room decoded below clean =
    let word = get_or words i no_word in
    let within : i < c.depth = subst (λ n. i < n) by_depth below in
    let columns = map (received_column c codeblock) (range_with_len 0 c.depth) in
    let nearest = word-at c columns words i no_word (rw (uncoded_false c.code coded) at decoded)
    (omega (arith, long, within)) in
    (λ k. column (by_depth k) i (first k))
    ∙ sym (received-data c codeblock i n are within (ap length (sym first) ∙ room))
    ∙ ap (data_octets c) (sym (get_or-map-range_with_len (received_column c codeblock) 0 c.depth i
    i [] within (omega arith)) ∙ sym (as-received c (get_or columns i []) (symbols_of c word)
    (unwrap_or word.answer Beyond) nearest clean))
    ∙ sym (data-is c basis size word by_size by_basis)
