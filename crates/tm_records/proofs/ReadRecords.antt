-- Records that are read into words.
use Rattle.std.proofs.Common.{◌≡◌, ℕ, suc, ◌+◌, ◌-◌, ◌*◌, ◌≤◌, ◌<◌, ◌==◌, ◌⊎◌, inl, inr, not, List, [], ◌∷◌, length, map, take, drop, get_or, set, sym, ap, ◌∙◌, subst, arith, unwrap_or}
use Rattle.std.proofs.Math.Path.{transport}
use Rattle.std.proofs.lemmas.Bool.{cases_lt}
use Rattle.std.proofs.lemmas.List.{drop-drop, drop-take, take-take, get_or-set_other, get_or-set_same}
use Rattle.tm_gf256.specs.Octet.{element_of}
use Rattle.tm_gf256.specs.Poly.{numbers}
use Rattle.tm_rs_code.specs.Erasures.{IsNearestErased}
use Rattle.tm_rs.specs.Answers.{found_erased}
use Rattle.tm_rs.specs.declared.answers.ErasedAnswer.TheVariants.{Beyond}
use Rattle.tm_workers.specs.declared.words.ErasedWord.{ErasedWord}
use Rattle.tm_workers.specs.Batch.{EachBecomes}
use Rattle.tm_workers.specs.Words.{DecodesErased}
use Rattle.tm_records.specs.Batch.{AreRead, IsRead, nearest_in, all_nearest}
use Rattle.tm_records.specs.declared.coding.Coding.{Coding}
use Rattle.tm_records.specs.Records.{record_size, first_word, first_erased, AreFirstNearest}

-- words that were decoded hold what is nearest to the records that were read into them
pub nearest-are : (c : Coding) (octets : List ℕ) (words now : List ErasedWord) → AreRead c octets words
    → EachBecomes (DecodesErased c.params c.repair) words now
    → AreFirstNearest c octets (all_nearest c now)
nearest-are c octets [] [] read become = tt
nearest-are c octets [] (w' ∷ now) read become = absurd become
nearest-are c octets (w ∷ words) [] read become = absurd become
nearest-are c octets (w ∷ words) (w' ∷ now) read become =
    (one become.0, nearest-are c (drop (record_size c) octets) words now read.1 become.1)
  where
    one : DecodesErased c.params c.repair w w' → IsNearestErased c.params.e c.repair (first_erased c octets)
        (first_word c octets) (nearest_in c w')
    one d =
        transport (λ i. IsNearestErased c.params.e c.repair (read.0.erased i) (read.0.symbols i)
        (found_erased (sym (ap (λ o. unwrap_or o Beyond) d.answered) i) (numbers (take c.params.n w'.symbols)))) d.nearest

-- a record that was read into a word
pub record-read : (c : Coding) (index size : ℕ) (octets : List ℕ) (w : ErasedWord) → size ≡ record_size c
    → numbers (take c.params.n w.symbols) ≡ map (element_of c.basis)
    (take c.params.n (take (index * size + size - index * size) (drop (index * size) octets)))
    → take c.params.n w.erased ≡ map (λ flag. not (flag == 0))
    (drop c.params.n (take (index * size + size - index * size) (drop (index * size) octets)))
    → IsRead c (drop (index * record_size c) octets) w
record-read c index size octets w is symbols erased =
    let n = c.params.n in
    let after = drop (index * record_size c) octets in
    let long : index * size + size - index * size ≡ n + n = omega (arith, is) in
    let prefix : take (index * size + size - index * size) (drop (index * size) octets) ≡ take (n + n) after =
    λ i. take (long i) (drop (index * is i) octets) in record {
      symbols =
          symbols ∙ ap (λ l. map (element_of c.basis) (take n l)) prefix
          ∙ ap (map (element_of c.basis)) (take-take n (n + n) after (omega arith));
      erased =
          erased ∙ ap (λ l. map (λ flag. not (flag == 0)) (drop n l)) prefix
          ∙ ap (map (λ flag. not (flag == 0))) (drop-take n n after);
    }

-- each word holds the record of its number
pub read-by_number : (c : Coding) (octets : List ℕ) (words : List ErasedWord)
    → ((j : ℕ) (w : ErasedWord) → j < length words → IsRead c (drop (j * record_size c) octets) (get_or words j w))
    → AreRead c octets words
read-by_number c octets [] each = tt
read-by_number c octets (w ∷ words) each =
    let none : 0 * record_size c ≡ 0 = omega arith in (
      subst (λ (n : ℕ). IsRead c (drop n octets) w) none (each 0 w (omega arith)),
      read-by_number c (drop (record_size c) octets) words (λ j v below.
          let steps : record_size c + j * record_size c ≡ suc j * record_size c = grind arith in
          subst (λ (l : List ℕ). IsRead c l (get_or words j v))
          (ap (λ n. drop n octets) (sym steps) ∙ sym (drop-drop (j * record_size c) (record_size c) octets))
          (each (suc j) v (omega arith))),
    )

-- one more word is read
pub read-more : (c : Coding) (octets : List ℕ) (words : List ErasedWord) (index : ℕ) (now : ErasedWord)
    → index < length words
    → ((j : ℕ) (w : ErasedWord) → j < index → IsRead c (drop (j * record_size c) octets) (get_or words j w))
    → IsRead c (drop (index * record_size c) octets) now
    → (j : ℕ) (w : ErasedWord) → j < index + 1 → IsRead c (drop (j * record_size c) octets)
    (get_or (set words index now) j w)
read-more c octets words index now within read one j w below = at (cases_lt j index)
  where
    at : (j < index) ⊎ (index ≤ j) → IsRead c (drop (j * record_size c) octets) (get_or (set words index now) j w)
    at (inl before) =
        subst (IsRead c (drop (j * record_size c) octets))
        (sym (get_or-set_other words index j now w (λ e. absurd (omega arith)))) (read j w before)
    at (inr after) =
        let here : index ≡ j = omega arith in
        subst (λ (n : ℕ). IsRead c (drop (n * record_size c) octets) (get_or (set words index now) n w)) here
        (subst (IsRead c (drop (index * record_size c) octets)) (sym (get_or-set_same words index now w within)) one)
