-- The symbols of codeblocks that are stored, as bits are passed, codeblocks kept, and batches handed over.
use Rattle.std.proofs.Common.{◌≡◌, ◌<◌, ◌≤◌, ◌^◌, ◌+◌, ◌++◌, ◌∷◌, ℕ, true, inl, inr, Bool, List, [], map, take, sym, ap, ◌∙◌, subst, arith}
use Rattle.std.specs.Option.{is_some}
use Rattle.std.proofs.lemmas.List.{map-append}
use Rattle.tm_config.specs.Configuration.{Configuration}
use Rattle.tm_conv.specs.Path.{farthest_step}
use Rattle.tm_sync.specs.Finding.{Finding}
use Rattle.tm_channel.specs.Items.{ItemValue}
use Rattle.tm_channel.specs.Origins.{AreAt, AreHandedSymbols, PlaceSymbol, origin_at, place_symbol, symbol_by}
use Rattle.tm_channel.specs.OctetReceiving.{BitReceiverStandsFor, HasSymbols, Notes}
use Rattle.tm_channel.specs.declared.bit_receiver.BitReceiver.{BitReceiver}
use Rattle.tm_channel.proofs.Symbols.{at-append}

-- bits were passed, or given, and the codeblocks that are stored are these
pub symbols-stored : (r now : BitReceiver) (count : ℕ) (at : ℕ → ℕ) → r.finder.passed ≤ now.finder.passed
    → now.batch.config ≡ r.batch.config → now.origins ≡ r.origins → AreAt at count now.batch.symbols
    → HasSymbols r count at → HasSymbols now count at
symbols-stored r now count at passed config origins stored h = record {
  stored = stored;
  left = λ n above.
      (λ i. symbol_by (config i).inner (config i) (origin_at (origins i).origins n) n)
      ∙ h.left n (omega (arith, above, passed));
  fit = h.fit;
  few = λ some. h.few (ap (λ (k : Configuration). is_some k.inner) (sym config) ∙ some);
}

-- one more is kept, of a place that was not passed
pub symbols-kept : (r now : BitReceiver) (count place origin symbol : ℕ) (at : ℕ → ℕ)
    → r.finder.passed ≤ now.finder.passed → now.batch.config ≡ r.batch.config → now.origins ≡ r.origins
    → r.finder.passed ≤ place → place < count → origin ≡ origin_at r.origins.origins place
    → ((is_some r.batch.config.inner ≡ true → place ≤ farthest_step)
    → symbol_by r.batch.config.inner r.batch.config origin place < 2 ^ 64
    → symbol ≡ symbol_by r.batch.config.inner r.batch.config origin place)
    → now.batch.symbols ≡ r.batch.symbols ++ record { place = place; symbol = symbol } ∷ []
    → HasSymbols r count at → HasSymbols now count at
symbols-kept r now count place origin symbol at passed config origins left below is says keeps h =
    let c = r.batch.config in
    let here : symbol_by c.inner c origin place ≡ at place =
    ap (λ (o : ℕ). symbol_by c.inner c o place) is ∙ h.left place left in
    let fits : symbol_by c.inner c origin place < 2 ^ 64 =
    subst (λ (n : ℕ). n < 2 ^ 64) (sym here) (h.fit place below) in
    let it : symbol ≡ at place = says (λ some. (let few = h.few some in omega (arith, few, below))) fits ∙ here in
    symbols-stored r now count at passed config origins
    (subst (AreAt at count) (sym keeps)
    (at-append at count r.batch.symbols (record { place = place; symbol = symbol } ∷ []) h.stored ((it, below), tt))) h

-- those of a batch are handed over, or none
pub symbols-handed : (r now : BitReceiver) (count : ℕ) (at : ℕ → ℕ) (items : List ItemValue)
    → now.finder ≡ r.finder → now.batch.config ≡ r.batch.config → now.origins ≡ r.origins
    → AreHandedSymbols r.batch.symbols now.batch.symbols items → HasSymbols r count at
    → HasSymbols now count at × AreAt at count (map place_symbol items)
symbols-handed r now count at items finder config origins parts h =
    let later : r.finder.passed ≤ now.finder.passed =
    (let same = ap (λ (f : Finding). f.passed) finder in omega (arith, same)) in
    elim parts as (λ _. HasSymbols now count at × AreAt at count (map place_symbol items)) [
      | inl none ↦ (
        symbols-stored r now count at later config origins (subst (AreAt at count) (sym none.1) h.stored) h,
        subst (λ (l : List ItemValue). AreAt at count (map place_symbol l)) (sym none.0) tt,
      )
      | inr all ↦ (
        symbols-stored r now count at later config origins (subst (AreAt at count) (sym all.0) tt) h,
        subst (AreAt at count) (sym all.1) h.stored,
      )
    ]

-- items and then others
pub symbols-then : (at : ℕ → ℕ) (count : ℕ) (items others : List ItemValue) → AreAt at count (map place_symbol items)
    → AreAt at count (map place_symbol others) → AreAt at count (map place_symbol (items ++ others))
symbols-then at count items others are also =
    subst (AreAt at count) (sym (map-append place_symbol items others))
    (at-append at count (map place_symbol items) (map place_symbol others) are also)

-- those of one item more
pub symbols-next : (symbols : List PlaceSymbol) (index : ℕ) (items : List ItemValue) (item : ItemValue)
    → map place_symbol items ≡ take index symbols
    → take (index + 1) symbols ≡ take index symbols ++ place_symbol item ∷ []
    → map place_symbol (items ++ item ∷ []) ≡ take (index + 1) symbols
symbols-next symbols index items item are next =
    map-append place_symbol items (item ∷ []) ∙ ap (λ l. l ++ place_symbol item ∷ []) are ∙ sym next

-- the same receiver but for its origins
pub stands-noted : (r m : BitReceiver) (bits : List Bool) → Notes r m → BitReceiverStandsFor r bits
    → BitReceiverStandsFor m bits
stands-noted r m bits notes stood = subst (λ (v : BitReceiver). BitReceiverStandsFor v bits) (sym notes) stood
