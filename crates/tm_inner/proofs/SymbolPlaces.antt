-- Where the symbols of received bits stand, as further blocks come.
use Rattle.std.proofs.Common.{◌≡◌, ℕ, ◌+◌, ◌-◌, ◌<◌, ◌≤◌, ◌++◌, nat_lt, Bool, true, false, if◌then◌else◌, List, [], ◌∷◌, refl, ap, arith}
use Rattle.std.proofs.lemmas.Bool.Decides.{nat_tests}
use Rattle.tm_config.specs.Configuration.{Configuration}
use Rattle.tm_viterbi.specs.WindowBlock.{WindowBlock}
use Rattle.tm_windows.specs.Windows.{dropped_to, kept_of}
use Rattle.tm_inner.specs.SymbolPlaces.{origin_by, symbols_before, symbol_at}

-- up to a window that is among the blocks nothing that comes later counts
dropped-stays : (n : ℕ) (blocks more : List WindowBlock) → n < kept_of blocks
    → dropped_to (blocks ++ more) n ≡ dropped_to blocks n
dropped-stays n [] more less = absurd (omega (arith, less))
dropped-stays n (x ∷ xs) more less =
    let others = λ (from : x.kept ≤ n). dropped-stays (n - x.kept) xs more (omega (arith, less, from)) in
    ap (λ (k : ℕ). x.dropped + k) (by_test (nat_lt n x.kept) (λ later. others (grind (arith, nat_tests))))
  where
    by_test : (within : Bool)
        → (within ≡ false → dropped_to (xs ++ more) (n - x.kept) ≡ dropped_to xs (n - x.kept))
        → (if within then 0 else dropped_to (xs ++ more) (n - x.kept))
        ≡ (if within then 0 else dropped_to xs (n - x.kept))
    by_test true is = refl
    by_test false is = is refl

pub symbol-stays : (c : Configuration) (phase n : ℕ) (blocks more : List WindowBlock) → n < kept_of blocks
    → symbol_at c phase (blocks ++ more) n ≡ symbol_at c phase blocks n
symbol-stays c phase n blocks more less =
    ap (λ (k : ℕ). origin_by c.inner c phase k + symbols_before c.inner n) (dropped-stays n blocks more less)
