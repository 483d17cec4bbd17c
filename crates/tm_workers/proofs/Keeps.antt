-- Each step of the tickets keeps their rule.
use Rattle.std.proofs.Common.{◌≡◌, ◌≢◌, ⊎_elim, ℕ, zero, suc, ◌+◌, ◌-◌, ◌%◌, ◌^◌, ◌<◌, ◌≤◌, ◌==◌, ◌||◌, nat_lt, cond, min, Bool, true, false, List, [], ◌∷◌, ◌++◌, length, get_or, set, refl, sym, ap, ◌∙◌, subst, arith, length-set, get_or-set_same}
use Rattle.std.proofs.lemmas.Bool.Decides.{nat_tests}
use mathlib.Core.Option.{none, some, some-injective, some-ne-none}
use lib.ListN.{get_elem?}
use Rattle.atomic_table.specs.Table.{State, Me, step, keeps, stepped, Allows, Splits, Joins, Final, Seen}
use Rattle.atomic_table.proofs.Lists.{at_set, at_snoc, set_again, set_else, set_here}
use Rattle.tm_workers.specs.declared.seats.View.{View}
use Rattle.tm_workers.specs.Numbers.{times, once_below, total}
use Rattle.tm_workers.specs.Drawing.{view, live_shares, Fits, HoldsWhile, Rule, drawn_at, Drew, Counted, remaining_part, cut_part, both_parts, left_view}
use Rattle.tm_workers.proofs.Sums.{total-set, total-push, total-at, total-one, times-append, once_below-more, once_below-past, once_below-min, pigeons, Tested, hit, miss, tested}

abbrev St : Type 0
St = State (Unit {0}) View

abbrev M : Type 0
M = Me (Unit {0}) View

placed : (n : ℕ) (s : St) (m id : ℕ) (me : M) (w : View) → Rule n s → HoldsWhile n m (set s.views id w)
    → Rule n (stepped s 0 m id me.1 w keeps)
placed n s m id me w r k =
    let wide = r.0 in (
      length-set s.words 0 m ∙ wide,
      subst (λ c. HoldsWhile n c (set s.views id w))
          (sym (get_or-set_same s.words 0 m 0 (omega arith))) k,
    )

times-one : (x : ℕ) (a : List ℕ) (c : ℕ) → times x (a ++ c ∷ []) ≡ times x a + cond (c == x) 1 0
times-one x a c = times-append x a (c ∷ []) ∙ omega arith

fits_later : (n c : ℕ) (v : View) → Fits n c v → Fits n (c + 1) v
fits_later n c v h = record { spent = λ e. let was = h.spent e in omega arith; knows = h.knows; idle = h.idle }

-- all views fit where the new one does
fits_set : (n c c' id : ℕ) (views : List View) (w : View) →
    ((j : ℕ) (u : View) → get_elem? views j ≡ some u → Fits n c' u) → Fits n c' w
    → (j : ℕ) (u : View) → get_elem? (set views id w) j ≡ some u → Fits n c' u
fits_set n c c' id views w others new j u at =
    ⊎_elim (λ (t : (j ≡ id) × (w ≡ u)). subst (Fits n c') t.1 new)
    (λ (t : (j ≢ id) × (get_elem? views j ≡ some u)). others j u t.1) (at_set views id j w u at)

drew_below : (n c id : ℕ) (views : List View) (v : View) → HoldsWhile n c views → get_elem? views id ≡ some v → c < n
    → 0 < v.shares → v.spent ≡ false → HoldsWhile n (c + 1)
    (set views id (view v.limit (v.drawn ++ c ∷ []) v.shares v.spent))
drew_below n c id views v k at below some_shares free =
    let w = view v.limit (v.drawn ++ c ∷ []) v.shares v.spent in
    let old = k.fits id v at in record {
      each_once = λ x.
          let sum = total-set (λ u. times x u.drawn) views id v w at in
          let was = k.each_once x in
          let one = times-one x v.drawn c in
          let more = once_below-more x c n below in
          omega arith;
      fits = fits_set n c (c + 1) id views w (λ j u there. fits_later n c u (k.fits j u there)) record {
        spent = λ e. let no : false ≡ true = sym free ∙ e in absurd (cc);
        knows = old.knows;
        idle = λ none. absurd (omega arith);
      };
      shares = let sum = total-set (λ u. u.shares) views id v w at in let was = k.shares in omega arith;
      never_wraps = let sum = total-set live_shares views id v w at in let was = k.never_wraps in omega arith;
    }

drew_past : (n c id : ℕ) (views : List View) (v : View) → HoldsWhile n c views → get_elem? views id ≡ some v → n ≤ c
    → 0 < v.shares → v.spent ≡ false → HoldsWhile n (c + 1) (set views id (view v.limit v.drawn v.shares true))
drew_past n c id views v k at past some_shares free =
    let w = view v.limit v.drawn v.shares true in
    let old = k.fits id v at in record {
      each_once = λ x.
          let sum = total-set (λ u. times x u.drawn) views id v w at in
          let was = k.each_once x in
          let more = once_below-past x c n past in
          omega arith;
      fits = fits_set n c (c + 1) id views w (λ j u there. fits_later n c u (k.fits j u there)) record {
        spent = λ e. omega arith;
        knows = old.knows;
        idle = λ none. absurd (omega arith);
      };
      shares = let sum = total-set (λ u. u.shares) views id v w at in let was = k.shares in omega arith;
      never_wraps =
          let sum = total-set live_shares views id v w at in
          let was = k.never_wraps in
          let live : live_shares v ≡ v.shares = ap (λ b. cond b 0 v.shares) free in
          let over : c + 1 - n ≡ c - n + 1 = omega arith in
          omega arith;
    }

in_range : (l : List View) (i : ℕ) (v : View) → get_elem? l i ≡ some v → i < length l
in_range [] i v e = absurd (some-ne-none v (sym e))
in_range (x ∷ xs) zero v e = omega arith
in_range (x ∷ xs) (suc i) v e = let r = in_range xs i v e in omega arith

limit_stays : (c : ℕ) (v : View) → (drawn_at c v).limit ≡ v.limit
limit_stays c v = go (nat_lt c v.limit)
  where
    go : (b : Bool) → (cond b (view v.limit (v.drawn ++ c ∷ []) v.shares v.spent)
        (view v.limit v.drawn v.shares true)).limit ≡ v.limit
    go true = refl
    go false = refl

-- no seat has drawn more than n numbers
few : (n c id : ℕ) (views : List View) (v : View) → HoldsWhile n c views → get_elem? views id ≡ some v
    → length v.drawn ≤ n
few n c id views v k at = pigeons n v.drawn (λ x.
    let mine = total-at (λ u. times x u.drawn) views id v at in
    let once = k.each_once x in
    let less : once_below x (min c n) ≤ once_below x n = once_below-min x c n in
    omega arith)

-- one draw
pub draws : (n slots id : ℕ) (me : M) → n < 2 ^ 32 → 0 < me.0.shares → me.0.limit ≡ n → me.0.spent ≡ false
    → Allows (Rule n) slots id me 0 (λ c. (c + 1) % 2 ^ 64) (Drew (step slots 0 1 0 none) me)
draws n slots id me small some_shares limit free s r _ at fits =
    let c : ℕ = get_or s.words 0 0 in
    let k = r.1 in
    let wraps = k.never_wraps in
    let n' : n < 4294967296 = small in
    let k' : c - n + total live_shares s.views ≤ 64 = k.never_wraps in
    let next : c + 1 ≡ (c + 1) % 2 ^ 64 = omega arith in
    let w : View = drawn_at c me.0 in
    let kept : HoldsWhile n (c + 1) (set s.views id w) = go c k (tested (nat_lt c me.0.limit)) in (
      w,
      keeps,
      tt,
      subst (λ m. Rule n (stepped s 0 m id me.1 w keeps)) next (placed n s (c + 1) id me w r kept),
      (
        refl,
        refl,
        subst (λ m. length w.drawn ≤ m) (sym (limit_stays c me.0 ∙ limit))
            (few n (c + 1) id (set s.views id w) w kept (set_here s.views id w (in_range s.views id me.0 at))),
      ),
    )
  where
    go : (c : ℕ) → HoldsWhile n c s.views → Tested (nat_lt c me.0.limit)
        → HoldsWhile n (c + 1) (set s.views id (drawn_at c me.0))
    go c k (hit h) =
        let below : c < n = grind (arith, nat_tests) in
        subst (λ b. HoldsWhile n (c + 1) (set s.views id (cond b
        (view me.0.limit (me.0.drawn ++ c ∷ []) me.0.shares me.0.spent)
        (view me.0.limit me.0.drawn me.0.shares true)))) (sym h)
        (drew_below n c id s.views me.0 k at below some_shares free)
    go c k (miss h) =
        let past : n ≤ c = grind (arith, nat_tests) in
        subst (λ b. HoldsWhile n (c + 1) (set s.views id (cond b
        (view me.0.limit (me.0.drawn ++ c ∷ []) me.0.shares me.0.spent)
        (view me.0.limit me.0.drawn me.0.shares true)))) (sym h)
        (drew_past n c id s.views me.0 k at past some_shares free)

-- a load that counts the shares
pub counts : (n slots id : ℕ) (me : M) → Allows (Rule n) slots id me 0 (λ c. c) (Counted (step slots 0 0 0 none) me)
counts n slots id me s r _ at fits =
    let k = r.1 in
    let most = total-at (λ v. v.shares) s.views id me.0 at in
    let all = k.shares in (
      me.0,
      keeps,
      tt,
      placed n s (get_or s.words 0 0) id me me.0 r (subst (HoldsWhile n (get_or s.words 0 0))
          (sym (set_again s.views id me.0 at)) k),
      (refl, omega arith),
    )

-- a seat is split
pub splits : (n id part : ℕ) (v : View) → 0 < part → part < v.shares
    → Splits (Rule n) id v (remaining_part part v) (cut_part part v)
splits n id part v some_part fewer s r at =
    let k = r.1 in
    let c : ℕ = get_or s.words 0 0 in
    let l = remaining_part part v in
    let o = cut_part part v in
    let mid = set s.views id l in
    let old = k.fits id v at in (
      r.0,
      record {
        each_once = λ x.
            let sum = total-set (λ u. times x u.drawn) s.views id v l at in
            let more = total-push (λ u. times x u.drawn) mid o in
            let was = k.each_once x in
            omega arith;
        fits = λ j u there. ⊎_elim
            (λ (e : get_elem? mid j ≡ some u). fits_set n c c id s.views l k.fits
            record {
              spent = old.spent;
              knows = λ h. old.knows (omega arith);
              idle = λ none. absurd (omega arith);
            } j u e)
            (λ (e : o ≡ u). subst (Fits n c) e record {
              spent = old.spent;
              knows = λ h. old.knows (omega arith);
              idle = λ none. absurd (omega arith);
            })
            (at_snoc mid o u j there);
        shares =
            let sum = total-set (λ u. u.shares) s.views id v l at in
            let more = total-push (λ u. u.shares) mid o in
            let was = k.shares in
            omega arith;
        never_wraps =
            let sum = total-set live_shares s.views id v l at in
            let more = total-push live_shares mid o in
            let was = k.never_wraps in
            let parts : live_shares l + live_shares o ≡ live_shares v = live v.spent in
            omega arith;
      },
    )
  where
    live : (b : Bool) → cond b 0 (v.shares - part) + cond b 0 part ≡ cond b 0 v.shares
    live true = refl
    live false = omega arith

-- two seats become one
pub joins : (n id other : ℕ) (v w : View) → 0 < v.shares → 0 < w.shares
    → Joins (Rule n) id v other w (both_parts v w) left_view
joins n id other v w some_shares others s r at apart there =
    let k = r.1 in
    let c : ℕ = get_or s.words 0 0 in
    let b = both_parts v w in
    let mid = set s.views id b in
    let old = k.fits id v at in
    let was_there : get_elem? s.views other ≡ some w = sym (set_else s.views id other b apart) ∙ there in
    let older = k.fits other w was_there in (
      r.0,
      record {
        each_once = λ x.
            let sum = total-set (λ u. times x u.drawn) s.views id v b at in
            let less = total-set (λ u. times x u.drawn) mid other w left_view there in
            let parts = times-append x v.drawn w.drawn in
            let was = k.each_once x in
            omega arith;
        fits = fits_set n c c other mid left_view
            (fits_set n c c id s.views b k.fits record {
              spent = λ e. either_spent v.spent w.spent old.spent
                  older.spent e;
              knows = λ h. old.knows some_shares;
              idle = λ none. absurd (omega arith);
            })
            record { spent = λ e. absurd (cc); knows = λ h. absurd (omega arith); idle = λ none. (refl, refl) };
        shares =
            let sum = total-set (λ u. u.shares) s.views id v b at in
            let less = total-set (λ u. u.shares) mid other w left_view there in
            let was = k.shares in
            omega arith;
        never_wraps =
            let sum = total-set live_shares s.views id v b at in
            let less = total-set live_shares mid other w left_view there in
            let was = k.never_wraps in
            let parts : live_shares b ≤ live_shares v + live_shares w = live v.spent w.spent in
            omega arith;
      },
    )
  where
    either_spent : (x y : Bool) {T : Type 0} → (x ≡ true → T) → (y ≡ true → T) → (x || y) ≡ true → T
    either_spent true y f g e = f refl
    either_spent false y f g e = g e

    live : (x y : Bool) → cond (x || y) 0 (v.shares + w.shares) ≤ cond x 0 v.shares + cond y 0 w.shares
    live true y = omega arith
    live false true = omega arith
    live false false = omega arith

-- the seat with all shares knows all numbers
pub closes : (n id : ℕ) (v : View) (words : List ℕ) (xs : List (Unit {0})) → Final (Seen (Rule n) id v) words xs
    → v.shares ≡ 64
    → ((x : ℕ) → times x v.drawn ≡ once_below x (min (get_or words 0 0) n)) × (v.spent ≡ true → n ≤ get_or words 0 0)
closes n id v words xs final whole =
    let s = final.0 in
    let k = final.1.0.1 in
    let at = final.1.1 in
    let same : get_or s.words 0 0 ≡ get_or words 0 0 = ap (λ l. get_or l 0 0) final.2 in (
      (λ x. sym (total-one (λ u. times x u.drawn) (λ u. u.shares) s.views id v
          (λ j u there none. ap (times x) ((k.fits j u there).idle none).0) at (k.shares ∙ sym whole))
          ∙ k.each_once x ∙ ap (λ c. once_below x (min c n)) same),
      (λ e. subst (λ c. n ≤ c) same ((k.fits id v at).spent e)),
    )

pub word_at : (words : List ℕ) (c : ℕ) → get_elem? words 0 ≡ some c → get_or words 0 0 ≡ c
word_at [] c e = absurd (some-ne-none c (sym e))
word_at (w ∷ words) c e = some-injective w c e
