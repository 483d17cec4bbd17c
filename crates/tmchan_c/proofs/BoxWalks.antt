-- Steps that the proofs of `Kept` and `Parts` share.
--     enter_word     a function is entered, where its one argument's machine value is known
--     moves, moved   the code of a function that moves a box's two fields from one struct to another, and its walk
--     of_walk        a function whose walk is shown meets its contract
use mathlib.Core.Path.{◌≡◌, refl, sym, subst}
use mathlib.Core.List.{List, [], ◌∷◌, ◌++◌}
use Prim.Native.Nat.{ℕ}
use seplogic.Ra.Ura.{Ura}
use mir.Syntax.{Sym, Ty, ty_ptr, ty_struct, tcons, tnil, Fn, local, value_local, place, field, copy, assign, rv_opd, aggregate, seq, return}
use mir.Val.{Val}
use base.Logic.{SProp}
use prog.Routine.{Callee}
use prog.Wp.{WpFn, Calls, Loops, Tables, Closed}
use types.Logic.{Logic}
use sound.WpLaws.{WpFn-mono}
use types.Kit.{Item, at_ret, ‵, ◌$◌, keep, Seq, Step, step, prop, runs, allocs, params'}
use types.Part.{whole, sub, agg}
use types.Run.{stop, fld, no_more, and_then, of_opd, returns, enter}
use types.ByLocal.{alloc_all, pass_all, free_all, look_at, get, get_in, sets}
use denote.Triple.Clauses.{Ended, Clauses, closing}
use denote.Triple.Spec.{Meets, triple_of}
use denote.Triple.Table.{entered}
use denote.Triple.Walked.{Stays, AllGo, Walks, walk_Meets}
use Rattle.core.proofs.alloc.Calls.{α}
use Rattle.std_alloc.proofs.BoxSteps.Form.{Bx, D, B, word, box_typed}
use Rattle.std_alloc.proofs.BoxSteps.Steps.{box_out, box_in}

module _ {M : Type 1} {𝓤 : Ura M} {𝓛 : Logic 𝓤} {K : Type 0} where
  open 𝓛 use {H}

  pub enter_word : K → {Γ : List (Item 𝓤)} (C : Calls 𝓤 H) (Λ : Loops 𝓤 H) (f : Fn) {vs : List Val} (w : Val)
      {Kf : Val → SProp 𝓤} → vs ≡ w ∷ []
      → Step K 𝓛 Γ (allocs f.locals (λ E. params' E (w ∷ []) (runs C Λ E f.body (at_ret E Kf)))) Γ
      (prop (WpFn 𝓤 H C Λ f (vs ++ []) Kf))
  enter_word t {Γ} C Λ f w {Kf} is =
      step (λ s. subst (λ (us : List Val). Seq K 𝓛 Γ (prop (WpFn 𝓤 H C Λ f (us ++ []) Kf))) (sym is)
      (enter t C Λ f (w ∷ []) Kf $ s))

module _ (E : Bx) (from to : Sym) where
  abbrev boxed : Sym → Ty
  boxed name = ty_struct name (tcons ty_ptr (tcons (α E.al) tnil))

  abbrev pub moves : Fn
  moves =
      record {
        lifetimes = 0;
        outlives = [];
        ty_params = [];
        givens = 0;
        params = 1;
        locals =
            local (boxed to) value_local ∷ local (boxed from) value_local ∷ local ty_ptr value_local
            ∷ local (α E.al) value_local ∷ local ty_ptr value_local ∷ [];
        body =
            seq (assign (place 2 []) (rv_opd (copy (place 1 (field 0 ∷ [])))))
            (seq (assign (place 3 []) (rv_opd (copy (place 1 (field 1 ∷ [])))))
            (seq (assign (place 4 []) (rv_opd (copy (place 2 []))))
            (seq (assign (place 0 []) (aggregate (copy (place 4 []) ∷ copy (place 3 []) ∷ []))) return)));
      }

  module _ {M : Type 1} {𝓤 : Ura M} {𝓛 : Logic 𝓤} {K : Type 0} where
    open 𝓛 use {H}

    pub moved : K → {Γ : List (Item 𝓤)} (C : Calls 𝓤 H) (Λ : Loops 𝓤 H) (v : D E) (vs : List Val) (Kf : Val → SProp 𝓤)
        → ((b o : ℕ) (hv : Val)
        → Seq K 𝓛 (‵ ((B E).own_val v (word E hv b o ∷ [])) ∷ []) (prop (Kf (word E hv b o))))
        → Seq K 𝓛 (‵ ((B E).own_val v vs) ∷ Γ) (prop (WpFn 𝓤 H C Λ moves (vs ++ []) Kf))
    moved t C Λ v vs Kf k =
        keep t (0 ∷ []) $ box_out E t v vs (λ b o hv e ws fa. box_in E t v b o v.value e refl $
        enter_word t C Λ moves (word E hv b o) ws $ alloc_all t
        (λ ls. pass_all t refl (box_typed E hv b o fa, tt) $
        sets t (of_opd t (get_in t (fld t refl (stop t)) (sub t 0 refl (whole t)))) refl (tt, tt) $
        sets t (of_opd t (get_in t (fld t refl (stop t)) (sub t 1 refl (whole t)))) refl fa $
        sets t (of_opd t (get t refl)) refl (tt, tt) $
        sets t (agg t (and_then t (get t refl) (and_then t (get t refl) (no_more t)))) refl
        (box_typed E hv b o fa) $ returns t (look_at t 0 refl) $ free_all t refl $ k b o hv))

module _ {M : Type 1} {𝓤 : Ura M} (𝓛 : Logic 𝓤) (T : Ended) (hs : Stays T.signature.params T.kept)
    (gs : AllGo 𝓛 T.signature.lifetimes T.signature.params T.kept hs) (c : Clauses 𝓤 T) (𝓣 : Tables 𝓤 𝓛.H) where
  open 𝓛 use {H}

  pub of_walk : (name : Callee) (f : Fn) → Closed 𝓤 H 𝓣.C 𝓣.Λ name f → Walks 𝓛 T hs (WpFn 𝓤 H 𝓣.C 𝓣.Λ f) c
      → Meets 𝓛 T.signature (𝓣.C name) (closing 𝓛 T c)
  of_walk name f unfolded walk =
      entered 𝓤 H (triple_of 𝓛 T.signature (closing 𝓛 T c)) 𝓣.C 𝓣.Λ name f unfolded
      (walk_Meets 𝓛 T hs gs c (WpFn 𝓤 H 𝓣.C 𝓣.Λ f) (WpFn-mono 𝓤 H 𝓛.laws 𝓣 f) walk)
