-- `none` owns nothing.
use mathlib.Core.Path.{refl}
use Rattle.std.specs.Prelude.{None}
use Rattle.tmchan_c.specs.contracts.kept.Kept as Kept
use Rattle.std_heap.specs.contracts.Global as Heap
use denote.RattleType.{Valss}
use denote.Builtin.{RawPtr}
use denote.RawPtr.{null_ptr, ptr_val}
use denote.Param.{layout}
use denote.Struct.Struct.{within}
use denote.Struct.Owning.{shape}
use Rattle.core.proofs.alloc.Calls.{handle_tells}
use Rattle.std_alloc.proofs.ResultValues.{and_tt}
use mathlib.Core.List.{List, [], ◌∷◌}
use seplogic.Ra.Ura.{Ura}
use Rattle.std.proofs.Common.{lit<}
use mathlib.Core.Bool.{true, ◌&&◌}
use lib.Dec.{T}
use Rattle.core.proofs.cell.Inside.{Good}
use mir.Val.{WT, Val, vstruct, vcons, vnil, has_ty}
use base.Logic.{SProp, emp}
use base.Fml.{ftrue, fsep}
use prog.Memory.{Memory}
use prog.Routine.{Routine}
use prog.Wp.{WpFn, Tables}
use types.Logic.{Logic}
use contract.Monad.{Fun}
use contract.Running.{tables, tables_of}
use types.Kit.{feq_i, fpack, ‵, raw, ◌⊛◌, ◌$◌, ◌∵◌, !, qed, move, drop, join, split, fsplit, fjoin, suffices, done}
use types.Part.{agg}
use types.Run.{lit, no_more, and_then, returns}
use types.ByLocal.{alloc_all, pass_all, free_all, look_at, get, sets}
use denote.Exit.{yes}
use denote.Steps.{nothing}
use denote.Triple.Walked.{says, ends_at, Goes-dropped, Walks}
use Rattle.tmchan_c.proofs.AsBox.{E, FromHeap as From, gone}
use Rattle.tmchan_c.proofs.BoxWalks.{enter_word, of_walk}
use Rattle.tmchan_c.specs.contracts.kept.Kept.none as F
use Rattle.tmchan_c.specs.contracts.kept.Kept.none.Key.{name as #self}
use Rattle.tmchan_c.proofs.kept.Kept.none.Statement as stated
use Rattle.tmchan_c.proofs.kept.Kept.none.Code as code

null_typed : (h : Val) → Good (layout Heap.the_row) h → T (has_ty (layout Heap.the_row) h && true)
    × WT (vstruct (vcons (ptr_val null_ptr) (vcons h vnil)))
null_typed h fits = (and_tt (has_ty (layout Heap.the_row) h) fits.0, (record { fits = lit< tt }, (fits.1, tt)))

module _ {M : Type 1} {𝓤 : Ura M} (𝓛 : Logic 𝓤) (at_mem : Memory → SProp 𝓤) (run : Routine → Fun 𝓤)
    (𝓣 : Tables 𝓤 𝓛.H) where
  open 𝓛 use {H}

  walk : Walks 𝓛 F.ended (gone From) (WpFn 𝓤 H 𝓣.C 𝓣.Λ code.function) (F.clauses 𝓛 at_mem run)
  walk z =
      let a = z.0.3.0 in
      let Z = Heap.the_row in
      let M = Kept.the_row in
      let made : M.Denot = record { ptr = null_ptr; alloc = a; value = None } in
      qed 𝓛 ((‵ ftrue ⊛ ‵ (fsep (Z.own_val a z.0.4.0) ftrue)) ∷ raw (emp 𝓤) ∷ []) ∵ split ! $ drop ! $ fsplit ! $
      handle_tells E.al ! a z.0.4.0 (λ hv ws fa. move ! (1 ∷ 2 ∷ []) $ drop ! $ drop ! $
      let w : Val = vstruct (vcons (ptr_val null_ptr) (vcons hv vnil)) in
      let typed = null_typed hv fa in
      enter_word ! 𝓣.C 𝓣.Λ code.function hv ws $ alloc_all ! (λ ls. pass_all ! refl (fa, tt) $
      sets ! (agg ! (and_then ! (lit ! tt) (and_then ! (get ! refl) (no_more !)))) refl typed $ returns !
      (look_at ! 0 refl) $ free_all ! refl $
      nothing ! $ move ! (1 ∷ 0 ∷ []) $ fjoin ! $ feq_i ! (List Val) (ptr_val null_ptr ∷ [])
      (ptr_val null_ptr ∷ []) refl $ fjoin ! $ feq_i ! (List Val) (w ∷ []) (w ∷ []) refl $ fjoin ! $
      fpack ! (Valss (RawPtr ∷ Z ∷ [])) (within (shape Kept.the_type) (null_ptr, (((tt, tt), tt), tt)) (w ∷ []))
      (ptr_val null_ptr ∷ [], (hv ∷ [], tt)) $ nothing ! $ move ! (1 ∷ 0 ∷ []) $ fjoin ! $
      suffices ! _ (ends_at 𝓛 F.ended (gone From) (F.clauses 𝓛 at_mem run) z w made (tt, tt) (tt, tt)) $ says ! refl $
      nothing ! $ nothing ! $ fjoin ! $ join ! $ nothing ! $ join ! $ done !))

pub none_spec : {M : Type 1} → stated.statement M
unfolding tables_of
none_spec 𝓤 𝓛 𝓜 𝓡 wired =
    let 𝓣 : Tables 𝓤 𝓛.H = tables_of 𝓤 𝓛.H 𝓜 (tables 𝓤 𝓛.H 𝓜 𝓡 𝓡.env) in
    of_walk 𝓛 F.ended (gone From) (Goes-dropped 𝓛 0 From yes (λ κs x f. refl), tt) (F.clauses 𝓛 𝓜.mem 𝓡.returns) 𝓣
    #self code.function (code.unfolded 𝓤 𝓛.H 𝓜 𝓡 wired) (walk 𝓛 𝓜.mem 𝓡.returns 𝓣)
