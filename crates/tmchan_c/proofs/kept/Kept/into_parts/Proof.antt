-- `into_parts` moves two fields, and what they own goes with them.
use mathlib.Core.Path.{◌≡◌, refl, sym}
use contract.Monad.{fact}
use Rattle.std.specs.Prelude.{Option, Some, None, is_some, true}
use Rattle.std.proofs.Common.{true≢false}
use Rattle.tmchan_c.specs.contracts.kept.Kept as Kept
use Rattle.tmchan_c.specs.contracts.stream.Stream as Home
use mathlib.Core.List.{[], ◌∷◌}
use seplogic.Ra.Ura.{Ura}
use base.Logic.{SProp, id⊢}
use base.Fml.{ftrue, fsep}
use prog.Memory.{Memory}
use prog.Routine.{Routine}
use prog.Wp.{WpFn, Tables}
use types.Logic.{Logic}
use contract.Monad.{Fun}
use contract.Running.{tables, tables_of}
use types.Kit.{rewrite, ‵, raw, ◌⊛◌, ◌$◌, ◌∵◌, !, qed, move, drop, use1, join, split, fsplit, fjoin, suffices, done}
use denote.Exit.{yes}
use denote.Signature.{type_at}
use denote.Steps.{nothing, heard}
use denote.Triple.Walked.{says, ends_at, Goes-dropped, Walks}
use Rattle.std_alloc.proofs.BoxSteps.Form.{D, B, word}
use Rattle.tmchan_c.proofs.AsBox.{E, FromKept as From, gone}
use Rattle.tmchan_c.proofs.BoxWalks.{moved, of_walk}
use Rattle.tmchan_c.specs.contracts.kept.Kept.into_parts as F
use Rattle.tmchan_c.specs.contracts.kept.Kept.into_parts.Key.{name as #self}
use Rattle.tmchan_c.proofs.kept.Kept.into_parts.Statement as stated
use Rattle.tmchan_c.proofs.kept.Kept.into_parts.Code as code

held : (o : Option Home.the_row.Denot) → is_some o ≡ true → (v : Home.the_row.Denot) × (o ≡ Some v)
held (Some v) e = (v, refl)
held None e = absurd (true≢false (sym e))

module _ {M : Type 1} {𝓤 : Ura M} (𝓛 : Logic 𝓤) (at_mem : Memory → SProp 𝓤) (run : Routine → Fun 𝓤)
    (𝓣 : Tables 𝓤 𝓛.H) where
  open 𝓛 use {H}

  walk : Walks 𝓛 F.ended (gone From) (WpFn 𝓤 H 𝓣.C 𝓣.Λ code.function) (F.clauses 𝓛 at_mem run)
  walk z =
      let d = z.0.3.0 in
      let M = Kept.the_row in
      let To = type_at (F.signature).result tt in
      qed 𝓛 ((‵ ftrue ⊛ ‵ (fsep (M.own_val d z.0.4.0) ftrue)) ∷ raw (fact 𝓤 (is_some d.value ≡ true)) ∷ []) ∵ move !
      (1 ∷ []) $ heard ! (is_some d.value ≡ true) (λ some.
      let found = held d.value some in
      let is : d.value ≡ Some found.0 = found.1 in
      let v : D E = record { ptr = d.ptr; alloc = d.alloc; value = found.0 } in
      let made : To.Denot = record { ptr = v.ptr; alloc = v.alloc; value = v.value } in
      split ! $ drop ! $ fsplit ! $
      rewrite ! 0 (λ (x : Option Home.the_row.Denot). ‵ (M.own_val
      (record { ptr = d.ptr; alloc = d.alloc; value = x }) z.0.4.0)) is refl $ use1 𝓛
      (‵ ((B E).own_val v z.0.4.0)) (id⊢ 𝓤 _) $
      moved E _ _ ! 𝓣.C 𝓣.Λ v z.0.4.0 _ (λ b o hv. use1 𝓛 (‵ (To.own_val made (word E hv b o ∷ []))) (id⊢ 𝓤 _) $
      suffices ! _ (ends_at 𝓛 F.ended (gone From) (F.clauses 𝓛 at_mem run) z (word E hv b o) made (tt, tt) (tt, tt)) $
      says ! is $ nothing ! $ nothing ! $ fjoin ! $ join ! $ nothing ! $ join ! $ done !))

pub into_parts_spec : {M : Type 1} → stated.statement M
unfolding tables_of
into_parts_spec 𝓤 𝓛 𝓜 𝓡 wired =
    let 𝓣 : Tables 𝓤 𝓛.H = tables_of 𝓤 𝓛.H 𝓜 (tables 𝓤 𝓛.H 𝓜 𝓡 𝓡.env) in
    of_walk 𝓛 F.ended (gone From) (Goes-dropped 𝓛 0 From yes (λ κs x f. refl), tt) (F.clauses 𝓛 𝓜.mem 𝓡.returns) 𝓣
    #self code.function (code.unfolded 𝓤 𝓛.H 𝓜 𝓡 wired) (walk 𝓛 𝓜.mem 𝓡.returns 𝓣)
