-- `of` moves two fields, and what they own goes with them.
use mathlib.Core.Path.{refl}
use Rattle.std.specs.Prelude.{Some}
use mathlib.Core.List.{[], ◌∷◌}
use seplogic.Ra.Ura.{Ura}
use base.Logic.{SProp, emp, id⊢}
use base.Fml.{ftrue, fsep}
use prog.Memory.{Memory}
use prog.Routine.{Routine}
use prog.Wp.{WpFn, Tables}
use types.Logic.{Logic}
use contract.Monad.{Fun}
use contract.Running.{tables, tables_of}
use types.Kit.{‵, raw, ◌⊛◌, ◌$◌, ◌∵◌, !, qed, drop, use1, join, split, fsplit, fjoin, suffices, done}
use denote.Exit.{yes}
use denote.Signature.{type_at}
use denote.Steps.{nothing}
use denote.Triple.Walked.{says, ends_at, Goes-dropped, Walks}
use Rattle.std_alloc.proofs.BoxSteps.Form.{D, B, word}
use Rattle.tmchan_c.proofs.AsBox.{E, FromParts as From, gone}
use Rattle.tmchan_c.proofs.BoxWalks.{moved, of_walk}
use Rattle.tmchan_c.specs.contracts.kept.Kept.of as F
use Rattle.tmchan_c.specs.contracts.kept.Kept.of.Key.{name as #self}
use Rattle.tmchan_c.proofs.kept.Kept.of.Statement as stated
use Rattle.tmchan_c.proofs.kept.Kept.of.Code as code

module _ {M : Type 1} {𝓤 : Ura M} (𝓛 : Logic 𝓤) (at_mem : Memory → SProp 𝓤) (run : Routine → Fun 𝓤)
    (𝓣 : Tables 𝓤 𝓛.H) where
  open 𝓛 use {H}

  walk : Walks 𝓛 F.ended (gone From) (WpFn 𝓤 H 𝓣.C 𝓣.Λ code.function) (F.clauses 𝓛 at_mem run)
  walk z =
      let v : D E = record { ptr = z.0.3.0.ptr; alloc = z.0.3.0.alloc; value = z.0.3.0.value } in
      let To = type_at (F.signature).result tt in
      let made : To.Denot = record { ptr = v.ptr; alloc = v.alloc; value = Some v.value } in
      qed 𝓛 ((‵ ftrue ⊛ ‵ (fsep ((B E).own_val v z.0.4.0) ftrue)) ∷ raw (emp 𝓤) ∷ []) ∵ split ! $ drop ! $ fsplit ! $
      moved E _ _ ! 𝓣.C 𝓣.Λ v z.0.4.0 _ (λ b o hv. use1 𝓛 (‵ (To.own_val made (word E hv b o ∷ []))) (id⊢ 𝓤 _) $
      suffices ! _ (ends_at 𝓛 F.ended (gone From) (F.clauses 𝓛 at_mem run) z (word E hv b o) made (tt, tt) (tt, tt)) $
      says ! refl $ nothing ! $ nothing ! $ fjoin ! $ join ! $ nothing ! $ join ! $ done !)

pub of_spec : {M : Type 1} → stated.statement M
unfolding tables_of
of_spec 𝓤 𝓛 𝓜 𝓡 wired =
    let 𝓣 : Tables 𝓤 𝓛.H = tables_of 𝓤 𝓛.H 𝓜 (tables 𝓤 𝓛.H 𝓜 𝓡 𝓡.env) in
    of_walk 𝓛 F.ended (gone From) (Goes-dropped 𝓛 0 From yes (λ κs x f. refl), tt) (F.clauses 𝓛 𝓜.mem 𝓡.returns) 𝓣
    #self code.function (code.unfolded 𝓤 𝓛.H 𝓜 𝓡 wired) (walk 𝓛 𝓜.mem 𝓡.returns 𝓣)
