-- `hollow` puts null beside its allocator, and owns nothing more.
use Rattle.std.proofs.Common.{List, [], ◌∷◌, ◌++◌, None, refl, sym, subst}
use mathlib.Core.Bool.{false}
use seplogic.Ra.Ura.{Ura}
use mir.Val.{Val, vbool}
use base.Logic.{SProp, ent, emp, id⊢}
use base.Fml.{ftrue, fsep}
use prog.Memory.{Memory}
use prog.Routine.{Routine}
use prog.Wp.{WpFn, Tables}
use types.Logic.{Logic}
use contract.Monad.{Fun}
use contract.Running.{tables, tables_of}
use sound.WpLaws.{WpFn-mono}
use types.Kit.{Item, ‵, raw, ◌⊛◌, ◌$◌, ◌∵◌, !, qed, by, move, drop, use1, join, split, fsplit, fjoin, suffices, done}
use types.Part.{agg}
use types.Run.{lit, no_more, and_then, false_lit, returns, enter}
use types.ByLocal.{alloc_all, pass_all, free_all, look_at, get, sets}
use denote.Exit.{yes}
use denote.RawPtr.{null_ptr, ptr_val}
use denote.Signature.{Slot, type_at, plain}
use denote.Steps.{nothing}
use denote.Triple.Spec.{triple_of}
use denote.Triple.Table.{entered}
use denote.Triple.Walked.{says, Stays, stay_dropped, walk_of, ends_at, Goes-dropped, walk_Meets}
use Rattle.std.proofs.alloc.Calls.{handle_tells}
use Rattle.std.specs.contracts.alloc.Global as heap
use Rattle.covremuj.proofs.HandleWords.{seat_box, triple, triple_typed, handle_in}
use Rattle.covremuj.specs.contracts.handle.Handle.hollow as F
use Rattle.covremuj.specs.contracts.handle.Handle.hollow.Key.{name as #self}
use Rattle.covremuj.proofs.handle.Handle.hollow.Statement as stated
use Rattle.covremuj.proofs.handle.Handle.hollow.Code as code

abbrev Given : Slot 0
Given = plain (λ _. heap.the_row)

abbrev stayed : Stays (F.ended).signature.params (F.ended).kept
stayed = (stay_dropped Given yes, tt)

module _ {M : Type 1} {𝓤 : Ura M} (𝓛 : Logic 𝓤) (at_mem : Memory → SProp 𝓤) (run : Routine → Fun 𝓤) (𝓣 : Tables 𝓤 𝓛.H) where
  open 𝓛 use {H}

  walk : (ghosts : (walk_of 𝓛 F.ended stayed (F.clauses 𝓛 at_mem run)).Ghost)
      → ent 𝓤 ((walk_of 𝓛 F.ended stayed (F.clauses 𝓛 at_mem run)).pre ghosts) (WpFn 𝓤 H 𝓣.C 𝓣.Λ code.function (ghosts.0.4.0 ++ []) ((walk_of 𝓛 F.ended stayed (F.clauses 𝓛 at_mem run)).post ghosts))
  walk ghosts =
      let Post = (walk_of 𝓛 F.ended stayed (F.clauses 𝓛 at_mem run)).post ghosts in
      let allocator = ghosts.0.3.0 in
      let To = type_at (F.signature).result tt in
      qed 𝓛 ((‵ ftrue ⊛ ‵ (fsep (heap.the_row.own_val allocator ghosts.0.4.0) ftrue)) ∷ raw (emp 𝓤) ∷ []) ∵ split ! $ drop ! $ fsplit ! $
      handle_tells seat_box.al ! allocator ghosts.0.4.0 (λ heap_value words fits. nothing ! $
      let made : To.Denot = record { at = null_ptr; is_open = false; alloc = allocator; held = None; told = refl } in
      handle_in ! made heap_value $ use1 𝓛 (‵ (To.own_val made (triple (ptr_val null_ptr) (vbool false) heap_value ∷ []))) (id⊢ 𝓤 _) $ move ! (1 ∷ 2 ∷ []) $ drop ! $ drop ! $
      let Γ : List (Item 𝓤) = ‵ (To.own_val made (triple (ptr_val null_ptr) (vbool false) heap_value ∷ [])) ∷ [] in
      by ! (subst (λ (some_words : List Val). ent 𝓤 (types.Kit.⋆ 𝓛 Γ) (WpFn 𝓤 H 𝓣.C 𝓣.Λ code.function (some_words ++ []) Post)) (sym words)
      (qed 𝓛 Γ ∵ enter ! 𝓣.C 𝓣.Λ code.function (heap_value ∷ []) _ $ alloc_all ! (λ locals. pass_all ! refl (fits, tt) $
      sets ! (agg ! (and_then ! (lit ! tt) (and_then ! (false_lit !) (and_then ! (get ! refl) (no_more !))))) refl (triple_typed null_ptr false heap_value fits) $ returns ! (look_at ! 0 refl) $ free_all ! refl $
      suffices ! _ (ends_at 𝓛 F.ended stayed (F.clauses 𝓛 at_mem run) ghosts (triple (ptr_val null_ptr) (vbool false) heap_value) made (tt, tt) (tt, tt)) $ says ! refl $
      nothing ! $ nothing ! $ fjoin ! $ join ! $ nothing ! $ join ! $ done !))))

pub hollow_spec : {M : Type 1} → stated.statement M
unfolding tables_of
hollow_spec 𝓤 𝓛 𝓜 𝓡 wired =
    let 𝓣 : Tables 𝓤 𝓛.H = tables_of 𝓤 𝓛.H 𝓜 (tables 𝓤 𝓛.H 𝓜 𝓡 𝓡.env) in
    entered 𝓤 𝓛.H (triple_of 𝓛 F.signature (F.spec 𝓛 𝓜.mem 𝓡.returns)) 𝓣.C 𝓣.Λ #self code.function (code.unfolded 𝓤 𝓛.H 𝓜 𝓡 wired)
    (walk_Meets 𝓛 F.ended stayed (Goes-dropped 𝓛 0 Given yes (λ κs x f. refl), tt) (F.clauses 𝓛 𝓜.mem 𝓡.returns) (WpFn 𝓤 𝓛.H 𝓣.C 𝓣.Λ code.function) (WpFn-mono 𝓤 𝓛.H 𝓛.laws 𝓣 code.function)
    (walk 𝓛 𝓜.mem 𝓡.returns 𝓣))
