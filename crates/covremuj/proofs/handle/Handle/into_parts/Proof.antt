-- `into_parts` moves two fields where the handle is open, with what they own, and keeps nothing where it is empty.
use Rattle.std.proofs.Common.{List, [], ◌∷◌, ◌++◌, Option, None, Some, refl, sym, subst, lit<}
use seplogic.Ra.Ura.{Ura}
use mir.Val.{Val, vbool, vcons, vnil}
use base.Logic.{SProp, ent, emp}
use base.Fml.{ftrue, fsep}
use prog.Memory.{Memory}
use prog.Routine.{Routine}
use prog.Wp.{WpFn, Tables}
use types.Logic.{Logic}
use contract.Monad.{Fun}
use contract.Running.{tables, tables_of}
use sound.WpLaws.{WpFn-mono}
use types.Kit.{Item, at_ret, ‵, raw, ◌⊛◌, ◌$◌, ◌∵◌, !, qed, by, move, keep, drop, use0, use1, join, split, fsplit, fjoin, suffices, rewrite, done}
use types.Part.{whole, sub, agg}
use types.Match.{live}
use types.Run.{stop, fld, lit, no_more, and_then, of_opd, first, branches, exec, returns, enter}
use types.ByLocal.{alloc_all, pass_all, free_all, look_at, get, get_in, sets, sets_last, env}
use denote.Exit.{yes}
use denote.RawPtr.{ptr_val}
use denote.Signature.{type_at}
use denote.Steps.{nothing}
use denote.Triple.Spec.{triple_of}
use denote.Triple.Table.{entered}
use denote.Triple.Walked.{says, Stays, stay_dropped, walk_of, ends_at, Goes-dropped, walk_Meets}
use Rattle.std.proofs.alloc.Shapes.{after}
use Rattle.std.proofs.option.Made.{Some-of, none_of}
use Rattle.std.proofs.ResultValues.{and_tt}
use Rattle.heap_seats.specs.contracts.seat.Seat as seat
use Rattle.std.specs.contracts.alloc.Global as heap
use Rattle.covremuj.specs.HeldSeats.{held_owns}
use Rattle.covremuj.proofs.HandleWords.{Handled, SeatParts, triple, triple_typed, ptr_typed, pair, pair_typed, held_is, none_is, handle_out, parts_in}
use Rattle.covremuj.specs.contracts.handle.Handle.into_parts as F
use Rattle.covremuj.specs.contracts.handle.Handle.into_parts.Key.{name as #self}
use Rattle.covremuj.proofs.handle.Handle.into_parts.Statement as stated
use Rattle.covremuj.proofs.handle.Handle.into_parts.Code as code

abbrev stayed : Stays (F.ended).signature.params (F.ended).kept
stayed = (stay_dropped Handled yes, tt)

module _ {M : Type 1} {𝓤 : Ura M} (𝓛 : Logic 𝓤) (at_mem : Memory → SProp 𝓤) (run : Routine → Fun 𝓤) (𝓣 : Tables 𝓤 𝓛.H) where
  open 𝓛 use {H}

  walk : (ghosts : (walk_of 𝓛 F.ended stayed (F.clauses 𝓛 at_mem run)).Ghost)
      → ent 𝓤 ((walk_of 𝓛 F.ended stayed (F.clauses 𝓛 at_mem run)).pre ghosts) (WpFn 𝓤 H 𝓣.C 𝓣.Λ code.function (ghosts.0.4.0 ++ []) ((walk_of 𝓛 F.ended stayed (F.clauses 𝓛 at_mem run)).post ghosts))
  walk ghosts =
      let Post = (walk_of 𝓛 F.ended stayed (F.clauses 𝓛 at_mem run)).post ghosts in
      let handle = ghosts.0.3.0 in
      let Out = type_at (F.signature).result tt in
      qed 𝓛 ((‵ ftrue ⊛ ‵ (fsep (((type_at Handled tt)).own_val handle ghosts.0.4.0) ftrue)) ∷ raw (emp 𝓤) ∷ []) ∵ split ! $ drop ! $ fsplit ! $
      handle_out ! handle ghosts.0.4.0 (λ heap_value words fits. keep ! (0 ∷ 1 ∷ []) $
      let handle_word : Val = triple (ptr_val handle.at) (vbool handle.is_open) heap_value in
      let Γ : List (Item 𝓤) = ‵ (held_owns handle.at handle.alloc handle.held) ∷ ‵ (heap.the_row.own_val handle.alloc (heap_value ∷ [])) ∷ [] in
      by ! (subst (λ (some_words : List Val). ent 𝓤 (types.Kit.⋆ 𝓛 Γ) (WpFn 𝓤 H 𝓣.C 𝓣.Λ code.function (some_words ++ []) Post)) (sym words)
      (qed 𝓛 Γ ∵ enter ! 𝓣.C 𝓣.Λ code.function (handle_word ∷ []) _ $ alloc_all ! (λ locals. let Ev = env code.function.locals locals in pass_all ! refl (triple_typed handle.at handle.is_open heap_value fits, tt) $
      sets ! (of_opd ! (get_in ! (fld ! refl (stop !)) (sub ! 0 refl (whole !)))) refl (ptr_typed handle.at) $ sets ! (of_opd ! (get_in ! (fld ! refl (stop !)) (sub ! 1 refl (whole !)))) refl (tt, tt) $
      sets ! (of_opd ! (get_in ! (fld ! refl (stop !)) (sub ! 2 refl (whole !)))) refl fits $ sets ! (of_opd ! (get ! refl)) refl (tt, tt) $
      first ! $ branches ! (get ! refl)
      (λ open_.
      let held_seat = held_is handle.held handle.is_open handle.told open_ in
      let made : SeatParts.Denot = record { address = handle.at; allocator = handle.alloc; inside = held_seat.0 } in
      let parts_word : Val = pair (ptr_val handle.at) heap_value in
      let typed = pair_typed handle.at heap_value fits in
      sets ! (of_opd ! (get ! refl)) refl (ptr_typed handle.at) $ sets ! (agg ! (and_then ! (get ! refl) (and_then ! (get ! refl) (no_more !)))) refl typed $
      sets_last ! (agg ! (and_then ! (lit ! tt) (and_then ! (get ! refl) (no_more !)))) refl (and_tt _ typed.0, (record { fits = lit< tt }, (typed.1, tt))) $
      exec ! 𝓣.C 𝓣.Λ Ev (after 5 code.function.body) (at_ret Ev Post) $ sets ! (of_opd ! (get ! refl)) refl (and_tt _ typed.0, (record { fits = lit< tt }, (typed.1, tt))) $
      rewrite ! 0 (λ (found_seat : Option seat.the_row.Denot). ‵ (held_owns handle.at handle.alloc found_seat)) held_seat.1 refl $ parts_in ! made heap_value $ use1 𝓛 (‵ (Out.own_val (Some made) (live 1 (vcons parts_word vnil) ∷ []))) (Some-of 𝓛 SeatParts made parts_word) $
      returns ! (look_at ! 0 refl) $ free_all ! refl $
      suffices ! _ (ends_at 𝓛 F.ended stayed (F.clauses 𝓛 at_mem run) ghosts (live 1 (vcons parts_word vnil)) (Some made) (tt, tt) (tt, tt)) $ says ! held_seat.1 $
      nothing ! $ nothing ! $ fjoin ! $ join ! $ nothing ! $ join ! $ done !)
      (λ empty_.
      sets_last ! (agg ! (and_then ! (lit ! tt) (no_more !))) refl (tt, (record { fits = lit< tt }, tt)) $
      exec ! 𝓣.C 𝓣.Λ Ev (after 5 code.function.body) (at_ret Ev Post) $ sets ! (of_opd ! (get ! refl)) refl (tt, (record { fits = lit< tt }, tt)) $
      drop ! $ drop ! $ use0 𝓛 (‵ (Out.own_val None (live 0 vnil ∷ []))) (none_of 𝓛 SeatParts) $
      returns ! (look_at ! 0 refl) $ free_all ! refl $
      suffices ! _ (ends_at 𝓛 F.ended stayed (F.clauses 𝓛 at_mem run) ghosts (live 0 vnil) None (tt, tt) (tt, tt)) $ says ! (none_is handle.held handle.is_open handle.told empty_) $
      nothing ! $ nothing ! $ fjoin ! $ join ! $ nothing ! $ join ! $ done !)))))

pub into_parts_spec : {M : Type 1} → stated.statement M
unfolding tables_of
into_parts_spec 𝓤 𝓛 𝓜 𝓡 wired =
    let 𝓣 : Tables 𝓤 𝓛.H = tables_of 𝓤 𝓛.H 𝓜 (tables 𝓤 𝓛.H 𝓜 𝓡 𝓡.env) in
    entered 𝓤 𝓛.H (triple_of 𝓛 F.signature (F.spec 𝓛 𝓜.mem 𝓡.returns)) 𝓣.C 𝓣.Λ #self code.function (code.unfolded 𝓤 𝓛.H 𝓜 𝓡 wired)
    (walk_Meets 𝓛 F.ended stayed (Goes-dropped 𝓛 0 Handled yes (λ κs x f. refl), tt) (F.clauses 𝓛 𝓜.mem 𝓡.returns) (WpFn 𝓤 𝓛.H 𝓣.C 𝓣.Λ code.function) (WpFn-mono 𝓤 𝓛.H 𝓛.laws 𝓣 code.function)
    (walk 𝓛 𝓜.mem 𝓡.returns 𝓣))
