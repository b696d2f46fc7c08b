-- `of_box`: std's call tells the address and the allocator as a pair, and owns through it what the box owned; the pair's fields become ours.
use mathlib.Core.Path.{◌≡◌, refl, sym, subst, ap, ◌∙◌}
use mathlib.Core.List.{List, [], ◌∷◌, ◌++◌}
use seplogic.Ra.Ura.{Ura}
use mir.Syntax.{Fn, Args, Dict, a_type, dcons, dnil}
use mir.MapTy.{inst_fn}
use mir.Raw.{raw as bare}
use mir.Val.{Val, vstruct, of_list}
use base.Logic.{SProp, ent, id⊢, never, fst∗}
use base.Fml.{ftrue, fsep, flft}
use contract.BorrowLft.{◌⊑◌}
use contract.Monad.{Fun, fact}
use contract.Running.{tables, tables_of}
use prog.Memory.{Memory}
use prog.Routine.{Routine}
use prog.Wp.{WpFn, Tables}
use sound.WpLaws.{fm_of, WpFn-mono}
use types.Logic.{Logic, sem}
use types.Kit.{Item, ‵, raw, ◌⊛◌, some, later, ◌$◌, ◌∵◌, !, qed, by, move, drop, use1, join, split, split3, pick, rewrite, fsplit, fjoin, fpick, feq_l, suffices, await, done}
use types.Part.{whole, sub, agg}
use types.Run.{stop, fld, no_more, and_then, of_opd, returns, enter}
use types.ByLocal.{alloc_all, pass_all, free_all, look_at, get, get_in, sets, lands_as}
use denote.RattleType.{RattleType}
use denote.Exit.{no}
use denote.Param.{bounded}
use denote.RawPtr.{Ptr, RawPtr, block_ptr, null_ptr, ptr_val, in_a_block}
use denote.Signature.{plain}
use denote.Steps.{heard, nothing, only}
use denote.Struct.Tuple.{Tuple}
use denote.Triple.Call.{calls_at}
use denote.Triple.Clauses.{Ended, Clauses}
use denote.Triple.Spec.{triple_of}
use denote.Triple.Statement.{Triple, Contract}
use denote.Triple.Table.{entered}
use denote.Triple.Walked.{says, Stays, stay_dropped, walk_of, ends_at, walk_Meets}
use Rattle.std.proofs.alloc.Calls.{token, handle_tells, Goes-blank}
use Rattle.std.specs.Box.Ownership.{box_owns}
use Rattle.std.proofs.BoxSteps.Form.{Bx, D, τ, R, P, B, word, box_typed}
use Rattle.std.proofs.BoxSteps.Steps.{box_out, box_in}
use Rattle.std.specs.contracts.boxed.Box.into_raw_with_allocator as call
use Rattle.std.proofs.boxed.Box.into_raw_with_allocator.Symbol as call_name
use Rattle.std.proofs.boxed.Box.into_raw_with_allocator.Met as call_met
use Rattle.covremuj.specs.contracts.parts.Parts as parts
use Rattle.covremuj.specs.contracts.parts.Parts.of_box as this
use Rattle.covremuj.specs.contracts.parts.Parts.of_box.Key.{name as #this}
use Rattle.covremuj.proofs.parts.Parts.of_box.Statement as stated
use Rattle.covremuj.proofs.parts.Parts.of_box.Code as code

-- any box, and how what lies in it is let go
module _ (box : Bx) (let_go : Dict) where
  abbrev inside : Args
  inside = bounded (a_type ∷ a_type ∷ []) (box.row, (box.al.row, tt)) (dcons box.al.d (dcons box.al.drops (dcons let_go dnil)))

  abbrev body : Fn
  body = inst_fn inside code.function

  abbrev owed : Ended
  owed = this.ended box.row box.al.row box.al.g box.al.d box.al.drops let_go

  abbrev kept : Stays owed.signature.params owed.kept
  kept = (stay_dropped (plain (λ _. B box)) no, tt)

  abbrev Result : RattleType
  Result = parts.the_row (R box) (P box) box.al.g

  module _ {M : Type 1} {𝓤 : Ura M} (𝓛 : Logic 𝓤) (at_mem : Memory → SProp 𝓤) (run : Routine → Fun 𝓤) (𝓣 : Tables 𝓤 𝓛.H) where
    open 𝓛 use {H}

    abbrev clauses : Clauses 𝓤 owed
    clauses = this.clauses box.row box.al.row box.al.g box.al.d box.al.drops let_go 𝓛 at_mem run

    abbrev TakesApart : Contract 𝓤
    TakesApart = triple_of 𝓛 (call.signature box.row box.al.row box.al.g box.al.d box.al.drops let_go) (call.spec box.row box.al.row box.al.g box.al.d box.al.drops let_go 𝓛 at_mem run)

    -- what is told of the pair that the call gives: it has the allocator, and the address is owned as the box was
    abbrev Told : (allocator : box.al.row.Denot) → box.row.Denot → Ptr × box.al.row.Denot → Item 𝓤
    Told allocator value pair = raw (fact 𝓤 (pair.1 ≡ allocator)) ⊛ ‵ (box_owns (token box.al allocator) (R box) pair.0 value)

    walk : Triple 𝓤 (𝓣.C (call_name.name inside)) TakesApart → (ghosts : (walk_of 𝓛 owed kept clauses).Ghost)
        → ent 𝓤 ((walk_of 𝓛 owed kept clauses).pre ghosts) (WpFn 𝓤 H 𝓣.C 𝓣.Λ body (ghosts.0.4.0 ++ []) ((walk_of 𝓛 owed kept clauses).post ghosts))
    walk met ghosts =
        let lifetimes = ghosts.0.0 in let shares = ghosts.0.1 in let given_box = ghosts.0.3.0 in let words = ghosts.0.4.0 in
        let Post = (walk_of 𝓛 owed kept clauses).post ghosts in
        let tokens : Item 𝓤 = ‵ (flft lifetimes.0 shares.0) ⊛ ‵ (flft lifetimes.1.0 shares.1.0) ⊛ ‵ ftrue in
        let outlived : Item 𝓤 = raw (fact 𝓤 (lifetimes.0 ⊑ box.row.lives)) ⊛ raw (fact 𝓤 (lifetimes.1.0 ⊑ box.al.row.lives)) ⊛ ‵ ftrue in
        qed 𝓛 ((tokens ⊛ ‵ (fsep ((B box).own_val given_box words) ftrue)) ∷ outlived ∷ []) ∵ split ! $ move ! (1 ∷ []) $ fsplit ! $
        box_out box ! given_box words (λ block box_offset handle offset_is words_are handle_fits. box_in box ! given_box block box_offset given_box.value offset_is refl $
        let passed = word box handle block box_offset in
        let passed_typed = box_typed box handle block box_offset handle_fits in
        let at_call : TakesApart.Ghost = ((lifetimes, shares, tt, (given_box, tt), (passed ∷ [], tt)), tt) in
        let before : List (Item 𝓤) = ‵ ((B box).own_val given_box (passed ∷ [])) ∷ ‵ ftrue ∷ tokens ∷ outlived ∷ [] in
        by ! (subst (λ (some_words : List Val). ent 𝓤 (types.Kit.⋆ 𝓛 before) (WpFn 𝓤 H 𝓣.C 𝓣.Λ body (some_words ++ []) Post)) (sym words_are)
        (qed 𝓛 before ∵ enter ! 𝓣.C 𝓣.Λ body (passed ∷ []) _ $ alloc_all ! (λ locals. pass_all ! refl (passed_typed, tt) $
        -- the box is moved, and passed with the tokens
        sets ! (of_opd ! (get ! refl)) refl passed_typed $ fjoin ! $ move ! (1 ∷ 0 ∷ []) $ join ! $ join ! $ use1 𝓛 (raw (TakesApart.pre at_call)) (id⊢ 𝓤 _) $
        calls_at ! (fm_of 𝓤 H 𝓛.laws 𝓣) TakesApart met at_call (and_then ! (get ! refl) (no_more !)) (λ pair_got.
        use1 𝓛 (later (some (λ (pair : Ptr × box.al.row.Denot). (tokens ⊛ ‵ ((Tuple (RawPtr ∷ P box ∷ [])).own_val pair (pair_got ∷ []))) ⊛ some (λ (_ : (Unit {0} × (Unit {0} × Unit {0})) × Unit {0}). ‵ (fsep (fsep ftrue (fsep ftrue ftrue)) ftrue) ⊛ Told given_box.alloc given_box.value pair)))) (id⊢ 𝓤 _) $
        await ! tt $ pick ! (λ pair. split ! $ move ! (1 ∷ []) $ pick ! (λ _. split3 ! $ drop ! $ heard ! (pair.1 ≡ given_box.alloc) (λ same_allocator.
        in_a_block ! pair.0 (λ address. box_owns (token box.al given_box.alloc) (R box) address given_box.value) (fst∗ 𝓤 (never 𝓤) (sem 𝓛 (token box.al given_box.alloc (bare (τ box)) null_ptr))) (λ block_there offset pointer_is.
        -- the pair's words are those of its fields
        move ! (1 ∷ []) $ split ! $ move ! (1 ∷ []) $ fpick ! (λ fields. fsplit ! $ feq_l ! (λ got_is. fsplit ! $ feq_l ! (λ address_is. fsplit ! $
        rewrite ! 0 (λ (allocator_value : box.al.row.Denot). ‵ (box.al.row.own_val allocator_value fields.1.0)) same_allocator refl $ handle_tells box.al ! given_box.alloc fields.1.0 (λ its_handle handle_is its_handle_fits.
        let reached : D box = record { ptr = block_ptr block_there offset; alloc = given_box.alloc; value = given_box.value } in
        let made : Result.Denot = record { address = block_ptr block_there offset; allocator = given_box.alloc; inside = given_box.value } in
        let pair_words = word box its_handle block_there offset in
        let out_typed = box_typed box its_handle block_there offset its_handle_fits in
        lands_as ! (ap only (got_is ∙ (λ j. vstruct (of_list ((address_is ∙ ap (λ (address : Ptr). ptr_val address ∷ []) pointer_is) j ++ (handle_is j ++ []))) ∷ []))) refl out_typed $
        sets ! (of_opd ! (get_in ! (fld ! refl (stop !)) (sub ! 0 refl (whole !)))) refl (tt, tt) $
        sets ! (of_opd ! (get_in ! (fld ! refl (stop !)) (sub ! 1 refl (whole !)))) refl its_handle_fits $
        sets ! (of_opd ! (get ! refl)) refl its_handle_fits $
        sets ! (agg ! (and_then ! (get ! refl) (and_then ! (get ! refl) (no_more !)))) refl out_typed $ returns ! (look_at ! 0 refl) $ free_all ! refl $
        -- what is owned is what a box of these fields would own, and that is what the parts own
        move ! (3 ∷ []) $ fsplit ! $ box_in box ! reached block_there offset given_box.value refl refl $ use1 𝓛 (‵ (Result.own_val made (pair_words ∷ []))) (id⊢ 𝓤 _) $ move ! (1 ∷ []) $ drop ! $
        suffices ! _ (ends_at 𝓛 owed kept clauses ghosts pair_words made ((tt, (tt, tt)), tt) (tt, tt)) $ says ! refl $
        nothing ! $ nothing ! $ fjoin ! $ join ! $ move ! (1 ∷ 0 ∷ []) $ join ! $ done !)))))))))))))

pub of_box_spec : {M : Type 1} → stated.statement M
unfolding tables_of
of_box_spec 𝓤 𝓛 𝓜 𝓡 wired Inside Allocator inside_laws allocator_laws ghosts dict lets_go let_go is_allocator meets glued =
    let box : Bx = record { row = Inside; laws = inside_laws; al = record { row = Allocator; laws = allocator_laws; g = ghosts; d = dict; drops = lets_go } } in
    let 𝓣 : Tables 𝓤 𝓛.H = tables_of 𝓤 𝓛.H 𝓜 (tables 𝓤 𝓛.H 𝓜 𝓡 𝓡.env) in
    let run_as = WpFn 𝓤 𝓛.H 𝓣.C 𝓣.Λ (body box let_go) in
    let met = call_met.met 𝓤 𝓛 𝓜 𝓡 (code.calls-std_alloc::boxed::Box::into_raw_with_allocator 𝓡.env wired) Inside Allocator inside_laws allocator_laws ghosts dict lets_go let_go is_allocator meets glued in
    entered 𝓤 𝓛.H (triple_of 𝓛 (owed box let_go).signature (this.spec Inside Allocator ghosts dict lets_go let_go 𝓛 𝓜.mem 𝓡.returns)) 𝓣.C 𝓣.Λ (#this (inside box let_go)) (body box let_go)
    (code.unfolded 𝓤 𝓛.H 𝓜 𝓡 wired (Inside, (Allocator, tt)) dict lets_go let_go)
    (walk_Meets 𝓛 (owed box let_go) (kept box let_go) (Goes-blank 𝓛 2 (plain (λ _. B box)) no (λ locals arguments f. tt), tt) (clauses box let_go 𝓛 𝓜.mem 𝓡.returns 𝓣) run_as (WpFn-mono 𝓤 𝓛.H 𝓛.laws 𝓣 (body box let_go))
    (walk box let_go 𝓛 𝓜.mem 𝓡.returns 𝓣 met))
