-- `together`: std's call takes the address, with all that is owned through it, and the allocator, and gives their box.
use mathlib.Core.Path.{◌≡◌, refl, sym, subst, ap}
use mathlib.Core.List.{List, [], ◌∷◌, ◌++◌}
use lib.Dec.{T}
use seplogic.Ra.Ura.{Ura}
use mir.Syntax.{Fn, Body, place, copy, assign, rv_opd, seq, return}
use mir.MapTy.{inst_fn}
use mir.Val.{Val, vptr, has_ty, WT}
use base.Logic.{SProp, ent, id⊢}
use base.Fml.{ftrue, fsep, flft}
use contract.BorrowLft.{◌⊑◌}
use contract.Monad.{Fun, fact}
use contract.Running.{tables, tables_of}
use prog.Memory.{Memory}
use prog.Routine.{Routine}
use prog.Wp.{WpFn, Tables}
use sound.WpLaws.{fm_of, WpFn-mono}
use types.Logic.{Logic}
use types.Kit.{Item, at_ret, ‵, raw, ◌⊛◌, some, later, ◌$◌, ◌∵◌, !, qed, by, move, drop, use1, join, split, split3, pick, rewrite, fsplit, fjoin, feq_i, suffices, await, done}
use types.Part.{whole, sub}
use types.Run.{stop, fld, no_more, and_then, of_opd, returns, enter, first, blocks, exec}
use types.ByLocal.{alloc_all, pass_all, free_all, look_at, get, get_in, sets, lands_last, env}
use denote.RattleType.{RattleType}
use denote.Exit.{no}
use denote.RawPtr.{block_ptr}
use denote.Signature.{plain}
use denote.Steps.{heard, nothing, only}
use denote.Triple.Call.{calls_at_last}
use denote.Triple.Clauses.{Ended, Clauses}
use denote.Triple.Spec.{triple_of}
use denote.Triple.Statement.{Triple, Contract}
use denote.Triple.Table.{entered}
use denote.Triple.Walked.{says, Stays, stay_dropped, walk_of, ends_at, walk_Meets}
use Rattle.std.proofs.alloc.Calls.{token, Goes-blank}
use Rattle.std.specs.Box.Ownership.{box_owns}
use Rattle.std.proofs.BoxSteps.Form.{Bx, D, R, P, B, args, box_ty, word, box_typed}
use Rattle.std.proofs.BoxSteps.Steps.{box_out, box_in}
use Rattle.std.specs.contracts.boxed.Box.from_raw as call
use Rattle.std.proofs.boxed.Box.from_raw.Symbol as call_name
use Rattle.std.proofs.boxed.Box.from_raw.Met as call_met
use Rattle.covremuj.specs.contracts.parts.Parts as parts
use Rattle.covremuj.specs.contracts.parts.Parts.together as this
use Rattle.covremuj.specs.contracts.parts.Parts.together.Key.{name as #this}
use Rattle.covremuj.proofs.parts.Parts.together.Statement as stated
use Rattle.covremuj.proofs.parts.Parts.together.Code as code

-- what is left behind the call: the box that it gave is the answer
abbrev behind : Body
behind = seq (assign (place 0 []) (rv_opd (copy (place 4 [])))) return

-- any box
module _ (box : Bx) where
  abbrev body : Fn
  body = inst_fn (args box) code.function

  abbrev owed : Ended
  owed = this.ended box.row box.al.row box.al.g box.al.d box.al.drops

  abbrev Given : RattleType
  Given = parts.the_row (R box) (P box) box.al.g

  abbrev kept : Stays owed.signature.params owed.kept
  kept = (stay_dropped (plain (λ _. Given)) no, tt)

  module _ {M : Type 1} {𝓤 : Ura M} (𝓛 : Logic 𝓤) (at_mem : Memory → SProp 𝓤) (run : Routine → Fun 𝓤) (𝓣 : Tables 𝓤 𝓛.H) where
    open 𝓛 use {H}

    abbrev clauses : Clauses 𝓤 owed
    clauses = this.clauses box.row box.al.row box.al.g box.al.d box.al.drops 𝓛 at_mem run

    abbrev MakesBox : Contract 𝓤
    MakesBox = triple_of 𝓛 (call.signature box.row box.al.row box.al.g box.al.d box.al.drops) (call.spec box.row box.al.row box.al.g box.al.d box.al.drops 𝓛 at_mem run)

    walk : Triple 𝓤 (𝓣.C (call_name.name (args box))) MakesBox → (ghosts : (walk_of 𝓛 owed kept clauses).Ghost)
        → ent 𝓤 ((walk_of 𝓛 owed kept clauses).pre ghosts) (WpFn 𝓤 H 𝓣.C 𝓣.Λ body (ghosts.0.4.0 ++ []) ((walk_of 𝓛 owed kept clauses).post ghosts))
    walk met ghosts =
        let lifetimes = ghosts.0.0 in let shares = ghosts.0.1 in let given_parts = ghosts.0.3.0 in let words = ghosts.0.4.0 in
        let Post = (walk_of 𝓛 owed kept clauses).post ghosts in
        let as_box : D box = record { ptr = given_parts.address; alloc = given_parts.allocator; value = given_parts.inside } in
        let tokens : Item 𝓤 = ‵ (flft lifetimes.0 shares.0) ⊛ ‵ (flft lifetimes.1.0 shares.1.0) ⊛ ‵ ftrue in
        let outlived : Item 𝓤 = raw (fact 𝓤 (lifetimes.0 ⊑ box.row.lives)) ⊛ raw (fact 𝓤 (lifetimes.1.0 ⊑ box.al.row.lives)) ⊛ ‵ ftrue in
        qed 𝓛 ((tokens ⊛ ‵ (fsep ((B box).own_val as_box words) ftrue)) ∷ outlived ∷ []) ∵ split ! $ move ! (1 ∷ []) $ fsplit ! $
        box_out box ! as_box words (λ block box_offset handle address_is words_are handle_fits. fjoin ! $
        let passed = word box handle block box_offset in
        let pointer = vptr block box_offset in
        let at_call : MakesBox.Ghost = ((lifetimes, shares, tt, (given_parts.allocator, (block_ptr block box_offset, tt)), (handle ∷ [], (pointer ∷ [], tt))), given_parts.inside) in
        let before : List (Item 𝓤) = ‵ (box_owns (token box.al given_parts.allocator) (R box) (block_ptr block box_offset) given_parts.inside) ∷ ‵ ((P box).own_val given_parts.allocator (handle ∷ [])) ∷ ‵ ftrue ∷ tokens ∷ outlived ∷ [] in
        by ! (subst (λ (some_words : List Val). ent 𝓤 (types.Kit.⋆ 𝓛 before) (WpFn 𝓤 H 𝓣.C 𝓣.Λ body (some_words ++ []) Post)) (sym words_are)
        (qed 𝓛 before ∵ enter ! 𝓣.C 𝓣.Λ body (passed ∷ []) _ $ alloc_all ! (λ locals. let body_env = env body.locals locals in pass_all ! refl (box_typed box handle block box_offset handle_fits, tt) $
        -- the two fields are moved out
        sets ! (of_opd ! (get_in ! (fld ! refl (stop !)) (sub ! 0 refl (whole !)))) refl (tt, tt) $
        sets ! (of_opd ! (get_in ! (fld ! refl (stop !)) (sub ! 1 refl (whole !)))) refl handle_fits $
        first ! $ blocks ! $ sets ! (of_opd ! (get ! refl)) refl handle_fits $
        -- what the call wants: what it requires; the allocator and the address; the tokens
        move ! (4 ∷ []) $ split3 ! $ move ! (2 ∷ []) $ drop ! $ move ! (1 ∷ 2 ∷ []) $ join ! $ move ! (1 ∷ 0 ∷ []) $ join ! $
        move ! (2 ∷ []) $ feq_i ! (List Val) (pointer ∷ []) (pointer ∷ []) refl $ fjoin ! $ move ! (2 ∷ 0 ∷ []) $ fjoin ! $ move ! (2 ∷ 0 ∷ []) $ join ! $ join ! $ use1 𝓛 (raw (MakesBox.pre at_call)) (id⊢ 𝓤 _) $
        calls_at_last ! (fm_of 𝓤 H 𝓛.laws 𝓣) MakesBox met at_call (and_then ! (get ! refl) (and_then ! (get ! refl) (no_more !))) (λ box_got.
        use1 𝓛 (later (some (λ (made : D box). (tokens ⊛ ‵ ((B box).own_val made (box_got ∷ []))) ⊛ some (λ (_ : Unit {0} × (Unit {0} × Unit {0})). ‵ (fsep ftrue (fsep ftrue ftrue)) ⊛ (raw (fact 𝓤 (made.value ≡ given_parts.inside)) ⊛ raw (fact 𝓤 (made.alloc ≡ given_parts.allocator))))))) (id⊢ 𝓤 _) $
        await ! tt $ pick ! (λ made. split ! $ move ! (1 ∷ []) $ pick ! (λ _. split3 ! $ drop ! $ heard ! (made.value ≡ given_parts.inside) (λ same_inside. drop ! $ split ! $ move ! (1 ∷ []) $
        -- its word is that of a box
        box_out box ! made (box_got ∷ []) (λ block_there offset its_handle offset_is got_is its_handle_fits. box_in box ! made block_there offset made.value offset_is refl $ rewrite ! 0 (λ (some_words : List Val). ‵ ((B box).own_val made some_words)) (sym got_is) refl $
        let got_typed : T (has_ty (box_ty box) box_got) × WT box_got = subst (λ (some_value : Val). T (has_ty (box_ty box) some_value) × WT some_value) (sym (ap only got_is)) (box_typed box its_handle block_there offset its_handle_fits) in
        lands_last ! refl got_typed $ exec ! 𝓣.C 𝓣.Λ body_env behind (at_ret body_env Post) $
        sets ! (of_opd ! (get ! refl)) refl got_typed $ returns ! (look_at ! 0 refl) $ free_all ! refl $
        suffices ! _ (ends_at 𝓛 owed kept clauses ghosts box_got made ((tt, (tt, tt)), tt) (tt, tt)) $ says ! same_inside $
        nothing ! $ nothing ! $ fjoin ! $ join ! $ move ! (1 ∷ 0 ∷ []) $ join ! $ done !)))))))))

pub together_spec : {M : Type 1} → stated.statement M
unfolding tables_of
together_spec 𝓤 𝓛 𝓜 𝓡 wired Inside Allocator inside_laws allocator_laws ghosts dict lets_go is_allocator meets =
    let box : Bx = record { row = Inside; laws = inside_laws; al = record { row = Allocator; laws = allocator_laws; g = ghosts; d = dict; drops = lets_go } } in
    let 𝓣 : Tables 𝓤 𝓛.H = tables_of 𝓤 𝓛.H 𝓜 (tables 𝓤 𝓛.H 𝓜 𝓡 𝓡.env) in
    let run_as = WpFn 𝓤 𝓛.H 𝓣.C 𝓣.Λ (body box) in
    let met = call_met.met 𝓤 𝓛 𝓜 𝓡 (code.calls-std_alloc::boxed::Box::from_raw 𝓡.env wired) Inside Allocator inside_laws allocator_laws ghosts dict lets_go is_allocator meets in
    entered 𝓤 𝓛.H (triple_of 𝓛 (owed box).signature (this.spec Inside Allocator ghosts dict lets_go 𝓛 𝓜.mem 𝓡.returns)) 𝓣.C 𝓣.Λ (#this (args box)) (body box)
    (code.unfolded 𝓤 𝓛.H 𝓜 𝓡 wired (Inside, (Allocator, tt)) dict lets_go)
    (walk_Meets 𝓛 (owed box) (kept box) (Goes-blank 𝓛 2 (plain (λ _. Given box)) no (λ locals arguments f. tt), tt) (clauses box 𝓛 𝓜.mem 𝓡.returns 𝓣) run_as (WpFn-mono 𝓤 𝓛.H 𝓛.laws 𝓣 (body box))
    (walk box 𝓛 𝓜.mem 𝓡.returns 𝓣 met))
