-- A reference that a mutator has found in a field: it is resolved where it lies in the collection set, and then it is the current copy of
-- its object, or can be used as it is.
use Rattle.std.proofs.Common.{◌≡◌, ◌≢◌, ℕ, ◌+◌, ◌<◌, ◌≤◌, ◌⊎◌, inl, inr, ⊎_elim, Bool, true, false, Option, Some, None, refl, sym, ap, ◌∙◌, subst, arith}
use Rattle.std.specs.Prelude.{◌==◌, ◌&&◌, nat_lt, if◌then◌else◌}
use Rattle.std.proofs.lemmas.Bool.{and_from, and_parts, cases_Bool, cases_eq, cond-true, cond-false, eqb-true, eqb-false, ltb-false, ltb-true, false≢true}
use Rattle.heap_words.specs.declared.config.Config.{Config}
use Rattle.heap_words.specs.Words.{Root, Heap, Phase, Cset, is_word}
use Rattle.heap_words.proofs.Stores.{is_word_from}
use Rattle.heap_words.specs.Fits.{is_number}
use Rattle.shen_graph.specs.declared.name.Name.{Name}
use Rattle.shen_graph.specs.declared.command.Command.{Command}
use Rattle.shen_graph.specs.declared.command.Reply.{Reply}
use Rattle.shen_graph.specs.declared.command.Reply.TheVariants as reply
use Rattle.shen_graph.specs.Graph.{Reference, same_reference}
use Rattle.shen_graph.specs.Step.{shown}
use Rattle.load_barrier.specs.declared.spot.ResolveSpot.{ResolveSpot}
use Rattle.load_barrier.specs.declared.spot.ResolveSpot.TheVariants.{LoadHeader, Resolved}
use Rattle.heap_words.specs.Phases.{evacuation_phase, updating_phase}
use Rattle.load_barrier.specs.UnitRows.{must_resolve, lies_in_set}
use Rattle.load_barrier.specs.UnitFit.{resolve_ready}
use Rattle.load_barrier.specs.Alone.{is_copier}
use Rattle.load_barrier.specs.Rows as resolves
use Rattle.load_barrier.specs.Fit as load
use Rattle.cycle_steps.specs.Resolving.Facts.{IsAnswer}
use Rattle.cycle_steps.proofs.Resolving.Bodies.{copy_piece, piece_begins}
use Rattle.mutator.specs.declared.spot.Kept.{Kept}
use Rattle.mutator.specs.declared.spot.Spot.{Spot}
use Rattle.mutator.specs.declared.spot.Spot.TheVariants.{Resolving, Leave}
use Rattle.mutator.specs.declared.resolves.Loaded.{Loaded}
use Rattle.mutator.specs.declared.resolves.Loaded.TheVariants.{ForRoot, ToCompare}
use Rattle.mutator.specs.Commands.{dst_of, index_of}
use Rattle.mutator.specs.Rows.{Mutating, after_expected, after_resolve, after_resolved, with_loaded}
use Rattle.mutator.specs.Fit.{is_ready, resolve_fits}
use Rattle.heap_world.specs.World.{World, name_at, body_of, Points, IsCollected, TargetIn, UsableIn, Shared}
use Rattle.heap_world.specs.Rely.{Keeps}
use Rattle.heap_world.proofs.Pointing.{named_body, copy_cases, named_if_not_0, points_small}
use Rattle.heap_world.proofs.Unmoved.{usable_unmoved}
use Rattle.step_core.specs.Own.{root_resolving}
use Rattle.step_core.proofs.Machines.Stepped.{IsCas, IsCompared, LoadedFacts, IsResolving, IsSeatedIn, HasMarkingBy, HasCopyingBy, Mine, Row}
use Rattle.step_core.proofs.Mutators.Spots.{mutator_at}
use Rattle.step_core.proofs.Machines.Naming.{same_words, one_reference, not_one, copied, word_in}
use Rattle.step_core.proofs.Machines.Stable.{root_stays, now_stays, seated_stays, resolved_stays}
use Rattle.step_core.proofs.Mutators.InHand.{field_mine}
use Rattle.step_core.proofs.Mutators.ResolvingInCommon.{resolves_by, resolving_begins, ResolvesAlone, resolving_step, resolving_inside, resolving_answers}
use Rattle.step_core.proofs.Machines.Ready.{leaving, ready_of, number_small}
use Rattle.alloc_buffers.specs.Facts.{OnlySpares}

-- an address of the set lies there, by the test of its bit
pub lies_there : (config : Config) (cset address : ℕ) → lies_in_set config cset address ≡ true → IsCollected config cset address
lies_there config cset address set_tested = eqb-true _ _ set_tested

-- what has to be resolved is not null, lies in the collection set, and objects are copied or references to them updated
pub resolved_some : (config : Config) (phase cset got : ℕ) → must_resolve config phase cset got ≡ true → (got ≢ 0) × (2 ≤ phase) × IsCollected config cset got
resolved_some config phase cset got has_to_resolve = ⊎_elim
    (λ (null : (got == 0) ≡ true). absurd (false≢true (sym (cond-true (got == 0) false (if nat_lt phase evacuation_phase then false else lies_in_set config cset got) null) ∙ has_to_resolve)))
    (λ (not_null : (got == 0) ≡ false).
    let rest_true : (if nat_lt phase evacuation_phase then false else lies_in_set config cset got) ≡ true = sym (cond-false (got == 0) false (if nat_lt phase evacuation_phase then false else lies_in_set config cset got) not_null) ∙ has_to_resolve in
    ⊎_elim
    (λ (early : nat_lt phase evacuation_phase ≡ true). absurd (false≢true (sym (cond-true (nat_lt phase evacuation_phase) false (lies_in_set config cset got) early) ∙ rest_true)))
    (λ (late : nat_lt phase evacuation_phase ≡ false).
    (eqb-false _ _ not_null, ltb-false _ _ late, lies_there config cset got (sym (cond-false (nat_lt phase evacuation_phase) false (lies_in_set config cset got) late) ∙ rest_true)))
    (cases_Bool (nat_lt phase evacuation_phase)))
    (cases_Bool (got == 0))

-- what needs no resolving is null, or objects are not copied yet, or it does not lie in the set
pub resolved_none : (config : Config) (phase cset got : ℕ) → must_resolve config phase cset got ≡ false → (got ≡ 0) ⊎ ((phase < 2) ⊎ (IsCollected config cset got → ⊥))
resolved_none config phase cset got no_need = ⊎_elim
    (λ (null : (got == 0) ≡ true). inl (eqb-true _ _ null))
    (λ (not_null : (got == 0) ≡ false).
    let rest_false : (if nat_lt phase evacuation_phase then false else lies_in_set config cset got) ≡ false = sym (cond-false (got == 0) false (if nat_lt phase evacuation_phase then false else lies_in_set config cset got) not_null) ∙ no_need in
    ⊎_elim
    (λ (early : nat_lt phase evacuation_phase ≡ true). inr (inl (ltb-true _ _ early)))
    (λ (late : nat_lt phase evacuation_phase ≡ false). inr (inr (eqb-false _ _ (sym (cond-false (nat_lt phase evacuation_phase) false (lies_in_set config cset got) late) ∙ rest_false))))
    (cases_Bool (nat_lt phase evacuation_phase)))
    (cases_Bool (got == 0))

-- a phase that is neither 0 nor 1 is 2 or 3
two_or_three : (phase : ℕ) → 2 ≤ phase → phase ≤ 3 → (phase ≡ evacuation_phase) ⊎ (phase ≡ updating_phase)
two_or_three phase late phase_low = ⊎_elim (λ (phase_two : phase ≡ evacuation_phase). inl phase_two) (λ (not_two : phase ≢ evacuation_phase). inr (grind (arith, late, phase_low, not_two))) (cases_eq phase 2)

-- a reference that needs no resolving may be used
pub usable_found : (config : Config) (world : World) (phase cset got : ℕ) (reference : Reference) → Shared config world → phase ≡ world.memory Phase → cset ≡ world.memory Cset → must_resolve config phase cset got ≡ false → Points world.block got reference → UsableIn config world got
usable_found config world phase cset got reference shared phase_is set_is no_need points = ⊎_elim
    (λ (null : got ≡ 0). inl null)
    (λ early_or_apart. ⊎_elim
    (λ (early : phase < 2). usable_unmoved config world shared (omega (arith, early, phase_is)) got reference points)
    (λ (outside : IsCollected config cset got → ⊥).
    let got_apart : IsCollected config (world.memory Cset) got → ⊥ = λ got_collected. outside (subst (λ set. IsCollected config set got) (sym set_is) got_collected) in
    by_reference got_apart reference points)
    early_or_apart)
    (resolved_none config phase cset got no_need)
  where
    by_reference : (IsCollected config (world.memory Cset) got → ⊥) → (other_reference : Reference) → Points world.block got other_reference → UsableIn config world got
    by_reference not_in_set None null = inl null
    by_reference not_in_set (Some found_name) named =
        let body = named_body (world.block got) found_name named in
        ⊎_elim
        (λ now_there. inr (found_name, body.0, body.1, record { piece = now_there; safe = λ got_collected. absurd (not_in_set got_collected) }))
        (λ was_moved. absurd (not_in_set (shared.evacuated.moved.moveds got body.0 body.1 was_moved.0 found_name was_moved.1).inside))
        (copy_cases (world.block got) (body_of found_name body.0 body.1) body.2)

-- a resolving can make its next access where it can resolve and has not ended
pub resolving_ready : (config : Config) (world : World) (seat made : ℕ) (kept : Kept) (address : ℕ) (spot : ResolveSpot) (next : Loaded) → Shared config world → IsResolving config world seat address spot → resolves.is_ended spot ≡ false
    → is_ready config seat made kept (Resolving address spot next) ≡ true
resolving_ready config world seat made kept address spot next shared resolvable spot_going =
    let resolving = resolves_by config world seat address spot shared resolvable in
    and_from _ _
    (and_from _ _ (is_word_from config (resolves.touch_at config seat address spot).word (resolving_inside config world seat address spot shared resolvable)) refl)
    (and_from _ _
    (let piece = copy_piece config world shared address resolving.there in piece_begins config world shared address piece.0 piece.1 (let piece_long = piece.2 in omega (arith, piece_long)))
    (and_from _ _ resolving.ready (rw spot_going refl)))

module _ (config : Config) (world : World) (seat made : ℕ) (kept : Kept) (command : Command) (shared : Shared config world) (seated : IsSeatedIn config world seat made false) (marking : HasMarkingBy world seat None kept.phase true)
    (copying : HasCopyingBy world seat false kept.cset true) (only_spares : OnlySpares world seat) where
  -- A Cas goes on with what it found, by a word that may be used for it: it exchanges where that is the one that is to be there, and
  -- leaves otherwise.
  pub expected_mine : (fixed : Option Reply) (object expect value found answer : ℕ) (reference : Reference) → IsCas config world seat command object (index_of kept.command) expect value → IsCompared world.block fixed found expect
      → Points world.block found reference → Points world.block answer reference → UsableIn config world answer → ((index : ℕ) → index < 16 → Points world.block (world.memory (Root seat index)) (world.graph.root (seat + 1) index))
      → Mine config world (mutator_at seat made kept (after_expected object expect value found answer)) command fixed
  expected_mine fixed object expect value found answer reference cas compared stands answer_points usable roots =
      by_comparison compared
    where
      words : (answer == expect) ≡ same_reference reference (world.graph.root (seat + 1) cas.expected)
      words = same_words config world shared answer expect reference _ usable cas.expect_is.usable answer_points cas.expect_is.stands

      by_comparison : IsCompared world.block fixed found expect → Mine config world (mutator_at seat made kept (after_expected object expect value found answer)) command fixed
      by_comparison (inr compared_same) =
          let answer_expected : (answer == expect) ≡ true = words ∙ one_reference config world shared found expect reference _ stands cas.expect_is.stands compared_same.1 in
          let field_below = cas.below in
          rw answer_expected (record {
            seated = seated;
            ready = ready_of _ (is_number found && is_number value) (word_in config world shared seat cas.obj object (object + 3 + index_of kept.command) (3 + index_of kept.command) cas.of (omega (arith, field_below)) (omega arith))
                (and_from _ _ (number_small found (points_small config _ world.block shared.parsable.plotted found reference stands)) (number_small value (points_small config _ world.block shared.parsable.plotted value _ cas.value_is.stands)));
            marking = marking;
            copying = copying;
            roots = roots;
            rooms = only_spares;
            facts = (compared_same.0, cas, compared_same.1);
          })
      by_comparison (inl compared_other) =
          let references_differ : same_reference reference (world.graph.root (seat + 1) cas.expected) ≡ false = not_one config world shared found expect reference _ stands cas.expect_is.stands compared_other.1 in
          rw (words ∙ references_differ) (subst (λ fixed. Mine config world (mutator_at seat made kept (Leave reply.No)) command fixed) (sym compared_other.0)
          (leaving config world seat made kept command reply.No seated (marking.records, marking.scans, copying.copies_is, copying.works_none) roots only_spares))

  -- the reference lies in the set: the mutator resolves it
  resolves_it : (fixed : Option Reply) (got : ℕ) (reference : Reference) (next : Loaded) → must_resolve config kept.phase kept.cset got ≡ true → Points world.block got reference
      → ((index : ℕ) → index < 16 → Points world.block (root_resolving world seat (dst_of kept.command) got next index) (world.graph.root (seat + 1) index))
      → LoadedFacts config world seat kept.command command fixed got next → Mine config world (mutator_at seat made kept (Resolving got LoadHeader next)) command fixed
  resolves_it fixed got reference next must points roots facts =
      let resolve_facts = resolved_some config kept.phase kept.cset got must in
      let named = named_if_not_0 config _ world.block shared.parsable.plotted got reference points resolve_facts.0 in
      let body = named_body (world.block got) named.0 named.2 in
      let in_phase : (world.memory Phase ≡ evacuation_phase) ⊎ (world.memory Phase ≡ updating_phase) = two_or_three (world.memory Phase) (let late = resolve_facts.1 in let phase = marking.phase_is refl in omega (arith, late, phase)) shared.phased.phase_is in
      let got_collected : IsCollected config (world.memory Cset) got = subst (λ set. IsCollected config set got) (copying.set_is refl) resolve_facts.2 in
      let resolvable : IsResolving config world seat got LoadHeader =
      resolving_begins config world seat got (body_of named.0 body.0 body.1) (let seat_below = seated.below in omega (arith, seat_below)) in_phase got_collected body.2 copying.copies_is copying.works_none marking.records marking.scans only_spares in
      record {
        seated = seated;
        ready = resolving_ready config world seat made kept got LoadHeader next shared resolvable refl;
        marking = marking;
        copying = copying;
        roots = roots;
        rooms = only_spares;
        facts = (resolvable, facts);
      }

  -- With the reference of a field in hand for a root, and settled, a call goes on.
  pub found_mine : (got : ℕ) (reference : Reference) → dst_of kept.command < 16
      → ((index : ℕ) → index < 16 → Points world.block (if index == dst_of kept.command then got else world.memory (Root seat index)) (world.graph.root (seat + 1) index))
      → Points world.block got reference → Mine config world (mutator_at seat made kept (with_loaded config kept.phase kept.cset got ForRoot)) command (Some (shown reference))
  found_mine got reference root_small roots points = ⊎_elim
      (λ (must : must_resolve config kept.phase kept.cset got ≡ true).
      let named = named_if_not_0 config _ world.block shared.parsable.plotted got reference points (resolved_some config kept.phase kept.cset got must).0 in
      rw must (resolves_it (Some (shown reference)) got reference ForRoot must points roots (record { name = named.0; settled = ap (λ any_reference. Some (shown any_reference)) named.1; is = named.2; small = root_small })))
      (λ (no_need : must_resolve config kept.phase kept.cset got ≡ false).
      rw no_need (field_mine config world seat made kept command got reference shared seated marking copying root_small roots only_spares points (usable_found config world kept.phase kept.cset got reference shared (marking.phase_is refl) (copying.set_is refl) no_need points)))
      (cases_Bool (must_resolve config kept.phase kept.cset got))

  -- and with that of a field that is about to be exchanged
  pub compared_mine : (fixed : Option Reply) (object expect value got : ℕ) (reference : Reference) → IsCas config world seat command object (index_of kept.command) expect value → IsCompared world.block fixed got expect → Points world.block got reference
      → ((index : ℕ) → index < 16 → Points world.block (world.memory (Root seat index)) (world.graph.root (seat + 1) index))
      → Mine config world (mutator_at seat made kept (with_loaded config kept.phase kept.cset got (ToCompare object expect value))) command fixed
  compared_mine fixed object expect value got reference cas compared points roots = ⊎_elim
      (λ (must : must_resolve config kept.phase kept.cset got ≡ true).
      rw must (resolves_it fixed got reference (ToCompare object expect value) must points roots (record { some = (resolved_some config kept.phase kept.cset got must).0; is_cas = cas; settled = compared })))
      (λ (no_need : must_resolve config kept.phase kept.cset got ≡ false).
      rw no_need (expected_mine fixed object expect value got got reference cas compared points points (usable_found config world kept.phase kept.cset got reference shared (marking.phase_is refl) (copying.set_is refl) no_need points) roots))
      (cases_Bool (must_resolve config kept.phase kept.cset got))

  -- where it goes on once the address is resolved
  mine_resolved : (fixed : Option Reply) (address answer : ℕ) (next : Loaded) → IsAnswer config world address answer
      → ((index : ℕ) → index < 16 → Points world.block (root_resolving world seat (dst_of kept.command) address next index) (world.graph.root (seat + 1) index))
      → LoadedFacts config world seat kept.command command fixed address next → Mine config world (mutator_at seat made kept (after_resolved address answer next)) command fixed
  mine_resolved fixed address answer ForRoot answer_right roots found =
      let body = named_body (world.block address) found.name found.is in
      let target : TargetIn config world answer body.0 body.1 found.name = answer_right.named (body_of found.name body.0 body.1) body.2 in
      subst (λ fixed. Mine config world (mutator_at seat made kept (after_resolved address answer ForRoot)) command fixed) (sym found.settled)
      (field_mine config world seat made kept command answer (Some found.name) shared seated marking copying found.small
      (λ index index_below. answered (ap name_at target.piece) found.is index (roots index index_below)) only_spares (ap name_at target.piece) (inr (found.name, body.0, body.1, target)))
    where
      answered : name_at (world.block answer) ≡ Some found.name → name_at (world.block address) ≡ Some found.name → (index : ℕ) → Points world.block (if index == dst_of kept.command then address else world.memory (Root seat index)) (world.graph.root (seat + 1) index)
          → Points world.block (if index == dst_of kept.command then answer else world.memory (Root seat index)) (world.graph.root (seat + 1) index)
      answered new old index stands = ⊎_elim
          (λ (same_index : (index == dst_of kept.command) ≡ true).
          let old_points : Points world.block address (world.graph.root (seat + 1) index) = subst (λ word. Points world.block word (world.graph.root (seat + 1) index)) (cond-true (index == dst_of kept.command) address (world.memory (Root seat index)) same_index) stands in
          subst (λ word. Points world.block word (world.graph.root (seat + 1) index)) (sym (cond-true (index == dst_of kept.command) answer (world.memory (Root seat index)) same_index))
          (copied config world shared address answer found.name (world.graph.root (seat + 1) index) old new old_points))
          (λ (index_differs : (index == dst_of kept.command) ≡ false).
          subst (λ word. Points world.block word (world.graph.root (seat + 1) index)) (cond-false (index == dst_of kept.command) address (world.memory (Root seat index)) index_differs ∙ sym (cond-false (index == dst_of kept.command) answer (world.memory (Root seat index)) index_differs)) stands)
          (cases_Bool (index == dst_of kept.command))
  mine_resolved fixed address answer (ToCompare object expect value) answer_right roots facts =
      let name = compared_name facts.settled in
      let body = named_body (world.block address) name.0 name.1 in
      let target : TargetIn config world answer body.0 body.1 name.0 = answer_right.named (body_of name.0 body.0 body.1) body.2 in
      expected_mine fixed object expect value address answer (Some name.0) facts.is_cas facts.settled name.1 (ap name_at target.piece) (inr (name.0, body.0, body.1, target)) roots
    where
      compared_name : IsCompared world.block fixed address expect → (name : Name) × (name_at (world.block address) ≡ Some name)
      compared_name (inl compared_other) = (compared_other.1.name, compared_other.1.is)
      compared_name (inr compared_same) = ⊎_elim (λ null. absurd (facts.some null.0)) (λ both_named. (both_named.0, both_named.1)) compared_same.1

module _ (config : Config) (world : World) (seat made : ℕ) (kept : Kept) (command : Command) (fixed : Option Reply) where
  abbrev at_spot : Spot → Mutating
  at_spot spot = mutator_at seat made kept spot

  module _ (before : ResolveSpot) (address : ℕ) (next : Loaded) (own_facts : Mine config world (at_spot (Resolving address before next)) command fixed) where
    -- it has not ended
    pub going_now : resolves.is_ended before ≡ false
    going_now =
        still (resolves.is_ended before)
        (and_parts (load.is_ready config seat address before) (load.is_busy (resolves.is_ended before))
        (and_parts (is_word config (Heap address)) (resolve_ready config seat address before)
        (and_parts (is_word config (resolves.touch_at config seat address before).word && true) (resolve_fits config seat address before) own_facts.ready).1).1).1
      where
        still : (holds : Bool) → load.is_busy holds ≡ true → holds ≡ false
        still true load_busy = absurd (false≢true load_busy)
        still false load_busy = refl

    module _ (later_world : World) (shared : Shared config later_world) (world_kept : Keeps config seat world later_world) where
      -- what it counts on of marking and of evacuation then
      marking_then : (spot : ResolveSpot) → ResolvesAlone config later_world seat address spot → HasMarkingBy later_world seat None kept.phase true
      marking_then spot alone = let resolving = resolves_by config later_world seat address spot shared alone.can in record { records = resolving.records_none; scans = resolving.scans_none; phase_is = λ marking_phase. own_facts.marking.phase_is refl ∙ sym world_kept.marks.phase }

      copying_then : (spot : ResolveSpot) → ResolvesAlone config later_world seat address spot → HasCopyingBy later_world seat (is_copier spot) kept.cset true
      copying_then spot alone = record { copies_is = (resolves_by config later_world seat address spot shared alone.can).copying; works_none = alone.working; set_is = λ copying_phase. own_facts.copying.set_is refl ∙ sym world_kept.copies.cset }

      -- its roots stand for its thread's
      roots_then : (index : ℕ) → index < 16 → Points later_world.block (root_resolving later_world seat (dst_of kept.command) address next index) (later_world.graph.root (seat + 1) index)
      roots_then index index_low = rw (now_stays config world later_world seat world_kept kept (Resolving address before next) index) (root_stays config world later_world seat world_kept _ index (own_facts.roots index index_low))

      -- where it goes on resolving
      mine_at : (spot : ResolveSpot) → resolves.is_ended spot ≡ false → ResolvesAlone config later_world seat address spot → Mine config later_world (at_spot (Resolving address spot next)) command fixed
      mine_at spot spot_going alone = record {
        seated = seated_stays config world later_world seat world_kept made false own_facts.seated;
        ready = resolving_ready config later_world seat made kept address spot next shared alone.can spot_going;
        marking = marking_then spot alone;
        copying = copying_then spot alone;
        roots = roots_then;
        rooms = (resolves_by config later_world seat address spot shared alone.can).rooms;
        facts = (alone.can, resolved_stays config world later_world seat world_kept kept.command command fixed address next own_facts.facts.1);
      }

      -- what it counts on after a step
      mine_then : (spot : ResolveSpot) → ResolvesAlone config later_world seat address spot → Mine config later_world (at_spot (after_resolve address next spot)) command fixed
      mine_then (Resolved answer) alone =
          mine_resolved config later_world seat made kept command shared (seated_stays config world later_world seat world_kept made false own_facts.seated) (marking_then (Resolved answer) alone) (copying_then (Resolved answer) alone) (resolves_by config later_world seat address (Resolved answer) shared alone.can).rooms
          fixed address answer next (resolving_answers config later_world seat address answer alone.can) roots_then (resolved_stays config world later_world seat world_kept kept.command command fixed address next own_facts.facts.1)
      mine_then spot alone = mine_at spot refl alone

  -- each step
  pub at_resolve : (spot : ResolveSpot) (address : ℕ) (next : Loaded) → Row config world (at_spot (Resolving address spot next)) command fixed
  at_resolve spot address next shared mine =
      let step = resolving_step config world seat address kept.phase spot (going_now spot address next mine) shared (mine.marking.phase_is refl) (record { can = mine.facts.0; working = mine.copying.works_none }) in
      record {
        world = step.world;
        memory = step.memory;
        graph = step.graph;
        legal = tt;
        settles = λ settled_reply reply_settled. cc;
        shared = step.shared;
        mine = mine_then spot address next mine step.world step.shared step.keeps (resolves.next_at config address kept.phase spot (world.memory (resolves.touch_at config seat address spot).word)) step.own;
        others = step.others;
      }
