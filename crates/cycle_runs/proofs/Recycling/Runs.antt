-- In each stage that events lead to no region that is free is held.
use Rattle.std.proofs.Common.{◌≡◌, ◌≢◌, ℕ, ◌+◌, ◌<◌, ⊎_elim, List, [], Option, Some, None, get_or, refl, sym, ap, ◌∙◌, subst, arith}
use Rattle.std.specs.Prelude.{◌-◌}
use Rattle.std.proofs.lemmas.Option.{slice_get-get_or, none-some}
use Rattle.heap_words.specs.declared.config.Config.{Config}
use Rattle.heap_words.specs.Encoding.{end_in}
use Rattle.heap_words.specs.Words.{Cset, Evac, Free, Top, Current, Pin, Answer, Heap}
use Rattle.regions.specs.Place.{IsOf}
use Rattle.regions.specs.Sets.{IsIn}
use Rattle.heap_words.specs.Steps.{Stage, go}
use Rattle.shen_graph.specs.declared.name.Name.{Name}
use Rattle.shen_graph.specs.declared.pin.Pinned.{Pinned}
use Rattle.shen_graph.specs.declared.command.Command.{Command}
use Rattle.shen_graph.specs.declared.command.Reply.{Reply}
use Rattle.shen_graph.specs.declared.command.Reply.TheVariants.{Ref, Full}
use Rattle.shen_graph.specs.Graph.{Graph}
use Rattle.shen_graph.specs.History.{Entry, after, of_thread}
use Rattle.regions.proofs.PlaceLemmas.{regions_tile}
use Rattle.alloc_buffers.specs.declared.spot.TakeSpot.{TakeSpot}
use Rattle.alloc_buffers.specs.declared.spot.TakeSpot.TheVariants as take
use Rattle.alloc_buffers.specs.Facts.{IsTaken, TakeFacts}
use Rattle.heap_world.specs.World.{World, thing, moved, Body, body_at, PinStands, Shared}
use Rattle.heap_world.proofs.Pointing.{copy_cases}
use Rattle.heap_world.specs.Asking.{Asking, nothing, asks, refused, given, IsAsked}
use Rattle.unit_part.specs.declared.spot.UnitSpot.{UnitSpot}
use Rattle.unit_part.specs.declared.spot.UnitSpot.TheVariants as unit
use Rattle.collector_rows.specs.declared.help_spot.HelpSpot.{HelpSpot}
use Rattle.collector_rows.specs.declared.help_spot.HelpSpot.TheVariants as help
use Rattle.collector_rows.specs.declared.control_spot.ControlSpot.{ControlSpot}
use Rattle.collector_rows.specs.declared.control_spot.ControlSpot.TheVariants as control
use Rattle.mutator.specs.declared.spot.Kept.{Kept}
use Rattle.mutator.specs.declared.spot.Spot.{Spot}
use Rattle.mutator.specs.declared.spot.Spot.TheVariants.{Waiting}
use Rattle.mutator.specs.declared.waits.WaitSpot.TheVariants as wait
use Rattle.mutator.specs.Rows.{Mutating}
use Rattle.step_core.specs.Actor.{Machine, mutating, helping, controlling, Actor}
use Rattle.step_core.specs.History.{history}
use Rattle.step_core.specs.Machines.{kind}
use Rattle.step_core.specs.Own.{root_now}
use Rattle.step_core.specs.Settled.{settled}
use Rattle.step_core.specs.Sound.{world_of, IsMutator, StandsFor}
use Rattle.step_core.specs.Seats.{HasTaken}
use Rattle.step_core.proofs.Machines.Stepped.{Mine}
use Rattle.step_core.proofs.Theorem.Beginning.{goes_begins}
use Rattle.step_core.proofs.Machines.Owed.{CanWork, HelpFacts, ControlFacts, IsMachine, IsThread}
use Rattle.step_core.proofs.Theorem.Stands.{thread_of as thread_there, stands as stands_there}
use Rattle.step_core.proofs.Theorem.Induction.{Goes, goes_run}
use Rattle.step_core.proofs.Machines.Requests.{has_asked}
use Rattle.step_core.proofs.Machines.Roles.{mutator_there}
use Rattle.step_core.proofs.Machines.Seats.{in_seat}
use Rattle.step_core.proofs.Mutators.Spots.{mutator_at}
use Rattle.cycle_runs.specs.Recycling.InHand.{IsTakeRegion, IsUnitHand, IsHelpHand, IsControlHand, IsInHandOf}
use Rattle.cycle_runs.specs.Recycling.Held.{IsHeld, FreeIsNotHeld, FreeIsNotHeldInRuns}
use Rattle.cycle_runs.proofs.Recycling.Free.{IsElsewhere, piece_elsewhere, null_elsewhere, target_elsewhere, points_elsewhere}
use Rattle.cycle_runs.proofs.Recycling.PartHands.{scan_hand, evac_hand, update_hand}
use Rattle.cycle_runs.proofs.Recycling.Mutators.{mutator_hand}

module _ (config : Config) (world : World) (shared : Shared config world) (free_region : ℕ) (region_below : free_region < config.regions) (region_free : IsIn (world.memory Free) free_region) where
  -- an address does not lie there
  abbrev IsApart : ℕ → Type 0
  IsApart address = IsElsewhere config world shared free_region region_below region_free address

  -- what a helper and the control have in hand does not
  unit_hand : (seat : ℕ) (spot : UnitSpot) → CanWork config world seat spot → (address : ℕ) → IsUnitHand config spot address → IsApart address
  unit_hand seat (unit.Scanning spot) can_work address in_hand = scan_hand config world shared free_region region_below region_free seat spot can_work.0 address in_hand
  unit_hand seat (unit.Evacuating cset spot) can_work address in_hand = evac_hand config world shared free_region region_below region_free seat cset spot can_work address in_hand
  unit_hand seat (unit.Updating cset spot) can_work address in_hand = update_hand config world shared free_region region_below region_free seat cset spot can_work address in_hand
  unit_hand seat (unit.Ended ended) can_work address in_hand = absurd in_hand

  help_hand : (seat : ℕ) (spot : HelpSpot) → HelpFacts config world seat spot → (address : ℕ) → IsHelpHand config spot address → IsApart address
  help_hand seat (help.Working spot) facts address in_hand = unit_hand seat spot facts address in_hand
  help_hand seat _ facts address in_hand = absurd in_hand

  control_hand : (seat : ℕ) (spot : ControlSpot) → ControlFacts config world seat spot → (address : ℕ) → IsControlHand config spot address → IsApart address
  control_hand seat (control.Working spot) facts address in_hand = unit_hand seat spot facts address in_hand
  control_hand seat _ facts address in_hand = absurd in_hand

  -- a buffer has words in use, so that it does not
  pub buffer_apart : (seat : ℕ) → world.memory (Current seat) ≢ 0 → IsApart (end_in (world.memory (Current seat)) - 1)
  buffer_apart seat some_buffer of_region =
      let buffer = shared.owned.buffers.each seat some_buffer in
      let some_words = buffer.some in
      let to_top = buffer.to_top in
      let top_within = shared.parsable.plotted.tops buffer.region buffer.within in
      let last_word : ℕ = end_in (world.memory (Current seat)) - 1 in
      let same_region : buffer.region ≡ free_region =
      sym (regions_tile.of_no_other config buffer.region last_word (record { from = omega (arith, some_words); before = omega (arith, some_words, to_top, top_within) })) ∙ regions_tile.of_no_other config free_region last_word of_region in
      let no_top : world.memory (Top buffer.region) ≡ 0 = ap (λ region. world.memory (Top region)) same_region ∙ shared.owned.free_word.empty free_region region_below region_free in
      omega (arith, some_words, to_top, no_top)

  -- a region that is taken is not free
  not_own : (seat region : ℕ) → IsTaken config world seat region → free_region ≡ region → ⊥
  not_own seat region region_taken same_region = none-some seat (sym (shared.owned.free_word.nobodys free_region region_below region_free) ∙ ap world.ghost.owner same_region ∙ region_taken.own)

  -- nor is it one that a machine is about to carve, or has taken
  pub take_region : (seat words : ℕ) (spot : TakeSpot) → TakeFacts config world seat words spot → IsTakeRegion spot free_region → ⊥
  take_region seat words (take.LoadTop buffer region) facts takes_it = facts.1.in_use (subst (λ any_region. IsIn (world.memory Free) any_region) takes_it region_free)
  take_region seat words (take.Carve buffer region top room) facts takes_it = facts.1.in_use (subst (λ any_region. IsIn (world.memory Free) any_region) takes_it region_free)
  take_region seat words (take.ShareRegion buffer shared_word region) facts takes_it = not_own seat region facts.1 takes_it
  take_region seat words (take.GiveBack buffer region) facts takes_it = not_own seat region facts.1 takes_it
  take_region seat words _ facts takes_it = absurd takes_it

  -- nor does what any machine has
  pub machine_hand : (words : List ℕ) (entries : List Entry) (number : ℕ) (actor : Actor) (machine : Machine) → IsMachine config words world entries number actor machine → (address : ℕ) → IsInHandOf config machine address → IsApart address
  machine_hand words entries number actor (mutating mutator) facts address in_hand = mutator_hand config world shared free_region region_below region_free mutator.seat mutator.made mutator.kept actor.command facts.fixed mutator.spot facts.mine.facts address in_hand
  machine_hand words entries number actor (helping helper) facts address in_hand = help_hand number helper.spot facts.facts address in_hand
  machine_hand words entries number actor (controlling controller) facts address in_hand = control_hand number controller.spot facts.facts address in_hand

  -- where an answer leads
  pub answer_apart : (mutator : ℕ) (asking : Asking) → IsAsked world.memory world.block world.graph.count mutator asking → 1 < world.memory (Answer mutator) → IsApart (world.memory (Answer mutator))
  answer_apart mutator nothing asked_facts address_answer = absurd (omega (arith, asked_facts.1, address_answer))
  answer_apart mutator (asks refs nums) asked_facts address_answer = absurd (omega (arith, asked_facts.1, address_answer))
  answer_apart mutator refused asked_facts address_answer = absurd (omega (arith, asked_facts.1, address_answer))
  answer_apart mutator (given refs nums) asked_facts address_answer = piece_elsewhere config world shared free_region region_below region_free (world.memory (Answer mutator)) _ asked_facts.2.here

  -- what a slot holds
  pub pin_apart : (word : ℕ) (held_pin : Option Pinned) → PinStands config (world.memory Cset) (world.memory Evac) world.block word held_pin → IsApart word
  pin_apart word None pin_stands = null_elsewhere config world shared free_region region_below region_free word pin_stands
  pin_apart word (Some pinned) pin_stands = target_elsewhere config world shared free_region region_below region_free word pin_stands.1 pin_stands.2 pinned.name pin_stands.3

  -- of what was taken
  taken_apart : (seat : ℕ) (reply : Reply) → HasTaken config world seat reply → 1 < world.memory (Answer seat) → IsApart (world.memory (Answer seat))
  taken_apart seat (Ref name) answer_taken address_answer = target_elsewhere config world shared free_region region_below region_free (world.memory (Answer seat)) answer_taken.0 answer_taken.1 name answer_taken.2
  taken_apart seat Full taken_full address_answer = absurd (omega (arith, taken_full, address_answer))
  taken_apart seat _ taken_reply address_answer = absurd taken_reply

  -- also while the mutator is about to clear it
  pub answered_apart : (seat made : ℕ) (kept_words : Kept) (command : Command) (fixed : Option Reply) (spot : Spot) → Mine config world (mutator_at seat made kept_words spot) command fixed → 1 < world.memory (Answer seat)
      → IsApart (world.memory (Answer seat))
  answered_apart seat made kept_words command fixed (Waiting (wait.ClearAnswer reply)) own_facts address_answer = taken_apart seat reply own_facts.facts.3 address_answer
  answered_apart seat made kept_words command fixed spot own_facts address_answer =
      let mutator_asked = has_asked config world seat made kept_words command fixed spot refl own_facts in
      answer_apart seat mutator_asked.asking mutator_asked.is address_answer

  -- what a field of a current copy names
  field_apart : (address refs nums field : ℕ) (name : Name) → world.block address ≡ Some (thing name refs nums) → field < refs → IsApart (world.memory (Heap (address + 3 + field)))
  field_apart address refs nums field name thing_there field_below =
      let object = shared.contents.objects.each address refs nums name thing_there in
      let reference_there = slice_get-get_or object.0.refs field None (let refs_length = object.2.refs_are in omega (arith, field_below, refs_length)) in
      points_elsewhere config world shared free_region region_below region_free (world.memory (Heap (address + 3 + field))) (get_or object.0.refs field None) (object.2.references field (get_or object.0.refs field None) reference_there)

  -- and what one of an old copy does
  old_apart : (address refs nums copy_address field : ℕ) (name : Name) → world.block address ≡ Some (moved name refs nums copy_address) → field < refs → IsApart (world.memory (Heap (address + 3 + field)))
  old_apart address refs nums copy_address field name moved_there field_below =
      let reference_there = (shared.evacuated.moved.moveds address refs nums copy_address name moved_there).references field field_below in
      points_elsewhere config world shared free_region region_below region_free (world.memory (Heap (address + 3 + field))) reference_there.0 reference_there.1

  pub copy_apart : (address field : ℕ) (body : Body) → body_at (world.block address) ≡ Some body → field < body.refs → IsApart (world.memory (Heap (address + 3 + field)))
  copy_apart address field body body_there field_below = ⊎_elim
      (λ thing_now. field_apart address body.refs body.nums field body.name thing_now field_below)
      (λ moved_before. old_apart address body.refs body.nums moved_before.0 field body.name moved_before.1 field_below)
      (copy_cases (world.block address) body body_there)

-- What a stage says in which all goes as it should.
module _ (config : Config) (graph : Graph) (stage : Stage Actor) (entries : List Entry) (goes_well : Goes config graph stage entries) where
  abbrev the_world : World
  the_world = world_of config stage goes_well.follows.block goes_well.follows.ghost (after graph entries)

  -- of a mutator
  thread_of : (number : ℕ) (actor : Actor) (mutator : Mutating) → IsMutator stage number actor mutator → IsThread config stage.words the_world (of_thread entries (number + 1)) number actor mutator
  thread_of = thread_there config graph stage entries goes_well

  -- words and machines stand for the graph
  abbrev stands : StandsFor config stage (after graph entries)
  stands = stands_there config graph stage entries goes_well

  -- no free region is held
  not_held : (region : ℕ) → region < config.regions → IsIn (settled config stage Free) region → IsHeld config the_world stage.machines region → ⊥
  not_held region region_below region_free (IsHeld.by_root number index actor mutator machine_there it_is index_below of_region) =
      let thread = thread_of number actor mutator (record { here = machine_there; is = it_is }) in
      points_elsewhere config the_world goes_well.follows.shared region region_below region_free (root_now the_world mutator.seat mutator.kept mutator.spot index) (the_world.graph.root (mutator.seat + 1) index) (thread.mine.roots index index_below) of_region
  not_held region region_below region_free (IsHeld.by_pin mutator slot index_below few_slots of_region) =
      pin_apart config the_world goes_well.follows.shared region region_below region_free (the_world.memory (Pin mutator slot)) (the_world.graph.pin (mutator + 1) slot) (goes_well.follows.shared.pinned mutator slot index_below few_slots) of_region
  not_held region region_below region_free (IsHeld.by_answer t index_below some_words of_region) =
      let thread_or_body = mutator_there config stage.words the_world entries stage.machines goes_well.follows.seats goes_well.follows.machines t index_below in
      let thread = thread_or_body.4 in
      let seat_answered = thread_or_body.1 in
      subst (λ seat. 1 < the_world.memory (Answer seat) → IsOf config region (the_world.memory (Answer seat)) → ⊥) thread.number_is
      (answered_apart config the_world goes_well.follows.shared region region_below region_free seat_answered.seat seat_answered.made seat_answered.kept thread_or_body.0.command thread.fixed seat_answered.spot thread.mine) some_words of_region
  not_held region region_below region_free (IsHeld.by_field held_address field body it_is index_below of_region) = copy_apart config the_world goes_well.follows.shared region region_below region_free held_address field body it_is index_below of_region
  not_held region region_below region_free (IsHeld.by_hand number held_address holder machine_there hand_is of_region) =
      machine_hand config the_world goes_well.follows.shared region region_below region_free stage.words (of_thread entries (number + 1)) number holder holder.machine (goes_well.follows.machines number holder machine_there) held_address hand_is of_region
  not_held region region_below region_free (IsHeld.by_carried number holder carried body machine_there carries thread_or_body from index_below of_region) =
      let seat_stands = (in_seat config stage.words the_world (of_thread entries (number + 1)) number holder holder.machine (goes_well.follows.machines number holder machine_there)).carries carried carries in
      let word : carried.word ≡ the_world.memory (Heap (carried.object + 3 + (carried.index - 3))) = seat_stands.same ∙ ap (λ address. the_world.memory (Heap address)) (omega (arith, from)) in
      copy_apart config the_world goes_well.follows.shared region region_below region_free carried.object (carried.index - 3) body thread_or_body (omega (arith, from, index_below)) (subst (IsOf config region) word of_region)
  not_held region region_below region_free (IsHeld.by_piece held_address holder it_is of_region) = piece_elsewhere config the_world goes_well.follows.shared region region_below region_free held_address holder it_is of_region
  not_held region region_below region_free (IsHeld.by_share it_is) = (goes_well.follows.shared.owned.shared_one region it_is).in_use region_free
  not_held region region_below region_free (IsHeld.by_buffer seat some_words of_region) = buffer_apart config the_world goes_well.follows.shared region region_below region_free seat some_words of_region
  not_held taken_region region_below region_free (IsHeld.by_taking number holder t machine_there takes region) =
      take_region config the_world goes_well.follows.shared taken_region region_below region_free number t.words t.take
      ((in_seat config stage.words the_world (of_thread entries (number + 1)) number holder holder.machine (goes_well.follows.machines number holder machine_there)).takes t takes) region

  pub free_is_not_held : FreeIsNotHeld config stage (after graph entries)
  free_is_not_held = record { stands = stands; not_held = not_held }

pub free_is_not_held_in_runs : FreeIsNotHeldInRuns
free_is_not_held_in_runs change law config stage graph begins events =
    free_is_not_held config graph (go (kind change config) stage events) (history change config stage events) (goes_run change law config graph stage [] events (goes_begins config stage graph begins))
