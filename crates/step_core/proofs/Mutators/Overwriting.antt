-- A mutator that overwrites a reference, while objects are marked and in other phases: it takes the reference in hand, to record it, or
-- marking needs the field no more.
use Rattle.heap_words.specs.Phases.{marking_phase}
use Rattle.std.proofs.Common.{◌≡◌, ◌≢◌, ℕ, ◌+◌, ◌^◌, ◌<◌, ⊎_elim, inl, inr, true, false, Option, None, refl, sym, ◌∙◌, arith}
use Rattle.std.specs.Prelude.{◌==◌, nat_lt, if◌then◌else◌}
use Rattle.std.proofs.lemmas.Bool.{and_from, and_parts, cases_Bool, eqb-true, eqb-false, lt-ltb, ltb-true}
use Rattle.std.proofs.lemmas.Bool.Decides.{nat_tests}
use Rattle.heap_words.specs.declared.config.Config.{Config}
use Rattle.heap_words.specs.Words.{Phase, Top, Heap}
use Rattle.heap_words.proofs.Stores.{is_word_from}
use Rattle.heap_words.specs.Fits.{form_fits}
use Rattle.shen_graph.specs.declared.command.Command.{Command}
use Rattle.shen_graph.specs.declared.command.Reply.{Reply}
use Rattle.shen_graph.specs.declared.order.Order.TheVariants.{Nothing}
use Rattle.shen_graph.specs.Graph.{Reference, Graph}
use Rattle.satb_barrier.specs.declared.spot.RememberSpot.{RememberSpot}
use Rattle.satb_barrier.specs.declared.spot.RememberSpot.TheVariants.{LoadCount, LoadEntry, MarkEntry, ClearCount, StoreEntry, StoreCount, Recorded}
use Rattle.satb_barrier.specs.Rows as satb
use Rattle.cycle_steps.specs.Recording.{CanRecord}
use Rattle.cycle_steps.specs.Laws.{with_in_hand, TakesInHand}
use Rattle.cycle_steps.proofs.MarkedMore.{markable_word}
use Rattle.cycle_steps.proofs.Parts.{recording_steps}
use Rattle.mutator.specs.declared.spot.Kept.{Kept}
use Rattle.mutator.specs.declared.spot.Spot.TheVariants.{Recording}
use Rattle.mutator.specs.declared.overwrites.Overwritten.{Overwritten}
use Rattle.mutator.specs.Fit.{is_ready}
use Rattle.mutator.specs.Rows.{Mutating, is_to_record}
use Rattle.heap_world.specs.World.{World, thing, promised, Points, IsMarkable, IsCovered, Shared}
use Rattle.heap_world.proofs.Marked.{same_marks}
use Rattle.heap_world.proofs.Objects.{stored}
use Rattle.heap_world.proofs.Unmoved.{unmoved}
use Rattle.heap_world.proofs.Pointing.{named_thing, named_if_not_0, piece_small}
use Rattle.step_core.proofs.Machines.Stepped.{HasMarkingBy, Stepped}
use Rattle.step_core.proofs.Mutators.WhileMarking.{covered_found, covered_unmarked, rely_twice}
use Rattle.step_core.proofs.Machines.Ready.{number_small, no_hand}
use Rattle.alloc_buffers.specs.Facts.{OnlySpares}

-- the address of an object is small
markable_small : (config : Config) (world : World) (address : ℕ) → Shared config world → IsMarkable world.block address → address < 2 ^ 32
markable_small config world address shared (IsMarkable.object name refs nums object_there) = piece_small config (λ region. world.memory (Top region)) world.block shared.parsable.plotted address (thing name refs nums) object_there
markable_small config world address shared (IsMarkable.to_come seat words object_there) = piece_small config (λ region. world.memory (Top region)) world.block shared.parsable.plotted address (promised seat words) object_there

-- the numbers of the accesses by which a mutator records an address are words
remember_numbers : (config : Config) (world : World) (seat address : ℕ) (spot : RememberSpot) → Shared config world → CanRecord config world seat address spot → form_fits (satb.touch_at config seat address spot).form ≡ true
remember_numbers config world seat address LoadCount shared recordable = refl
remember_numbers config world seat address (LoadEntry entry) shared recordable = refl
remember_numbers config world seat address (MarkEntry entry found) shared recordable = lt-ltb _ _ (omega arith)
remember_numbers config world seat address ClearCount shared recordable = refl
remember_numbers config world seat address (StoreEntry entry) shared recordable = number_small address (markable_small config world address shared recordable.markable)
remember_numbers config world seat address (StoreCount entry) shared recordable = number_small (entry + 1) (let entry_below = recordable.words.facts.1 in omega (arith, entry_below))
remember_numbers config world seat address Recorded shared recordable = refl

-- a recording that goes on has not ended
still_records : (spot : RememberSpot) → satb.is_ended spot ≡ false → (if satb.is_ended spot then false else true) ≡ true
still_records spot spot_going = rw spot_going refl

-- the accesses can be made
pub record_ready : (config : Config) (world : World) (seat made : ℕ) (kept : Kept) (spot : RememberSpot) (address : ℕ) (next : Overwritten) → satb.is_ended spot ≡ false → Shared config world → CanRecord config world seat address spot
    → is_ready config seat made kept (Recording spot address next) ≡ true
record_ready config world seat made kept spot address next spot_going shared recordable =
    and_from _ _
    (and_from _ _ (is_word_from config (satb.touch_at config seat address spot).word ((recording_steps.steps config seat address).stands world spot tt recordable).inside) (remember_numbers config world seat address spot shared recordable))
    (and_from _ _ (still_records spot spot_going) (and_from _ _ recordable.words.ready (is_word_from config (Heap address) (markable_word config world address shared recordable.markable))))

-- what is recorded in a phase is not null, and the phase is 1
pub recorded_some : (phase got : ℕ) → is_to_record phase got ≡ true → (phase ≡ marking_phase) × (got ≢ 0)
recorded_some phase got to_record =
    let both_parts = and_parts (phase == marking_phase) (nat_lt 0 got) to_record in
    (eqb-true _ _ both_parts.0, λ null. (let not_zero = ltb-true _ _ both_parts.1 in omega (arith, null, not_zero)))

-- what is not recorded while objects are marked is null
null_unrecorded : (phase got : ℕ) → is_to_record phase got ≡ false → (phase == marking_phase) ≡ true → got ≡ 0
null_unrecorded phase got not_recorded marking_phase = grind (arith, nat_tests)

-- A mutator that overwrites the reference of a field takes it in hand and can record it, or need not: marking needs the field no more.
pub data Overwrites (config : Config) (world : World) (seat phase object field got : ℕ) : Type 0 where
  takes : is_to_record phase got ≡ true → TakesInHand config world seat got → IsCovered config (with_in_hand world seat got) object field → Overwrites config world seat phase object field got
  leaves : is_to_record phase got ≡ false → IsCovered config world object field → Overwrites config world seat phase object field got

-- so it is with each reference that a field of an object has
pub overwrites_of : (config : Config) (world : World) (seat phase object field : ℕ) (reference : Reference) → seat < config.mutators → Shared config world → HasMarkingBy world seat None phase true → OnlySpares world seat
    → Points world.block (world.memory (Heap (object + 3 + field))) reference → Overwrites config world seat phase object field (world.memory (Heap (object + 3 + field)))
overwrites_of config world seat phase object field reference seat_below shared marking only_spares stands = let got : ℕ = world.memory (Heap (object + 3 + field)) in ⊎_elim
    (λ (records : is_to_record phase got ≡ true).
    let recorded = recorded_some phase got records in
    let named = named_if_not_0 config (λ region. world.memory (Top region)) world.block shared.parsable.plotted got reference stands recorded.1 in
    let marking_phase : world.memory Phase ≡ marking_phase = sym (marking.phase_is refl) ∙ recorded.0 in
    let piece = named_thing (world.block got) named.0 (λ refs nums target moved_there. unmoved config world shared (omega (arith, marking_phase)) got refs nums target named.0 moved_there) named.2 in
    let recordable = recording_steps.begins config world seat got seat_below marking_phase (IsMarkable.object named.0 piece.0 piece.1 piece.2) marking.records marking.scans (no_hand world seat only_spares) shared in
    Overwrites.takes records recordable (covered_found config world (with_in_hand world seat got) object field shared recordable.keeps.marks (inr recordable.noted)))
    (λ (not_recorded : is_to_record phase got ≡ false). Overwrites.leaves not_recorded (⊎_elim
    (λ (marking_phase : (phase == marking_phase) ≡ true). covered_found config world world object field shared (same_marks config world seat).keeps (inl (null_unrecorded phase got not_recorded marking_phase)))
    (λ (not_marking : (phase == marking_phase) ≡ false). covered_unmarked config world object field shared (λ marking_phase. eqb-false _ _ not_marking (marking.phase_is refl ∙ marking_phase)))
    (cases_Bool (phase == marking_phase))))
    (cases_Bool (is_to_record phase got))

-- What a step owes from the world in which the mutator has the reference in hand, it owes from that in which it takes it.
pub stepped_in_hand : (config : Config) (world : World) (mutator : Mutating) (got : ℕ) (command : Command) (fixed : Option Reply) → TakesInHand config world mutator.seat got → Stepped config (with_in_hand world mutator.seat got) mutator command Nothing fixed
    → Stepped config world mutator command Nothing fixed
stepped_in_hand config world mutator got command fixed in_hand step = record {
  world = step.world;
  memory = step.memory;
  graph = step.graph;
  legal = step.legal;
  settles = step.settles;
  shared = step.shared;
  mine = step.mine;
  others = λ seat differs. rely_twice config seat world (with_in_hand world mutator.seat got) step.world in_hand.own.phase (in_hand.others seat differs) (step.others seat differs);
}

-- a mutator that can record an address still can after a store into an object
pub can_stored : (config : Config) (world : World) (seat recorded stored_address value : ℕ) (graph : Graph) → CanRecord config world seat recorded LoadCount → CanRecord config (stored world stored_address value graph) seat recorded LoadCount
can_stored config world seat recorded stored_address value graph recordable = record {
  seated = recordable.seated;
  phase = recordable.phase;
  markable = recordable.markable;
  recording = recordable.recording;
  scanning = recordable.scanning;
  hands = recordable.hands;
  words = record { buffer = record { few = recordable.words.buffer.few; addresses = recordable.words.buffer.addresses }; ready = refl; facts = tt };
}
