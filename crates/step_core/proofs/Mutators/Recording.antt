-- The steps by which a mutator records what it overwrites: what recording owes is what their places owe.
use Rattle.heap_words.specs.Phases.{marking_phase}
use Rattle.std.proofs.Common.{◌≡◌, ℕ, ◌+◌, ◌<◌, true, false, Option, Some, None, refl, sym, ◌∙◌, subst, arith, ap}
use Rattle.std.specs.Prelude.{if◌then◌else◌}
use Rattle.std.proofs.lemmas.Bool.{and_parts, false≢true}
use Rattle.heap_words.specs.declared.config.Config.{Config}
use Rattle.heap_words.specs.Fits.{touch_fits}
use Rattle.shen_graph.specs.declared.command.Command.{Command}
use Rattle.shen_graph.specs.declared.command.Reply.{Reply}
use Rattle.shen_graph.specs.declared.command.Reply.TheVariants as reply
use Rattle.satb_barrier.specs.declared.spot.RememberSpot.{RememberSpot}
use Rattle.satb_barrier.specs.declared.spot.RememberSpot.TheVariants.{Recorded}
use Rattle.satb_barrier.specs.Rows as satb
use Rattle.cycle_steps.specs.Recording.{CanRecord}
use Rattle.cycle_steps.proofs.Parts.{recording_steps}
use Rattle.mutator.specs.declared.spot.Kept.{Kept}
use Rattle.mutator.specs.declared.spot.Spot.{Spot}
use Rattle.mutator.specs.declared.spot.Spot.TheVariants.{Recording, Leave}
use Rattle.mutator.specs.declared.overwrites.Overwritten.{Overwritten}
use Rattle.mutator.specs.declared.overwrites.Overwritten.TheVariants as overwrites
use Rattle.mutator.specs.Commands.{dst_of}
use Rattle.mutator.specs.Fit.{remember_fits}
use Rattle.mutator.specs.Rows.{Mutating, after_recording, after_remember}
use Rattle.heap_world.specs.World.{World, Points, Shared}
use Rattle.heap_world.specs.Rely.{Keeps}
use Rattle.heap_world.specs.Part.{SameWork}
use Rattle.heap_world.proofs.Unmoved.{usable_unmoved}
use Rattle.heap_words.specs.Words.{Phase}
use Rattle.step_core.proofs.Mutators.Evacuating.{copying_kept}
use Rattle.step_core.specs.Own.{root_now, root_recording}
use Rattle.step_core.proofs.Machines.Stepped.{IsSeatedIn, HasMarkingBy, HasCopyingBy, RecordFacts, Mine, Row}
use Rattle.step_core.proofs.Mutators.Spots.{mutator_at}
use Rattle.step_core.proofs.Machines.Stable.{root_stays, now_stays, record_stays, seated_stays}
use Rattle.step_core.proofs.Mutators.Fields.{store_ready}
use Rattle.step_core.proofs.Mutators.InHand.{field_mine}
use Rattle.step_core.proofs.Mutators.Overwriting.{record_ready}
use Rattle.step_core.proofs.Machines.Ready.{leaving}
use Rattle.alloc_buffers.specs.Facts.{OnlySpares}

module _ (config : Config) (world : World) (seat made : ℕ) (kept : Kept) (command : Command) (fixed : Option Reply) where
  abbrev at_spot : Spot → Mutating
  at_spot spot = mutator_at seat made kept spot

  module _ (before : RememberSpot) (address : ℕ) (next : Overwritten) (own_facts : Mine config world (at_spot (Recording before address next)) command fixed) where
    -- it has not ended
    going_now : satb.is_ended before ≡ false
    going_now = still before (and_parts _ _ (and_parts (touch_fits config (satb.touch_at config seat address before)) (remember_fits config address before) own_facts.ready).1).0
      where
        still : (spot : RememberSpot) → (if satb.is_ended spot then false else true) ≡ true → satb.is_ended spot ≡ false
        still Recorded spot_going = absurd (false≢true spot_going)
        still _ spot_going = refl

    module _ (next_world : World) (shared : Shared config next_world) (world_kept : Keeps config seat world next_world) (same_block : next_world.block ≡ world.block) where
      -- what it counts on of marking then
      marking_then : (spot : RememberSpot) → (in_hand : Option ℕ) → CanRecord config next_world seat address spot → next_world.ghost.recording seat ≡ in_hand → HasMarkingBy next_world seat in_hand kept.phase true
      marking_then spot in_hand recordable records = record { records = records; scans = recordable.scanning; phase_is = λ marking_phase. own_facts.marking.phase_is refl ∙ sym world_kept.marks.phase }

      -- and of evacuation
      copying_then : SameWork world next_world seat → HasCopyingBy next_world seat false kept.cset true
      copying_then work = copying_kept config world next_world seat false kept.cset true work world_kept.copies own_facts.copying

      -- its roots stand for its thread's
      roots_then : (index : ℕ) → index < 16 → Points next_world.block (root_now next_world seat kept (Recording before address next) index) (next_world.graph.root (seat + 1) index)
      roots_then index index_low = rw (now_stays config world next_world seat world_kept kept (Recording before address next) index) (root_stays config world next_world seat world_kept _ index (own_facts.roots index index_low))

      -- where it goes on recording
      mine_at : (spot : RememberSpot) → satb.is_ended spot ≡ false → next_world.ghost.recording seat ≡ Some address → CanRecord config next_world seat address spot → SameWork world next_world seat
          → Mine config next_world (at_spot (Recording spot address next)) command fixed
      mine_at spot spot_going records recordable work = record {
        seated = seated_stays config world next_world seat world_kept made false own_facts.seated;
        ready = record_ready config next_world seat made kept spot address next spot_going shared recordable;
        marking = marking_then spot (Some address) recordable records;
        copying = copying_then work;
        roots = roots_then;
        rooms = λ address piece piece_there. own_facts.rooms address piece (ap (λ plot. plot address) (sym same_block) ∙ piece_there);
        facts = (recordable, record_stays config world next_world seat world_kept kept.command command fixed address next own_facts.facts.1);
      }

  module _ (later_world : World) (seated : IsSeatedIn config later_world seat made false) (marking : HasMarkingBy later_world seat None kept.phase true) (copying : HasCopyingBy later_world seat false kept.cset true) (marking_phase : later_world.memory Phase ≡ marking_phase) (only_spares : OnlySpares later_world seat) (shared : Shared config later_world) where
    -- where it goes on once the address is recorded
    mine_recorded : (address : ℕ) (next : Overwritten) → ((index : ℕ) → index < 16 → Points later_world.block (root_recording later_world seat (dst_of kept.command) address next index) (later_world.graph.root (seat + 1) index))
        → RecordFacts config later_world seat kept.command command fixed address next → Mine config later_world (at_spot (after_recording address next)) command fixed
    mine_recorded address (overwrites.Set object value) roots facts = record {
      seated = seated;
      ready = store_ready config later_world seat made kept object value facts.1.obj facts.1.val shared facts.1.of facts.1.below facts.1.value_is.stands;
      marking = marking;
      copying = copying;
      roots = roots;
      rooms = only_spares;
      facts = facts;
    }
    mine_recorded address overwrites.Xchg roots found =
        subst (λ fixed. Mine config later_world (at_spot (after_recording address overwrites.Xchg)) command fixed) (sym found.settled)
        (field_mine config later_world seat made kept command address (Some found.name) shared seated marking copying found.small roots only_spares found.is
        (usable_unmoved config later_world shared (omega (arith, marking_phase)) address (Some found.name) found.is))
    mine_recorded address overwrites.Cas roots settled =
        subst (λ fixed. Mine config later_world (at_spot (Leave reply.Yes)) command fixed) (sym settled) (leaving config later_world seat made kept command reply.Yes seated (marking.records, marking.scans, copying.copies_is, copying.works_none) roots only_spares)

  module _ (before : RememberSpot) (address : ℕ) (next : Overwritten) (own_facts : Mine config world (at_spot (Recording before address next)) command fixed) where
    -- what it counts on after a step
    mine_then : (spot : RememberSpot) (next_world : World) → Shared config next_world → Keeps config seat world next_world → next_world.block ≡ world.block → CanRecord config next_world seat address spot → SameWork world next_world seat → Mine config next_world (at_spot (after_remember address next spot)) command fixed
    mine_then Recorded next_world shared world_kept same_block recordable work =
        mine_recorded next_world (seated_stays config world next_world seat world_kept made false own_facts.seated) (marking_then before address next own_facts next_world shared world_kept same_block Recorded None recordable recordable.recording) (copying_then before address next own_facts next_world shared world_kept same_block work) recordable.phase
        (λ address piece piece_there. own_facts.rooms address piece (ap (λ plot. plot address) (sym same_block) ∙ piece_there)) shared address next
        (roots_then before address next own_facts next_world shared world_kept same_block) (record_stays config world next_world seat world_kept kept.command command fixed address next own_facts.facts.1)
    mine_then spot next_world shared world_kept same_block recordable work = mine_at before address next own_facts next_world shared world_kept same_block spot refl recordable.recording recordable work

  -- each step
  pub at_record : (spot : RememberSpot) (address : ℕ) (next : Overwritten) → Row config world (at_spot (Recording spot address next)) command fixed
  at_record spot address next shared mine =
      let step = ((recording_steps.steps config seat address).goes world spot (going_now spot address next mine) shared mine.facts.0).step in
      record {
        world = step.world;
        memory = step.memory;
        graph = step.graph;
        legal = tt;
        settles = λ settled_reply reply_settled. cc;
        shared = step.shared;
        mine = mine_then spot address next mine (satb.next_at spot (world.memory (satb.touch_at config seat address spot).word)) step.world step.shared step.keeps step.own.2 step.own.0 step.own.1;
        others = step.others;
      }
