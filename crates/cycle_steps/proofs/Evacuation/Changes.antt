-- What a step owes that changes what is claimed, and on which unit a machine works.
use Rattle.heap_words.specs.Phases.{evacuation_phase}
use Rattle.std.proofs.Common.{◌≡◌, ◌≢◌, ℕ, ◌+◌, ◌<◌, ◌≤◌, ◌⊎◌, Option, Some, ⊎_elim, inl, inr, sym, ap, ◌∙◌, subst, arith}
use Rattle.std.proofs.lemmas.Bool.{cases_eq}
use Rattle.heap_words.specs.declared.config.Config.{Config}
use Rattle.heap_words.specs.Ranges.{seat_count}
use Rattle.heap_words.specs.Words.{Phase, Cset, Evac, Claim, write}
use Rattle.heap_words.specs.Touch.{Touch, touched}
use Rattle.heap_world.specs.World.{World, Plot, with_working, IsCaredFor, AreCaredFor, IsSweptTo, Shared}
use Rattle.heap_world.specs.Rely.{Keeps, Rely}
use Rattle.heap_world.specs.Part.{PartStep}
use Rattle.heap_world.proofs.FunctionUpdates.{updated, updated_there, updated_else}
use Rattle.regions.specs.Place.{base_of}
use Rattle.cycle_steps.specs.Evacuation.Facts.{HasNothing}

-- the world with another number of units claimed, and with a machine that works on a unit, or on none
abbrev pub world_then : World → ℕ → ℕ → Option ℕ → World
world_then world seat claim unit = record { memory = write world.memory Claim claim; block = world.block; ghost = with_working world.ghost (updated world.ghost.working seat unit); graph = world.graph }

-- a unit is cared for still, where the machine that worked on it goes on with it or leaves it swept
pub cared_still : (config : Config) (evac : ℕ) (block : Plot) (working : ℕ → Option ℕ) (seat : ℕ) (unit : Option ℕ) (region : ℕ)
    → (working seat ≡ Some region → IsSweptTo config evac block region (base_of config (region + 1)) ⊎ (unit ≡ Some region))
    → IsCaredFor config evac block working region → IsCaredFor config evac block (updated working seat unit) region
cared_still config evac block working seat unit region own_unit (inl swept) = inl swept
cared_still config evac block working seat unit region own_unit (inr worker) = ⊎_elim
    (λ (same_seat : seat ≡ worker.0). ⊎_elim
    (λ (swept : IsSweptTo config evac block region (base_of config (region + 1))). inl swept)
    (λ (goes_on : unit ≡ Some region). inr (seat, subst (λ worker_seat. worker_seat < seat_count config.mutators config.helpers) (sym same_seat) worker.1, updated_there working seat unit ∙ goes_on))
    (own_unit (ap working same_seat ∙ worker.2)))
    (λ (seats_differ : seat ≢ worker.0). inr (worker.0, worker.1, updated_else working seat unit worker.0 seats_differ ∙ worker.2))
    (cases_eq seat worker.0)

module _ (config : Config) (world next_world : World) (seat claim : ℕ) (unit : Option ℕ) (evacuating_on : next_world.memory Phase ≡ evacuation_phase) (claim_bound : next_world.memory Claim ≤ claim) where
  -- machines share what they should
  shared_then : Shared config next_world → AreCaredFor config (next_world.memory Phase) (next_world.memory Cset) (next_world.memory Evac) claim next_world.block (updated next_world.ghost.working seat unit) → Shared config (world_then next_world seat claim unit)
  shared_then shared units = record {
    parsable = shared.parsable;
    contents = shared.contents;
    owned = shared.owned;
    phased = shared.phased;
    unwritten = shared.unwritten;
    marked = shared.marked;
    evacuated = record {
      moved = shared.evacuated.moved;
      counted = shared.evacuated.counted;
      aside = shared.evacuated.aside;
      kept = shared.evacuated.kept;
      units = units;
    };
    updated = λ updating. absurd (omega (arith, updating, evacuating_on));
    pinned = shared.pinned;
  }

  -- the facts of the seat's machine stand
  keeps_then : Keeps config seat world next_world → Keeps config seat world (world_then next_world seat claim unit)
  keeps_then world_kept = record {
    names = world_kept.names;
    targets = world_kept.targets;
    promises = world_kept.promises;
    no_promises = world_kept.no_promises;
    promise_words = world_kept.promise_words;
    root_words = world_kept.root_words;
    roots = world_kept.roots;
    pin_words = world_kept.pin_words;
    pins = world_kept.pins;
    count = world_kept.count;
    wait = world_kept.wait;
    answer = world_kept.answer;
    marks = record { phase = world_kept.marks.phase; snapshot = world_kept.marks.snapshot; markable = world_kept.marks.markable; shapes = world_kept.marks.shapes; noted = world_kept.marks.noted };
    copies = record {
      cset = world_kept.copies.cset;
      bodies = world_kept.copies.bodies;
      moveds = world_kept.copies.moveds;
      spents = world_kept.copies.spents;
      pieces = world_kept.copies.pieces;
      no_new = world_kept.copies.no_new;
      tops = world_kept.copies.tops;
      out = world_kept.copies.out;
      quiet = world_kept.copies.quiet;
    };
  }

  -- others can rely on what they knew
  others_then : (other_seat : ℕ) → other_seat ≢ seat → Rely config other_seat world next_world → Rely config other_seat world (world_then next_world seat claim unit)
  others_then other_seat seats_differ rely = record {
    names = rely.names;
    targets = rely.targets;
    rooms = rely.rooms;
    no_rooms = rely.no_rooms;
    room_words = rely.room_words;
    promises = rely.promises;
    no_promises = rely.no_promises;
    promise_words = rely.promise_words;
    current = rely.current;
    opens = rely.opens;
    owners = rely.owners;
    tops = rely.tops;
    root_words = rely.root_words;
    roots = rely.roots;
    pin_words = rely.pin_words;
    pins = rely.pins;
    count = rely.count;
    wait = rely.wait;
    answer = rely.answer;
    state = rely.state;
    asked = rely.asked;
    marks = record {
      keeps = record { phase = rely.marks.keeps.phase; snapshot = rely.marks.keeps.snapshot; markable = rely.marks.keeps.markable; shapes = rely.marks.keeps.shapes; noted = rely.marks.keeps.noted };
      recording = rely.marks.recording;
      scanning = rely.marks.scanning;
      entries = rely.marks.entries;
      buffer = rely.marks.buffer;
      greys = rely.marks.greys;
    };
    copies = record {
      keeps = record {
        cset = rely.copies.keeps.cset;
        bodies = rely.copies.keeps.bodies;
        moveds = rely.copies.keeps.moveds;
        spents = rely.copies.keeps.spents;
        pieces = rely.copies.keeps.pieces;
        no_new = rely.copies.keeps.no_new;
        tops = rely.copies.keeps.tops;
        out = rely.copies.keeps.out;
        quiet = rely.copies.keeps.quiet;
      };
      copying = rely.copies.copying;
      working = updated_else next_world.ghost.working seat unit other_seat (λ same_seat. seats_differ (sym same_seat)) ∙ rely.copies.working;
      words = rely.copies.words;
    };
    fields = record {
      tams = rely.fields.tams;
      limits = rely.fields.limits;
      deads = rely.fields.deads;
      fillers = rely.fields.fillers;
      claims = λ all_claimed. (let claimed = rely.fields.claims all_claimed in omega (arith, claimed, claim_bound));
      fields = rely.fields.fields;
    };
  }

  -- what the step owes, that led to the world but for these two, is owed then
  pub step_then : (touch : Touch) (facts : World → Type 0) → write next_world.memory Claim claim ≡ touched world.memory touch → next_world.graph ≡ world.graph → Shared config next_world → Keeps config seat world next_world → ((other_seat : ℕ) → other_seat ≢ seat → Rely config other_seat world next_world)
      → AreCaredFor config (next_world.memory Phase) (next_world.memory Cset) (next_world.memory Evac) claim next_world.block (updated next_world.ghost.working seat unit)
      → facts (world_then next_world seat claim unit) → PartStep config world seat touch facts
  step_then touch facts memory_touched same_graph shared world_kept others_rely units own_facts = record {
    world = world_then next_world seat claim unit;
    memory = memory_touched;
    graph = same_graph;
    shared = shared_then shared units;
    own = own_facts;
    keeps = keeps_then world_kept;
    others = λ other_seat differs. others_then other_seat differs (others_rely other_seat differs);
  }

-- the machine has nothing still
pub nothing_then : (world : World) (seat claim : ℕ) (unit : Option ℕ) → HasNothing world seat → HasNothing (world_then world seat claim unit) seat
nothing_then world seat claim unit nothing = record { copying = nothing.copying; records_none = nothing.records_none; scans_none = nothing.scans_none; rooms = nothing.rooms }
