-- What a step owes that changes how many units are claimed, and where a machine stands in its unit.
use Rattle.heap_words.specs.Phases.{marking_phase, updating_phase}
use Rattle.std.proofs.Common.{◌≡◌, ◌≢◌, ℕ, ◌≤◌, Option, sym, ◌∙◌, subst, arith}
use Rattle.heap_words.specs.declared.config.Config.{Config}
use Rattle.heap_words.specs.Words.{Phase, Cset, Claim, Top, Tams, Limit, Count, Buffer, Grey, Black, Heap, write}
use Rattle.heap_words.specs.Touch.{Touch, touched}
use Rattle.heap_world.specs.World.{World, Scan, with_scanning, KeepsSnapshot, IsUpdating, Shared}
use Rattle.heap_world.specs.Rely.{KeepsFields, Keeps, Rely}
use Rattle.heap_world.specs.Part.{PartStep}
use Rattle.heap_world.proofs.Unmarked.{none_marked_in}
use Rattle.heap_world.proofs.FunctionUpdates.{updated, updated_else}

-- the world with another number of units claimed, and with a machine that stands elsewhere
abbrev pub world_then : World → ℕ → ℕ → Option Scan → World
world_then world seat claim pass = record { memory = write world.memory Claim claim; block = world.block; ghost = with_scanning world.ghost (updated world.ghost.scanning seat pass); graph = world.graph }

module _ (config : Config) (world next_world : World) (seat claim : ℕ) (pass : Option Scan) where
  -- of what is updated, with these two
  abbrev pub UpdatingThen : Type 0
  UpdatingThen = IsUpdating config (next_world.memory Cset) claim (λ region. next_world.memory (Top region)) (λ region. next_world.memory (Limit region)) (λ address. next_world.memory (Heap address)) next_world.block (updated next_world.ghost.scanning seat pass)

  -- machines share what they should
  shared_then : Shared config next_world → next_world.memory Phase ≡ updating_phase → UpdatingThen → Shared config (world_then next_world seat claim pass)
  shared_then shared is_updating updating =
      let not_marking : next_world.memory Phase ≢ marking_phase = λ is_marking. (omega (arith, is_updating, is_marking)) in
      record {
        parsable = shared.parsable;
        contents = shared.contents;
        owned = shared.owned;
        phased = shared.phased;
        unwritten = shared.unwritten;
        marked = subst (λ snapshot. KeepsSnapshot config (next_world.memory Phase) (λ number. next_world.memory (Grey number)) (λ number. next_world.memory (Black number)) (λ mutator. next_world.memory (Count mutator)) (λ mutator entry. next_world.memory (Buffer mutator entry)) (λ region. next_world.memory (Top region)) (λ region. next_world.memory (Tams region))
            (λ address. next_world.memory (Heap address)) next_world.block snapshot next_world.ghost.recording (updated next_world.ghost.scanning seat pass)) (sym (shared.marked.empty not_marking))
            (none_marked_in config (next_world.memory Phase) (λ number. next_world.memory (Grey number)) (λ number. next_world.memory (Black number)) (λ mutator. next_world.memory (Count mutator)) (λ mutator entry. next_world.memory (Buffer mutator entry)) (λ region. next_world.memory (Top region)) (λ region. next_world.memory (Tams region))
            (λ address. next_world.memory (Heap address)) next_world.block next_world.ghost.recording (updated next_world.ghost.scanning seat pass) not_marking);
        evacuated = record {
          moved = shared.evacuated.moved;
          counted = shared.evacuated.counted;
          aside = shared.evacuated.aside;
          kept = shared.evacuated.kept;
          units = λ is_moving. absurd (omega (arith, is_updating, is_moving));
        };
        updated = λ still_on. updating;
        pinned = shared.pinned;
      }

  -- the facts of the seat's machine stand
  pub keeps_then : Keeps config seat world next_world → Keeps config seat world (world_then next_world seat claim pass)
  keeps_then world_kept = record {
    names = world_kept.names;
    targets = world_kept.targets;
    promises = world_kept.promises;
    no_promises = world_kept.no_promises;
    promise_words = world_kept.promise_words;
    root_words = world_kept.root_words;
    roots = world_kept.roots;
    pin_words = world_kept.pin_words;
    pins = world_kept.pins;
    count = world_kept.count;
    wait = world_kept.wait;
    answer = world_kept.answer;
    marks = record { phase = world_kept.marks.phase; snapshot = world_kept.marks.snapshot; markable = world_kept.marks.markable; shapes = world_kept.marks.shapes; noted = world_kept.marks.noted };
    copies = record {
      cset = world_kept.copies.cset;
      bodies = world_kept.copies.bodies;
      moveds = world_kept.copies.moveds;
      spents = world_kept.copies.spents;
      pieces = world_kept.copies.pieces;
      no_new = world_kept.copies.no_new;
      tops = world_kept.copies.tops;
      out = world_kept.copies.out;
      quiet = world_kept.copies.quiet;
    };
  }

  -- so do those of updating
  pub fields_then : (config.regions ≤ world.memory Claim → config.regions ≤ claim) → KeepsFields config world next_world → KeepsFields config world (world_then next_world seat claim pass)
  fields_then claims fields = record { tams = fields.tams; limits = fields.limits; deads = fields.deads; fillers = fields.fillers; claims = claims; fields = fields.fields }

  -- others can rely on what they knew
  others_then : (config.regions ≤ world.memory Claim → config.regions ≤ claim) → (machine : ℕ) → machine ≢ seat → Rely config machine world next_world → Rely config machine world (world_then next_world seat claim pass)
  others_then claims machine machine_differs rely = record {
    names = rely.names;
    targets = rely.targets;
    rooms = rely.rooms;
    no_rooms = rely.no_rooms;
    room_words = rely.room_words;
    promises = rely.promises;
    no_promises = rely.no_promises;
    promise_words = rely.promise_words;
    current = rely.current;
    opens = rely.opens;
    owners = rely.owners;
    tops = rely.tops;
    root_words = rely.root_words;
    roots = rely.roots;
    pin_words = rely.pin_words;
    pins = rely.pins;
    count = rely.count;
    wait = rely.wait;
    answer = rely.answer;
    state = rely.state;
    asked = rely.asked;
    marks = record {
      keeps = record { phase = rely.marks.keeps.phase; snapshot = rely.marks.keeps.snapshot; markable = rely.marks.keeps.markable; shapes = rely.marks.keeps.shapes; noted = rely.marks.keeps.noted };
      recording = rely.marks.recording;
      scanning = updated_else next_world.ghost.scanning seat pass machine (λ same_seat. machine_differs (sym same_seat)) ∙ rely.marks.scanning;
      entries = rely.marks.entries;
      buffer = rely.marks.buffer;
      greys = rely.marks.greys;
    };
    copies = record {
      keeps = record {
        cset = rely.copies.keeps.cset;
        bodies = rely.copies.keeps.bodies;
        moveds = rely.copies.keeps.moveds;
        spents = rely.copies.keeps.spents;
        pieces = rely.copies.keeps.pieces;
        no_new = rely.copies.keeps.no_new;
        tops = rely.copies.keeps.tops;
        out = rely.copies.keeps.out;
        quiet = rely.copies.keeps.quiet;
      };
      copying = rely.copies.copying;
      working = rely.copies.working;
      words = rely.copies.words;
    };
    fields = fields_then claims rely.fields;
  }

  -- what the step owes, that led to the world but for these two, is owed then
  pub step_then : (touch : Touch) (facts : World → Type 0) → write next_world.memory Claim claim ≡ touched world.memory touch → next_world.graph ≡ world.graph → Shared config next_world → next_world.memory Phase ≡ updating_phase → (config.regions ≤ world.memory Claim → config.regions ≤ claim)
      → Keeps config seat world next_world → ((machine : ℕ) → machine ≢ seat → Rely config machine world next_world) → UpdatingThen → facts (world_then next_world seat claim pass) → PartStep config world seat touch facts
  step_then touch facts same_memory same_graph shared is_updating claims world_kept others_rely updating own_facts = record {
    world = world_then next_world seat claim pass;
    memory = same_memory;
    graph = same_graph;
    shared = shared_then shared is_updating updating;
    own = own_facts;
    keeps = keeps_then world_kept;
    others = λ machine differs. others_then claims machine differs (others_rely machine differs);
  }
