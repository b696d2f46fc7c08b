-- What a step owes that changes only words of the heap, tops, the counter of copiers, pieces, and who copies.
use Rattle.heap_words.specs.Phases.{marking_phase, evacuation_phase}
use Rattle.std.proofs.Common.{◌≡◌, ◌≢◌, ℕ, ◌+◌, ◌<◌, ◌≤◌, ◌⊎◌, ⊎_elim, inl, inr, Bool, true, Option, Some, None, refl, sym, ap, ◌∙◌, subst, arith}
use Rattle.std.proofs.Math.Path.{fun_ext}
use Rattle.std.proofs.lemmas.Option.{none-some, same_Some}
use Rattle.std.proofs.lemmas.Bool.{false≢true}
use Rattle.heap_words.specs.declared.config.Config.{Config}
use Rattle.heap_words.specs.Words.{Word, Phase, Cset, Free, Evac, Top, Tams, Current, Count, Buffer, Grey, Black, Heap, Share, Pin, write}
use Rattle.regions.specs.Place.{base_of}
use Rattle.regions.proofs.PlaceLemmas.{regions_tile}
use Rattle.regions.specs.Sets.{IsIn}
use Rattle.shen_graph.specs.declared.name.Name.{Name}
use Rattle.heap_words.specs.Touch.{Touch, touched}
use Rattle.heap_words.specs.Counter.{is_out_of_room, IsQuiet}
use Rattle.heap_world.specs.World.{World, Block, thing, moved, spent, promised, dead, filler, words_of, filling, room_of, Plot, Snapshot, Scan, no_snapshot, with_copying, name_at, Body, body_of, body_at, Target, IsCollected, IsParsable, AreObjects, AreOwned, IsMarkable, HaveMoved, IsCounted, AreKept, KeepsSnapshot, Shared}
use Rattle.heap_world.specs.Rely.{KeepsMarks, KeepsCopies, Keeps, Rely}
use Rattle.heap_world.specs.Part.{PartStep}
use Rattle.heap_world.proofs.FunctionUpdates.{updated}
use Rattle.heap_world.proofs.Pins.{pins_stay}
use Rattle.heap_world.proofs.Pointing.{named_body, body_named, body_piece, room_unnamed}
use Rattle.heap_world.proofs.Marked.{noted_same}
use Rattle.heap_world.proofs.Unwritten.{unwritten_stays}

-- a memory with other words of the heap, other tops and another counter
abbrev pub with_words : (Word → ℕ) → (heap top : ℕ → ℕ) → ℕ → Word → ℕ
with_words memory heap top evac (Heap address) = heap address
with_words memory heap top evac (Top region) = top region
with_words memory heap top evac Evac = evac
with_words memory heap top evac word = memory word

-- a word of the heap is written
pub heap_written : (memory : Word → ℕ) (word_address value : ℕ) → with_words memory (updated (λ address. memory (Heap address)) word_address value) (λ region. memory (Top region)) (memory Evac) ≡ write memory (Heap word_address) value
heap_written memory word_address value = fun_ext same
  where
    same : (word : Word) → with_words memory (updated (λ address. memory (Heap address)) word_address value) (λ region. memory (Top region)) (memory Evac) word ≡ write memory (Heap word_address) value word
    same (Heap asked_address) = refl
    same _ = refl

-- or the counter
pub evac_written : (memory : Word → ℕ) (value : ℕ) → with_words memory (λ address. memory (Heap address)) (λ region. memory (Top region)) value ≡ write memory Evac value
evac_written memory value = fun_ext same
  where
    same : (word : Word) → with_words memory (λ address. memory (Heap address)) (λ region. memory (Top region)) value word ≡ write memory Evac value word
    same Evac = refl
    same _ = refl

-- In other phases than that of marking all that marking counts on holds, for there is no snapshot.
pub unmarked : (config : Config) (phase : ℕ) (grey black count : ℕ → ℕ) (buffer : ℕ → ℕ → ℕ) (top tams heap : ℕ → ℕ) (block : Plot) (snapshot : Snapshot) (recording : ℕ → Option ℕ) (scanning : ℕ → Option Scan)
    → phase ≢ marking_phase → snapshot ≡ no_snapshot → KeepsSnapshot config phase grey black count buffer top tams heap block snapshot recording scanning
unmarked config phase grey black count buffer top tams heap block snapshot recording scanning not_marking snapshot_none = subst (λ snapshot. KeepsSnapshot config phase grey black count buffer top tams heap block snapshot recording scanning) (sym snapshot_none) (record {
  empty = λ idle. refl;
  traced = record {
    edges = λ address refs nums index name in_snapshot. absurd (none-some _ in_snapshot);
    starts = λ object_address in_snapshot. absurd (false≢true in_snapshot);
  };
  led = λ object_address refs nums name in_snapshot. absurd (none-some _ in_snapshot);
  old = λ object_address refs nums name in_snapshot. absurd (none-some _ in_snapshot);
  kept = λ object_address refs nums name in_snapshot. absurd (none-some _ in_snapshot);
  floors = λ region inside. omega arith;
  marking = λ in_marking. absurd (not_marking in_marking);
})

module _ (config : Config) (world : World) (seat : ℕ) (heap top : ℕ → ℕ) (evac : ℕ) (block : Plot) (copying : ℕ → Bool) where
  -- the world after such a step
  abbrev pub world_after : World
  world_after = record { memory = with_words world.memory heap top evac; block = block; ghost = with_copying world.ghost copying; graph = world.graph }

  -- What such a step of the seat's machine keeps: copies stay copies, and usable ones usable; nothing in the collection set becomes a
  -- current copy; what is another seat's stays; and words are written only in the seat's own room, or are the headers of copies.
  pub record IsCopyingStep : Type 0 where
    pub parsable : IsParsable config top block
    pub objects : AreObjects heap block world.graph.object
    pub owned : AreOwned config top (world.memory Share) (world.memory Free) (world.memory Cset) (λ seat. world.memory (Current seat)) block world.ghost.owner
    pub moved_are : HaveMoved config (world.memory Cset) heap block
    pub counted : IsCounted config evac copying
    pub kept : 2 ≤ world.memory Phase → AreKept config (world.memory Cset) (λ number. world.memory (Black number)) top (λ region. world.memory (Tams region)) block
    pub bodies : (address : ℕ) (body : Body) → body_at (world.block address) ≡ Some body → body_at (block address) ≡ Some body
    pub targets : (address refs nums : ℕ) (name : Name) → Target config (world.memory Cset) (world.memory Evac) world.block address refs nums name → Target config (world.memory Cset) evac block address refs nums name
    pub moveds : (address refs nums moved_to : ℕ) (name : Name) → world.block address ≡ Some (moved name refs nums moved_to) → block address ≡ Some (moved name refs nums moved_to)
    pub spents : (address words moved_to : ℕ) → world.block address ≡ Some (spent words moved_to) → block address ≡ Some (spent words moved_to)
    pub pieces : (address : ℕ) (piece : Block) → IsCollected config (world.memory Cset) address → world.block address ≡ Some piece → (later_piece : Block) × (block address ≡ Some later_piece) × (words_of later_piece ≡ words_of piece) × (filling later_piece ≡ filling piece)
    pub no_new : (address refs nums : ℕ) (name : Name) → IsCollected config (world.memory Cset) address → block address ≡ Some (thing name refs nums) → world.block address ≡ Some (thing name refs nums)
    pub set_tops : (region : ℕ) → IsIn (world.memory Cset) region → top region ≡ world.memory (Top region)
    pub out : is_out_of_room (world.memory Evac) ≡ true → is_out_of_room evac ≡ true
    pub quiet : IsQuiet (world.memory Evac) → IsQuiet evac
    pub rooms : (asked_seat address : ℕ) (piece : Block) → asked_seat ≢ seat → world.block address ≡ Some piece → room_of piece ≡ Some asked_seat → block address ≡ Some piece
    pub no_rooms : (asked_seat address : ℕ) (piece : Block) → block address ≡ Some piece → room_of piece ≡ Some asked_seat → world.block address ≡ Some piece
    pub promises : (address asked_seat words : ℕ) → world.block address ≡ Some (promised asked_seat words) → block address ≡ Some (promised asked_seat words)
    pub no_promises : (address asked_seat words : ℕ) → block address ≡ Some (promised asked_seat words) → world.block address ≡ Some (promised asked_seat words)
    pub deads : (address words : ℕ) → world.block address ≡ Some (dead words) → block address ≡ Some (dead words)
    pub fillers : (address words : ℕ) → world.block address ≡ Some (filler words) → block address ≡ Some (filler words)
    pub no_deads : (address words : ℕ) → block address ≡ Some (dead words) → world.block address ≡ Some (dead words)
    pub no_fillers : (address words : ℕ) → block address ≡ Some (filler words) → world.block address ≡ Some (filler words)
    pub words : (address word_offset : ℕ) (piece : Block) → world.block address ≡ Some piece → word_offset < words_of piece → room_of piece ≢ Some seat → (1 ≤ word_offset) ⊎ (name_at (Some piece) ≡ None) → heap (address + word_offset) ≡ world.memory (Heap (address + word_offset))
    pub own_tops : (region asked_seat : ℕ) → asked_seat ≢ seat → world.ghost.owner region ≡ Some asked_seat → top region ≡ world.memory (Top region)
    pub copiers_else : (asked_seat : ℕ) → asked_seat ≢ seat → copying asked_seat ≡ world.ghost.copying asked_seat

  module _ (shared : Shared config world) (evacuating : world.memory Phase ≡ evacuation_phase) (step : IsCopyingStep) where
    -- what stands for an object still does
    names_after : (address : ℕ) (name : Name) → name_at (world.block address) ≡ Some name → name_at (block address) ≡ Some name
    names_after address name has_name = let body = named_body (world.block address) name has_name in body_named (block address) (body_of name body.0 body.1) (step.bodies address (body_of name body.0 body.1) body.2)

    -- a dead object has its header still
    dead_header : (address words : ℕ) → world.block address ≡ Some (dead words) → heap address ≡ world.memory (Heap address)
    dead_header address words has_dead =
        let same_sum : address + 0 ≡ address = omega arith in
        subst (λ address. heap address ≡ world.memory (Heap address)) same_sum
        (step.words address 0 (dead words) has_dead (let long_enough = shared.parsable.deads address words has_dead in omega (arith, long_enough)) (λ owned. none-some seat owned) (inr refl))

    -- and its length
    dead_shape : (address words : ℕ) → world.block address ≡ Some (dead words) → heap (address + 1) ≡ world.memory (Heap (address + 1))
    dead_shape address words has_dead =
        step.words address 1 (dead words) has_dead (let long_enough = shared.parsable.deads address words has_dead in omega (arith, long_enough)) (λ owned. none-some seat owned) (inr refl)

    -- words that only fill have their header still
    filler_header_stays : (address words : ℕ) → world.block address ≡ Some (filler words) → heap address ≡ world.memory (Heap address)
    filler_header_stays address words has_filler =
        let same_sum : address + 0 ≡ address = omega arith in
        subst (λ address. heap address ≡ world.memory (Heap address)) same_sum (step.words address 0 (filler words) has_filler (shared.parsable.fillers address words has_filler) (λ owned. none-some seat owned) (inr refl))

    -- the words of a promised object stay
    promise_after : (address any_seat words offset : ℕ) → world.block address ≡ Some (promised any_seat words) → offset < words → heap (address + offset) ≡ world.memory (Heap (address + offset))
    promise_after address any_seat words offset has_promise offset_below = step.words address offset (promised any_seat words) has_promise offset_below (λ owned. none-some seat owned) (inr refl)

    -- machines share what they should
    pub shared_after : Shared config world_after
    shared_after = record {
      parsable = step.parsable;
      contents = record { objects = step.objects; given = shared.contents.given };
      owned = step.owned;
      phased = record { phase_is = shared.phased.phase_is; cset_is = λ early. absurd (omega (arith, early, evacuating)); evac_is = λ not_evacuating. absurd (not_evacuating evacuating) };
      unwritten = unwritten_stays (λ address. world.memory (Heap address)) heap world.block block
          (λ address any_seat words stands. let stood = step.no_promises address any_seat words stands in (stood, λ offset offset_below. promise_after address any_seat words offset stood offset_below))
          (λ address words stands. let stood = step.no_deads address words stands in (stood, dead_header address words stood, dead_shape address words stood))
          (λ address words stands. let stood = step.no_fillers address words stands in (stood, filler_header_stays address words stood))
          shared.unwritten;
      marked = unmarked config (world.memory Phase) (λ number. world.memory (Grey number)) (λ number. world.memory (Black number)) (λ mutator. world.memory (Count mutator)) (λ mutator entry. world.memory (Buffer mutator entry)) top (λ region. world.memory (Tams region)) heap block world.ghost.snapshot world.ghost.recording world.ghost.scanning
          (λ marking. omega (arith, marking, evacuating)) (shared.marked.empty (λ marking. omega (arith, marking, evacuating)));
      evacuated = record {
        moved = step.moved_are;
        counted = step.counted;
        aside = record {
          in_heap = shared.evacuated.aside.in_heap;
          in_use = shared.evacuated.aside.in_use;
          nobodys = shared.evacuated.aside.nobodys;
          no_new = λ region stands. step.set_tops region stands ∙ shared.evacuated.aside.no_new region stands;
          no_promises = λ address any_seat words stands. shared.evacuated.aside.no_promises address any_seat words (step.no_promises address any_seat words stands);
          no_rooms = λ address any_seat piece stands room. shared.evacuated.aside.no_rooms address any_seat piece (step.no_rooms any_seat address piece stands room) room;
        };
        kept = step.kept;
        units = λ still_evacuating region claimed stands. ⊎_elim
            (λ swept. inl (⊎_elim
            (λ region_out. inl (step.out region_out))
            (λ none_old. inr (λ address refs nums name from moved_to thing_there. none_old address refs nums name from moved_to (step.no_new address refs nums name (of_region region address stands from moved_to) thing_there)))
            swept))
            (λ works. inr works)
            (shared.evacuated.units evacuating region claimed stands);
      };
      updated = λ updating. absurd (omega (arith, updating, evacuating));
      pinned = pins_stay config (world.memory Cset) (world.memory Evac) (world.memory Cset) evac world.block block (λ mutator slot. world.memory (Pin mutator slot)) world.graph.pin step.targets shared.pinned;
    }
      where
        of_region : (region address : ℕ) → IsIn (world.memory Cset) region → base_of config region ≤ address → address < base_of config (region + 1) → IsCollected config (world.memory Cset) address
        of_region region address in_cset from before_end = subst (λ any_region. IsIn (world.memory Cset) any_region) (sym (regions_tile.of_no_other config region address (record { from = from; before = omega (arith, before_end) }))) in_cset

    -- what holds of marking holds
    marks_kept : KeepsMarks config world world_after
    marks_kept = record {
      phase = refl;
      snapshot = refl;
      markable = λ not_evacuating. absurd (not_evacuating evacuating);
      shapes = shapes;
      noted = noted_same config world world_after (λ n. refl) (λ mutator. refl) (λ mutator entry. refl) (λ mutator. refl);
    }
      where
        shapes : (address : ℕ) → IsMarkable world.block address → heap (address + 1) ≡ world.memory (Heap (address + 1))
        shapes address (IsMarkable.object name refs nums piece_stands) = step.words address 1 (thing name refs nums) piece_stands (omega arith) (λ owned. none-some seat owned) (inl (omega arith))
        shapes address (IsMarkable.to_come any_seat words piece_stands) = promise_after address any_seat words 1 piece_stands (let long_enough = shared.parsable.promises address any_seat words piece_stands in omega (arith, long_enough))

    -- and what holds of evacuation
    copies_kept : KeepsCopies config world world_after
    copies_kept = record {
      cset = refl;
      bodies = step.bodies;
      moveds = step.moveds;
      spents = step.spents;
      pieces = step.pieces;
      no_new = step.no_new;
      tops = step.set_tops;
      out = step.out;
      quiet = step.quiet;
    }

    -- the facts of the seat's machine stand
    pub keeps_after : Keeps config seat world world_after
    keeps_after = record {
      names = names_after;
      targets = step.targets;
      promises = λ piece_address words stands. step.promises piece_address seat words stands;
      no_promises = λ address words stands. step.no_promises address seat words stands;
      promise_words = λ address words offset stands offset_below. promise_after address seat words offset stands offset_below;
      root_words = λ i. refl;
      roots = λ i. refl;
      pin_words = λ index. refl;
      pins = λ i. refl;
      count = refl;
      wait = refl;
      answer = refl;
      marks = marks_kept;
      copies = copies_kept;
    }

    -- others can rely on what they knew
    pub others_after : (any_seat : ℕ) → any_seat ≢ seat → Rely config any_seat world world_after
    others_after any_seat seats_differ = record {
      names = names_after;
      targets = step.targets;
      rooms = λ piece_address room_piece stands room. step.rooms any_seat piece_address room_piece seats_differ stands room;
      no_rooms = λ piece_address room_piece stands room. step.no_rooms any_seat piece_address room_piece stands room;
      room_words = λ piece_address place piece stands room offset_below. step.words piece_address place piece stands offset_below (λ owned. seats_differ (same_Some any_seat seat (sym room ∙ owned))) (inr (room_unnamed piece any_seat room));
      promises = λ piece_address words stands. step.promises piece_address any_seat words stands;
      no_promises = λ address words stands. step.no_promises address any_seat words stands;
      promise_words = λ address words place stands offset_below. promise_after address any_seat words place stands offset_below;
      current = refl;
      opens = λ any_region stands. stands;
      owners = λ region stands. stands;
      tops = λ any_region stands. step.own_tops any_region any_seat seats_differ stands;
      root_words = λ i. refl;
      roots = λ i. refl;
      pin_words = λ index. refl;
      pins = λ i. refl;
      count = refl;
      wait = refl;
      answer = refl;
      state = refl;
      asked = λ stands. stands;
      marks = record {
        keeps = marks_kept;
        recording = refl;
        scanning = refl;
        entries = refl;
        buffer = λ place. refl;
        greys = λ piece_address stands. stands;
      };
      copies = record {
        keeps = copies_kept;
        copying = step.copiers_else any_seat seats_differ;
        working = refl;
        words = λ address place body seated counted inside stands from offset_below. let piece = body_piece (world.block address) body stands in step.words address place piece.0 piece.1 (omega (arith, offset_below, piece.2)) (λ owned. none-some body.name (sym (room_unnamed piece.0 seat owned) ∙ body_named (Some piece.0) body (ap body_at (sym piece.1) ∙ stands))) (inl from);
      };
      fields = record { tams = λ any_region. refl; limits = λ region. refl; deads = step.deads; fillers = step.fillers; claims = λ all_claims. all_claims; fields = λ updating. absurd (omega (arith, updating, evacuating)) };
    }

    -- the step owes no more
    pub step_after : (touch : Touch) (facts : World → Type 0) → with_words world.memory heap top evac ≡ touched world.memory touch → facts world_after → PartStep config world seat touch facts
    step_after touch facts memory_touched own_facts = record { world = world_after; memory = memory_touched; graph = refl; shared = shared_after; own = own_facts; keeps = keeps_after; others = others_after }
