-- What a mutator counts on of marking while its seat's own words change, and what others rely on then.
use Rattle.heap_words.specs.Phases.{marking_phase}
use Rattle.std.proofs.Common.{◌≡◌, ◌≢◌, ℕ, ◌+◌, ◌⊎◌, inl, inr, ⊎_elim, Bool, Option, Some, None, refl, sym, ap, ◌∙◌, subst, w64, arith}
use Rattle.std.specs.Prelude.{bit_or}
use Rattle.std.specs.Int.{bit_at}
use Rattle.std.proofs.lemmas.Nat.Bits.{bit_at_set_same, bit_at_set_other}
use Rattle.heap_words.specs.declared.config.Config.{Config}
use Rattle.heap_words.specs.Words.{Word, Phase, Cset, Evac, Claim, Top, Tams, Limit, Count, Buffer, Grey, Black, Heap}
use Rattle.shen_graph.specs.Graph.{Graph}
use Rattle.heap_world.specs.World.{World, thing, Snapshot, NotedIn, was_at, NeedsNoMarking, IsTracedAt, IsCovered, IsCollected, Shared}
use Rattle.regions.specs.Sets.{IsIn}
use Rattle.heap_world.specs.Rely.{KeepsMarks, KeepsFields, RelyMarks, RelyCopies, Rely}
use Rattle.heap_world.proofs.Marked.{rely_marks}
use Rattle.heap_world.proofs.Copies.{same_plot, rely_copies}
use Rattle.heap_world.proofs.Fields.{fields_kept}
use Rattle.step_core.proofs.Machines.Stepped.{HasMarkingBy, HasCopyingBy}

-- another memory and another graph
abbrev pub world_with : World → (Word → ℕ) → Graph → World
world_with world memory graph = record { memory = memory; block = world.block; ghost = world.ghost; graph = graph }

-- nothing of marking changes where none of its words does, and no word of the heap
pub marks_in : (config : Config) (world : World) (memory : Word → ℕ) (graph : Graph) (seat : ℕ) → memory Phase ≡ world.memory Phase → ((number : ℕ) → memory (Grey number) ≡ world.memory (Grey number)) → ((mutator : ℕ) → memory (Count mutator) ≡ world.memory (Count mutator))
    → ((mutator index : ℕ) → memory (Buffer mutator index) ≡ world.memory (Buffer mutator index)) → ((address : ℕ) → memory (Heap address) ≡ world.memory (Heap address)) → RelyMarks config seat world (world_with world memory graph)
marks_in config world memory graph seat phase greys same_counts buffers heap =
    rely_marks config world (world_with world memory graph) seat phase greys same_counts buffers refl (λ mutator. refl) refl (λ address object_there. object_there) (λ address object_there. heap (address + 1))

-- nor does anything of evacuation
pub copies_in : (config : Config) (world : World) (memory : Word → ℕ) (graph : Graph) (seat : ℕ) → memory Cset ≡ world.memory Cset → memory Evac ≡ world.memory Evac → ((region : ℕ) → memory (Top region) ≡ world.memory (Top region))
    → ((address : ℕ) → memory (Heap address) ≡ world.memory (Heap address)) → RelyCopies config seat world (world_with world memory graph)
copies_in config world memory graph seat cset evac tops heap =
    rely_copies config world (world_with world memory graph) seat (same_plot config world (world_with world memory graph) refl cset evac (λ region piece_there. tops region)) refl refl (λ address offset body seated counted inside piece_there from index_below. heap (address + offset))

-- and of updating
pub fields_in : (config : Config) (world : World) (memory : Word → ℕ) (graph : Graph) → ((region : ℕ) → memory (Tams region) ≡ world.memory (Tams region)) → ((region : ℕ) → memory (Limit region) ≡ world.memory (Limit region)) → memory Claim ≡ world.memory Claim
    → ((address : ℕ) → memory (Heap address) ≡ world.memory (Heap address)) → KeepsFields config world (world_with world memory graph)
fields_in config world memory graph tams limits claim heap = fields_kept config world (world_with world memory graph) refl tams limits claim heap

-- what a mutator counts on of marking stays while others step
pub marking_relied : (config : Config) (world next_world : World) (seat : ℕ) (in_hand : Option ℕ) (loaded : ℕ) (knows : Bool) → RelyMarks config seat world next_world → HasMarkingBy world seat in_hand loaded knows → HasMarkingBy next_world seat in_hand loaded knows
marking_relied config world next_world seat in_hand loaded knows marks marking = record {
  records = marks.recording ∙ marking.records;
  scans = marks.scanning ∙ marking.scans;
  phase_is = λ is_marking. marking.phase_is is_marking ∙ sym marks.keeps.phase;
}

-- and so does what it counts on of evacuation
pub copying_relied : (config : Config) (world next_world : World) (seat : ℕ) (copies : Bool) (loaded : ℕ) (knows : Bool) → RelyCopies config seat world next_world → HasCopyingBy world seat copies loaded knows → HasCopyingBy next_world seat copies loaded knows
copying_relied config world next_world seat copies loaded knows copies_rely copying = record {
  copies_is = copies_rely.copying ∙ copying.copies_is;
  works_none = copies_rely.working ∙ copying.works_none;
  set_is = λ is_moving. copying.set_is is_moving ∙ sym copies_rely.keeps.cset;
}

-- a field that marking needs no more stays one
done_stays : (config : Config) (world next_world : World) (address field : ℕ) → KeepsMarks config world next_world → NeedsNoMarking world.ghost.snapshot (NotedIn config world) address field → NeedsNoMarking next_world.ghost.snapshot (NotedIn config next_world) address field
done_stays config world next_world address field marks needs_none =
    subst (λ some_graph. NeedsNoMarking some_graph (NotedIn config next_world) address field) (sym marks.snapshot) (⊎_elim (λ null. inl null) (λ noted. inr (marks.noted (was_at world.ghost.snapshot address field) noted)) needs_none)

-- so does what a Set counts on
pub covered_stays : (config : Config) (world next_world : World) (address field : ℕ) → KeepsMarks config world next_world → IsCovered config world address field → IsCovered config next_world address field
covered_stays config world next_world address field marks covered refs nums name object_was field_below =
    done_stays config world next_world address field marks (covered refs nums name (ap (λ (snapshot : Snapshot). snapshot.block address) (sym marks.snapshot) ∙ object_was) field_below)

-- while nobody marks, marking needs no field
pub covered_unmarked : (config : Config) (world : World) (address field : ℕ) → Shared config world → world.memory Phase ≢ marking_phase → IsCovered config world address field
covered_unmarked config world address field shared not_marking refs nums name object_was field_below =
    let null_piece : None ≡ Some (thing name refs nums) = ap (λ (snapshot : Snapshot). snapshot.block address) (sym (shared.marked.empty not_marking)) ∙ object_was in
    absurd (cc (null_piece))

-- Marking needs a field no more where the reference that it has is null or noted.
pub covered_found : (config : Config) (world next_world : World) (address field : ℕ) → Shared config world → KeepsMarks config world next_world → (world.memory (Heap (address + 3 + field)) ≡ 0) ⊎ NotedIn config next_world (world.memory (Heap (address + 3 + field))) → IsCovered config next_world address field
covered_found config world next_world address field shared marks field_noted refs nums name object_there field_below =
    let object_was : world.ghost.snapshot.block address ≡ Some (thing name refs nums) = ap (λ (snapshot : Snapshot). snapshot.block address) (sym marks.snapshot) ∙ object_there in
    by_edge (shared.marked.traced.edges address refs nums field name object_was field_below)
  where
    by_edge : IsTracedAt config world.ghost.snapshot (λ address. world.memory (Heap address)) (λ number. world.memory (Black number)) world.ghost.scanning (NotedIn config world) address field → NeedsNoMarking next_world.ghost.snapshot (NotedIn config next_world) address field
    by_edge (IsTracedAt.done is_done) = done_stays config world next_world address field marks is_done
    by_edge (IsTracedAt.stands same_word scan) =
        subst (λ some_graph. NeedsNoMarking some_graph (NotedIn config next_world) address field) (sym marks.snapshot)
        (⊎_elim (λ null. inl (sym same_word ∙ null)) (λ noted. inr (subst (NotedIn config next_world) same_word noted)) field_noted)

-- the bit that a mutator waits stays where a cycle is asked for, and is there where a mutator has asked for room
pub still_waits : (word : ℕ) → bit_at word 1 ≡ 1 → bit_at (bit_or word 1) 1 ≡ 1
still_waits word bit_set = bit_at_set_other w64 word 0 (omega arith) 1 (omega arith) ∙ bit_set

pub now_waits : (word : ℕ) → bit_at (bit_or word 2) 1 ≡ 1
now_waits word = bit_at_set_same w64 word 1 (omega arith)

-- what is relied on twice
marks_twice : (config : Config) (seat : ℕ) (old_world middle_world new_world : World) → old_world.memory Phase ≡ marking_phase → RelyMarks config seat old_world middle_world → RelyMarks config seat middle_world new_world → RelyMarks config seat old_world new_world
marks_twice config seat world other_world next_world marking first_keeps second_keeps = record {
  keeps = record {
    phase = second_keeps.keeps.phase ∙ first_keeps.keeps.phase;
    snapshot = second_keeps.keeps.snapshot ∙ first_keeps.keeps.snapshot;
    markable = λ not_marking place piece_there. second_keeps.keeps.markable (λ is_moving. not_marking (sym first_keeps.keeps.phase ∙ is_moving)) place (first_keeps.keeps.markable not_marking place piece_there);
    shapes = λ address piece_there. second_keeps.keeps.shapes address (first_keeps.keeps.markable (λ is_moving. omega (arith, is_moving, marking)) address piece_there) ∙ first_keeps.keeps.shapes address piece_there;
    noted = λ place piece_there. second_keeps.keeps.noted place (first_keeps.keeps.noted place piece_there);
  };
  recording = second_keeps.recording ∙ first_keeps.recording;
  scanning = second_keeps.scanning ∙ first_keeps.scanning;
  entries = second_keeps.entries ∙ first_keeps.entries;
  buffer = λ index. second_keeps.buffer index ∙ first_keeps.buffer index;
  greys = λ place mark. second_keeps.greys place (first_keeps.greys place mark);
}

copies_twice : (config : Config) (seat : ℕ) (old_world middle_world new_world : World) → RelyCopies config seat old_world middle_world → RelyCopies config seat middle_world new_world → RelyCopies config seat old_world new_world
copies_twice config seat world other_world next_world first_keeps second_keeps =
    let set_then : (address : ℕ) → IsCollected config (world.memory Cset) address → IsCollected config (other_world.memory Cset) address = λ address piece_there. subst (λ any_set. IsCollected config any_set address) (sym first_keeps.keeps.cset) piece_there in
    record {
      keeps = record {
        cset = second_keeps.keeps.cset ∙ first_keeps.keeps.cset;
        bodies = λ address body piece_there. second_keeps.keeps.bodies address body (first_keeps.keeps.bodies address body piece_there);
        moveds = λ address refs nums target name piece_there. second_keeps.keeps.moveds address refs nums target name (first_keeps.keeps.moveds address refs nums target name piece_there);
        spents = λ address words target piece_there. second_keeps.keeps.spents address words target (first_keeps.keeps.spents address words target piece_there);
        pieces = λ address piece inside piece_there.
            let first_piece = first_keeps.keeps.pieces address piece inside piece_there in
            let second_piece = second_keeps.keeps.pieces address first_piece.0 (set_then address inside) first_piece.1 in
            (second_piece.0, second_piece.1, second_piece.2 ∙ first_piece.2, second_piece.3 ∙ first_piece.3);
        no_new = λ address refs nums name inside piece_there. first_keeps.keeps.no_new address refs nums name inside (second_keeps.keeps.no_new address refs nums name (set_then address inside) piece_there);
        tops = λ any_region piece_there. second_keeps.keeps.tops any_region (subst (λ any_set. IsIn any_set any_region) (sym first_keeps.keeps.cset) piece_there) ∙ first_keeps.keeps.tops any_region piece_there;
        out = λ piece_there. second_keeps.keeps.out (first_keeps.keeps.out piece_there);
        quiet = λ piece_there. second_keeps.keeps.quiet (first_keeps.keeps.quiet piece_there);
      };
      copying = second_keeps.copying ∙ first_keeps.copying;
      working = second_keeps.working ∙ first_keeps.working;
      words = λ address offset copy_body seated counted inside piece_there from index_below.
          second_keeps.words address offset copy_body seated (first_keeps.copying ∙ counted) (set_then address inside) (first_keeps.keeps.bodies address copy_body piece_there) from index_below ∙ first_keeps.words address offset copy_body seated counted inside piece_there from index_below;
    }

fields_twice : (config : Config) (old_world middle_world new_world : World) → old_world.memory Phase ≡ marking_phase → KeepsFields config old_world middle_world → KeepsFields config middle_world new_world → KeepsFields config old_world new_world
fields_twice config world other_world next_world marking first_keeps second_keeps = record {
  tams = λ any_region. second_keeps.tams any_region ∙ first_keeps.tams any_region;
  limits = λ region. second_keeps.limits region ∙ first_keeps.limits region;
  deads = λ address words piece_there. second_keeps.deads address words (first_keeps.deads address words piece_there);
  fillers = λ address words piece_there. second_keeps.fillers address words (first_keeps.fillers address words piece_there);
  claims = λ all_claimed. second_keeps.claims (first_keeps.claims all_claimed);
  fields = λ is_updating address refs nums field name piece_there field_below. absurd (omega (arith, is_updating, marking));
}

-- where objects are marked
pub rely_twice : (config : Config) (seat : ℕ) (old_world middle_world new_world : World) → old_world.memory Phase ≡ marking_phase → Rely config seat old_world middle_world → Rely config seat middle_world new_world → Rely config seat old_world new_world
rely_twice config seat world other_world next_world marking first_keeps second_keeps = record {
  names = λ place name piece_there. second_keeps.names place name (first_keeps.names place name piece_there);
  targets = λ address refs nums name piece_there. second_keeps.targets address refs nums name (first_keeps.targets address refs nums name piece_there);
  rooms = λ place room_piece piece_there room. second_keeps.rooms place room_piece (first_keeps.rooms place room_piece piece_there room) room;
  no_rooms = λ place room_piece piece_there room. first_keeps.no_rooms place room_piece (second_keeps.no_rooms place room_piece piece_there room) room;
  room_words = λ address offset piece piece_there room index_below. second_keeps.room_words address offset piece (first_keeps.rooms address piece piece_there room) room index_below ∙ first_keeps.room_words address offset piece piece_there room index_below;
  promises = λ place words piece_there. second_keeps.promises place words (first_keeps.promises place words piece_there);
  no_promises = λ address words piece_there. first_keeps.no_promises address words (second_keeps.no_promises address words piece_there);
  promise_words = λ address words offset piece_there index_below. second_keeps.promise_words address words offset (first_keeps.promises address words piece_there) index_below ∙ first_keeps.promise_words address words offset piece_there index_below;
  current = second_keeps.current ∙ first_keeps.current;
  opens = λ any_region piece_there. second_keeps.opens any_region (first_keeps.opens any_region piece_there);
  owners = λ region piece_there. second_keeps.owners region (first_keeps.owners region piece_there);
  tops = λ region piece_there. second_keeps.tops region (first_keeps.owners region piece_there) ∙ first_keeps.tops region piece_there;
  root_words = λ number. second_keeps.root_words number ∙ first_keeps.root_words number;
  roots = λ number. second_keeps.roots number ∙ first_keeps.roots number;
  pin_words = λ index. second_keeps.pin_words index ∙ first_keeps.pin_words index;
  pins = λ number. second_keeps.pins number ∙ first_keeps.pins number;
  count = second_keeps.count ∙ first_keeps.count;
  wait = second_keeps.wait ∙ first_keeps.wait;
  answer = second_keeps.answer ∙ first_keeps.answer;
  state = second_keeps.state ∙ first_keeps.state;
  asked = λ piece_there. second_keeps.asked (first_keeps.asked piece_there);
  marks = marks_twice config seat world other_world next_world marking first_keeps.marks second_keeps.marks;
  copies = copies_twice config seat world other_world next_world first_keeps.copies second_keeps.copies;
  fields = fields_twice config world other_world next_world marking first_keeps.fields second_keeps.fields;
}
