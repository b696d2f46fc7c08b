-- What marking counts on stays while the heap changes: a word of it, or a piece that becomes an object.
use Rattle.heap_words.specs.Phases.{marking_phase}
use Rattle.std.proofs.Common.{◌≡◌, ◌≢◌, ℕ, ◌+◌, ◌<◌, ◌⊎◌, inl, inr, ⊎_elim, true, Option, Some, refl, sym, ap, ◌∙◌, subst}
use Rattle.std.specs.Int.{bit_at}
use Rattle.std.proofs.lemmas.Bool.{cases_eq}
use Rattle.std.proofs.lemmas.Option.{none-some}
use Rattle.heap_words.specs.declared.config.Config.{Config}
use Rattle.heap_words.specs.Words.{Phase, Grey, Count, Buffer, Heap}
use Rattle.regions.specs.Marks.{mark_word, mark_bit}
use Rattle.shen_graph.specs.declared.name.Name.{Name}
use Rattle.heap_world.specs.World.{Block, thing, promised, dead, room_of, Plot, Snapshot, Scan, World, IsMarkable, IsYoung, IsNoted, NeedsNoMarking, AreMarks, AreEntries, KeepsSnapshot, NotedIn}
use Rattle.heap_world.specs.Rely.{RelyMarks}
use Rattle.heap_world.proofs.Traced.{traced_stored}

-- what can be marked stays so where objects and promised pieces stay
pub markable_stays : (plot other_plot : Plot) → ((address refs nums : ℕ) (name : Name) → plot address ≡ Some (thing name refs nums) → other_plot address ≡ Some (thing name refs nums))
    → ((address seat words : ℕ) → plot address ≡ Some (promised seat words) → IsMarkable other_plot address) → (address : ℕ) → IsMarkable plot address → IsMarkable other_plot address
markable_stays plot other_plot objects_stay promises address (IsMarkable.object name refs nums is_there) = IsMarkable.object name refs nums (objects_stay address refs nums name is_there)
markable_stays plot other_plot objects_stay promises address (IsMarkable.to_come seat words is_there) = promises address seat words is_there

-- so do marks of it
pub marks_stay : (config : Config) (marks : ℕ → ℕ) (plot other_plot : Plot) → ((address : ℕ) → IsMarkable plot address → IsMarkable other_plot address) → AreMarks config marks plot → AreMarks config marks other_plot
marks_stay config marks plot other_plot stays are_marks = record { small = are_marks.small; of_objects = λ word_number bit word_below bit_set. stays _ (are_marks.of_objects word_number bit word_below bit_set) }

-- and entries
pub entries_stay : (config : Config) (count : ℕ → ℕ) (buffer : ℕ → ℕ → ℕ) (plot other_plot : Plot) → ((address : ℕ) → IsMarkable plot address → IsMarkable other_plot address) → AreEntries config count buffer plot → AreEntries config count buffer other_plot
entries_stay config count buffer plot other_plot stays are_entries = record { few = are_entries.few; of_objects = λ thread index inside index_below. stays _ (are_entries.of_objects thread index inside index_below) }

-- what is noted stays so where the words of marks and buffers, and who records what, are the same
pub noted_same : (config : Config) (world other_world : World) → ((number : ℕ) → other_world.memory (Grey number) ≡ world.memory (Grey number)) → ((mutator : ℕ) → other_world.memory (Count mutator) ≡ world.memory (Count mutator)) → ((mutator index : ℕ) → other_world.memory (Buffer mutator index) ≡ world.memory (Buffer mutator index))
    → ((mutator : ℕ) → other_world.ghost.recording mutator ≡ world.ghost.recording mutator) → (address : ℕ) → NotedIn config world address → NotedIn config other_world address
noted_same config world other_world greys counts buffers hands address (IsNoted.by_mark mark) = IsNoted.by_mark (ap (λ value. bit_at value (mark_bit config address)) (greys (mark_word config address)) ∙ mark)
noted_same config world other_world greys counts buffers hands address (IsNoted.by_entry thread index inside index_below is_noted) = IsNoted.by_entry thread index inside (subst (λ value. index < value) (sym (counts thread)) index_below) (buffers thread index ∙ is_noted)
noted_same config world other_world greys counts buffers hands address (IsNoted.by_hand thread inside is_noted) = IsNoted.by_hand thread inside (hands thread ∙ is_noted)

-- what another seat relies on of marking, where only words of the heap and pieces change
pub rely_marks : (config : Config) (world next_world : World) (seat : ℕ) → next_world.memory Phase ≡ world.memory Phase → ((number : ℕ) → next_world.memory (Grey number) ≡ world.memory (Grey number)) → ((mutator : ℕ) → next_world.memory (Count mutator) ≡ world.memory (Count mutator))
    → ((mutator index : ℕ) → next_world.memory (Buffer mutator index) ≡ world.memory (Buffer mutator index)) → next_world.ghost.snapshot ≡ world.ghost.snapshot → ((mutator : ℕ) → next_world.ghost.recording mutator ≡ world.ghost.recording mutator) → next_world.ghost.scanning seat ≡ world.ghost.scanning seat
    → ((address : ℕ) → IsMarkable world.block address → IsMarkable next_world.block address) → ((address : ℕ) → IsMarkable world.block address → next_world.memory (Heap (address + 1)) ≡ world.memory (Heap (address + 1))) → RelyMarks config seat world next_world
rely_marks config world next_world seat phase greys counts buffers snapshot hands scans markable shapes = record {
  keeps = record { phase = phase; snapshot = snapshot; markable = λ marking_on. markable; shapes = shapes; noted = noted_same config world next_world greys counts buffers hands };
  recording = hands seat;
  scanning = scans;
  entries = counts seat;
  buffer = buffers seat;
  greys = λ address mark. ap (λ bits. bit_at bits (mark_bit config address)) (greys (mark_word config address)) ∙ mark;
}

-- nothing of marking changes where nothing of it is written
pub same_marks : (config : Config) (world : World) (seat : ℕ) → RelyMarks config seat world world
same_marks config world seat = rely_marks config world world seat refl (λ n. refl) (λ t. refl) (λ t k. refl) refl (λ t. refl) refl (λ a stands. stands) (λ a stands. refl)

module _ (config : Config) (phase : ℕ) (grey black count : ℕ → ℕ) (buffer : ℕ → ℕ → ℕ) (top tams heap : ℕ → ℕ) (block : Plot) (snapshot : Snapshot) (recording : ℕ → Option ℕ) (scanning : ℕ → Option Scan)
    (marked : KeepsSnapshot config phase grey black count buffer top tams heap block snapshot recording scanning) where
  -- a word of the heap changes, which is no field of the snapshot that marking still needs
  pub marked_stored : (after : ℕ → ℕ)
      → ((address refs nums field : ℕ) (name : Name) → snapshot.block address ≡ Some (thing name refs nums) → field < refs → (after (address + 3 + field) ≡ heap (address + 3 + field)) ⊎ NeedsNoMarking snapshot (IsNoted config grey count buffer recording) address field)
      → KeepsSnapshot config phase grey black count buffer top tams after block snapshot recording scanning
  marked_stored after stays = record {
    empty = marked.empty;
    traced = traced_stored config snapshot heap black scanning (IsNoted config grey count buffer recording) after stays marked.traced;
    led = marked.led;
    old = marked.old;
    kept = marked.kept;
    floors = marked.floors;
    marking = marked.marking;
  }

  -- a word changes that is no word of an object
  pub marked_elsewhere : (after : ℕ → ℕ) → ((address refs nums field : ℕ) (name : Name) → block address ≡ Some (thing name refs nums) → field < refs → after (address + 3 + field) ≡ heap (address + 3 + field))
      → KeepsSnapshot config phase grey black count buffer top tams after block snapshot recording scanning
  marked_elsewhere after stays = marked_stored after (λ address refs nums field name object_there field_below. inl (stays address refs nums field name (marked.kept address refs nums name object_there) field_below))

  -- A piece becomes an object: one that is young, or was named when marking began.
  pub marked_made : (new_block : Plot) (address refs nums : ℕ) (name : Name) → new_block address ≡ Some (thing name refs nums)
      → (phase ≡ marking_phase → (snapshot.starts address ≡ true) ⊎ IsYoung config snapshot.top address)
      → ((other_address other_refs other_nums : ℕ) (other_name : Name) → block other_address ≡ Some (thing other_name other_refs other_nums) → new_block other_address ≡ Some (thing other_name other_refs other_nums))
      → ((other_address : ℕ) (piece : Block) → block other_address ≡ Some piece → other_address ≢ address → new_block other_address ≡ Some piece)
      → ((other_address : ℕ) (piece : Block) → new_block other_address ≡ Some piece → other_address ≢ address → block other_address ≡ Some piece)
      → KeepsSnapshot config phase grey black count buffer top tams heap new_block snapshot recording scanning
  marked_made new_block address refs nums name new_object known_object objects_stay stays only_new = record {
    empty = marked.empty;
    traced = marked.traced;
    led = marked.led;
    old = marked.old;
    kept = λ other_address other_refs other_nums other_name object_there. objects_stay other_address other_refs other_nums other_name (marked.kept other_address other_refs other_nums other_name object_there);
    floors = marked.floors;
    marking = λ marking_on. record {
      older = λ other_address other_refs other_nums other_name object_there. ⊎_elim
          (λ (agree : other_address ≡ address). inr (subst (λ x. (snapshot.starts x ≡ true) ⊎ IsYoung config snapshot.top x) (sym agree) (known_object marking_on)))
          (λ (apart : other_address ≢ address). (marked.marking marking_on).older other_address other_refs other_nums other_name (only_new other_address (thing other_name other_refs other_nums) object_there apart))
          (cases_eq other_address address);
      promises = λ other_address seat words object_there. (marked.marking marking_on).promises other_address seat words (only_new other_address (promised seat words) object_there (elsewhere other_address (promised seat words) object_there (λ differ. cc)));
      deads = λ other_address words object_there. (marked.marking marking_on).deads other_address words (only_new other_address (dead words) object_there (elsewhere other_address (dead words) object_there (λ differ. cc)));
      young = λ other_address seat x object_there room. (marked.marking marking_on).young other_address seat x (only_new other_address x object_there (elsewhere other_address x object_there (λ agree. none-some seat (ap room_of agree ∙ room)))) room;
      tams_are = (marked.marking marking_on).tams_are;
      greys = marks_stay config grey block new_block still (marked.marking marking_on).greys;
      blacks = marks_stay config black block new_block still (marked.marking marking_on).blacks;
      entries = entries_stay config count buffer block new_block still (marked.marking marking_on).entries;
    };
  }
    where
      elsewhere : (other_address : ℕ) (piece : Block) → new_block other_address ≡ Some piece → (thing name refs nums ≡ piece → ⊥) → other_address ≢ address
      elsewhere other_address piece piece_there differs same_address = (let both_there : Some (thing name refs nums) ≡ Some piece = sym new_object ∙ ap new_block (sym same_address) ∙ piece_there in differs (cc (both_there)))

      still : (other_address : ℕ) → IsMarkable block other_address → IsMarkable new_block other_address
      still = markable_stays block new_block objects_stay (λ other_address seat words piece_there. ⊎_elim
          (λ (same_address : other_address ≡ address). IsMarkable.object name refs nums (ap new_block same_address ∙ new_object))
          (λ (addresses_differ : other_address ≢ address). IsMarkable.to_come seat words (stays other_address (promised seat words) piece_there addresses_differ))
          (cases_eq other_address address))
