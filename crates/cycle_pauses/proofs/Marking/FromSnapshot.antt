-- Words that represent a graph while objects are marked: they are marked from a snapshot, and each is kept once the marks are closed.
use Rattle.heap_words.specs.Phases.{marking_phase}
use Rattle.std.proofs.Common.{◌≡◌, ℕ, ◌+◌, ◌<◌, ◌≤◌, ◌⊎◌, ◌==◌, ◌&&◌, nat_le, true, false, Some, inl, inr, ⊎_elim, refl, sym, ◌∙◌, subst, arith}
use Rattle.std.specs.Int.{bit_at}
use Rattle.std.proofs.lemmas.Bool.{and_parts, and_from, le-leb, leb-true, eqb-true, eq-eqb}
use Rattle.heap_words.specs.declared.config.Config.{Config}
use Rattle.heap_words.specs.Words.{Word, Phase, Cset, Top, Buffer, Grey, Black}
use Rattle.regions.specs.Place.{base_of, region_with}
use Rattle.shen_graph.specs.declared.name.Name.{Name}
use Rattle.shen_graph.specs.Graph.{Graph}
use Rattle.regions.specs.Marks.{address_at, mark_word, mark_bit, HasMark}
use Rattle.heap_world.specs.World.{Block, thing, moved, spent, promised, Snapshot, IsCollected, AreMarks, IsMarkable, IsYoung, name_at}
use Rattle.heap_world.specs.Asking.{Asking}
use Rattle.heap_world.specs.Represents.{Represents, RepresentsByCopies}
use Rattle.heap_world.proofs.Pointing.{piece_inside, named_thing}
use Rattle.heap_world.proofs.Pieces.{some_words}
use Rattle.heap_world.proofs.Copies.{none_in_0}
use Rattle.image_graph.specs.Promised.{with_promised}
use Rattle.image_graph.specs.Holds.{HoldsBy}
use Rattle.cycle_pauses.proofs.Full.ByCopies.{by_copies}
use Rattle.cycle_pauses.proofs.Full.Promises.{promises_of}
use Rattle.cycle_pauses.proofs.Full.Before.{live, live_at, object_at, once_each, live_unpromised, live_room, live_dead}
use Rattle.cycle_pauses.proofs.Full.Current.{Kind, is_current, is_old, kind_at, held_current}
use Rattle.cycle_pauses.proofs.Full.Holding.{holds_by}
use Rattle.cycle_words.specs.Marking.Marks.{is_black, IsKept}
use Rattle.cycle_words.specs.Marking.Close.{IsTraced, closed}
use Rattle.cycle_words.specs.Marking.Final.{dead_in}
use Rattle.cycle_words.specs.Marking.WhileMarking.{CanBeReached, IsMarking}
use Rattle.cycle_words.proofs.Marking.Plain.{below_top}
use Rattle.cycle_words.proofs.Marking.Closed.{markable_object, black_markable, traced_markable, are_closed, object_kept, object_alive}

-- a mark, as a test
pub mark_is : (config : Config) (marks : ℕ → ℕ) (address : ℕ) → (nat_le config.region_words address && (bit_at (marks (mark_word config address)) (mark_bit config address) == 1)) ≡ true → (config.region_words ≤ address) × HasMark config marks address
mark_is config marks address mark_test =
    let mark_facts = and_parts (nat_le config.region_words address) (bit_at (marks (mark_word config address)) (mark_bit config address) == 1) mark_test in
    (leb-true config.region_words address mark_facts.0, eqb-true (bit_at (marks (mark_word config address)) (mark_bit config address)) 1 mark_facts.1)

pub is_mark : (config : Config) (marks : ℕ → ℕ) (address : ℕ) → config.region_words ≤ address → HasMark config marks address → (nat_le config.region_words address && (bit_at (marks (mark_word config address)) (mark_bit config address) == 1)) ≡ true
is_mark config marks address address_high has_mark =
    and_from (nat_le config.region_words address) (bit_at (marks (mark_word config address)) (mark_bit config address) == 1) (le-leb config.region_words address address_high) (eq-eqb (bit_at (marks (mark_word config address)) (mark_bit config address)) 1 has_mark)

-- While there is no collection set, nothing has moved.
module _ (config : Config) (memory : Word → ℕ) (graph : Graph) (asking : ℕ → Asking) (represents : Represents config memory graph asking) (empty_cset : memory Cset ≡ 0) where
  -- the same words by copies
  abbrev copies : RepresentsByCopies config memory graph asking
  copies = by_copies config memory graph asking represents

  uncollected : (address : ℕ) → IsCollected config (memory Cset) address → ⊥
  uncollected address is_collected = none_in_0 config address (subst (λ set. IsCollected config set address) empty_cset is_collected)

  pub no_moved : (address refs nums copy : ℕ) (name : Name) → represents.block address ≡ Some (moved name refs nums copy) → ⊥
  no_moved address refs nums copy name has_piece = uncollected address (represents.shared.evacuated.moved.moveds address refs nums copy name has_piece).inside

  pub no_spent : (address words copy : ℕ) → represents.block address ≡ Some (spent words copy) → ⊥
  no_spent address words copy has_piece = uncollected address (represents.shared.evacuated.moved.spents address words copy has_piece).inside

  -- so what stands for a name is an object
  pub thing_at : (address : ℕ) (name : Name) → name_at (represents.block address) ≡ Some name → (refs : ℕ) × (nums : ℕ) × (represents.block address ≡ Some (thing name refs nums))
  thing_at address name has_name = named_thing (represents.block address) name (λ refs nums copy. no_moved address refs nums copy name) has_name

  -- a piece lies in the part of its region that is in use, and in the heap
  pub piece_below : (address : ℕ) (piece : Block) → represents.block address ≡ Some piece
      → (region_with config address < config.regions) × (base_of config (region_with config address) ≤ address) × (address < base_of config (region_with config address) + memory (Top (region_with config address)))
  piece_below address piece has_piece =
      let words_some = some_words config (λ region. memory (Top region)) represents.block represents.shared.parsable represents.shared.owned.rooms address piece has_piece in
      let piece_place = below_top config (λ region. memory (Top region)) represents.block represents.shared.parsable.plotted address piece has_piece (omega (arith, words_some)) in
      (piece_place.0, piece_place.1, omega (arith, piece_place.2, words_some))

  pub piece_above : (address : ℕ) (piece : Block) → represents.block address ≡ Some piece → config.region_words ≤ address
  piece_above address piece has_piece = (piece_inside config (λ region. memory (Top region)) represents.block represents.shared.parsable.plotted address piece has_piece).0

  -- what can be marked is a piece
  pub markable_piece : (address : ℕ) → IsMarkable represents.block address → (piece : Block) × (represents.block address ≡ Some piece)
  markable_piece address (IsMarkable.object name refs nums has_piece) = (thing name refs nums, has_piece)
  markable_piece address (IsMarkable.to_come seat words has_piece) = (promised seat words, has_piece)

  -- what is an object of the larger graph can be marked
  pub live_markable : (address refs nums : ℕ) (name : Name) → live config memory graph asking copies address ≡ Some (thing name refs nums) → IsMarkable represents.block address
  live_markable address refs nums name has_piece = by_kind (kind_at config memory graph asking copies address refs nums name has_piece)
    where
      by_kind : Kind config memory graph asking copies address refs nums name → IsMarkable represents.block address
      by_kind (is_current current_there) = current_there
      by_kind (is_old copy was_old) = absurd (uncollected address was_old.inside)

  -- what roots and answers lead to can be marked
  pub reached_markable : (address : ℕ) → CanBeReached config memory address → IsMarkable represents.block address
  reached_markable address reached = held_current config memory graph asking copies address reached

  -- on the larger plot it is an object, and nothing else is
  still_markable : (address : ℕ) → IsMarkable represents.block address → IsMarkable (live config memory graph asking copies) address
  still_markable address (IsMarkable.object name refs nums has_piece) = IsMarkable.object name refs nums (live_at config memory graph asking copies address (thing name refs nums) has_piece)
  still_markable address (IsMarkable.to_come seat words has_piece) = IsMarkable.object _ _ _ (live_at config memory graph asking copies address (promised seat words) has_piece)

  pub was_markable : (address : ℕ) → IsMarkable (live config memory graph asking copies) address → IsMarkable represents.block address
  was_markable address (IsMarkable.object name refs nums has_piece) = live_markable address refs nums name has_piece
  was_markable address (IsMarkable.to_come seat words has_piece) = absurd (live_unpromised config memory graph asking copies address seat words has_piece)

  marks_still : (marks : ℕ → ℕ) → AreMarks config marks represents.block → AreMarks config marks (live config memory graph asking copies)
  marks_still marks are_marks = record { small = are_marks.small; of_objects = λ number bit bit_below bit_set. still_markable (address_at config number bit) (are_marks.of_objects number bit bit_below bit_set) }

  module _ (phase_one : memory Phase ≡ marking_phase) where
    abbrev snapshot : Snapshot
    snapshot = represents.ghost.snapshot

    older_of : (address refs nums : ℕ) (name : Name) → IsMarkable represents.block address → live config memory graph asking copies address ≡ Some (thing name refs nums)
        → (snapshot.block address ≡ Some (thing name refs nums)) ⊎ ((snapshot.starts address ≡ true) ⊎ IsYoung config snapshot.top address)
    older_of address refs nums name (IsMarkable.object found_name found_refs found_nums has_piece) live_object =
        (represents.shared.marked.marking phase_one).older address refs nums name (has_piece ∙ sym (live_at config memory graph asking copies address (thing found_name found_refs found_nums) has_piece) ∙ live_object)
    older_of address refs nums name (IsMarkable.to_come seat words has_piece) live_object = inr (inl ((represents.shared.marked.marking phase_one).promises address seat words has_piece))

    pub is_marking : IsMarking config memory (live config memory graph asking copies)
    is_marking =
        let was_marked = represents.shared.marked in
        let marking_now = was_marked.marking phase_one in
        record {
          ghost = represents.ghost;
          object = (with_promised graph (promises_of config graph asking)).object;
          marked = record {
            empty = λ other_phase. absurd (other_phase refl);
            traced = was_marked.traced;
            led = was_marked.led;
            old = was_marked.old;
            kept = λ place refs nums name has_piece. live_at config memory graph asking copies place (thing name refs nums) (was_marked.kept place refs nums name has_piece);
            floors = was_marked.floors;
            marking = λ _. record {
              older = λ address refs nums name has_piece. older_of address refs nums name (live_markable address refs nums name has_piece) has_piece;
              promises = λ place seat words has_piece. absurd (live_unpromised config memory graph asking copies place seat words has_piece);
              deads = λ place words has_piece. marking_now.deads place words (live_dead config memory graph asking copies place words has_piece);
              young = λ place seat piece has_piece room. marking_now.young place seat piece (live_room config memory graph asking copies place seat piece has_piece room) room;
              tams_are = marking_now.tams_are;
              greys = marks_still (λ number. memory (Grey number)) marking_now.greys;
              blacks = marks_still (λ number. memory (Black number)) marking_now.blacks;
              entries = record { few = marking_now.entries.few; of_objects = λ mutator entry inside entry_below. still_markable (memory (Buffer mutator entry)) (marking_now.entries.of_objects mutator entry inside entry_below) };
            };
          };
          unmarking = represents.unmarking;
          objects = record {
            each = λ address refs nums name has_piece. object_at config memory graph asking copies address refs nums name (live_markable address refs nums name has_piece) has_piece;
            once = λ place second_address refs nums second_refs second_nums name first_there second_there.
                once_each config memory graph asking copies place second_address refs nums second_refs second_nums name (live_markable place refs nums name first_there) (live_markable second_address second_refs second_nums name second_there) first_there second_there;
          };
          uncollected = empty_cset;
        }

    -- so once the marks are closed each of them is kept, and lies in no dead region; and what is black can be marked
    abbrev holds : HoldsBy config memory (live config memory graph asking copies) represents.ghost.owner (promises_of config graph asking) graph
    holds = holds_by config memory graph asking copies

    pub markable_kept : (address : ℕ) → IsMarkable represents.block address → IsKept config (closed config memory) address
    markable_kept address markable =
        object_kept config memory (live config memory graph asking copies) represents.ghost.owner (promises_of config graph asking) graph holds is_marking address
        (markable_object config memory (live config memory graph asking copies) represents.ghost.owner (promises_of config graph asking) graph holds is_marking address (still_markable address markable))

    pub markable_alive : (address : ℕ) → IsMarkable represents.block address → dead_in config memory (region_with config address) ≡ false
    markable_alive address markable =
        object_alive config memory (live config memory graph asking copies) represents.ghost.owner (promises_of config graph asking) graph holds is_marking address
        (markable_object config memory (live config memory graph asking copies) represents.ghost.owner (promises_of config graph asking) graph holds is_marking address (still_markable address markable))

    pub closed_markable : (address : ℕ) → is_black config (closed config memory) address ≡ true → IsMarkable represents.block address
    closed_markable address black_address = was_markable address (⊎_elim
        (λ (was_black : is_black config memory address ≡ true). black_markable config memory (live config memory graph asking copies) represents.ghost.owner (promises_of config graph asking) graph holds is_marking address was_black)
        (λ (traced : IsTraced config memory address). traced_markable config memory (live config memory graph asking copies) represents.ghost.owner (promises_of config graph asking) graph holds is_marking address traced)
        (((are_closed config memory (live config memory graph asking copies) represents.ghost.owner (promises_of config graph asking) graph holds is_marking).black address).0 black_address))
