-- A heap in which a text was placed stands for each graph of the text.
use Rattle.heap_words.specs.Phases.{idle_phase}
use Rattle.std.proofs.Common.{◌≡◌, ℕ, ◌+◌, ◌<◌, false, List, length, Some, None, refl, sym, ap, ◌∙◌, subst, arith, add-zero}
use Rattle.std.specs.Prelude.{Contains}
use Rattle.std.proofs.lemmas.Option.{none-some, slice_get_within, get_or_from_slice_get}
use Rattle.heap_words.specs.declared.config.Config.{Config}
use Rattle.heap_words.specs.Words.{Word, Phase, Cset, Free, Evac, Claim, Top, Tams, Current, Root, Count, Buffer, Wait, Answer, Grey, Black, Heap, Share, Pin}
use Rattle.shen_graph.specs.declared.name.Name.{Name}
use Rattle.shen_graph.specs.Graph.{Graph, Object, Reference, hub}
use Rattle.shen_graph.specs.GraphText.{Text, row_of, names_of, root_of}
use Rattle.heap_world.specs.World.{World, Plot, Block, thing, moved, spent, hand, spare, carved, promised, dead, filler, no_ghost, name_at, room_of, HasNoRoom, Points, IsThing, AreObjects, IsFreeWord, IsUsable, PinStands, IsEvacuating, Shared}
use Rattle.heap_world.specs.Asking.{nothing}
use Rattle.heap_world.specs.Represents.{Represents}
use Rattle.heap_world.proofs.Keeping.{usable_now}
use Rattle.heap_world.proofs.Copies.{none_evacuated}
use Rattle.heap_world.proofs.Roomless.{rooms_none}
use Rattle.heap_world.proofs.Unmarked.{none_marked}
use Rattle.image_graph.proofs.FreeWord.{free_again}
use Rattle.graph_placing.specs.ByName.{address_of, Fits}
use Rattle.graph_placing.specs.PlacedHeap.{place_among, word_for, IsPlaced}
use Rattle.graph_placing.specs.PlaceableText.{IsPlaceable}
use Rattle.graph_placing.specs.TextGraph.{row_object, IsGraphOf}
use Rattle.graph_placing.proofs.Searching.{stands_there, one_place, names_count, name_of_row}
use Rattle.graph_placing.proofs.ObjectWords.{reference_word, number_word}
use Rattle.graph_placing.proofs.Plotted.{piece, plot, plot_from, plot_at, plotted, filled}

module _ (config : Config) (text : Text) (placeable : IsPlaceable config text) (fits : Fits config text) (memory : Word → ℕ) (placed : IsPlaced config text memory) where
  abbrev row_count : ℕ
  row_count = length text.rows

  abbrev block : Plot
  block = plot config text row_count

  abbrev heap : ℕ → ℕ
  heap address = memory (Heap address)

  -- A reference whose name has a row leads to the row's object.
  pub leads : (reference : Reference) → ((name : Name) → reference ≡ Some name → Contains (names_of text) name) → Points block (word_for config text reference) reference
  leads None has_row = refl
  leads (Some name) has_row =
      let found = stands_there (names_of text) name name (has_row name refl) in
      let row = place_among (names_of text) name in
      let row_below : row < row_count = omega (arith, found.0, names_count text) in
      ap name_at (plot_at config text placeable row_count row row_below) ∙ ap (λ (name : Name). Some name) (sym (name_of_row text row name row_below) ∙ found.1)

  -- The words of each object.

  word_at_start : (row : ℕ) → row < row_count → heap (address_of config text row) ≡ 1
  word_at_start row row_below =
      ap heap (sym (add-zero (address_of config text row))) ∙ placed.objects row 0 row_below (omega arith)

  is_thing : (row : ℕ) → row < row_count → IsThing heap block (address_of config text row) (length (row_of text row).refs) (length (row_of text row).nums) (row_of text row).name (row_object (row_of text row))
  is_thing row row_below = record {
    header = word_at_start row row_below;
    shape = placed.objects row 1 row_below (omega arith);
    name_word = placed.objects row 2 row_below (omega arith);
    few_refs = (placeable.short row row_below).refs;
    few_nums = (placeable.short row row_below).nums;
    refs_are = refl;
    nums_are = refl;
    references = λ index reference element_there.
        let inside = slice_get_within (row_of text row).refs index reference element_there in
        let place : address_of config text row + 3 + index ≡ address_of config text row + (3 + index) = omega arith in
        let word : heap (address_of config text row + 3 + index) ≡ word_for config text reference =
        ap heap place ∙ placed.objects row (3 + index) row_below (omega (arith, inside)) ∙ reference_word (word_for config text) (row_of text row) index (3 + index) refl inside
        ∙ ap (word_for config text) (get_or_from_slice_get (row_of text row).refs index reference None element_there) in
        subst (λ (x : ℕ). Points block x reference) (sym word)
        (leads reference (λ name names. placeable.references row index name row_below (element_there ∙ ap (λ (reference : Reference). Some reference) names)));
    numbers = λ index number element_there.
        let inside = slice_get_within (row_of text row).nums index number element_there in
        let place : address_of config text row + 3 + length (row_of text row).refs + index ≡ address_of config text row + (3 + length (row_of text row).refs + index) = omega arith in
        ap heap place ∙ placed.objects row (3 + length (row_of text row).refs + index) row_below (omega (arith, inside))
        ∙ number_word (word_for config text) (row_of text row) index (3 + length (row_of text row).refs + index) refl ∙ get_or_from_slice_get (row_of text row).nums index number 0 element_there;
  }

  -- Only objects are pieces.

  no_moved : (address refs nums moved_to : ℕ) (name : Name) → block address ≡ Some (moved name refs nums moved_to) → ⊥
  no_moved address refs nums moved_to name has_moved = let same_piece = (plot_from config text row_count address (moved name refs nums moved_to) has_moved).3 in cc

  no_spent : (address words moved_to : ℕ) → block address ≡ Some (spent words moved_to) → ⊥
  no_spent address words moved_to has_spent = let same_piece = (plot_from config text row_count address (spent words moved_to) has_spent).3 in cc

  no_room : HasNoRoom block
  no_room address seat given_piece has_piece room = none-some seat (ap room_of (plot_from config text row_count address given_piece has_piece).3 ∙ room)

  no_promised : (address seat words : ℕ) → block address ≡ Some (promised seat words) → ⊥
  no_promised address seat words has_promised = let same_piece = (plot_from config text row_count address (promised seat words) has_promised).3 in cc

  no_dead : (address words : ℕ) → block address ≡ Some (dead words) → ⊥
  no_dead address words has_dead = let same_piece = (plot_from config text row_count address (dead words) has_dead).3 in cc

  no_filler : (address words : ℕ) → block address ≡ Some (filler words) → ⊥
  no_filler address words has_filler = let same_piece = (plot_from config text row_count address (filler words) has_filler).3 in cc

  module _ (counts : List ℕ) (graph : Graph) (graph_of : IsGraphOf config text counts graph) where
    -- a piece is an object of the graph
    abbrev IsHeld : ℕ → Block → Type 0
    IsHeld address (thing name refs nums) = (object : Object) × (graph.object name ≡ Some object) × IsThing heap block address refs nums name object
    IsHeld address _ = Unit {0}

    held : (address : ℕ) (any_piece : Block) → block address ≡ Some any_piece → IsHeld address any_piece
    held address any_piece has_piece =
        let from = plot_from config text row_count address any_piece has_piece in
        subst (IsHeld address) from.3 (subst (λ (x : ℕ). IsHeld x (piece text from.0)) from.2 (row_object (row_of text from.0), graph_of.objects from.0 from.1, is_thing from.0 from.1))

    one_name : (index other_index : ℕ) → index < row_count → other_index < row_count → (row_of text index).name ≡ (row_of text other_index).name → index ≡ other_index
    one_name index other_index below_j below_k same_name =
        let same_length = names_count text in
        one_place (names_of text) placeable.in_order index other_index hub (omega (arith, same_length, below_j)) (omega (arith, same_length, below_k))
        (name_of_row text index hub below_j ∙ same_name ∙ sym (name_of_row text other_index hub below_k))

    objects : AreObjects heap block graph.object
    objects = record {
      each = λ address refs nums name has_thing. held address (thing name refs nums) has_thing;
      once = λ first_address second_address refs nums second_refs second_nums name has_first has_second.
          let first_plotted = plot_from config text row_count first_address (thing name refs nums) has_first in
          let second_plotted = plot_from config text row_count second_address (thing name second_refs second_nums) has_second in
          let first_piece = first_plotted.3 in
          let second = second_plotted.3 in
          let named : (row_of text first_plotted.0).name ≡ name = cc in
          let named_too : (row_of text second_plotted.0).name ≡ name = cc in
          let same_row = one_name first_plotted.0 second_plotted.0 first_plotted.1 second_plotted.1 (named ∙ sym named_too) in
          sym first_plotted.2 ∙ ap (address_of config text) same_row ∙ second_plotted.2;
    }

    abbrev world : World
    world = record { memory = memory; block = block; ghost = no_ghost; graph = graph }

    phase : memory Phase ≡ idle_phase
    phase = placed.others Phase refl

    set : memory Cset ≡ 0
    set = placed.others Cset refl

    copiers : memory Evac ≡ 0
    copiers = placed.others Evac refl

    evacuated : IsEvacuating config (memory Phase) (memory Cset) (memory Evac) (memory Claim) (memory Free) (λ region. memory (Top region)) (λ region. memory (Tams region)) heap (λ number. memory (Black number)) block (λ r. None) (λ seat. false) (λ seat. None)
    evacuated =
        subst (λ (cset : ℕ). IsEvacuating config (memory Phase) cset (memory Evac) (memory Claim) (memory Free) (λ region. memory (Top region)) (λ region. memory (Tams region)) heap (λ number. memory (Black number)) block (λ r. None) (λ seat. false) (λ seat. None)) (sym set)
        (subst (λ (evac : ℕ). IsEvacuating config (memory Phase) 0 evac (memory Claim) (memory Free) (λ region. memory (Top region)) (λ region. memory (Tams region)) heap (λ number. memory (Black number)) block (λ r. None) (λ seat. false) (λ seat. None)) (sym copiers)
        (none_evacuated config (memory Phase) (memory Claim) (memory Free) (λ region. memory (Top region)) (λ region. memory (Tams region)) heap (λ number. memory (Black number)) block (λ r. None) (λ seat. false) (λ seat. None)
        (λ late. omega (arith, phase, late)) no_moved no_spent (λ seat seat_below. refl)))

    shared : Shared config world
    shared = record {
      parsable = record {
        plotted = plotted config text placeable fits (λ region. memory (Top region)) placed.tops;
        filled = filled config text placeable fits (λ region. memory (Top region)) placed.tops;
        promises = λ address seat words has_piece. absurd (no_promised address seat words has_piece);
        deads = λ address words has_piece. absurd (no_dead address words has_piece);
        spents = λ address words moved_to has_piece. absurd (no_spent address words moved_to has_piece);
        fillers = λ address words has_piece. absurd (no_filler address words has_piece);
      };
      contents = record { objects = objects; given = graph_of.given };
      owned = record {
        free_word = subst (λ (free_word : ℕ). IsFreeWord config free_word (λ region. memory (Top region)) (λ any_region. None)) (sym placed.free) (free_again config (λ region. memory (Top region)));
        shared_one = λ any_region shared_there. absurd (omega (arith, placed.others Share refl, shared_there));
        rooms = rooms_none config block no_room;
        buffers = record {
          each = λ seat has_buffer. absurd (has_buffer (placed.others (Current seat) refl));
          spares = λ spare_address seat words has_piece. absurd (no_room spare_address seat (spare seat words) has_piece refl);
        };
        outside = λ seat has_buffer. absurd (has_buffer (placed.others (Current seat) refl));
      };
      phased = record { phase_is = omega (arith, phase); cset_is = λ not_collecting. set; evac_is = λ not_collecting. copiers };
      unwritten = record {
        blanks = λ address seat words has_piece. absurd (no_promised address seat words has_piece);
        headers = λ address words has_piece. absurd (no_dead address words has_piece);
        lengths = λ address words has_piece. absurd (no_dead address words has_piece);
        fillers = λ address words has_piece. absurd (no_filler address words has_piece);
      };
      marked = none_marked config (memory Phase) (λ number. memory (Grey number)) (λ number. memory (Black number)) (λ mutator. memory (Count mutator)) (λ mutator entry. memory (Buffer mutator entry)) (λ region. memory (Top region)) (λ region. memory (Tams region)) heap block (λ seat. None) (λ seat. None) phase;
      evacuated = evacuated;
      updated = λ updating. absurd (omega (arith, phase, updating));
      pinned = λ mutator slot mutator_below small. subst (PinStands config (memory Cset) (memory Evac) block (memory (Pin mutator slot))) (sym (graph_of.no_pins (mutator + 1) slot)) (placed.others (Pin mutator slot) refl);
    }

    roots : (mutator index : ℕ) → mutator < config.mutators → index < 16 → Points block (memory (Root mutator index)) (graph.root (mutator + 1) index)
    roots mutator index mutator_below small =
        let root = root_of text (mutator + 1) index in
        let points : Points block (word_for config text root) root = leads root (λ name names. placeable.roots (mutator + 1) index name (omega arith) (omega (arith, mutator_below)) small names) in
        subst (λ (x : ℕ). Points block x (graph.root (mutator + 1) index)) (sym (placed.roots mutator index mutator_below small)) (subst (Points block (word_for config text root)) (sym (graph_of.roots mutator index mutator_below small)) points)

    pub stands : Represents config memory graph (λ mutator. nothing)
    stands = record {
      block = block;
      ghost = no_ghost;
      shared = shared;
      roots = roots;
      usable = λ mutator index mutator_below small.
          subst (λ (cset : ℕ). IsUsable config cset (memory Evac) block (memory (Root mutator index))) (sym set) (usable_now config (memory Evac) block no_moved (memory (Root mutator index)) (graph.root (mutator + 1) index) (roots mutator index mutator_below small));
      none = λ room_address seat words has_piece. no_room room_address seat (hand seat words) has_piece refl;
      uncarved = λ address seat words has_piece. no_room address seat (carved seat words) has_piece refl;
      asked = λ mutator mutator_below. (placed.others (Wait mutator) refl, placed.others (Answer mutator) refl, λ address words has_piece. no_promised address mutator words has_piece);
      heard = λ mutator refs nums mutator_below asks_it. absurd (cc);
      promised_to = λ address seat words has_piece. absurd (no_promised address seat words has_piece);
      unmarking = record { records_none = λ seat mutator_below. refl; scans_none = λ seat mutator_below. refl };
      uncopying = record { copies_none = λ seat mutator_below. refl; works_none = λ seat mutator_below. refl };
      no_more = graph_of.no_more;
      no_more_pins = λ thread slot no_mutator. graph_of.no_pins thread slot;
    }
