-- Where an image holds a graph, what its roots, answers and pin slots lead to can be packed.
use Rattle.std.proofs.Common.{◌≡◌, ℕ, ◌+◌, ◌/◌, ◌<◌, ◌≤◌, get_or, slice_get, Option, Some, None, true, ap, ◌∙◌, arith}
use Rattle.std.proofs.lemmas.Bool.{cond-false}
use Rattle.std.proofs.lemmas.Option.{slice_get-get_or}
use Rattle.std.proofs.Math.Logic.{∥∥₁_elim}
use Rattle.std.proofs.Math.Bridge.{le_prop}
use Rattle.std.proofs.Math.Nat.{ℕ_set}
use Rattle.heap_words.specs.declared.config.Config.{Config}
use Rattle.heap_words.specs.Words.{Word, Top, Root, Answer, Pin, Heap}
use Rattle.heap_words.specs.Encoding.{is_forwarded, forwardee_in, refs_in}
use Rattle.shen_graph.specs.declared.name.Name.{Name}
use Rattle.shen_graph.specs.Graph.{Graph, Reference}
use Rattle.heap_world.specs.World.{Plot, thing, name_at, HasNoRoom}
use Rattle.heap_world.proofs.Pointing.{piece_inside, named_if_not_0}
use Rattle.image_graph.specs.Held.{IsLedTo, from_root, from_field, IsAmong, AreHeldKept}
use Rattle.image_graph.specs.Packing.{CanPack}
use Rattle.image_graph.specs.Pinned.{is_pinned, is_row_pinned, CanFill}
use Rattle.image_graph.specs.Plot.{AreParsed, heap_end}
use Rattle.image_graph.specs.Full.{now_in, held_words, copies_of, field_words, kept_in}
use Rattle.image_graph.specs.Promised.{Promises, with_promised}
use Rattle.image_graph.proofs.Reached.{held_is_reached, can_pack, refs_read}
use Rattle.image_graph.proofs.Origin.{kept_inside, lie_apart}
use Rattle.image_graph.proofs.HeldFound.{has_at, found_held}
use Rattle.image_graph.proofs.Walked.{walk_keeps, root_held, field_held}
use Rattle.image_graph.proofs.HeldRoots.{root_among, answer_among, pin_among}
use Rattle.image_graph.specs.Holds.{HoldsBy, AreSized}
use Rattle.full_cycle.specs.Collect.{found_in_turns, LeadsToHeld, CanCollect, HoldsWalked}
use Rattle.image_graph.proofs.PinnedRows.{row_pinned}
use Rattle.image_graph.proofs.WalkedPieces.{piece_begins}
use Rattle.full_cycle.proofs.Strides.{strides}
use Rattle.full_cycle.proofs.Parsed.{parsed_fills}
use Rattle.image_graph.proofs.Rows.{row_is}
use Rattle.full_cycle.proofs.Stays.{KeptBegin, begins_there}

module _ (config : Config) (memory : Word → ℕ) (block : Plot) (owner : ℕ → Option ℕ) (promises : Promises) (graph : Graph) (holds : HoldsBy config memory block owner promises graph)
    (sized : AreSized memory block) (no_room : HasNoRoom block) where
  abbrev top : ℕ → ℕ
  top region = memory (Top region)

  abbrev heap : ℕ → ℕ
  heap address = memory (Heap address)

  abbrev now : ℕ → ℕ
  now = now_in memory

  abbrev more : Graph
  more = with_promised graph promises

  abbrev IsRoot : ℕ → Type 0
  IsRoot = IsAmong (held_words config memory)

  abbrev Held : ℕ → Type 0
  Held = IsLedTo now heap IsRoot

  abbrev kept : ℕ → ℕ
  kept = kept_in config memory

  are : AreHeldKept heap Held kept
  are = walk_keeps config memory block more holds.objects

  can : CanPack config top heap block more.object now kept
  can = can_pack config top heap block now IsRoot more holds.objects kept are

  -- what is held is kept
  held_kept : (address : ℕ) → Held address → 0 < kept address
  held_kept address is_held = let size = are.words address is_held in omega (arith, size)

  -- a kept object has a plain header
  stays : (address : ℕ) → 0 < kept address → now address ≡ address
  stays address positive =
      let is_held = are.only address positive in
      let reached_object = held_is_reached config top heap block now IsRoot more holds.objects address is_held in
      let object = holds.objects.each address reached_object.1 reached_object.2 reached_object.0 is_held reached_object.3 in
      cond-false (is_forwarded (heap address)) (forwardee_in (heap address)) address (ap is_forwarded object.2.header)

  -- a word that stands for a name is an address of the heap
  named_inside : (word : ℕ) (name : Name) → name_at (block word) ≡ Some name → (config.region_words ≤ word) × (word < heap_end config)
  named_inside word name name_there =
      let piece = holds.pieces.named word name name_there in
      let inside = piece_inside config top block holds.objects.plotted word (thing name piece.0 piece.1) piece.2 in
      (inside.0, omega (arith, inside.1))

  root_leads : (word : ℕ) → IsRoot word → LeadsToHeld config memory word
  root_leads word root some_word =
      let named = holds.objects.root_named word root some_word in
      let inside = named_inside word named.2 named.4 in
      (inside.0, inside.1, held_kept (now word) (from_root word root some_word))

  field_leads : (address field : ℕ) → 0 < kept address → field < refs_in (heap (address + 1)) → LeadsToHeld config memory (heap (address + 3 + field))
  field_leads address field positive field_below some_word =
      let is_held = are.only address positive in
      let reached_object = held_is_reached config top heap block now IsRoot more holds.objects address is_held in
      let object = holds.objects.each address reached_object.1 reached_object.2 reached_object.0 is_held reached_object.3 in
      let object_shows = object.2 in
      let shape : refs_in (heap (address + 1)) ≡ reached_object.1 = ap refs_in object_shows.shape ∙ refs_read reached_object.1 reached_object.2 object_shows.few_refs object_shows.few_nums in
      let reference : Reference = get_or object.0.refs field None in
      let reference_there : slice_get object.0.refs field ≡ Some reference = slice_get-get_or object.0.refs field None (omega (arith, field_below, shape, object_shows.refs_are)) in
      let named_target = named_if_not_0 config top block holds.objects.plotted (heap (address + 3 + field)) reference (object_shows.references field reference reference_there) some_word in
      let inside = named_inside (heap (address + 3 + field)) named_target.0 named_target.2 in
      (inside.0, inside.1, held_kept (now (heap (address + 3 + field))) (from_field address field is_held field_below some_word))

  found_kept : (index address : ℕ) → slice_get (found_in_turns config memory index) index ≡ Some address → 0 < kept address
  found_kept index address found =
      held_kept address (found_held (λ object_address. copies_of memory (field_words memory object_address)) (copies_of memory (held_words config memory)) Held
      (root_held config memory block more holds.objects) (field_held config memory block more holds.objects) index address (has_at (found_in_turns config memory index) index address found))

  -- Pinned regions can be walked, and what is kept there begins where the walk comes.
  pub parsed : AreParsed config (is_row_pinned config memory) top heap block
  parsed = record { filled = holds.filled; some = holds.pieces.some; sized = λ address piece piece_there closed. strides memory block sized no_room address piece piece_there }

  fills : (region : ℕ) → region < config.regions → is_pinned config memory region ≡ true → CanFill config memory region
  fills region inside pinned = parsed_fills config (is_row_pinned config memory) memory block holds.objects.plotted parsed region inside (row_pinned config memory region inside pinned)

  kept_begins : KeptBegin config memory
  kept_begins region address inside pinned low high some_kept =
      let is_held = are.only address some_kept in
      let reached_object = held_is_reached config top heap block now IsRoot more holds.objects address is_held in
      let object = holds.objects.each address reached_object.1 reached_object.2 reached_object.0 is_held reached_object.3 in
      let row : is_row_pinned config memory (address / config.region_words) ≡ true = ap (is_row_pinned config memory) (row_is config.region_words region address low high) ∙ row_pinned config memory region inside pinned in
      let begun = piece_begins config (is_row_pinned config memory) memory block holds.objects.plotted parsed address (thing reached_object.0 reached_object.1 reached_object.2) reached_object.3 row in
      begins_there config memory region address low high begun object.2.header

  can_collect : CanCollect config memory
  can_collect = record {
    apart = lie_apart config top heap block more.object now kept can;
    inside = λ address some_kept. (kept_inside config top heap block more.object now kept can address some_kept).1;
    current = stays;
    found = found_kept;
    roots = λ mutator index inside few. root_leads (memory (Root mutator index)) (root_among config top memory block graph promises holds.objects.plotted holds.rooted mutator index inside few);
    answers = λ mutator inside some_kept. root_leads (memory (Answer mutator)) (answer_among config top memory block graph promises holds.objects.plotted holds.rooted mutator inside some_kept);
    pins = λ mutator slot inside few. root_leads (memory (Pin mutator slot)) (pin_among config top memory block graph promises holds.objects.plotted holds.rooted mutator slot inside few);
    fills = fills;
    fields = field_leads;
  }

collect_prop : (config : Config) (memory : Word → ℕ) → IsProp (CanCollect config memory)
collect_prop config memory = hlevel (le_prop, ℕ_set)

pub can_collect_some : (config : Config) (memory : Word → ℕ) → HoldsWalked config memory → CanCollect config memory
can_collect_some config memory holds = ∥∥₁_elim holds (collect_prop config memory) (λ what_holds. can_collect config memory what_holds.1 what_holds.2 what_holds.3 what_holds.0 what_holds.4 what_holds.5 what_holds.6)

begin_prop : (config : Config) (memory : Word → ℕ) → IsProp (KeptBegin config memory)
begin_prop config memory = hlevel (le_prop, ℕ_set)

pub kept_begin_some : (config : Config) (memory : Word → ℕ) → HoldsWalked config memory → KeptBegin config memory
kept_begin_some config memory holds = ∥∥₁_elim holds (begin_prop config memory) (λ what_holds. kept_begins config memory what_holds.1 what_holds.2 what_holds.3 what_holds.0 what_holds.4 what_holds.5 what_holds.6)
