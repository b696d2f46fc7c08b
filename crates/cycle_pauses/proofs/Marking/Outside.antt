-- Where a memory reads 0 at all that is no word of the table, so does what the beginning and the end of marking make of it.
use Rattle.std.proofs.Common.{◌≡◌, ℕ, ◌+◌, ◌*◌, ◌^◌, ◌<◌, ◌≤◌, Bool, true, false, zero, suc, Option, ⊎_elim, refl, ap, ◌∙◌, arith}
use Rattle.std.specs.Prelude.{if◌then◌else◌}
use Rattle.std.specs.Int.RustNames.{bit_or}
use Rattle.std.proofs.lemmas.Bool.{cases_Bool, ltb-false, true≢false}
use Rattle.heap_words.specs.declared.config.Config.{Config}
use Rattle.heap_words.specs.Ranges.{seat_count}
use Rattle.heap_words.specs.Words.{Word, Phase, Cset, Claim, Ask, Free, Top, Tams, Limit, Count, Grey, Black, is_word, bit_words}
use Rattle.shen_graph.specs.Graph.{Graph}
use Rattle.heap_world.specs.Walk.{has}
use Rattle.heap_world.specs.World.{Plot}
use Rattle.image_graph.specs.Plot.{heap_end}
use Rattle.image_graph.specs.Full.{held_words}
use Rattle.image_graph.specs.Promised.{Promises}
use Rattle.image_graph.specs.Settled.{buffers_settled}
use Rattle.image_graph.specs.Edge.{edge}
use Rattle.image_graph.proofs.Edges.{edges_lie}
use Rattle.image_graph.proofs.Elsewhere.{settled_same}
use Rattle.image_graph.proofs.Inside.{buffers_inside}
use Rattle.image_graph.specs.Holds.{HoldsBy}
use Rattle.image_graph.specs.Buffers.{settled_block}
use Rattle.image_graph.proofs.Loosening.Laws.{settling_holds}
use Rattle.cycle_pauses.proofs.Full.Outside.{IsZeroOutside}
use Rattle.cycle_pauses.proofs.Full.LettingGoFirst.{settled_outside}
use Rattle.cycle_pauses.proofs.Full.Images.{no_seats}
use Rattle.cycle_words.specs.Marking.Marks.{bits_of, mark_bits}
use Rattle.cycle_words.specs.Marking.Init.{marking_begun, init_marked}
use Rattle.cycle_words.specs.Marking.Close.{traced_in, closed}
use Rattle.cycle_words.specs.Marking.Final.{freed, dead_in, final_marked}
use Rattle.cycle_words.specs.Marking.WhileMarking.{IsMarking}
use Rattle.cycle_words.proofs.Marking.Bits.{one}
use Rattle.cycle_words.proofs.Marking.Closed.{inside}
use Rattle.cycle_words.proofs.Marking.Plain.{root_reached, reached_object, object_above}
use Rattle.cycle_words.proofs.Marking.Traced.{listed_traced}

-- the number of no bits is 0
bits_none : (test : ℕ → Bool) (first count : ℕ) → ((k : ℕ) → k < count → test (first + k) ≡ false) → bits_of test first count ≡ 0
unfolding bits_of
bits_none test first zero none_set = refl
bits_none test first (suc k) none_set =
    let later_none = bits_none test first k (λ index bit_below. none_set index (omega (arith, bit_below))) in
    ap (λ bit. one bit * 2 ^ k + bits_of test first k) (none_set k (omega arith)) ∙ omega (arith, later_none)

-- addresses of the heap have no bits behind the words of marks
marks_outside : (config : Config) (set : ℕ → Bool) → ((address : ℕ) → config.region_words ≤ address → set address ≡ true → address < heap_end config) → (number : ℕ) → is_word config (Grey number) ≡ false → mark_bits config set number ≡ 0
marks_outside config set set_within number not_word = bits_none set (config.region_words + 64 * number) 64 (λ bit bit_below. ⊎_elim
    (λ (bit_set : set (config.region_words + 64 * number + bit) ≡ true).
    let address_below = set_within (config.region_words + 64 * number + bit) (omega arith) bit_set in
    let number_past : bit_words config ≤ number = ltb-false number (bit_words config) not_word in
    absurd (omega (arith, address_below, number_past)))
    (λ not_set. not_set)
    (cases_Bool (set (config.region_words + 64 * number + bit))))

-- 0, if a region is freed or not
pub if_zero : (holds : Bool) (x : ℕ) → x ≡ 0 → (if holds then 0 else x) ≡ 0
if_zero true x is_zero = refl
if_zero false x is_zero = is_zero

or_zero : (x y : ℕ) → x ≡ 0 → y ≡ 0 → bit_or x y ≡ 0
or_zero x y left_zero right = ap (λ left. bit_or left y) left_zero ∙ ap (bit_or 0) right

-- an edge is no higher than the top
pub edge_zero : (config : Config) (memory : Word → ℕ) (region : ℕ) → memory (Top region) ≡ 0 → edge config memory region ≡ 0
edge_zero config memory region no_top = (let edge_below = (edges_lie config memory region).below_top in omega (arith, edge_below, no_top))

-- regions are freed
pub freed_outside : (config : Config) (out : ℕ → Bool) (memory : Word → ℕ) → IsZeroOutside config memory → IsZeroOutside config (freed config out memory)
freed_outside config out memory nothing (Top region) not_word = if_zero (out region) (memory (Top region)) (nothing (Top region) not_word)
freed_outside config out memory nothing (Tams region) not_word = if_zero (out region) (memory (Tams region)) (nothing (Tams region) not_word)
freed_outside config out memory nothing (Limit region) not_word = if_zero (out region) (memory (Limit region)) (nothing (Limit region) not_word)
freed_outside config out memory nothing Free not_word = absurd (true≢false not_word)
freed_outside config out memory nothing word not_word = nothing word not_word

module _ (config : Config) (memory : Word → ℕ) (block : Plot) (owner : ℕ → Option ℕ) (promises : Promises) (graph : Graph) (graph_held : HoldsBy config memory block owner promises graph) (nothing : IsZeroOutside config memory) where
  root_within : memory Cset ≡ 0 → (address : ℕ) → config.region_words ≤ address → has (held_words config memory) address ≡ true → address < heap_end config
  root_within empty_cset address address_high is_held =
      let least_words = config.in_range.least_words in
      let object = reached_object config memory block owner promises graph graph_held empty_cset address (root_reached config memory block owner promises graph graph_held empty_cset address is_held (λ is_null. omega (arith, is_null, least_words, address_high))) in
      let piece_place = object_above config memory block owner promises graph graph_held empty_cset address object.refs object.nums object.name object.here in
      omega (arith, piece_place.1)

  begun_outside : memory Cset ≡ 0 → IsZeroOutside config (marking_begun config memory)
  begun_outside empty_cset (Grey number) not_word = marks_outside config (has (held_words config memory)) (root_within empty_cset) number not_word
  begun_outside empty_cset (Black number) not_word = refl
  begun_outside empty_cset (Tams region) not_word = edge_zero config memory region (nothing (Top region) not_word)
  begun_outside empty_cset (Count mutator) not_word = refl
  begun_outside empty_cset Claim not_word = refl
  begun_outside empty_cset Ask not_word = refl
  begun_outside empty_cset Phase not_word = absurd (true≢false not_word)
  begun_outside empty_cset word not_word = nothing word not_word

  traced_within : IsMarking config memory block → (address : ℕ) → config.region_words ≤ address → has (traced_in config memory) address ≡ true → address < heap_end config
  traced_within marking address address_high is_traced =
      let inside_heap = inside config memory block owner promises graph graph_held marking address (listed_traced config memory (config.regions * config.region_words) address is_traced) in
      omega (arith, inside_heap.1)

  closed_outside : IsMarking config memory block → IsZeroOutside config (closed config memory)
  closed_outside marking (Grey number) not_word = or_zero (memory (Grey number)) (mark_bits config (has (traced_in config memory)) number) (nothing (Grey number) not_word) (marks_outside config (has (traced_in config memory)) (traced_within marking) number not_word)
  closed_outside marking (Black number) not_word = or_zero (memory (Black number)) (mark_bits config (has (traced_in config memory)) number) (nothing (Black number) not_word) (marks_outside config (has (traced_in config memory)) (traced_within marking) number not_word)
  closed_outside marking (Count mutator) not_word = refl
  closed_outside marking word not_word = nothing word not_word

  pub final_outside : IsMarking config memory block → IsZeroOutside config (final_marked config memory)
  final_outside marking = freed_outside config (dead_in config memory) (closed config memory) (closed_outside marking)

-- So it is where buffers are settled first.
pub init_outside : (config : Config) (memory : Word → ℕ) (block : Plot) (owner : ℕ → Option ℕ) (promises : Promises) (graph : Graph) → HoldsBy config memory block owner promises graph → IsZeroOutside config memory → memory Cset ≡ 0 → IsZeroOutside config (init_marked config memory)
init_outside config memory block owner promises graph graph_held nothing empty_cset =
    begun_outside config (buffers_settled config memory) (settled_block config memory block) owner promises graph (settling_holds config memory (no_seats config memory nothing) block owner promises graph graph_held).holds
    (settled_outside config memory nothing (buffers_inside config memory block graph_held.objects.plotted graph_held.buffers)) (settled_same Cset (λ never. never) config memory (seat_count config.mutators config.helpers) ∙ empty_cset)
