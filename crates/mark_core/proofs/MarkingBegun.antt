-- The beginning of marking makes the words that it says.
use Rattle.std.proofs.Common.{◌≡◌, ◌≢◌, ℕ, ◌+◌, ◌*◌, ◌<◌, ◌≤◌, nat_lt, cond, Bool, true, false, Option, List, [], ⊎_elim, refl, sym, ◌∙◌, subst, arith}
use Rattle.std.proofs.lemmas.Bool.{cases_lt, false≢true, false_from_ne_true}
use Rattle.std.proofs.lemmas.Bool.Decides.{nat_tests}
use Rattle.std.proofs.Math.Path.{fun_ext}
use Rattle.std.proofs.Math.Logic.{∥∥₁_elim}
use Rattle.std.proofs.Math.Bridge.{le_prop}
use Rattle.heap_words.proofs.Bools.{same_truth}
use Rattle.heap_words.specs.declared.config.Config.{Config}
use Rattle.heap_words.specs.Words.{Word, Phase, Claim, Ask, Top, Tams, Root, Count, Answer, Pin, Grey, Black, bit_words, view, write}
use Rattle.heap_words.specs.Ranges.{seat_count}
use Rattle.heap_words.proofs.Stores.{view_none}
use Rattle.image_graph.specs.Settled.{buffers_settled}
use Rattle.image_graph.specs.Edge.{edge}
use Rattle.image_graph.proofs.Elsewhere.{settled_same}
use Rattle.image_graph.proofs.Edges.{edges_same, edge_zero}
use Rattle.shen_graph.specs.Graph.{Graph}
use Rattle.heap_world.specs.Walk.{has, with_addresses}
use Rattle.heap_world.proofs.TakenDown as found
use Rattle.heap_world.specs.World.{Plot, thing}
use Rattle.heap_world.proofs.Pointing.{piece_inside}
use Rattle.image_graph.specs.Held.{IsAmong}
use Rattle.image_graph.specs.Full.{roots_below, answers_below, root_words, held_words}
use Rattle.image_graph.specs.Pinned.{pins_below}
use Rattle.image_graph.specs.Promised.{Promises}
use Rattle.image_graph.proofs.HeldRoots.{has_either, root_in, answer_in, pin_in, root_among, answer_among, pin_among}
use Rattle.image_graph.specs.Holds.{HoldsBy, HoldsSome}
use Rattle.cycle_words.specs.Marking.Marks.{mark_bits}
use Rattle.cycle_words.specs.Marking.Init.{marking_begun}
use Rattle.mark_core.specs.Steps.{greyed, noted, emptied}
use Rattle.mark_core.specs.Trace.{IsNullOrInside, HasRootsInside}
use Rattle.mark_core.proofs.Colours.{bits_agree, bits_none}

-- what holds below a bound and what holds from there on
pub below_and_past : (number bound x y z : ℕ) → (number < bound → x ≡ z) → (nat_lt number bound ≡ false → bound ≤ number → y ≡ z) → cond (nat_lt number bound) x y ≡ z
below_and_past number bound x y z when_below when_past = ⊎_elim
    (λ (number_below : number < bound). (let value_taken : cond (nat_lt number bound) x y ≡ x = grind (arith, nat_tests) in value_taken ∙ when_below number_below))
    (λ (number_past : bound ≤ number).
    let test_false : nat_lt number bound ≡ false = grind (arith, nat_tests) in
    let value_taken : cond (nat_lt number bound) x y ≡ y = grind (arith, nat_tests) in
    value_taken ∙ when_past test_false number_past)
    (cases_lt number bound)

-- Roots, answers and pin slots hold addresses of the heap.
module _ (config : Config) (memory : Word → ℕ) (block : Plot) (owner : ℕ → Option ℕ) (promises : Promises) (graph : Graph) (graph_held : HoldsBy config memory block owner promises graph) where
  abbrev top : ℕ → ℕ
  top region = memory (Top region)

  pub word_inside : (word : ℕ) → IsAmong (held_words config memory) word → IsNullOrInside config word
  word_inside word word_among some_word =
      let named = graph_held.objects.root_named word word_among some_word in
      let piece = graph_held.pieces.named word named.2 named.4 in
      let piece_within = piece_inside config top block graph_held.objects.plotted word (thing named.2 piece.0 piece.1) piece.2 in
      (piece_within.0, omega (arith, piece_within.1))

  pub held_inside : HasRootsInside config memory
  held_inside = record {
    roots = λ mutator index mutator_below few. word_inside (memory (Root mutator index)) (root_among config top memory block graph promises graph_held.objects.plotted graph_held.rooted mutator index mutator_below few);
    answers = λ mutator mutator_below some_answer. word_inside (memory (Answer mutator)) (answer_among config top memory block graph promises graph_held.objects.plotted graph_held.rooted mutator mutator_below some_answer);
    pins = λ mutator slot mutator_below few. word_inside (memory (Pin mutator slot)) (pin_among config top memory block graph promises graph_held.objects.plotted graph_held.rooted mutator slot mutator_below few);
  }

roots_prop : (config : Config) (memory : Word → ℕ) → IsProp (HasRootsInside config memory)
roots_prop config memory = hlevel (le_prop)

pub held_inside_some : (config : Config) (memory : Word → ℕ) → HoldsSome config memory → HasRootsInside config memory
held_inside_some config memory graph_held = ∥∥₁_elim graph_held (roots_prop config memory) (λ witness. held_inside config memory witness.1.0 witness.1.1 witness.1.2 witness.0 witness.1.3)

-- so all that they hold is of the heap
pub all_inside : (config : Config) (memory : Word → ℕ) → HasRootsInside config memory → (word : ℕ) → IsAmong (held_words config memory) word → IsNullOrInside config word
all_inside config memory roots_inside word word_among = ⊎_elim
    (λ (named : has (root_words config memory) word ≡ true). ⊎_elim
    (λ (root : has (roots_below memory config.mutators) word ≡ true). let held_at = root_in memory config.mutators word root in subst (IsNullOrInside config) held_at.4 (roots_inside.roots held_at.0 held_at.1 held_at.2 held_at.3))
    (λ (answer : has (answers_below memory config.mutators) word ≡ true). let held_at = answer_in memory config.mutators word answer in subst (IsNullOrInside config) held_at.3 (roots_inside.answers held_at.0 held_at.1 held_at.2))
    (has_either (roots_below memory config.mutators) (answers_below memory config.mutators) word named))
    (λ (pin : has (pins_below memory config.mutators) word ≡ true). let held_at = pin_in memory config.mutators word pin in subst (IsNullOrInside config) held_at.4 (roots_inside.pins held_at.0 held_at.1 held_at.2 held_at.3))
    (has_either (root_words config memory) (pins_below memory config.mutators) word word_among)

-- settling leaves what they hold
pub settled_inside : (config : Config) (memory : Word → ℕ) → HasRootsInside config memory → HasRootsInside config (buffers_settled config memory)
settled_inside config memory roots_inside = record {
  roots = λ mutator index mutator_below index_below. subst (IsNullOrInside config) (sym (settled_same (Root mutator index) (λ other_word. other_word) config memory (seat_count config.mutators config.helpers))) (roots_inside.roots mutator index mutator_below index_below);
  pins = λ mutator slot mutator_below index_below. subst (IsNullOrInside config) (sym (settled_same (Pin mutator slot) (λ other_word. other_word) config memory (seat_count config.mutators config.helpers))) (roots_inside.pins mutator slot mutator_below index_below);
  answers = λ seat mutator_below some_answer.
      let same_answer : buffers_settled config memory (Answer seat) ≡ memory (Answer seat) = settled_same (Answer seat) (λ other_word. other_word) config memory (seat_count config.mutators config.helpers) in
      subst (IsNullOrInside config) (sym same_answer) (roots_inside.answers seat mutator_below (omega (arith, same_answer, some_answer)));
}

-- a list of addresses that are no null has what it was made from
pub listed : (words : List ℕ) (address : ℕ) → address ≢ 0 → has (with_addresses [] words) address ≡ has words address
listed words address some_address = same_truth (has (with_addresses [] words) address) (has words address)
    (λ is_listed. ⊎_elim (λ (has_nothing : has [] address ≡ true). absurd (false≢true has_nothing)) (λ (new : (address ≢ 0) × (has words address ≡ true)). new.1) (found.only [] words address is_listed))
    (λ is_listed. found.new [] words address some_address is_listed)

module _ (config : Config) (words : List ℕ) (words_inside : (word : ℕ) → IsAmong (held_words config (view config words)) word → IsNullOrInside config word) where
  abbrev now : Word → ℕ
  now = view config words

  abbrev held : List ℕ
  held = held_words config now

  abbrev set : ℕ → Bool
  set = has (with_addresses [] held)

  grey_below : (number : ℕ) → mark_bits config set number ≡ mark_bits config (has held) number
  grey_below number = bits_agree set (has held) (config.region_words + 64 * number) 64
      (λ bit few. listed held (config.region_words + 64 * number + bit) (let least_words = config.in_range.least_words in λ is_null. omega (arith, is_null, least_words)))

  grey_past : (number : ℕ) → bit_words config ≤ number → 0 ≡ mark_bits config (has held) number
  grey_past number number_past = sym (bits_none (has held) (config.region_words + 64 * number) 64
      (λ bit few. false_from_ne_true (has held (config.region_words + 64 * number + bit))
      (λ held_there.
      let least_words = config.in_range.least_words in
      let inside_heap = words_inside (config.region_words + 64 * number + bit) held_there (λ is_null. omega (arith, is_null, least_words)) in
      omega (arith, inside_heap.1, number_past))))

  begun_at : (word : Word) → write (write (write (emptied config.mutators (noted config config.regions (greyed config set (bit_words config) now))) Claim 0) Ask 0) Phase 1 word ≡ marking_begun config now word
  begun_at (Grey number) = below_and_past number (bit_words config) (mark_bits config set number) (now (Grey number)) (mark_bits config (has held) number)
      (λ number_below. grey_below number)
      (λ test_false number_past. view_none config words (Grey number) test_false ∙ grey_past number number_past)
  begun_at (Black number) = below_and_past number (bit_words config) 0 (now (Black number)) 0 (λ number_below. refl) (λ test_false number_past. view_none config words (Black number) test_false)
  begun_at (Tams region) = below_and_past region config.regions (edge config (greyed config set (bit_words config) now) region) (now (Tams region)) (edge config now region)
      (λ number_below. edges_same config now (greyed config set (bit_words config) now) region (λ q. refl) (λ seat. refl) (seat_count config.mutators config.helpers))
      (λ test_false number_past. view_none config words (Tams region) test_false ∙ sym (edge_zero config now region (view_none config words (Top region) test_false)))
  begun_at (Count mutator) = below_and_past mutator config.mutators 0 (now (Count mutator)) 0 (λ number_below. refl) (λ test_false number_past. view_none config words (Count mutator) test_false)
  begun_at _ = refl

  pub begun : write (write (write (emptied config.mutators (noted config config.regions (greyed config set (bit_words config) now))) Claim 0) Ask 0) Phase 1 ≡ marking_begun config now
  begun = fun_ext begun_at
