-- The closing of the marks makes the words that it says.
use Rattle.std.proofs.Common.{◌≡◌, ℕ, ◌+◌, ◌*◌, ◌≤◌, Bool, List, Option, refl, sym, ap, ◌∙◌, arith}
use Rattle.std.specs.Int.RustNames.{bit_or}
use Rattle.std.proofs.lemmas.Bool.{false_from_ne_true}
use Rattle.std.proofs.Math.Path.{fun_ext}
use Rattle.std.proofs.Math.Logic.{∥∥₁_elim}
use Rattle.std.proofs.Math.Bridge.{le_prop}
use Rattle.heap_words.specs.declared.config.Config.{Config}
use Rattle.heap_words.specs.Words.{Word, Count, Grey, Black, Heap, bit_words, view}
use Rattle.heap_words.specs.Encoding.{refs_in}
use Rattle.heap_words.proofs.Stores.{view_none}
use Rattle.shen_graph.specs.Graph.{Graph}
use Rattle.heap_world.specs.Walk.{has}
use Rattle.heap_world.specs.World.{Plot}
use Rattle.image_graph.specs.Promised.{Promises}
use Rattle.image_graph.proofs.Reached.{refs_read}
use Rattle.image_graph.specs.Holds.{HoldsBy}
use Rattle.cycle_words.specs.Marking.Marks.{mark_bits}
use Rattle.cycle_words.specs.Marking.Close.{IsTraced, traced_in, closed}
use Rattle.cycle_words.specs.Marking.WhileMarking.{IsObjectAt, IsMarking}
use Rattle.cycle_words.proofs.Marking.Plain.{object_above}
use Rattle.cycle_words.proofs.Marking.Traced.{listed_traced}
use Rattle.cycle_words.proofs.Marking.Closed.{markable_object, traced_markable}
use Rattle.mark_core.specs.Steps.{marked, emptied}
use Rattle.mark_core.specs.Trace.{CanTrace}
use Rattle.mark_core.specs.Result.{MarksSome}
use Rattle.mark_core.proofs.Colours.{bits_none}
use Rattle.mark_core.proofs.Tracing.{traced_inside}
use Rattle.mark_core.proofs.MarkingBegun.{below_and_past}

-- where marking runs, what tracing comes to can be found
module _ (config : Config) (memory : Word → ℕ) (block : Plot) (owner : ℕ → Option ℕ) (promises : Promises) (graph : Graph) (graph_held : HoldsBy config memory block owner promises graph) (marking : IsMarking config memory block) where
  object : (address : ℕ) → IsTraced config memory address → IsObjectAt memory block address
  object address traced = markable_object config memory block owner promises graph graph_held marking address (traced_markable config memory block owner promises graph graph_held marking address traced)

  can_trace : CanTrace config memory
  can_trace = record {
    above = λ address traced. (let traced_object = object address traced in (object_above config memory block owner promises graph graph_held marking.uncollected address traced_object.refs traced_object.nums traced_object.name traced_object.here).0);
    below = λ traced_address traced.
        let traced_object = object traced_address traced in
        let same_refs : refs_in (memory (Heap (traced_address + 1))) ≡ traced_object.refs = ap refs_in traced_object.shape ∙ refs_read traced_object.refs traced_object.nums traced_object.few_refs traced_object.few_nums in
        let object_inside = (object_above config memory block owner promises graph graph_held marking.uncollected traced_address traced_object.refs traced_object.nums traced_object.name traced_object.here).1 in
        omega (arith, same_refs, object_inside);
    counts = (marking.marked.marking refl).entries.few;
  }

trace_prop : (config : Config) (memory : Word → ℕ) → IsProp (CanTrace config memory)
trace_prop config memory = hlevel (le_prop)

pub can_trace_some : (config : Config) (memory : Word → ℕ) → MarksSome config memory → CanTrace config memory
can_trace_some config memory marks = ∥∥₁_elim marks (trace_prop config memory) (λ witness. can_trace config memory witness.1 witness.2 witness.3 witness.0 witness.4 witness.5)

module _ (config : Config) (words : List ℕ) (can_trace : CanTrace config (view config words)) where
  abbrev now : Word → ℕ
  now = view config words

  abbrev set : ℕ → Bool
  set = has (traced_in config now)

  no_bits : (number : ℕ) → bit_words config ≤ number → mark_bits config set number ≡ 0
  no_bits number past_words = bits_none set (config.region_words + 64 * number) 64
      (λ bit few. false_from_ne_true (set (config.region_words + 64 * number + bit))
      (λ set_there.
      let traced_place = traced_inside config now can_trace (config.region_words + 64 * number + bit) (listed_traced config now (config.regions * config.region_words) (config.region_words + 64 * number + bit) set_there) in
      omega (arith, traced_place.1, past_words)))

  neither : (x y : ℕ) → x ≡ 0 → y ≡ 0 → x ≡ bit_or x y
  neither x y first_zero none_second = first_zero ∙ sym (ap (λ z. bit_or z y) first_zero ∙ ap (bit_or 0) none_second)

  closed_at : (word : Word) → emptied config.mutators (marked config set (bit_words config) now) word ≡ closed config now word
  closed_at (Grey number) = below_and_past number (bit_words config) (bit_or (now (Grey number)) (mark_bits config set number)) (now (Grey number)) (bit_or (now (Grey number)) (mark_bits config set number))
      (λ number_below. refl)
      (λ not_below number_past. neither (now (Grey number)) (mark_bits config set number) (view_none config words (Grey number) not_below) (no_bits number number_past))
  closed_at (Black number) = below_and_past number (bit_words config) (bit_or (now (Black number)) (mark_bits config set number)) (now (Black number)) (bit_or (now (Black number)) (mark_bits config set number))
      (λ number_below. refl)
      (λ not_below number_past. neither (now (Black number)) (mark_bits config set number) (view_none config words (Black number) not_below) (no_bits number number_past))
  closed_at (Count mutator) = below_and_past mutator config.mutators 0 (now (Count mutator)) 0 (λ number_below. refl) (λ not_below number_past. view_none config words (Count mutator) not_below)
  closed_at _ = refl

  pub closed_is : emptied config.mutators (marked config set (bit_words config) now) ≡ closed config now
  closed_is = fun_ext closed_at
