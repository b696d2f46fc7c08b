-- References are renamed where they stand: words that held a graph hold it in the same way.
use Rattle.std.proofs.Common.{◌≡◌, ℕ, ◌+◌, ◌<◌, ◌≤◌, ◌⊎◌, ◌==◌, ◌&&◌, true, false, Option, Some, refl, sym, ap, ◌∙◌, subst, ⊎_elim}
use Rattle.std.proofs.Math.Path.{fun_ext}
use Rattle.std.proofs.lemmas.Bool.{cases_Bool, cond-true, cond-false, eqb-true}
use Rattle.heap_words.proofs.Bools.{both_equal}
use Rattle.heap_words.specs.declared.config.Config.{Config}
use Rattle.heap_words.specs.Words.{Word, Cset, Free, Top, Current, Root, Wait, Answer, Heap, Share, Pin, write}
use Rattle.heap_words.specs.Encoding.{is_forwarded, refs_in}
use Rattle.regions.specs.Place.{region_with}
use Rattle.regions.specs.Sets.{IsIn, IsOutside}
use Rattle.shen_graph.specs.declared.name.Name.{Name}
use Rattle.shen_graph.specs.Graph.{Graph}
use Rattle.heap_world.specs.World.{thing, Plot, name_at, IsPlotted, IsFilled, IsFreeWord, ShareIsOpen, AreBuffers}
use Rattle.image_graph.specs.Full.{now_in}
use Rattle.image_graph.specs.Promised.{Promises}
use Rattle.image_graph.specs.Holds.{HasMoved, HoldsBy}
use Rattle.cycle_words.specs.Marking.WhileMarking.{CanBeReached}
use Rattle.image_graph.proofs.Carried.{now_same, IsRenamed, not_renamed, IsCarried, led_comes, carried_holds}

-- Fields, roots and answers are renamed, and no other word of a piece, or of the regions, changes, nor does a pin slot.
pub record IsRenaming (config : Config) (memory other_memory : Word → ℕ) (block : Plot) : Type 0 where
  pub headers : (address refs nums : ℕ) (name : Name) → block address ≡ Some (thing name refs nums) → other_memory (Heap address) ≡ memory (Heap address)
  pub words : (address k refs nums : ℕ) (name : Name) → block address ≡ Some (thing name refs nums) → refs_in (memory (Heap (address + 1))) ≡ refs → k < 3 + refs + nums
      → (k < 3) ⊎ (3 + refs ≤ k) → other_memory (Heap (address + k)) ≡ memory (Heap (address + k))
  pub fields : (address index refs nums : ℕ) (name : Name) → block address ≡ Some (thing name refs nums) → index < refs → IsRenamed memory (memory (Heap (address + 3 + index))) (other_memory (Heap (address + 3 + index)))
  pub roots : (mutator index : ℕ) → mutator < config.mutators → index < 16 → IsRenamed memory (memory (Root mutator index)) (other_memory (Root mutator index))
  pub answers : (mutator : ℕ) → mutator < config.mutators → IsRenamed memory (memory (Answer mutator)) (other_memory (Answer mutator))
  pub waits : (mutator : ℕ) → other_memory (Wait mutator) ≡ memory (Wait mutator)
  pub tops : (region : ℕ) → other_memory (Top region) ≡ memory (Top region)
  pub free : other_memory Free ≡ memory Free
  pub cset : other_memory Cset ≡ memory Cset
  pub currents : (seat : ℕ) → other_memory (Current seat) ≡ memory (Current seat)
  pub share : other_memory Share ≡ memory Share
  pub pins : (mutator index : ℕ) → other_memory (Pin mutator index) ≡ memory (Pin mutator index)

module _ (config : Config) (memory next_memory : Word → ℕ) (block : Plot) (owner : ℕ → Option ℕ) (promises : Promises) (graph : Graph) (holds : HoldsBy config memory block owner promises graph) (renaming : IsRenaming config memory next_memory block) where
  tops_are : ◌≡◌ {A = ℕ → ℕ} (λ region. next_memory (Top region)) (λ region. memory (Top region))
  tops_are = fun_ext renaming.tops

  now_again : (address : ℕ) (name : Name) → name_at (block address) ≡ Some name → now_in next_memory address ≡ now_in memory address
  now_again address name named = let named_there = holds.pieces.named address name named in now_same next_memory memory address (renaming.headers address named_there.0 named_there.1 name named_there.2)

  abbrev same_place : ℕ → ℕ
  same_place address = address

  abbrev Anywhere : ℕ → Type 0
  Anywhere address = Unit {0}

  carried : IsCarried config memory next_memory block block same_place Anywhere
  carried = record {
    plotted = subst (λ top. IsPlotted config top block) (sym tops_are) holds.objects.plotted;
    names = λ object_address name named. named;
    current = λ address name named. let copy = holds.objects.current address name named in (copy.0, copy.1, ap block (now_again address name named) ∙ copy.2);
    now = now_again;
    lands = λ address name named. tt;
    one = λ place other_place first_anywhere second_anywhere same_address. same_address;
    pieces = λ place refs nums name has_object. has_object;
    header = λ address refs nums name has_object anywhere was_plain. renaming.headers address refs nums name has_object ∙ was_plain;
    words = λ place offset refs nums name has_object anywhere reads some_offset offset_below differs. renaming.words place offset refs nums name has_object reads offset_below differs;
    fields = λ place index refs nums name has_object anywhere few. renaming.fields place index refs nums name has_object few;
    roots = renaming.roots;
    answers = renaming.answers;
    pins = λ owner index inside few. renaming.pins owner index;
    pinned = λ mutator slot inside few name copy was_plain. ap is_forwarded (renaming.headers (memory (Pin mutator slot)) copy.0 copy.1 name copy.2) ∙ was_plain;
    waits = renaming.waits;
  }

  moved_again : (address refs nums : ℕ) (name : Name) → block address ≡ Some (thing name refs nums) → is_forwarded (next_memory (Heap address)) ≡ true → HasMoved config next_memory block address refs nums name
  moved_again address refs nums name has_object forwarded =
      let was_moved = holds.moved address refs nums name has_object (ap is_forwarded (sym (renaming.headers address refs nums name has_object)) ∙ forwarded) in
      let now = now_again address name (ap name_at has_object) in
      record {
        in_set = subst (λ set. IsIn set (region_with config address)) (sym renaming.cset) was_moved.in_set;
        copy = ap block now ∙ was_moved.copy;
        outside = subst (λ copy. IsOutside (next_memory Cset) (region_with config copy)) (sym now) (subst (λ set. IsOutside set (region_with config (now_in memory address))) (sym renaming.cset) was_moved.outside);
        current = ap (λ address. is_forwarded (next_memory (Heap address))) now ∙ ap is_forwarded (renaming.headers (now_in memory address) refs nums name was_moved.copy) ∙ was_moved.current;
      }

  pub renamed_holds : HoldsBy config next_memory block owner promises graph
  renamed_holds =
      carried_holds config memory next_memory block block owner promises graph holds same_place Anywhere carried moved_again
      (subst (λ top. IsFilled config top block) (sym tops_are) holds.filled) holds.pieces
      (subst (λ top. IsFreeWord config (next_memory Free) top owner) (sym tops_are) (subst (λ free_word. IsFreeWord config free_word (λ region. memory (Top region)) owner) (sym renaming.free) holds.free_word))
      (subst (λ share. ShareIsOpen config share (next_memory Free) (next_memory Cset) owner) (sym renaming.share)
      (subst (λ free_word. ShareIsOpen config (memory Share) free_word (next_memory Cset) owner) (sym renaming.free) (subst (λ cset. ShareIsOpen config (memory Share) (memory Free) cset owner) (sym renaming.cset) holds.shared_one)))
      (subst (λ top. AreBuffers config top (λ seat. next_memory (Current seat)) block) (sym tops_are) (subst (λ current. AreBuffers config (λ region. memory (Top region)) current block) (sym (fun_ext renaming.currents)) holds.buffers))

  -- what can be reached could be
  pub reached_was : (address : ℕ) → CanBeReached config next_memory address → CanBeReached config memory address
  reached_was address reached = (led_comes config memory next_memory block block owner promises graph holds same_place Anywhere carried address reached).led

-- A root is renamed, or an answer.
module _ (config : Config) (memory : Word → ℕ) (block : Plot) (owner : ℕ → Option ℕ) (promises : Promises) (graph : Graph) (holds : HoldsBy config memory block owner promises graph) (new_value : ℕ) where
  root_renaming : (mutator index : ℕ) → IsRenamed memory (memory (Root mutator index)) new_value → IsRenaming config memory (write memory (Root mutator index) new_value) block
  root_renaming mutator index renamed = record {
    headers = λ address refs nums name has_object. refl;
    words = λ object_address number refs nums name has_object reads offset_below differs. refl;
    fields = λ object_address field refs nums name has_object few. not_renamed memory (memory (Heap (object_address + 3 + field))) (memory (Heap (object_address + 3 + field))) refl;
    roots = λ other_mutator other_index inside few. ⊎_elim
        (λ (same_indices : ((mutator == other_mutator) && (index == other_index)) ≡ true).
        let both_same = both_equal mutator other_mutator index other_index same_indices in
        let place : memory (Root mutator index) ≡ memory (Root other_mutator other_index) = ap (λ mutator. memory (Root mutator index)) both_same.0 ∙ ap (λ index. memory (Root other_mutator index)) both_same.1 in
        subst (λ word. IsRenamed memory (memory (Root other_mutator other_index)) word) (sym (cond-true ((mutator == other_mutator) && (index == other_index)) new_value (memory (Root other_mutator other_index)) same_indices)) (subst (λ number. IsRenamed memory number new_value) place renamed))
        (λ (differs : ((mutator == other_mutator) && (index == other_index)) ≡ false). not_renamed memory (memory (Root other_mutator other_index)) (write memory (Root mutator index) new_value (Root other_mutator other_index)) (cond-false ((mutator == other_mutator) && (index == other_index)) new_value (memory (Root other_mutator other_index)) differs))
        (cases_Bool ((mutator == other_mutator) && (index == other_index)));
    answers = λ mutator inside. not_renamed memory (memory (Answer mutator)) (memory (Answer mutator)) refl;
    waits = λ u. refl;
    tops = λ r. refl;
    free = refl;
    cset = refl;
    currents = λ seat. refl;
    share = refl;
    pins = λ mutator index. refl;
  }

  pub root_renamed : (mutator index : ℕ) → IsRenamed memory (memory (Root mutator index)) new_value → HoldsBy config (write memory (Root mutator index) new_value) block owner promises graph
  root_renamed mutator index renamed = renamed_holds config memory (write memory (Root mutator index) new_value) block owner promises graph holds (root_renaming mutator index renamed)

  pub root_reached : (mutator index : ℕ) → IsRenamed memory (memory (Root mutator index)) new_value → (address : ℕ) → CanBeReached config (write memory (Root mutator index) new_value) address → CanBeReached config memory address
  root_reached mutator index renamed = reached_was config memory (write memory (Root mutator index) new_value) block owner promises graph holds (root_renaming mutator index renamed)

  answer_renaming : (mutator : ℕ) → IsRenamed memory (memory (Answer mutator)) new_value → IsRenaming config memory (write memory (Answer mutator) new_value) block
  answer_renaming mutator renamed = record {
    headers = λ address refs nums name has_object. refl;
    words = λ object_address number refs nums name has_object reads offset_below differs. refl;
    fields = λ object_address field refs nums name has_object few. not_renamed memory (memory (Heap (object_address + 3 + field))) (memory (Heap (object_address + 3 + field))) refl;
    roots = λ mutator index inside few. not_renamed memory (memory (Root mutator index)) (memory (Root mutator index)) refl;
    answers = λ other_mutator inside. ⊎_elim
        (λ (same_mutator : (mutator == other_mutator) ≡ true).
        let place : memory (Answer mutator) ≡ memory (Answer other_mutator) = ap (λ mutator. memory (Answer mutator)) (eqb-true mutator other_mutator same_mutator) in
        subst (λ word. IsRenamed memory (memory (Answer other_mutator)) word) (sym (cond-true (mutator == other_mutator) new_value (memory (Answer other_mutator)) same_mutator)) (subst (λ number. IsRenamed memory number new_value) place renamed))
        (λ (differs : (mutator == other_mutator) ≡ false). not_renamed memory (memory (Answer other_mutator)) (write memory (Answer mutator) new_value (Answer other_mutator)) (cond-false (mutator == other_mutator) new_value (memory (Answer other_mutator)) differs))
        (cases_Bool (mutator == other_mutator));
    waits = λ u. refl;
    tops = λ r. refl;
    free = refl;
    cset = refl;
    currents = λ seat. refl;
    share = refl;
    pins = λ mutator i. refl;
  }

  pub answer_renamed : (mutator : ℕ) → IsRenamed memory (memory (Answer mutator)) new_value → HoldsBy config (write memory (Answer mutator) new_value) block owner promises graph
  answer_renamed mutator renamed = renamed_holds config memory (write memory (Answer mutator) new_value) block owner promises graph holds (answer_renaming mutator renamed)

  pub answer_reached : (mutator : ℕ) → IsRenamed memory (memory (Answer mutator)) new_value → (address : ℕ) → CanBeReached config (write memory (Answer mutator) new_value) address → CanBeReached config memory address
  answer_reached mutator renamed = reached_was config memory (write memory (Answer mutator) new_value) block owner promises graph holds (answer_renaming mutator renamed)
