-- Words that agree in all that a graph stands on, so that they hold the same graph.
use Rattle.std.proofs.Common.{◌≡◌, ℕ, ◌+◌, ◌≤◌, ◌++◌, ◌∷◌, [], zero, suc, cond, nat_le, map, None, Option, refl, sym, ap, ◌∙◌, subst}
use Rattle.std.specs.List.{range_with_len}
use Rattle.std.proofs.Math.Path.{fun_ext}
use Rattle.heap_words.specs.declared.config.Config.{Config}
use Rattle.heap_words.specs.Words.{Word, Cset, Free, Top, Current, Root, Wait, Answer, Heap, Share, Pin}
use Rattle.heap_words.specs.Encoding.{is_forwarded, object_words, refs_in, nums_in, shape_word, request_count_in, request_shape_in}
use Rattle.regions.specs.Sets.{IsIn, IsOutside}
use Rattle.regions.specs.Place.{region_with}
use Rattle.regions.specs.Walk.{is_filler}
use Rattle.shen_graph.specs.declared.pin.Pinned.{Pinned}
use Rattle.shen_graph.specs.Graph.{Graph}
use Rattle.heap_world.specs.World.{Plot, Points, IsFilled, IsFreeWord, ShareIsOpen, AreBuffers}
use Rattle.image_graph.specs.Held.{IsAmong, HoldsGraph}
use Rattle.image_graph.specs.Full.{now_in, roots_below, answers_below, root_words, held_words}
use Rattle.image_graph.specs.Pinned.{pins_below}
use Rattle.image_graph.specs.Promised.{Promises, with_promised}
use Rattle.image_graph.specs.Image.{AnswerStands, PinWordStands, RootsStand}
use Rattle.image_graph.proofs.HeldRoots.{pin_stays}
use Rattle.image_graph.specs.Serving.{asked_shape, AreAsking}
use Rattle.image_graph.specs.Holds.{HoldsBy, AreSized}

-- the one memory has the words of the other on which a graph stands
pub record AreAlike (memory other_memory : Word → ℕ) : Type 0 where
  pub heap : (address : ℕ) → other_memory (Heap address) ≡ memory (Heap address)
  pub top : (region : ℕ) → other_memory (Top region) ≡ memory (Top region)
  pub root : (mutator index : ℕ) → other_memory (Root mutator index) ≡ memory (Root mutator index)
  pub answer : (mutator : ℕ) → other_memory (Answer mutator) ≡ memory (Answer mutator)
  pub wait : (mutator : ℕ) → other_memory (Wait mutator) ≡ memory (Wait mutator)
  pub current : (seat : ℕ) → other_memory (Current seat) ≡ memory (Current seat)
  pub free : other_memory Free ≡ memory Free
  pub cset : other_memory Cset ≡ memory Cset
  pub share : other_memory Share ≡ memory Share
  pub pin : (mutator index : ℕ) → other_memory (Pin mutator index) ≡ memory (Pin mutator index)

-- the words that hold objects, where roots, answers and pin slots are the same
module _ (memory other_memory : Word → ℕ) (root : (thread place : ℕ) → other_memory (Root thread place) ≡ memory (Root thread place)) (answer : (thread : ℕ) → other_memory (Answer thread) ≡ memory (Answer thread)) (pin : (thread place : ℕ) → other_memory (Pin thread place) ≡ memory (Pin thread place)) where
  roots_same : (mutator : ℕ) → roots_below other_memory mutator ≡ roots_below memory mutator
  roots_same zero = refl
  roots_same (suc mutator) =
      ap (λ xs. xs ++ map (λ index. other_memory (Root mutator index)) (range_with_len 0 16)) (roots_same mutator)
      ∙ ap (λ (f : ℕ → ℕ). roots_below memory mutator ++ map f (range_with_len 0 16)) (fun_ext (root mutator))

  answers_same : (mutator : ℕ) → answers_below other_memory mutator ≡ answers_below memory mutator
  answers_same zero = refl
  answers_same (suc mutator) =
      ap (λ xs. xs ++ cond (nat_le (other_memory (Answer mutator)) 1) [] (other_memory (Answer mutator) ∷ [])) (answers_same mutator)
      ∙ ap (λ answer_word. answers_below memory mutator ++ cond (nat_le answer_word 1) [] (answer_word ∷ [])) (answer mutator)

  pins_same : (mutator : ℕ) → pins_below other_memory mutator ≡ pins_below memory mutator
  pins_same zero = refl
  pins_same (suc mutator) =
      ap (λ xs. xs ++ map (λ slot. other_memory (Pin mutator slot)) (range_with_len 0 4)) (pins_same mutator)
      ∙ ap (λ (f : ℕ → ℕ). pins_below memory mutator ++ map f (range_with_len 0 4)) (fun_ext (pin mutator))

  same_root_words : (config : Config) → root_words config other_memory ≡ root_words config memory
  same_root_words config = ap (λ xs. xs ++ answers_below other_memory config.mutators) (roots_same config.mutators) ∙ ap (λ ys. roots_below memory config.mutators ++ ys) (answers_same config.mutators)

  pub same_held_words : (config : Config) → held_words config other_memory ≡ held_words config memory
  same_held_words config = ap (λ xs. xs ++ pins_below other_memory config.mutators) (same_root_words config) ∙ ap (λ ys. root_words config memory ++ ys) (pins_same config.mutators)

-- a pin word stands for what it stood for, where it is the same and the header of what it holds is
pub pin_word_same : (memory other_memory : Word → ℕ) (block : Plot) (address other_address : ℕ) (held : Option Pinned) → other_address ≡ address → other_memory (Heap address) ≡ memory (Heap address) → PinWordStands memory block address held → PinWordStands other_memory block other_address held
pin_word_same memory other_memory block address other_address held same_address same_header stands =
    subst (λ word. PinWordStands other_memory block word held) (sym same_address) (pin_stays memory other_memory block block address held (λ name copy plain. (copy, ap is_forwarded same_header ∙ plain)) stands)

-- each piece says how many words it has, where the heap has the same words
pub sized_alike : (memory other_memory : Word → ℕ) (block : Plot) → ((address : ℕ) → other_memory (Heap address) ≡ memory (Heap address)) → AreSized memory block → AreSized other_memory block
sized_alike memory other_memory block heap sized = record {
  objects = λ address piece piece_there fixed. ap object_words (heap (address + 1)) ∙ sized.objects address piece piece_there fixed;
  headers = λ address piece piece_there fixed. ap is_filler (heap address) ∙ sized.headers address piece piece_there fixed;
  fillers = λ address words piece_there. heap address ∙ sized.fillers address words piece_there;
}

module _ (memory other_memory : Word → ℕ) (alike : AreAlike memory other_memory) where
  heap_is : ◌≡◌ {A = ℕ → ℕ} (λ address. other_memory (Heap address)) (λ address. memory (Heap address))
  heap_is = fun_ext alike.heap

  top_is : ◌≡◌ {A = ℕ → ℕ} (λ region. other_memory (Top region)) (λ region. memory (Top region))
  top_is = fun_ext alike.top

  pub now_same : (address : ℕ) → now_in other_memory address ≡ now_in memory address
  now_same address = ap (λ heap_word. now_in (λ word. heap_word) address) (alike.heap address)

  pub now_is : now_in other_memory ≡ now_in memory
  now_is = fun_ext now_same

  pub held_words_same : (config : Config) → held_words config other_memory ≡ held_words config memory
  held_words_same = same_held_words memory other_memory alike.root alike.answer alike.pin

  module _ (config : Config) (block : Plot) (owner : ℕ → Option ℕ) (promises : Promises) (graph : Graph) (graph_held : HoldsBy config memory block owner promises graph) where
    objects_again : HoldsGraph config (λ region. other_memory (Top region)) (λ address. other_memory (Heap address)) block (now_in other_memory) (IsAmong (held_words config other_memory)) (with_promised graph promises)
    objects_again =
        subst (λ xs. HoldsGraph config (λ region. other_memory (Top region)) (λ address. other_memory (Heap address)) block (now_in other_memory) (IsAmong xs) (with_promised graph promises)) (sym (held_words_same config))
        (subst (λ f. HoldsGraph config (λ region. other_memory (Top region)) (λ address. other_memory (Heap address)) block f (IsAmong (held_words config memory)) (with_promised graph promises)) (sym now_is)
        (subst (λ heap. HoldsGraph config (λ region. other_memory (Top region)) heap block (now_in memory) (IsAmong (held_words config memory)) (with_promised graph promises)) (sym heap_is)
        (subst (λ top. HoldsGraph config top (λ address. memory (Heap address)) block (now_in memory) (IsAmong (held_words config memory)) (with_promised graph promises)) (sym top_is) graph_held.objects)))

    rooted_again : RootsStand config other_memory block graph promises
    rooted_again = record {
      roots = λ thread index inside few. subst (λ value. Points block value (graph.root (thread + 1) index)) (sym (alike.root thread index)) (graph_held.rooted.roots thread index inside few);
      answers = λ answer_thread inside. subst (λ value. AnswerStands block value (promises.ref (answer_thread + 1))) (sym (alike.answer answer_thread)) (graph_held.rooted.answers answer_thread inside);
      no_more_roots = graph_held.rooted.no_more_roots;
      pins = λ mutator slot inside few. pin_word_same memory other_memory block (memory (Pin mutator slot)) (other_memory (Pin mutator slot)) (graph.pin (mutator + 1) slot) (alike.pin mutator slot) (alike.heap (memory (Pin mutator slot))) (graph_held.rooted.pins mutator slot inside few);
      no_more_pins = graph_held.rooted.no_more_pins;
      no_more_promised = graph_held.rooted.no_more_promised;
    }

    asking_again : AreAsking config other_memory graph promises 0
    asking_again thread from mutator_below waits =
        let wait = alike.wait thread in
        let asked_before = graph_held.asking thread from mutator_below (λ no_wait. waits (wait ∙ no_wait)) in
        let same_shape : asked_shape other_memory thread ≡ asked_shape memory thread = ap request_shape_in wait in
        record {
          shape = subst (λ given_shape. given_shape ≡ shape_word (refs_in given_shape) (nums_in given_shape)) (sym same_shape) asked_before.shape;
          few_refs = subst (λ given_shape. refs_in given_shape ≤ 16) (sym same_shape) asked_before.few_refs;
          few_nums = subst (λ given_shape. nums_in given_shape ≤ 16) (sym same_shape) asked_before.few_nums;
          unanswered = alike.answer thread ∙ asked_before.unanswered;
          new = subst (λ given_shape. (with_promised graph promises).object (record { thread = thread + 1; count = request_count_in given_shape }) ≡ None) (sym wait) asked_before.new;
        }

    pub holds_alike : HoldsBy config other_memory block owner promises graph
    holds_alike = record {
      objects = objects_again;
      rooted = rooted_again;
      moved = λ moved_address refs nums name object_there forwarded.
          let moved_before = graph_held.moved moved_address refs nums name object_there (ap is_forwarded (sym (alike.heap moved_address)) ∙ forwarded) in
          record {
            in_set = subst (λ given_set. IsIn given_set (region_with config moved_address)) (sym alike.cset) moved_before.in_set;
            copy = ap block (now_same moved_address) ∙ moved_before.copy;
            outside = subst (λ now_address. IsOutside (other_memory Cset) (region_with config now_address)) (sym (now_same moved_address)) (subst (λ given_set. IsOutside given_set (region_with config (now_in memory moved_address))) (sym alike.cset) moved_before.outside);
            current = ap is_forwarded (ap (λ address. other_memory (Heap address)) (now_same moved_address) ∙ alike.heap (now_in memory moved_address)) ∙ moved_before.current;
          };
      filled = subst (λ top. IsFilled config top block) (sym top_is) graph_held.filled;
      pieces = graph_held.pieces;
      free_word = subst (λ top. IsFreeWord config (other_memory Free) top owner) (sym top_is) (subst (λ free_regions. IsFreeWord config free_regions (λ region. memory (Top region)) owner) (sym alike.free) graph_held.free_word);
      shared_one =
          subst (λ share. ShareIsOpen config share (other_memory Free) (other_memory Cset) owner) (sym alike.share)
          (subst (λ free_regions. ShareIsOpen config (memory Share) free_regions (other_memory Cset) owner) (sym alike.free) (subst (λ cset. ShareIsOpen config (memory Share) (memory Free) cset owner) (sym alike.cset) graph_held.shared_one));
      buffers = subst (λ top. AreBuffers config top (λ seat. other_memory (Current seat)) block) (sym top_is) (subst (λ current. AreBuffers config (λ region. memory (Top region)) current block) (sym (fun_ext alike.current)) graph_held.buffers);
      asking = asking_again;
      next = record {
        asked = λ mutator mutator_below waits. ap request_count_in (alike.wait mutator) ∙ graph_held.next.asked mutator mutator_below (λ no_wait. waits (alike.wait mutator ∙ no_wait));
        promised = graph_held.next.promised;
        given = graph_held.next.given;
      };
      unreached = graph_held.unreached;
    }
