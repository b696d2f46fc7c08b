use Rattle.std.proofs.Common.{◌≡◌, ℕ, ◌+◌, ◌-◌, ◌<◌, ◌≤◌, get_or, refl, ap, ◌∙◌, subst, arith}
use Rattle.heap_words.specs.Words.{Word, Heap}
use Rattle.heap_words.specs.Encoding.{object_words}
use Rattle.image_graph.specs.State.{config_of, memory_of}
use Rattle.image_graph.specs.Laid.{laid_words}
use Rattle.image_graph.proofs.ObjectAddresses.{read, placed, head, low, more}
use Rattle.image_graph.proofs.objects.are_in_order.Goals as goal

pub overflow_sub-before : goal.overflow_sub-before
overflow_sub-before c = omega arith

pub bounds-objects-index : goal.bounds-objects-index
bounds-objects-index c = omega (arith, c.loop-index-test.true)

pub overflow_add-before : goal.overflow_add-before
overflow_add-before c = omega (arith, low _ _ _ _ (c.requires (c.loop-index.index - 1) (omega (arith, c.loop-index-test.true))))

pub heap_at-requires : goal.heap_at-requires
heap_at-requires c = head _ _ _ _ _ 1 c.config-config.ensures (c.requires (c.loop-index.index - 1) (omega (arith, c.loop-index-test.true))) (omega arith)

pub word-requires : goal.word-requires
word-requires c =
    let object_lies = c.requires (c.loop-index.index - 1) (omega (arith, c.loop-index-test.true)) in
    placed _ _ (Heap (get_or c.args.objects.now (c.loop-index.index - 1) 0 + 1)) _ c.config-config.ensures (head _ (config_of c.args.image.now) _ _ _ 1 refl object_lies (omega arith)) c.heap_at.ensures

pub overflow_add-behind : goal.overflow_add-behind
overflow_add-behind c =
    let object_lies = c.requires (c.loop-index.index - 1) (omega (arith, c.loop-index-test.true)) in
    omega (arith, low _ _ _ _ object_lies, c.words_of.ensures)

pub overflow_add-before-else-behind-here : goal.overflow_add-before-else-behind-here
overflow_add-before-else-behind-here c = omega (arith, low _ _ _ _ (c.requires (c.loop-index.index - 1) (omega (arith, c.loop-index-test.true))))

pub heap_at-requires-else-behind-here : goal.heap_at-requires-else-behind-here
heap_at-requires-else-behind-here c = head _ _ _ _ _ 2 c.config-config.ensures (c.requires (c.loop-index.index - 1) (omega (arith, c.loop-index-test.true))) (omega arith)

pub word-requires-else-behind-here : goal.word-requires-else-behind-here
word-requires-else-behind-here c =
    let object_lies = c.requires (c.loop-index.index - 1) (omega (arith, c.loop-index-test.true)) in
    placed _ _ (Heap (get_or c.args.objects.now (c.loop-index.index - 1) 0 + 2)) _ c.config-config.ensures (head _ (config_of c.args.image.now) _ _ _ 2 refl object_lies (omega arith)) c.heap_at-else-behind-here.ensures

pub overflow_add-here : goal.overflow_add-here
overflow_add-here c = omega (arith, low _ _ _ _ (c.requires c.loop-index.index c.loop-index-test.true))

pub heap_at-requires-else-behind-here-2 : goal.heap_at-requires-else-behind-here-2
heap_at-requires-else-behind-here-2 c = head _ _ _ _ _ 2 c.config-config.ensures (c.requires c.loop-index.index c.loop-index-test.true) (omega arith)

pub word-requires-else-behind-here-2 : goal.word-requires-else-behind-here-2
word-requires-else-behind-here-2 c =
    placed _ _ (Heap (get_or c.args.objects.now c.loop-index.index 0 + 2)) _ c.config-config.ensures
    (head _ (config_of c.args.image.now) _ _ _ 2 refl (c.requires c.loop-index.index c.loop-index-test.true) (omega arith)) c.heap_at-else-behind-here-2.ensures

pub loop-index-preserved : goal.loop-index-preserved
loop-index-preserved c =
    let config = config_of c.args.image.now in
    let memory : Word → ℕ = memory_of c.args.image.now in
    let index = c.loop-index.index in
    let address_at : ℕ → ℕ = λ (position : ℕ). get_or c.args.objects.now position 0 in
    let order_before = c.requires (index - 1) (omega (arith, c.loop-index-test.true)) in
    let object_lies = c.requires index c.loop-index-test.true in
    let shape_is : c.word.result ≡ memory (Heap (address_at (index - 1) + 1)) =
    read config _ memory (Heap (address_at (index - 1) + 1)) _ _ c.config-config.ensures (head _ config _ _ _ 1 refl order_before (omega arith)) c.heap_at.ensures c.word.ensures.named in
    let earlier_name : c.word-else-behind-here.result ≡ memory (Heap (address_at (index - 1) + 2)) =
    read config _ memory (Heap (address_at (index - 1) + 2)) _ _ c.config-config.ensures (head _ config _ _ _ 2 refl order_before (omega arith)) c.heap_at-else-behind-here.ensures c.word-else-behind-here.ensures.named in
    let later_name : c.word-else-behind-here-2.result ≡ memory (Heap (address_at index + 2)) =
    read config _ memory (Heap (address_at index + 2)) _ _ c.config-config.ensures (head _ config _ _ _ 2 refl object_lies (omega arith)) c.heap_at-else-behind-here-2.ensures c.word-else-behind-here-2.ensures.named in
    let same_length : c.words_of.result ≡ laid_words memory (address_at (index - 1)) = c.words_of.ensures ∙ ap object_words shape_is in
    let index_some : 1 ≤ index = c.loop-index.auto.index in
    record {
      apart = more (λ (position later_position : ℕ). address_at position + laid_words memory (address_at position) ≤ address_at later_position) index index_some c.loop-index.invariant.apart
          (subst (λ (n : ℕ). address_at (index - 1) + n ≤ address_at index) same_length c.if-behind-here.false);
      named = more (λ (position later_position : ℕ). memory (Heap (address_at position + 2)) < memory (Heap (address_at later_position + 2))) index index_some c.loop-index.invariant.named
          (subst (λ (n : ℕ). n < memory (Heap (address_at index + 2))) earlier_name (subst (λ (n : ℕ). c.word-else-behind-here.result < n) later_name c.if-word.false));
    }

pub returns : goal.returns
returns c = λ _. record {
  apart = λ index index_below. c.loop-index.invariant.apart index (omega (arith, index_below, c.loop-index-test.false));
  named = λ index index_below. c.loop-index.invariant.named index (omega (arith, index_below, c.loop-index-test.false));
}
