use Rattle.std.proofs.Common.{◌≡◌, ℕ, ◌+◌, ◌<◌, refl, sym, ap, ◌∙◌, subst, arith}
use Rattle.heap_words.specs.Words.{Word, Heap}
use Rattle.heap_words.specs.Encoding.{refs_in}
use Rattle.image_graph.specs.State.{config_of, memory_of}
use Rattle.image_graph.specs.Laid.{IsShape, IsNamedRight}
use Rattle.image_graph.proofs.ObjectAddresses.{read, placed, head, first, field, low}
use Rattle.image_graph.proofs.objects.reads_right.Goals as goal

pub overflow_add-address : goal.overflow_add-address
overflow_add-address c = omega (arith, low _ _ _ _ c.requires.lies)

pub heap_at-requires : goal.heap_at-requires
heap_at-requires c = head _ _ _ _ _ 1 c.config-config.ensures c.requires.lies (omega arith)

pub word-shape-requires : goal.word-shape-requires
word-shape-requires c =
    placed _ _ (Heap (c.args.address + 1)) _ c.config-config.ensures (head _ (config_of c.args.image.now) _ _ _ 1 refl c.requires.lies (omega arith)) c.heap_at.ensures

pub heap_at-requires-2 : goal.heap_at-requires-2
heap_at-requires-2 c = first _ _ _ _ _ c.config-config.ensures c.requires.lies

pub word-requires : goal.word-requires
word-requires c = placed _ _ (Heap c.args.address) _ c.config-config.ensures (first _ (config_of c.args.image.now) _ _ _ refl c.requires.lies) c.heap_at-2.ensures

pub overflow_add-address-2 : goal.overflow_add-address-2
overflow_add-address-2 c = omega (arith, low _ _ _ _ c.requires.lies)

pub heap_at-requires-3 : goal.heap_at-requires-3
heap_at-requires-3 c = head _ _ _ _ _ 2 c.config-config.ensures c.requires.lies (omega arith)

pub word-requires-2 : goal.word-requires-2
word-requires-2 c =
    placed _ _ (Heap (c.args.address + 2)) _ c.config-config.ensures (head _ (config_of c.args.image.now) _ _ _ 2 refl c.requires.lies (omega arith)) c.heap_at-3.ensures

pub are_fields_right-requires-clause-inside : goal.are_fields_right-requires-clause-inside
are_fields_right-requires-clause-inside c =
    let config = config_of c.args.image.now in
    let memory : Word → ℕ = memory_of c.args.image.now in
    let shape_is : c.word-shape.result ≡ memory (Heap (c.args.address + 1)) =
    read config _ memory (Heap (c.args.address + 1)) _ _ c.config-config.ensures (head _ config _ _ _ 1 refl c.requires.lies (omega arith)) c.heap_at.ensures c.word-shape.ensures.named in
    λ field_index field_below. field config memory _ c.args.address field_index c.requires.lies c.requires.inside (subst (λ (count : ℕ). field_index < count) (c.refs_of.ensures ∙ ap refs_in shape_is) field_below)

pub are_fields_right-requires-clause-small : goal.are_fields_right-requires-clause-small
are_fields_right-requires-clause-small c = omega (arith, low _ _ _ _ c.requires.lies, c.refs_of.ensures)

pub returns : goal.returns
returns c =
    let config = config_of c.args.image.now in
    let memory : Word → ℕ = memory_of c.args.image.now in
    let address = c.args.address in
    let shape_is : c.word-shape.result ≡ memory (Heap (address + 1)) =
    read config _ memory (Heap (address + 1)) _ _ c.config-config.ensures (head _ config _ _ _ 1 refl c.requires.lies (omega arith)) c.heap_at.ensures c.word-shape.ensures.named in
    let header_is : c.word.result ≡ memory (Heap address) =
    read config _ memory (Heap address) _ _ c.config-config.ensures (first _ config _ _ _ refl c.requires.lies) c.heap_at-2.ensures c.word.ensures.named in
    let name_is : c.word-2.result ≡ memory (Heap (address + 2)) =
    read config _ memory (Heap (address + 2)) _ _ c.config-config.ensures (head _ config _ _ _ 2 refl c.requires.lies (omega arith)) c.heap_at-3.ensures c.word-2.ensures.named in
    λ fields_right. record {
      header = sym header_is ∙ c.if-word-ne1.false;
      shape = subst IsShape shape_is (c.is_shape.ensures c.if-not-is_shape.false);
      name = subst (IsNamedRight config memory) name_is (c.is_named_right.ensures c.if-not-is_named_right.false);
      fields = λ field_index field_below. c.are_fields_right.ensures fields_right field_index (subst (λ (count : ℕ). field_index < count) (sym (c.refs_of.ensures ∙ ap refs_in shape_is)) field_below);
    }
