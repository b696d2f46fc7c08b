use Rattle.std.proofs.Common.{◌≡◌, ℕ, ◌+◌, ◌<◌, sym, ap, ◌∙◌, subst, arith}
use Rattle.std.proofs.lemmas.Bool.{leb-true}
use Rattle.heap_words.specs.declared.config.Config.{Config}
use Rattle.heap_words.specs.Words.{Word, Heap, Top, IsWord}
use Rattle.regions.specs.Place.{base_of}
use Rattle.heap_words.specs.Encoding.{object_words}
use Rattle.image_graph.specs.State.{config_of, memory_of}
use Rattle.image_graph.specs.Laid.{laid_words}
use Rattle.image_graph.proofs.HeapParts.{low_region}
use Rattle.image_graph.proofs.ObjectAddresses.{read, placed, between, between_first, lies_by}
use Rattle.image_graph.proofs.objects.lies_right.Goals as goal

pub overflow_add-last : goal.overflow_add-last
overflow_add-last c = omega (arith, c.config-config.result.in_range.most_words)

pub overflow_add-address : goal.overflow_add-address
overflow_add-address c = omega (arith, c.config-config.result.in_range.most_words)

pub heap_at-requires : goal.heap_at-requires
heap_at-requires c = between c.config-config.result _ _ _ 1 c.region_words-first.ensures c.heap_size.ensures.value c.if-address-first.false c.if-last-address-lt3.false (omega arith)

pub word-requires : goal.word-requires
word-requires c =
    placed _ _ (Heap (c.args.address + 1)) _ c.config-config.ensures
    (subst (λ (config : Config). IsWord config (Heap (c.args.address + 1))) c.config-config.ensures
    (between c.config-config.result _ _ _ 1 c.region_words-first.ensures c.heap_size.ensures.value c.if-address-first.false c.if-last-address-lt3.false (omega arith))) c.heap_at.ensures

pub overflow_add-behind : goal.overflow_add-behind
overflow_add-behind c = omega (arith, c.config-config.result.in_range.most_words)

pub region_of-region-requires : goal.region_of-region-requires
region_of-region-requires c = between_first c.config-config.result _ _ _ c.region_words-first.ensures c.heap_size.ensures.value c.if-address-first.false c.if-last-address-lt3.false

pub base-requires : goal.base-requires
base-requires c = c.region_of-region.ensures.below

pub top_at-requires : goal.top_at-requires
top_at-requires c = c.region_of-region.ensures.below

pub word-requires-2 : goal.word-requires-2
word-requires-2 c =
    placed _ _ (Top c.region_of-region.result) _ c.config-config.ensures
    (subst (λ (config : Config). c.region_of-region.result < config.regions) c.config-config.ensures c.region_of-region.ensures.below) c.top_at.ensures

pub overflow_add-end : goal.overflow_add-end
overflow_add-end c =
    let region = c.region_of-region.result in
    let config = config_of c.args.image.now in
    let region_below : region < config.regions = subst (λ (config : Config). region < config.regions) c.config-config.ensures c.region_of-region.ensures.below in
    let top_is : c.word-2.result ≡ memory_of c.args.image.now (Top region) =
    read config _ (memory_of c.args.image.now) (Top region) _ _ c.config-config.ensures region_below c.top_at.ensures c.word-2.ensures.named in
    let base : c.base.result ≡ base_of config region = c.base.ensures ∙ ap (λ (config : Config). base_of config region) c.config-config.ensures in
    omega (arith, top_is, base, c.requires region region_below, low_region config region region_below)

pub returns-then-behind-end-2 : goal.returns-then-behind-end-2
returns-then-behind-end-2 c =
    let config = config_of c.args.image.now in
    let memory : Word → ℕ = memory_of c.args.image.now in
    let address = c.args.address in
    let region = c.region_of-region.result in
    let region_below : region < config.regions = subst (λ (config : Config). region < config.regions) c.config-config.ensures c.region_of-region.ensures.below in
    let top_is : c.word-2.result ≡ memory (Top region) = read config _ memory (Top region) _ _ c.config-config.ensures region_below c.top_at.ensures c.word-2.ensures.named in
    let word : IsWord config (Heap (address + 1)) = subst (λ (config : Config). IsWord config (Heap (address + 1))) c.config-config.ensures
    (between c.config-config.result _ _ _ 1 c.region_words-first.ensures c.heap_size.ensures.value c.if-address-first.false c.if-last-address-lt3.false (omega arith)) in
    let same_length : c.words_of.result ≡ laid_words memory address = c.words_of.ensures ∙ ap object_words (read config _ memory (Heap (address + 1)) _ _ c.config-config.ensures word c.heap_at.ensures c.word.ensures.named) in
    λ _. lies_by config c.config-config.result memory c.args.objects.now address _ _ _ region _ _ c.config-config.ensures c.region_words-first.ensures c.heap_size.ensures.value c.if-address-first.false
    c.if-last-address-lt3.false same_length c.region_of-region.ensures.value c.base.ensures top_is c.if-behind-end.true (λ other_end. absurd (other_end c.if-behind-end-2.true))

pub returns-else-behind-end-2 : goal.returns-else-behind-end-2
returns-else-behind-end-2 c =
    let config = config_of c.args.image.now in
    let memory : Word → ℕ = memory_of c.args.image.now in
    let address = c.args.address in
    let region = c.region_of-region.result in
    let region_below : region < config.regions = subst (λ (config : Config). region < config.regions) c.config-config.ensures c.region_of-region.ensures.below in
    let top_is : c.word-2.result ≡ memory (Top region) = read config _ memory (Top region) _ _ c.config-config.ensures region_below c.top_at.ensures c.word-2.ensures.named in
    let word : IsWord config (Heap (address + 1)) = subst (λ (config : Config). IsWord config (Heap (address + 1))) c.config-config.ensures
    (between c.config-config.result _ _ _ 1 c.region_words-first.ensures c.heap_size.ensures.value c.if-address-first.false c.if-last-address-lt3.false (omega arith)) in
    let same_length : c.words_of.result ≡ laid_words memory address = c.words_of.ensures ∙ ap object_words (read config _ memory (Heap (address + 1)) _ _ c.config-config.ensures word c.heap_at.ensures c.word.ensures.named) in
    λ result_true. lies_by config c.config-config.result memory c.args.objects.now address _ _ _ region _ _ c.config-config.ensures c.region_words-first.ensures c.heap_size.ensures.value c.if-address-first.false
    c.if-last-address-lt3.false same_length c.region_of-region.ensures.value c.base.ensures top_is c.if-behind-end.true (λ _. sym c.is_among.ensures ∙ result_true)

pub returns-else-behind-end : goal.returns-else-behind-end
returns-else-behind-end c = λ result_true. absurd (omega (arith, leb-true _ _ result_true, c.if-behind-end.false))
