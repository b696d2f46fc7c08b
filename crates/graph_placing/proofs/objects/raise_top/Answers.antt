use Rattle.std.proofs.Common.{◌≡◌, ◌+◌, ◌-◌, ℕ, get_or, sym, ap, ◌∙◌, subst, arith}
use Rattle.heap_words.specs.declared.config.Config.{Config}
use Rattle.heap_words.specs.Words.{Top, Heap, IsWord, write}
use Rattle.regions.specs.Place.{base_of, region_with}
use Rattle.image_graph.specs.State.{config_of, memory_of}
use Rattle.image_graph.proofs.NamedStores.{stored}
use Rattle.graph_placing.specs.ByName.{words_of_row, address_of}
use Rattle.graph_placing.proofs.Located as located
use Rattle.graph_placing.proofs.objects.raise_top.Goals as goal

pub region_of-region-requires : goal.region_of-region-requires
region_of-region-requires c =
    let config = config_of c.args.image.now in
    let text = c.args.text.now in
    let row = c.args.row in
    let address = get_or c.args.addresses.now row 0 in
    let address_is : address ≡ address_of config text row = c.requires.addresses.each row c.requires.row in
    let address_high = located.from_first config text c.requires.whole row in
    let address_inside = located.in_heap config text c.requires.whole c.requires.fits row c.requires.row in
    let is_word : IsWord config (Heap address) = (omega (arith, address_is, address_high), omega (arith, address_is, address_inside, located.some_words config text c.requires.whole row)) in
    subst (λ (config : Config). IsWord config (Heap address)) (sym c.config-config.ensures) is_word

-- the base of the region, by the configuration of the image
pub overflow_sub-top : goal.overflow_sub-top
overflow_sub-top c =
    let config = config_of c.args.image.now in
    let text = c.args.text.now in
    let row = c.args.row in
    let address = get_or c.args.addresses.now row 0 in
    let address_is : address ≡ address_of config text row = c.requires.addresses.each row c.requires.row in
    let same_config : c.config-config.result ≡ config = c.config-config.ensures in
    let region_is : c.region_of-region.result ≡ region_with config (address_of config text row) = c.region_of-region.ensures.value ∙ ap (λ (config : Config). region_with config address) same_config ∙ ap (region_with config) address_is in
    let base : c.base.result ≡ base_of config (region_with config (address_of config text row)) = c.base.ensures ∙ ap (λ (config : Config). base_of config c.region_of-region.result) same_config ∙ ap (base_of config) region_is in
    omega (arith, base, address_is, (located.in_region config text c.requires.whole row).0)

pub returns-clause-words : goal.returns-clause-words
returns-clause-words c =
    let config = config_of c.args.image.now in
    let memory = memory_of c.args.image.now in
    let text = c.args.text.now in
    let row = c.args.row in
    let address = get_or c.args.addresses.now row 0 in
    let address_is : address ≡ address_of config text row = c.requires.addresses.each row c.requires.row in
    let same_config : c.config-config.result ≡ config = c.config-config.ensures in
    let region : c.region_of-region.result ≡ region_with config (address_of config text row) = c.region_of-region.ensures.value ∙ ap (λ (config : Config). region_with config address) same_config ∙ ap (region_with config) address_is in
    let base : c.base.result ≡ base_of config (region_with config (address_of config text row)) = c.base.ensures ∙ ap (λ (config : Config). base_of config c.region_of-region.result) same_config ∙ ap (base_of config) region in
    let value : address + c.words_of_row.result - c.base.result ≡ address_of config text row + words_of_row text row - base_of config (region_with config (address_of config text row)) = omega (arith, address_is, base, c.words_of_row.ensures.value) in
    stored config c.config-config.result memory (memory_of c.set_word.new.self) (Top c.region_of-region.result) c.top_at.result (address + c.words_of_row.result - c.base.result) (sym same_config) c.region_of-region.ensures.below c.top_at.ensures c.set_word.ensures.named
    ∙ ap (λ (region : ℕ). write memory (Top region) (address + c.words_of_row.result - c.base.result)) region
    ∙ ap (write memory (Top (region_with config (address_of config text row)))) value
