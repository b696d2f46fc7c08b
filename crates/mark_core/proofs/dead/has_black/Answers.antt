use Rattle.std.proofs.Common.{◌≡◌, ◌+◌, ◌-◌, ◌<◌, ◌≤◌, ℕ, ⊎_elim, sym, ap, ◌∙◌, arith}
use Rattle.std.proofs.lemmas.Bool.{cases_lt, lt-ltb, le-ltb}
use Rattle.shen_graph.proofs.Lists.{any_at, any_none}
use Rattle.heap_words.specs.declared.config.Config.{Config}
use Rattle.heap_words.specs.Words.{Word}
use Rattle.regions.specs.Place.{base_of}
use Rattle.image_graph.specs.State.{config_of, memory_of}
use Rattle.cycle_words.specs.Marking.Marks.{is_black}
use Rattle.mark_core.proofs.dead.has_black.Goals as goal

pub returns : goal.returns
returns c =
    let config = config_of c.args.image.now in
    let memory : Word → ℕ = memory_of c.args.image.now in
    let region : ℕ = c.args.region in
    let next_address : ℕ = c.next_black.result in
    let end : ℕ = c.base-first.result + c.region_words.result in
    let next_found = c.next_black.ensures in
    let same_base : c.base-first.result ≡ base_of config region = c.base-first.ensures ∙ ap (λ (config : Config). base_of config region) c.config.ensures in
    let same_words : c.region_words.result ≡ config.region_words = c.region_words.ensures ∙ ap (λ (config : Config). config.region_words) c.config-2.ensures in
    ⊎_elim
    (λ (next_below : next_address < end).
    let offset : ℕ = next_address - base_of config region in
    let same_address : base_of config region + offset ≡ next_address = omega (arith, next_found.from, same_base) in
    lt-ltb next_address end next_below ∙ sym (any_at (is_black config memory) (base_of config region) config.region_words offset (omega (arith, next_below, same_base, same_words, next_found.from)) (ap (is_black config memory) same_address ∙ next_found.black next_below)))
    (λ (none_below : end ≤ next_address).
    le-ltb next_address end none_below
    ∙ sym (any_none (is_black config memory) (base_of config region) config.region_words (λ offset few. next_found.none (base_of config region + offset) (omega (arith, same_base)) (omega (arith, none_below, few, same_base, same_words)))))
    (cases_lt next_address end)
