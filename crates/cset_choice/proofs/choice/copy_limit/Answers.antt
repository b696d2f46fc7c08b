use Rattle.std.proofs.Common.{◌≡◌, ◌-◌, ◌*◌, ℕ, sym, ap, ◌∙◌}
use Rattle.heap_words.specs.declared.config.Config.{Config}
use Rattle.heap_words.specs.Words.{Word, Free, word_at}
use Rattle.regions.specs.Sets.{members_below}
use Rattle.image_graph.specs.State.{config_of, memory_of}
use Rattle.cset_choice.proofs.Choosing.{members_all}
use Rattle.cset_choice.proofs.choice.copy_limit.Goals as goal

pub returns : goal.returns
returns c =
    let config = config_of c.args.image.now in
    let memory : Word → ℕ = memory_of c.args.image.now in
    let free_bits : c.word.result ≡ memory Free = c.word.ensures.named Free tt (ap (λ (config : Config). word_at config Free) (sym c.config-config.ensures) ∙ sym c.free_at.ensures) in
    let few_regions = config.in_range.most_regions in
    let count : c.size-free.result ≡ members_below (memory Free) config.regions = c.size-free.ensures ∙ ap (λ set. members_below set 64) free_bits ∙ members_all (memory Free) config.regions few_regions c.requires in
    let words_read : c.region_words.result ≡ config.region_words = c.region_words.ensures ∙ ap (λ (config : Config). config.region_words) c.config-config.ensures in
    ap (λ members. members * (c.region_words.result - 35)) count ∙ ap (λ size. members_below (memory Free) config.regions * (size - 35)) words_read
