use Rattle.std.proofs.Common.{◌≡◌, ◌+◌, ℕ, ap, ◌∙◌}
use Rattle.heap_words.specs.declared.config.Config.{Config}
use Rattle.heap_words.specs.Words.{Word, Pause, Left, End, write}
use Rattle.image_graph.specs.State.{config_of, words_of, memory_of}
use Rattle.image_graph.proofs.NamedStores.{stored}
use Rattle.heap_machines.specs.Reopened.{words_left_out}
use Rattle.heap_machines.proofs.Stored.{all_stored}
use Rattle.heap_machines.proofs.reopening.reopen_words.Goals as goal

pub returns-clause-words : goal.returns-clause-words
returns-clause-words c =
    let image = c.args.image.now in
    let read_config = c.config-config.result in
    let left_memory = memory_of image in
    let zero = c.leave_all.new.image in
    let first_image = c.set_word.new.self in
    let second_image = c.set_word-2.new.self in
    let third_image = c.set_word-3.new.self in
    let zero_config : config_of zero ≡ read_config = c.leave_all.ensures.config in
    let second_config : config_of first_image ≡ read_config = c.set_word.ensures.config ∙ zero_config in
    let third_config : config_of second_image ≡ read_config = c.set_word-2.ensures.config ∙ second_config in
    let outside : memory_of zero ≡ words_left_out (read_config.mutators + read_config.helpers) left_memory = c.leave_all.ensures.words in
    let paused : memory_of first_image ≡ write (memory_of zero) Pause 0 = stored (config_of zero) read_config (memory_of zero) (memory_of first_image) Pause c.pause_at.result 0 zero_config tt c.pause_at.ensures c.set_word.ensures.named in
    let nobody : memory_of second_image ≡ write (memory_of first_image) Left c.mutators.result = stored (config_of first_image) read_config (memory_of first_image) (memory_of second_image) Left c.left_at.result c.mutators.result second_config tt c.left_at.ensures c.set_word-2.ensures.named in
    let end_written : memory_of third_image ≡ write (memory_of second_image) End 0 = stored (config_of second_image) read_config (memory_of second_image) (memory_of third_image) End c.end_at.result 0 third_config tt c.end_at.ensures c.set_word-3.ensures.named in
    let same_config : read_config ≡ config_of image = c.config-config.ensures in
    end_written ∙ ap (λ (memory : Word → ℕ). write memory End 0) (nobody ∙ ap (λ (n : ℕ). write (memory_of first_image) Left n) c.mutators.ensures ∙ ap (λ (memory : Word → ℕ). write memory Left read_config.mutators) (paused ∙ ap (λ (memory : Word → ℕ). write memory Pause 0) outside))
    ∙ ap (λ (config : Config). write (write (write (words_left_out (config.mutators + config.helpers) left_memory) Pause 0) Left config.mutators) End 0) same_config
    ∙ all_stored (config_of image) (words_of image)
