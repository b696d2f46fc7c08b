-- Room for the text of a graph.
use Rattle.std.proofs.Common.{◌≡◌, ℕ, ◌≤◌, length, sym, ap, ◌∙◌}
use Rattle.std.proofs.lemmas.List.{length-replicate}
use Rattle.shen_graph.proofs.Numbers.{le_from_same}
use Rattle.heap_words.specs.declared.config.Config.{Config}
use Rattle.heap_words.specs.Words.{heap_size}
use Rattle.shen_graph.specs.GraphText.{Text, empty}

pub has_room : (config other_config : Config) (text : Text) (words threads : ℕ) → other_config ≡ config → words ≡ heap_size config → text ≡ empty words threads → heap_size other_config ≤ text.room
has_room given_config second_config text words threads config same_size text_empty = le_from_same (heap_size second_config) text.room (ap heap_size config ∙ sym same_size ∙ sym (ap (λ (text : Text). text.room) text_empty))

pub has_threads : (config other_config : Config) (text : Text) (words threads : ℕ) → other_config ≡ config → threads ≡ config.mutators → text ≡ empty words threads → length text.roots ≡ other_config.mutators
has_threads other_config second_config text words threads config count text_empty =
    ap (λ (text : Text). length text.roots) text_empty ∙ length-replicate threads _ ∙ count ∙ sym (ap (λ (config : Config). config.mutators) config)
