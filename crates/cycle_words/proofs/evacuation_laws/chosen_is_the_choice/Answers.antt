use Rattle.cycle_words.specs.Evacuation.Live.{live_words, is_candidate}
use Rattle.cycle_words.specs.Evacuation.Choice.{copy_limit}
use Rattle.cycle_words.proofs.Evacuation.Front.{front_is_longest, only_front}
use Rattle.cycle_words.proofs.evacuation_laws.chosen_is_the_choice.Goals as goal

pub returns : goal.returns
returns c = record {
  is = λ config memory. front_is_longest config.regions (copy_limit config memory) (live_words config memory) (is_candidate config memory);
  only = λ config memory chosen_set set_is. only_front config.regions (copy_limit config memory) (live_words config memory) (is_candidate config memory) chosen_set set_is;
}
