use Rattle.evac_room.proofs.Every.{word_counts, word_is_word, words_fit, bit_stays, inside_until_its_step, stopped_is_quiet, quiet_stays, none_enters}
use Rattle.evac_room.proofs.laws.every_list_of_steps.Goals as goal

pub returns-clause-counts : goal.returns-clause-counts
returns-clause-counts c = word_counts

pub returns-clause-is_word : goal.returns-clause-is_word
returns-clause-is_word c = word_is_word

pub returns-clause-fits : goal.returns-clause-fits
returns-clause-fits c = words_fit

pub returns-clause-bit_stays : goal.returns-clause-bit_stays
returns-clause-bit_stays c = bit_stays

pub returns-clause-inside_until_its_step : goal.returns-clause-inside_until_its_step
returns-clause-inside_until_its_step c = inside_until_its_step

pub returns-clause-stopped_is_quiet : goal.returns-clause-stopped_is_quiet
returns-clause-stopped_is_quiet c = stopped_is_quiet

pub returns-clause-quiet_stays : goal.returns-clause-quiet_stays
returns-clause-quiet_stays c = quiet_stays

pub returns-clause-none_enters : goal.returns-clause-none_enters
returns-clause-none_enters c = none_enters
