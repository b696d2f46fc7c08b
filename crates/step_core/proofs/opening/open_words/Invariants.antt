use Rattle.std.proofs.Common.{◌≡◌, length, replicate}
use Rattle.heap_words.specs.Words.{table_words}
use Rattle.step_core.specs.Opening.{rooted}
use Rattle.step_core.proofs.opening.open_words.Given as goal

abbrev pub invariant-loop-mutator : goal.invariant-loop-mutator
invariant-loop-mutator locals = record {
  words : locals.words.items ≡ rooted locals.config locals.mutator (replicate (table_words locals.config) 0);
  long : length locals.words.items ≡ table_words locals.config;
}
