-- Steps that load a word: what they settle, and what they leave as it was.
use Rattle.std.proofs.Common.{◌≡◌, ℕ, ◌+◌, false, Option, Some, None, refl, sym, ap, ◌∙◌, arith}
use Rattle.std.proofs.lemmas.Bool.Decides.{nat_tests}
use Rattle.heap_words.specs.declared.config.Config.{Config}
use Rattle.heap_words.specs.Words.{Word}
use Rattle.heap_words.specs.Touch.{touch, loads}
use Rattle.shen_graph.specs.declared.command.Command.{Command}
use Rattle.shen_graph.specs.declared.command.Reply.{Reply}
use Rattle.shen_graph.specs.Graph.{Reference, with_root}
use Rattle.shen_graph.specs.Step.{answers, outcome, pinned_by}
use Rattle.shen_graph.specs.History.{is_full}
use Rattle.shen_graph.specs.declared.order.Order.TheVariants.{Nothing}
use Rattle.mutator.specs.Rows.{Mutating, touch_of, next_of, given_at}
use Rattle.mutator.specs.Told.{told_of}
use Rattle.heap_world.specs.World.{World, Shared}
use Rattle.step_core.proofs.Machines.Stepped.{Mine, Stepped}
use Rattle.heap_world.proofs.Keeping.{load_keeps, rely_same}
use Rattle.step_core.proofs.Mutators.WhileMarking.{marks_in, copies_in, fields_in}
use Rattle.step_core.proofs.History.Settling.{legal_answer, graph_answer}

-- a step that loads a word and settles nothing
pub looks : (config : Config) (world : World) (mutator : Mutating) (word : Word) (command : Command) (fixed : Option Reply)
    → touch_of config mutator Nothing ≡ touch word loads → told_of world.memory mutator ≡ None → given_at mutator.spot ≡ None
    → Shared config world → Mine config world (next_of config mutator Nothing (world.memory word)) command fixed → Stepped config world mutator command Nothing fixed
looks config world mutator word command fixed loaded told_nothing given_nothing shared facts_then = record {
  world = world;
  memory = rw loaded (load_keeps world.memory word);
  graph = rw told_nothing refl;
  legal = rw told_nothing tt;
  settles = λ settled_reply reply_settled. absurd (cc);
  shared = shared;
  mine = rw (loaded, told_nothing, given_nothing) facts_then;
  others = λ seat differs. rely_same config seat world;
}

-- a step that loads a word and settles a reply which leaves the graph as it is
pub replies : (config : Config) (world : World) (mutator : Mutating) (word : Word) (command : Command) (fixed : Option Reply) (reply : Reply)
    → touch_of config mutator Nothing ≡ touch word loads → told_of world.memory mutator ≡ Some reply → given_at mutator.spot ≡ None → fixed ≡ None
    → is_full reply ≡ false → pinned_by world.graph (mutator.seat + 1) command ≡ None → outcome world.graph (mutator.seat + 1) command ≡ answers reply world.graph
    → Shared config world → Mine config world (next_of config mutator Nothing (world.memory word)) command (Some reply) → Stepped config world mutator command Nothing fixed
replies config world mutator word command fixed reply loaded told_reply given_nothing unsettled not_full pins_none plain_outcome shared facts_then = record {
  world = world;
  memory = rw loaded (load_keeps world.memory word);
  graph = rw told_reply (sym (graph_answer world.graph mutator.seat command reply not_full pins_none ∙ ap (λ any_outcome. any_outcome.graph) plain_outcome));
  legal = rw told_reply (legal_answer config world.graph mutator.seat command reply not_full pins_none (ap (λ any_outcome. any_outcome.reply) plain_outcome));
  settles = λ settled_reply reply_settled. (unsettled, given_nothing);
  shared = shared;
  mine = rw (loaded, told_reply) facts_then;
  others = λ seat differs. rely_same config seat world;
}

-- a step that loads a word and settles a reply which makes a root of the mutator another
pub replies_root : (config : Config) (world : World) (mutator : Mutating) (word : Word) (command : Command) (fixed : Option Reply) (reply : Reply) (dst : ℕ) (reference : Reference)
    → touch_of config mutator Nothing ≡ touch word loads → told_of world.memory mutator ≡ Some reply → given_at mutator.spot ≡ None → fixed ≡ None
    → is_full reply ≡ false → pinned_by world.graph (mutator.seat + 1) command ≡ None → outcome world.graph (mutator.seat + 1) command ≡ answers reply (with_root world.graph (mutator.seat + 1) dst reference)
    → Shared config world
    → Mine config (record { memory = world.memory; block = world.block; ghost = world.ghost; graph = with_root world.graph (mutator.seat + 1) dst reference }) (next_of config mutator Nothing (world.memory word)) command (Some reply)
    → Stepped config world mutator command Nothing fixed
replies_root config world mutator word command fixed reply dst reference loaded told_reply given_nothing unsettled not_full pins_none root_outcome shared facts_then = record {
  world = record { memory = world.memory; block = world.block; ghost = world.ghost; graph = with_root world.graph (mutator.seat + 1) dst reference };
  memory = rw loaded (load_keeps world.memory word);
  graph = rw told_reply (sym (graph_answer world.graph mutator.seat command reply not_full pins_none ∙ ap (λ any_outcome. any_outcome.graph) root_outcome));
  legal = rw told_reply (legal_answer config world.graph mutator.seat command reply not_full pins_none (ap (λ any_outcome. any_outcome.reply) root_outcome));
  settles = λ settled_reply reply_settled. (unsettled, given_nothing);
  shared = shared;
  mine = rw (loaded, told_reply) facts_then;
  others = λ seat differs. let marks = marks_in config world world.memory (with_root world.graph (mutator.seat + 1) dst reference) seat refl (λ n. refl) (λ t. refl) (λ t k. refl) (λ a. refl) in let copies = copies_in config world world.memory (with_root world.graph (mutator.seat + 1) dst reference) seat refl refl (λ reply. refl) (λ a. refl) in let kept_fields = fields_in config world world.memory (with_root world.graph (mutator.seat + 1) dst reference) (λ reply. refl) (λ reply. refl) refl (λ a. refl) in search (arith, nat_tests, marks, copies, kept_fields);
}
