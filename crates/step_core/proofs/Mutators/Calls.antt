-- The first access of a call, and the last; the access by which a mutator ends; and that which asks for a cycle.
use Rattle.std.proofs.Common.{◌≡◌, ℕ, ◌+◌, ◌<◌, true, false, Option, None, refl, sym, ap, ◌∙◌, arith}
use Rattle.std.proofs.lemmas.Bool.Decides.{nat_tests}
use Rattle.heap_words.specs.declared.config.Config.{Config}
use Rattle.heap_words.specs.Words.{Ask, Root}
use Rattle.shen_graph.specs.declared.command.Command.{Command}
use Rattle.shen_graph.specs.declared.command.Reply.{Reply}
use Rattle.shen_graph.specs.declared.command.Reply.TheVariants as reply
use Rattle.shen_graph.specs.Step.{outcome, pinned_by}
use Rattle.mutator.specs.declared.spot.Spot.{Spot}
use Rattle.mutator.specs.declared.spot.Spot.TheVariants.{Rest, Ended, AskCycle, Leave}
use Rattle.mutator.specs.declared.spot.Kept.{Kept}
use Rattle.shen_graph.specs.declared.order.Order.{Order}
use Rattle.shen_graph.specs.declared.order.Order.TheVariants.{Nothing, Begin, End, Hint}
use Rattle.mutator.specs.Rows.{Mutating, call_begun}
use Rattle.mutator.specs.Orders.{is_next}
use Rattle.heap_world.specs.World.{World, Points}
use Rattle.step_core.specs.Actor.{command_by}
use Rattle.step_core.proofs.Machines.Stepped.{IsSeatedIn, HasMarkingBy, HasCopyingBy, Mine, Row, OrderedRow}
use Rattle.step_core.proofs.Mutators.Spots.{mutator_at, accessed_by, accessed}
use Rattle.step_core.proofs.Mutators.WhileMarking.{marks_in, still_waits, copies_in, fields_in}
use Rattle.step_core.proofs.Machines.Ready.{leaving, rest_ready}
use Rattle.step_core.proofs.History.Settling.{legal_answer, graph_answer}
use Rattle.alloc_buffers.specs.Facts.{OnlySpares}

module _ (config : Config) (world : World) (seat made : ℕ) (kept : Kept) (command : Command) (fixed : Option Reply) where
  abbrev at_spot : Spot → Mutating
  at_spot spot = mutator_at seat made kept spot

  -- what a mutator counts on once its first access under an order is made: it enters the heap for a call, or has ended
  abbrev MineBegun : Order → Type 0
  MineBegun order = Mine config (accessed_by config world (at_spot Rest) order) (call_begun order (at_spot Rest)) (command_by order command) fixed

  begins : (command : Command) → IsSeatedIn config world seat made false → HasMarkingBy world seat None kept.phase false → HasCopyingBy world seat false kept.cset false → ((index : ℕ) → index < 16 → Points world.block (world.memory (Root seat index)) (world.graph.root (seat + 1) index)) → OnlySpares world seat
      → fixed ≡ None → is_next made command ≡ true → MineBegun (Begin command)
  begins command seated marking copying roots rooms unsettled comes_next =
      record { seated = seated; ready = refl; marking = marking; copying = copying; roots = roots; rooms = rooms; facts = record { unsettled = unsettled; is = refl; next = comes_next } }

  ends : IsSeatedIn config world seat made false → HasMarkingBy world seat None kept.phase false → HasCopyingBy world seat false kept.cset false → ((index : ℕ) → index < 16 → Points world.block (world.memory (Root seat index)) (world.graph.root (seat + 1) index)) → OnlySpares world seat
      → fixed ≡ None → MineBegun End
  ends seated marking copying roots rooms unsettled = record { seated = seated; ready = refl; marking = marking; copying = copying; roots = roots; rooms = rooms; facts = unsettled }

  -- a mutator that has not begun a call begins one, or ends
  pub at_rest : (order : Order) → OrderedRow config world (at_spot Rest) command order fixed
  at_rest Nothing shared mine takes = cc
  at_rest (Hint address) shared mine takes = cc
  at_rest (Begin begun_command) shared mine takes = record {
    world = accessed_by config world (at_spot Rest) (Begin begun_command);
    memory = refl;
    graph = refl;
    legal = tt;
    settles = λ r is_settled. cc;
    shared = shared;
    mine = begins begun_command mine.seated mine.marking mine.copying mine.roots mine.rooms mine.facts takes;
    others = λ seat differs. let marks = marks_in config world (accessed_by config world (at_spot Rest) (Begin begun_command)).memory world.graph seat refl (λ n. refl) (λ t. refl) (λ t begun_command. refl) (λ a. refl) in let copies = copies_in config world (accessed_by config world (at_spot Rest) (Begin begun_command)).memory world.graph seat refl refl (λ r. refl) (λ a. refl) in let kept_fields = fields_in config world (accessed_by config world (at_spot Rest) (Begin begun_command)).memory world.graph (λ r. refl) (λ r. refl) refl (λ a. refl) in search (arith, nat_tests, marks, copies, kept_fields);
  }
  at_rest End shared mine takes = record {
    world = accessed_by config world (at_spot Rest) End;
    memory = refl;
    graph = refl;
    legal = tt;
    settles = λ r is_settled. cc;
    shared = shared;
    mine = ends mine.seated mine.marking mine.copying mine.roots mine.rooms mine.facts;
    others = λ seat differs. let marks = marks_in config world (accessed_by config world (at_spot Rest) End).memory world.graph seat refl (λ n. refl) (λ t. refl) (λ t begun_command. refl) (λ a. refl) in let copies = copies_in config world (accessed_by config world (at_spot Rest) End).memory world.graph seat refl refl (λ r. refl) (λ a. refl) in let kept_fields = fields_in config world (accessed_by config world (at_spot Rest) End).memory world.graph (λ r. refl) (λ r. refl) refl (λ a. refl) in search (arith, nat_tests, marks, copies, kept_fields);
  }

  -- so does one that has ended a call
  pub at_ended : (answer : Reply) (order : Order) → OrderedRow config world (at_spot (Ended answer)) command order fixed
  at_ended answer Nothing shared mine takes = cc
  at_ended answer (Hint address) shared mine takes = cc
  at_ended ended_reply (Begin begun_command) shared mine takes = record {
    world = accessed_by config world (at_spot (Ended ended_reply)) (Begin begun_command);
    memory = refl;
    graph = refl;
    legal = tt;
    settles = λ own_reply is_settled. cc;
    shared = shared;
    mine = begins begun_command mine.seated mine.marking mine.copying mine.roots mine.rooms mine.facts takes;
    others = λ seat differs. let marks = marks_in config world (accessed_by config world (at_spot (Ended ended_reply)) (Begin begun_command)).memory world.graph seat refl (λ n. refl) (λ t. refl) (λ t begun_command. refl) (λ a. refl) in let copies = copies_in config world (accessed_by config world (at_spot (Ended ended_reply)) (Begin begun_command)).memory world.graph seat refl refl (λ ended_reply. refl) (λ a. refl) in let kept_fields = fields_in config world (accessed_by config world (at_spot (Ended ended_reply)) (Begin begun_command)).memory world.graph (λ ended_reply. refl) (λ ended_reply. refl) refl (λ a. refl) in search (arith, nat_tests, marks, copies, kept_fields);
  }
  at_ended ended_reply End shared mine takes = record {
    world = accessed_by config world (at_spot (Ended ended_reply)) End;
    memory = refl;
    graph = refl;
    legal = tt;
    settles = λ own_reply is_settled. cc;
    shared = shared;
    mine = ends mine.seated mine.marking mine.copying mine.roots mine.rooms mine.facts;
    others = λ seat differs. let marks = marks_in config world (accessed_by config world (at_spot (Ended ended_reply)) End).memory world.graph seat refl (λ n. refl) (λ t. refl) (λ t begun_command. refl) (λ a. refl) in let copies = copies_in config world (accessed_by config world (at_spot (Ended ended_reply)) End).memory world.graph seat refl refl (λ ended_reply. refl) (λ a. refl) in let kept_fields = fields_in config world (accessed_by config world (at_spot (Ended ended_reply)) End).memory world.graph (λ ended_reply. refl) (λ ended_reply. refl) refl (λ a. refl) in search (arith, nat_tests, marks, copies, kept_fields);
  }

  -- the step that asks for a cycle settles Ok
  pub at_ask : Row config world (at_spot AskCycle) command fixed
  at_ask shared own_facts =
      let collect_reply : (outcome world.graph (seat + 1) command).reply ≡ reply.Ok = ap (λ given. (outcome world.graph (seat + 1) given).reply) own_facts.facts.1 in
      record {
        world = accessed config world (at_spot AskCycle);
        memory = refl;
        graph = sym (graph_answer world.graph seat command reply.Ok refl (ap (pinned_by world.graph (seat + 1)) own_facts.facts.1) ∙ ap (λ given. (outcome world.graph (seat + 1) given).graph) own_facts.facts.1);
        legal = legal_answer config world.graph seat command reply.Ok refl (ap (pinned_by world.graph (seat + 1)) own_facts.facts.1) collect_reply;
        settles = λ r is_settled. (own_facts.facts.0, refl);
        shared = shared;
        mine = leaving config _ seat made kept command reply.Ok own_facts.seated (own_facts.marking.records, own_facts.marking.scans, own_facts.copying.copies_is, own_facts.copying.works_none) own_facts.roots own_facts.rooms;
        others = λ seat differs. let marks = marks_in config world (accessed config world (at_spot AskCycle)).memory world.graph seat refl (λ n. refl) (λ t. refl) (λ t given. refl) (λ a. refl) in let copies = copies_in config world (accessed config world (at_spot AskCycle)).memory world.graph seat refl refl (λ r. refl) (λ a. refl) in let kept_fields = fields_in config world (accessed config world (at_spot AskCycle)).memory world.graph (λ r. refl) (λ r. refl) refl (λ a. refl) in let waits = still_waits (world.memory Ask) in search (arith, nat_tests, marks, copies, kept_fields, waits);
      }

  -- the last step of a call gives its reply
  pub at_leave : (answer : Reply) → Row config world (at_spot (Leave answer)) command fixed
  at_leave left_reply shared mine = record {
    world = accessed config world (at_spot (Leave left_reply));
    memory = refl;
    graph = refl;
    legal = tt;
    settles = λ own_reply is_settled. cc;
    shared = shared;
    mine = record { seated = mine.seated; ready = rest_ready config seat made kept (Ended left_reply) refl mine.seated.below; marking = mine.marking; copying = mine.copying; roots = mine.roots; rooms = mine.rooms; facts = refl };
    others = λ seat differs. let marks = marks_in config world (accessed config world (at_spot (Leave left_reply))).memory world.graph seat refl (λ n. refl) (λ t. refl) (λ t k. refl) (λ a. refl) in let copies = copies_in config world (accessed config world (at_spot (Leave left_reply))).memory world.graph seat refl refl (λ left_reply. refl) (λ a. refl) in let kept_fields = fields_in config world (accessed config world (at_spot (Leave left_reply))).memory world.graph (λ left_reply. refl) (λ left_reply. refl) refl (λ a. refl) in search (arith, nat_tests, marks, copies, kept_fields);
  }
