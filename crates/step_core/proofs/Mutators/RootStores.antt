-- The steps that store a reference into a root.
use Rattle.std.proofs.Common.{◌≡◌, ℕ, ◌+◌, inl, false, ⊎_elim, Option, None, refl, sym, ap, ◌∙◌, subst, arith}
use Rattle.std.specs.Prelude.{◌==◌}
use Rattle.std.proofs.lemmas.Bool.{eq-eqb, cond-true}
use Rattle.std.proofs.lemmas.Bool.Decides.{nat_tests}
use Rattle.heap_words.specs.declared.config.Config.{Config}
use Rattle.heap_words.specs.Words.{Word, Cset, Evac, Root, Wait, Answer, write}
use Rattle.heap_words.specs.Touch.{touched}
use Rattle.shen_graph.specs.declared.command.Command.{Command}
use Rattle.shen_graph.specs.declared.command.Reply.{Reply}
use Rattle.shen_graph.specs.declared.command.Reply.TheVariants as reply
use Rattle.shen_graph.specs.Graph.{Reference, with_root}
use Rattle.shen_graph.specs.Step.{answers, outcome, pinned_by}
use Rattle.mutator.specs.declared.spot.Spot.{Spot}
use Rattle.mutator.specs.declared.spot.Spot.TheVariants.{Showing, StoreRoot}
use Rattle.mutator.specs.declared.shows.ShowSpot.TheVariants as show
use Rattle.mutator.specs.declared.spot.Kept.{Kept}
use Rattle.shen_graph.specs.declared.order.Order.TheVariants.{Nothing}
use Rattle.mutator.specs.Commands.{dst_of}
use Rattle.mutator.specs.Rows.{Mutating, touch_of}
use Rattle.heap_world.specs.World.{World, Points, IsUsable, UsableIn, Shared}
use Rattle.step_core.proofs.Machines.Stepped.{IsSeatedIn, Mine, Stepped, Row}
use Rattle.step_core.proofs.Mutators.Spots.{mutator_at, accessed}
use Rattle.step_core.proofs.Mutators.WhileMarking.{marks_in, copies_in, fields_in}
use Rattle.step_core.proofs.History.Settling.{legal_answer, graph_answer}
use Rattle.step_core.proofs.Machines.Ready.{leaving}
use Rattle.heap_world.proofs.RootChanges.{root_written, roots_written, usable_written}

-- the facts of a seat after a word that may be used was stored into a root
seated_written : (config : Config) (world later_world : World) (seat made dst value : ℕ) → later_world.block ≡ world.block → later_world.graph.count ≡ world.graph.count → later_world.memory ≡ write world.memory (Root seat dst) value
    → UsableIn config world value → IsSeatedIn config world seat made false → IsSeatedIn config later_world seat made false
seated_written config world later_world seat made dst value block count memory new seated = record {
  below = seated.below;
  counted = ap (λ f. f (seat + 1)) count ∙ seated.counted;
  usable = λ index index_below. subst (λ plot. IsUsable config (later_world.memory Cset) (later_world.memory Evac) plot (later_world.memory (Root seat index))) (sym block)
      (subst (λ (memory : Word → ℕ). IsUsable config (memory Cset) (memory Evac) world.block (memory (Root seat index))) (sym memory) (usable_written config (world.memory Cset) (world.memory Evac) world.block world.memory seat dst value seated.usable new index index_below));
  unasked = λ calm. let was_unasked = seated.unasked calm in (
    ap (λ (memory : Word → ℕ). memory (Wait seat)) memory ∙ was_unasked.0,
    ap (λ (memory : Word → ℕ). memory (Answer seat)) memory ∙ was_unasked.1,
    λ address words piece_there. was_unasked.2 address words (ap (λ plot. plot address) (sym block) ∙ piece_there),
  );
}

module _ (config : Config) (world : World) (seat made : ℕ) (kept : Kept) (command : Command) (fixed : Option Reply) where
  abbrev at_spot : Spot → Mutating
  at_spot spot = mutator_at seat made kept spot

  -- the command's root
  abbrev dst : ℕ
  dst = dst_of kept.command

  -- the store of a loaded reference, which is settled, into a root
  pub at_store_loaded : (value : ℕ) (answer : Reply) → Row config world (at_spot (Showing value (show.StoreRoot answer))) command fixed
  at_store_loaded value given_reply shared mine =
      let stands : Points world.block value (world.graph.root (seat + 1) dst) =
      subst (λ word. Points world.block word (world.graph.root (seat + 1) dst)) (cond-true (dst == dst) value (world.memory (Root seat dst)) (eq-eqb dst dst refl)) (mine.roots dst mine.facts.1) in
      record {
        world = accessed config world (at_spot (Showing value (show.StoreRoot given_reply)));
        memory = refl;
        graph = refl;
        legal = tt;
        settles = λ settled_reply reply_settled. cc;
        shared = shared;
        mine =
            rw mine.facts.0
            (leaving config _ seat made kept command given_reply
            (seated_written config world (accessed config world (at_spot (Showing value (show.StoreRoot given_reply)))) seat made dst value refl refl refl mine.facts.2 mine.seated)
            (mine.marking.records, mine.marking.scans, mine.copying.copies_is, mine.copying.works_none)
            (λ index index_below. subst (λ word. Points world.block word (world.graph.root (seat + 1) index)) (root_written world.memory seat dst value index) (mine.roots index index_below)) mine.rooms);
        others = λ seat differs. let marks = marks_in config world (accessed config world (at_spot (Showing value (show.StoreRoot given_reply)))).memory (accessed config world (at_spot (Showing value (show.StoreRoot given_reply)))).graph seat refl (λ n. refl) (λ t. refl) (λ t k. refl) (λ a. refl) in let copies = copies_in config world (accessed config world (at_spot (Showing value (show.StoreRoot given_reply)))).memory (accessed config world (at_spot (Showing value (show.StoreRoot given_reply)))).graph seat refl refl (λ given_reply. refl) (λ a. refl) in let kept_fields = fields_in config world (accessed config world (at_spot (Showing value (show.StoreRoot given_reply)))).memory (accessed config world (at_spot (Showing value (show.StoreRoot given_reply)))).graph (λ given_reply. refl) (λ given_reply. refl) refl (λ a. refl) in search (arith, nat_tests, marks, copies, kept_fields);
      }

  -- the world in which a root is a word, and in the graph a reference
  abbrev rooted_world : ℕ → Reference → World
  rooted_world value reference =
      record { memory = touched world.memory (touch_of config (at_spot (StoreRoot value)) Nothing); block = world.block; ghost = world.ghost; graph = with_root world.graph (seat + 1) dst reference }

  -- A step that stores a reference into a root settles the reply Ok of a command which makes that root the reference.
  root_step : (value : ℕ) (reference : Reference) → Shared config world → Mine config world (at_spot (StoreRoot value)) command fixed
      → pinned_by world.graph (seat + 1) command ≡ None → outcome world.graph (seat + 1) command ≡ answers reply.Ok (with_root world.graph (seat + 1) dst reference) → Points world.block value reference → UsableIn config world value
      → Stepped config world (at_spot (StoreRoot value)) command Nothing fixed
  root_step value reference shared own_facts nothing_pinned outcome_is stands new = record {
    world = rooted_world value reference;
    memory = refl;
    graph = sym (graph_answer world.graph seat command reply.Ok refl nothing_pinned ∙ ap (λ any_outcome. any_outcome.graph) outcome_is);
    legal = legal_answer config world.graph seat command reply.Ok refl nothing_pinned (ap (λ any_outcome. any_outcome.reply) outcome_is);
    settles = λ r reply_settled. (own_facts.facts.0, refl);
    shared = shared;
    mine = leaving config _ seat made kept command reply.Ok (seated_written config world (rooted_world value reference) seat made dst value refl refl refl new own_facts.seated) (own_facts.marking.records, own_facts.marking.scans, own_facts.copying.copies_is, own_facts.copying.works_none) (roots_written world.block world.memory world.graph.root seat dst value reference own_facts.roots stands) own_facts.rooms;
    others = λ seat differs. let marks = marks_in config world (rooted_world value reference).memory (rooted_world value reference).graph seat refl (λ n. refl) (λ t. refl) (λ t k. refl) (λ a. refl) in let copies = copies_in config world (rooted_world value reference).memory (rooted_world value reference).graph seat refl refl (λ r. refl) (λ a. refl) in let kept_fields = fields_in config world (rooted_world value reference).memory (rooted_world value reference).graph (λ r. refl) (λ r. refl) refl (λ a. refl) in search (arith, nat_tests, marks, copies, kept_fields);
  }

  -- the store of a reference into a root settles Ok
  pub at_store_root : (value : ℕ) → Row config world (at_spot (StoreRoot value)) command fixed
  at_store_root value shared mine = ⊎_elim
      (λ copy. root_step value (world.graph.root (seat + 1) copy.src) shared mine (ap (pinned_by world.graph (seat + 1)) copy.is) (ap (λ any_command. outcome world.graph (seat + 1) any_command) copy.is) copy.value_is.stands copy.value_is.usable)
      (λ drop. root_step value None shared mine (ap (pinned_by world.graph (seat + 1)) drop.is) (ap (λ any_command. outcome world.graph (seat + 1) any_command) drop.is) drop.value_is (inl drop.value_is))
      mine.facts.2
