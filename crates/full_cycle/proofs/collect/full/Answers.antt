use Rattle.std.proofs.Common.{ℕ, sym, ap, ◌∙◌, subst, arith}
use Rattle.std.proofs.Math.Logic.{∥∥₁_map}
use Rattle.std.proofs.lemmas.Bool.Decides.{nat_tests}
use Rattle.heap_words.specs.declared.config.Config.{Config}
use Rattle.heap_words.specs.Words.{Word, Current}
use Rattle.heap_words.proofs.Stores.{view_none}
use Rattle.image_graph.specs.LetGo.{let_go}
use Rattle.image_graph.specs.Full.{full_from}
use Rattle.image_graph.specs.State.{config_of, words_of, memory_of}
use Rattle.image_graph.specs.Holds.{HoldsSome}
use Rattle.image_graph.specs.Buffers.{HasNoMoreSeats, LettingGoHolds}
use Rattle.image_graph.proofs.Loosening.BuffersInside.{inside_some}
use Rattle.full_cycle.specs.Collect.{HoldsWalked}
use Rattle.full_cycle.proofs.Again.{holds_full}
use Rattle.full_cycle.proofs.Result.{keeps_graph, keeps_reachable, let_go_walked, refuses_left}
use Rattle.full_cycle.proofs.PinnedStay.{pinned_stay_some}
use Rattle.full_cycle.proofs.collect.full.Goals as goal

pub let_go-requires : goal.let_go-requires
let_go-requires c = inside_some (config_of c.args.image.now) (memory_of c.args.image.now) (∥∥₁_map c.requires (λ what_holds. (what_holds.0, (what_holds.1, what_holds.2, what_holds.3, what_holds.4))))

pub collect-requires : goal.collect-requires
collect-requires c =
    let config = config_of c.args.image.now in
    let memory : Word → ℕ = memory_of c.args.image.now in
    let lets : LettingGoHolds config memory (let_go config memory) = subst (LettingGoHolds config memory) c.let_go.ensures.words c.let_go.ensures.holds in
    subst (λ (config : Config). HoldsWalked config (memory_of c.let_go.new.self)) (sym c.let_go.ensures.config)
    (subst (HoldsWalked config) (sym c.let_go.ensures.words) (let_go_walked config memory lets c.requires))

pub returns-clause-words : goal.returns-clause-words
returns-clause-words c =
    c.collect.ensures.words ∙ ap (λ (config : Config). full_from config (memory_of c.let_go.new.self)) c.let_go.ensures.config
    ∙ ap (full_from (config_of c.args.image.now)) c.let_go.ensures.words

pub returns-clause-holds : goal.returns-clause-holds
returns-clause-holds c =
    let config = config_of c.args.image.now in
    let memory : Word → ℕ = memory_of c.args.image.now in
    let lets : LettingGoHolds config memory (let_go config memory) = subst (LettingGoHolds config memory) c.let_go.ensures.words c.let_go.ensures.holds in
    subst (HoldsSome config) (sym (returns-clause-words c)) (holds_full config (let_go config memory) (let_go_walked config memory lets c.requires))

pub returns-clause-graph : goal.returns-clause-graph
returns-clause-graph c =
    let config = config_of c.args.image.now in
    let memory : Word → ℕ = memory_of c.args.image.now in
    let lets : LettingGoHolds config memory (let_go config memory) = subst (LettingGoHolds config memory) c.let_go.ensures.words c.let_go.ensures.holds in
    keeps_graph config memory lets (memory_of c.collect.new.image) (returns-clause-words c)

pub returns-clause-kept : goal.returns-clause-kept
returns-clause-kept c =
    let config = config_of c.args.image.now in
    let memory : Word → ℕ = memory_of c.args.image.now in
    let lets : LettingGoHolds config memory (let_go config memory) = subst (LettingGoHolds config memory) c.let_go.ensures.words c.let_go.ensures.holds in
    keeps_reachable config memory lets

pub returns-clause-pinned : goal.returns-clause-pinned
returns-clause-pinned c =
    let config = config_of c.args.image.now in
    let memory : Word → ℕ = memory_of c.args.image.now in
    let lets : LettingGoHolds config memory (let_go config memory) = subst (LettingGoHolds config memory) c.let_go.ensures.words c.let_go.ensures.holds in
    let seats : HasNoMoreSeats config memory = λ seat seat_past. view_none config (words_of c.args.image.now) (Current seat) (grind (arith, nat_tests)) in
    pinned_stay_some config memory (memory_of c.collect.new.image) (let_go_walked config memory lets c.requires) seats (returns-clause-words c) c.requires

pub returns-clause-refused : goal.returns-clause-refused
returns-clause-refused c = refuses_left (config_of c.args.image.now) (memory_of c.args.image.now) (memory_of c.collect.new.image) (returns-clause-words c)
