use Rattle.std.proofs.Common.{false, get_or, sym, ◌∙◌, subst, arith}
use Rattle.std.specs.Prelude.{slice_set}
use Rattle.std.proofs.lemmas.List.{length-set}
use Rattle.std.proofs.lemmas.Option.{slice_get-get_or}
use denote.Enum.Bare.{same_true}
use Rattle.heap_machines.specs.contracts.stepped.Stepped.{the_type}
use Rattle.heap_machines.specs.declared.stepped.Stepped.TheVariants.{Done}
use Rattle.heap_tests.specs.declared.shared.Shared.{Shared}
use Rattle.heap_tests.specs.Ordered.{IsPlaying}
use Rattle.heap_tests.proofs.TurnsAgain.{plays_on, may_set, may_kept}
use Rattle.heap_tests.proofs.shared.Shared.repeats.Goals.{then-number-mutators-2, else-number-mutators-2}
use Rattle.heap_tests.proofs.shared.Shared.repeats.Goals as goal

pub returns : goal.returns
returns c =
    let shared_now = c.args.self.now in
    let number = c.args.turn_then.number in
    let bundle = c.turn-said.new.bundle in
    elim c.if-number-mutators-2.branch [
      | then-number-mutators-2 w ↦
          subst (λ (shared : Shared). IsPlaying shared.heap shared.bundle shared.work shared.config shared.between) (sym w.self-is)
          (plays_on shared_now.heap shared_now.bundle bundle shared_now.work c.turn-said.new.work shared_now.config shared_now.between (slice_set shared_now.between number w.eq.result) c.requires c.turn-said.ensures.same c.turn-said.ensures.work
          (may_set shared_now.config.mutators number shared_now.between shared_now.bundle bundle (get_or shared_now.between number false) w.eq.result
          (slice_get-get_or shared_now.between number false (omega (arith, c.requires.long, c.args.self.now.config.in_range.most_mutators))) c.requires.rests c.turn-said.ensures.others
          (λ flag_set. c.turn-said.ensures.done (same_true the_type tt c.turn-said.result Done (sym w.eq.ensures ∙ flag_set))))
          (length-set shared_now.between number w.eq.result ∙ c.requires.long))
      | else-number-mutators-2 w ↦
          subst (λ (shared : Shared). IsPlaying shared.heap shared.bundle shared.work shared.config shared.between) (sym w.self-is)
          (plays_on shared_now.heap shared_now.bundle bundle shared_now.work c.turn-said.new.work shared_now.config shared_now.between shared_now.between c.requires c.turn-said.ensures.same c.turn-said.ensures.work
          (may_kept shared_now.config.mutators number shared_now.between shared_now.bundle bundle (omega arith) c.requires.rests c.turn-said.ensures.others) c.requires.long)
    ]
