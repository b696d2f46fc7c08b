use Rattle.std.proofs.Common.{◌≡◌, ◌++◌, ap, true, false, take, rules}
use Rattle.shen_base.specs.Sending.{Held}
use Rattle.shen_base.proofs.Fronts.{front_moves, front_is_all}
use Rattle.shen_base.proofs.Stages.{puts_same, puts_turn, puts_more_stopped}
use Rattle.shen_base.proofs.block.Block.put.Goals as goal

pub loop-rest-preserved : goal.loop-rest-preserved
loop-rest-preserved g c =
    let (done, put, split) = c.loop-rest.invariant.done in
    let rest = c.loop-rest.rest.now in
    let count = c.keep-count.result in
    record {
      done = (
        done ++ take count rest,
        puts_turn _ _ _ _ _ _ _ _ _ _ done (take count rest) put c.make_room.ensures.sent c.keep-count.ensures.kept,
        front_moves _ done rest count split,
      );
      stopped = λ f.
          (let still_failed : c.loop-rest.self.failed ≡ c.args.self.now.failed = ap (λ (block : Held). block.failed) (c.loop-rest.invariant.stopped f).0 in
          let going : c.loop-rest.self.failed ≡ false = search rules in
          let never : ⊥ = cc in
          absurd never);
    }

pub returns-else-not-self-clause-put : goal.returns-else-not-self-clause-put
returns-else-not-self-clause-put g c =
    let (done, put, split) = c.loop-rest.invariant.done in
    let failed : c.loop-rest.self.failed ≡ true = search rules in
    puts_same split (puts_more_stopped _ _ done c.loop-rest.rest.now failed put)

pub returns-after-loop-rest-clause-put : goal.returns-after-loop-rest-clause-put
returns-after-loop-rest-clause-put g c =
    let (done, put, split) = c.loop-rest.invariant.done in
    puts_same (front_is_all _ done c.loop-rest.rest.now (search rules) split) put
