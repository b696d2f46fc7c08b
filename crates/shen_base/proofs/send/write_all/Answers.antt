use Rattle.std.proofs.Common.{◌≡◌, ◌≤◌, ◌++◌, length, take, length-take-le, length-append, subst, sym, ap, arith}
use Rattle.std.specs.Io.KnownBytes.{Appends}
use Rattle.std.proofs.KnownBytes.{Appends-trans, Appends-kept}
use Rattle.std.proofs.lemmas.Grind.{common_steps}
use Rattle.shen_base.proofs.Fronts.{front_moves, front_is_all}
use Rattle.shen_base.proofs.Stages.{rose_later}
use Rattle.shen_base.proofs.send.write_all.Goals as goal

pub loop-rest-preserved : goal.loop-rest-preserved
loop-rest-preserved g c =
    let (done, appended, split, few) = c.loop-rest.invariant.done in
    let rest = c.loop-rest.rest.now in
    let count = c.in-Ok.count in
    let some_rest : 1 ≤ length rest = grind (arith, common_steps, c.loop-rest-test.ensures) in
    let took : 1 ≤ count = grind (arith, some_rest, c.in-Ok.ensures.none_only_of_empty) in
    let size : length (take count rest) ≡ count = length-take-le count rest c.in-Ok.ensures.within in
    record {
      done = (
        done ++ take count rest,
        Appends-trans _ _ _ _ _ appended c.in-Ok.ensures.appended,
        front_moves _ done rest count split,
        omega (arith, few, c.write.ensures.one_call, took, length-append done (take count rest), size),
      );
      never_fell = omega (arith, c.write.ensures.faults_never_fall, c.loop-rest.invariant.never_fell);
    }

pub returns-in-Err : goal.returns-in-Err
returns-in-Err g c =
    let (done, appended, split, few) = c.loop-rest.invariant.done in
    let rest = c.loop-rest.rest.now in
    let some_rest : 1 ≤ length rest = grind (arith, common_steps, c.loop-rest-test.ensures) in
    let text_length : length c.args.text.now ≡ length (done ++ rest) = ap length (sym split) in
    record {
      all = tt;
      front = record {
        sent = done;
        rest = rest;
        appended = Appends-kept _ _ _ _ appended c.in-Err.ensures.failed_writes_none;
        split = split;
        few_calls = omega (arith, few, c.write.ensures.one_call);
      };
      only_by_fault = rose_later _ _ _ c.loop-rest.invariant.never_fell c.in-Err.ensures.failed_only_by_fault;
      faults_never_fall = omega (arith, c.write.ensures.faults_never_fall, c.loop-rest.invariant.never_fell);
      few_calls = omega (arith, few, c.write.ensures.one_call, text_length, length-append done rest, some_rest);
    }

pub returns : goal.returns
returns g c =
    let (done, appended, split, few) = c.loop-rest.invariant.done in
    let none_left : length c.loop-rest.rest.now ≡ 0 = grind (arith, common_steps, c.loop-rest-test.ensures) in
    let all_done : done ≡ c.args.text.now = front_is_all _ done c.loop-rest.rest.now none_left split in
    record {
      all = subst (Appends (g.K.Sink.written c.args.sink.now) (g.K.Sink.written c.loop-rest.sink)) all_done appended;
      front = tt;
      only_by_fault = tt;
      faults_never_fall = c.loop-rest.invariant.never_fell;
      few_calls = omega (arith, few, ap length all_done);
    }
