use Rattle.std.proofs.Common.{◌≡◌, length, arith, sym, ◌∙◌}
use Rattle.shen_check.proofs.Texts.{ended, first_left_is, nothing_left, entry_there}
use Rattle.shen_check.proofs.Verdicts.{follow_more, legal_history, follows_scripts}
use Rattle.shen_check.proofs.checking.check.Goals as goal

pub returns-then-not-branch : goal.returns-then-not-branch
returns-then-not-branch c =
    let found_entry = entry_there c.args.history.now.list c.loop-at.at (omega (arith, c.loop-at-test.true, c.len-at-end.ensures)) in
    let wrong = c.in_ok-take.ensures found_entry.0 found_entry.1 in
    record { entry = found_entry.0; there = found_entry.1; before = c.loop-at.invariant.follow; wrong = rw c.if-not-branch.true at wrong }

pub loop-at-preserved : goal.loop-at-preserved
loop-at-preserved c =
    let found_entry = entry_there c.args.history.now.list c.loop-at.at (omega (arith, c.loop-at-test.true, c.len-at-end.ensures)) in
    let entry_follows = c.in_ok-take.ensures found_entry.0 found_entry.1 in
    let both_sides = rw c.if-not-branch.false at entry_follows in
    record {
      judged = both_sides.1;
      follow = follow_more c.args.trace.now.config c.args.trace.now.scripts c.args.history.now.list c.loop-at.at found_entry.0 found_entry.1 c.loop-at.invariant.follow both_sides.0;
    }

pub returns-in-Some : goal.returns-in-Some
returns-in-Some c =
    let config = c.args.trace.now.config in
    let scripts = c.args.trace.now.scripts in
    let history = c.args.history.now.list in
    let end_reached : length history ≡ c.loop-at.at = omega (arith, c.loop-at-test.false, c.loop-at.auto.at-end, c.len-at-end.ensures) in
    let whole_judged = ended config scripts history c.loop-at.judge.graph c.loop-at.judge.work c.loop-at.at end_reached c.loop-at.invariant.judged c.loop-at.invariant.follow in
    first_left_is config scripts history c.loop-at.judge.graph c.loop-at.judge.work c.mutators-threads.result c.in-Some.thread whole_judged.0 whole_judged.1 (c.requires.count ∙ sym c.mutators-threads.ensures) c.in-Some.ensures

pub returns-then-branch : goal.returns-then-branch
returns-then-branch c =
    let config = c.args.trace.now.config in
    let scripts = c.args.trace.now.scripts in
    let history = c.args.history.now.list in
    let count = c.requires.count ∙ sym c.mutators-threads.ensures in
    let end_reached : length history ≡ c.loop-at.at = omega (arith, c.loop-at-test.false, c.loop-at.auto.at-end, c.len-at-end.ensures) in
    let whole_judged = ended config scripts history c.loop-at.judge.graph c.loop-at.judge.work c.loop-at.at end_reached c.loop-at.invariant.judged c.loop-at.invariant.follow in
    let no_more = nothing_left scripts history c.loop-at.judge.graph c.loop-at.judge.work c.mutators-threads.result whole_judged.0 count c.in_default.ensures in
    let text = c.in_ok-is_answered_by.ensures scripts history count whole_judged.0 in
    record {
      legal = legal_history config scripts history whole_judged.1;
      follows = follows_scripts config scripts history whole_judged.1 no_more;
      text = rw c.if-branch.true at text;
    }

pub returns-else-branch : goal.returns-else-branch
returns-else-branch c =
    let config = c.args.trace.now.config in
    let scripts = c.args.trace.now.scripts in
    let history = c.args.history.now.list in
    let count = c.requires.count ∙ sym c.mutators-threads.ensures in
    let end_reached : length history ≡ c.loop-at.at = omega (arith, c.loop-at-test.false, c.loop-at.auto.at-end, c.len-at-end.ensures) in
    let whole_judged = ended config scripts history c.loop-at.judge.graph c.loop-at.judge.work c.loop-at.at end_reached c.loop-at.invariant.judged c.loop-at.invariant.follow in
    let no_more = nothing_left scripts history c.loop-at.judge.graph c.loop-at.judge.work c.mutators-threads.result whole_judged.0 count c.in_default.ensures in
    let text = c.in_ok-is_answered_by.ensures scripts history count whole_judged.0 in
    record { follow = whole_judged.1; none_left = no_more; other = rw c.if-branch.false at text }
