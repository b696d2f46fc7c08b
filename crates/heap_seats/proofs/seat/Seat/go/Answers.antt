use Rattle.heap_seats.proofs.Loops.{goes_first, goes_more, gone_replied, gone_again, gone_idle, gone_all}
use Rattle.heap_seats.proofs.seat.Seat.go.Goals as goal

pub loop-made-init : goal.loop-made-init
loop-made-init c = goes_first c.args.self.now

pub loop-made-preserved : goal.loop-made-preserved
loop-made-preserved c =
    let loop = c.loop-made in
    goes_more c.args.self.now loop.self c.step.new.self loop._made c.step.result loop.invariant c.step.ensures.same (c.step.ensures.stepped (λ idle. absurd (let more_is = c.in-More.is in cc))) c.in-More.is

pub returns-in-Again : goal.returns-in-Again
returns-in-Again c =
    let loop = c.loop-made in
    gone_again c.args.self.now loop.self c.step.new.self loop._made c.args.steps c.step.result loop.invariant c.step.ensures.same (c.step.ensures.stepped (λ idle. absurd (let again_is = c.in-Again.is in cc))) c.in-Again.is c.loop-made-test.true

pub returns-in-Done : goal.returns-in-Done
returns-in-Done c =
    let loop = c.loop-made in
    let gone_with = gone_replied c.args.self.now loop.self c.step.new.self loop._made c.args.steps c.step.result c.reply.result loop.invariant c.step.ensures.same (c.step.ensures.stepped (λ idle. absurd (let done_is = c.in-Done.is in cc))) c.in-Done.is c.reply.ensures c.loop-made-test.true in
    record {
      same = record { config = gone_with.same.config; number = gone_with.same.number; heap = gone_with.same.heap };
      calls = gone_with.calls;
      doing = gone_with.doing;
      most = gone_with.most;
      all = gone_with.all;
      made = record { words = gone_with.made.words; before = gone_with.made.before; count = gone_with.made.count; machine = gone_with.made.machine; order = gone_with.made.order; said = gone_with.made.said };
      told = gone_with.told;
      idle = λ idle. absurd cc;
      worker = gone_with.worker;
      legal = gone_with.legal;
    }

pub returns-in-Idle : goal.returns-in-Idle
returns-in-Idle c =
    let loop = c.loop-made in
    gone_idle c.args.self.now loop.self c.step.new.self loop._made c.args.steps c.rest.result loop.invariant c.step.ensures.same (c.step.ensures.still c.in-Idle.is) (c.step.ensures.idle.0 c.in-Idle.is) c.rest.ensures c.loop-made-test.true

pub returns : goal.returns
returns c =
    let loop = c.loop-made in
    gone_all c.args.self.now loop.self loop._made c.args.steps c.rest-2.result loop.invariant c.rest-2.ensures loop.auto._made-end c.loop-made-test.false
