use Rattle.std.proofs.Common.{ap, arith}
use Rattle.std.proofs.lemmas.Bool.{lt-ltb}
use Rattle.heap_words.specs.declared.config.Config.{Config}
use Rattle.table_heap.proofs.Running.{has_script}
use Rattle.heap_tests.proofs.shared.Shared.answered.Goals as goal

pub replies-requires : goal.replies-requires
replies-requires c =
    let shared_now = c.args.self.now in
    let same_config = c.requires.same in
    let mutators = ap (λ (config : Config). config.mutators) same_config in
    has_script shared_now.bundle shared_now.work c.loop-thread.thread c.requires.works (c.requires.here c.loop-thread.thread (omega arith)) (lt-ltb c.loop-thread.thread shared_now.bundle.config.mutators (omega (arith, mutators)))
