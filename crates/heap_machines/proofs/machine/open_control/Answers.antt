use Rattle.heap_words.specs.Phases.{idle_phase}
use Rattle.std.proofs.Common.{ℕ, ◌≡◌, [], sym, ap, ◌∙◌}
use Rattle.heap_words.specs.declared.config.Config.{Config}
use Rattle.heap_words.specs.Words.{Word, Free, Phase, Cset, word_at}
use Rattle.image_graph.specs.State.{memory_of}
use Rattle.collector_rows.specs.declared.control_spot.ControlSpot.TheVariants.{LookLeft}
use Rattle.step_core.specs.Opening.{first_free}
use Rattle.step_core.specs.Actor.{controlling}
use Rattle.heap_machines.proofs.machine.open_control.Goals as goal

pub returns-clause-shown : goal.returns-clause-shown
returns-clause-shown c =
    let named = c.set_word.ensures.named Free tt (ap (λ (config : Config). word_at config Free) c.in_ok-image.ensures.config ∙ sym c.free_at.ensures) in
    let same_free : memory_of c.set_word.new.self Free ≡ first_free c.args.config.regions =
    ap (λ (memory : Word → ℕ). memory Free) named ∙ c.first_free.ensures ∙ ap first_free c.regions.ensures in
    let phase : memory_of c.set_word.new.self Phase ≡ idle_phase = ap (λ (memory : Word → ℕ). memory Phase) named ∙ c.in_ok-image.ensures.words Phase in
    let cset : memory_of c.set_word.new.self Cset ≡ 0 = ap (λ (memory : Word → ℕ). memory Cset) named ∙ c.in_ok-image.ensures.words Cset in
    ap controlling c.new.ensures.seen
    ∙ ap (λ (n : ℕ). controlling (record { spot = LookLeft; seen = n; phase = memory_of c.set_word.new.self Phase; cset = memory_of c.set_word.new.self Cset; image = []; hints = 0 })) same_free
    ∙ ap (λ (n : ℕ). controlling (record { spot = LookLeft; seen = first_free c.args.config.regions; phase = n; cset = memory_of c.set_word.new.self Cset; image = []; hints = 0 })) phase
    ∙ ap (λ (n : ℕ). controlling (record { spot = LookLeft; seen = first_free c.args.config.regions; phase = 0; cset = n; image = []; hints = 0 })) cset
