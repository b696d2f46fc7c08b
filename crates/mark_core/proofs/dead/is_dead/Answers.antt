use Rattle.std.proofs.Common.{◌≡◌, ◌≢◌, ℕ, false, not, sym, ap, ◌∙◌, arith}
use Rattle.std.specs.Int.{bit_at}
use Rattle.std.proofs.lemmas.Bool.{false_from_ne_true, true≢false}
use Rattle.std.proofs.lemmas.Nat.Bits.{bit_at-lt}
use Rattle.heap_words.specs.declared.config.Config.{Config}
use Rattle.heap_words.specs.Words.{Word, Free, Top, Tams, word_at}
use Rattle.image_graph.specs.State.{config_of, memory_of}
use Rattle.cycle_words.specs.Marking.Final.{is_current, is_dead}
use Rattle.cycle_words.proofs.Marking.Dead.{current_is, dead_is_dead, marks_decide}
use Rattle.mark_core.proofs.dead.is_dead.Goals as goal
use Rattle.mark_core.proofs.dead.is_dead.Goals.{then-is_in-via-then-is_in, then-is_in-via-else-is_in+then-is_current}

pub returns-then-is_in : goal.returns-then-is_in
returns-then-is_in c =
    let config = config_of c.args.image.now in
    let memory : Word → ℕ = memory_of c.args.image.now in
    let region = c.args.region in
    let same_free : c.word.result ≡ memory Free = c.word.ensures.named Free tt (ap (λ (config : Config). word_at config Free) (sym c.config-config.ensures) ∙ sym c.free_at.ensures) in
    sym (false_from_ne_true (is_dead config memory region) (λ told_dead.
    let dead = (dead_is_dead config memory region).0 told_dead in
    elim c.then-is_in.branch [
      | then-is_in-via-then-is_in w ↦
          let region_free = c.is_in.ensures.0 w.if-is_in.true in
          omega (arith, region_free, ap (λ x. bit_at x region) same_free, dead.in_use)
      | then-is_in-via-else-is_in+then-is_current w ↦ dead.nobodys (w.is_current.ensures.yes w.if-is_current.true)
    ]))

pub returns-then-is_pinned : goal.returns-then-is_pinned
returns-then-is_pinned c =
    let config = config_of c.args.image.now in
    let memory : Word → ℕ = memory_of c.args.image.now in
    let region = c.args.region in
    sym (false_from_ne_true (is_dead config memory region) (λ told_dead.
    let dead = (dead_is_dead config memory region).0 told_dead in
    true≢false (sym c.if-is_pinned.true ∙ c.is_pinned.ensures ∙ dead.unpinned)))

pub returns : goal.returns
returns c =
    let config = config_of c.args.image.now in
    let memory : Word → ℕ = memory_of c.args.image.now in
    let region = c.args.region in
    let same_free : c.word.result ≡ memory Free = c.word.ensures.named Free tt (ap (λ (config : Config). word_at config Free) (sym c.config-config.ensures) ∙ sym c.free_at.ensures) in
    let tams : c.word-2.result ≡ memory (Tams region) =
    c.word-2.ensures.named (Tams region) c.requires (ap (λ (config : Config). word_at config (Tams region)) (sym c.config-config.ensures) ∙ sym c.tams_at.ensures) in
    let outside : bit_at (memory Free) region ≢ 1 = λ region_is. true≢false (sym (c.is_in.ensures.1 (ap (λ x. bit_at x region) same_free ∙ region_is)) ∙ c.if-is_in.false) in
    let unset : bit_at (memory Free) region ≡ 0 = omega (arith, outside, bit_at-lt (memory Free) region) in
    let unseated : is_current config memory region ≡ false = false_from_ne_true (is_current config memory region) (λ region_is. c.is_current.ensures.no c.if-is_current.false (current_is config memory region region_is)) in
    let top_at_tams : memory (Top region) ≡ memory (Tams region) = omega (arith, c.top.ensures, tams, c.if-top-word.false) in
    ap not c.has_black.ensures ∙ sym (marks_decide config memory region unset (sym c.is_pinned.ensures ∙ c.if-is_pinned.false) unseated top_at_tams)
