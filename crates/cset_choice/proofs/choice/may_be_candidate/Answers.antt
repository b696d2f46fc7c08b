use Rattle.std.proofs.Common.{◌≡◌, ◌≢◌, ℕ, false, sym, ap, ◌∙◌, arith}
use Rattle.std.specs.Int.{bit_at}
use Rattle.std.proofs.lemmas.Bool.{eqb-true, eq-eqb, false_from_ne_true, true≢false, false≢true}
use Rattle.std.proofs.lemmas.Nat.Bits.{bit_at-lt}
use Rattle.heap_words.specs.declared.config.Config.{Config}
use Rattle.heap_words.specs.Words.{Word, Free, Top, Tams, word_at}
use Rattle.image_graph.specs.State.{config_of, memory_of}
use Rattle.cycle_words.specs.Marking.Final.{is_current}
use Rattle.cycle_words.proofs.Marking.Dead.{current_is}
use Rattle.cycle_words.specs.Evacuation.Live.{is_candidate}
use Rattle.cycle_words.proofs.Evacuation.Candidate.{candidate_is_candidate}
use Rattle.cset_choice.proofs.Choosing.{garbage_decides}
use Rattle.cset_choice.proofs.choice.may_be_candidate.Goals as goal
use Rattle.cset_choice.proofs.choice.may_be_candidate.Goals.{then-is_in-via-then-is_in, then-is_in-via-else-is_in+then-is_current}

pub returns-then-is_in-clause-yes : goal.returns-then-is_in-clause-yes
returns-then-is_in-clause-yes c = λ never. absurd (false≢true never)

pub returns-then-is_in-clause-no : goal.returns-then-is_in-clause-no
returns-then-is_in-clause-no c = λ _.
    let config = config_of c.args.image.now in
    let memory : Word → ℕ = memory_of c.args.image.now in
    let region = c.args.region in
    let free_bits : c.word.result ≡ memory Free = c.word.ensures.named Free tt (ap (λ (config : Config). word_at config Free) (sym c.config-config.ensures) ∙ sym c.free_at.ensures) in
    false_from_ne_true (is_candidate config memory region) (λ candidate_told.
    let candidate = (candidate_is_candidate config memory region).0 candidate_told in
    elim c.then-is_in.branch [
      | then-is_in-via-then-is_in w ↦
          let region_free = c.is_in.ensures.0 w.if-is_in.true in
          omega (arith, region_free, ap (λ x. bit_at x region) free_bits, candidate.in_use)
      | then-is_in-via-else-is_in+then-is_current w ↦ candidate.nobodys (w.is_current.ensures.yes w.if-is_current.true)
    ])

pub returns-then-is_pinned-clause-yes : goal.returns-then-is_pinned-clause-yes
returns-then-is_pinned-clause-yes c = λ never. absurd (false≢true never)

pub returns-then-is_pinned-clause-no : goal.returns-then-is_pinned-clause-no
returns-then-is_pinned-clause-no c = λ _.
    let config = config_of c.args.image.now in
    let memory : Word → ℕ = memory_of c.args.image.now in
    let region = c.args.region in
    false_from_ne_true (is_candidate config memory region) (λ candidate_told.
    let candidate = (candidate_is_candidate config memory region).0 candidate_told in
    true≢false (sym c.if-is_pinned.true ∙ c.is_pinned.ensures ∙ candidate.unpinned))

pub returns-clause-yes : goal.returns-clause-yes
returns-clause-yes c = λ answer_true.
    let config = config_of c.args.image.now in
    let memory : Word → ℕ = memory_of c.args.image.now in
    let region = c.args.region in
    let free_bits : c.word.result ≡ memory Free = c.word.ensures.named Free tt (ap (λ (config : Config). word_at config Free) (sym c.config-config.ensures) ∙ sym c.free_at.ensures) in
    let tams : c.word-2.result ≡ memory (Tams region) =
    c.word-2.ensures.named (Tams region) c.requires (ap (λ (config : Config). word_at config (Tams region)) (sym c.config-config.ensures) ∙ sym c.tams_at.ensures) in
    let outside : bit_at (memory Free) region ≢ 1 = λ region_is. true≢false (sym (c.is_in.ensures.1 (ap (λ x. bit_at x region) free_bits ∙ region_is)) ∙ c.if-is_in.false) in
    let unset : bit_at (memory Free) region ≡ 0 = omega (arith, outside, bit_at-lt (memory Free) region) in
    let unseated : is_current config memory region ≡ false = false_from_ne_true (is_current config memory region) (λ region_is. c.is_current.ensures.no c.if-is_current.false (current_is config memory region region_is)) in
    let top_is_tams : memory (Top region) ≡ memory (Tams region) = sym c.top.ensures ∙ eqb-true _ _ answer_true ∙ tams in
    garbage_decides config memory region unset (sym c.is_pinned.ensures ∙ c.if-is_pinned.false) unseated top_is_tams

pub returns-clause-no : goal.returns-clause-no
returns-clause-no c = λ differs.
    let config = config_of c.args.image.now in
    let memory : Word → ℕ = memory_of c.args.image.now in
    let region = c.args.region in
    let tams : c.word-2.result ≡ memory (Tams region) =
    c.word-2.ensures.named (Tams region) c.requires (ap (λ (config : Config). word_at config (Tams region)) (sym c.config-config.ensures) ∙ sym c.tams_at.ensures) in
    false_from_ne_true (is_candidate config memory region) (λ candidate_told.
    let candidate = (candidate_is_candidate config memory region).0 candidate_told in
    true≢false (sym (eq-eqb _ _ (c.top.ensures ∙ candidate.no_new ∙ sym tams)) ∙ differs))
