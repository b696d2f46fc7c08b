use Rattle.std.proofs.Common.{◌≡◌, ℕ, ◌==◌, false, sym, ap, ◌∙◌, arith}
use Rattle.std.specs.Int.{bit_at}
use Rattle.std.proofs.lemmas.Bool.{or_from, ne_eqb}
use Rattle.heap_words.specs.declared.config.Config.{Config}
use Rattle.heap_words.specs.Words.{Word, Cset, word_at}
use Rattle.regions.specs.Sets.{IsIn}
use Rattle.image_graph.specs.Pinned.{is_pinned}
use Rattle.image_graph.specs.State.{config_of, memory_of}
use Rattle.cycle_words.specs.Finishing.Updated.{stays}
use Rattle.degenerated.specs.Steps.{kept_now, is_of}
use Rattle.degenerated.proofs.UpdatedFields.{no_fields, none_where_nothing_stays}
use Rattle.degenerated.proofs.fields.update_if_staying.Goals as goal

pub returns-then-not-is_pinned-clause-words : goal.returns-then-not-is_pinned-clause-words
returns-then-not-is_pinned-clause-words c =
    let config = config_of c.args.image.now in
    let memory : Word → ℕ = memory_of c.args.image.now in
    let region = c.args.region in
    let same_cset : c.word.result ≡ memory Cset = c.word.ensures.named Cset tt (ap (λ (config : Config). word_at config Cset) (sym c.config.ensures) ∙ sym c.cset_at.ensures) in
    let member : IsIn (memory Cset) region = ap (λ x. bit_at x region) (sym same_cset) ∙ c.is_in.ensures.0 c.if-is_in.true in
    let not_staying : stays config memory region ≡ false =
    or_from (bit_at (memory Cset) region == 0) (is_pinned config memory region) (ne_eqb (bit_at (memory Cset) region) 0 (λ no_bit. omega (arith, no_bit, member))) (sym c.is_pinned.ensures ∙ c.if-not-is_pinned.true) in
    no_fields config memory (kept_now c.args.image.now) (is_of config region) (none_where_nothing_stays config memory region not_staying)
