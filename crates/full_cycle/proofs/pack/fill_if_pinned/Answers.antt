use Rattle.std.proofs.Common.{ℕ, Bool, sym, ap, ◌∙◌, ◌==◌, ◌&&◌}
use Rattle.std.proofs.Math.Path.{fun_ext}
use Rattle.heap_words.specs.Words.{Word}
use Rattle.image_graph.specs.Pinned.{is_pinned, filled_in}
use Rattle.image_graph.specs.Leftovers.{is_left_over}
use Rattle.image_graph.specs.declared.leftovers.Leftover.TheVariants.{NotFound}
use Rattle.image_graph.specs.State.{config_of, memory_of, found_of}
use Rattle.full_cycle.proofs.FilledRegions.{one_pinned, none_pinned, filled_nowhere}
use Rattle.full_cycle.proofs.pack.fill_if_pinned.Goals as goal

pub fill_leftovers-requires-clause-can : goal.fill_leftovers-requires-clause-can
fill_leftovers-requires-clause-can c = c.requires.can (sym c.is_pinned.ensures ∙ c.if-is_pinned.true)

pub fill_leftovers-requires-clause-found : goal.fill_leftovers-requires-clause-found
fill_leftovers-requires-clause-found c = λ _. c.requires.found

pub returns-then-is_pinned-clause-words : goal.returns-then-is_pinned-clause-words
returns-then-is_pinned-clause-words c =
    let config = config_of c.args.image.now in
    let memory : Word → ℕ = memory_of c.args.image.now in
    c.fill_leftovers.ensures.words
    ∙ ap (λ (chosen : ℕ → Bool). filled_in config chosen (is_left_over memory (found_of c.args.image.now) NotFound) memory)
    (fun_ext (one_pinned config memory c.args.region (sym c.is_pinned.ensures ∙ c.if-is_pinned.true)))

pub returns-else-is_pinned-clause-words : goal.returns-else-is_pinned-clause-words
returns-else-is_pinned-clause-words c =
    let config = config_of c.args.image.now in
    let memory : Word → ℕ = memory_of c.args.image.now in
    filled_nowhere config (λ region. (region == c.args.region) && is_pinned config memory region) (is_left_over memory (found_of c.args.image.now) NotFound) memory
    (none_pinned config memory c.args.region (sym c.is_pinned.ensures ∙ c.if-is_pinned.false))
