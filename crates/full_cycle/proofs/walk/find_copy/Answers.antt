use Rattle.std.proofs.Common.{sym, ap, ◌∙◌, subst}
use Rattle.heap_words.specs.Words.{Heap, IsWord}
use Rattle.heap_world.specs.Walk.{with_address}
use Rattle.image_graph.specs.State.{config_of, memory_of, found_of}
use Rattle.full_cycle.proofs.Kept.{copy_inside, copy_is}
use Rattle.full_cycle.proofs.walk.find_copy.Goals as goal

pub find-requires-clause-inside : goal.find-requires-clause-inside
find-requires-clause-inside c = λ _.
    subst (λ address. IsWord (config_of c.args.image.now) (Heap address)) (sym c.resolve-copy.ensures)
    (copy_inside (config_of c.args.image.now) (memory_of c.args.image.now) c.requires.can c.args.word c.if-word-ne0.true c.requires.leads)

pub returns-then-word-ne0-clause-noted : goal.returns-then-word-ne0-clause-noted
returns-then-word-ne0-clause-noted c =
    c.find.ensures.noted ∙ ap (with_address (found_of c.args.image.now)) (c.resolve-copy.ensures ∙ copy_is (memory_of c.args.image.now) c.args.word c.if-word-ne0.true)

pub find-requires-clause-found : goal.find-requires-clause-found
find-requires-clause-found c = c.requires.found

pub returns-then-word-ne0-clause-unchanged : goal.returns-then-word-ne0-clause-unchanged
returns-then-word-ne0-clause-unchanged c = c.find.ensures.unchanged

pub returns-then-word-ne0-clause-found : goal.returns-then-word-ne0-clause-found
returns-then-word-ne0-clause-found c = c.find.ensures.found
