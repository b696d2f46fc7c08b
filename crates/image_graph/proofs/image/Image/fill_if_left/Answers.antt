use Rattle.std.proofs.Common.{◌+◌, ◌==◌, ◌&&◌, ℕ, sym, ◌∙◌}
use Rattle.std.proofs.lemmas.Bool.{cond-true, and_from, eq-eqb}
use Rattle.std.proofs.Math.Path.{fun_ext}
use Rattle.heap_words.specs.Words.{Word, Heap, write}
use Rattle.heap_words.specs.Encoding.{filler_header, object_words}
use Rattle.image_graph.specs.State.{memory_of, found_of}
use Rattle.image_graph.specs.Leftovers.{is_left_over}
use Rattle.image_graph.proofs.image.Image.fill_if_left.Goals as goal

pub returns-then-is_left_over-clause-words : goal.returns-then-is_left_over-clause-words
returns-then-is_left_over-clause-words c =
    let memory : Word → ℕ = memory_of c.args.self.now in
    let address = c.args.address in
    let left_over = is_left_over memory (found_of c.args.self.now) c.args.left address in
    let both_tests = and_from (c.args.object == address) left_over (eq-eqb c.args.object address c.if-object-address.false) (sym c.is_left_over.ensures ∙ c.if-is_left_over.true) in
    c.fill_object.ensures.words
    ∙ fun_ext (λ word. sym (cond-true ((c.args.object == address) && left_over) (write memory (Heap address) (filler_header (object_words (memory (Heap (address + 1))))) word) (memory word) both_tests))
