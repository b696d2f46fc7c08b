use Rattle.std.proofs.Common.{rules}
use Rattle.heap_world.proofs.Walks.{IsMarked-none}
use Rattle.image_graph.proofs.image.Image.open.Goals as goal

pub invariant_of-result-clause-all_found : goal.invariant_of-result-clause-all_found
invariant_of-result-clause-all_found c =
    ∣ IsMarked-none _ _ _ _ (c.in-Ok-vec-2.ensures.items_if_clones_equal (λ y h. search rules)) c.in-Ok-with_capacity.ensures.items ∣₁
