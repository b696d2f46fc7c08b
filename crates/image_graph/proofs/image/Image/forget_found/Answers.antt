use Rattle.std.proofs.Common.{ℕ, Bool, List, sym, subst}
use Rattle.std.proofs.Math.Logic.{∥∥₁_elim}
use Rattle.heap_world.specs.Walk.{IsMarked}
use Rattle.heap_world.proofs.TakenDown.{IsMarked-prop}
use Rattle.image_graph.proofs.image.Image.forget_found.Goals as goal

pub forget-requires : goal.forget-requires
forget-requires c =
    subst (λ (n : ℕ). IsMarked n c.deref_mut.result.now c.args.self.now.addresses.items) (sym c.region_words-first.ensures)
    (subst (λ (marks : List Bool). IsMarked c.args.self.now.config.region_words marks c.args.self.now.addresses.items) (sym c.deref_mut.ensures.value)
    (∥∥₁_elim c.args.self.now.all_found (IsMarked-prop c.args.self.now.config.region_words c.args.self.now.marks.items c.args.self.now.addresses.items) (λ x. x)))
