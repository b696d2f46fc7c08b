use Rattle.std.proofs.Common.{ℕ, Bool, List, length, sym, ap, subst, arith}
use Rattle.heap_words.proofs.Bounds.{end_small}
use Rattle.heap_world.specs.Walk.{IsMarked}
use Rattle.image_graph.proofs.image.Image.find.Goals as goal

pub take_down-requires-clause-marked : goal.take_down-requires-clause-marked
take_down-requires-clause-marked c =
    subst (λ (n : ℕ). IsMarked n c.deref_mut.result.now c.args.self.now.addresses.items) (sym c.region_words-first.ensures)
    (subst (λ (marks : List Bool). IsMarked c.args.self.now.config.region_words marks c.args.self.now.addresses.items) (sym c.deref_mut.ensures.value) c.requires.found)

pub take_down-requires-clause-among : goal.take_down-requires-clause-among
take_down-requires-clause-among c = λ some_word.
    let is_inside = c.requires.inside some_word in
    (omega (arith, is_inside.0, c.region_words-first.ensures), omega (arith, is_inside.1, c.region_words-first.ensures, ap length c.deref_mut.ensures.value, c.args.self.now.all_marks))

pub take_down-requires-clause-room : goal.take_down-requires-clause-room
take_down-requires-clause-room c = omega (arith, ap length c.deref_mut.ensures.value, c.args.self.now.all_marks, c.args.self.now.enough_addresses)

pub take_down-requires-clause-small : goal.take_down-requires-clause-small
take_down-requires-clause-small c =
    omega (arith, c.region_words-first.ensures, ap length c.deref_mut.ensures.value, c.args.self.now.all_marks, end_small c.args.self.now.config)
