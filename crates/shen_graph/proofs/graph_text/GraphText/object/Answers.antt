use Rattle.std.proofs.Common.{◌<◌, ◌≤◌, vec_len, vec_capacity, arith, rules}
use Rattle.std.proofs.lemmas.Grind.{common_steps}
use Rattle.shen_graph.proofs.TextLemmas.{IsLaid-push}
use Rattle.shen_graph.proofs.graph_text.GraphText.object.Goals as goal

pub invariant_of-self : goal.invariant_of-self
invariant_of-self c =
    let room = c.self.invariant in
    let spare : 3 ≤ c.self.inside.spare = search rules in
    let fits : vec_len c.self.inside.places < vec_capacity c.self.inside.places = omega (arith, room.words, room.places) in
    record {
      laid = grind (arith, common_steps, IsLaid-push);
      words = grind arith;
      roots = room.roots;
      pins = room.pins;
      alike = room.alike;
      places = omega (arith, room.places, c.push.ensures.capacity);
      references = room.references;
      numbers = room.numbers;
      moved_references = room.moved_references;
      moved_numbers = room.moved_numbers;
    }
