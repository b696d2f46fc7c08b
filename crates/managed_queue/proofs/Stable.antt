-- What a user knows stays while another makes a step.
use Rattle.std.proofs.Common.{ℕ, ◌≤◌, true, false, arith}
use Rattle.shen_graph.specs.Graph.{Reference}
use Rattle.managed_queue.specs.declared.spot.Spot.{Spot}
use Rattle.managed_queue.specs.declared.spot.Spot.TheVariants.{MakesAnchor, MakesFirst, SetsHead, SetsTail, Shows, Joins, Rests, Fills, Looks, Follows, Links, Helps, Swings, Turns, TookHead, TookTail, Compares, Pushes, Reads, Unlinks}
use Rattle.managed_queue.proofs.Facts.{Objects, Chain, IsOwn, IsAt, IsEdge, IsPair, Facts, Rely}

pub own_stays : (thread : ℕ) (object : Objects) (chain : Chain) (new_object : Objects) (new_chain : Chain) (reference : Reference) (value : ℕ) → Rely thread object chain new_object new_chain → IsOwn thread object chain reference value → IsOwn thread new_object new_chain reference value
own_stays thread object chain new_object new_chain reference value rely is_own = record {
  name = is_own.name;
  is = is_own.is;
  mine = is_own.mine;
  apart = rely.apart is_own.name value is_own.mine is_own.apart is_own.whole;
  whole = rely.own is_own.name value is_own.mine is_own.apart is_own.whole;
}

abbrev pub at_stays : (thread : ℕ) (object : Objects) (chain : Chain) (new_object : Objects) (new_chain : Chain) (reference : Reference) (bound new_bound : ℕ) → Rely thread object chain new_object new_chain → bound ≤ new_bound → IsAt chain reference bound → IsAt new_chain reference new_bound
at_stays thread object chain new_object new_chain reference bound new_bound rely at_most is_at = record {
  name = is_at.name;
  index = is_at.index;
  is = is_at.is;
  at = rely.places is_at.name is_at.index is_at.at;
  low = omega (arith, at_most, is_at.low);
}

abbrev pub edge_stays : (thread : ℕ) (object : Objects) (chain : Chain) (new_object : Objects) (new_chain : Chain) (reference other_reference : Reference) → Rely thread object chain new_object new_chain → IsEdge object chain reference other_reference → IsEdge new_object new_chain reference other_reference
edge_stays thread object chain new_object new_chain reference other_reference rely edge = record {
  from = edge.from;
  to = edge.to;
  index = edge.index;
  value = edge.value;
  from_is = edge.from_is;
  to_is = edge.to_is;
  at = rely.places edge.from edge.index edge.at;
  next_at = rely.places edge.to _ edge.next_at;
  whole = rely.inner edge.from edge.to edge.index edge.value edge.at edge.whole;
}

pub pair_stays : (thread : ℕ) (object : Objects) (chain : Chain) (new_object : Objects) (new_chain : Chain) (reference other_reference : Reference) → Rely thread object chain new_object new_chain → IsPair chain reference other_reference → IsPair new_chain reference other_reference
pair_stays thread object chain new_object new_chain reference other_reference rely pair = record {
  front = at_stays thread object chain new_object new_chain reference chain.head new_chain.head rely rely.heads pair.front;
  back = at_stays thread object chain new_object new_chain other_reference chain.tail new_chain.tail rely rely.tails pair.back;
  order = pair.order;
}

pub facts_stay : (thread : ℕ) (object : Objects) (chain : Chain) (new_object : Objects) (new_chain : Chain) (root : ℕ → Reference) (spot : Spot) → Rely thread object chain new_object new_chain → Facts thread object chain root spot → Facts thread new_object new_chain root spot
facts_stay thread object chain new_object new_chain root MakesAnchor rely facts = facts
facts_stay thread object chain new_object new_chain root MakesFirst rely facts = facts
facts_stay thread object chain new_object new_chain root SetsHead rely facts = facts
facts_stay thread object chain new_object new_chain root SetsTail rely facts = facts
facts_stay thread object chain new_object new_chain root Shows rely facts = facts
facts_stay thread object chain new_object new_chain root Joins rely facts = facts
facts_stay thread object chain new_object new_chain root Rests rely facts = facts
facts_stay thread object chain new_object new_chain root Turns rely facts = facts
facts_stay thread object chain new_object new_chain root Fills rely facts = (facts.0, facts.1, own_stays thread object chain new_object new_chain (root 3) facts.1 rely facts.2)
facts_stay thread object chain new_object new_chain root (Looks value) rely facts = (facts.0, own_stays thread object chain new_object new_chain (root 3) value rely facts.1)
facts_stay thread object chain new_object new_chain root (Follows value) rely facts =
    (facts.0, own_stays thread object chain new_object new_chain (root 3) value rely facts.1, at_stays thread object chain new_object new_chain (root 4) chain.tail new_chain.tail rely rely.tails facts.2)
facts_stay thread object chain new_object new_chain root (Links value) rely facts =
    (facts.0, own_stays thread object chain new_object new_chain (root 3) value rely facts.1, at_stays thread object chain new_object new_chain (root 4) chain.tail new_chain.tail rely rely.tails facts.2)
facts_stay thread object chain new_object new_chain root (Helps value) rely facts =
    (facts.0, own_stays thread object chain new_object new_chain (root 3) value rely facts.1, edge_stays thread object chain new_object new_chain (root 4) (root 5) rely facts.2)
facts_stay thread object chain new_object new_chain root (Swings value) rely facts = (facts.0, edge_stays thread object chain new_object new_chain (root 4) (root 3) rely facts.1)
facts_stay thread object chain new_object new_chain root TookHead rely facts = (facts.0, at_stays thread object chain new_object new_chain (root 4) chain.head new_chain.head rely rely.heads facts.1)
facts_stay thread object chain new_object new_chain root TookTail rely facts = (facts.0, pair_stays thread object chain new_object new_chain (root 4) (root 5) rely facts.1)
facts_stay thread object chain new_object new_chain root (Compares true) rely facts = facts
facts_stay thread object chain new_object new_chain root (Compares false) rely facts =
    (facts.0, pair_stays thread object chain new_object new_chain (root 4) (root 5) rely facts.1, edge_stays thread object chain new_object new_chain (root 4) (root 6) rely facts.2)
facts_stay thread object chain new_object new_chain root Pushes rely facts = (facts.0, edge_stays thread object chain new_object new_chain (root 5) (root 6) rely facts.1)
facts_stay thread object chain new_object new_chain root Reads rely facts =
    let tails = rely.tails in
    let place_low = facts.2 in
    (facts.0, edge_stays thread object chain new_object new_chain (root 4) (root 6) rely facts.1, omega (arith, tails, place_low))
facts_stay thread object chain new_object new_chain root (Unlinks value) rely facts =
    let tails = rely.tails in
    let place_low = facts.2 in
    (facts.0, edge_stays thread object chain new_object new_chain (root 4) (root 6) rely facts.1, omega (arith, tails, place_low), rely.numbers _ value facts.3)
