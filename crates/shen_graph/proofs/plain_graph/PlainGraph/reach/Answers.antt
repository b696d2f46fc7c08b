use Rattle.std.proofs.Common.{◌<◌, ◌≤◌, [], map, length, arith, subst}
use Rattle.std.specs.List.{flat_map}
use Rattle.shen_graph.specs.Step.{name_in}
use Rattle.std.proofs.lemmas.Grind.{common_steps}
use Rattle.std.proofs.lemmas.List.{map-id}
use Rattle.std.proofs.lemmas.List.Sorted.{Contains-permutation, IsPermutation-sym}
use Rattle.shen_graph.specs.declared.name.Name.{Name}
use Rattle.shen_graph.specs.Reach.{InOrder}
use Rattle.shen_graph.proofs.OrderLemmas.{InOrder-from_sorted, IsDistinct-permutation}
use Rattle.shen_graph.proofs.ReachLemmas.{names_of, with_names-append, held_in_slots, IsSearched-starts, IsSearched-more, IsSearched-bound, IsSearched-all}
use Rattle.shen_graph.proofs.plain_graph.PlainGraph.reach.Goals as goal

pub loop-next-init : goal.loop-next-init
loop-next-init c =
    let graph = c.args.self.now in
    rw (c.in_ok-add_pins.ensures, c.in_ok-add_roots.ensures, c.new-found.ensures.items, with_names-append [] (flat_map (λ row. row) graph.roots) (map name_in (held_in_slots graph))) (IsSearched-starts graph)

pub loop-next-smaller : goal.loop-next-smaller
loop-next-smaller c =
    let bound : length c.loop-next.found.items ≤ length (names_of c.args.self.now) = IsSearched-bound c.args.self.now c.loop-next.found.items c.loop-next.next c.loop-next.invariant in
    let next_below : c.loop-next.next < length c.loop-next.found.items = grind (arith, common_steps) in
    omega arith

pub loop-next-preserved : goal.loop-next-preserved
loop-next-preserved c =
    rw c.in_ok-add_fields.ensures (IsSearched-more c.args.self.now c.loop-next.found.items c.loop-next.next c.index-name.result.now c.loop-next.invariant (grind (arith, common_steps)) c.index-name.ensures)

pub returns : goal.returns
returns c =
    let loop_invariant = c.loop-next.invariant in
    let all_visited : length c.loop-next.found.items ≤ c.loop-next.next = grind (arith, common_steps) in
    let found = c.loop-next.found.items in
    let sorted = c.sort_unstable.new.self.items in
    record {
      in_order = subst InOrder (map-id sorted) (InOrder-from_sorted (λ (name : Name). name) sorted c.sort_unstable.ensures.sorted (rw map-id (IsDistinct-permutation found sorted c.sort_unstable.ensures.permutation loop_invariant.distinct)));
      all = λ name reached. Contains-permutation found sorted name c.sort_unstable.ensures.permutation (IsSearched-all c.args.self.now found c.loop-next.next loop_invariant all_visited name reached);
      only = λ found_name name_found. loop_invariant.reached found_name (Contains-permutation sorted found found_name (IsPermutation-sym found sorted c.sort_unstable.ensures.permutation) name_found);
    }
