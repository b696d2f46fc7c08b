use Rattle.std.proofs.Common.{◌≡◌, ◌-◌, length, Some, sym, ap, ◌∙◌, arith}
use Rattle.std.specs.Prelude.{slice_index_or}
use Rattle.std.proofs.lemmas.Option.{slice_get-get_or}
use Rattle.heap_tests.proofs.shared_heap.open_alone.Goals as goal

pub returns-clause-fresh : goal.returns-clause-fresh
returns-clause-fresh c =
    let bundle = c.in-Some.bundle in
    let bundles = c.in_ok-heap.bundles.items in
    let one_bundle : length bundles ≡ 1 = c.in_ok-heap.ensures.count in
    let one_counted : c.in_ok-heap.bundles.len ≡ 1 = c.in_ok-heap.bundles.ok.0 ∙ one_bundle in
    let bundle_there = slice_get-get_or bundles 0 bundle (omega (arith, one_bundle)) ∙ ap (λ place. Some (slice_index_or bundles place bundle)) (sym (ap (λ count. count - 1) one_counted)) ∙ sym (c.pop.ensures.value bundle (omega (arith, one_counted))) ∙ c.in-Some.is in
    c.in_ok-heap.ensures.bundles 0 bundle bundle_there
