use Rattle.std.proofs.Common.{◌≡◌, ◌-◌, length, Some, refl, sym, ap, ◌∙◌, arith}
use Rattle.std.specs.Prelude.{slice_index_or}
use Rattle.std.proofs.lemmas.Option.{slice_get-get_or}
use Rattle.heap_tests.proofs.FirstScenes.{is_playing}
use Rattle.heap_tests.proofs.shared.Shared.open.Goals as goal

pub returns : goal.returns
returns c =
    let bundle = c.in-Some.bundle in
    let bundles = c.in_ok-heap.bundles.items in
    let one_bundle : length bundles ≡ 1 = c.in_ok-heap.ensures.count in
    let one_counted : c.in_ok-heap.bundles.len ≡ 1 = c.in_ok-heap.bundles.ok.0 ∙ one_bundle in
    let bundle_there = slice_get-get_or bundles 0 bundle (omega (arith, one_bundle)) ∙ ap (λ place. Some (slice_index_or bundles place bundle)) (sym (ap (λ counted. counted - 1) one_counted)) ∙ sym (c.pop.ensures.value bundle (omega (arith, one_counted))) ∙ c.in-Some.is in
    let count = c.in_ok-scripts.scripts.ok.0 in
    is_playing c.in_ok-heap.heap bundle c.in_ok-config.config c.in_ok-scripts.scripts.items c.in_ok-work.work _ (c.in_ok-heap.ensures.bundles 0 bundle bundle_there) c.in_ok-heap.ensures.config
    (c.in_ok-config.ensures.mutators ∙ c.len-mutators.ensures ∙ count) c.in_ok-scripts.ensures.count c.in_ok-scripts.ensures.runnable c.in_ok-work.ensures refl
