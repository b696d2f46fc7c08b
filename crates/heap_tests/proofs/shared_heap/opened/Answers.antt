use Rattle.std.proofs.Common.{◌≡◌, [], ◌∷◌, ◌++◌, refl, ap, ◌∙◌, arith}
use Rattle.shen_graph.specs.Work.{progress_of, opened}
use Rattle.table_heap.proofs.Starting.{fresh_can_start}
use Rattle.heap_tests.proofs.SharedHeap.{fresh_can_call}
use Rattle.heap_tests.proofs.shared_heap.opened.Goals as goal

pub returns-clause-heap : goal.returns-clause-heap
returns-clause-heap c = c.in_ok-heap.ensures.fresh.of

pub returns-clause-start : goal.returns-clause-start
returns-clause-start c =
    let bundle = c.in_ok-heap.bundle in
    let script = c.in_ok-script.field-0 in
    let jobs : c.in_ok-work.work ≡ opened (script ∷ []) =
    c.in_ok-work.ensures ∙ ap opened (c.deref.ensures.value ∙ c.in_ok-push.ensures.items ∙ ap (λ script_list. script_list ++ script ∷ []) c.new-scripts.ensures.items) in
    fresh_can_start c.in_ok-heap.heap bundle c.in_ok-config.config 1 0 c.in_ok-work.work c.in_ok-heap.ensures.fresh (λ number number_below dealt.
    let first_number : number ≡ 0 = omega (arith, number_below, c.in_ok-config.ensures.mutators) in
    (script, ap (λ thread. progress_of c.in_ok-work.work thread) first_number ∙ ap (λ work. progress_of work 0) jobs, c.in_ok-script.ensures.valid, c.in_ok-script.ensures.few))

pub returns-clause-call : goal.returns-clause-call
returns-clause-call c =
    let can_call = fresh_can_call c.in_ok-config.config c.in_ok-heap.heap c.in_ok-heap.bundle 1 0 0 c.in_ok-heap.ensures.fresh (omega (arith, c.in_ok-config.ensures.mutators)) refl in
    (can_call.has, can_call.rest, can_call.made)
