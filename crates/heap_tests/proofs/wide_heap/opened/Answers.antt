use Rattle.std.proofs.Common.{◌≡◌, ◌-◌, ℕ, zero, suc, ◌<◌, [], ◌∷◌, ◌++◌, List, length, Option, Some, refl, sym, ap, subst, ◌∙◌, arith}
use Rattle.std.specs.Prelude.{All, slice_index_or}
use Rattle.std.proofs.lemmas.Option.{slice_get-get_or}
use Rattle.shen_graph.specs.declared.command.Command.{Command}
use Rattle.shen_graph.specs.Valid.{IsValid, most_objects}
use Rattle.shen_graph.specs.Work.{Progress, HasScript, begun, progress_of, opened}
use Rattle.table_heap.proofs.Starting.{fresh_can_start}
use Rattle.heap_tests.proofs.wide_heap.opened.Goals as goal

pub returns-clause-heap : goal.returns-clause-heap
returns-clause-heap c =
    let bundle = c.in-Some.bundle in
    let bundles = c.in_ok-heap.bundles.items in
    let one_bundle : length bundles ≡ 1 = c.in_ok-heap.ensures.count in
    let bundle_count : c.in_ok-heap.bundles.len ≡ 1 = c.in_ok-heap.bundles.ok.0 ∙ one_bundle in
    let bundle_there = slice_get-get_or bundles 0 bundle (omega (arith, one_bundle)) ∙ ap (λ place. Some (slice_index_or bundles place bundle)) (sym (ap (λ count. count - 1) bundle_count)) ∙ sym (c.pop.ensures.value bundle (omega (arith, bundle_count))) ∙ c.in-Some.is in
    (c.in_ok-heap.ensures.bundles 0 bundle bundle_there).of

-- a script that a mutator can be given
abbrev CanBeRun : List Command → Type 0
CanBeRun script = All IsValid script × (length script < most_objects)

-- each of two mutators has its script
script_of : (work : List (Option Progress)) (first_script second_script : List Command) → work ≡ opened (first_script ∷ second_script ∷ []) → CanBeRun first_script → CanBeRun second_script → (number : ℕ) → number < 2
    → (script : List Command) × (progress_of work number ≡ Some (begun script)) × All IsValid script × (length script < most_objects)
script_of work first_script second_script work_opened first_runs also zero number_below = (first_script, ap (λ any_work. progress_of any_work 0) work_opened, first_runs.0, first_runs.1)
script_of work first_script second_script work_opened first_runs also (suc zero) number_below = (second_script, ap (λ any_work. progress_of any_work 1) work_opened, also.0, also.1)
script_of work first_script second_script work_opened first_runs also (suc (suc k)) number_below = absurd (omega (arith, number_below))

pub returns-clause-start : goal.returns-clause-start
returns-clause-start c =
    let bundle = c.in-Some.bundle in
    let bundles = c.in_ok-heap.bundles.items in
    let one_bundle : length bundles ≡ 1 = c.in_ok-heap.ensures.count in
    let bundle_count : c.in_ok-heap.bundles.len ≡ 1 = c.in_ok-heap.bundles.ok.0 ∙ one_bundle in
    let bundle_there = slice_get-get_or bundles 0 bundle (omega (arith, one_bundle)) ∙ ap (λ place. Some (slice_index_or bundles place bundle)) (sym (ap (λ count. count - 1) bundle_count)) ∙ sym (c.pop.ensures.value bundle (omega (arith, bundle_count))) ∙ c.in-Some.is in
    let first_script = c.in_ok-script.field-0 in
    let second_script = c.in_ok-script-2.field-0 in
    let jobs : c.in_ok-work.work ≡ opened (first_script ∷ second_script ∷ []) =
    c.in_ok-work.ensures ∙ ap opened (c.deref.ensures.value ∙ c.in_ok-push-2.ensures.items ∙ ap (λ script_list. script_list ++ second_script ∷ []) (c.in_ok-push.ensures.items ∙ ap (λ script_list. script_list ++ first_script ∷ []) c.new-scripts.ensures.items)) in
    fresh_can_start c.in_ok-heap.heap bundle c.in_ok-config.config 1 0 c.in_ok-work.work (c.in_ok-heap.ensures.bundles 0 bundle bundle_there) (λ number number_below dealt.
    script_of c.in_ok-work.work first_script second_script jobs (c.in_ok-script.ensures.valid, c.in_ok-script.ensures.few) (c.in_ok-script-2.ensures.valid, c.in_ok-script-2.ensures.few) number (omega (arith, number_below, c.in_ok-config.ensures.mutators)))

pub returns-clause-scripts : goal.returns-clause-scripts
returns-clause-scripts c =
    let first_script = c.in_ok-script.field-0 in
    let second_script = c.in_ok-script-2.field-0 in
    let jobs : c.in_ok-work.work ≡ opened (first_script ∷ second_script ∷ []) =
    c.in_ok-work.ensures ∙ ap opened (c.deref.ensures.value ∙ c.in_ok-push-2.ensures.items ∙ ap (λ script_list. script_list ++ second_script ∷ []) (c.in_ok-push.ensures.items ∙ ap (λ script_list. script_list ++ first_script ∷ []) c.new-scripts.ensures.items)) in
    subst (λ work. HasScript work 0 × HasScript work 1) (sym jobs) (refl, refl)
