use Rattle.std.proofs.Common.{◌≡◌, ℕ, ◌+◌, ◌<◌, ◌≤◌, List, [], length, get_or, take, Option, Some, None, sym, ap, ◌∙◌, subst, inl, inr, arith}
use Rattle.std.proofs.lemmas.Bool.{cases_eq, cases_lt}
use Rattle.std.proofs.lemmas.List.{take_all, length-set, length-take-le, get_or-take, get_or-set_same, get_or-set_other}
use Rattle.std.proofs.lemmas.Option.{slice_get-get_or, slice_get_past}
use Rattle.std.specs.Prelude.{slice_get, slice_set, option_map}
use Rattle.std.proofs.lemmas.List.FromFn.{fill_by_all}
use Rattle.shen_graph.specs.declared.command.Command.{Command}
use Rattle.shen_graph.specs.Work.{Progress, begun}
use Rattle.shen_graph.proofs.work.Work.open.Goals as goal

-- the script at a place among the first ones
among : (scripts : List (List Command)) (taken index : ℕ) (script : List Command) → index < taken → taken ≤ length scripts → slice_get (take taken scripts) index ≡ Some (get_or scripts index script)
among scripts taken index script index_below within = slice_get-get_or (take taken scripts) index script (omega (arith, length-take-le taken scripts within)) ∙ ap Some (get_or-take taken scripts index script index_below)

behind : (scripts : List (List Command)) (taken index : ℕ) → taken ≤ index → taken ≤ length scripts → slice_get (take taken scripts) index ≡ None
behind scripts taken index past_taken within = slice_get_past (take taken scripts) index (omega (arith, length-take-le taken scripts within))

-- at another place one script more changes nothing
same_among : (scripts : List (List Command)) (taken index : ℕ) → taken + 1 ≤ length scripts → (index ≡ taken → ⊥) → slice_get (take taken scripts) index ≡ slice_get (take (taken + 1) scripts) index
same_among scripts taken index within index_differs =
    elim (cases_lt index taken) [
      | inl index_below ↦ among scripts taken index [] index_below (omega arith) ∙ sym (among scripts (taken + 1) index [] (omega arith) within)
      | inr past_taken ↦ behind scripts taken index past_taken (omega arith) ∙ sym (behind scripts (taken + 1) index (omega (arith, index_differs)) within)
    ]

-- a script more is in its place
opened_more : (scripts : List (List Command)) (script : List Command) (jobs : List (Option Progress)) (index other_index : ℕ) (job : Progress) → index + 1 ≤ length scripts → index < length jobs → script ≡ get_or scripts index script → job ≡ begun script →
    get_or jobs other_index None ≡ option_map begun (slice_get (take index scripts) other_index) → get_or (slice_set jobs index (Some job)) other_index None ≡ option_map begun (slice_get (take (index + 1) scripts) other_index)
opened_more scripts script jobs index other_index job within inside read made before =
    elim (cases_eq other_index index) [
      | inl same_index ↦ subst (λ other_index. get_or (slice_set jobs index (Some job)) other_index None ≡ option_map begun (slice_get (take (index + 1) scripts) other_index)) (sym same_index)
          (get_or-set_same jobs index (Some job) None inside ∙ ap Some (made ∙ ap begun read) ∙ sym (ap (option_map begun) (among scripts (index + 1) index script (omega arith) within)))
      | inr index_differs ↦ get_or-set_other jobs index other_index (Some job) None index_differs ∙ before ∙ ap (option_map begun) (same_among scripts index other_index within index_differs)
    ]

pub loop-mutator-preserved : goal.loop-mutator-preserved
loop-mutator-preserved c =
    let inv = c.loop-mutator.invariant in
    let within : c.loop-mutator.mutator + 1 ≤ length c.args.scripts.now = omega arith in
    let inside : c.loop-mutator.mutator < length c.loop-mutator.jobs = omega (arith, inv.0, c.requires) in (
      rw length-set inv.0,
      λ job_index small. opened_more c.args.scripts.now c.index-scripts-mutator.result c.loop-mutator.jobs c.loop-mutator.mutator job_index c.in_ok-open.field-0 within inside c.index-scripts-mutator.is (c.in_ok-open.ensures ∙ ap begun c.list.ensures) (inv.1 job_index small),
    )

pub returns : goal.returns
returns c =
    fill_by_all (λ job_index. option_map begun (slice_get c.args.scripts.now job_index)) c.loop-mutator.jobs 8 None c.loop-mutator.invariant.0
    (λ index index_below. c.loop-mutator.invariant.1 index index_below ∙ ap (λ scripts. option_map begun (slice_get scripts index)) (take_all _ _ c.loop-mutator-test.false))
