use Rattle.std.proofs.Common.{◌≡◌, ℕ, ◌<◌, ◌≤◌, ◌+◌, List, [], ◌∷◌, ◌++◌, length, get_or, take, Option, Some, None, refl, sym, ap, ◌∙◌, subst, inl, inr, arith}
use Rattle.std.specs.Prelude.{slice_get, slice_set, option_map}
use Rattle.std.proofs.lemmas.Grind.{common_steps}
use Rattle.std.proofs.lemmas.List.{length-set, length-append, length-take, take_at, take-take, get_or_at, get_or-take, get_or-set_same, get_or-set_other}
use Rattle.std.proofs.lemmas.Option.{slice_get_read}
use Rattle.std.proofs.lemmas.Bool.{cases_eq}
use Rattle.std.proofs.lemmas.List.FromFn.{fill_by_all}
use Rattle.shen_graph.specs.declared.command.Command.{Command}
use Rattle.shen_graph.specs.Work.{Progress, begun}
use Rattle.shen_graph.proofs.work.Work.of.Goals as goal

longer : (old new : List (List Command)) (script : List Command) → old ≡ new ++ script ∷ [] → length old ≡ length new + 1
longer old new script split = omega (arith, ap length split, length-append new (script ∷ []))

-- the last script is taken
kept : (all_scripts old new : List (List Command)) (script : List Command) → old ≡ take (length old) all_scripts → old ≡ new ++ script ∷ [] → new ≡ take (length new) all_scripts
kept all_scripts old new script old_prefix split =
    let fewer : length new ≤ length old = omega (arith, longer old new script split) in
    sym (take_at new (script ∷ []) (length new) refl) ∙ ap (take (length new)) (sym split ∙ old_prefix) ∙ take-take (length new) (length old) all_scripts fewer

-- it was the last of those that were left
last : (all_scripts old new : List (List Command)) (script : List Command) → old ≡ take (length old) all_scripts → old ≡ new ++ script ∷ [] → slice_get all_scripts (length new) ≡ Some script
last all_scripts old new script old_prefix split =
    let index : ℕ = length new in
    let index_below : index < length old = omega (arith, longer old new script split) in
    let within : length old ≤ length all_scripts = omega (arith, ap length old_prefix, length-take (length old) all_scripts) in
    slice_get_read all_scripts (length all_scripts) index script refl (omega arith)
    (sym (get_or_at new script [] script index refl) ∙ ap (λ list. get_or list index script) (sym split ∙ old_prefix) ∙ get_or-take (length old) all_scripts index script index_below)

-- and put into its place
moved_on : (all_scripts old new : List (List Command)) (script : List Command) (jobs : List (Option Progress)) (index other_index : ℕ) (job : Progress) → index ≡ length new → index < length jobs → job ≡ begun script →
    old ≡ take (length old) all_scripts → old ≡ new ++ script ∷ [] → (length old ≤ other_index → get_or jobs other_index None ≡ option_map begun (slice_get all_scripts other_index)) → length new ≤ other_index →
    get_or (slice_set jobs index (Some job)) other_index None ≡ option_map begun (slice_get all_scripts other_index)
moved_on all_scripts old new script jobs index other_index job popped_index within made old_prefix split moved past_new =
    elim (cases_eq other_index index) [
      | inl same_index ↦ subst (λ other_index. get_or (slice_set jobs index (Some job)) other_index None ≡ option_map begun (slice_get all_scripts other_index)) (sym same_index)
          (get_or-set_same jobs index (Some job) None within ∙ ap Some made ∙ sym (ap (λ index. option_map begun (slice_get all_scripts index)) popped_index ∙ ap (option_map begun) (last all_scripts old new script old_prefix split)))
      | inr index_differs ↦ get_or-set_other jobs index other_index (Some job) None index_differs ∙ moved (omega (arith, longer old new script split))
    ]

pub loop-script-smaller-in_ok-of : goal.loop-script-smaller-in_ok-of
loop-script-smaller-in_ok-of c = omega (arith, c.in-Some.ensures.len)

pub loop-script-preserved-in_ok-of : goal.loop-script-preserved-in_ok-of
loop-script-preserved-in_ok-of c =
    let inv = c.loop-script.invariant in
    let popped_length : c.len-mutator.result ≡ length c.pop.new.self.items = omega arith in
    let within : c.len-mutator.result < length c.loop-script.jobs = omega (arith, inv.few, inv.places, c.in-Some.ensures.len) in
    record {
      places = rw length-set inv.places;
      few = omega (arith, inv.few, c.in-Some.ensures.len);
      left = kept c.args.scripts.items c.loop-script.scripts.items c.pop.new.self.items c.in-Some.script inv.left c.in-Some.ensures.items;
      moved = λ job_index small past_new. moved_on c.args.scripts.items c.loop-script.scripts.items c.pop.new.self.items c.in-Some.script c.loop-script.jobs c.len-mutator.result job_index c.in_ok-of.field-0 popped_length within c.in_ok-of.ensures inv.left c.in-Some.ensures.items (inv.moved job_index small) past_new;
    }

pub loop-script-smaller : goal.loop-script-smaller
loop-script-smaller c = omega (arith, c.in-Some.ensures.len)

pub loop-script-preserved : goal.loop-script-preserved
loop-script-preserved c =
    let inv = c.loop-script.invariant in
    let popped_length : c.len-mutator.result ≡ length c.pop.new.self.items = omega arith in
    let within : c.len-mutator.result < length c.loop-script.jobs = omega (arith, inv.few, inv.places, c.in-Some.ensures.len) in
    record {
      places = rw length-set inv.places;
      few = omega (arith, inv.few, c.in-Some.ensures.len);
      left = kept c.args.scripts.items c.loop-script.scripts.items c.pop.new.self.items c.in-Some.script inv.left c.in-Some.ensures.items;
      moved = λ job_index small past_new. moved_on c.args.scripts.items c.loop-script.scripts.items c.pop.new.self.items c.in-Some.script c.loop-script.jobs c.len-mutator.result job_index c.in_ok-of.field-0 popped_length within c.in_ok-of.ensures inv.left c.in-Some.ensures.items (inv.moved job_index small) past_new;
    }

pub invariant_of-result : goal.invariant_of-result
invariant_of-result c = c.loop-script.invariant.places

pub returns : goal.returns
returns c =
    let no_scripts : length c.loop-script.scripts.items ≤ 0 = grind (arith, common_steps) in
    fill_by_all (λ index. option_map begun (slice_get c.args.scripts.items index)) c.loop-script.jobs 8 None c.loop-script.invariant.places
    (λ index index_below. c.loop-script.invariant.moved index index_below (omega arith))
