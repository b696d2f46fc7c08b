use Rattle.std.proofs.Common.{◌≡◌, ℕ, ◌+◌, Bool, true, false, List, take, Some, sym, ap, ◌∙◌}
use Rattle.std.specs.Prelude.{count_by, slice_get}
use Rattle.std.proofs.lemmas.Option.{slice_get_within, get_or_from_slice_get}
use Rattle.std.proofs.lemmas.List.Sums.{count_by_more_yes, count_by_more_no}
use Rattle.shen_graph.specs.History.{Entry}
use Rattle.shen_graph.specs.Noting.{seen}
use Rattle.heap_dump.specs.ObjectsMade.{has_made}
use Rattle.heap_dump.proofs.making.objects_made.Goals as goal
use Rattle.heap_dump.proofs.making.objects_made.Goals.{then-has_made, else-has_made}

more_yes : (test : Entry → Bool) (entries : List Entry) (index : ℕ) (entry : Entry) → slice_get entries index ≡ Some entry → test entry ≡ true → count_by test (take (index + 1) entries) ≡ count_by test (take index entries) + 1
more_yes test entries index entry entry_there test_met = count_by_more_yes test entries index entry (slice_get_within entries index entry entry_there) (ap test (get_or_from_slice_get entries index entry entry entry_there) ∙ test_met)

more_no : (test : Entry → Bool) (entries : List Entry) (index : ℕ) (entry : Entry) → slice_get entries index ≡ Some entry → test entry ≡ false → count_by test (take (index + 1) entries) ≡ count_by test (take index entries)
more_no test entries index entry entry_there test_unmet = count_by_more_no test entries index entry (slice_get_within entries index entry entry_there) (ap test (get_or_from_slice_get entries index entry entry entry_there) ∙ test_unmet)

pub loop-at-preserved : goal.loop-at-preserved
loop-at-preserved c =
    let made_here = has_made c.args.thread in
    let entries = c.args.history.now.list in
    let position = c.loop-at.at in
    let seen_entry = seen c.entry-entry.result in
    elim c.if-has_made.branch [
      | then-has_made w ↦ w.made-is ∙ ap (λ count. count + 1) c.loop-at.invariant ∙ sym (more_yes made_here entries position seen_entry c.entry-entry.ensures (sym c.has_made.ensures ∙ w.if-has_made.true))
      | else-has_made w ↦ w.made-is ∙ c.loop-at.invariant ∙ sym (more_no made_here entries position seen_entry c.entry-entry.ensures (sym c.has_made.ensures ∙ w.if-has_made.false))
    ]
