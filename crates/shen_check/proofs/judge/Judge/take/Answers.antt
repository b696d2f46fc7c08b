use Rattle.std.proofs.Common.{ℕ, List, ◌≡◌, ◌-◌, ◌≤◌, ◌∷◌, [], ◌++◌, Option, take, length, sym, ap, subst, arith, ◌∙◌}
use Rattle.std.proofs.lemmas.Option.{same_Some, slice_get_within}
use Rattle.shen_graph.specs.Noting.{seen}
use Rattle.shen_graph.specs.History.{Entry, of_thread}
use Rattle.shen_graph.specs.PlainGraph.{graph_of}
use Rattle.shen_graph.specs.Work.{Progress, script_in, replies_of, with_reply}
use Rattle.shen_graph.specs.Valid.{most_objects}
use Rattle.shen_check.specs.Judged.{MayFollow}
use Rattle.shen_check.specs.JudgeState.{HasJudged, HasPinsOf}
use Rattle.shen_check.proofs.Taking.{one_more, one_longer, next_of_thread, no_next, may_answer, may_follow, next_valid, count_few}
use Rattle.shen_check.proofs.judge.Judge.take.Goals as goal

pub returns-then-not-is_next : goal.returns-then-not-is_next
returns-then-not-is_next c = λ given_entry entry_there follow.
    let scripts = c.args.trace.now.scripts in
    let entries_before = take c.args.at c.args.history.now.list in
    let entry = seen c.entry-entry.result in
    let same_entry : given_entry ≡ entry = same_Some given_entry entry (sym entry_there ∙ c.entry-entry.ensures) in
    no_next c.args.trace.now.config scripts entries_before c.args.self.now.graph c.args.self.now.work entry c.mutators.result c.requires.judged (c.requires.count ∙ sym c.mutators.ensures)
    c.if-not-is_next.ensures (subst (MayFollow c.args.trace.now.config scripts entries_before) same_entry follow)

pub may_answer-requires-clause-valid : goal.may_answer-requires-clause-valid
may_answer-requires-clause-valid c =
    let scripts = c.args.trace.now.scripts in
    let entries_before = take c.args.at c.args.history.now.list in
    let thread = c.entry-entry.result.thread in
    let entry_next = c.if-not-is_next.ensures in
    let thread_in_scripts : thread ≤ length scripts = omega (arith, entry_next.1, c.mutators.ensures, c.requires.count) in
    next_valid scripts thread (length (of_thread entries_before thread)) c.entry-entry.result.command c.requires.valid entry_next.0 thread_in_scripts
    (sym (next_of_thread scripts entries_before c.args.self.now.graph c.args.self.now.work c.requires.judged thread entry_next.0 thread_in_scripts) ∙ entry_next.2)

pub may_answer-requires-clause-count : goal.may_answer-requires-clause-count
may_answer-requires-clause-count c =
    let scripts = c.args.trace.now.scripts in
    let entries_before = take c.args.at c.args.history.now.list in
    let thread = c.entry-entry.result.thread in
    let entry_next = c.if-not-is_next.ensures in
    let thread_in_scripts : thread ≤ length scripts = omega (arith, entry_next.1, c.mutators.ensures, c.requires.count) in
    count_few scripts entries_before c.args.self.now.graph c.args.self.now.work most_objects thread c.entry-entry.result.command c.requires.judged c.requires.few entry_next.0 thread_in_scripts
    (sym (next_of_thread scripts entries_before c.args.self.now.graph c.args.self.now.work c.requires.judged thread entry_next.0 thread_in_scripts) ∙ entry_next.2)

pub may_answer-requires-clause-pins : goal.may_answer-requires-clause-pins
may_answer-requires-clause-pins c = subst (λ (n : ℕ). HasPinsOf n (graph_of c.args.self.now.graph)) c.requires.count c.requires.judged.pins

pub returns-then-not-branch : goal.returns-then-not-branch
returns-then-not-branch c = λ given_entry entry_there follow.
    let scripts = c.args.trace.now.scripts in
    let entries_before = take c.args.at c.args.history.now.list in
    let entry = seen c.entry-entry.result in
    let same_entry : given_entry ≡ entry = same_Some given_entry entry (sym entry_there ∙ c.entry-entry.ensures) in
    let never = rw c.if-not-branch.true at c.in_ok-may_answer.ensures.answer in
    never (may_answer c.args.trace.now.config scripts entries_before c.args.self.now.graph c.args.self.now.work entry c.requires.judged c.requires.count
    (subst (MayFollow c.args.trace.now.config scripts entries_before) same_entry follow))

pub told-requires-clause-more : goal.told-requires-clause-more
told-requires-clause-more c =
    let work = c.args.self.now.work in
    let mutator = c.entry-entry.result.thread - 1 in
    let entry_next = c.if-not-is_next.ensures in
    rw c.in_ok-may_answer.ensures.work (slice_get_within (script_in work mutator) (length (replies_of work mutator)) c.entry-entry.result.command entry_next.2)

pub returns : goal.returns
returns c = λ given_entry entry_there.
    let config = c.args.trace.now.config in
    let scripts = c.args.trace.now.scripts in
    let entries_before = take c.args.at c.args.history.now.list in
    let graph = c.args.self.now.graph in
    let work = c.args.self.now.work in
    let entry = seen c.entry-entry.result in
    let same_entry : given_entry ≡ entry = same_Some given_entry entry (sym entry_there ∙ c.entry-entry.ensures) in
    let entry_next = c.if-not-is_next.ensures in
    let thread_in_scripts : entry.thread ≤ length scripts = omega (arith, entry_next.1, c.mutators.ensures, c.requires.count) in
    let allowed = rw c.if-not-branch.false at c.in_ok-may_answer.ensures.answer in
    let command_next = sym (next_of_thread scripts entries_before graph work c.requires.judged entry.thread entry_next.0 thread_in_scripts) ∙ entry_next.2 in
    let work_told = c.told.ensures ∙ ap (λ (given_work : List (Option Progress)). with_reply given_work (entry.thread - 1) entry.reply) c.in_ok-may_answer.ensures.work in
    let command_valid = next_valid scripts entry.thread (length (of_thread entries_before entry.thread)) entry.command c.requires.valid entry_next.0 thread_in_scripts command_next in
    let judged_more = one_more scripts entries_before graph c.may_answer.new.self.graph work entry c.requires.judged entry_next.0 thread_in_scripts command_valid c.in_ok-may_answer.ensures.threads allowed.1 in (
      subst (MayFollow config scripts entries_before) (sym same_entry) (may_follow config scripts entries_before graph work entry c.requires.judged c.requires.count command_next allowed.0),
      subst (λ (given_entries : List Entry). HasJudged scripts given_entries c.may_answer.new.self.graph c.told.new.self) (sym (one_longer c.args.history.now.list c.args.at entry c.entry-entry.ensures))
          (subst (λ (given_work : List (Option Progress)). HasJudged scripts (entries_before ++ entry ∷ []) c.may_answer.new.self.graph given_work) (sym work_told) judged_more),
    )
