use Rattle.std.proofs.lemmas.Bool.{leb-true}
use Rattle.std.proofs.Common.{◌≡◌, ℕ, ◌-◌, ◌<◌, ◌≤◌, ◌∷◌, [], ◌++◌, List, length, true, slice_set, sym, ap, ◌∙◌, arith}
use Rattle.std.specs.Result.{is_ok}
use Rattle.std.proofs.lemmas.List.{get_or_read}
use Rattle.shen_graph.specs.declared.command.Command.{Command}
use Rattle.trace_reading.specs.Grammar.{with_line}
use Rattle.trace_text.specs.LinesTaken.{Taken, spelled_line}
use Rattle.trace_text.proofs.LineKinds.{command_read, read_some, read_is, set_past, on_ok}
use Rattle.trace_text.proofs.lines.TraceLines.take_command.Goals as goal

pub unwrap-thread-requires : goal.unwrap-thread-requires
unwrap-thread-requires c =
    let line_given = c.requires.line in
    let same_mutators : c.self.inside.config.mutators ≡ c.args.self.now.config.mutators = ap (λ (taken : Taken). taken.config.mutators) c.self.view_is in
    let version : c.self.inside.version ≡ c.args.self.now.version = ap (λ (taken : Taken). taken.version) c.self.view_is in
    let threads : c.mutators-threads.result ≡ c.args.self.now.config.mutators = let threads_told = c.mutators-threads.ensures in cc in
    let read = c.command_in.ensures ∙ ap (λ (threads : ℕ). spelled_line c.self.inside.version threads c.args.line.now) threads ∙ ap (λ (version : ℕ). spelled_line version c.args.self.now.config.mutators c.args.line.now) version
    ∙ command_read c.args.self.now.version c.args.self.now.config c.args.line.now line_given in
    read_some c.command_in.result line_given.0 read

pub overflow_sub-script : goal.overflow_sub-script
overflow_sub-script c =
    let line_given = c.requires.line in
    let same_mutators : c.self.inside.config.mutators ≡ c.args.self.now.config.mutators = ap (λ (taken : Taken). taken.config.mutators) c.self.view_is in
    let version : c.self.inside.version ≡ c.args.self.now.version = ap (λ (taken : Taken). taken.version) c.self.view_is in
    let threads : c.mutators-threads.result ≡ c.args.self.now.config.mutators = let threads_told = c.mutators-threads.ensures in cc in
    let read = c.command_in.ensures ∙ ap (λ (threads : ℕ). spelled_line c.self.inside.version threads c.args.line.now) threads ∙ ap (λ (version : ℕ). spelled_line version c.args.self.now.config.mutators c.args.line.now) version
    ∙ command_read c.args.self.now.version c.args.self.now.config c.args.line.now line_given in
    let same_line = read_is c.command_in.result c.unwrap-thread.result line_given.0 c.unwrap-thread.ensures read in
    omega (arith, ap (λ trace_line. trace_line.thread) same_line, line_given.1.from_one)

pub returns-then-script-len-clause-taken : goal.returns-then-script-len-clause-taken
returns-then-script-len-clause-taken c = λ past_scripts.
    let line_given = c.requires.line in
    let same_mutators : c.self.inside.config.mutators ≡ c.args.self.now.config.mutators = ap (λ (taken : Taken). taken.config.mutators) c.self.view_is in
    let version : c.self.inside.version ≡ c.args.self.now.version = ap (λ (taken : Taken). taken.version) c.self.view_is in
    let threads : c.mutators-threads.result ≡ c.args.self.now.config.mutators = let threads_told = c.mutators-threads.ensures in cc in
    let read = c.command_in.ensures ∙ ap (λ (threads : ℕ). spelled_line c.self.inside.version threads c.args.line.now) threads ∙ ap (λ (version : ℕ). spelled_line version c.args.self.now.config.mutators c.args.line.now) version
    ∙ command_read c.args.self.now.version c.args.self.now.config c.args.line.now line_given in
    let same_line = read_is c.command_in.result c.unwrap-thread.result line_given.0 c.unwrap-thread.ensures read in
    let scripts : c.self.inside.scripts.items ≡ c.args.self.now.scripts = ap (λ (taken : Taken). taken.scripts) c.self.view_is in
    let behind_scripts : length c.args.self.now.scripts ≤ line_given.0.thread - 1 = omega (arith, leb-true c.len.result (c.unwrap-thread.result.0 - 1) past_scripts, c.len.ensures, ap length scripts, ap (λ trace_line. trace_line.thread) same_line) in
    (line_given.0, c.requires.before, line_given.1, line_given.2, ap (λ (some_scripts : List (List Command)). record c.args.self.now { scripts = some_scripts }) (sym (set_past c.args.self.now.scripts (line_given.0.thread - 1) _ behind_scripts)))

pub returns-else-script-len-clause-taken : goal.returns-else-script-len-clause-taken
returns-else-script-len-clause-taken c = λ within_scripts.
    let line_given = c.requires.line in
    let same_mutators : c.self.inside.config.mutators ≡ c.args.self.now.config.mutators = ap (λ (taken : Taken). taken.config.mutators) c.self.view_is in
    let version : c.self.inside.version ≡ c.args.self.now.version = ap (λ (taken : Taken). taken.version) c.self.view_is in
    let threads : c.mutators-threads.result ≡ c.args.self.now.config.mutators = let threads_told = c.mutators-threads.ensures in cc in
    let read = c.command_in.ensures ∙ ap (λ (threads : ℕ). spelled_line c.self.inside.version threads c.args.line.now) threads ∙ ap (λ (version : ℕ). spelled_line version c.args.self.now.config.mutators c.args.line.now) version
    ∙ command_read c.args.self.now.version c.args.self.now.config c.args.line.now line_given in
    let same_line = read_is c.command_in.result c.unwrap-thread.result line_given.0 c.unwrap-thread.ensures read in
    let items = c.self.inside.scripts.items in
    let script_index = c.unwrap-thread.result.0 - 1 in
    let low : script_index < length items = omega (arith, c.if-script-len.false, c.len.ensures) in
    let push_succeeds : is_ok c.push.result ≡ true = sym c.is_ok.ensures.value ∙ within_scripts in
    let added = on_ok c.push.result push_succeeds c.push.ensures.added in
    let before = get_or_read items _ _ low c.index_mut.ensures.value [] in
    let made = ap (slice_set items script_index) (added ∙ ap (λ (script : List Command). script ++ c.unwrap-thread.result.1 ∷ []) before) ∙ ap (with_line items) same_line in (
      line_given.0,
      c.requires.before,
      line_given.1,
      line_given.2,
      ap (λ (some_scripts : List (List Command)). record { version = c.self.inside.version; config = c.self.inside.config; scripts = some_scripts; items = c.self.inside.schedule; scheduled = c.self.inside.scheduled }) made
          ∙ ap (λ (taken : Taken). record taken { scripts = with_line taken.scripts line_given.0 }) c.self.view_is,
    )
