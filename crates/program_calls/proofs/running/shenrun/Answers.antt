use Rattle.std.proofs.Common.{ℕ, List, map, refl, subst}
use Rattle.std.specs.String.{string_bytes}
use Rattle.trace_text.specs.Message.{line_text}
use Rattle.trace_text.specs.declared.message.Line.TheVariants as line
use Rattle.shen_base.specs.Sending.{outlet}
use Rattle.trace_runs.specs.declared.mode.Mode.TheVariants.{Replay, Noted, Dump, Resume, Run, Churn, Queue}
use Rattle.trace_runs.specs.declared.status.Status.TheVariants.{BadWords}
use Rattle.trace_runs.specs.Words.{Asks}
use Rattle.trace_runs.specs.Answered.{Input, Output, StatusFits}
use Rattle.trace_runs.proofs.CallEnds.{said, answered}
use Rattle.trace_runs.proofs.Complete.{complete, made}
use Rattle.program_calls.proofs.running.shenrun.Goals as goal

pub returns-in-Replay-clause-headline : goal.returns-in-Replay-clause-headline
returns-in-Replay-clause-headline g c =
    let words : List (List ℕ) = map string_bytes c.args.words.now in
    let input : Input = record { before = g.S.Source.left c.args.source.now; after = g.S.Source.left c.replay.new.source; faults_before = g.S.Source.faults c.args.source.now; faults_after = g.S.Source.faults c.replay.new.source } in
    let output : Output = record {
      before = outlet (g.K.Sink.written c.args.sink.now) (g.K.Sink.faults c.args.sink.now) (g.K.Sink.calls c.args.sink.now);
      after = outlet (g.K.Sink.written c.replay.new.sink) (g.K.Sink.faults c.replay.new.sink) (g.K.Sink.calls c.replay.new.sink);
    } in
    let fits : StatusFits words input output c.replay.result = c.replay.ensures words (subst (Asks words) c.in-Replay.is c.in-Some.ensures) in
    answered words input output c.replay.result fits

pub returns-in-Replay-clause-answered : goal.returns-in-Replay-clause-answered
returns-in-Replay-clause-answered g c =
    let words : List (List ℕ) = map string_bytes c.args.words.now in
    let input : Input = record { before = g.S.Source.left c.args.source.now; after = g.S.Source.left c.replay.new.source; faults_before = g.S.Source.faults c.args.source.now; faults_after = g.S.Source.faults c.replay.new.source } in
    let output : Output = record {
      before = outlet (g.K.Sink.written c.args.sink.now) (g.K.Sink.faults c.args.sink.now) (g.K.Sink.calls c.args.sink.now);
      after = outlet (g.K.Sink.written c.replay.new.sink) (g.K.Sink.faults c.replay.new.sink) (g.K.Sink.calls c.replay.new.sink);
    } in
    let fits : StatusFits words input output c.replay.result = c.replay.ensures words (subst (Asks words) c.in-Replay.is c.in-Some.ensures) in
    fits

pub returns-in-Replay-clause-complete : goal.returns-in-Replay-clause-complete
returns-in-Replay-clause-complete g c =
    let words : List (List ℕ) = map string_bytes c.args.words.now in
    let input : Input = record { before = g.S.Source.left c.args.source.now; after = g.S.Source.left c.replay.new.source; faults_before = g.S.Source.faults c.args.source.now; faults_after = g.S.Source.faults c.replay.new.source } in
    let output : Output = record {
      before = outlet (g.K.Sink.written c.args.sink.now) (g.K.Sink.faults c.args.sink.now) (g.K.Sink.calls c.args.sink.now);
      after = outlet (g.K.Sink.written c.replay.new.sink) (g.K.Sink.faults c.replay.new.sink) (g.K.Sink.calls c.replay.new.sink);
    } in
    let fits : StatusFits words input output c.replay.result = c.replay.ensures words (subst (Asks words) c.in-Replay.is c.in-Some.ensures) in
    complete words input output c.replay.result fits

pub returns-in-Noted-clause-headline : goal.returns-in-Noted-clause-headline
returns-in-Noted-clause-headline g c =
    let words : List (List ℕ) = map string_bytes c.args.words.now in
    let input : Input = record { before = g.S.Source.left c.args.source.now; after = g.S.Source.left c.replay_noted.new.source; faults_before = g.S.Source.faults c.args.source.now; faults_after = g.S.Source.faults c.replay_noted.new.source } in
    let output : Output = record {
      before = outlet (g.K.Sink.written c.args.sink.now) (g.K.Sink.faults c.args.sink.now) (g.K.Sink.calls c.args.sink.now);
      after = outlet (g.K.Sink.written c.replay_noted.new.sink) (g.K.Sink.faults c.replay_noted.new.sink) (g.K.Sink.calls c.replay_noted.new.sink);
    } in
    let fits : StatusFits words input output c.replay_noted.result = c.replay_noted.ensures words (subst (Asks words) c.in-Noted.is c.in-Some.ensures) in
    answered words input output c.replay_noted.result fits

pub returns-in-Noted-clause-answered : goal.returns-in-Noted-clause-answered
returns-in-Noted-clause-answered g c =
    let words : List (List ℕ) = map string_bytes c.args.words.now in
    let input : Input = record { before = g.S.Source.left c.args.source.now; after = g.S.Source.left c.replay_noted.new.source; faults_before = g.S.Source.faults c.args.source.now; faults_after = g.S.Source.faults c.replay_noted.new.source } in
    let output : Output = record {
      before = outlet (g.K.Sink.written c.args.sink.now) (g.K.Sink.faults c.args.sink.now) (g.K.Sink.calls c.args.sink.now);
      after = outlet (g.K.Sink.written c.replay_noted.new.sink) (g.K.Sink.faults c.replay_noted.new.sink) (g.K.Sink.calls c.replay_noted.new.sink);
    } in
    let fits : StatusFits words input output c.replay_noted.result = c.replay_noted.ensures words (subst (Asks words) c.in-Noted.is c.in-Some.ensures) in
    fits

pub returns-in-Noted-clause-complete : goal.returns-in-Noted-clause-complete
returns-in-Noted-clause-complete g c =
    let words : List (List ℕ) = map string_bytes c.args.words.now in
    let input : Input = record { before = g.S.Source.left c.args.source.now; after = g.S.Source.left c.replay_noted.new.source; faults_before = g.S.Source.faults c.args.source.now; faults_after = g.S.Source.faults c.replay_noted.new.source } in
    let output : Output = record {
      before = outlet (g.K.Sink.written c.args.sink.now) (g.K.Sink.faults c.args.sink.now) (g.K.Sink.calls c.args.sink.now);
      after = outlet (g.K.Sink.written c.replay_noted.new.sink) (g.K.Sink.faults c.replay_noted.new.sink) (g.K.Sink.calls c.replay_noted.new.sink);
    } in
    let fits : StatusFits words input output c.replay_noted.result = c.replay_noted.ensures words (subst (Asks words) c.in-Noted.is c.in-Some.ensures) in
    complete words input output c.replay_noted.result fits

pub returns-in-Dump-clause-headline : goal.returns-in-Dump-clause-headline
returns-in-Dump-clause-headline g c =
    let words : List (List ℕ) = map string_bytes c.args.words.now in
    let input : Input = record { before = g.S.Source.left c.args.source.now; after = g.S.Source.left c.replay_to_dump.new.source; faults_before = g.S.Source.faults c.args.source.now; faults_after = g.S.Source.faults c.replay_to_dump.new.source } in
    let output : Output = record {
      before = outlet (g.K.Sink.written c.args.sink.now) (g.K.Sink.faults c.args.sink.now) (g.K.Sink.calls c.args.sink.now);
      after = outlet (g.K.Sink.written c.replay_to_dump.new.sink) (g.K.Sink.faults c.replay_to_dump.new.sink) (g.K.Sink.calls c.replay_to_dump.new.sink);
    } in
    let fits : StatusFits words input output c.replay_to_dump.result = c.replay_to_dump.ensures words (subst (Asks words) c.in-Dump.is c.in-Some.ensures) in
    answered words input output c.replay_to_dump.result fits

pub returns-in-Dump-clause-answered : goal.returns-in-Dump-clause-answered
returns-in-Dump-clause-answered g c =
    let words : List (List ℕ) = map string_bytes c.args.words.now in
    let input : Input = record { before = g.S.Source.left c.args.source.now; after = g.S.Source.left c.replay_to_dump.new.source; faults_before = g.S.Source.faults c.args.source.now; faults_after = g.S.Source.faults c.replay_to_dump.new.source } in
    let output : Output = record {
      before = outlet (g.K.Sink.written c.args.sink.now) (g.K.Sink.faults c.args.sink.now) (g.K.Sink.calls c.args.sink.now);
      after = outlet (g.K.Sink.written c.replay_to_dump.new.sink) (g.K.Sink.faults c.replay_to_dump.new.sink) (g.K.Sink.calls c.replay_to_dump.new.sink);
    } in
    let fits : StatusFits words input output c.replay_to_dump.result = c.replay_to_dump.ensures words (subst (Asks words) c.in-Dump.is c.in-Some.ensures) in
    fits

pub returns-in-Dump-clause-complete : goal.returns-in-Dump-clause-complete
returns-in-Dump-clause-complete g c =
    let words : List (List ℕ) = map string_bytes c.args.words.now in
    let input : Input = record { before = g.S.Source.left c.args.source.now; after = g.S.Source.left c.replay_to_dump.new.source; faults_before = g.S.Source.faults c.args.source.now; faults_after = g.S.Source.faults c.replay_to_dump.new.source } in
    let output : Output = record {
      before = outlet (g.K.Sink.written c.args.sink.now) (g.K.Sink.faults c.args.sink.now) (g.K.Sink.calls c.args.sink.now);
      after = outlet (g.K.Sink.written c.replay_to_dump.new.sink) (g.K.Sink.faults c.replay_to_dump.new.sink) (g.K.Sink.calls c.replay_to_dump.new.sink);
    } in
    let fits : StatusFits words input output c.replay_to_dump.result = c.replay_to_dump.ensures words (subst (Asks words) c.in-Dump.is c.in-Some.ensures) in
    complete words input output c.replay_to_dump.result fits

pub returns-in-Resume-clause-headline : goal.returns-in-Resume-clause-headline
returns-in-Resume-clause-headline g c =
    let words : List (List ℕ) = map string_bytes c.args.words.now in
    let input : Input = record { before = g.S.Source.left c.args.source.now; after = g.S.Source.left c.resume.new.source; faults_before = g.S.Source.faults c.args.source.now; faults_after = g.S.Source.faults c.resume.new.source } in
    let output : Output = record {
      before = outlet (g.K.Sink.written c.args.sink.now) (g.K.Sink.faults c.args.sink.now) (g.K.Sink.calls c.args.sink.now);
      after = outlet (g.K.Sink.written c.resume.new.sink) (g.K.Sink.faults c.resume.new.sink) (g.K.Sink.calls c.resume.new.sink);
    } in
    let fits : StatusFits words input output c.resume.result = c.resume.ensures words (subst (Asks words) c.in-Resume.is c.in-Some.ensures) in
    answered words input output c.resume.result fits

pub returns-in-Resume-clause-answered : goal.returns-in-Resume-clause-answered
returns-in-Resume-clause-answered g c =
    let words : List (List ℕ) = map string_bytes c.args.words.now in
    let input : Input = record { before = g.S.Source.left c.args.source.now; after = g.S.Source.left c.resume.new.source; faults_before = g.S.Source.faults c.args.source.now; faults_after = g.S.Source.faults c.resume.new.source } in
    let output : Output = record {
      before = outlet (g.K.Sink.written c.args.sink.now) (g.K.Sink.faults c.args.sink.now) (g.K.Sink.calls c.args.sink.now);
      after = outlet (g.K.Sink.written c.resume.new.sink) (g.K.Sink.faults c.resume.new.sink) (g.K.Sink.calls c.resume.new.sink);
    } in
    let fits : StatusFits words input output c.resume.result = c.resume.ensures words (subst (Asks words) c.in-Resume.is c.in-Some.ensures) in
    fits

pub returns-in-Resume-clause-complete : goal.returns-in-Resume-clause-complete
returns-in-Resume-clause-complete g c =
    let words : List (List ℕ) = map string_bytes c.args.words.now in
    let input : Input = record { before = g.S.Source.left c.args.source.now; after = g.S.Source.left c.resume.new.source; faults_before = g.S.Source.faults c.args.source.now; faults_after = g.S.Source.faults c.resume.new.source } in
    let output : Output = record {
      before = outlet (g.K.Sink.written c.args.sink.now) (g.K.Sink.faults c.args.sink.now) (g.K.Sink.calls c.args.sink.now);
      after = outlet (g.K.Sink.written c.resume.new.sink) (g.K.Sink.faults c.resume.new.sink) (g.K.Sink.calls c.resume.new.sink);
    } in
    let fits : StatusFits words input output c.resume.result = c.resume.ensures words (subst (Asks words) c.in-Resume.is c.in-Some.ensures) in
    complete words input output c.resume.result fits

pub returns-in-Run-clause-headline : goal.returns-in-Run-clause-headline
returns-in-Run-clause-headline g c =
    let words : List (List ℕ) = map string_bytes c.args.words.now in
    let input : Input = record { before = g.S.Source.left c.args.source.now; after = g.S.Source.left c.run.new.source; faults_before = g.S.Source.faults c.args.source.now; faults_after = g.S.Source.faults c.run.new.source } in
    let output : Output = record {
      before = outlet (g.K.Sink.written c.args.sink.now) (g.K.Sink.faults c.args.sink.now) (g.K.Sink.calls c.args.sink.now);
      after = outlet (g.K.Sink.written c.run.new.sink) (g.K.Sink.faults c.run.new.sink) (g.K.Sink.calls c.run.new.sink);
    } in
    let fits : StatusFits words input output c.run.result = c.run.ensures words (subst (Asks words) c.in-Run.is c.in-Some.ensures) in
    answered words input output c.run.result fits

pub returns-in-Run-clause-answered : goal.returns-in-Run-clause-answered
returns-in-Run-clause-answered g c =
    let words : List (List ℕ) = map string_bytes c.args.words.now in
    let input : Input = record { before = g.S.Source.left c.args.source.now; after = g.S.Source.left c.run.new.source; faults_before = g.S.Source.faults c.args.source.now; faults_after = g.S.Source.faults c.run.new.source } in
    let output : Output = record {
      before = outlet (g.K.Sink.written c.args.sink.now) (g.K.Sink.faults c.args.sink.now) (g.K.Sink.calls c.args.sink.now);
      after = outlet (g.K.Sink.written c.run.new.sink) (g.K.Sink.faults c.run.new.sink) (g.K.Sink.calls c.run.new.sink);
    } in
    let fits : StatusFits words input output c.run.result = c.run.ensures words (subst (Asks words) c.in-Run.is c.in-Some.ensures) in
    fits

pub returns-in-Run-clause-complete : goal.returns-in-Run-clause-complete
returns-in-Run-clause-complete g c =
    let words : List (List ℕ) = map string_bytes c.args.words.now in
    let input : Input = record { before = g.S.Source.left c.args.source.now; after = g.S.Source.left c.run.new.source; faults_before = g.S.Source.faults c.args.source.now; faults_after = g.S.Source.faults c.run.new.source } in
    let output : Output = record {
      before = outlet (g.K.Sink.written c.args.sink.now) (g.K.Sink.faults c.args.sink.now) (g.K.Sink.calls c.args.sink.now);
      after = outlet (g.K.Sink.written c.run.new.sink) (g.K.Sink.faults c.run.new.sink) (g.K.Sink.calls c.run.new.sink);
    } in
    let fits : StatusFits words input output c.run.result = c.run.ensures words (subst (Asks words) c.in-Run.is c.in-Some.ensures) in
    complete words input output c.run.result fits

pub returns-in-Churn-clause-headline : goal.returns-in-Churn-clause-headline
returns-in-Churn-clause-headline g c =
    let words : List (List ℕ) = map string_bytes c.args.words.now in
    let input : Input = record { before = g.S.Source.left c.args.source.now; after = g.S.Source.left c.args.source.now; faults_before = g.S.Source.faults c.args.source.now; faults_after = g.S.Source.faults c.args.source.now } in
    let output : Output = record {
      before = outlet (g.K.Sink.written c.args.sink.now) (g.K.Sink.faults c.args.sink.now) (g.K.Sink.calls c.args.sink.now);
      after = outlet (g.K.Sink.written c.churn.new.sink) (g.K.Sink.faults c.churn.new.sink) (g.K.Sink.calls c.churn.new.sink);
    } in
    let fits : StatusFits words input output c.churn.result = c.churn.ensures words input (subst (Asks words) c.in-Churn.is c.in-Some.ensures) in
    answered words input output c.churn.result fits

pub returns-in-Churn-clause-answered : goal.returns-in-Churn-clause-answered
returns-in-Churn-clause-answered g c =
    let words : List (List ℕ) = map string_bytes c.args.words.now in
    let input : Input = record { before = g.S.Source.left c.args.source.now; after = g.S.Source.left c.args.source.now; faults_before = g.S.Source.faults c.args.source.now; faults_after = g.S.Source.faults c.args.source.now } in
    let output : Output = record {
      before = outlet (g.K.Sink.written c.args.sink.now) (g.K.Sink.faults c.args.sink.now) (g.K.Sink.calls c.args.sink.now);
      after = outlet (g.K.Sink.written c.churn.new.sink) (g.K.Sink.faults c.churn.new.sink) (g.K.Sink.calls c.churn.new.sink);
    } in
    let fits : StatusFits words input output c.churn.result = c.churn.ensures words input (subst (Asks words) c.in-Churn.is c.in-Some.ensures) in
    fits

pub returns-in-Churn-clause-made : goal.returns-in-Churn-clause-made
returns-in-Churn-clause-made g c =
    let words : List (List ℕ) = map string_bytes c.args.words.now in
    let input : Input = record { before = g.S.Source.left c.args.source.now; after = g.S.Source.left c.args.source.now; faults_before = g.S.Source.faults c.args.source.now; faults_after = g.S.Source.faults c.args.source.now } in
    let output : Output = record {
      before = outlet (g.K.Sink.written c.args.sink.now) (g.K.Sink.faults c.args.sink.now) (g.K.Sink.calls c.args.sink.now);
      after = outlet (g.K.Sink.written c.churn.new.sink) (g.K.Sink.faults c.churn.new.sink) (g.K.Sink.calls c.churn.new.sink);
    } in
    let fits : StatusFits words input output c.churn.result = c.churn.ensures words input (subst (Asks words) c.in-Churn.is c.in-Some.ensures) in
    made words input output c.churn.result fits

pub returns-in-Check-clause-headline : goal.returns-in-Check-clause-headline
returns-in-Check-clause-headline g c =
    let words : List (List ℕ) = map string_bytes c.args.words.now in
    let input : Input = record { before = g.S.Source.left c.args.source.now; after = g.S.Source.left c.check.new.source; faults_before = g.S.Source.faults c.args.source.now; faults_after = g.S.Source.faults c.check.new.source } in
    let output : Output = record {
      before = outlet (g.K.Sink.written c.args.sink.now) (g.K.Sink.faults c.args.sink.now) (g.K.Sink.calls c.args.sink.now);
      after = outlet (g.K.Sink.written c.check.new.sink) (g.K.Sink.faults c.check.new.sink) (g.K.Sink.calls c.check.new.sink);
    } in
    let fits : StatusFits words input output c.check.result = c.check.ensures words (subst (Asks words) c.in-Check.is c.in-Some.ensures) in
    answered words input output c.check.result fits

pub returns-in-Check-clause-answered : goal.returns-in-Check-clause-answered
returns-in-Check-clause-answered g c =
    let words : List (List ℕ) = map string_bytes c.args.words.now in
    let input : Input = record { before = g.S.Source.left c.args.source.now; after = g.S.Source.left c.check.new.source; faults_before = g.S.Source.faults c.args.source.now; faults_after = g.S.Source.faults c.check.new.source } in
    let output : Output = record {
      before = outlet (g.K.Sink.written c.args.sink.now) (g.K.Sink.faults c.args.sink.now) (g.K.Sink.calls c.args.sink.now);
      after = outlet (g.K.Sink.written c.check.new.sink) (g.K.Sink.faults c.check.new.sink) (g.K.Sink.calls c.check.new.sink);
    } in
    let fits : StatusFits words input output c.check.result = c.check.ensures words (subst (Asks words) c.in-Check.is c.in-Some.ensures) in
    fits

pub returns-in-Check-clause-complete : goal.returns-in-Check-clause-complete
returns-in-Check-clause-complete g c =
    let words : List (List ℕ) = map string_bytes c.args.words.now in
    let input : Input = record { before = g.S.Source.left c.args.source.now; after = g.S.Source.left c.check.new.source; faults_before = g.S.Source.faults c.args.source.now; faults_after = g.S.Source.faults c.check.new.source } in
    let output : Output = record {
      before = outlet (g.K.Sink.written c.args.sink.now) (g.K.Sink.faults c.args.sink.now) (g.K.Sink.calls c.args.sink.now);
      after = outlet (g.K.Sink.written c.check.new.sink) (g.K.Sink.faults c.check.new.sink) (g.K.Sink.calls c.check.new.sink);
    } in
    let fits : StatusFits words input output c.check.result = c.check.ensures words (subst (Asks words) c.in-Check.is c.in-Some.ensures) in
    complete words input output c.check.result fits

pub returns-in-Queue-clause-headline : goal.returns-in-Queue-clause-headline
returns-in-Queue-clause-headline g c =
    let words : List (List ℕ) = map string_bytes c.args.words.now in
    let input : Input = record { before = g.S.Source.left c.args.source.now; after = g.S.Source.left c.args.source.now; faults_before = g.S.Source.faults c.args.source.now; faults_after = g.S.Source.faults c.args.source.now } in
    let output : Output = record {
      before = outlet (g.K.Sink.written c.args.sink.now) (g.K.Sink.faults c.args.sink.now) (g.K.Sink.calls c.args.sink.now);
      after = outlet (g.K.Sink.written c.queue.new.sink) (g.K.Sink.faults c.queue.new.sink) (g.K.Sink.calls c.queue.new.sink);
    } in
    let fits : StatusFits words input output c.queue.result = c.queue.ensures words input (subst (Asks words) c.in-Queue.is c.in-Some.ensures) in
    answered words input output c.queue.result fits

pub returns-in-Queue-clause-answered : goal.returns-in-Queue-clause-answered
returns-in-Queue-clause-answered g c =
    let words : List (List ℕ) = map string_bytes c.args.words.now in
    let input : Input = record { before = g.S.Source.left c.args.source.now; after = g.S.Source.left c.args.source.now; faults_before = g.S.Source.faults c.args.source.now; faults_after = g.S.Source.faults c.args.source.now } in
    let output : Output = record {
      before = outlet (g.K.Sink.written c.args.sink.now) (g.K.Sink.faults c.args.sink.now) (g.K.Sink.calls c.args.sink.now);
      after = outlet (g.K.Sink.written c.queue.new.sink) (g.K.Sink.faults c.queue.new.sink) (g.K.Sink.calls c.queue.new.sink);
    } in
    let fits : StatusFits words input output c.queue.result = c.queue.ensures words input (subst (Asks words) c.in-Queue.is c.in-Some.ensures) in
    fits

pub returns-in-Queue-clause-made : goal.returns-in-Queue-clause-made
returns-in-Queue-clause-made g c =
    let words : List (List ℕ) = map string_bytes c.args.words.now in
    let input : Input = record { before = g.S.Source.left c.args.source.now; after = g.S.Source.left c.args.source.now; faults_before = g.S.Source.faults c.args.source.now; faults_after = g.S.Source.faults c.args.source.now } in
    let output : Output = record {
      before = outlet (g.K.Sink.written c.args.sink.now) (g.K.Sink.faults c.args.sink.now) (g.K.Sink.calls c.args.sink.now);
      after = outlet (g.K.Sink.written c.queue.new.sink) (g.K.Sink.faults c.queue.new.sink) (g.K.Sink.calls c.queue.new.sink);
    } in
    let fits : StatusFits words input output c.queue.result = c.queue.ensures words input (subst (Asks words) c.in-Queue.is c.in-Some.ensures) in
    made words input output c.queue.result fits

pub returns-in_default-clause-answered : goal.returns-in_default-clause-answered
returns-in_default-clause-answered g c =
    let words : List (List ℕ) = map string_bytes c.args.words.now in
    said words _ _ (line_text line.BadWords) BadWords c.say.result (c.in_default.ensures, refl) c.say.ensures
