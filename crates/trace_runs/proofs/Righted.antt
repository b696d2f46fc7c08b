-- What a replay writes with its history is judged right.
use Rattle.std.proofs.Common.{◌≡◌, ℕ, ◌≤◌, List, ◌++◌, length, codes, refl, sym, ap, subst, ◌∙◌}
use Rattle.std.proofs.lemmas.List.FromFn.{length-map-range_with_len}
use Rattle.shen_graph.specs.Graph.{opening}
use Rattle.shen_graph.specs.History.{EachIsLegal}
use Rattle.trace_reading.specs.Grammar.{most_bytes, commands_in}
use Rattle.trace_text.specs.Answer.{IsAnswerText}
use Rattle.trace_text.specs.History.{history_text}
use Rattle.trace_text.specs.Message.{line_text}
use Rattle.trace_text.specs.declared.message.Line.TheVariants as line
use Rattle.trace_text.specs.Pairs.{IsPair}
use Rattle.trace_text.proofs.MadePairs.{made_pair}
use Rattle.shen_check.specs.declared.verdict.Verdict.TheVariants.{Yes}
use Rattle.trace_runs.specs.Replayed.{history_of, IsReplayedNoted}
use Rattle.trace_runs.specs.Checked.{IsChecked}

pub noted_is_right : (bytes : List ℕ) (limit : ℕ) (output : List ℕ) → IsReplayedNoted bytes limit output → length (bytes ++ (codes "answer\n" ++ output)) ≤ most_bytes → IsChecked (bytes ++ (codes "answer\n" ++ output)) (line_text line.Yes)
noted_is_right bytes limit output replayed_noted text_short =
    let config = replayed_noted.config in
    let entries = history_of config replayed_noted.scripts replayed_noted.items limit in
    let count : length replayed_noted.scripts ≡ config.mutators = ap length replayed_noted.reads.by_thread ∙ length-map-range_with_len (commands_in replayed_noted.reads.lines) 1 config.mutators in
    let each_legal : EachIsLegal config.regions config.region_words (opening config.mutators) entries = subst (λ (n : ℕ). EachIsLegal config.regions config.region_words (opening n) entries) count replayed_noted.whole.legal.each in
    let answer_behind : codes "answer\n" ++ output ≡ codes "answer\n" ++ (replayed_noted.answer ++ history_text entries) = ap (λ (given_text : List ℕ). codes "answer\n" ++ given_text) replayed_noted.out_is in
    let pair : IsPair (bytes ++ (codes "answer\n" ++ (replayed_noted.answer ++ history_text entries))) replayed_noted.version config replayed_noted.scripts replayed_noted.items replayed_noted.answer entries =
    made_pair bytes replayed_noted.answer replayed_noted.version config replayed_noted.scripts replayed_noted.items entries replayed_noted.reads each_legal replayed_noted.whole.follows replayed_noted.text (subst (λ (given_text : List ℕ). length (bytes ++ given_text) ≤ most_bytes) answer_behind text_short) in
    record {
      version = replayed_noted.version;
      config = config;
      scripts = replayed_noted.scripts;
      items = replayed_noted.items;
      body = replayed_noted.answer;
      entries = entries;
      pair = subst (λ (given_text : List ℕ). IsPair (bytes ++ given_text) replayed_noted.version config replayed_noted.scripts replayed_noted.items replayed_noted.answer entries) (sym answer_behind) pair;
      verdict = Yes;
      is = record { legal = replayed_noted.whole.legal; follows = replayed_noted.whole.follows; text = subst (λ (threads : ℕ). IsAnswerText replayed_noted.version threads entries replayed_noted.answer) (sym count) replayed_noted.text };
      text = refl;
    }
