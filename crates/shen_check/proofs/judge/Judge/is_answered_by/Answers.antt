use Rattle.std.proofs.Common.{◌-◌, length, sym, subst, ap, refl, arith}
use Rattle.shen_graph.specs.GraphText.{root_of, pin_of, IsTextOf}
use Rattle.shen_graph.specs.PlainGraph.{graph_of}
use Rattle.shen_graph.specs.Work.{replies_of}
use Rattle.trace_text.specs.Answer.{answer_text}
use Rattle.shen_check.proofs.Texts.{answered, map_ok}
use Rattle.shen_check.proofs.Full.{live_once}
use Rattle.shen_check.proofs.judge.Judge.is_answered_by.Goals as goal

pub write-requires-clause-room : goal.write-requires-clause-room
write-requires-clause-room c = λ words live.
    let live_same = live_once (graph_of c.args.self.graph) words c.in_ok-words.words live c.in_ok-words.ensures in
    omega (arith, live_same, ap (λ text. text.room) c.in_ok-graph.ensures)

pub returns : goal.returns
returns c = λ scripts before count judged.
    let text = c.write.new.text in
    let work = c.args.self.work in
    let shows = subst (λ threads. IsTextOf (graph_of c.args.self.graph) threads text) (sym c.requires.threads) c.in_ok-write.ensures.ok in
    map_ok c.is_text.result _ _
    (λ alike compared. answered c.args.version scripts before c.args.self.graph work text c.args.body.now
    (answer_text c.args.version (length text.roots) (λ thread. replies_of work (thread - 1)) text.rows (root_of text) (pin_of text)) alike c.args.threads judged count shows refl compared)
    c.is_text.ensures
