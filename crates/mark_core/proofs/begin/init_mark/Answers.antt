use Rattle.std.proofs.Common.{sym, subst}
use Rattle.image_graph.specs.State.{config_of, words_of, memory_of}
use Rattle.image_graph.proofs.BufferTurns.{no_more_seats}
use Rattle.image_graph.proofs.Loosening.BuffersInside.{inside_some}
use Rattle.cycle_words.specs.Marking.Laws.{BeginsMarking}
use Rattle.cycle_words.proofs.Marking.Begun.{init_marks}
use Rattle.mark_core.proofs.MarkingBegun.{held_inside_some}
use Rattle.mark_core.proofs.Some.{marks_after}
use Rattle.mark_core.proofs.begin.init_mark.Goals as goal

pub init_mark_by_part-requires-clause-roots : goal.init_mark_by_part-requires-clause-roots
init_mark_by_part-requires-clause-roots c = held_inside_some (config_of c.args.image.now) (memory_of c.args.image.now) c.requires.holds

pub init_mark_by_part-requires-clause-buffers : goal.init_mark_by_part-requires-clause-buffers
init_mark_by_part-requires-clause-buffers c = inside_some (config_of c.args.image.now) (memory_of c.args.image.now) c.requires.holds

pub returns-clause-begins : goal.returns-clause-begins
returns-clause-begins c = λ block owner promises graph holds.
    subst (λ memory_then. BeginsMarking (config_of c.args.image.now) (memory_of c.args.image.now) memory_then block owner promises graph) (sym c.init_mark_by_part.ensures.words)
    (init_marks (config_of c.args.image.now) (memory_of c.args.image.now) block owner promises graph holds c.requires.calm (no_more_seats (config_of c.args.image.now) (words_of c.args.image.now)))

pub returns-clause-marks : goal.returns-clause-marks
returns-clause-marks c = marks_after (config_of c.args.image.now) (memory_of c.args.image.now) (memory_of c.init_mark_by_part.new.image) (returns-clause-begins c) c.requires.holds
