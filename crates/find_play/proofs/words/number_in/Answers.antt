use Rattle.std.proofs.Common.{sym}
use Rattle.trace_reading.proofs.Words.{number_digits}
use Rattle.find_play.proofs.words.number_in.Goals as goal

pub ranged-requires : goal.ranged-requires
ranged-requires c = number_digits c.args.word.now (sym c.if-is_number.ensures)
