use Rattle.std.proofs.Common.{ap, arith}
use Rattle.heap_words.proofs.Codes.{row_of_lt, row-row_of}
use Rattle.heap_words.proofs.place.Place.code.Goals as goal

pub bounds-codes-self : goal.bounds-codes-self
bounds-codes-self c = row_of_lt c.args.self

pub offset_bounds-codes-self : goal.offset_bounds-codes-self
offset_bounds-codes-self c = let row_below = row_of_lt c.args.self in omega arith

pub returns : goal.returns
returns c = ap (λ row. row.1) (row-row_of c.args.self)
