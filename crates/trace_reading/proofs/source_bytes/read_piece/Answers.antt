use Rattle.std.proofs.Common.{◌≡◌, ◌≤◌, length, ◌++◌, ◌+◌, take, arith}
use Rattle.std.proofs.KnownBytes.{Consumes-trans}
use Rattle.std.proofs.lemmas.List.{length-append, length-take-le}
use Rattle.trace_reading.proofs.source_bytes.read_piece.Goals as goal

pub returns-in-Err-extend_from_slice-clause-took :
    goal.returns-in-Err-extend_from_slice-clause-took
returns-in-Err-extend_from_slice-clause-took g c first taken =
    let old = c.args.bytes.now.items in
    let piece = take c.in-Ok.count c.read.new.buf in
    let length_sum : length (old ++ piece) ≡ length old + length piece = length-append old piece in
    let piece_length : length piece ≡ c.in-Ok.count = length-take-le c.in-Ok.count c.read.new.buf c.in-Ok.ensures.within in
    let same_size : length c.read.new.buf ≡ length c.args.piece.now = c.read.auto.buf in
    let count_within : c.in-Ok.count ≤ length c.read.new.buf = c.in-Ok.ensures.within in
    (old ++ piece, Consumes-trans first (g.S.Source.left c.args.source.now) (g.S.Source.left c.read.new.self) old piece taken c.in-Ok.ensures.next_bytes, omega (arith, length_sum), omega (arith, length_sum, piece_length, same_size, count_within))
