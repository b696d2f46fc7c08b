-- What contracts see of the adapters over the standard library's readers and writers.
use Rattle.std.specs.Prelude.{ℕ}
use Rattle.shen_base.specs.declared.adapter.InSource.{InSource}
use Rattle.shen_base.specs.declared.adapter.OutSink.{OutSink}

-- the reader behind a source
abbrev pub reader_of : {R : Type 0} → InSource R → R
reader_of source = source.reader

-- the faults that a source over a reader counted
abbrev pub read_faults : {R : Type 0} → InSource R → ℕ
read_faults source = source.faults

-- the calls that a source over a reader counted
abbrev pub read_calls : {R : Type 0} → InSource R → ℕ
read_calls source = source.calls

-- the writer behind a sink
abbrev pub writer_of : {W : Type 0} → OutSink W → W
writer_of sink = sink.writer

-- the faults that a sink over a writer counted
abbrev pub write_faults : {W : Type 0} → OutSink W → ℕ
write_faults sink = sink.faults

-- the calls that a sink over a writer counted
abbrev pub write_calls : {W : Type 0} → OutSink W → ℕ
write_calls sink = sink.calls
