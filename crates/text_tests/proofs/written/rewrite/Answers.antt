use Rattle.text_tests.proofs.written.rewrite.Goals as goal

pub write_trace-requires : goal.write_trace-requires
write_trace-requires c =
    let read = c.in-Ok.ensures.ok in
    c.read_traces_can_be_written.ensures read.0 _ _ _ _ read.2
