use Rattle.trace_text.proofs.Wanted.{rest_of_claims}
use Rattle.trace_text.proofs.pair.claims_in.Goals as goal

pub no_entry-requires-clause-part : goal.no_entry-requires-clause-part
no_entry-requires-clause-part c =
    rest_of_claims c.args.bytes.now c.requires.part.0 c.args.behind.now c.in-Some.body.now c.in-Some.claimed.now c.in-Ok.rest.now c.in-Ok.history.list c.requires.part.1 c.in-Some.ensures c.in-Ok.ensures.taken.1
