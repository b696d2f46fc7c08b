use Rattle.std.proofs.Common.{ℕ, ◌⊎◌, codes, inr, subst}
use Rattle.trace_text.specs.Refusals.{LacksHistory, LacksEntry}
use Rattle.trace_text.proofs.CutLines.{behind_cut}
use Rattle.trace_text.proofs.pair.pair_of.Goals as goal

pub claims_in-requires-clause-part : goal.claims_in-requires-clause-part
claims_in-requires-clause-part c = let trace = c.in-Ok.ensures.ok in behind_cut (codes "answer") c.args.bytes.now trace.trace c.in-Ok.taken.1.now trace.cut

pub returns-in-Err-claims_in-clause-bad_line : goal.returns-in-Err-claims_in-clause-bad_line
returns-in-Err-claims_in-clause-bad_line c = λ line_number reason same_error.
    let taken = c.in-Ok.taken in
    let fault = c.in-Err-claims_in.ensures.bad_line line_number reason (cc) in (
      inr (record {
        version = taken.0.version;
        config = taken.0.config;
        scripts = taken.0.scripts;
        items = taken.0.schedule;
        behind = taken.1.now;
        trace = c.in-Ok.ensures.ok;
        fault = subst (λ (threads : ℕ). LacksHistory c.args.bytes.now taken.1.now line_number reason ⊎ LacksEntry taken.0.version threads c.args.bytes.now taken.1.now line_number reason) c.mutators-threads.ensures fault;
      }),
      c.requires,
    )
