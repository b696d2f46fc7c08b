use Rattle.std.proofs.Common.{inr}
use Rattle.find_play.proofs.read.test_of.Goals as goal

pub returns-in-Some-clause-refused : goal.returns-in-Some-clause-refused
returns-in-Some-clause-refused c = λ line why refusal. record {
  stops = inr (record { version = c.in-Some.version; config = c.in-Some.config; known = c.in-Some.ensures.known; narrow = c.in-Some.ensures.narrow; behind = c.in-Some.rest.now; head = c.in-Some.ensures.found; stops = c.body_of.ensures.bad_line line why refusal });
  short = c.requires;
}
