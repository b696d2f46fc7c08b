use Rattle.find_play.proofs.TestLaws.{test_once}
use Rattle.find_play.proofs.laws.tests_are_read_once.Goals as goal

pub returns : goal.returns
returns c = test_once
