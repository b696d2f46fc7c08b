use Rattle.find_play.proofs.TestLaws as tests
use Rattle.find_play.proofs.laws.bytes_are_a_test_or_refused.Goals as goal

pub returns-clause-either : goal.returns-clause-either
returns-clause-either c = tests.test_or_refused

pub returns-clause-never_both : goal.returns-clause-never_both
returns-clause-never_both c = tests.never_both

pub returns-clause-once : goal.returns-clause-once
returns-clause-once c = tests.refused_once
