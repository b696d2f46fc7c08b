use Rattle.trace_reading.proofs.Exact as exact
use Rattle.trace_reading.proofs.Either as all
use Rattle.trace_reading.proofs.refusal_laws.bytes_are_read_or_refused.Goals as goal

pub returns-clause-either : goal.returns-clause-either
returns-clause-either c = all.either

pub returns-clause-never_both : goal.returns-clause-never_both
returns-clause-never_both c = λ bytes version config scripts items line why reads refused. exact.never_both bytes version config scripts items line why reads refused.0

pub returns-clause-once : goal.returns-clause-once
returns-clause-once c = λ bytes line other_line why other_why first_refused second_refused. exact.refused_once bytes line other_line why other_why first_refused.0 second_refused.0
