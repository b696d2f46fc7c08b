use Rattle.cycle_steps.proofs.Resolving.Headers as headers
use Rattle.cycle_steps.proofs.resolving_laws.headers_lead.Goals as goal

pub returns : goal.returns
returns c = headers.headers_lead
