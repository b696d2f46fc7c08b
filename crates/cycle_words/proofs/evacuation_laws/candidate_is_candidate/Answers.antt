use Rattle.cycle_words.proofs.Evacuation.Candidate.{candidate_is_candidate}
use Rattle.cycle_words.proofs.evacuation_laws.candidate_is_candidate.Goals as goal

pub returns : goal.returns
returns c = λ config memory region. candidate_is_candidate config memory region
