use Rattle.cycle_words.proofs.Finishing.KeptFields.{kept_fields_are_fields}
use Rattle.cycle_words.proofs.finishing_laws.kept_fields_are_fields.Goals as goal

pub returns : goal.returns
returns c = kept_fields_are_fields
