use Rattle.image_graph.proofs.ServingKeeps.{served_stands}
use Rattle.image_graph.proofs.full_laws.serving_stands.Goals as goal

pub returns : goal.returns
returns c = λ config memory block graph promises stands asking turns turns_below. served_stands config graph memory block promises stands asking turns turns_below
