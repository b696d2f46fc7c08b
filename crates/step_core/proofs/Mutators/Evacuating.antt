-- What a mutator counts on of evacuation stays in steps of its own that leave who copies and works as it is.
use Rattle.std.proofs.Common.{ℕ, Bool, sym, ◌∙◌}
use Rattle.heap_words.specs.declared.config.Config.{Config}
use Rattle.heap_world.specs.World.{World}
use Rattle.heap_world.specs.Part.{SameWork}
use Rattle.heap_world.specs.Rely.{KeepsCopies}
use Rattle.step_core.proofs.Machines.Stepped.{HasCopyingBy}

pub copying_kept : (config : Config) (world next_world : World) (seat : ℕ) (copies : Bool) (loaded : ℕ) (knows : Bool) → SameWork world next_world seat → KeepsCopies config world next_world → HasCopyingBy world seat copies loaded knows → HasCopyingBy next_world seat copies loaded knows
copying_kept config world next_world seat copies loaded knows same_work copies_kept copying = record {
  copies_is = same_work.copying ∙ copying.copies_is;
  works_none = same_work.working ∙ copying.works_none;
  set_is = λ phase_on. copying.set_is phase_on ∙ sym copies_kept.cset;
}
