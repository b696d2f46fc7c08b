-- What a step that was made says.
use Rattle.std.proofs.Common.{◌≡◌, ◌⊎◌, inl, inr, Some, refl, sym, ◌∙◌}
use Rattle.heap_words.specs.declared.access.Took.{Took}
use Rattle.heap_words.specs.declared.access.Took.TheVariants as took
use Rattle.heap_machines.specs.declared.stepped.Stepped.{Stepped}
use Rattle.heap_machines.specs.declared.stepped.Stepped.TheVariants as stepped
use Rattle.heap_machines.specs.Answer.{stepped_of, stepped_by}
use Rattle.std.specs.Prelude.{Option, None}

-- a machine that makes a step does not say that it is idle
pub never_idle : (said : Took) → stepped_of said ≡ stepped.Idle → ⊥
never_idle took.More says_idle = cc
never_idle took.Again says_idle = cc
never_idle took.Done says_idle = cc

pub done_not_idle : (said : Stepped) → said ≡ stepped.Done → said ≡ stepped.Idle → ⊥
done_not_idle said says_done idle = let same_answer : stepped.Done ≡ stepped.Idle = sym says_done ∙ idle in cc

-- one that has ended its call says so, and no other does
pub done_only : (said : Took) → stepped_of said ≡ stepped.Done → said ≡ took.Done
done_only took.More says_done = absurd cc
done_only took.Again says_done = absurd cc
done_only took.Done says_done = refl

pub done_by : (found : Option Took) → stepped_by found ≡ stepped.Done → found ≡ Some took.Done
done_by None says_done = absurd cc
done_by (Some took.More) says_done = absurd cc
done_by (Some took.Again) says_done = absurd cc
done_by (Some took.Done) says_done = refl

-- a machine is idle, or it is not
pub idle_or_not : (said : Stepped) → (said ≡ stepped.Idle) ⊎ (said ≡ stepped.Idle → ⊥)
idle_or_not stepped.Idle = inl refl
idle_or_not stepped.More = inr (λ is_idle. cc)
idle_or_not stepped.Again = inr (λ is_idle. cc)
idle_or_not stepped.Done = inr (λ is_idle. cc)
