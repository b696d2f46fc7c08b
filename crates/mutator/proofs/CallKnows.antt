-- What a call knows of its resolving.
use Rattle.std.proofs.Common.{◌≡◌, ◌↔◌, ℕ, true, refl, subst}
use Rattle.std.proofs.lemmas.Bool.{and_parts}
use Rattle.heap_words.specs.declared.config.Config.{Config}
use Rattle.heap_words.specs.declared.access.Took.{Took}
use Rattle.heap_words.specs.declared.access.Took.TheVariants as took
use Rattle.load_barrier.specs.declared.spot.ResolveSpot.{ResolveSpot}
use Rattle.load_barrier.specs.Fit as resolves
use Rattle.mutator.specs.declared.spot.Kept.{Kept}
use Rattle.mutator.specs.declared.spot.Spot.{Spot}
use Rattle.mutator.specs.declared.spot.Spot.TheVariants.{Resolving}
use Rattle.mutator.specs.declared.resolves.Loaded.{Loaded}
use Rattle.mutator.specs.Fit.{is_ready, PartFit}
use Rattle.mutator.specs.WaitRows.{call_says}

-- a call says that it has to look again where its part does
pub says_again : (said : Took) → (call_says said ≡ took.Again) ↔ (said ≡ took.Again)
says_again took.Again = (λ said_again. refl, λ said_again. refl)
says_again took.More = (λ said_again. cc, λ said_again. cc)
says_again took.Done = (λ said_again. cc, λ said_again. cc)

-- the resolving can make its next access
resolving_ready : (config : Config) (seat made : ℕ) (kept : Kept) (address : ℕ) (spot : ResolveSpot) (next : Loaded) → is_ready config seat made kept (Resolving address spot next) ≡ true → resolves.is_ready config seat address spot ≡ true
resolving_ready config seat made kept address spot next call_ready = (and_parts _ _ (and_parts _ _ (and_parts _ _ call_ready).1).1).0

pub part_ready : (config : Config) (seat made : ℕ) (kept : Kept) (spot : Spot) (address : ℕ) (part_spot : ResolveSpot) (next : Loaded) → spot ≡ Resolving address part_spot next → is_ready config seat made kept spot ≡ true → resolves.is_ready config seat address part_spot ≡ true
part_ready config seat made kept spot address part_spot next same_spot call_ready = resolving_ready config seat made kept address part_spot next (subst (λ any_spot. is_ready config seat made kept any_spot ≡ true) same_spot call_ready)

-- and goes on with a word that is fit for it
pub part_goes : (config : Config) (seat : ℕ) (kept : Kept) (spot : Spot) (address : ℕ) (part_spot : ResolveSpot) (next : Loaded) (got : ℕ) → spot ≡ Resolving address part_spot next → PartFit config seat kept spot got → resolves.goes_on config seat address kept.phase part_spot got ≡ true
part_goes config seat kept spot address part_spot next got same_spot fit = (subst (λ any_spot. PartFit config seat kept any_spot got) same_spot fit).0
