-- Lists of copiers, and what a wish makes of one.
use Rattle.std.proofs.Common.{◌≡◌, ℕ, ◌+◌, ◌≤◌, true, false, cond, List, [], ◌∷◌, Some, zero, suc, refl, ap, arith}
use Rattle.std.specs.Prelude.{slice_get, slice_set, slice_index, replicate}
use Rattle.std.proofs.lemmas.List.Sums.{sum_by-cons}
use Rattle.heap_words.specs.Access.{table_index}
use Rattle.heap_words.specs.Steps.{accessed}
use Rattle.heap_words.specs.Touch.{Form, loads, formed, access_at}
use Rattle.evac_room.specs.declared.wish.Wish.{Wish}
use Rattle.evac_room.specs.declared.wish.Wish.TheVariants.{Enter, Leave, NoRoom}
use Rattle.evac_room.specs.declared.spot.RoomSpot.{RoomSpot}
use Rattle.evac_room.specs.declared.spot.RoomSpot.TheVariants.{Outside, Inside, Stopped}
use Rattle.evac_room.specs.Spot.{is_ended, is_counted}
use Rattle.evac_room.specs.Core.{takes_at, wish_begun, counted}
use Rattle.evac_room.proofs.OneStep.{Mine, weight}

-- a copier that takes the wish then has an access to make
pub begun_goes : (spot : RoomSpot) (wish : Wish) → takes_at spot wish ≡ true → is_ended (wish_begun spot wish) ≡ false
begun_goes Outside Enter takes = refl
begun_goes Outside Leave takes = absurd (cc (takes))
begun_goes Outside NoRoom takes = absurd (cc (takes))
begun_goes Stopped Enter takes = refl
begun_goes Stopped Leave takes = absurd (cc (takes))
begun_goes Stopped NoRoom takes = absurd (cc (takes))
begun_goes Inside Enter takes = absurd (cc (takes))
begun_goes Inside Leave takes = refl
begun_goes Inside NoRoom takes = refl
begun_goes _ wish takes = refl

-- a wish changes no count
pub begun_weight : (spot : RoomSpot) (wish : Wish) → weight (wish_begun spot wish) ≡ weight spot
begun_weight Outside Enter = refl
begun_weight Stopped Enter = refl
begun_weight Inside Leave = refl
begun_weight Inside NoRoom = refl
begun_weight spot wish = refl

pub weight_one : (spot : RoomSpot) → is_counted spot ≡ true → weight spot ≡ 1
weight_one spot spot_counted = ap {B = ℕ} (λ flag. cond flag 1 0) spot_counted

pub begun_mine : (word : ℕ) (spot : RoomSpot) (wish : Wish) → Mine word spot → Mine word (wish_begun spot wish)
begun_mine word Outside Enter mine = tt
begun_mine word Stopped Enter mine = tt
begun_mine word Inside Leave mine = tt
begun_mine word Inside NoRoom mine = tt
begun_mine word spot wish mine = mine

pub counted_first : (spot : RoomSpot) (rest : List RoomSpot) → counted (spot ∷ rest) ≡ weight spot + counted rest
counted_first spot rest = sum_by-cons weight spot rest

-- one copier elsewhere changes the count by its own weight
pub counted_set : (copiers : List RoomSpot) (number : ℕ) (spot next_spot : RoomSpot) → slice_get copiers number ≡ Some spot
    → counted (slice_set copiers number next_spot) + weight spot ≡ counted copiers + weight next_spot
counted_set [] number spot next_spot has_spot = absurd (cc (has_spot))
counted_set (first_spot ∷ rest) zero spot next_spot has_spot =
    let same_spot : first_spot ≡ spot = cc (has_spot) in omega (arith, ap weight same_spot, counted_first first_spot rest, counted_first next_spot rest)
counted_set (first_spot ∷ rest) (suc number) spot next_spot has_spot =
    omega (arith, counted_set rest number spot next_spot has_spot, counted_first first_spot rest, counted_first first_spot (slice_set rest number next_spot))

-- the count is at least the weight of each
pub weight_counted : (copiers : List RoomSpot) (number : ℕ) (spot : RoomSpot) → slice_get copiers number ≡ Some spot → weight spot ≤ counted copiers
weight_counted copiers number spot has_spot = omega (arith, counted_set copiers number spot Outside has_spot)

-- nobody is counted of copiers outside, and each of them stands outside
pub counted_outside : (copiers : ℕ) → counted (replicate copiers Outside) ≡ 0
counted_outside zero = refl
counted_outside (suc copiers) = counted_outside copiers

pub outside_here : (copiers number : ℕ) (spot : RoomSpot) → slice_get (replicate copiers Outside) number ≡ Some spot → spot ≡ Outside
outside_here zero number spot has_spot = absurd (cc (has_spot))
outside_here (suc copiers) zero spot has_spot = cc (has_spot)
outside_here (suc copiers) (suc number) spot has_spot = outside_here copiers number spot has_spot

-- an access of a table of one word
pub accessed_one : (form : Form) (word : ℕ) → accessed (access_at 0 form) (word ∷ []) ≡ formed form word ∷ []
accessed_one loads word = refl
accessed_one _ word = refl

pub found_one : (form : Form) (word : ℕ) → slice_index (word ∷ []) (table_index (access_at 0 form)) ≡ word
found_one loads word = refl
found_one _ word = refl
