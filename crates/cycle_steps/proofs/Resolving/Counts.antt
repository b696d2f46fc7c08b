-- The counter of copiers moves, and who copies with it.
use Rattle.heap_words.specs.Phases.{evacuation_phase}
use Rattle.std.proofs.Common.{◌≡◌, ◌≢◌, ℕ, zero, suc, ◌+◌, ◌<◌, ◌≤◌, Bool, true, false, cond, ⊎_elim, refl, sym, ap, ◌∙◌, subst, arith}
use Rattle.std.proofs.lemmas.Bool.{cases_eq}
use Rattle.heap_words.specs.declared.config.Config.{Config}
use Rattle.heap_words.specs.Ranges.{seat_count}
use Rattle.heap_words.specs.Words.{Phase, Evac, Top, Heap}
use Rattle.heap_words.specs.Touch.{touch, formed}
use Rattle.heap_words.specs.Counter.{IsQuiet}
use Rattle.evac_room.specs.declared.spot.RoomSpot.{RoomSpot}
use Rattle.evac_room.specs.Spot.{is_ended, is_counted}
use Rattle.evac_room.specs.Rows.{form_at, next_at}
use Rattle.evac_room.proofs.OneStep.{Mine, after, IsKept, CanStep, each_keeps}
use Rattle.heap_world.specs.World.{World, copiers, IsCounted, Shared}
use Rattle.heap_world.specs.Part.{PartStep}
use Rattle.heap_world.proofs.FunctionUpdates.{updated, updated_same, updated_there, updated_else}
use Rattle.heap_world.proofs.Copies.{counted_one}
use Rattle.cycle_steps.proofs.Resolving.Changes.{world_after, evac_written, IsCopyingStep, step_after}

-- what a seat adds to the count
abbrev tally : Bool → ℕ
tally holds = cond holds 1 0

-- as many copy where the same seats do
copiers_same : (copying then_copying : ℕ → Bool) (count : ℕ) → ((seat : ℕ) → seat < count → then_copying seat ≡ copying seat) → copiers then_copying count ≡ copiers copying count
unfolding copiers
copiers_same copying then_copying zero same_copying = refl
copiers_same copying then_copying (suc count) same_copying =
    let same_rest = copiers_same copying then_copying count (λ seat seat_below. same_copying seat (omega (arith, seat_below))) in
    let same_tally : tally (then_copying count) ≡ tally (copying count) = ap tally (same_copying count (omega arith)) in
    omega (arith, same_rest, same_tally)

-- no more copy than there are seats
copiers_most : (copying : ℕ → Bool) (count : ℕ) → copiers copying count ≤ count
unfolding copiers
copiers_most copying zero = omega arith
copiers_most copying (suc count) = let rest_most = copiers_most copying count in let last_tally = cond_most (copying count) in omega (arith, rest_most, last_tally)
  where
    cond_most : (holds : Bool) → tally holds ≤ 1
    cond_most true = omega arith
    cond_most false = omega arith

-- one seat copies now, or does not
copiers_moved : (copying : ℕ → Bool) (seat count : ℕ) (holds : Bool) → seat < count → copiers (updated copying seat holds) count + tally (copying seat) ≡ copiers copying count + tally holds
unfolding copiers
copiers_moved copying seat zero holds seat_below = absurd (omega (arith, seat_below))
copiers_moved copying seat (suc count) holds seat_below = ⊎_elim
    (λ (same_seat : seat ≡ count).
    let rest_counted = copiers_same copying (updated copying seat holds) count (λ any_seat seat_less. updated_else copying seat holds any_seat (λ seats_equal. omega (arith, seats_equal, same_seat, seat_less))) in
    let tally_then : tally (updated copying seat holds count) ≡ tally holds = ap tally (updated_same copying seat holds count same_seat) in
    let tally_before : tally (copying seat) ≡ tally (copying count) = ap (λ any_seat. tally (copying any_seat)) same_seat in
    omega (arith, rest_counted, tally_then, tally_before))
    (λ (seats_differ : seat ≢ count).
    let rest_counted = copiers_moved copying seat count holds (omega (arith, seat_below, seats_differ)) in
    let tally_then : tally (updated copying seat holds count) ≡ tally (copying count) = ap tally (updated_else copying seat holds count seats_differ) in
    omega (arith, rest_counted, tally_then))
    (cases_eq seat count)

module _ (config : Config) (world : World) (seat : ℕ) (spot : RoomSpot) (shared : Shared config world) (evacuating : world.memory Phase ≡ evacuation_phase) (seated : seat < seat_count config.mutators config.helpers)
    (spot_going : is_ended spot ≡ false) (copying : world.ghost.copying seat ≡ is_counted spot) (spot_facts : Mine (world.memory Evac) spot) where
  -- the copier can step
  pub can_step : CanStep (world.memory Evac) spot
  can_step = record {
    going = spot_going;
    is_word = shared.evacuated.counted.is_word;
    few = (let counts = shared.evacuated.counted.counts in
        let copiers_bound = copiers_most world.ghost.copying (seat_count config.mutators config.helpers) in
        let few_mutators = config.in_range.most_mutators in
        let few_helpers = config.in_range.most_helpers in
        omega (arith, counts, copiers_bound, few_mutators, few_helpers));
    is_in = λ counted. (let counts = shared.evacuated.counted.counts in
        let some_copier = counted_one world.ghost.copying (seat_count config.mutators config.helpers) seat seated (copying ∙ counted) in
        omega (arith, counts, some_copier));
    mine = spot_facts;
  }

  -- what its step keeps
  pub counter_kept : IsKept (world.memory Evac) spot (after (world.memory Evac) spot) (next_at spot (world.memory Evac))
  counter_kept = each_keeps (world.memory Evac) spot can_step

  -- who copies then
  abbrev pub copying_then : ℕ → Bool
  copying_then = updated world.ghost.copying seat (is_counted (next_at spot (world.memory Evac)))

  -- the world then
  abbrev pub counted_world : World
  counted_world = world_after config world seat (λ address. world.memory (Heap address)) (λ region. world.memory (Top region)) (after (world.memory Evac) spot) world.block copying_then

  -- the counter counts them
  counted_then : IsCounted config (after (world.memory Evac) spot) copying_then
  counted_then = record {
    is_word = counter_kept.is_word;
    counts = (let counts = shared.evacuated.counted.counts in
        let counts_kept = counter_kept.counts in
        let moves = copiers_moved world.ghost.copying seat (seat_count config.mutators config.helpers) (is_counted (next_at spot (world.memory Evac))) seated in
        let tally_before : tally (world.ghost.copying seat) ≡ tally (is_counted spot) = ap tally copying in
        omega (arith, counts, counts_kept, moves, tally_before));
  }

  -- once nobody copies any more, it stays so
  quiet_then : IsQuiet (world.memory Evac) → IsQuiet (after (world.memory Evac) spot)
  quiet_then quiet = subst IsQuiet (sym (counter_kept.quiet_stays quiet)) quiet

  counting : IsCopyingStep config world seat (λ address. world.memory (Heap address)) (λ region. world.memory (Top region)) (after (world.memory Evac) spot) world.block copying_then
  counting = record {
    parsable = shared.parsable;
    objects = shared.contents.objects;
    owned = shared.owned;
    moved_are = shared.evacuated.moved;
    counted = counted_then;
    kept = shared.evacuated.kept;
    bodies = λ piece_address body stands. stands;
    targets = λ address refs nums name stands. record { piece = stands.piece; safe = λ inside. quiet_then (stands.safe inside) };
    moveds = λ piece_address refs nums moved_to name stands. stands;
    spents = λ piece_address words moved_to stands. stands;
    pieces = λ piece_address piece inside stands. (piece, stands, refl, refl);
    no_new = λ piece_address refs nums name inside stands. stands;
    set_tops = λ region stands. refl;
    out = counter_kept.bit_stays;
    quiet = quiet_then;
    rooms = λ any_seat piece_address piece differs stands owned. stands;
    no_rooms = λ any_seat piece_address piece stands owned. stands;
    promises = λ piece_address any_seat words stands. stands;
    no_promises = λ address any_seat words stands. stands;
    deads = λ piece_address words stands. stands;
    fillers = λ piece_address words stands. stands;
    no_deads = λ address words stands. stands;
    no_fillers = λ address words stands. stands;
    words = λ piece_address offset piece stands offset_below no_room which. refl;
    own_tops = λ region any_seat differs stands. refl;
    copiers_else = λ any_seat differs. updated_else world.ghost.copying seat (is_counted (next_at spot (world.memory Evac))) any_seat (λ same_seat. differs (sym same_seat));
  }

  -- who copies is as the spot says
  pub copying_now : copying_then seat ≡ is_counted (next_at spot (world.memory Evac))
  copying_now = updated_there world.ghost.copying seat (is_counted (next_at spot (world.memory Evac)))

  -- the step of the counter owes no more
  pub counts_step : (facts : World → Type 0) → facts counted_world → PartStep config world seat (touch Evac (form_at spot)) facts
  counts_step facts own_facts = step_after config world seat (λ address. world.memory (Heap address)) (λ region. world.memory (Top region)) (after (world.memory Evac) spot) world.block copying_then shared evacuating counting
      (touch Evac (form_at spot)) facts (evac_written world.memory (formed (form_at spot) (world.memory Evac))) own_facts
