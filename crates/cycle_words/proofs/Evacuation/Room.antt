-- Room is found for what is copied: as long as less was copied than may be, some region that was free has room.
use Rattle.std.proofs.Common.{◌≡◌, ◌≢◌, ℕ, ◌+◌, ◌-◌, ◌*◌, ◌<◌, ◌≤◌, ◌==◌, if◌then◌else◌, zero, suc, Option, Some, None, ap, ⊎_elim, arith}
use Rattle.std.specs.Int.{bit_at}
use Rattle.std.proofs.lemmas.Bool.{cases_eq, cond_both, eqb-true}
use Rattle.regions.specs.Tops.{sum_below}
use Rattle.regions.specs.ServedRooms.{taken_in, tops_served, given_by, room_at_turn, granted}
use Rattle.regions.proofs.Sums.{sum_both}
use Rattle.regions.proofs.ServedRooms.{none_has_room, served_next, served_none, served_is, taken_here, taken_elsewhere}
use Rattle.regions.specs.Sets.{IsIn, members_below}
use Rattle.cycle_words.proofs.Evacuation.Sums.{sum_at_most, members_at_least}

-- a top does not fall
taken_least : (top : ℕ → ℕ) (words : ℕ) (found : Option ℕ) (region : ℕ) → top region ≤ taken_in top words found region
taken_least top words None region = omega arith
taken_least top words (Some found_region) region = ⊎_elim
    (λ (same_region : region ≡ found_region). let taken_more = taken_here top words found_region in let taken_there : taken_in top words (Some found_region) region ≡ taken_in top words (Some found_region) found_region = ap (taken_in top words (Some found_region)) same_region in let same_top : top region ≡ top found_region = ap top same_region in omega (arith, taken_more, taken_there, same_top))
    (λ (different_region : region ≢ found_region). let same_top = taken_elsewhere top words found_region region different_region in omega (arith, same_top))
    (cases_eq region found_region)

pub served_least : (region_words regions : ℕ) (asked top : ℕ → ℕ) (turns region : ℕ) → top region ≤ tops_served region_words regions asked top turns region
served_least region_words regions asked top zero region = let same_tops = served_none region_words regions asked top region in omega (arith, same_tops)
served_least region_words regions asked top (suc turns) region =
    let before = served_least region_words regions asked top turns region in
    let step = taken_least (tops_served region_words regions asked top turns) (asked turns) (room_at_turn region_words regions asked top turns) region in
    omega (arith, before, step, served_next region_words regions asked top turns region)

-- no more is given than is asked for
given_most : (found : Option ℕ) (asked_words : ℕ) → given_by found asked_words ≤ asked_words
given_most None asked_words = omega arith
given_most (Some found_region) asked_words = omega arith

module _ (region_words regions : ℕ) (asked top : ℕ → ℕ) (set : ℕ) (empty : (any_region : ℕ) → any_region < regions → IsIn set any_region → top any_region ≡ 0) where
  -- the top of a member of the set after so many turns
  abbrev filled : ℕ → ℕ → ℕ
  filled turns region = if bit_at set region == 1 then tops_served region_words regions asked top turns region else 0

  -- what the members of the set hold was copied to them
  pub members_hold_copied : (turns : ℕ) → sum_below (filled turns) regions ≤ sum_below asked turns
  members_hold_copied turns =
      let least_sum = sum_at_most (λ region. top region + filled turns region) (tops_served region_words regions asked top turns) regions (λ region region_below.
      cond_both (bit_at set region == 1) (tops_served region_words regions asked top turns region) 0 (λ number. top region + number ≤ tops_served region_words regions asked top turns region)
      (λ in_set. let nothing_in = empty region region_below (eqb-true (bit_at set region) 1 in_set) in omega (arith, nothing_in))
      (λ _. let grows = served_least region_words regions asked top turns region in omega (arith, grows))) in
      let split = sum_both top (filled turns) regions in
      let most_given = sum_at_most (granted region_words regions asked top) asked turns (λ number _. given_most (room_at_turn region_words regions asked top number) (asked number)) in
      omega (arith, least_sum, split, most_given, served_is region_words regions asked top turns)

  -- Where what was copied and the next object are within 35 words less than a region for each member of the set, there is
  -- room: else each member would hold at least one word more than that.
  pub some_room : (turns : ℕ) → 0 < asked turns → asked turns ≤ 35 → 35 ≤ region_words → sum_below asked turns + asked turns ≤ members_below set regions * (region_words - 35)
      → room_at_turn region_words regions asked top turns ≡ None → ⊥
  some_room turns positive short words_wide fits no_room_found =
      let tops_now = tops_served region_words regions asked top turns in
      let full_members = members_at_least set (region_words - 35) tops_now regions (λ region region_below in_set. (let less_room = none_has_room region_words tops_now (asked turns) regions no_room_found region region_below in omega (arith, less_room, short))) in
      omega (arith, full_members, members_hold_copied turns, fits, positive)
