-- Which request finds room, and what the tops are then.
use Rattle.std.proofs.Common.{◌≡◌, ◌≢◌, ℕ, ◌+◌, ◌-◌, ◌*◌, ◌<◌, ◌≤◌, ◌==◌, ◌⊎◌, Bool, true, false, zero, suc, nat_le, if◌then◌else◌, Option, Some, None, ⊎_elim, inl, inr, refl, sym, ap, ◌∙◌, subst, arith}
use Rattle.std.proofs.lemmas.Bool.{cond-true, cond-false, cases_Bool, cases_eq, leb-true, leb-false, lt-leb, le-leb, eq-eqb, ne_eqb}
use Rattle.std.proofs.lemmas.Option.{none-some, same_Some}
use Rattle.regions.specs.Tops.{sum_below}
use Rattle.regions.specs.ServedRooms.{first_of_two, lowest_room, IsLowestRoom, taken_in, tops_served, given_by, room_at_turn, granted}
use Rattle.regions.specs.SlideLaws.{count_where, tops_where, RequestsAreServed}
use Rattle.regions.proofs.Sums.{sum_next, sum_none, sum_same, sum_both, sum_of_one}

-- one step of the recursion
pub room_next : (region_words : ℕ) (top : ℕ → ℕ) (words region : ℕ)
    → lowest_room region_words top words (suc region) ≡ first_of_two (lowest_room region_words top words region) (if nat_le (top region + words) region_words then Some region else None)
unfolding lowest_room
room_next region_words top words region = refl

pub room_none : (region_words : ℕ) (top : ℕ → ℕ) (words : ℕ) → lowest_room region_words top words 0 ≡ None
unfolding lowest_room
room_none region_words top words = refl

-- whether a region has room
fits_or_not : (region_words : ℕ) (top : ℕ → ℕ) (words region : ℕ)
    → ((top region + words ≤ region_words) × ((if nat_le (top region + words) region_words then Some region else None) ≡ Some region))
    ⊎ ((region_words < top region + words) × ((if nat_le (top region + words) region_words then Some region else None) ≡ None))
fits_or_not region_words top words region = ⊎_elim
    (λ (words_fit : nat_le (top region + words) region_words ≡ true). inl (leb-true (top region + words) region_words words_fit, cond-true (nat_le (top region + words) region_words) (Some region) None words_fit))
    (λ (test_fails : nat_le (top region + words) region_words ≡ false). inr (leb-false (top region + words) region_words test_fails, cond-false (nat_le (top region + words) region_words) (Some region) None test_fails))
    (cases_Bool (nat_le (top region + words) region_words))

-- neither of two is there, where the first of them is not
none_of_two : (first_found second_found : Option ℕ) → first_of_two first_found second_found ≡ None → (first_found ≡ None) × (second_found ≡ None)
none_of_two None second_found none_found = (refl, none_found)
none_of_two (Some region) second_found none_found = absurd (none-some region (sym none_found))

some_of_two : (first_found second_found : Option ℕ) (region : ℕ) → first_of_two first_found second_found ≡ Some region → (first_found ≡ Some region) ⊎ ((first_found ≡ None) × (second_found ≡ Some region))
some_of_two None second_found region region_found = inr (refl, region_found)
some_of_two (Some first_region) second_found region region_found = inl region_found

-- where none is found each region has less room
pub none_has_room : (region_words : ℕ) (top : ℕ → ℕ) (words regions : ℕ) → lowest_room region_words top words regions ≡ None → (region : ℕ) → region < regions → region_words < top region + words
none_has_room region_words top words zero none_found region region_below = absurd (omega (arith, region_below))
none_has_room region_words top words (suc regions) none_found region region_below =
    let both_none = none_of_two (lowest_room region_words top words regions) (if nat_le (top regions + words) region_words then Some regions else None) (sym (room_next region_words top words regions) ∙ none_found) in
    ⊎_elim
    (λ (last_region : regions ≡ region). ⊎_elim
    (λ (region_fits : (top regions + words ≤ region_words) × ((if nat_le (top regions + words) region_words then Some regions else None) ≡ Some regions)).
    absurd (none-some regions (sym both_none.1 ∙ region_fits.1)))
    (λ (region_full : (region_words < top regions + words) × ((if nat_le (top regions + words) region_words then Some regions else None) ≡ None)).
    subst (λ any_region. region_words < top any_region + words) last_region region_full.0)
    (fits_or_not region_words top words regions))
    (λ (earlier_region : regions ≢ region). none_has_room region_words top words regions both_none.0 region (omega (arith, region_below, earlier_region)))
    (cases_eq regions region)

-- where each region has less room none is found
pub all_full : (region_words : ℕ) (top : ℕ → ℕ) (words regions : ℕ) → ((region : ℕ) → region < regions → region_words < top region + words) → lowest_room region_words top words regions ≡ None
all_full region_words top words zero each_full = room_none region_words top words
all_full region_words top words (suc regions) each_full =
    let rest_full = all_full region_words top words regions (λ region region_below. each_full region (omega (arith, region_below))) in
    room_next region_words top words regions
    ∙ ap (λ found_region. first_of_two found_region (if nat_le (top regions + words) region_words then Some regions else None)) rest_full
    ∙ cond-false (nat_le (top regions + words) region_words) (Some regions) None (lt-leb (top regions + words) region_words (each_full regions (omega arith)))

-- the region that is found has room, and no lower one has
pub has_room : (region_words : ℕ) (top : ℕ → ℕ) (words regions region : ℕ) → lowest_room region_words top words regions ≡ Some region → IsLowestRoom region_words top words regions region
has_room region_words top words zero region region_found = absurd (none-some region (sym (room_none region_words top words) ∙ region_found))
has_room region_words top words (suc regions) region region_found = ⊎_elim
    (λ (earlier : lowest_room region_words top words regions ≡ Some region).
    let lowest_region = has_room region_words top words regions region earlier in
    record { below = omega (arith, lowest_region.below); room = lowest_region.room; none_lower = lowest_region.none_lower })
    (λ (found_last : (lowest_room region_words top words regions ≡ None) × ((if nat_le (top regions + words) region_words then Some regions else None) ≡ Some region)). ⊎_elim
    (λ (region_fits : (top regions + words ≤ region_words) × ((if nat_le (top regions + words) region_words then Some regions else None) ≡ Some regions)).
    let same_region : regions ≡ region = same_Some regions region (sym region_fits.1 ∙ found_last.1) in
    subst (IsLowestRoom region_words top words (suc regions)) same_region
    (record { below = omega arith; room = region_fits.0; none_lower = none_has_room region_words top words regions found_last.0 }))
    (λ (region_full : (region_words < top regions + words) × ((if nat_le (top regions + words) region_words then Some regions else None) ≡ None)).
    absurd (none-some region (sym region_full.1 ∙ found_last.1)))
    (fits_or_not region_words top words regions))
    (some_of_two (lowest_room region_words top words regions) (if nat_le (top regions + words) region_words then Some regions else None) region (sym (room_next region_words top words regions) ∙ region_found))

-- a region that has room, below which none has, is what is found
pub lowest_is : (region_words : ℕ) (top : ℕ → ℕ) (words regions region : ℕ) → IsLowestRoom region_words top words regions region → lowest_room region_words top words regions ≡ Some region
lowest_is region_words top words zero region lowest_region = absurd (omega (arith, lowest_region.below))
lowest_is region_words top words (suc regions) region lowest_region = ⊎_elim
    (λ (last_region : regions ≡ region).
    let rest_full = all_full region_words top words regions (λ lower_region region_below. lowest_region.none_lower lower_region (omega (arith, region_below, last_region))) in
    let words_fit : top regions + words ≤ region_words = subst (λ any_region. top any_region + words ≤ region_words) (sym last_region) lowest_region.room in
    room_next region_words top words regions
    ∙ ap (λ found_region. first_of_two found_region (if nat_le (top regions + words) region_words then Some regions else None)) rest_full
    ∙ cond-true (nat_le (top regions + words) region_words) (Some regions) None (le-leb (top regions + words) region_words words_fit)
    ∙ ap Some last_region)
    (λ (earlier_region : regions ≢ region).
    let earlier = lowest_is region_words top words regions region (record { below = omega (arith, lowest_region.below, earlier_region); room = lowest_region.room; none_lower = lowest_region.none_lower }) in
    room_next region_words top words regions ∙ ap (λ found_region. first_of_two found_region (if nat_le (top regions + words) region_words then Some regions else None)) earlier)
    (cases_eq regions region)

-- what is found depends only on the tops of the regions
pub same_room : (region_words : ℕ) (top other_top : ℕ → ℕ) (words regions : ℕ) → ((region : ℕ) → region < regions → top region ≡ other_top region) → lowest_room region_words top words regions ≡ lowest_room region_words other_top words regions
same_room region_words top other_top words zero same_tops = room_none region_words top words ∙ sym (room_none region_words other_top words)
same_room region_words top other_top words (suc regions) same_tops =
    room_next region_words top words regions
    ∙ ap (λ found_region. first_of_two found_region (if nat_le (top regions + words) region_words then Some regions else None)) (same_room region_words top other_top words regions (λ region region_below. same_tops region (omega (arith, region_below))))
    ∙ ap (λ given_top. first_of_two (lowest_room region_words other_top words regions) (if nat_le (given_top + words) region_words then Some regions else None)) (same_tops regions (omega arith))
    ∙ sym (room_next region_words other_top words regions)

-- the tops after one request more
pub served_next : (region_words regions : ℕ) (asked top : ℕ → ℕ) (turn region : ℕ)
    → tops_served region_words regions asked top (suc turn) region ≡ taken_in (tops_served region_words regions asked top turn) (asked turn) (room_at_turn region_words regions asked top turn) region
unfolding tops_served
served_next region_words regions asked top turn region = refl

pub served_none : (region_words regions : ℕ) (asked top : ℕ → ℕ) (region : ℕ) → tops_served region_words regions asked top 0 region ≡ top region
unfolding tops_served
served_none region_words regions asked top region = refl

-- the top that grows, and the others
pub taken_here : (top : ℕ → ℕ) (words region : ℕ) → taken_in top words (Some region) region ≡ top region + words
taken_here top words region = cond-true (region == region) (top region + words) (top region) (eq-eqb region region refl)

pub taken_elsewhere : (top : ℕ → ℕ) (words region other_region : ℕ) → other_region ≢ region → taken_in top words (Some region) other_region ≡ top other_region
taken_elsewhere top words region other_region regions_differ = cond-false (region == other_region) (top region + words) (top other_region) (ne_eqb region other_region (λ regions_equal. regions_differ (sym regions_equal)))

-- what is taken is what the sum of the tops grows by
taken_sum : (top : ℕ → ℕ) (words regions : ℕ) (found : Option ℕ) → ((region : ℕ) → found ≡ Some region → region < regions)
    → sum_below (taken_in top words found) regions ≡ sum_below top regions + given_by found words
taken_sum top words regions None region_below =
    let same_sums = sum_same (taken_in top words None) top regions (λ other_region _. refl) in omega (arith, same_sums)
taken_sum top words regions (Some region) region_below =
    let growth : ℕ → ℕ = λ other_region. if region == other_region then words else 0 in
    let split : sum_below (taken_in top words (Some region)) regions ≡ sum_below (λ other_region. top other_region + growth other_region) regions =
    sum_same (taken_in top words (Some region)) (λ other_region. top other_region + growth other_region) regions (λ other_region _. ⊎_elim
    (λ (same_region : region ≡ other_region). let given_top = cond-true (region == other_region) (top region + words) (top other_region) (eq-eqb region other_region same_region) in let given_words = cond-true (region == other_region) words 0 (eq-eqb region other_region same_region) in let same_sums : top region ≡ top other_region = ap top same_region in omega (arith, given_top, given_words, same_sums))
    (λ (regions_differ : region ≢ other_region). let given_top = cond-false (region == other_region) (top region + words) (top other_region) (ne_eqb region other_region regions_differ) in let given_words = cond-false (region == other_region) words 0 (ne_eqb region other_region regions_differ) in omega (arith, given_top, given_words))
    (cases_eq region other_region)) in
    let given_top : sum_below growth regions ≡ growth region = sum_of_one growth regions region (region_below region refl) (λ other_region _ regions_differ. cond-false (region == other_region) words 0 (ne_eqb region other_region (λ regions_equal. regions_differ (sym regions_equal)))) in
    let region_growth : growth region ≡ words = cond-true (region == region) words 0 (eq-eqb region region refl) in
    omega (arith, split, sum_both top growth regions, given_top, region_growth)

-- after so many turns the tops have grown by what was given
pub served_is : (region_words regions : ℕ) (asked top : ℕ → ℕ) (turn : ℕ)
    → sum_below (tops_served region_words regions asked top turn) regions ≡ sum_below top regions + sum_below (granted region_words regions asked top) turn
served_is region_words regions asked top zero =
    let same_start = sum_same (tops_served region_words regions asked top 0) top regions (λ region _. served_none region_words regions asked top region) in
    omega (arith, same_start, sum_none (granted region_words regions asked top))
served_is region_words regions asked top (suc turn) =
    let sum_before = served_is region_words regions asked top turn in
    let found_room = room_at_turn region_words regions asked top turn in
    let step = sum_same (tops_served region_words regions asked top (suc turn)) (taken_in (tops_served region_words regions asked top turn) (asked turn) found_room) regions (λ region _. served_next region_words regions asked top turn region) in
    let grown_sum = taken_sum (tops_served region_words regions asked top turn) (asked turn) regions found_room (λ chosen_region room_found. (has_room region_words (tops_served region_words regions asked top turn) (asked turn) regions chosen_region room_found).below) in
    omega (arith, sum_before, step, grown_sum, sum_next (granted region_words regions asked top) turn)

-- a top grows with the turns, and never above the region's words
pub served_within : (region_words regions : ℕ) (asked top : ℕ → ℕ) (turn region : ℕ) → ((chosen_region : ℕ) → chosen_region < regions → top chosen_region ≤ region_words) → region < regions → tops_served region_words regions asked top turn region ≤ region_words
served_within region_words regions asked top zero region tops_within region_below = let start_top = served_none region_words regions asked top region in omega (arith, start_top, tops_within region region_below)
served_within region_size regions asked top (suc turn) region tops_within region_below =
    let within_before = served_within region_size regions asked top turn region tops_within region_below in
    taken_within region_size (tops_served region_size regions asked top turn) (asked turn) regions region (room_at_turn region_size regions asked top turn) within_before (λ chosen_region room_found. (has_room region_size (tops_served region_size regions asked top turn) (asked turn) regions chosen_region room_found).room)
    (served_next region_size regions asked top turn region)
  where
    taken_within : (region_size : ℕ) (top : ℕ → ℕ) (words regions region : ℕ) (found : Option ℕ) → top region ≤ region_size → ((given_region : ℕ) → found ≡ Some given_region → top given_region + words ≤ region_size)
        → {k : ℕ} → k ≡ taken_in top words found region → k ≤ region_size
    taken_within region_size top words regions region None top_within found_fits {k = k} room_found = omega (arith, top_within, room_found)
    taken_within region_size top words regions region (Some given_region) top_within found_fits {k = k} room_found = ⊎_elim
        (λ (same_region : given_region ≡ region). let grown_top = subst (λ any_region. taken_in top words (Some given_region) any_region ≡ top any_region + words) same_region (taken_here top words given_region) in let top_fits = subst (λ any_region. top any_region + words ≤ region_size) same_region (found_fits given_region refl) in omega (arith, room_found, grown_top, top_fits))
        (λ (regions_differ : given_region ≢ region). let unchanged_top = taken_elsewhere top words given_region region (λ regions_equal. regions_differ (sym regions_equal)) in omega (arith, room_found, unchanged_top, top_within))
        (cases_eq given_region region)

-- what is taken is at least what the sum of the tops of a set of regions grows by
taken_where : (test : ℕ → Bool) (top : ℕ → ℕ) (words regions : ℕ) (found : Option ℕ) → tops_where test (taken_in top words found) regions ≤ tops_where test top regions + given_by found words
taken_where test top words regions None = omega arith
taken_where test top words regions (Some region) = grows regions
  where
    part : (ℕ → ℕ) → ℕ → ℕ
    part tops other_region = if test other_region then tops other_region else 0

    same_part : (other_region : ℕ) → other_region ≢ region → part (taken_in top words (Some region)) other_region ≡ part top other_region
    same_part other_region regions_differ = ap (λ given_top. if test other_region then given_top else 0) (taken_elsewhere top words region other_region regions_differ)

    more_part : (other_region : ℕ) → other_region ≡ region → part (taken_in top words (Some region)) other_region ≤ part top other_region + words
    more_part other_region same_region =
        let grown_top : taken_in top words (Some region) other_region ≡ top other_region + words = subst (λ any_region. taken_in top words (Some region) any_region ≡ top any_region + words) (sym same_region) (taken_here top words region) in
        ⊎_elim
        (λ (met : test other_region ≡ true). omega (arith, cond-true (test other_region) (taken_in top words (Some region) other_region) 0 met, cond-true (test other_region) (top other_region) 0 met, grown_top))
        (λ (unmet : test other_region ≡ false). omega (arith, cond-false (test other_region) (taken_in top words (Some region) other_region) 0 unmet))
        (cases_Bool (test other_region))

    -- below the region nothing is more
    below : (bound : ℕ) → bound ≤ region → tops_where test (taken_in top words (Some region)) bound ≡ tops_where test top bound
    below bound bound_below = sum_same (part (taken_in top words (Some region))) (part top) bound (λ lower_region region_less. same_part lower_region (λ same_region. omega (arith, same_region, region_less, bound_below)))

    grows : (bound : ℕ) → tops_where test (taken_in top words (Some region)) bound ≤ tops_where test top bound + words
    grows zero = omega (arith, sum_none (part (taken_in top words (Some region))))
    grows (suc bound) =
        let next_sum = sum_next (part (taken_in top words (Some region))) bound in
        let old_sum = sum_next (part top) bound in
        ⊎_elim
        (λ (region_last : bound ≡ region). omega (arith, next_sum, old_sum, below bound (omega (arith, region_last)), more_part bound region_last))
        (λ (bounds_differ : bound ≢ region). omega (arith, next_sum, old_sum, grows bound, same_part bound bounds_differ))
        (cases_eq bound region)

-- so after so many turns those of a set have grown by no more than what was given
served_where : (test : ℕ → Bool) (region_words regions : ℕ) (asked top : ℕ → ℕ) (turn : ℕ)
    → tops_where test (tops_served region_words regions asked top turn) regions ≤ tops_where test top regions + sum_below (granted region_words regions asked top) turn
served_where test region_words regions asked top zero =
    let same_start = sum_same (λ region. if test region then tops_served region_words regions asked top 0 region else 0) (λ region. if test region then top region else 0) regions (λ region _. ap (λ given_top. if test region then given_top else 0) (served_none region_words regions asked top region)) in
    omega (arith, same_start)
served_where test region_words regions asked top (suc turn) =
    let sum_before = served_where test region_words regions asked top turn in
    let found_room = room_at_turn region_words regions asked top turn in
    let tops_now = tops_served region_words regions asked top turn in
    let step = sum_same (λ region. if test region then tops_served region_words regions asked top (suc turn) region else 0) (λ region. if test region then taken_in tops_now (asked turn) found_room region else 0) regions
    (λ region _. ap (λ given_top. if test region then given_top else 0) (served_next region_words regions asked top turn region)) in
    omega (arith, sum_before, step, taken_where test tops_now (asked turn) regions found_room, sum_next (granted region_words regions asked top) turn)

-- where each of a set of regions has at least so many, so has their sum that many times
count_of_many : (test : ℕ → Bool) (top : ℕ → ℕ) (regions least : ℕ) → ((region : ℕ) → region < regions → least ≤ top region) → count_where test regions * least ≤ tops_where test top regions
count_of_many test top zero least each_least = let empty_sum = sum_none (λ any_region. if test any_region then 1 else 0) in let product : count_where test 0 * least ≡ 0 * least = ap (λ region. region * least) empty_sum in omega (arith, product)
count_of_many test top (suc regions) least each_least =
    let count_before = count_of_many test top regions least (λ region region_below. each_least region (omega (arith, region_below))) in
    let counted : ℕ → ℕ = λ any_region. if test any_region then 1 else 0 in
    let counted_top : ℕ → ℕ = λ any_region. if test any_region then top any_region else 0 in
    ⊎_elim
    (λ (met : test regions ≡ true).
    let count : count_where test (suc regions) ≡ count_where test regions + 1 = (let term_known = cond-true {A = ℕ} (test regions) 1 0 met in let next_sum = sum_next counted regions in omega (arith, next_sum, term_known)) in
    let product : count_where test (suc regions) * least ≡ (count_where test regions + 1) * least = ap (λ region. region * least) count in
    let term_known = cond-true (test regions) (top regions) 0 met in
    let next_sum = sum_next counted_top regions in
    omega (arith, count_before, product, next_sum, term_known, each_least regions (omega arith)))
    (λ (unmet : test regions ≡ false).
    let count : count_where test (suc regions) ≡ count_where test regions = (let term_known = cond-false {A = ℕ} (test regions) 1 0 unmet in let next_sum = sum_next counted regions in omega (arith, next_sum, term_known)) in
    let product : count_where test (suc regions) * least ≡ count_where test regions * least = ap (λ region. region * least) count in
    let next_sum = sum_next counted_top regions in
    omega (arith, count_before, product, next_sum))
    (cases_Bool (test regions))

-- a request that finds no room is crowded out, in each set of regions, by what was there and what was given before it
pub refused_among_granted : (region_words regions : ℕ) (asked top : ℕ → ℕ) (turn : ℕ) (test : ℕ → Bool) → asked turn ≤ region_words → room_at_turn region_words regions asked top turn ≡ None
    → count_where test regions * (region_words - asked turn + 1) ≤ tops_where test top regions + sum_below (granted region_words regions asked top) turn
refused_among_granted region_words regions asked top turn test asked_fits none_found =
    let tops_now = tops_served region_words regions asked top turn in
    let least_top : (region : ℕ) → region < regions → region_words - asked turn + 1 ≤ tops_now region = λ region region_below. (let region_full = none_has_room region_words tops_now (asked turn) regions none_found region region_below in omega (arith, region_full, asked_fits)) in
    omega (arith, count_of_many test tops_now regions (region_words - asked turn + 1) least_top, served_where test region_words regions asked top turn)

pub requests_are_served : RequestsAreServed
requests_are_served = record {
  left = λ region_words regions asked top turn none_found. record {
    each = none_has_room region_words (tops_served region_words regions asked top turn) (asked turn) regions none_found;
    crowded = λ test short. refused_among_granted region_words regions asked top turn test short none_found;
  };
  found = λ region_words regions asked top turn region lowest_region. has_room region_words (tops_served region_words regions asked top turn) (asked turn) regions region lowest_region;
  refused = λ region_words regions asked top turn each_full. all_full region_words (tops_served region_words regions asked top turn) (asked turn) regions each_full;
  sum = served_is;
}
