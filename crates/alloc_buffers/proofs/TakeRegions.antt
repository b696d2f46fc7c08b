-- The steps of a taking of room that take a region out of the free word, share it, and give it back.
use Rattle.std.proofs.Common.{◌≡◌, ◌≢◌, ℕ, ◌+◌, ◌^◌, ◌<◌, ◌≤◌, true, false, Option, Some, None, ⊎_elim, refl, sym, ap, ◌∙◌, subst, arith}
use Rattle.std.specs.Prelude.{◌==◌, bit_and, bit_or}
use Rattle.std.specs.Int.{bit_at}
use Rattle.std.proofs.lemmas.Bool.{cases_eq, cases_Bool, cond-true, cond-false, eqb-true, and_from, and_parts, lt-ltb, le-leb, ltb-true, leb-true, true≢false}
use Rattle.std.proofs.lemmas.Option.{none-some, same_Some}
use Rattle.heap_words.specs.declared.config.Config.{Config}
use Rattle.heap_words.specs.Words.{Word, Phase, Cset, Free, Evac, Claim, Top, Tams, Black, Heap, Share, write}
use Rattle.heap_words.specs.Touch.{touched}
use Rattle.regions.specs.Sets.{IsIn, all_but}
use Rattle.heap_world.specs.World.{World, IsOpen, IsEvacuating, Shared}
use Rattle.heap_world.proofs.FunctionUpdates.{updated, updated_there, updated_else}
use Rattle.heap_world.proofs.Evacuated.{evacuated_owned}
use Rattle.heap_world.proofs.FreeRegions.{owner_stays, free_before, free_without, open_stays, free_with, in_use_still}
use Rattle.heap_world.proofs.RegionWorlds.{is_of_regions, region_world, keeps_regions, others_regions}
use Rattle.alloc_buffers.specs.declared.spot.Kind.{Kind}
use Rattle.alloc_buffers.specs.declared.spot.TakeSpot.TheVariants.{LoadShared, LoadTop, LoadFree, TakeRegion, ShareRegion, GiveBack}
use Rattle.alloc_buffers.specs.Rows.{only, touch_at}
use Rattle.alloc_buffers.specs.Facts.{CanTake}
use Rattle.alloc_buffers.proofs.TakeSteps.{TakeStep, can_at, looked, exchange_lost}

-- a store into the free word changes no word but that
free_else : (memory : Word → ℕ) (value : ℕ) (word : Word) → is_of_regions word ≡ false → write memory Free value word ≡ memory word
free_else memory value Free not_regions = absurd (true≢false not_regions)
free_else memory value Share not_regions = refl
free_else memory value _ not_regions = refl

-- nor does one into the word of the shared region
share_else : (memory : Word → ℕ) (value : ℕ) (word : Word) → is_of_regions word ≡ false → write memory Share value word ≡ memory word
share_else memory value Free not_regions = refl
share_else memory value Share not_regions = absurd (true≢false not_regions)
share_else memory value _ not_regions = refl

module _ (config : Config) (world : World) (seat words : ℕ) (kind : Kind) where
  abbrev tops_now : ℕ → ℕ
  tops_now region = world.memory (Top region)

  -- evacuation goes on with another free word and other owners
  evacuating : (free_word : ℕ) (owner : ℕ → Option ℕ) → Shared config world → ((region : ℕ) → IsIn free_word region → IsIn (world.memory Cset) region → ⊥) → ((region other_seat : ℕ) → owner region ≡ Some other_seat → IsIn (world.memory Cset) region → ⊥)
      → IsEvacuating config (world.memory Phase) (world.memory Cset) (world.memory Evac) (world.memory Claim) free_word tops_now (λ region. world.memory (Tams region)) (λ address. world.memory (Heap address)) (λ number. world.memory (Black number)) world.block owner world.ghost.copying world.ghost.working
  evacuating free_word owner shared in_use nobodys =
      evacuated_owned config (world.memory Phase) (world.memory Cset) (world.memory Evac) (world.memory Claim) (world.memory Free) tops_now (λ region. world.memory (Tams region)) (λ address. world.memory (Heap address)) (λ number. world.memory (Black number)) world.block world.ghost.owner
      world.ghost.copying world.ghost.working shared.evacuated free_word owner in_use nobodys

  module _ (buffer shared_word region : ℕ) (shared : Shared config world) (can_take : CanTake config world seat words (TakeRegion buffer shared_word region)) where
    abbrev without : ℕ
    without = bit_and (world.memory Free) (all_but region)

    -- the region is one of the heap, and the word of the shared region names one
    numbers : (region < config.regions) × (shared_word ≤ config.regions)
    numbers = let numbers_fit = and_parts _ _ (and_parts _ _ can_take.ready).1 in (ltb-true region config.regions numbers_fit.0, leb-true shared_word config.regions numbers_fit.1)

    -- no region of the set is free then
    not_set : (asked_region : ℕ) → IsIn without asked_region → IsIn (world.memory Cset) asked_region → ⊥
    not_set asked_region is_free region_in_set = shared.evacuated.aside.in_use asked_region (free_before config (world.memory Free) region numbers.0 asked_region (shared.evacuated.aside.in_heap asked_region region_in_set) is_free) region_in_set

    -- the seat was the first to clear the region's bit
    takes_it : (bit_at (world.memory Free) region == 1) ≡ true → TakeStep config world seat words kind (TakeRegion buffer shared_word region)
    takes_it won =
        let region_below = numbers.0 in
        let few_regions = config.in_range.most_regions in
        let bit : bit_at (world.memory Free) region ≡ 1 = eqb-true _ _ won in
        let nobodys : world.ghost.owner region ≡ None = shared.owned.free_word.nobodys region region_below bit in
        let owner : ℕ → Option ℕ = updated world.ghost.owner region (Some seat) in
        let next_world : World = region_world config world (touched world.memory (touch_at seat words (TakeRegion buffer shared_word region))) (updated world.ghost.owner region (Some seat)) (λ word known_fact. free_else world.memory without word known_fact) in
        let others_own : (asked_region : ℕ) → asked_region ≢ region → updated world.ghost.owner region (Some seat) asked_region ≡ world.ghost.owner asked_region = λ asked_region regions_differ. updated_else world.ghost.owner region (Some seat) asked_region (λ regions_equal. regions_differ (sym regions_equal)) in
        let opens : (asked_region : ℕ) → IsOpen config (world.memory Free) (world.memory Cset) world.ghost.owner asked_region → IsOpen config without (world.memory Cset) (updated world.ghost.owner region (Some seat)) asked_region =
        open_stays config (world.memory Free) (world.memory Cset) region world.ghost.owner (updated world.ghost.owner region (Some seat)) region_below (λ asked_region outside. others_own asked_region (λ same_region. outside (ap (bit_at (world.memory Free)) same_region ∙ bit))) in
        record {
          world = next_world;
          memory = refl;
          graph = refl;
          shared = record {
            parsable = shared.parsable;
            contents = shared.contents;
            owned = record {
              free_word = free_without config (world.memory Free) region tops_now world.ghost.owner (updated world.ghost.owner region (Some seat)) region_below others_own shared.owned.free_word;
              shared_one = λ asked_region known_fact. opens asked_region (shared.owned.shared_one asked_region known_fact);
              rooms = shared.owned.rooms;
              buffers = shared.owned.buffers;
              outside = shared.owned.outside;
            };
            phased = shared.phased;
            unwritten = shared.unwritten;
            marked = shared.marked;
            evacuated = evacuating without (updated world.ghost.owner region (Some seat)) shared not_set
                (λ asked_region other_seat known_fact region_inside. ⊎_elim
                (λ (same_region : region ≡ asked_region). shared.evacuated.aside.in_use region bit (subst (IsIn (world.memory Cset)) (sym same_region) region_inside))
                (λ (regions_differ : region ≢ asked_region). shared.evacuated.aside.nobodys asked_region other_seat (sym (updated_else world.ghost.owner region (Some seat) asked_region regions_differ) ∙ known_fact) region_inside)
                (cases_eq region asked_region));
            updated = shared.updated;
            pinned = shared.pinned;
          };
          own = (
            subst (λ spot. CanTake config next_world seat words spot)
                (sym (cond-true (bit_at (world.memory Free) region == 1) (ShareRegion buffer shared_word region) (LoadFree buffer shared_word) won))
                (can_at config world seat words kind (TakeRegion buffer shared_word region) (ShareRegion buffer shared_word region) next_world can_take refl refl
                (and_from _ _ (and_from _ _ refl (and_from _ _ (lt-ltb shared_word (2 ^ 64) (omega (arith, numbers.1, few_regions))) (lt-ltb (region + 1) (2 ^ 64) (omega (arith, region_below, few_regions))))) (and_parts _ _ can_take.ready).1)
                (record { is = can_take.facts.is; less = can_take.facts.less }, record { within = region_below; own = updated_there world.ghost.owner region (Some seat); empty = shared.owned.free_word.empty region region_below bit })
                can_take.rooms),
            record { copying = refl; working = refl },
          );
          keeps = keeps_regions config world (touched world.memory (touch_at seat words (TakeRegion buffer shared_word region))) (updated world.ghost.owner region (Some seat)) (λ word known_fact. free_else world.memory without word known_fact) seat;
          others = λ some_seat seats_differ. others_regions config world (touched world.memory (touch_at seat words (TakeRegion buffer shared_word region))) (updated world.ghost.owner region (Some seat)) (λ word known_fact. free_else world.memory without word known_fact) some_seat
              (λ asked_region known_fact. owner_stays world.ghost.owner region seat nobodys asked_region some_seat known_fact) opens;
        }

    -- another seat was: the bit is clear already, and it looks again
    looks_again : (bit_at (world.memory Free) region == 1) ≡ false → TakeStep config world seat words kind (TakeRegion buffer shared_word region)
    looks_again lost =
        let region_below = numbers.0 in
        let next_world : World = region_world config world (touched world.memory (touch_at seat words (TakeRegion buffer shared_word region))) world.ghost.owner (λ word known_fact. free_else world.memory without word known_fact) in
        let opens : (asked_region : ℕ) → IsOpen config (world.memory Free) (world.memory Cset) world.ghost.owner asked_region → IsOpen config without (world.memory Cset) world.ghost.owner asked_region =
        open_stays config (world.memory Free) (world.memory Cset) region world.ghost.owner world.ghost.owner region_below (λ asked_region outside. refl) in
        record {
          world = next_world;
          memory = refl;
          graph = refl;
          shared = record {
            parsable = shared.parsable;
            contents = shared.contents;
            owned = record {
              free_word = free_without config (world.memory Free) region tops_now world.ghost.owner world.ghost.owner region_below (λ asked_region regions_differ. refl) shared.owned.free_word;
              shared_one = λ asked_region known_fact. opens asked_region (shared.owned.shared_one asked_region known_fact);
              rooms = shared.owned.rooms;
              buffers = shared.owned.buffers;
              outside = shared.owned.outside;
            };
            phased = shared.phased;
            unwritten = shared.unwritten;
            marked = shared.marked;
            evacuated = evacuating without world.ghost.owner shared not_set shared.evacuated.aside.nobodys;
            updated = shared.updated;
            pinned = shared.pinned;
          };
          own = (
            subst (λ spot. CanTake config next_world seat words spot)
                (sym (cond-false (bit_at (world.memory Free) region == 1) (ShareRegion buffer shared_word region) (LoadFree buffer shared_word) lost))
                (can_at config world seat words kind (TakeRegion buffer shared_word region) (LoadFree buffer shared_word) next_world can_take refl refl
                (and_from _ _ refl (le-leb shared_word config.regions numbers.1)) (record { is = can_take.facts.is; less = can_take.facts.less }) can_take.rooms),
            record { copying = refl; working = refl },
          );
          keeps = keeps_regions config world (touched world.memory (touch_at seat words (TakeRegion buffer shared_word region))) world.ghost.owner (λ word known_fact. free_else world.memory without word known_fact) seat;
          others = λ other_seat differs. others_regions config world (touched world.memory (touch_at seat words (TakeRegion buffer shared_word region))) world.ghost.owner (λ word known_fact. free_else world.memory without word known_fact) other_seat (λ asked_region known_fact. known_fact) opens;
        }

    -- the step that takes a region
    pub at_take_region : TakeStep config world seat words kind (TakeRegion buffer shared_word region)
    at_take_region = ⊎_elim takes_it looks_again (cases_Bool (bit_at (world.memory Free) region == 1))

  module _ (region : ℕ) (shared : Shared config world) (own_region : world.ghost.owner region ≡ Some seat) where
    -- nobody has the region any more
    abbrev given_up : ℕ → Option ℕ
    given_up = updated world.ghost.owner region None

    -- who has a region then had it
    had : (asked_region other_seat : ℕ) → given_up asked_region ≡ Some other_seat → world.ghost.owner asked_region ≡ Some other_seat
    had asked_region other_seat owner_then = ⊎_elim
        (λ (same_region : region ≡ asked_region). absurd (none-some other_seat (sym (ap given_up (sym same_region) ∙ updated_there world.ghost.owner region None) ∙ owner_then)))
        (λ (regions_differ : region ≢ asked_region). sym (updated_else world.ghost.owner region None asked_region regions_differ) ∙ owner_then)
        (cases_eq region asked_region)

    -- other seats keep theirs
    keep : (other_seat : ℕ) → other_seat ≢ seat → (asked_region : ℕ) → world.ghost.owner asked_region ≡ Some other_seat → given_up asked_region ≡ Some other_seat
    keep other_seat differ asked_region owner_before = updated_else world.ghost.owner region None asked_region (λ same_region. differ (same_Some other_seat seat (sym owner_before ∙ ap world.ghost.owner (sym same_region) ∙ own_region))) ∙ owner_before

    -- who had no region has none
    nobodys_still : (asked_region : ℕ) → world.ghost.owner asked_region ≡ None → given_up asked_region ≡ None
    nobodys_still asked_region no_owner = ⊎_elim
        (λ (same_region : region ≡ asked_region). ap given_up (sym same_region) ∙ updated_there world.ghost.owner region None)
        (λ (regions_differ : region ≢ asked_region). updated_else world.ghost.owner region None asked_region regions_differ ∙ no_owner)
        (cases_eq region asked_region)

    -- a region that may be carved is another one
    another : (asked_region : ℕ) → world.ghost.owner asked_region ≡ None → asked_region ≢ region
    another asked_region no_owner same_region = none-some seat (sym no_owner ∙ ap world.ghost.owner same_region ∙ own_region)

  module _ (buffer shared_word region : ℕ) (shared : Shared config world) (can_take : CanTake config world seat words (ShareRegion buffer shared_word region)) where
    abbrev taken_own : world.ghost.owner region ≡ Some seat
    taken_own = can_take.facts.1.own

    -- the seat was the first to share a region
    shares_it : (world.memory Share == shared_word) ≡ true → TakeStep config world seat words kind (ShareRegion buffer shared_word region)
    shares_it won =
        let own_region = can_take.facts.1.own in
        let next_world : World = region_world config world (write world.memory Share (region + 1)) (given_up region shared own_region) (λ word known_fact. share_else world.memory (region + 1) word known_fact) in
        let opens : (asked_region : ℕ) → IsOpen config (world.memory Free) (world.memory Cset) world.ghost.owner asked_region → IsOpen config (world.memory Free) (world.memory Cset) (given_up region shared own_region) asked_region =
        λ asked_region known_fact. record { within = known_fact.within; in_use = known_fact.in_use; nobodys = nobodys_still region shared own_region asked_region known_fact.nobodys; outside = known_fact.outside } in
        let region_open : IsOpen config (world.memory Free) (world.memory Cset) (given_up region shared own_region) region =
        record {
          within = can_take.facts.1.within;
          in_use = λ inside. none-some seat (sym (shared.owned.free_word.nobodys region can_take.facts.1.within inside) ∙ own_region);
          nobodys = updated_there world.ghost.owner region None;
          outside = λ inside. shared.evacuated.aside.nobodys region seat own_region inside;
        } in
        record {
          world = next_world;
          memory = ap (write world.memory Share) (sym (cond-true (world.memory Share == shared_word) (region + 1) (world.memory Share) won));
          graph = refl;
          shared = record {
            parsable = shared.parsable;
            contents = shared.contents;
            owned = record {
              free_word = record {
                no_more = shared.owned.free_word.no_more;
                empty = shared.owned.free_word.empty;
                nobodys = λ asked_region inside bit. nobodys_still region shared own_region asked_region (shared.owned.free_word.nobodys asked_region inside bit);
              };
              shared_one = λ asked_region known_fact. let same_region : region ≡ asked_region = omega (arith, known_fact) in subst (λ open_region. IsOpen config (world.memory Free) (world.memory Cset) (given_up region shared own_region) open_region) same_region region_open;
              rooms = shared.owned.rooms;
              buffers = shared.owned.buffers;
              outside = shared.owned.outside;
            };
            phased = shared.phased;
            unwritten = shared.unwritten;
            marked = shared.marked;
            evacuated = evacuating (world.memory Free) (given_up region shared own_region) shared shared.evacuated.aside.in_use (λ asked_region other_seat known_fact inside. shared.evacuated.aside.nobodys asked_region other_seat (had region shared own_region asked_region other_seat known_fact) inside);
            updated = shared.updated;
            pinned = shared.pinned;
          };
          own = (
            subst (λ spot. CanTake config next_world seat words spot)
                (sym (cond-true (world.memory Share == shared_word) (LoadTop buffer region) (GiveBack buffer region) won))
                (can_at config world seat words kind (ShareRegion buffer shared_word region) (LoadTop buffer region) next_world can_take refl refl
                (and_from _ _ (and_from _ _ (lt-ltb region config.regions can_take.facts.1.within) refl) refl)
                (record { is = can_take.facts.0.is; less = can_take.facts.0.less }, region_open) can_take.rooms),
            record { copying = refl; working = refl },
          );
          keeps = keeps_regions config world (write world.memory Share (region + 1)) (given_up region shared own_region) (λ word known_fact. share_else world.memory (region + 1) word known_fact) seat;
          others = λ some_seat differs. others_regions config world (write world.memory Share (region + 1)) (given_up region shared own_region) (λ word known_fact. share_else world.memory (region + 1) word known_fact) some_seat (keep region shared own_region some_seat differs) opens;
        }

    -- the step that shares a region: where another machine was faster, it gives its own back
    pub at_share_region : TakeStep config world seat words kind (ShareRegion buffer shared_word region)
    at_share_region = ⊎_elim
        shares_it
        (λ (lost : (world.memory Share == shared_word) ≡ false).
        looked config world seat words kind (ShareRegion buffer shared_word region) (GiveBack buffer region) shared can_take (exchange_lost world.memory Share shared_word (region + 1) lost)
        (cond-false (world.memory Share == shared_word) (LoadTop buffer region) (GiveBack buffer region) lost)
        (and_from _ _ (and_from _ _ refl (lt-ltb (only region) (2 ^ 64) (omega arith))) (lt-ltb region config.regions can_take.facts.1.within))
        can_take.facts can_take.rooms)
        (cases_Bool (world.memory Share == shared_word))

  -- the step that gives the region back
  pub at_give_back : (buffer region : ℕ) → Shared config world → CanTake config world seat words (GiveBack buffer region) → TakeStep config world seat words kind (GiveBack buffer region)
  at_give_back buffer region shared can_take =
      let region_taken = can_take.facts.1 in
      let own_region = region_taken.own in
      let few_regions = config.in_range.most_regions in
      let region_fits : region < 64 = (let region_below = region_taken.within in omega (arith, region_below, few_regions)) in
      let next_world : World = region_world config world (touched world.memory (touch_at seat words (GiveBack buffer region))) (given_up region shared own_region) (λ word known_fact. free_else world.memory (bit_or (world.memory Free) (only region)) word known_fact) in
      let opens : (asked_region : ℕ) → IsOpen config (world.memory Free) (world.memory Cset) world.ghost.owner asked_region → IsOpen config (bit_or (world.memory Free) (only region)) (world.memory Cset) (given_up region shared own_region) asked_region =
      λ asked_region known_fact. record {
        within = known_fact.within;
        in_use = in_use_still (world.memory Free) region asked_region region_fits (another region shared own_region asked_region known_fact.nobodys) known_fact.in_use;
        nobodys = nobodys_still region shared own_region asked_region known_fact.nobodys;
        outside = known_fact.outside;
      } in
      record {
        world = next_world;
        memory = refl;
        graph = refl;
        shared = record {
          parsable = shared.parsable;
          contents = shared.contents;
          owned = record {
            free_word = free_with config (world.memory Free) region tops_now world.ghost.owner (given_up region shared own_region) region_taken.within region_taken.empty (updated_there world.ghost.owner region None)
                (λ asked_region regions_differ. updated_else world.ghost.owner region None asked_region (λ regions_equal. regions_differ (sym regions_equal))) shared.owned.free_word;
            shared_one = λ asked_region known_fact. opens asked_region (shared.owned.shared_one asked_region known_fact);
            rooms = shared.owned.rooms;
            buffers = shared.owned.buffers;
            outside = shared.owned.outside;
          };
          phased = shared.phased;
          unwritten = shared.unwritten;
          marked = shared.marked;
          evacuated = evacuating (bit_or (world.memory Free) (only region)) (given_up region shared own_region) shared
              (λ asked_region is_free region_inside. ⊎_elim
              (λ (same_region : asked_region ≡ region). shared.evacuated.aside.nobodys region seat own_region (subst (IsIn (world.memory Cset)) same_region region_inside))
              (λ (regions_differ : asked_region ≢ region). in_use_still (world.memory Free) region asked_region region_fits regions_differ (λ was_free. shared.evacuated.aside.in_use asked_region was_free region_inside) is_free)
              (cases_eq asked_region region))
              (λ asked_region other_seat known_fact region_inside. shared.evacuated.aside.nobodys asked_region other_seat (had region shared own_region asked_region other_seat known_fact) region_inside);
          updated = shared.updated;
          pinned = shared.pinned;
        };
        own = (
          can_at config world seat words kind (GiveBack buffer region) (LoadShared buffer) next_world can_take refl refl refl (record { is = can_take.facts.0.is; less = can_take.facts.0.less }) can_take.rooms,
          record { copying = refl; working = refl },
        );
        keeps = keeps_regions config world (touched world.memory (touch_at seat words (GiveBack buffer region))) (given_up region shared own_region) (λ word known_fact. free_else world.memory (bit_or (world.memory Free) (only region)) word known_fact) seat;
        others = λ some_seat seats_differ. others_regions config world (touched world.memory (touch_at seat words (GiveBack buffer region))) (given_up region shared own_region) (λ word known_fact. free_else world.memory (bit_or (world.memory Free) (only region)) word known_fact) some_seat
            (keep region shared own_region some_seat seats_differ) opens;
      }
