-- One step of one copier: what its access makes of the word, over plain variables.
use Rattle.std.proofs.Common.{◌≡◌, ◌≢◌, ℕ, ◌+◌, ◌≤◌, ◌<◌, ◌^◌, Bool, true, false, cond, refl, subst, arith}
use Rattle.std.specs.Prelude.{◌==◌, ⊤, if◌then◌else◌}
use Rattle.std.proofs.lemmas.Bool.Decides.{nat_tests}
use Rattle.heap_words.specs.Touch.{formed}
use Rattle.heap_words.specs.declared.access.Took.TheVariants.{More, Again, Done}
use Rattle.evac_room.specs.declared.wish.Copying.{Copying}
use Rattle.evac_room.specs.declared.wish.Copying.TheVariants as copying
use Rattle.heap_words.specs.Counter.{count_of, is_out_of_room, marked, IsQuiet}
use Rattle.evac_room.specs.declared.spot.RoomSpot.{RoomSpot}
use Rattle.evac_room.specs.declared.spot.RoomSpot.TheVariants.{Outside, Look, Raise, Inside, Lower, Ask, Mark, Wait, Stopped}
use Rattle.evac_room.specs.Spot.{is_ended, is_counted}
use Rattle.evac_room.specs.Rows.{form_at, next_at, IsFit}
use Rattle.evac_room.specs.Core.{copying_at, said}

-- What a copier counts on between its accesses: it raises only a word with bit 63 clear, and waits only once the bit is set.
abbrev pub Mine : ℕ → RoomSpot → Type 0
Mine word (Raise found) = found < 2 ^ 63
Mine word Wait = is_out_of_room word ≡ true
Mine word _ = ⊤

-- what a copier relies on while another one steps: bit 63 stays
pub mine_stays : (word next_word : ℕ) (spot : RoomSpot) → (is_out_of_room word ≡ true → is_out_of_room next_word ≡ true) → Mine word spot → Mine next_word spot
mine_stays word next_word (Raise found) stays mine = mine
mine_stays word next_word Wait stays mine = stays mine
mine_stays word next_word _ stays mine = tt

-- what a copier adds to the count
abbrev pub weight : RoomSpot → ℕ
weight spot = cond (is_counted spot) 1 0

-- what the word is after the step
abbrev pub after : ℕ → RoomSpot → ℕ
after word spot = formed (form_at spot) word

-- what each step keeps, and what it says
pub record IsKept (word : ℕ) (spot : RoomSpot) (made : ℕ) (next : RoomSpot) : Type 0 where
  pub is_word : made < 2 ^ 64
  pub counts : count_of made + weight spot ≡ count_of word + weight next
  pub bit_stays : is_out_of_room word ≡ true → is_out_of_room made ≡ true
  pub quiet_stays : IsQuiet word → made ≡ word
  pub mine : Mine made next

-- what each answer says of the word that was found
pub record Says (word : ℕ) (answer : Copying) : Type 0 where
  pub stopped_is_quiet : answer ≡ copying.Stopped → IsQuiet word
  pub none_enters : IsQuiet word → answer ≢ copying.Inside

-- what a copier may be sure of when it steps
pub record CanStep (word : ℕ) (spot : RoomSpot) : Type 0 where
  pub going : is_ended spot ≡ false
  pub is_word : word < 2 ^ 64
  pub few : count_of word ≤ 12
  pub is_in : is_counted spot ≡ true → 1 ≤ count_of word
  pub mine : Mine word spot

pub each_keeps : (word : ℕ) (spot : RoomSpot) → CanStep word spot → IsKept word spot (after word spot) (next_at spot word)
each_keeps word Outside can_step = absurd (cc (can_step.going))
each_keeps word Inside can_step = absurd (cc (can_step.going))
each_keeps word Stopped can_step = absurd (cc (can_step.going))
each_keeps word Look can_step = by_bit (is_out_of_room word) (count_of word == 0) refl refl
  where
    by_bit : (holds is_empty : Bool) → is_out_of_room word ≡ holds → (count_of word == 0) ≡ is_empty → IsKept word Look word (if holds then (if is_empty then Stopped else Look) else Raise word)
    by_bit true true room_test count_test = record { is_word = can_step.is_word; counts = refl; bit_stays = λ bit_set. bit_set; quiet_stays = λ quiet. refl; mine = tt }
    by_bit true false room_test count_test = record { is_word = can_step.is_word; counts = refl; bit_stays = λ bit_set. bit_set; quiet_stays = λ quiet. refl; mine = tt }
    by_bit false is_empty room_test count_test = record { is_word = can_step.is_word; counts = refl; bit_stays = λ bit_set. bit_set; quiet_stays = λ quiet. refl; mine = grind (arith, nat_tests) }
each_keeps word (Raise found) can_step = by_found (word == found) refl
  where
    by_found : (holds : Bool) → (word == found) ≡ holds → IsKept word (Raise found) (if holds then found + 1 else word) (if holds then Inside else Look)
    by_found true word_test = let same_word : word ≡ found = grind (arith, nat_tests) in let clear : found < 2 ^ 63 = can_step.mine in record {
      is_word = omega arith;
      counts = omega (arith, can_step.few);
      bit_stays = λ bit_set. absurd (grind (arith, nat_tests));
      quiet_stays = λ quiet. absurd (grind (arith, nat_tests, quiet.out_of_room));
      mine = tt;
    }
    by_found false word_test = record { is_word = can_step.is_word; counts = refl; bit_stays = λ bit_set. bit_set; quiet_stays = λ quiet. refl; mine = tt }
each_keeps word Lower can_step =
    let some_inside : 1 ≤ count_of word = can_step.is_in refl in record {
      is_word = omega (arith, can_step.is_word);
      counts = omega (arith, some_inside, can_step.is_word);
      bit_stays = λ out_of_room. grind (arith, nat_tests, some_inside, out_of_room, can_step.is_word);
      quiet_stays = λ quiet_word. absurd (omega (arith, some_inside, quiet_word.nobody));
      mine = tt;
    }
each_keeps word Ask can_step = record { is_word = can_step.is_word; counts = refl; bit_stays = λ out_of_room. out_of_room; quiet_stays = λ quiet_word. refl; mine = tt }
each_keeps word (Mark found) can_step = by_found (word == found) refl
  where
    by_found : (holds : Bool) → (word == found) ≡ holds → IsKept word (Mark found) (if holds then marked found else word) (if holds then Wait else Ask)
    by_found true word_test = let same_word : word ≡ found = grind (arith, nat_tests) in let some_counted : 1 ≤ count_of word = can_step.is_in refl in
        let some_found : 1 ≤ count_of found = subst (λ number. 1 ≤ count_of number) same_word some_counted in record {
          is_word = omega (arith, can_step.is_word);
          counts = omega (arith, can_step.few);
          bit_stays = λ bit_set. grind (arith, nat_tests);
          quiet_stays = λ quiet. absurd (omega (arith, some_counted, quiet.nobody));
          mine = grind (arith, nat_tests);
        }
    by_found false word_test = record { is_word = can_step.is_word; counts = refl; bit_stays = λ bit_set. bit_set; quiet_stays = λ quiet. refl; mine = tt }
each_keeps word Wait can_step = by_count (count_of word == 0) refl
  where
    by_count : (is_empty : Bool) → (count_of word == 0) ≡ is_empty → IsKept word Wait word (if is_empty then Stopped else Wait)
    by_count true count_test = record { is_word = can_step.is_word; counts = refl; bit_stays = λ bit_set. bit_set; quiet_stays = λ quiet. refl; mine = tt }
    by_count false count_test = record { is_word = can_step.is_word; counts = refl; bit_stays = λ bit_set. bit_set; quiet_stays = λ quiet. refl; mine = can_step.mine }

pub each_says : (word : ℕ) (spot : RoomSpot) → CanStep word spot → Says word (copying_at spot word)
each_says word Outside can_step = absurd (cc (can_step.going))
each_says word Inside can_step = absurd (cc (can_step.going))
each_says word Stopped can_step = absurd (cc (can_step.going))
each_says word Look can_step = by_bit (is_out_of_room word) (count_of word == 0) refl refl
  where
    by_bit : (holds is_empty : Bool) → is_out_of_room word ≡ holds → (count_of word == 0) ≡ is_empty
        → Says word (said (if holds then (if is_empty then Done else Again) else More) (if holds then (if is_empty then Stopped else Look) else Raise word))
    by_bit true true room_test count_test = record { stopped_is_quiet = λ outcome. record { out_of_room = room_test; nobody = grind (arith, nat_tests) }; none_enters = λ quiet outcome. cc }
    by_bit true false room_test count_test = record { stopped_is_quiet = λ outcome. absurd (cc (outcome)); none_enters = λ quiet outcome. cc }
    by_bit false is_empty room_test count_test = record { stopped_is_quiet = λ outcome. absurd (cc (outcome)); none_enters = λ quiet outcome. cc }
each_says word (Raise found) can_step = by_found (word == found) refl
  where
    by_found : (holds : Bool) → (word == found) ≡ holds → Says word (said (if holds then Done else Again) (if holds then Inside else Look))
    by_found true outcome = let same_word : word ≡ found = grind (arith, nat_tests) in let clear : found < 2 ^ 63 = can_step.mine in
        record { stopped_is_quiet = λ outcome. absurd (cc (outcome)); none_enters = λ quiet outcome. grind (arith, nat_tests, quiet.out_of_room) }
    by_found false outcome = record { stopped_is_quiet = λ outcome. absurd (cc (outcome)); none_enters = λ quiet outcome. cc }
each_says word Lower can_step = record { stopped_is_quiet = λ same_outcome. absurd (cc (same_outcome)); none_enters = λ quiet_word same_outcome. cc }
each_says word Ask can_step = record { stopped_is_quiet = λ same_outcome. absurd (cc (same_outcome)); none_enters = λ quiet_word same_outcome. cc }
each_says word (Mark found) can_step = by_found (word == found)
  where
    by_found : (holds : Bool) → Says word (said (if holds then More else Again) (if holds then Wait else Ask))
    by_found true = record { stopped_is_quiet = λ outcome. absurd (cc (outcome)); none_enters = λ quiet outcome. cc }
    by_found false = record { stopped_is_quiet = λ outcome. absurd (cc (outcome)); none_enters = λ quiet outcome. cc }
each_says word Wait can_step = by_count (count_of word == 0) refl
  where
    by_count : (is_empty : Bool) → (count_of word == 0) ≡ is_empty → Says word (said (if is_empty then Done else Again) (if is_empty then Stopped else Wait))
    by_count true count_test = record { stopped_is_quiet = λ outcome. record { out_of_room = can_step.mine; nobody = grind (arith, nat_tests) }; none_enters = λ quiet outcome. cc }
    by_count false count_test = record { stopped_is_quiet = λ outcome. absurd (cc (outcome)); none_enters = λ quiet outcome. cc }

-- the word that it finds is fit
pub each_fits : (word : ℕ) (spot : RoomSpot) → CanStep word spot → IsFit spot word
each_fits word Lower can_step =
    let some_counted : 1 ≤ count_of word = can_step.is_in refl in omega (arith, some_counted)
each_fits word _ can_step = tt
