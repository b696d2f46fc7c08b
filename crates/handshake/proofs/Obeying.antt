-- The rows obey, and what a user of them needs: accesses elsewhere, and a next spot that stands as another.
use Rattle.std.proofs.Common.{◌≡◌, ◌≢◌, ℕ, ◌≤◌, Bool, true, false, refl, sym, ap, ◌∙◌, subst, arith, inl, inr}
use Rattle.std.specs.Prelude.{nat_eq, if◌then◌else◌}
use Rattle.std.proofs.lemmas.Bool.{cond-false, ne_eqb, leb-true}
use Rattle.heap_words.specs.declared.config.Config.{Config}
use Rattle.heap_words.specs.declared.access.Access.{Access}
use Rattle.heap_words.specs.Access.{table_index}
use Rattle.heap_words.specs.Words.{Word, Pause, Left, State, IsWord, is_image, word_at, image_start}
use Rattle.heap_words.proofs.Rows.{words_differ, is_image-word_at}
use Rattle.heap_words.specs.Touch.{Touch, placed}
use Rattle.heap_words.proofs.Touches.{table_index-access_at}
use Rattle.handshake.specs.declared.enter_spot.EnterSpot.{EnterSpot}
use Rattle.handshake.specs.declared.enter_spot.EnterSpot.TheVariants as enter
use Rattle.handshake.specs.declared.stop_spot.StopSpot.{StopSpot}
use Rattle.handshake.specs.declared.stop_spot.StopSpot.TheVariants as stop
use Rattle.handshake.specs.EnterRows.{touch_at as enter_touch, next_at as enter_next, is_ended as is_entered, leave_touch}
use Rattle.handshake.specs.StopRows.{touch_at as stop_touch, next_at as stop_next, is_ended as is_stopped, after_seat, go_touch}
use Rattle.handshake.specs.Standing.{Standing, outside, looks, backs, inside, leaves, idle, stops, checks, works, goes, is_within, is_pausing, is_free, enter_standing, stop_standing}
use Rattle.handshake.specs.Obeys.{IsElsewhere, Obeys, RowsObey}

-- an access of a word of the image is elsewhere
pub image_elsewhere : (config : Config) (access : Access) → image_start config ≤ table_index access → IsElsewhere config access
image_elsewhere config access in_image = record {
  not_pause = λ same_index. omega (arith, in_image, same_index);
  not_state = λ seat seat_below same_index. omega (arith, in_image, seat_below, same_index);
}

-- an access by the name of a word of the image is of the image
pub placed_above : (config : Config) (touch : Touch) → IsWord config touch.word → is_image touch.word ≡ true → image_start config ≤ table_index (placed config touch)
placed_above config touch is_word image =
    subst (λ index. image_start config ≤ index) (sym (table_index-access_at (word_at config touch.word) touch.form)) (leb-true _ _ (sym (is_image-word_at config touch.word is_word) ∙ image))

-- and is not of the count of mutators
pub image_not_left : (config : Config) (access : Access) → image_start config ≤ table_index access → table_index access ≢ word_at config Left
image_not_left config access in_image same_index = omega (arith, in_image, same_index)

-- whether a word is not one of the handshake
abbrev pub is_other : Word → Bool
is_other Pause = false
is_other (State seat) = false
is_other _ = true

-- an access by the name of another word is elsewhere
pub placed_elsewhere : (config : Config) (touch : Touch) → IsWord config touch.word → is_other touch.word ≡ true → IsElsewhere config (placed config touch)
placed_elsewhere config touch is_word other_word = record {
  not_pause = λ same_index. absurd (cc (other_word, ap is_other (words_differ config touch.word Pause is_word tt (sym at ∙ same_index))));
  not_state = λ seat seat_below same_index. absurd (cc (other_word, ap is_other (words_differ config touch.word (State seat) is_word seat_below (sym at ∙ same_index))));
}
  where
    at : table_index (placed config touch) ≡ word_at config touch.word
    at = table_index-access_at (word_at config touch.word) touch.form

-- What a step obeys, it obeys by any names of its next spots.
pub obeys_same : (config : Config) (seat : ℕ) (standing : Standing) (access : Access) (next_standing other_standing : ℕ → Standing) → ((got : ℕ) → other_standing got ≡ next_standing got) → Obeys config seat standing access next_standing → Obeys config seat standing access other_standing
obeys_same config seat outside access next_standing other_standing same_standing (inl obeys) = inl (record { access_is = obeys.access_is; next_is = λ got. same_standing got ∙ obeys.next_is got })
obeys_same config seat outside access next_standing other_standing same_standing (inr obeys) = inr (record { harmless = obeys.harmless; next_is = λ got. same_standing got ∙ obeys.next_is got })
obeys_same config seat looks access next_standing other_standing same_standing obeys = record { access_is = obeys.access_is; enters = same_standing 0 ∙ obeys.enters; backs_off = λ got some_got. same_standing got ∙ obeys.backs_off got some_got }
obeys_same config seat backs access next_standing other_standing same_standing obeys = record { access_is = obeys.access_is; next_is = λ got. same_standing got ∙ obeys.next_is got }
obeys_same config seat inside access next_standing other_standing same_standing obeys = record { elsewhere = obeys.elsewhere; goes_on = λ got. ap is_within (same_standing got) ∙ obeys.goes_on got }
obeys_same config seat leaves access next_standing other_standing same_standing obeys = record { access_is = obeys.access_is; next_is = λ got. same_standing got ∙ obeys.next_is got }
obeys_same config seat idle access next_standing other_standing same_standing obeys = record { elsewhere = obeys.elsewhere; goes_on = λ got. ap is_free (same_standing got) ∙ obeys.goes_on got }
obeys_same config seat stops access next_standing other_standing same_standing obeys = record { access_is = obeys.access_is; next_is = λ got. same_standing got ∙ obeys.next_is got }
obeys_same config seat (checks other_seat) access next_standing other_standing same_standing obeys = record { access_is = obeys.access_is; goes_on = same_standing 0 ∙ obeys.goes_on; waits = λ got some_got. same_standing got ∙ obeys.waits got some_got }
obeys_same config seat works access next_standing other_standing same_standing obeys = record { elsewhere = obeys.elsewhere; goes_on = λ got. ap is_pausing (same_standing got) ∙ obeys.goes_on got }
obeys_same config seat goes access next_standing other_standing same_standing obeys = record { access_is = obeys.access_is; next_is = λ got. same_standing got ∙ obeys.next_is got }

-- a word that is not 0
pub some_test : {A : Type 0} (f : A → Standing) (got : ℕ) (none_spot some_spot : A) → got ≢ 0 → f (if nat_eq got 0 then none_spot else some_spot) ≡ f some_spot
some_test f got none_spot some_spot got_positive = ap f (cond-false (nat_eq got 0) none_spot some_spot (ne_eqb got 0 got_positive))

-- the rows of entering
pub enter_obeys : (config : Config) (seat : ℕ) (spot : EnterSpot) → is_entered spot ≡ false → Obeys config seat (enter_standing spot) (placed config (enter_touch seat spot)) (λ got. enter_standing (enter_next spot got))
enter_obeys config seat enter.Raise spot_going = inl (record { access_is = refl; next_is = λ got. refl })
enter_obeys config seat enter.Look spot_going = record { access_is = refl; enters = refl; backs_off = λ got some_got. some_test enter_standing got enter.Inside enter.Lower some_got }
enter_obeys config seat enter.Lower spot_going = record { access_is = refl; next_is = λ got. refl }
enter_obeys config seat enter.Await spot_going = inr (record { harmless = inl refl; next_is = λ got. out (nat_eq got 0) })
  where
    out : (holds : Bool) → enter_standing (if holds then enter.Raise else enter.Await) ≡ outside
    out true = refl
    out false = refl
enter_obeys config seat enter.Inside spot_going = absurd (cc (spot_going))

-- the access of leaving
pub leave_obeys : (config : Config) (seat : ℕ) → Obeys config seat leaves (placed config (leave_touch seat)) (λ got. outside)
leave_obeys config seat = record { access_is = refl; next_is = λ got. refl }

-- the rows of stopping
pub stop_obeys : (config : Config) (seat : ℕ) (spot : StopSpot) → is_stopped spot ≡ false → Obeys config seat (stop_standing spot) (placed config (stop_touch spot)) (λ got. stop_standing (stop_next config spot got))
stop_obeys config seat stop.Raise spot_going = record { access_is = refl; next_is = λ got. refl }
stop_obeys config seat (stop.Check other_seat) spot_going = record { access_is = refl; goes_on = refl; waits = λ got some_got. some_test stop_standing got (after_seat config other_seat) (stop.Check other_seat) some_got }
stop_obeys config seat stop.Stopped spot_going = absurd (cc (spot_going))

-- the access that ends a pause
pub go_obeys : (config : Config) (seat : ℕ) → Obeys config seat goes (placed config go_touch) (λ got. idle)
go_obeys config seat = record { access_is = refl; next_is = λ got. refl }

pub rows_obey : (config : Config) → RowsObey config
rows_obey config = record { enter = enter_obeys config; leave = leave_obeys config; stop = stop_obeys config; go = go_obeys config }
