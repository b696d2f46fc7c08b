-- The machines with which a heap begins.
use Rattle.std.proofs.Common.{◌≡◌, ℕ, ◌+◌, ◌<◌, Bool, true, false, List, [], ◌∷◌, ◌++◌, length, map, Some, refl, sym, ap, ◌∙◌, arith}
use Rattle.std.specs.Prelude.{slice_get, nat_lt, if◌then◌else◌}
use Rattle.std.specs.List.{range_with_len}
use Rattle.std.proofs.lemmas.Bool.{false≢true, lt-ltb}
use Rattle.std.proofs.lemmas.List.{map-append}
use Rattle.std.proofs.lemmas.List.FromFn.{get_or-map-range_with_len, length-map-range_with_len, map-range_with_len_more}
use Rattle.std.proofs.lemmas.Option.{slice_get-get_or, slice_get_within, get_or_from_slice_get}
use Rattle.std.proofs.lemmas.Simd.{map-map}
use Rattle.heap_words.specs.declared.config.Config.{Config}
use Rattle.heap_words.specs.Ranges.{seat_count}
use Rattle.shen_graph.specs.declared.command.Command.{Command}
use Rattle.mutator.specs.Rows.{fresh_mutator}
use Rattle.step_core.specs.Actor.{mutating, fresh_control, Actor, fresh_helper}
use Rattle.step_core.specs.Machines.{is_resting, may_begin, made_of_machine}
use Rattle.heap_machines.specs.Roles.{is_mutating}
use Rattle.step_core.specs.Opening.{first_free, opening_machine, opening_actor, opening}
use Rattle.heap_machines.specs.declared.machine.Machine.{Machine}
use Rattle.heap_machines.specs.Shown.{shown}
use Rattle.heap_machines.specs.Scripts.{IsOnScript}

-- one machine more
pub machines_more : (config : Config) (machines : List Machine) (new : Machine) (number : ℕ) → map shown machines ≡ map (opening_machine config) (range_with_len 0 number) → shown new ≡ opening_machine config number → map shown (machines ++ new ∷ []) ≡ map (opening_machine config) (range_with_len 0 (number + 1))
machines_more config machines new number so_far shown_is =
    map-append shown machines (new ∷ []) ∙ ap (λ xs. xs ++ shown new ∷ []) so_far ∙ ap (λ machine. map (opening_machine config) (range_with_len 0 number) ++ machine ∷ []) shown_is
    ∙ sym (map-range_with_len_more (opening_machine config) 0 number number (omega arith))

-- how many there are
pub first_count : (config : Config) → length (opening config).machines ≡ seat_count config.mutators config.helpers
unfolding opening
first_count config = length-map-range_with_len (opening_actor config) 0 (seat_count config.mutators config.helpers)

-- the actor of a number
pub first_actor : (config : Config) (seat : ℕ) → seat < seat_count config.mutators config.helpers → slice_get (opening config).machines seat ≡ Some (opening_actor config seat)
unfolding opening
first_actor config seat seat_below =
    slice_get-get_or (opening config).machines seat (opening_actor config seat) (let machine_count = length-map-range_with_len (opening_actor config) 0 (seat_count config.mutators config.helpers) in omega arith)
    ∙ ap (λ actor. Some actor) (get_or-map-range_with_len (opening_actor config) 0 (seat_count config.mutators config.helpers) seat seat (opening_actor config seat) seat_below (omega arith))

pub first_is : (config : Config) (seat : ℕ) (actor : Actor) → slice_get (opening config).machines seat ≡ Some actor → (seat < seat_count config.mutators config.helpers) × (opening_actor config seat ≡ actor)
unfolding opening
first_is config seat actor actor_there =
    let seat_within = slice_get_within (opening config).machines seat actor actor_there in
    let machine_count = length-map-range_with_len (opening_actor config) 0 (seat_count config.mutators config.helpers) in
    let seat_below : seat < seat_count config.mutators config.helpers = omega (arith, seat_within, machine_count) in
    (seat_below, sym (get_or-map-range_with_len (opening_actor config) 0 (seat_count config.mutators config.helpers) seat seat actor seat_below (omega arith)) ∙ get_or_from_slice_get (opening config).machines seat actor actor actor_there)

-- what memory keeps of them
pub first_machines : (config : Config) → map (λ actor. actor.machine) (opening config).machines ≡ map (opening_machine config) (range_with_len 0 (seat_count config.mutators config.helpers))
unfolding opening
first_machines config = map-map (λ actor. actor.machine) (opening_actor config) (range_with_len 0 (seat_count config.mutators config.helpers))

-- the first of them are the mutators
pub first_role : (config : Config) (number : ℕ) → is_mutating (opening_machine config number) ≡ nat_lt number config.mutators
first_role config number = by_test (nat_lt number config.mutators) (nat_lt number (config.mutators + config.helpers))
  where
    by_test : (holds is_helper : Bool) → is_mutating (if holds then mutating (fresh_mutator number) else (if is_helper then fresh_helper number else fresh_control (first_free config.regions))) ≡ holds
    by_test true is_helper = refl
    by_test false true = refl
    by_test false false = refl

-- a mutator rests
pub first_rests : (config : Config) (mutator : ℕ) → mutator < config.mutators → is_resting (opening_machine config mutator) ≡ true
first_rests config mutator mutator_below = ap (λ below_mutators. is_resting (if below_mutators then mutating (fresh_mutator mutator) else (if nat_lt mutator (config.mutators + config.helpers) then fresh_helper mutator else fresh_control (first_free config.regions)))) (lt-ltb mutator config.mutators mutator_below)

-- and may be given a command
pub first_free_to_begin : (config : Config) (mutator : ℕ) → mutator < config.mutators → may_begin (opening_machine config mutator) ≡ true
first_free_to_begin config mutator mutator_below = ap (λ below_mutators. may_begin (if below_mutators then mutating (fresh_mutator mutator) else (if nat_lt mutator (config.mutators + config.helpers) then fresh_helper mutator else fresh_control (first_free config.regions)))) (lt-ltb mutator config.mutators mutator_below)

-- no machine has made an object
pub first_made : (config : Config) (number : ℕ) → made_of_machine (opening_machine config number) ≡ 0
first_made config number = by_test (nat_lt number config.mutators) (nat_lt number (config.mutators + config.helpers))
  where
    by_test : (holds is_helper : Bool) → made_of_machine (if holds then mutating (fresh_mutator number) else (if is_helper then fresh_helper number else fresh_control (first_free config.regions))) ≡ 0
    by_test true is_helper = refl
    by_test false true = refl
    by_test false false = refl

-- no command of a script was called
pub first_on_script : (config : Config) (mutator : ℕ) (script : List Command) → mutator < config.mutators → IsOnScript script (opening_actor config mutator)
first_on_script config mutator script mutator_below = record { done = refl; doing = λ machine_busy. absurd (false≢true (sym machine_busy ∙ first_rests config mutator mutator_below)); ended = λ machine_rests not_free. absurd (false≢true (sym not_free ∙ first_free_to_begin config mutator mutator_below)) }
