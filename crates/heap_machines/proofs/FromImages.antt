-- Machines and stages of heaps that begin from the words of an image.
use Rattle.std.proofs.Common.{◌≡◌, ℕ, ◌+◌, ◌<◌, Bool, true, false, List, [], ◌∷◌, ◌++◌, length, map, Some, refl, sym, ap, ◌∙◌, subst, arith}
use Rattle.std.specs.Prelude.{slice_get, slice_index, nat_lt, if◌then◌else◌}
use Rattle.std.specs.List.{range_with_len}
use Rattle.std.proofs.lemmas.Bool.{lt-ltb, le-ltb, ltb-true, ltb-false}
use Rattle.std.proofs.lemmas.List.{map-append, length-map}
use Rattle.std.proofs.lemmas.List.FromFn.{get_or-map-range_with_len, length-map-range_with_len, map-range_with_len_more}
use Rattle.std.proofs.lemmas.Option.{slice_get_within, get_or_from_slice_get}
use Rattle.std.proofs.lemmas.Simd.{map-map}
use Rattle.heap_words.specs.declared.config.Config.{Config}
use Rattle.heap_words.specs.Ranges.{seat_count}
use Rattle.heap_words.specs.Words.{Word, Phase, Cset, view, table_words}
use Rattle.shen_graph.specs.Graph.{Graph}
use Rattle.mutator.specs.Rows.{mutator_after}
use Rattle.step_core.specs.Actor.{mutating, fresh_helper, Actor}
use Rattle.heap_machines.specs.Shown.{shown}
use Rattle.step_core.specs.Machines.{HasNumber, IsIdle}
use Rattle.step_core.specs.Begins.{Begins, HasCalledNothing}
use Rattle.heap_machines.specs.declared.machine.Machine.{Machine}
use Rattle.heap_machines.specs.FromImage.{control_from, machine_from, actor_from, stage_from, CanBeginFrom}

-- one machine more
pub machines_more : (config : Config) (counts : List ℕ) (memory : Word → ℕ) (machines : List Machine) (new : Machine) (number : ℕ) → map shown machines ≡ map (machine_from config counts memory) (range_with_len 0 number) → shown new ≡ machine_from config counts memory number
    → map shown (machines ++ new ∷ []) ≡ map (machine_from config counts memory) (range_with_len 0 (number + 1))
machines_more config counts memory machines new number so_far shown_is =
    map-append shown machines (new ∷ []) ∙ ap (λ xs. xs ++ shown new ∷ []) so_far ∙ ap (λ machine. map (machine_from config counts memory) (range_with_len 0 number) ++ machine ∷ []) shown_is
    ∙ sym (map-range_with_len_more (machine_from config counts memory) 0 number number (omega arith))

-- the machine of each role
pub mutator_is : (config : Config) (counts : List ℕ) (memory : Word → ℕ) (number : ℕ) → number < config.mutators → mutating (mutator_after number (slice_index counts number)) ≡ machine_from config counts memory number
mutator_is config counts memory number mutator_below =
    ap (λ is_mutator. if is_mutator then mutating (mutator_after number (slice_index counts number)) else (if nat_lt number (config.mutators + config.helpers) then fresh_helper number else control_from memory)) (sym (lt-ltb number config.mutators mutator_below))

other_is : (config : Config) (counts : List ℕ) (memory : Word → ℕ) (number : ℕ) (holds : Bool) → nat_lt number config.mutators ≡ false → nat_lt number (config.mutators + config.helpers) ≡ holds → (if holds then fresh_helper number else control_from memory) ≡ machine_from config counts memory number
other_is config counts memory number holds not_mutator helper_test =
    ap (λ test. if test then fresh_helper number else control_from memory) (sym helper_test)
    ∙ ap (λ test. if test then mutating (mutator_after number (slice_index counts number)) else (if nat_lt number (config.mutators + config.helpers) then fresh_helper number else control_from memory)) (sym not_mutator)

pub control_is : (config : Config) (counts : List ℕ) (memory : Word → ℕ) (number : ℕ) → number ≡ config.mutators + config.helpers → control_from memory ≡ machine_from config counts memory number
control_is config counts memory number number_is = other_is config counts memory number false (le-ltb number config.mutators (omega arith)) (le-ltb number (config.mutators + config.helpers) (omega arith))

-- what memory keeps of the machines
pub stage_machines : (config : Config) (words counts : List ℕ) → map (λ actor. actor.machine) (stage_from config words counts).machines ≡ map (machine_from config counts (view config words)) (range_with_len 0 (seat_count config.mutators config.helpers))
unfolding stage_from
stage_machines config words counts = map-map (λ actor. actor.machine) (actor_from config counts (view config words)) (range_with_len 0 (seat_count config.mutators config.helpers))

pub stage_words : (config : Config) (words counts : List ℕ) → (stage_from config words counts).words ≡ words
unfolding stage_from
stage_words config words counts = refl

-- how many there are
pub stage_count : (config : Config) (words counts : List ℕ) → length (stage_from config words counts).machines ≡ seat_count config.mutators config.helpers
unfolding stage_from
stage_count config words counts = length-map-range_with_len (actor_from config counts (view config words)) 0 (seat_count config.mutators config.helpers)

pub machines_count : (config : Config) (words counts : List ℕ) (machines : List Machine) → map shown machines ≡ map (machine_from config counts (view config words)) (range_with_len 0 (seat_count config.mutators config.helpers)) → length machines ≡ seat_count config.mutators config.helpers
machines_count config words counts machines machines_are = sym (length-map machines shown) ∙ ap length machines_are ∙ length-map-range_with_len (machine_from config counts (view config words)) 0 (seat_count config.mutators config.helpers)

-- the actor of a number
stage_actor : (config : Config) (words counts : List ℕ) (seat : ℕ) (actor : Actor) → slice_get (stage_from config words counts).machines seat ≡ Some actor → (seat < seat_count config.mutators config.helpers) × (actor_from config counts (view config words) seat ≡ actor)
unfolding stage_from
stage_actor config words counts seat actor actor_there =
    let made_actor = actor_from config counts (view config words) in
    let seat_within = slice_get_within (stage_from config words counts).machines seat actor actor_there in
    let machine_count = length-map-range_with_len made_actor 0 (seat_count config.mutators config.helpers) in
    let seat_below : seat < seat_count config.mutators config.helpers = omega (arith, seat_within, machine_count) in
    (seat_below, sym (get_or-map-range_with_len made_actor 0 (seat_count config.mutators config.helpers) seat seat actor seat_below (omega arith)) ∙ get_or_from_slice_get (stage_from config words counts).machines seat actor actor actor_there)

-- each machine is new
machine_new : (config : Config) (counts : List ℕ) (memory : Word → ℕ) (graph : Graph) → ((mutator : ℕ) → mutator < config.mutators → graph.count (mutator + 1) ≡ slice_index counts mutator) → (seat : ℕ) → seat < seat_count config.mutators config.helpers
    → HasNumber config seat (machine_from config counts memory seat) × IsIdle (memory Phase) (memory Cset) graph seat (machine_from config counts memory seat)
machine_new config counts memory graph count seat seat_below = by_role (nat_lt seat config.mutators) refl (nat_lt seat (config.mutators + config.helpers)) refl
  where
    by_role : (holds : Bool) → nat_lt seat config.mutators ≡ holds → (is_helper : Bool) → nat_lt seat (config.mutators + config.helpers) ≡ is_helper
        → HasNumber config seat (if holds then mutating (mutator_after seat (slice_index counts seat)) else (if is_helper then fresh_helper seat else control_from memory))
        × IsIdle (memory Phase) (memory Cset) graph seat (if holds then mutating (mutator_after seat (slice_index counts seat)) else (if is_helper then fresh_helper seat else control_from memory))
    by_role true mutator_test is_helper helper_test = let seat_below : seat < config.mutators = ltb-true seat config.mutators mutator_test in ((refl, seat_below), (count seat seat_below, refl))
    by_role false mutator_test true helper_test = ((refl, ltb-false seat config.mutators mutator_test, ltb-true seat (config.mutators + config.helpers) helper_test), refl)
    by_role false mutator_test false helper_test = ((let seat_above = ltb-false seat (config.mutators + config.helpers) helper_test in omega arith), (refl, refl, refl, refl))

-- the stage begins each graph with which the words can begin
pub begins_from : (config : Config) (words counts : List ℕ) → length words ≡ table_words config → (graph : Graph) → CanBeginFrom config (view config words) counts graph → Begins config (stage_from config words counts) graph
unfolding stage_from
begins_from config words counts whole_table graph can_begin = record {
  words = whole_table;
  seats = stage_count config words counts;
  stands = can_begin.stands;
  outside = can_begin.outside;
  machines = λ number asked_actor actor_there.
      let actor_is = stage_actor config words counts number asked_actor actor_there in
      let new = machine_new config counts (view config words) graph can_begin.counts_are number actor_is.0 in
      subst (λ (actor : Actor). HasCalledNothing config (view config words Phase) (view config words Cset) graph number actor) actor_is.1 (record { number_is = new.0; idle = new.1; calls = refl; valid = refl });
}
