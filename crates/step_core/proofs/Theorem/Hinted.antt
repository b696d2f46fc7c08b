-- An event that takes a hint is one without an order: of the machine as it goes on with the hint, in a stage that has that machine in place
-- of the one before. That stage has the same words, follows the same history, and its handshake is kept.
use Rattle.std.proofs.Common.{◌≡◌, ◌≢◌, ℕ, ◌+◌, ⊎_elim, zero, suc, Bool, ◌≤◌, List, [], ◌∷◌, Some, refl, sym, ap, ◌∙◌, subst}
use Rattle.std.specs.Prelude.{slice_get, slice_set, slice_index, count_by}
use Rattle.std.proofs.lemmas.Bool.{cases_eq}
use Rattle.std.proofs.lemmas.List.{length-set}
use Rattle.std.proofs.lemmas.Option.{same_Some}
use Rattle.heap_words.proofs.Lists.{slice_get-set_other, slice_get-set_same}
use Rattle.heap_words.specs.declared.config.Config.{Config}
use Rattle.heap_words.specs.Words.{Word}
use Rattle.heap_words.specs.Access.{table_index, got_of}
use Rattle.heap_words.specs.declared.access.Access.{Access}
use Rattle.heap_words.specs.Steps.{Stage, accessed, moved}
use Rattle.shen_graph.specs.declared.command.Command.{Command}
use Rattle.shen_graph.specs.declared.order.Order.{Order}
use Rattle.shen_graph.specs.declared.order.Order.TheVariants.{Nothing}
use Rattle.shen_graph.specs.Order.{hint_in}
use Rattle.shen_graph.specs.Graph.{Graph}
use Rattle.shen_graph.specs.History.{Entry, after, of_thread}
use Rattle.handshake.specs.Left.{AreLeftCounted}
use Rattle.handshake.proofs.Counting.{weight, count_by-cons}
use Rattle.handshake.specs.Standing.{HasSeat, pause_word, is_within, is_checked, state_word, control_seat}
use Rattle.heap_world.specs.World.{World, Shared}
use Rattle.collector_rows.specs.HelperRows.{Helping}
use Rattle.collector_rows.specs.ControlRows.{Controlling}
use Rattle.heap_world.specs.Change.{Change}
use Rattle.step_core.specs.Actor.{helping, controlling, Actor}
use Rattle.step_core.specs.Machines.{image_read, helping_by, controlling_by, plan_of, took_of, kind}
use Rattle.step_core.specs.Settled.{settled, settled_by, image_of, control_number}
use Rattle.step_core.proofs.Handshake.Machines.{standing, is_left}
use Rattle.step_core.proofs.Machines.Owed.{IsMachine, Follows}
use Rattle.step_core.proofs.Control.Held.{IsKept}
use Rattle.step_core.proofs.Machines.Hinting.{help_hinted_is, help_hinted_stands, control_hinted_is, control_hinted_stands, control_hinted_image}

-- a list after two changes at one place
pub set_twice : {A : Type 0} (xs : List A) (index : ℕ) (x y : A) → slice_set (slice_set xs index x) index y ≡ slice_set xs index y
set_twice [] index x y = refl
set_twice (head ∷ rest) zero x y = refl
set_twice (head ∷ rest) (suc index) x y = ap (λ tail. head ∷ tail) (set_twice rest index x y)

-- the count of a list after one of its members has changed that counts as before
count_same : {A : Type 0} (p : A → Bool) (xs : List A) (index : ℕ) (old_element new_element : A) → slice_get xs index ≡ Some old_element → p new_element ≡ p old_element → count_by p (slice_set xs index new_element) ≡ count_by p xs
count_same p [] index old_element new_element old_there counts_same = refl
count_same p (head ∷ rest) zero old_element new_element old_there counts_same =
    let same_element : head ≡ old_element = cc (old_there) in
    let as_before : p new_element ≡ p head = counts_same ∙ ap p (sym same_element) in
    count_by-cons p new_element rest ∙ ap (λ passes. weight passes + count_by p rest) as_before ∙ sym (count_by-cons p head rest)
count_same p (head ∷ rest) (suc index) old_element new_element old_there counts_same = count_by-cons p head (slice_set rest index new_element) ∙ ap (λ count. weight (p head) + count) (count_same p rest index old_element new_element old_there counts_same) ∙ sym (count_by-cons p head rest)

-- What is the same of a machine and of one in its place: where it stands, and the image that counts; and that is where it should be where
-- the other is.
pub record TakesPlace (config : Config) (number : ℕ) (before next : Actor) : Type 0 where
  pub stands : standing next ≡ standing before
  pub image : image_read next.machine ≡ image_read before.machine
  pub left : is_left next ≡ is_left before
  pub own : (words : List ℕ) (world : World) (entries : List Entry) → IsMachine config words world entries number before before.machine → IsMachine config words world entries number next next.machine

module _ (config : Config) (stage : Stage Actor) (number : ℕ) (before next_actor : Actor) (before_there : slice_get stage.machines number ≡ Some before) (takes : TakesPlace config number before next_actor) where
  -- the stage with the other machine
  abbrev pub replaced : Stage Actor
  replaced = record { words = stage.words; machines = slice_set stage.machines number next_actor }

  pub there : slice_get replaced.machines number ≡ Some next_actor
  there = slice_get-set_same stage.machines number before next_actor before_there

  -- each machine is one of the stage before that stands where it does
  known : (index : ℕ) (actor : Actor) → slice_get replaced.machines index ≡ Some actor → (known_actor : Actor) × (slice_get stage.machines index ≡ Some known_actor) × (standing actor ≡ standing known_actor)
  known index actor actor_there = ⊎_elim
      (λ (same_number : index ≡ number).
      let new : next_actor ≡ actor = same_Some next_actor actor (sym there ∙ ap (slice_get replaced.machines) (sym same_number) ∙ actor_there) in
      (before, ap (slice_get stage.machines) same_number ∙ before_there, ap standing (sym new) ∙ takes.stands))
      (λ (other_number : index ≢ number). (actor, sym (slice_get-set_other stage.machines number index next_actor other_number) ∙ actor_there, refl))
      (cases_eq index number)

  -- the image that counts is the same
  image_same : image_of (slice_get replaced.machines (control_number config)) ≡ image_of (slice_get stage.machines (control_number config))
  image_same = ⊎_elim
      (λ (same_number : control_number config ≡ number). ap (λ any_place. image_of (slice_get replaced.machines any_place)) same_number ∙ ap image_of there ∙ takes.image ∙ sym (ap image_of before_there) ∙ ap (λ any_place. image_of (slice_get stage.machines any_place)) (sym same_number))
      (λ (other_number : control_number config ≢ number). ap image_of (slice_get-set_other stage.machines number (control_number config) next_actor other_number))
      (cases_eq (control_number config) number)

  pub settled_same : settled config replaced ≡ settled config stage
  settled_same = ap (settled_by config stage.words) image_same

  -- it follows the same history
  pub follows_replaced : (graph : Graph) (past_entries : List Entry) → Follows config graph stage past_entries → Follows config graph replaced past_entries
  follows_replaced graph past_entries stage_follows = record {
    block = stage_follows.block;
    ghost = stage_follows.ghost;
    words = stage_follows.words;
    seats = length-set stage.machines number next_actor ∙ stage_follows.seats;
    legal = stage_follows.legal;
    entries = stage_follows.entries;
    no_more = stage_follows.no_more;
    no_more_pins = stage_follows.no_more_pins;
    shared = subst (λ any_memory. Shared config (now any_memory)) (sym settled_same) stage_follows.shared;
    promised_to = stage_follows.promised_to;
    machines = λ place actor has_actor. subst (λ any_memory. IsMachine config stage.words (now any_memory) (of_thread past_entries (place + 1)) place actor actor.machine) (sym settled_same) (machine_of place actor has_actor);
  }
    where
      now : (Word → ℕ) → World
      now any_memory = record { memory = any_memory; block = stage_follows.block; ghost = stage_follows.ghost; graph = after graph past_entries }

      machine_of : (index : ℕ) (actor : Actor) → slice_get replaced.machines index ≡ Some actor → IsMachine config stage.words (now (settled config stage)) (of_thread past_entries (index + 1)) index actor actor.machine
      machine_of index actor actor_there = ⊎_elim
          (λ (same_number : index ≡ number).
          let new : next_actor ≡ actor = same_Some next_actor actor (sym there ∙ ap (slice_get replaced.machines) (sym same_number) ∙ actor_there) in
          subst (λ some_number. IsMachine config stage.words (now (settled config stage)) (of_thread past_entries (some_number + 1)) some_number actor actor.machine) (sym same_number)
          (subst (λ some_actor. IsMachine config stage.words (now (settled config stage)) (of_thread past_entries (number + 1)) number some_actor some_actor.machine) new
          (takes.own stage.words (now (settled config stage)) (of_thread past_entries (number + 1)) (stage_follows.machines number before before_there))))
          (λ (other_number : index ≢ number). stage_follows.machines index actor (sym (slice_get-set_other stage.machines number index next_actor other_number) ∙ actor_there))
          (cases_eq index number)

  -- and its handshake is kept
  pub kept_replaced : IsKept config stage → IsKept config replaced
  kept_replaced handshake_kept = record {
    words = handshake_kept.words;
    control = control_then.0;
    there = control_then.1;
    seated = λ seat actor actor_there. let known_before = known seat actor actor_there in subst (HasSeat config seat) (sym known_before.2) (handshake_kept.seated seat known_before.0 known_before.1);
    pause = handshake_kept.pause ∙ ap pause_word (sym control_then.2);
    states = λ seat actor seat_below actor_there. let known_before = known seat actor actor_there in handshake_kept.states seat known_before.0 seat_below known_before.1 ∙ ap state_word (sym known_before.2);
    checked = λ seat actor seat_below actor_there checks. let known_before = known seat actor actor_there in
        ap is_within known_before.2 ∙ handshake_kept.checked seat known_before.0 seat_below known_before.1 (ap (λ x. is_checked x seat) (sym control_then.2) ∙ checks);
  }
    where
      control_then : (actor : Actor) × (slice_get replaced.machines (control_seat config) ≡ Some actor) × (standing actor ≡ standing handshake_kept.control)
      control_then = ⊎_elim
          (λ (same_number : control_seat config ≡ number).
          let same_control : before ≡ handshake_kept.control = same_Some before handshake_kept.control (sym before_there ∙ ap (slice_get stage.machines) (sym same_number) ∙ handshake_kept.there) in
          (next_actor, ap (slice_get replaced.machines) same_number ∙ there, takes.stands ∙ ap standing same_control))
          (λ (other_number : control_seat config ≢ number). (handshake_kept.control, slice_get-set_other stage.machines number (control_seat config) next_actor other_number ∙ handshake_kept.there, refl))
          (cases_eq (control_seat config) number)

  -- as many mutators have not ended
  pub counted_replaced : AreLeftCounted config is_left stage → AreLeftCounted config is_left replaced
  counted_replaced counted = record {
    words = counted.words;
    few = subst (λ any_size. any_size ≤ 12) (sym (length-set stage.machines number next_actor)) counted.few;
    counts = counted.counts ∙ sym (count_same is_left stage.machines number before next_actor before_there takes.left);
  }

  -- an event of the other machine without an order is one of this machine with its order, where the access is the same, and what it is then
  pub moved_replaced : (change : Change) (order : Order) → plan_of config Nothing next_actor.machine ≡ plan_of config order before.machine
      → ((got : ℕ) → took_of change config next_actor Nothing got next_actor.machine ≡ took_of change config before order got before.machine)
      → moved (kind change config) replaced number next_actor Nothing ≡ moved (kind change config) stage number before order
  unfolding kind
  moved_replaced change order plan took =
      ap (λ machines. record { words = accessed (plan_of config Nothing next_actor.machine) stage.words; machines = machines }) (set_twice stage.machines number next_actor _)
      ∙ ap moved_by plan
      ∙ ap (λ some_actor. record { words = accessed (plan_of config order before.machine) stage.words; machines = slice_set stage.machines number some_actor }) (took (found (plan_of config order before.machine)))
    where
      found : Access → ℕ
      found access = got_of access (slice_index stage.words (table_index access))

      moved_by : Access → Stage Actor
      moved_by access = record { words = accessed access stage.words; machines = slice_set stage.machines number (took_of change config next_actor Nothing (found access) next_actor.machine) }

-- a helper, and the control, takes the place of itself before its hint
pub helper_takes_place : (config : Config) (number : ℕ) (order : Order) (helper : Helping) (command : Command) (calls : List Entry)
    → TakesPlace config number (record { machine = helping helper; command = command; calls = calls }) (record { machine = helping (helping_by config order helper); command = command; calls = calls })
helper_takes_place config number order helper command calls = record {
  stands = help_hinted_stands config (hint_in order) helper;
  image = refl;
  left = refl;
  own = λ words world entries stands_before. help_hinted_is config world number (hint_in order) helper stands_before;
}

pub control_takes_place : (config : Config) (number : ℕ) (order : Order) (control : Controlling) (command : Command) (calls : List Entry)
    → TakesPlace config number (record { machine = controlling control; command = command; calls = calls }) (record { machine = controlling (controlling_by config order control); command = command; calls = calls })
control_takes_place config number order control command calls = record {
  stands = control_hinted_stands config (hint_in order) control;
  image = control_hinted_image config (hint_in order) control;
  left = refl;
  own = λ words world entries stands_before. control_hinted_is config world number words (hint_in order) control stands_before;
}
