-- What a mutator has in hand lies in no region that is free.
use Rattle.std.proofs.Common.{◌≡◌, ℕ, ◌+◌, ◌<◌, ◌⊎◌, ⊎_elim, Option, subst, arith}
use Rattle.std.specs.Prelude.{length}
use Rattle.heap_words.specs.declared.config.Config.{Config}
use Rattle.heap_words.specs.Words.{Free, Answer}
use Rattle.regions.specs.Sets.{IsIn}
use Rattle.shen_graph.specs.declared.command.Command.{Command}
use Rattle.shen_graph.specs.declared.command.Command.TheVariants.{Pin, Unpin}
use Rattle.shen_graph.specs.declared.command.Reply.{Reply}
use Rattle.heap_world.specs.World.{World, Shared}
use Rattle.cycle_steps.specs.Resolving.Facts.{CanResolve}
use Rattle.cycle_steps.specs.Updating.Following.{CanFollow}
use Rattle.load_barrier.specs.declared.spot.ResolveSpot.{ResolveSpot}
use Rattle.mutator.specs.declared.spot.Kept.{Kept}
use Rattle.mutator.specs.declared.spot.Spot.{Spot}
use Rattle.mutator.specs.declared.spot.Spot.TheVariants.{Rest, Ended, Entering, LoadPhase, LoadSet, Loading, OnField, Resolving, Recording, OnNumber, Showing, StoreRoot, Making, AskCycle, Pinning, Waiting, Leave, Gone}
use Rattle.mutator.specs.declared.loads.LoadSpot.{LoadSpot}
use Rattle.mutator.specs.declared.loads.LoadSpot.TheVariants as load
use Rattle.mutator.specs.declared.fields.FieldSpot.{FieldSpot}
use Rattle.mutator.specs.declared.fields.FieldSpot.TheVariants as fields
use Rattle.mutator.specs.declared.overwrites.Overwritten.{Overwritten}
use Rattle.mutator.specs.declared.overwrites.Overwritten.TheVariants as overwrites
use Rattle.mutator.specs.declared.resolves.Loaded.{Loaded}
use Rattle.mutator.specs.declared.resolves.Loaded.TheVariants.{ForRoot, ToCompare}
use Rattle.mutator.specs.declared.numbers.NumberSpot.{NumberSpot}
use Rattle.mutator.specs.declared.numbers.NumberSpot.TheVariants as numbers
use Rattle.mutator.specs.declared.pins.PinSpot.{PinSpot}
use Rattle.mutator.specs.declared.pins.PinSpot.TheVariants as pins
use Rattle.mutator.specs.declared.shows.ShowSpot.{ShowSpot}
use Rattle.mutator.specs.declared.shows.ShowSpot.TheVariants as show
use Rattle.mutator.specs.declared.makes.MakeSpot.{MakeSpot}
use Rattle.mutator.specs.declared.makes.MakeSpot.TheVariants as make
use Rattle.mutator.specs.declared.waits.WaitSpot.{WaitSpot}
use Rattle.mutator.specs.declared.waits.WaitSpot.TheVariants as wait
use Rattle.mutator.specs.Commands.{command_roots, dst_of, index_of}
use Rattle.mutator.specs.Rows.{words_made}
use Rattle.step_core.proofs.Machines.Stepped.{IsRootWord, HasObject, IsCas, IsSet, IsCopy, IsDrop, NameTheSame, LoadFacts, FieldFacts, LoadedFacts, RecordFacts, NumberFacts, ShowFacts, MakeFacts, IsOfSlot, PinFacts, WaitFacts, SpotFacts}
use Rattle.cycle_runs.specs.Recycling.InHand.{IsLoadHand, IsFieldHand, IsLoadedHand, IsOverwrittenHand, IsResolveHand, IsRememberHand, IsMakeHand, IsWaitHand, IsMutatorHand}
use Rattle.cycle_runs.proofs.Recycling.Free.{IsElsewhere, piece_elsewhere, null_elsewhere, named_elsewhere, points_elsewhere, target_elsewhere, usable_elsewhere}
use Rattle.cycle_runs.proofs.Recycling.PartHands.{same_apart, either_apart, take_hand, resolve_hand, follow_hand, remember_hand}

module _ (config : Config) (world : World) (shared : Shared config world) (region : ℕ) (region_below : region < config.regions) (region_free : IsIn (world.memory Free) region) where
  -- an address does not lie there
  abbrev IsApart : ℕ → Type 0
  IsApart address = IsElsewhere config world shared region region_below region_free address

  same : (address second_address : ℕ) → IsApart second_address → address ≡ second_address → IsApart address
  same address second_address second_apart same_address = same_apart config world shared region region_below region_free address second_address second_apart same_address

  either : (address first_address second_address : ℕ) → IsApart first_address → IsApart second_address → (address ≡ first_address) ⊎ (address ≡ second_address) → IsApart address
  either address first_address second_address first_apart second_apart which_address = either_apart config world shared region region_below region_free address first_address second_address first_apart second_apart which_address

  third_of : (address first_address second_address third_address : ℕ) → IsApart first_address → IsApart second_address → IsApart third_address → (address ≡ first_address) ⊎ ((address ≡ second_address) ⊎ (address ≡ third_address)) → IsApart address
  third_of address first_address second_address third_address first_apart second_apart third_apart which_address = ⊎_elim (λ (is_first : address ≡ first_address). same address first_address first_apart is_first) (λ (second_or_third : (address ≡ second_address) ⊎ (address ≡ third_address)). either address second_address third_address second_apart third_apart second_or_third) which_address

  -- a root that was loaded, and the object that one names
  root_apart : (seat index word : ℕ) → IsRootWord config world seat index word → IsApart word
  root_apart seat index word root_word = points_elsewhere config world shared region region_below region_free word (world.graph.root (seat + 1) index) root_word.stands

  object_apart : (seat root object : ℕ) → HasObject config world seat root object → IsApart object
  object_apart seat root object object_is = target_elsewhere config world shared region region_below region_free object object_is.refs object_is.nums object_is.name object_is.target

  -- what names the same as another word
  found_apart : (found expect : ℕ) → NameTheSame world.block found expect → IsApart found
  found_apart found expect names_same = ⊎_elim
      (λ null. null_elsewhere config world shared region region_below region_free found null.0)
      (λ named. named_elsewhere config world shared region region_below region_free found named.0 named.1)
      names_same

  -- of who loads roots
  load_hand : (seat made : ℕ) (kept_command command : Command) (fixed : Option Reply) (spot : LoadSpot) → LoadFacts config world seat made kept_command command fixed spot → (address : ℕ) → IsLoadHand kept_command spot address → IsApart address
  load_hand seat made kept_command command fixed load.First facts address in_hand = absurd in_hand
  load_hand seat made kept_command command fixed (load.Second first_root) facts address in_hand = let root = facts.2 in same address first_root (root_apart seat _ first_root (root.first_is root.some)) in_hand
  load_hand seat made kept_command command fixed (load.Third first_root second) facts address in_hand =
      let root = facts.2 in
      let some_more = facts.1 in
      either address first_root second (root_apart seat _ first_root (root.first_is root.some)) (root_apart seat _ second (facts.3 (omega (arith, some_more)))) in_hand
  load_hand seat made kept_command command fixed (load.Shape object second third) facts address in_hand =
      let roots = facts.2 in
      ⊎_elim
      (λ (first_root : address ≡ object). same address object (root_apart seat _ object (roots.first_is.first_is roots.first_is.some)) first_root)
      (λ later_root. ⊎_elim
      (λ (has_second : (1 < length (command_roots kept_command)) × (address ≡ second)). same address second (root_apart seat _ second (roots.second_is has_second.0)) has_second.1)
      (λ (has_third : (2 < length (command_roots kept_command)) × (address ≡ third)). same address third (root_apart seat _ third (roots.third_is has_third.0)) has_third.1)
      later_root)
      in_hand

  -- of who exchanges a field by what is to be there
  cas_apart : (seat object field expect value address : ℕ) (command : Command) → IsCas config world seat command object field expect value → (address ≡ object) ⊎ ((address ≡ expect) ⊎ (address ≡ value)) → IsApart address
  cas_apart seat object field expect value address command cas one_of_three =
      third_of address object expect value (object_apart seat cas.obj object cas.of) (root_apart seat cas.expected expect cas.expect_is) (root_apart seat cas.val value cas.value_is) one_of_three

  set_apart : (seat object field value address : ℕ) (command : Command) → IsSet config world seat command object field value → (address ≡ object) ⊎ (address ≡ value) → IsApart address
  set_apart seat object field value address command set_facts one_of_two = either address object value (object_apart seat set_facts.obj object set_facts.of) (root_apart seat set_facts.val value set_facts.value_is) one_of_two

  -- of who works on a field
  field_hand : (seat : ℕ) (kept_command command : Command) (fixed : Option Reply) (object : ℕ) (spot : FieldSpot) → FieldFacts config world seat kept_command command fixed object spot → (address : ℕ) → IsFieldHand object spot address → IsApart address
  field_hand seat kept_command command fixed object fields.Load facts address in_hand = let get_facts = facts.1 in same address object (object_apart seat get_facts.src object get_facts.of) in_hand
  field_hand seat kept_command command fixed object (fields.LoadExpected expect value) facts address in_hand = cas_apart seat object (index_of kept_command) expect value address command facts.1 in_hand
  field_hand seat kept_command command fixed object (fields.LoadOld value) facts address in_hand = set_apart seat object (index_of kept_command) value address command facts.1 in_hand
  field_hand seat kept_command command fixed object (fields.Store value) facts address in_hand = set_apart seat object (index_of kept_command) value address command facts.1 in_hand
  field_hand seat kept_command command fixed object (fields.Swap value) facts address in_hand =
      let swap = facts.1 in either address object value (object_apart seat swap.obj object swap.of) (root_apart seat swap.val value swap.value_is) in_hand
  field_hand seat kept_command command fixed object (fields.Exchange found expect value) facts address in_hand =
      let cas = facts.1 in
      ⊎_elim
      (λ (is_object : address ≡ object). same address object (object_apart seat cas.obj object cas.of) is_object)
      (λ rest. third_of address found expect value (found_apart found expect facts.2) (root_apart seat cas.expected expect cas.expect_is) (root_apart seat cas.val value cas.value_is) rest)
      in_hand

  -- of who resolves what it has found
  loaded_hand : (seat : ℕ) (kept_command command : Command) (fixed : Option Reply) (found : ℕ) (next_step : Loaded) → LoadedFacts config world seat kept_command command fixed found next_step → (address : ℕ) → IsLoadedHand next_step address → IsApart address
  loaded_hand seat kept_command command fixed found ForRoot facts address in_hand = absurd in_hand
  loaded_hand seat kept_command command fixed found (ToCompare object expect value) facts address in_hand = cas_apart seat object (index_of kept_command) expect value address command facts.is_cas in_hand

  resolving_hand : (seat address : ℕ) (spot : ResolveSpot) → CanResolve config world seat address spot ⊎ CanFollow config world seat address spot → (asked_address : ℕ) → IsResolveHand address spot asked_address → IsApart asked_address
  resolving_hand seat address spot can_resolve asked_address in_hand = ⊎_elim
      (λ (resolves : CanResolve config world seat address spot). resolve_hand config world shared region region_below region_free seat address spot resolves asked_address in_hand)
      (λ (can_follow : CanFollow config world seat address spot). follow_hand config world shared region region_below region_free seat address spot can_follow asked_address in_hand)
      can_resolve

  -- of who records what it overwrites
  overwritten_hand : (seat : ℕ) (kept_command command : Command) (fixed : Option Reply) (address : ℕ) (next_step : Overwritten) → RecordFacts config world seat kept_command command fixed address next_step → (asked_address : ℕ) → IsOverwrittenHand next_step asked_address → IsApart asked_address
  overwritten_hand seat kept_command command fixed address (overwrites.Set object value) facts asked_address in_hand = set_apart seat object (index_of kept_command) value asked_address command facts.1 in_hand
  overwritten_hand seat kept_command command fixed address overwrites.Xchg facts asked_address in_hand = absurd in_hand
  overwritten_hand seat kept_command command fixed address overwrites.Cas facts asked_address in_hand = absurd in_hand

  -- of who works on a number
  number_hand : (seat : ℕ) (kept_command command : Command) (fixed : Option Reply) (object refs : ℕ) (spot : NumberSpot) → NumberFacts config world seat kept_command command fixed object refs spot → IsApart object
  number_hand seat kept_command command fixed object refs numbers.Load facts = let read_facts = facts.1 in object_apart seat read_facts.obj object read_facts.of
  number_hand seat kept_command command fixed object refs numbers.Store facts = let write_facts = facts.1 in object_apart seat write_facts.obj object write_facts.of

  -- of who shows what it has found
  show_hand : (command : Command) (fixed : Option Reply) (value : ℕ) (spot : ShowSpot) → ShowFacts config world command fixed value spot → IsApart value
  show_hand command fixed value show.LoadName facts = let value_found = facts.0 in named_elsewhere config world shared region region_below region_free value value_found.name value_found.is
  show_hand command fixed value (show.StoreRoot reply) facts = usable_elsewhere config world shared region region_below region_free value facts.2

  -- of who makes one root another, or null
  store_hand : (seat dst value : ℕ) (command : Command) → IsCopy config world seat command dst value ⊎ IsDrop command dst value → IsApart value
  store_hand seat dst value command copy_or_drop = ⊎_elim
      (λ (copy : IsCopy config world seat command dst value). root_apart seat copy.src value copy.value_is)
      (λ (drop : IsDrop command dst value). null_elsewhere config world shared region region_below region_free value drop.value_is)
      copy_or_drop

  -- of who makes an object
  make_hand : (seat made : ℕ) (kept_command command : Command) (fixed : Option Reply) (spot : MakeSpot) → MakeFacts config world seat made kept_command command fixed spot → (asked_address : ℕ) → IsMakeHand spot asked_address → IsApart asked_address
  make_hand seat made kept_command command fixed (make.Taking spot) facts asked_address in_hand = take_hand config world shared region region_below region_free seat (words_made kept_command) spot facts.1 asked_address in_hand
  make_hand seat made kept_command command fixed (make.StoreWord address done_words) facts asked_address in_hand = same asked_address address (piece_elsewhere config world shared region region_below region_free address _ facts.1.room) in_hand
  make_hand seat made kept_command command fixed (make.StoreRoot address) facts asked_address in_hand = same asked_address address (piece_elsewhere config world shared region region_below region_free address _ facts.1.room) in_hand

  -- of who pins an object, or unpins what a slot holds
  slot_hand : (seat value : ℕ) (command : Command) → IsOfSlot config world seat command value → IsApart value
  slot_hand seat value (Pin slot obj) of_slot = object_apart seat obj value of_slot.1
  slot_hand seat value (Unpin slot) of_slot = null_elsewhere config world shared region region_below region_free value of_slot.1
  slot_hand seat value _ of_slot = absurd of_slot

  pin_hand : (seat : ℕ) (kept_command command : Command) (fixed : Option Reply) (value : ℕ) (spot : PinSpot) → PinFacts config world seat kept_command command fixed value spot → IsApart value
  pin_hand seat kept_command command fixed value pins.Look facts = slot_hand seat value kept_command facts.2
  pin_hand seat kept_command command fixed value pins.Store facts = slot_hand seat value kept_command facts.2

  -- of who has waited for one
  wait_hand : (seat made : ℕ) (kept_command command : Command) (fixed : Option Reply) (spot : WaitSpot) → WaitFacts config world seat made kept_command command fixed spot → (asked_address : ℕ) → IsWaitHand spot asked_address → IsApart asked_address
  wait_hand seat made kept_command command fixed (wait.StoreRoot address) facts asked_address in_hand =
      same asked_address address (subst (λ x. IsApart x) facts.1 (piece_elsewhere config world shared region region_below region_free (world.memory (Answer seat)) _ facts.0.1.2.here)) in_hand
  wait_hand seat made kept_command command fixed _ facts asked_address in_hand = absurd in_hand

  -- of a mutator
  pub mutator_hand : (seat made : ℕ) (kept_words : Kept) (command : Command) (fixed : Option Reply) (spot : Spot) → SpotFacts config world seat made kept_words command fixed spot → (asked_address : ℕ) → IsMutatorHand kept_words.command spot asked_address → IsApart asked_address
  mutator_hand seat made kept_words command fixed (Loading spot) facts asked_address in_hand = load_hand seat made kept_words.command command fixed spot facts asked_address in_hand
  mutator_hand seat made kept_words command fixed (OnField object spot) facts asked_address in_hand = field_hand seat kept_words.command command fixed object spot facts asked_address in_hand
  mutator_hand seat made kept_words command fixed (Resolving address spot next_step) facts asked_address in_hand = ⊎_elim
      (λ (resolves : IsResolveHand address spot asked_address). resolving_hand seat address spot facts.0 asked_address resolves)
      (λ (loaded : IsLoadedHand next_step asked_address). loaded_hand seat kept_words.command command fixed address next_step facts.1 asked_address loaded)
      in_hand
  mutator_hand seat made kept_words command fixed (Recording spot address next_step) facts asked_address in_hand = ⊎_elim
      (λ (records : IsRememberHand address spot asked_address). remember_hand config world shared region region_below region_free seat address spot facts.0 asked_address records)
      (λ (overwritten : IsOverwrittenHand next_step asked_address). overwritten_hand seat kept_words.command command fixed address next_step facts.1 asked_address overwritten)
      in_hand
  mutator_hand seat made kept_words command fixed (OnNumber object refs spot) facts asked_address in_hand = same asked_address object (number_hand seat kept_words.command command fixed object refs spot facts) in_hand
  mutator_hand seat made kept_words command fixed (Showing value spot) facts asked_address in_hand = same asked_address value (show_hand kept_words.command fixed value spot facts) in_hand
  mutator_hand seat made kept_words command fixed (StoreRoot value) facts asked_address in_hand = same asked_address value (store_hand seat (dst_of kept_words.command) value command facts.2) in_hand
  mutator_hand seat made kept_words command fixed (Pinning value spot) facts asked_address in_hand = same asked_address value (pin_hand seat kept_words.command command fixed value spot facts) in_hand
  mutator_hand seat made kept_words command fixed (Making spot) facts asked_address in_hand = make_hand seat made kept_words.command command fixed spot facts asked_address in_hand
  mutator_hand seat made kept_words command fixed (Waiting spot) facts asked_address in_hand = wait_hand seat made kept_words.command command fixed spot facts asked_address in_hand
  mutator_hand seat made kept_words command fixed Rest facts asked_address in_hand = absurd in_hand
  mutator_hand seat made kept_words command fixed (Ended reply) facts asked_address in_hand = absurd in_hand
  mutator_hand seat made kept_words command fixed (Entering spot next_step) facts asked_address in_hand = absurd in_hand
  mutator_hand seat made kept_words command fixed LoadPhase facts asked_address in_hand = absurd in_hand
  mutator_hand seat made kept_words command fixed LoadSet facts asked_address in_hand = absurd in_hand
  mutator_hand seat made kept_words command fixed AskCycle facts asked_address in_hand = absurd in_hand
  mutator_hand seat made kept_words command fixed (Leave reply) facts asked_address in_hand = absurd in_hand
  mutator_hand seat made kept_words command fixed Gone facts asked_address in_hand = absurd in_hand
