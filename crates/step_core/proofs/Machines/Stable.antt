-- What a mutator knows stays true while another machine makes a step.
use Rattle.std.proofs.Common.{◌≡◌, ℕ, ◌+◌, inl, inr, ⊎_elim, Bool, Option, refl, ◌∙◌, arith, sym, subst}
use Rattle.std.specs.Int.{bit_at}
use Rattle.heap_words.specs.declared.config.Config.{Config}
use Rattle.heap_words.specs.Words.{Answer, Ask}
use Rattle.shen_graph.specs.declared.command.Command.{Command}
use Rattle.shen_graph.specs.declared.command.Command.TheVariants.{Pin, Unpin}
use Rattle.shen_graph.specs.declared.command.Reply.{Reply}
use Rattle.shen_graph.specs.declared.command.Reply.TheVariants.{Ref, Full}
use Rattle.shen_graph.specs.Step.{slot_of}
use Rattle.alloc_buffers.specs.declared.spot.TakeSpot.{TakeSpot}
use Rattle.mutator.specs.declared.spot.Kept.{Kept}
use Rattle.mutator.specs.declared.spot.Spot.{Spot}
use Rattle.mutator.specs.declared.spot.Spot.TheVariants.{Rest, Ended, Entering, LoadPhase, LoadSet, Loading, OnField, Resolving, Recording, OnNumber, Showing, StoreRoot, Making, AskCycle, Pinning, Waiting, Leave, Gone}
use Rattle.mutator.specs.declared.spot.Entered.{Entered}
use Rattle.mutator.specs.declared.spot.Entered.TheVariants.{Call, Waited}
use Rattle.mutator.specs.declared.loads.LoadSpot.{LoadSpot}
use Rattle.mutator.specs.declared.loads.LoadSpot.TheVariants as load
use Rattle.mutator.specs.declared.fields.FieldSpot.{FieldSpot}
use Rattle.mutator.specs.declared.fields.FieldSpot.TheVariants as fields
use Rattle.mutator.specs.declared.overwrites.Overwritten.{Overwritten}
use Rattle.mutator.specs.declared.overwrites.Overwritten.TheVariants as overwrites
use Rattle.mutator.specs.declared.resolves.Loaded.{Loaded}
use Rattle.mutator.specs.declared.resolves.Loaded.TheVariants.{ForRoot, ToCompare}
use Rattle.load_barrier.specs.declared.spot.ResolveSpot.{ResolveSpot}
use Rattle.step_core.proofs.Mutators.ResolvingInCommon.{resolving_stays as still_resolving}
use Rattle.mutator.specs.declared.numbers.NumberSpot.{NumberSpot}
use Rattle.mutator.specs.declared.numbers.NumberSpot.TheVariants as numbers
use Rattle.mutator.specs.declared.pins.PinSpot.{PinSpot}
use Rattle.mutator.specs.declared.pins.PinSpot.TheVariants as pins
use Rattle.mutator.specs.declared.shows.ShowSpot.{ShowSpot}
use Rattle.mutator.specs.declared.shows.ShowSpot.TheVariants as show
use Rattle.mutator.specs.declared.makes.MakeSpot.{MakeSpot}
use Rattle.mutator.specs.declared.makes.MakeSpot.TheVariants as make
use Rattle.mutator.specs.declared.waits.WaitSpot.{WaitSpot}
use Rattle.mutator.specs.declared.waits.WaitSpot.TheVariants as wait
use Rattle.mutator.specs.Orders.{is_waiting}
use Rattle.mutator.specs.Commands.{command_root, dst_of, index_of, stored_number, refs_of, nums_of}
use Rattle.mutator.specs.Rows.{Mutating, words_made}
use Rattle.heap_world.specs.World.{World, Points, TargetIn, UsableIn, Shared}
use Rattle.step_core.proofs.Machines.Stepped.{IsRootWord, HasRoot, HasObject, HasFirst, IsGet, IsSet, IsCas, IsXchg, IsRd, IsWr, IsOfSlot, SlotFits, PinFacts, IsFound, NameTheSame, NameOthers, IsCompared, LoadedFacts, IsCopy, IsFilling, IsAsking, IsHeard, IsPolling, IsAnswered, LoadFacts, FieldFacts, RecordFacts, NumberFacts, ShowFacts, MakeFacts, EnterFacts, HasTaken, WaitFacts, IsResolving, SpotFacts, IsSeatedIn, recording_of, has_phase, has_set, copies_at, Mine}
use Rattle.step_core.specs.Own.{root_now, root_recording, root_resolving}
use Rattle.heap_world.specs.Asking as asking
use Rattle.heap_world.specs.Asking.{Asking, HasNoPromise, IsAsked}
use Rattle.heap_world.specs.Rely.{Keeps, Rely}
use Rattle.alloc_buffers.specs.Facts.{TakeFacts}
use Rattle.alloc_buffers.proofs.TakeStays.{take_stays}
use Rattle.satb_barrier.specs.declared.spot.RememberSpot.{RememberSpot}
use Rattle.cycle_steps.specs.Recording.{CanRecord}
use Rattle.cycle_steps.proofs.Parts.{recording_steps}
use Rattle.step_core.proofs.Mutators.WhileMarking.{covered_stays, marking_relied, copying_relied}
use Rattle.heap_world.proofs.Keeping.{points_stay, usable_stays, keeps_of}

module _ (config : Config) (world later_world : World) (seat : ℕ) (world_kept : Keeps config seat world later_world) where
  -- so it does for a root
  pub root_stays : (word index : ℕ) → Points world.block word (world.graph.root (seat + 1) index) → Points later_world.block word (later_world.graph.root (seat + 1) index)
  root_stays word index root_points = rw (world_kept.roots index) (points_stay world.block later_world.block world_kept.names word _ root_points)

  -- so does the word of a root that was loaded
  root_word_stays : (word index : ℕ) → IsRootWord config world seat index word → IsRootWord config later_world seat index word
  root_word_stays word index root_loaded = record { stands = root_stays word index root_loaded.stands; usable = usable_stays config world later_world world_kept.targets word root_loaded.usable }

  -- also of a command
  loaded_stays : (command : Command) (index word : ℕ) → HasRoot config world seat command index word → HasRoot config later_world seat command index word
  loaded_stays command index word has_root index_below = root_word_stays word (command_root command index) (has_root index_below)

  -- and that of the first one
  first_stays : (command : Command) (first : ℕ) → HasFirst config world seat command first → HasFirst config later_world seat command first
  first_stays command first has_first = record { some = has_first.some; first_is = loaded_stays command 0 first has_first.first_is; not_null = has_first.not_null }

  -- an object in hand stays
  abbrev object_stays : (root object : ℕ) → HasObject config world seat root object → HasObject config later_world seat root object
  object_stays root object has_object = record {
    name = has_object.name;
    refs = has_object.refs;
    nums = has_object.nums;
    root_is = world_kept.roots root ∙ has_object.root_is;
    target = world_kept.targets object has_object.refs has_object.nums has_object.name has_object.target;
  }

  -- what a Get counts on stays
  pub get_stays : (command : Command) (object field dst : ℕ) → IsGet config world seat command object field dst → IsGet config later_world seat command object field dst
  get_stays command object field dst get_facts = record { src = get_facts.src; is = get_facts.is; small = get_facts.small; of = object_stays get_facts.src object get_facts.of; below = get_facts.below }

  -- what a Set counts on stays
  pub set_stays : (command : Command) (object field value : ℕ) → IsSet config world seat command object field value → IsSet config later_world seat command object field value
  set_stays command object field value set_facts = record {
    obj = set_facts.obj;
    val = set_facts.val;
    is = set_facts.is;
    of = object_stays set_facts.obj object set_facts.of;
    below = set_facts.below;
    value_is = root_word_stays value set_facts.val set_facts.value_is;
  }

  -- what a Cas counts on stays
  pub cas_stays : (command : Command) (object field expect value : ℕ) → IsCas config world seat command object field expect value → IsCas config later_world seat command object field expect value
  cas_stays command object field expect value cas_facts = record {
    obj = cas_facts.obj;
    expected = cas_facts.expected;
    val = cas_facts.val;
    is = cas_facts.is;
    of = object_stays cas_facts.obj object cas_facts.of;
    below = cas_facts.below;
    expect_is = root_word_stays expect cas_facts.expected cas_facts.expect_is;
    value_is = root_word_stays value cas_facts.val cas_facts.value_is;
  }

  -- what an Xchg counts on stays
  pub xchg_stays : (command : Command) (object field value dst : ℕ) → IsXchg config world seat command object field value dst → IsXchg config later_world seat command object field value dst
  xchg_stays command object field value dst exchange_facts = record {
    obj = exchange_facts.obj;
    val = exchange_facts.val;
    is = exchange_facts.is;
    small = exchange_facts.small;
    of = object_stays exchange_facts.obj object exchange_facts.of;
    below = exchange_facts.below;
    value_is = root_word_stays value exchange_facts.val exchange_facts.value_is;
  }

  -- what an Rd counts on stays
  rd_stays : (command : Command) (object refs index : ℕ) → IsRd config world seat command object refs index → IsRd config later_world seat command object refs index
  rd_stays command object refs index read_facts = record { obj = read_facts.obj; is = read_facts.is; of = object_stays read_facts.obj object read_facts.of; refs_are = read_facts.refs_are; below = read_facts.below }

  -- what a Wr counts on stays
  wr_stays : (command : Command) (object refs index value : ℕ) → IsWr config world seat command object refs index value → IsWr config later_world seat command object refs index value
  wr_stays command object refs index value write_facts = record { obj = write_facts.obj; is = write_facts.is; of = object_stays write_facts.obj object write_facts.of; refs_are = write_facts.refs_are; below = write_facts.below }

  -- a reference that was found stays
  pub found_stays : (fixed : Option Reply) (value dst : ℕ) → IsFound world fixed value dst → IsFound later_world fixed value dst
  found_stays fixed value dst found_facts = record { name = found_facts.name; settled = found_facts.settled; is = world_kept.names value found_facts.name found_facts.is; small = found_facts.small }

  -- that two words name the same stays, and that they name others
  pub same_stays : (address second_address : ℕ) → NameTheSame world.block address second_address → NameTheSame later_world.block address second_address
  same_stays address second_address (inl null) = inl null
  same_stays address second_address (inr same_named) = inr (same_named.0, world_kept.names address same_named.0 same_named.1, world_kept.names second_address same_named.0 same_named.2)

  others_stay : (address second_address : ℕ) → NameOthers world.block address second_address → NameOthers later_world.block address second_address
  others_stay address second_address others = record {
    name = others.name;
    is = world_kept.names address others.name others.is;
    other = ⊎_elim (λ null. inl null) (λ named_other. inr (named_other.0, world_kept.names second_address named_other.0 named_other.1, named_other.2)) others.other;
  }

  pub compared_stays : (fixed : Option Reply) (found expect : ℕ) → IsCompared world.block fixed found expect → IsCompared later_world.block fixed found expect
  compared_stays fixed found expect (inl reply_settled) = inl (reply_settled.0, others_stay found expect reply_settled.1)
  compared_stays fixed found expect (inr same_named) = inr (same_named.0, same_stays found expect same_named.1)

  -- what holds while a reference is resolved stays
  pub resolved_stays : (begun_command command : Command) (fixed : Option Reply) (found : ℕ) (next : Loaded) → LoadedFacts config world seat begun_command command fixed found next → LoadedFacts config later_world seat begun_command command fixed found next
  resolved_stays begun_command command fixed found ForRoot facts = found_stays fixed found (dst_of begun_command) facts
  resolved_stays begun_command command fixed found (ToCompare object expect value) facts = record {
    some = facts.some;
    is_cas = cas_stays command object (index_of begun_command) expect value facts.is_cas;
    settled = compared_stays fixed found expect facts.settled;
  }

  -- what a Copy counts on stays
  copy_stays : (command : Command) (dst value : ℕ) → IsCopy config world seat command dst value → IsCopy config later_world seat command dst value
  copy_stays command dst value copy_facts = record { src = copy_facts.src; is = copy_facts.is; value_is = root_word_stays value copy_facts.src copy_facts.value_is }

  -- that nothing is promised to it stays
  pub unpromised_stays : HasNoPromise world.block seat → HasNoPromise later_world.block seat
  unpromised_stays no_promise address words has_promise = no_promise address words (world_kept.no_promises address words has_promise)

  -- what it has asked for stays asked
  pub asked_stays : (asked_for : Asking) → IsAsked world.memory world.block world.graph.count seat asked_for → IsAsked later_world.memory later_world.block later_world.graph.count seat asked_for
  asked_stays asking.nothing seat_asked = (world_kept.wait ∙ seat_asked.0, world_kept.answer ∙ seat_asked.1, unpromised_stays seat_asked.2)
  asked_stays (asking.asks refs nums) seat_asked = (
    record {
      wait_is = world_kept.wait ∙ rw world_kept.count seat_asked.0.wait_is;
      few_refs = seat_asked.0.few_refs;
      few_nums = seat_asked.0.few_nums;
      few = rw world_kept.count seat_asked.0.few;
    },
    world_kept.answer ∙ seat_asked.1,
    unpromised_stays seat_asked.2,
  )
  asked_stays asking.refused seat_asked = (world_kept.wait ∙ seat_asked.0, world_kept.answer ∙ seat_asked.1, unpromised_stays seat_asked.2)
  asked_stays (asking.given refs nums) seat_asked = (
    world_kept.wait ∙ seat_asked.0,
    rw world_kept.answer seat_asked.1,
    rw world_kept.answer (record {
      here = world_kept.promises _ (3 + refs + nums) seat_asked.2.here;
      words = λ offset offset_below. world_kept.promise_words _ (3 + refs + nums) offset seat_asked.2.here offset_below ∙ rw world_kept.count (seat_asked.2.words offset offset_below);
      only = λ address more_words has_promise. seat_asked.2.only address more_words (world_kept.no_promises address more_words has_promise);
      few_refs = seat_asked.2.few_refs;
      few_nums = seat_asked.2.few_nums;
      few = rw world_kept.count seat_asked.2.few;
    }),
  )

  -- so does the asking of a call
  pub asking_stays : (made : ℕ) (begun_command command : Command) (fixed : Option Reply) (asked_for : Asking) → IsAsking world seat made begun_command command fixed asked_for → IsAsking later_world seat made begun_command command fixed asked_for
  asking_stays made begun_command command fixed asked_for asks = (asks.0, asked_stays asked_for asks.1)

  -- with the bit that a mutator waits, where that stays
  pub heard_stays : (bit_at (world.memory Ask) 1 ≡ 1 → bit_at (later_world.memory Ask) 1 ≡ 1) → (made : ℕ) (begun_command command : Command) (fixed : Option Reply) → IsHeard world seat made begun_command command fixed → IsHeard later_world seat made begun_command command fixed
  heard_stays bit made begun_command command fixed heard = (asking_stays made begun_command command fixed (asking.asks (refs_of begun_command) (nums_of begun_command)) heard.0, bit heard.1)

  -- and what is known while it polls, and once it is answered
  pub polling_stays : (bit_at (world.memory Ask) 1 ≡ 1 → bit_at (later_world.memory Ask) 1 ≡ 1) → (made : ℕ) (begun_command command : Command) (fixed : Option Reply) → IsPolling world seat made begun_command command fixed
      → IsPolling later_world seat made begun_command command fixed
  polling_stays bit made begun_command command fixed polling = ⊎_elim
      (λ waits. inl (heard_stays bit made begun_command command fixed waits))
      (λ rest. inr (⊎_elim
      (λ was_given. inl (asking_stays made begun_command command fixed (asking.given (refs_of begun_command) (nums_of begun_command)) was_given))
      (λ heap_full. inr (heap_full.0, asked_stays asking.refused heap_full.1))
      rest))
      polling

  pub answered_stays : (made : ℕ) (begun_command command : Command) (fixed : Option Reply) → IsAnswered world seat made begun_command command fixed → IsAnswered later_world seat made begun_command command fixed
  answered_stays made begun_command command fixed seat_answered = ⊎_elim
      (λ was_given. inl (asking_stays made begun_command command fixed (asking.given (refs_of begun_command) (nums_of begun_command)) was_given))
      (λ heap_full. inr (heap_full.0, asked_stays asking.refused heap_full.1))
      seat_answered

  -- what a mutator counts on in each part of a call stays
  load_stays : (made : ℕ) (begun_command command : Command) (fixed : Option Reply) (spot : LoadSpot) → LoadFacts config world seat made begun_command command fixed spot → LoadFacts config later_world seat made begun_command command fixed spot
  load_stays made begun_command command fixed load.First facts = facts
  load_stays made begun_command command fixed (load.Second first) facts = (facts.0, facts.1, first_stays begun_command first facts.2)
  load_stays made begun_command command fixed (load.Third first second) facts = (facts.0, facts.1, first_stays begun_command first facts.2, loaded_stays begun_command 1 second facts.3)
  load_stays made begun_command command fixed (load.Shape object second third) facts = (
    facts.0,
    facts.1,
    record { first_is = first_stays begun_command object facts.2.first_is; second_is = loaded_stays begun_command 1 second facts.2.second_is; third_is = loaded_stays begun_command 2 third facts.2.third_is },
    facts.3,
  )

  pub field_stays : (begun_command command : Command) (fixed : Option Reply) (object : ℕ) (spot : FieldSpot) → FieldFacts config world seat begun_command command fixed object spot → FieldFacts config later_world seat begun_command command fixed object spot
  field_stays begun_command command fixed object fields.Load facts = (facts.0, get_stays command object (index_of begun_command) (dst_of begun_command) facts.1)
  field_stays begun_command command fixed object (fields.LoadExpected expect value) facts = (facts.0, cas_stays command object (index_of begun_command) expect value facts.1)
  field_stays begun_command command fixed object (fields.LoadOld value) facts = (facts.0, set_stays command object (index_of begun_command) value facts.1)
  field_stays begun_command command fixed object (fields.Store value) facts = (facts.0, set_stays command object (index_of begun_command) value facts.1, covered_stays config world later_world object (index_of begun_command) world_kept.marks facts.2)
  field_stays begun_command command fixed object (fields.Swap value) facts = (facts.0, xchg_stays command object (index_of begun_command) value (dst_of begun_command) facts.1)
  field_stays begun_command command fixed object (fields.Exchange found expect value) facts = (facts.0, cas_stays command object (index_of begun_command) expect value facts.1, same_stays found expect facts.2)

  pub record_stays : (begun_command command : Command) (fixed : Option Reply) (address : ℕ) (next : Overwritten) → RecordFacts config world seat begun_command command fixed address next → RecordFacts config later_world seat begun_command command fixed address next
  record_stays begun_command command fixed address (overwrites.Set object value) facts = field_stays begun_command command fixed object (fields.Store value) facts
  record_stays begun_command command fixed address overwrites.Xchg facts = found_stays fixed address (dst_of begun_command) facts
  record_stays begun_command command fixed address overwrites.Cas facts = facts

  number_stays : (begun_command command : Command) (fixed : Option Reply) (object refs : ℕ) (spot : NumberSpot) → NumberFacts config world seat begun_command command fixed object refs spot → NumberFacts config later_world seat begun_command command fixed object refs spot
  number_stays begun_command command fixed object refs numbers.Load facts = (facts.0, rd_stays command object refs (index_of begun_command) facts.1)
  number_stays begun_command command fixed object refs numbers.Store facts = (facts.0, wr_stays command object refs (index_of begun_command) (stored_number begun_command) facts.1)

  show_stays : (command : Command) (fixed : Option Reply) (value : ℕ) (spot : ShowSpot) → ShowFacts config world command fixed value spot → ShowFacts config later_world command fixed value spot
  show_stays command fixed value show.LoadName facts = (found_stays fixed value (dst_of command) facts.0, usable_stays config world later_world world_kept.targets value facts.1)
  show_stays command fixed value (show.StoreRoot reply) facts = (facts.0, facts.1, usable_stays config world later_world world_kept.targets value facts.2)

  -- so does what the call counts on that is about a pin slot
  of_slot_stays : (command : Command) (value : ℕ) → IsOfSlot config world seat command value → IsOfSlot config later_world seat command value
  of_slot_stays (Pin slot obj) value of_slot = (of_slot.0, object_stays obj value of_slot.1)
  of_slot_stays (Unpin slot) value of_slot = of_slot
  of_slot_stays _ value of_slot = absurd of_slot

  fits_stays : (command : Command) → SlotFits world seat command → SlotFits later_world seat command
  fits_stays (Pin slot obj) fits = world_kept.pins slot ∙ fits
  fits_stays command fits = λ no_pin. fits (sym (world_kept.pins (slot_of command)) ∙ no_pin)

  pin_facts_stay : (begun_command command : Command) (fixed : Option Reply) (value : ℕ) (spot : PinSpot) → PinFacts config world seat begun_command command fixed value spot → PinFacts config later_world seat begun_command command fixed value spot
  pin_facts_stay begun_command command fixed value pins.Look facts = (facts.0, facts.1, of_slot_stays begun_command value facts.2)
  pin_facts_stay begun_command command fixed value pins.Store facts = (facts.0, facts.1, of_slot_stays begun_command value facts.2, fits_stays begun_command facts.3)

  make_stays : (made : ℕ) (begun_command command : Command) (fixed : Option Reply) → ((words : ℕ) (take : TakeSpot) → TakeFacts config world seat words take → TakeFacts config later_world seat words take)
      → ((refs nums address stored_count : ℕ) → IsFilling world seat made refs nums address stored_count → IsFilling later_world seat made refs nums address stored_count) → (spot : MakeSpot)
      → MakeFacts config world seat made begun_command command fixed spot → MakeFacts config later_world seat made begun_command command fixed spot
  make_stays made begun_command command fixed taking filling (make.Taking take) facts = (facts.0, taking (words_made begun_command) take facts.1)
  make_stays made begun_command command fixed taking filling (make.StoreWord address stored_count) facts = (facts.0, filling (refs_of begun_command) (nums_of begun_command) address stored_count facts.1, facts.2)
  make_stays made begun_command command fixed taking filling (make.StoreRoot address) facts = (facts.0, filling (refs_of begun_command) (nums_of begun_command) address (words_made begun_command) facts.1)

  pub enter_stays : (made : ℕ) (begun_command command : Command) (fixed : Option Reply) (next : Entered) → EnterFacts world seat made begun_command command fixed next → EnterFacts later_world seat made begun_command command fixed next
  enter_stays made begun_command command fixed Call facts = facts
  enter_stays made begun_command command fixed Waited facts = answered_stays made begun_command command fixed facts

  -- what was answered and taken stays so
  taken_stays : (reply : Reply) → HasTaken config world seat reply → HasTaken config later_world seat reply
  taken_stays (Ref name) reply_taken = (reply_taken.0, reply_taken.1, subst (λ address. TargetIn config later_world address reply_taken.0 reply_taken.1 name) (sym world_kept.answer) (world_kept.targets (world.memory (Answer seat)) reply_taken.0 reply_taken.1 name reply_taken.2))
  taken_stays Full taken_full = world_kept.answer ∙ taken_full
  taken_stays _ taken_other = absurd taken_other

  pub wait_stays : (bit_at (world.memory Ask) 1 ≡ 1 → bit_at (later_world.memory Ask) 1 ≡ 1) → (made : ℕ) (begun_command command : Command) (fixed : Option Reply) (spot : WaitSpot) → WaitFacts config world seat made begun_command command fixed spot → WaitFacts config later_world seat made begun_command command fixed spot
  wait_stays bit made begun_command command fixed wait.StoreRequest facts = asking_stays made begun_command command fixed asking.nothing facts
  wait_stays bit made begun_command command fixed wait.AskRoom facts = asking_stays made begun_command command fixed (asking.asks (refs_of begun_command) (nums_of begun_command)) facts
  wait_stays bit made begun_command command fixed wait.StepOut facts = heard_stays bit made begun_command command fixed facts
  wait_stays bit made begun_command command fixed wait.Poll facts = polling_stays bit made begun_command command fixed facts
  wait_stays bit made begun_command command fixed wait.LoadAnswer facts = answered_stays made begun_command command fixed facts
  wait_stays bit made begun_command command fixed (wait.StoreRoot address) facts = (asking_stays made begun_command command fixed (asking.given (refs_of begun_command) (nums_of begun_command)) facts.0, world_kept.answer ∙ facts.1)
  wait_stays bit made begun_command command fixed (wait.ClearAnswer reply) facts = (facts.0, world_kept.wait ∙ facts.1, unpromised_stays facts.2, taken_stays reply facts.3, facts.4)

  -- and at its spot, if that of a taking does, that of the words of a new object, of a resolving and of a recording, and the bit that a
  -- mutator waits
  facts_stay : (made : ℕ) (kept : Kept) (command : Command) (fixed : Option Reply) → ((words : ℕ) (take : TakeSpot) → TakeFacts config world seat words take → TakeFacts config later_world seat words take)
      → ((refs nums address stored_count : ℕ) → IsFilling world seat made refs nums address stored_count → IsFilling later_world seat made refs nums address stored_count)
      → ((address : ℕ) (inner_spot : ResolveSpot) → IsResolving config world seat address inner_spot → IsResolving config later_world seat address inner_spot)
      → ((address : ℕ) (inner_spot : RememberSpot) → CanRecord config world seat address inner_spot → CanRecord config later_world seat address inner_spot) → (bit_at (world.memory Ask) 1 ≡ 1 → bit_at (later_world.memory Ask) 1 ≡ 1) → (spot : Spot)
      → SpotFacts config world seat made kept command fixed spot → SpotFacts config later_world seat made kept command fixed spot
  facts_stay made kept command fixed taking filling resolving recording bit Rest facts = facts
  facts_stay made kept command fixed taking filling resolving recording bit (Ended reply) facts = facts
  facts_stay made kept command fixed taking filling resolving recording bit (Entering spot next) facts = enter_stays made kept.command command fixed next facts
  facts_stay made kept command fixed taking filling resolving recording bit LoadPhase facts = facts
  facts_stay made kept command fixed taking filling resolving recording bit LoadSet facts = facts
  facts_stay made kept command fixed taking filling resolving recording bit (Loading spot) facts = load_stays made kept.command command fixed spot facts
  facts_stay made kept command fixed taking filling resolving recording bit (OnField object spot) facts = field_stays kept.command command fixed object spot facts
  facts_stay made kept command fixed taking filling resolving recording bit (Resolving address spot next) facts = (resolving address spot facts.0, resolved_stays kept.command command fixed address next facts.1)
  facts_stay made kept command fixed taking filling resolving recording bit (Recording spot address next) facts = (recording address spot facts.0, record_stays kept.command command fixed address next facts.1)
  facts_stay made kept command fixed taking filling resolving recording bit (OnNumber object refs spot) facts = number_stays kept.command command fixed object refs spot facts
  facts_stay made kept command fixed taking filling resolving recording bit (Showing value spot) facts = show_stays kept.command fixed value spot facts
  facts_stay made kept command fixed taking filling resolving recording bit (StoreRoot value) facts = (facts.0, facts.1, ⊎_elim (λ value_is. inl (copy_stays command (dst_of kept.command) value value_is)) (λ value_is. inr value_is) facts.2)
  facts_stay made kept command fixed taking filling resolving recording bit (Making spot) facts = make_stays made kept.command command fixed taking filling spot facts
  facts_stay made kept command fixed taking filling resolving recording bit AskCycle facts = facts
  facts_stay made kept command fixed taking filling resolving recording bit (Pinning value spot) facts = pin_facts_stay kept.command command fixed value spot facts
  facts_stay made kept command fixed taking filling resolving recording bit (Waiting spot) facts = wait_stays bit made kept.command command fixed spot facts
  facts_stay made kept command fixed taking filling resolving recording bit (Leave reply) facts = facts
  facts_stay made kept command fixed taking filling resolving recording bit Gone facts = facts

  -- what a mutator knows of its seat stays
  pub seated_stays : (made : ℕ) (waiting : Bool) → IsSeatedIn config world seat made waiting → IsSeatedIn config later_world seat made waiting
  seated_stays made waiting seated = record {
    below = seated.below;
    counted = world_kept.count ∙ seated.counted;
    usable = λ index index_below. subst (λ word. UsableIn config later_world word) (sym (world_kept.root_words index)) (usable_stays config world later_world world_kept.targets _ (seated.usable index index_below));
    unasked = λ calm. let unasked_before = seated.unasked calm in (world_kept.wait ∙ unasked_before.0, world_kept.answer ∙ unasked_before.1, unpromised_stays unasked_before.2);
  }

  -- a root that counts stays
  recording_stays : (dst value : ℕ) (next : Overwritten) (index : ℕ) → root_recording later_world seat dst value next index ≡ root_recording world seat dst value next index
  recording_stays dst value overwrites.Xchg index = rw (world_kept.root_words index) refl
  recording_stays dst value _ index = world_kept.root_words index

  resolving_stays : (dst value : ℕ) (next : Loaded) (index : ℕ) → root_resolving later_world seat dst value next index ≡ root_resolving world seat dst value next index
  resolving_stays dst value ForRoot index = rw (world_kept.root_words index) refl
  resolving_stays dst value (ToCompare object expect more) index = world_kept.root_words index

  pub now_stays : (kept : Kept) (spot : Spot) (index : ℕ) → root_now later_world seat kept spot index ≡ root_now world seat kept spot index
  now_stays kept (Showing value spot) index = rw (world_kept.root_words index) refl
  now_stays kept (Resolving address spot next) index = resolving_stays (dst_of kept.command) address next index
  now_stays kept (Recording spot address next) index = recording_stays (dst_of kept.command) address next index
  now_stays kept _ index = world_kept.root_words index

-- the words of a new object stay
filling_stays : (config : Config) (world next_world : World) (seat : ℕ) → Rely config seat world next_world → (made refs nums address stored_count : ℕ) → IsFilling world seat made refs nums address stored_count → IsFilling next_world seat made refs nums address stored_count
filling_stays config world next_world seat rely made refs nums address stored_count facts = record {
  room = rely.rooms address _ facts.room refl;
  within = facts.within;
  stored = λ offset offset_below. rely.room_words address offset _ facts.room refl (let object_within = facts.within in omega arith) ∙ facts.stored offset offset_below;
}

-- all that it knows stays
pub mine_stays : (config : Config) (world next_world : World) (mutator : Mutating) (command : Command) (fixed : Option Reply) → Shared config world → Rely config mutator.seat world next_world → Mine config world mutator command fixed → Mine config next_world mutator command fixed
mine_stays config world next_world mutator command fixed shared rely own_facts = let world_kept : Keeps config mutator.seat world next_world = keeps_of config mutator.seat world next_world rely in record {
  seated = seated_stays config world next_world mutator.seat world_kept mutator.made (is_waiting mutator.spot) own_facts.seated;
  ready = own_facts.ready;
  marking = marking_relied config world next_world mutator.seat (recording_of mutator.spot) mutator.kept.phase (has_phase mutator.spot) rely.marks own_facts.marking;
  copying = copying_relied config world next_world mutator.seat (copies_at mutator.spot) mutator.kept.cset (has_set mutator.spot) rely.copies own_facts.copying;
  roots = λ index index_below. rw (now_stays config world next_world mutator.seat world_kept mutator.kept mutator.spot index) (root_stays config world next_world mutator.seat world_kept _ index (own_facts.roots index index_below));
  rooms = λ room_address piece has_piece room. own_facts.rooms room_address piece (rely.no_rooms room_address piece has_piece room) room;
  facts = facts_stay config world next_world mutator.seat world_kept mutator.made mutator.kept command fixed (take_stays config world next_world mutator.seat rely)
      (filling_stays config world next_world mutator.seat rely mutator.made)
      (λ address inner_spot can_step. still_resolving config world next_world mutator.seat address inner_spot shared rely can_step)
      (λ address inner_spot can_step. ((recording_steps.steps config mutator.seat address).stands world inner_spot tt can_step).stays next_world rely) rely.asked mutator.spot own_facts.facts;
}
