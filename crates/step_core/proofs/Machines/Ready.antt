-- Accesses that can be made.
use Rattle.std.proofs.Common.{◌≡◌, ℕ, ◌+◌, ◌<◌, ◌≤◌, Bool, true, false, Option, Some, None, refl, arith}
use Rattle.std.specs.Prelude.{◌&&◌, ◌^◌, nat_lt}
use Rattle.std.proofs.lemmas.Bool.{and_from, lt-ltb, le-leb}
use Rattle.std.proofs.lemmas.Bool.Decides.{nat_tests}
use Rattle.heap_words.specs.declared.config.Config.{Config}
use Rattle.heap_words.specs.Encoding.{fresh_word}
use Rattle.heap_words.specs.Words.{Root}
use Rattle.heap_words.specs.Fits.{touch_fits, is_number}
use Rattle.shen_graph.specs.declared.command.Command.{Command}
use Rattle.shen_graph.specs.declared.command.Reply.{Reply}
use Rattle.shen_graph.specs.Valid.{most_objects}
use Rattle.alloc_buffers.specs.declared.spot.TakeSpot.{TakeSpot}
use Rattle.alloc_buffers.specs.Rows as takes
use Rattle.mutator.specs.declared.spot.Spot.{Spot}
use Rattle.mutator.specs.declared.spot.Spot.TheVariants.{Rest, Ended, Making, Waiting, Leave}
use Rattle.mutator.specs.declared.waits.WaitSpot.TheVariants as wait
use Rattle.mutator.specs.Orders.{takes_commands}
use Rattle.mutator.specs.WaitRows.{request_of}
use Rattle.mutator.specs.declared.makes.MakeSpot.TheVariants as make
use Rattle.mutator.specs.declared.spot.Kept.{Kept}
use Rattle.mutator.specs.Commands.{dst_of, refs_of, nums_of}
use Rattle.mutator.specs.Fit.{is_ready, is_next_object, is_going}
use Rattle.heap_world.specs.World.{World, hand, promised, Plot, Points, IsPlotted}
use Rattle.step_core.proofs.Machines.Stepped.{IsMaking, IsSeatedIn, Mine}
use Rattle.step_core.proofs.Mutators.Spots.{mutator_at}
use Rattle.heap_world.proofs.Pointing.{piece_word, piece_small}
use Rattle.alloc_buffers.specs.Facts.{OnlySpares}

-- an access can be made whose word is one of the table and whose number is a word
pub ready_of : (holds number_holds : Bool) → holds ≡ true → number_holds ≡ true → ((holds && number_holds) && true) ≡ true
ready_of holds number_holds word_fits number_fits = rw (word_fits, number_fits) refl

-- a small number is one that a word holds
pub number_small : (number : ℕ) → number < 2 ^ 32 → is_number number ≡ true
number_small number number_below = lt-ltb number (2 ^ 64) (omega arith)

-- a state word of a mutator is one of the table
pub state_word : (config : Config) (seat : ℕ) → seat < config.mutators → nat_lt seat (config.mutators + config.helpers) ≡ true
state_word config seat seat_below = lt-ltb _ _ (omega (arith, seat_below))

-- a mutator between two calls can begin one
pub rest_ready : (config : Config) (seat made : ℕ) (kept : Kept) (spot : Spot) → takes_commands spot ≡ true → seat < config.mutators → is_ready config seat made kept spot ≡ true
rest_ready config seat made kept Rest takes seat_below = ready_of _ true (state_word config seat seat_below) refl
rest_ready config seat made kept (Ended reply) takes seat_below = ready_of _ true (state_word config seat seat_below) refl
rest_ready config seat made kept _ takes seat_below = absurd (cc (takes))

-- of the seat of a mutator that waits it is not said what it has asked for
pub seated_waiting : (config : Config) (world : World) (seat made : ℕ) (waiting : Bool) → IsSeatedIn config world seat made waiting → IsSeatedIn config world seat made true
seated_waiting config world seat made waiting seated = record { below = seated.below; counted = seated.counted; usable = seated.usable; unasked = λ not_waiting. absurd (cc (not_waiting)) }

-- a mutator can always leave
leave_ready : (config : Config) (seat made : ℕ) (kept : Kept) (reply : Reply) → seat < config.mutators → is_ready config seat made kept (Leave reply) ≡ true
leave_ready config seat made kept reply seat_below = grind (arith, nat_tests)

-- who has no room but free words of its buffer has none in hand
pub no_hand : (world : World) (seat : ℕ) → OnlySpares world seat → (address words : ℕ) → world.block address ≡ Some (hand seat words) → ⊥
no_hand world seat rooms address words hand_there = let not_hand = (rooms address (hand seat words) hand_there refl).1 in cc

-- with its reply settled, a mutator has only to leave
pub leaving : (config : Config) (world : World) (seat made : ℕ) (kept : Kept) (command : Command) (reply : Reply) → IsSeatedIn config world seat made false
    → (world.ghost.recording seat ≡ None) × (world.ghost.scanning seat ≡ None) × (world.ghost.copying seat ≡ false) × (world.ghost.working seat ≡ None)
    → ((index : ℕ) → index < 16 → Points world.block (world.memory (Root seat index)) (world.graph.root (seat + 1) index)) → OnlySpares world seat
    → Mine config world (mutator_at seat made kept (Leave reply)) command (Some reply)
leaving config world seat made kept command reply seated idle roots rooms = record {
  seated = seated;
  ready = leave_ready config seat made kept reply seated.below;
  marking = record { records = idle.0; scans = idle.1; phase_is = λ impossible. absurd (cc (impossible)) };
  copying = record { copies_is = idle.2; works_none = idle.3; set_is = λ impossible. absurd (cc (impossible)) };
  roots = roots;
  rooms = rooms;
  facts = refl;
}

-- the words of a new object are words of 64 bits
fresh_small : (seat made refs nums offset : ℕ) → seat < 8 → made < most_objects → refs ≤ 16 → nums ≤ 16 → fresh_word seat made refs nums offset < 2 ^ 64
fresh_small seat made refs nums offset few_seats few_made few_refs few_nums = grind (arith, nat_tests)

module _ (config : Config) (seat made : ℕ) (kept : Kept) (command : Command) (fixed : Option Reply) (making : IsMaking made command fixed (dst_of kept.command) (refs_of kept.command) (nums_of kept.command)) where
  abbrev refs : ℕ
  refs = refs_of kept.command

  abbrev nums : ℕ
  nums = nums_of kept.command

  -- the object can be made
  object_fits : is_next_object made refs nums ≡ true
  object_fits = and_from _ _ (lt-ltb _ _ making.few) (and_from _ _ (le-leb _ _ making.few_refs) (le-leb _ _ making.few_nums))

  -- the accesses of a taking can be made
  pub taking_ready : (take_spot : TakeSpot) → touch_fits config (takes.touch_at seat (3 + refs + nums) take_spot) ≡ true → is_going take_spot ≡ true → takes.numbers_fit config (3 + refs + nums) take_spot ≡ true
      → is_ready config seat made kept (Making (make.Taking take_spot)) ≡ true
  taking_ready take_spot touch_is_fit spot_going numbers = and_from _ _ touch_is_fit (and_from _ _ object_fits (and_from _ _ spot_going numbers))

  module _ (top : ℕ → ℕ) (block : Plot) (plotted : IsPlotted config top block) (address : ℕ) (room_there : block address ≡ Some (hand seat (3 + refs + nums))) (seat_below : seat < config.mutators) where
    -- the words of the object can be stored
    pub word_ready : (stored_words : ℕ) → stored_words < 3 + refs + nums → is_ready config seat made kept (Making (make.StoreWord address stored_words)) ≡ true
    word_ready stored_words done_below =
        let few_seats : seat < 8 = (let most_mutators = config.in_range.most_mutators in omega (arith, seat_below, most_mutators)) in
        and_from _ _
        (and_from _ _
        (piece_word config top block plotted address stored_words (hand seat (3 + refs + nums)) room_there done_below)
        (lt-ltb _ _ (fresh_small seat made refs nums stored_words few_seats making.few making.few_refs making.few_nums)))
        (and_from _ _ object_fits (lt-ltb _ _ done_below))

    -- its address can be stored into a root
    pub fresh_ready : is_ready config seat made kept (Making (make.StoreRoot address)) ≡ true
    fresh_ready =
        and_from _ _
        (and_from _ _ (and_from _ _ (lt-ltb _ _ seat_below) (lt-ltb _ _ making.small)) (number_small address (piece_small config top block plotted address (hand seat (3 + refs + nums)) room_there)))
        (and_from _ _ object_fits refl)

  -- the object can be asked for
  pub request_ready : seat < config.mutators → is_ready config seat made kept (Waiting wait.StoreRequest) ≡ true
  request_ready seat_below =
      let few_seats = making.few in
      let few_refs = making.few_refs in
      let few_nums = making.few_nums in
      and_from _ _ (and_from _ _ (lt-ltb _ _ seat_below) (lt-ltb (request_of made kept.command) (2 ^ 64) (omega (arith, few_seats, few_refs, few_nums)))) object_fits

  -- once it was made, its address can be stored into a root
  pub given_ready : (top : ℕ → ℕ) (block : Plot) (address : ℕ) → IsPlotted config top block → block address ≡ Some (promised seat (3 + refs + nums)) → seat < config.mutators
      → is_ready config seat made kept (Waiting (wait.StoreRoot address)) ≡ true
  given_ready top block address plotted promise_there seat_below =
      and_from _ _
      (and_from _ _ (and_from _ _ (lt-ltb _ _ seat_below) (lt-ltb _ _ making.small)) (number_small address (piece_small config top block plotted address (promised seat (3 + refs + nums)) promise_there)))
      (lt-ltb _ _ making.few)
