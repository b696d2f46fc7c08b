-- Which words a mutator can go on from.
use Rattle.std.specs.Prelude.{ℕ, ◌≡◌, ◌≢◌, Bool, true, false, ◌&&◌, ◌==◌, nat_lt, if◌then◌else◌}
use Rattle.heap_words.specs.declared.config.Config.{Config}
use Rattle.heap_words.specs.Words.{Heap, is_word}
use Rattle.heap_words.specs.Fits.{form_fits}
use Rattle.shen_graph.specs.declared.order.Order.{Order}
use Rattle.shen_graph.specs.declared.order.Order.TheVariants.{Nothing, End}
use Rattle.shen_graph.specs.declared.command.Command.{Command}
use Rattle.handshake.specs.declared.enter_spot.EnterSpot.{EnterSpot}
use Rattle.handshake.specs.EnterRows.{is_ended as is_entered}
use Rattle.alloc_buffers.specs.declared.spot.TakeSpot.{TakeSpot}
use Rattle.alloc_buffers.specs.Rows as takes
use Rattle.satb_barrier.specs.declared.spot.RememberSpot.{RememberSpot}
use Rattle.satb_barrier.specs.Rows as satb
use Rattle.load_barrier.specs.declared.spot.ResolveSpot.{ResolveSpot}
use Rattle.load_barrier.specs.Fit as resolves
use Rattle.load_barrier.specs.UnitFit.{resolve_ready}
use Rattle.mutator.specs.declared.spot.Kept.{Kept}
use Rattle.mutator.specs.declared.spot.Spot.{Spot}
use Rattle.mutator.specs.declared.spot.Spot.TheVariants.{Entering, LoadSet, OnField, Resolving, Recording, Making, Waiting}
use Rattle.mutator.specs.declared.fields.FieldSpot.{FieldSpot}
use Rattle.mutator.specs.declared.fields.FieldSpot.TheVariants as fields
use Rattle.mutator.specs.declared.makes.MakeSpot.{MakeSpot}
use Rattle.mutator.specs.declared.makes.MakeSpot.TheVariants.{Taking, StoreWord, StoreRoot}
use Rattle.mutator.specs.declared.waits.WaitSpot.{WaitSpot}
use Rattle.mutator.specs.declared.waits.WaitSpot.TheVariants as wait
use Rattle.shen_graph.specs.Valid.{is_size, most_objects}
use Rattle.mutator.specs.Commands.{refs_of, nums_of}
use Rattle.mutator.specs.Rows.{Mutating, words_made, take_next, touch_at, next_of}

-- whether a mutator that has made so many objects can make one more, of so many fields
abbrev pub is_next_object : ℕ → ℕ → ℕ → Bool
is_next_object made refs nums = nat_lt made most_objects && (is_size refs && is_size nums)

-- and that of a command
abbrev pub can_make : ℕ → Command → Bool
can_make made command = is_next_object made (refs_of command) (nums_of command)

-- whether a taking of room has not ended
abbrev pub is_going : TakeSpot → Bool
is_going take = if takes.is_ended take then false else true

-- whether an entering of the heap has not ended
abbrev pub is_still_outside : EnterSpot → Bool
is_still_outside spot = if is_entered spot then false else true

-- whether the numbers of a spot of the making of an object are in range
abbrev pub make_fits : Config → Command → MakeSpot → Bool
make_fits config command (Taking take) = is_going take && takes.numbers_fit config (words_made command) take
make_fits config command (StoreWord address done) = nat_lt done (words_made command)
make_fits config command (StoreRoot address) = true

-- whether a mutator that has made so many objects can count one more, where its step counts one
abbrev pub can_count : ℕ → WaitSpot → Bool
can_count made (wait.StoreRoot address) = nat_lt made most_objects
can_count made _ = true

-- and whether those of a spot of the waiting for an object are
abbrev pub wait_fits : ℕ → Command → WaitSpot → Bool
wait_fits made command wait.StoreRequest = can_make made command
wait_fits made command spot = can_count made spot

-- whether the recording of an address of the heap has not ended, and its numbers are in range
abbrev pub remember_fits : Config → ℕ → RememberSpot → Bool
remember_fits config address spot = (if satb.is_ended spot then false else true) && (satb.is_ready config spot && is_word config (Heap address))

-- whether the resolving of an address of the heap, by the mutator of a seat, has not ended, and its numbers are in range
abbrev pub resolve_fits : Config → ℕ → ℕ → ResolveSpot → Bool
resolve_fits config seat address spot = is_word config (Heap address) && resolve_ready config seat address spot

-- Whether the numbers of a spot, beside those of its access, are in range. The phase is 0 to 3 wherever a call has begun.
abbrev pub numbers_fit : Config → ℕ → ℕ → Kept → Spot → Bool
numbers_fit config seat made kept (Entering spot next) = is_still_outside spot
numbers_fit config seat made kept LoadSet = nat_lt kept.phase 4
numbers_fit config seat made kept (Resolving address spot next) = resolve_fits config seat address spot
numbers_fit config seat made kept (Recording spot address next) = remember_fits config address spot
numbers_fit config seat made kept (Making spot) = can_make made kept.command && make_fits config kept.command spot
numbers_fit config seat made kept (Waiting spot) = wait_fits made kept.command spot
numbers_fit config seat made kept _ = true

-- whether the numbers of the next access are words: what is stored into a copy of an object was found in a word
abbrev pub stores_fit : Config → ℕ → ℕ → Kept → Spot → Bool
stores_fit config seat made kept (Resolving address spot next) = true
stores_fit config seat made kept spot = form_fits (touch_at config seat made kept Nothing spot).form

-- Whether the next access can be made from a spot. Between two calls it is that of the begin of a call; the one by which a
-- mutator ends can always be made.
abbrev pub is_ready : Config → ℕ → ℕ → Kept → Spot → Bool
is_ready config seat made kept spot = (is_word config (touch_at config seat made kept Nothing spot).word && stores_fit config seat made kept spot) && numbers_fit config seat made kept spot

-- the mutator's next access can be made
abbrev pub IsReady : Config → Mutating → Type 0
IsReady config mutator = is_ready config mutator.seat mutator.made mutator.kept mutator.spot ≡ true

-- whether a making can go on with the word: its taking of room can
abbrev pub make_goes : Config → ℕ → Command → MakeSpot → ℕ → Bool
make_goes config seat command (Taking take) got = takes.is_ready config seat (words_made command) (take_next config command take got)
make_goes config seat command _ got = true

-- the count of mutators that have not ended is not 0 where one of them ends
abbrev pub EndsFit : Order → ℕ → Type 0
EndsFit End got = got ≢ 0
EndsFit _ got = Unit {0}

-- whether a word is null or an address of the heap
abbrev pub is_reference_word : Config → ℕ → Bool
is_reference_word config word = if word == 0 then true else is_word config (Heap word)

-- whether a word that was found in a field can be gone on with: one that is to be used is a reference
abbrev pub field_goes : Config → FieldSpot → ℕ → Bool
field_goes config fields.Load got = is_reference_word config got
field_goes config (fields.LoadExpected expect value) got = is_reference_word config got
field_goes config (fields.Swap value) got = is_reference_word config got
field_goes config _ got = true

-- the word is fit for the part: a reference that is to be used is one, and a resolving can go on
abbrev pub PartFit : Config → ℕ → Kept → Spot → ℕ → Type 0
PartFit config seat kept (OnField object spot) got = field_goes config spot got ≡ true
PartFit config seat kept (Resolving address spot next) got = resolves.IsFit config seat address kept.phase spot got
PartFit config seat kept _ got = Unit {0}

-- the word is fit: the access that follows can be made, the part can go on, and nobody ends that is not counted
abbrev pub IsFit : Config → Mutating → Order → ℕ → Type 0
IsFit config mutator order got = IsReady config (next_of config mutator order got) × PartFit config mutator.seat mutator.kept mutator.spot got × EndsFit order got
