-- What the accesses of machines write into the words of the heap and the word of the copiers, by where they stand.
use Rattle.std.proofs.Common.{◌≡◌, ℕ, inl, inr, ◌+◌, ◌<◌, ◌≤◌, Bool, true, false, List, Some, Option, refl, sym, ap, ◌∙◌, subst, arith}
use Rattle.heap_words.specs.declared.config.Config.{Config}
use Rattle.heap_words.specs.Encoding.{plain_header, header_word, refs_in, next_in}
use Rattle.heap_words.specs.Words.{Word, Cset, Evac, Heap}
use Rattle.heap_words.proofs.Shapes.{refs_in-shape_word}
use Rattle.heap_words.specs.Touch.{Touch, loads, exchanges, touched}
use Rattle.shen_graph.specs.declared.name.Name.{Name}
use Rattle.shen_graph.specs.declared.command.Command.{Command}
use Rattle.shen_graph.specs.declared.command.Reply.{Reply}
use Rattle.shen_graph.specs.declared.order.Order.{Order}
use Rattle.shen_graph.specs.declared.order.Order.TheVariants.{Nothing, Begin, End, Hint}
use Rattle.shen_graph.specs.History.{Entry}
use Rattle.heap_words.specs.Counter.{IsQuiet}
use Rattle.handshake.specs.declared.enter_spot.EnterSpot.{EnterSpot}
use Rattle.handshake.specs.declared.stop_spot.StopSpot.{StopSpot}
use Rattle.handshake.specs.declared.stop_spot.StopSpot.TheVariants as stop
use Rattle.handshake.specs.declared.enter_spot.EnterSpot.TheVariants as enter
use Rattle.handshake.specs.EnterRows.{touch_at as enter_touch}
use Rattle.handshake.specs.StopRows.{touch_at as stop_touch}
use Rattle.alloc_buffers.specs.declared.spot.TakeSpot.{TakeSpot}
use Rattle.alloc_buffers.specs.declared.spot.TakeSpot.TheVariants as take
use Rattle.alloc_buffers.specs.Rows as takes
use Rattle.satb_barrier.specs.declared.spot.RememberSpot.{RememberSpot}
use Rattle.satb_barrier.specs.declared.spot.RememberSpot.TheVariants as remember
use Rattle.satb_barrier.specs.Rows as satb
use Rattle.unit_part.specs.declared.scan_spot.ScanSpot.{ScanSpot}
use Rattle.unit_part.specs.declared.scan_spot.ScanSpot.TheVariants as scan
use Rattle.unit_part.specs.ScanRows as scans
use Rattle.load_barrier.specs.declared.copying.CopySpot.{CopySpot}
use Rattle.load_barrier.specs.declared.copying.CopySpot.TheVariants.{LoadWord, StoreWord, StoreHeader, Publish, GiveBack}
use Rattle.load_barrier.specs.declared.spot.ResolveSpot.{ResolveSpot}
use Rattle.load_barrier.specs.declared.spot.ResolveSpot.TheVariants.{LoadHeader, Entering, LoadShape, Taking, Copying, Leaving, Stopping, LoadAgain, Resolved}
use Rattle.load_barrier.specs.Rows as resolves
use Rattle.load_barrier.specs.declared.evac_spot.EvacSpot.{EvacSpot}
use Rattle.load_barrier.specs.declared.evac_spot.EvacSpot.TheVariants as evac
use Rattle.load_barrier.specs.UnitRows as evacs
use Rattle.alloc_buffers.specs.Facts.{TakeFacts}
use Rattle.heap_world.specs.World.{World, Block, thing, hand, spare, words_of, room_of, Body, body_at, body_words, IsCollected, TargetIn, Shared}
use Rattle.cycle_steps.specs.Resolving.Facts.{IsCopied, CanResolve}
use Rattle.cycle_steps.proofs.Resolving.Parts.{resolving_steps}
use Rattle.cycle_steps.specs.Evacuation.Facts.{CanEvacuate}
use Rattle.unit_part.specs.UpdateRows as updates
use Rattle.unit_part.specs.declared.update_spot.UpdateSpot.{UpdateSpot}
use Rattle.unit_part.specs.declared.update_spot.UpdateSpot.TheVariants as update
use Rattle.cycle_steps.specs.Updating.Facts.{CanUpdate}
use Rattle.cycle_steps.proofs.Updating.Following.{following_steps}
use Rattle.mutator.specs.declared.spot.Kept.{Kept}
use Rattle.mutator.specs.declared.spot.Spot.{Spot}
use Rattle.mutator.specs.declared.spot.Spot.TheVariants.{Rest, Ended, Entering as Enters, LoadPhase, LoadSet, Loading, OnField, Resolving, Recording, OnNumber, Showing, StoreRoot, Making, AskCycle, Pinning, Waiting, Leave, Gone}
use Rattle.mutator.specs.declared.loads.LoadSpot.{LoadSpot}
use Rattle.mutator.specs.declared.loads.LoadSpot.TheVariants as load
use Rattle.mutator.specs.declared.fields.FieldSpot.{FieldSpot}
use Rattle.mutator.specs.declared.fields.FieldSpot.TheVariants as fields
use Rattle.mutator.specs.declared.numbers.NumberSpot.{NumberSpot}
use Rattle.mutator.specs.declared.numbers.NumberSpot.TheVariants as numbers
use Rattle.mutator.specs.declared.shows.ShowSpot.{ShowSpot}
use Rattle.mutator.specs.declared.shows.ShowSpot.TheVariants as show
use Rattle.mutator.specs.declared.makes.MakeSpot.{MakeSpot}
use Rattle.mutator.specs.declared.makes.MakeSpot.TheVariants as make
use Rattle.mutator.specs.declared.pins.PinSpot.{PinSpot}
use Rattle.mutator.specs.declared.pins.PinSpot.TheVariants as pins
use Rattle.mutator.specs.declared.waits.WaitSpot.{WaitSpot}
use Rattle.mutator.specs.declared.waits.WaitSpot.TheVariants as wait
use Rattle.mutator.specs.Commands.{index_of}
use Rattle.mutator.specs.Rows.{load_touch, field_place, field_touch, number_place, number_touch, show_touch, make_touch, pin_touch, first_touch, touch_at, touch_of, place_at}
use Rattle.mutator.specs.WaitRows.{wait_touch}
use Rattle.unit_part.specs.declared.spot.UnitSpot.{UnitSpot}
use Rattle.unit_part.specs.declared.spot.UnitSpot.TheVariants as unit
use Rattle.unit_part.specs.Rows as units
use Rattle.collector_rows.specs.declared.help_spot.HelpSpot.{HelpSpot}
use Rattle.collector_rows.specs.declared.help_spot.HelpSpot.TheVariants as help
use Rattle.collector_rows.specs.HelperRows as helps
use Rattle.collector_rows.specs.HelperRows.{Helping}
use Rattle.collector_rows.specs.declared.control_spot.ControlSpot.{ControlSpot}
use Rattle.collector_rows.specs.declared.control_spot.ControlSpot.TheVariants as control
use Rattle.collector_rows.specs.ControlRows.{Controlling, control_seat, control_touch}
use Rattle.shen_graph.specs.Order.{hint_in}
use Rattle.step_core.specs.Machines.{helping_by, controlling_by}
use Rattle.step_core.proofs.Machines.Hinting.{help_hinted_is, control_hinted_is}
use Rattle.step_core.specs.Actor.{Machine, mutating, helping, controlling, Actor}
use Rattle.step_core.proofs.Machines.Stepped.{FieldFacts, NumberFacts, MakeFacts, IsResolving, SpotFacts}
use Rattle.step_core.proofs.Machines.Owed.{CanWork, HelpFacts, ControlFacts, IsHelper, IsControl, IsMachine}
use Rattle.cycle_runs.specs.Evacuation.Runs.{is_write}

-- the words that are looked at here: those of the heap, and the word of the copiers
abbrev pub is_watched : Word → Bool
is_watched (Heap address) = true
is_watched Evac = true
is_watched _ = false

-- the exchange on the header at an address that publishes a copy of the object there, by a machine of a seat that copies it
pub record IsPublication (config : Config) (world : World) (seat address : ℕ) (body : Body) (touch : Touch) : Type 0 where
  pub copy : ℕ
  pub end : ℕ
  pub word : touch.word ≡ Heap address
  pub form : touch.form ≡ exchanges plain_header (header_word copy)
  pub inside : IsCollected config (world.memory Cset) address
  pub copies : world.ghost.copying seat ≡ true
  pub there : body_at (world.block address) ≡ Some body
  pub copied : IsCopied config world seat address copy end body (body_words body)
  pub plain : world.memory (Heap copy) ≡ plain_header

-- What an access of the machine of a seat does to those words. It loads one; it is of another word; it moves the word of the copiers, which
-- stays quiet; it writes a word of room of its own; it publishes a copy; it writes a field or a number of an object that may be used, where it may
-- work so; or it renews a field of an object outside the collection set.
pub data Writes (config : Config) (world : World) (seat : ℕ) (touch : Touch) (Work : Type 0) : Type 0 where
  only_loads : touch.form ≡ loads → Writes config world seat touch Work
  elsewhere : is_watched touch.word ≡ false → Writes config world seat touch Work
  counts : touch.word ≡ Evac → (IsQuiet (world.memory Evac) → IsQuiet (touched world.memory touch Evac)) → Writes config world seat touch Work
  fills : (address k : ℕ) (piece : Block) → world.block address ≡ Some piece → room_of piece ≡ Some seat → k < words_of piece → touch.word ≡ Heap (address + k) → Writes config world seat touch Work
  publishes : (address : ℕ) (body : Body) → IsPublication config world seat address body touch → Writes config world seat touch Work
  works : (address k refs nums : ℕ) (name : Name) → TargetIn config world address refs nums name → 3 ≤ k → k < 3 + refs + nums → touch.word ≡ Heap (address + k) → Work → Writes config world seat touch Work
  renews : (address k refs nums : ℕ) (name : Name) → world.block address ≡ Some (thing name refs nums) → (IsCollected config (world.memory Cset) address → ⊥) → 3 ≤ k → k < 3 + refs + nums → touch.word ≡ Heap (address + k)
      → Writes config world seat touch Work

-- the access of a machine by the name of its word: of the control, where it is of no word of an image
abbrev pub touch_in : Config → Order → Machine → Touch
touch_in config order (mutating mutator) = touch_of config mutator order
touch_in config order (helping helper) = helps.help_touch config (helping_by config order helper)
touch_in config order (controlling own_control) = control_touch config (controlling_by config order own_control).spot

-- whether it may write fields and numbers of objects: only a mutator does, at the places of these writes
abbrev pub WorkIn : Order → Machine → Type 0
WorkIn order (mutating mutator) = is_write (place_at order mutator.spot) ≡ true
WorkIn order _ = ⊥

module _ (config : Config) (world : World) (shared : Shared config world) where
  -- of who takes room
  take_writes : (seat words : ℕ) (spot : TakeSpot) (Work : Type 0) → TakeFacts config world seat words spot → Writes config world seat (takes.touch_at seat words spot) Work
  take_writes seat words take.LoadBuffer Work facts = Writes.elsewhere refl
  take_writes seat words (take.LoadShared buffer) Work facts = Writes.elsewhere refl
  take_writes seat words (take.LoadTop buffer region) Work facts = Writes.elsewhere refl
  take_writes seat words (take.Carve buffer region top room) Work facts = Writes.elsewhere refl
  take_writes seat words (take.LoadFree buffer shared_word) Work facts = Writes.elsewhere refl
  take_writes seat words (take.TakeRegion buffer shared_word region) Work facts = Writes.elsewhere refl
  take_writes seat words (take.ShareRegion buffer shared_word region) Work facts = Writes.elsewhere refl
  take_writes seat words (take.GiveBack buffer region) Work facts = Writes.elsewhere refl
  take_writes seat words (take.Fill buffer address room) Work facts =
      Writes.fills (next_in buffer) 0 (spare seat (takes.free_words buffer)) facts.left refl (let some_words = facts.some in omega (arith, some_words)) (ap Heap (omega arith))
  take_writes seat words (take.StoreBuffer address room) Work facts = Writes.elsewhere refl
  take_writes seat words (take.Ended taken end) Work facts = Writes.elsewhere refl

  -- a step of a resolving leaves the word of the copiers quiet
  quiet_then : (seat address : ℕ) (spot : ResolveSpot) → resolves.is_ended spot ≡ false → CanResolve config world seat address spot → IsQuiet (world.memory Evac) → IsQuiet (touched world.memory (resolves.touch_at config seat address spot) Evac)
  quiet_then seat address spot spot_going can_resolve quiet =
      let step = ((resolving_steps.steps config seat address).goes world spot spot_going shared can_resolve).step in
      subst (λ (memory : Word → ℕ). IsQuiet (memory Evac)) step.memory (step.keeps.copies.quiet quiet)

  -- of who copies
  copy_writes : (seat address copy end : ℕ) (spot : CopySpot) (Work : Type 0) → CanResolve config world seat address (Copying copy end spot) → Writes config world seat (resolves.copy_touch seat address copy end spot) Work
  copy_writes seat address copy end (LoadWord words index) Work can_resolve = Writes.only_loads refl
  copy_writes seat address copy end (StoreWord words index found) Work can_resolve =
      let copied_below = can_resolve.facts.2.2 in let copy_long = can_resolve.facts.2.0 in Writes.fills copy index (hand seat (body_words can_resolve.facts.0)) can_resolve.facts.2.3.taken.here refl (omega (arith, copied_below, copy_long)) refl
  copy_writes seat address copy end StoreHeader Work can_resolve = Writes.fills copy 0 (hand seat (body_words can_resolve.facts.0)) can_resolve.facts.2.taken.here refl (omega arith) (ap Heap (omega arith))
  copy_writes seat address copy end Publish Work can_resolve = Writes.publishes address can_resolve.facts.0 (record {
    copy = copy;
    end = end;
    word = refl;
    form = refl;
    inside = can_resolve.inside;
    copies = can_resolve.copying;
    there = can_resolve.facts.1;
    copied = can_resolve.facts.2.0;
    plain = can_resolve.facts.2.1;
  })
  copy_writes seat address copy end (GiveBack answer) Work can_resolve = Writes.elsewhere refl

  -- of who resolves an address, also while references are updated
  resolve_writes : (seat address : ℕ) (spot : ResolveSpot) (Work : Type 0) → CanResolve config world seat address spot → Writes config world seat (resolves.touch_at config seat address spot) Work
  resolve_writes seat address LoadHeader Work can_resolve = Writes.only_loads refl
  resolve_writes seat address (Entering spot) Work can_resolve = Writes.counts refl (quiet_then seat address (Entering spot) refl can_resolve)
  resolve_writes seat address LoadShape Work can_resolve = Writes.only_loads refl
  resolve_writes seat address (Taking words spot) Work can_resolve = take_writes seat words spot Work can_resolve.facts.2.1.facts
  resolve_writes seat address (Copying copy end spot) Work can_resolve = copy_writes seat address copy end spot Work can_resolve
  resolve_writes seat address (Leaving answer) Work can_resolve = Writes.counts refl (quiet_then seat address (Leaving answer) refl can_resolve)
  resolve_writes seat address (Stopping spot) Work can_resolve = Writes.counts refl (quiet_then seat address (Stopping spot) refl can_resolve)
  resolve_writes seat address LoadAgain Work can_resolve = Writes.only_loads refl
  resolve_writes seat address (Resolved answer) Work can_resolve = Writes.only_loads refl

  resolving_writes : (seat address : ℕ) (spot : ResolveSpot) (Work : Type 0) → IsResolving config world seat address spot → Writes config world seat (resolves.touch_at config seat address spot) Work
  resolving_writes seat address spot Work (inl can_resolve) = resolve_writes seat address spot Work can_resolve
  resolving_writes seat address spot Work (inr can_resolve) = Writes.only_loads (following_steps.only_loads config world seat address spot can_resolve)

  -- of who updates references
  update_writes : (seat cset : ℕ) (spot : UpdateSpot) (Work : Type 0) → CanUpdate config world seat cset spot → Writes config world seat (updates.touch_at config spot) Work
  update_writes seat cset (update.ClaimUnit unit) Work can_update = Writes.elsewhere refl
  update_writes seat cset (update.ExchangeField field_address field found copy) Work can_update =
      let has_field = can_update.facts.0 in
      let holder = can_update.facts.1.holder in
      let object = (shared.contents.objects.each field_address.address holder.1 holder.2 holder.0 holder.3).2 in
      let field_below = has_field.below in
      let refs = ap refs_in (has_field.shape_is ∙ object.shape) ∙ refs_in-shape_word holder.1 holder.2 object.few_refs object.few_nums in
      Writes.renews field_address.address (3 + field) holder.1 holder.2 holder.0 holder.3 (λ inside. (shared.updated can_update.phase).outside field_address.address holder.1 holder.2 holder.0 holder.3 inside)
      (omega arith) (omega (arith, field_below, refs)) (ap Heap (omega arith))
  update_writes seat cset _ Work can_update = Writes.only_loads refl

  -- of who evacuates
  evac_writes : (seat cset : ℕ) (spot : EvacSpot) (Work : Type 0) → CanEvacuate config world seat cset spot → Writes config world seat (evacs.touch_at config seat spot) Work
  evac_writes seat cset (evac.ClaimUnit unit) Work can_evacuate = Writes.elsewhere refl
  evac_writes seat cset (evac.Resolving address end next_piece spot) Work can_evacuate = resolve_writes seat address spot Work can_evacuate.facts.1
  evac_writes seat cset _ Work can_evacuate = Writes.only_loads refl

  -- of who scans
  scan_writes : (seat : ℕ) (spot : ScanSpot) (Work : Type 0) → Writes config world seat (scans.touch_at config spot) Work
  scan_writes seat (scan.ClaimUnit unit) Work = Writes.elsewhere refl
  scan_writes seat (scan.SetBlack address) Work = Writes.elsewhere refl
  scan_writes seat (scan.SetGrey address field refs found) Work = Writes.elsewhere refl
  scan_writes seat _ Work = Writes.only_loads refl

  -- of who works on a unit
  unit_writes : (seat : ℕ) (spot : UnitSpot) (Work : Type 0) → CanWork config world seat spot → Writes config world seat (units.touch_at config seat spot) Work
  unit_writes seat (unit.Scanning spot) Work can_work = scan_writes seat spot Work
  unit_writes seat (unit.Evacuating cset spot) Work can_work = evac_writes seat cset spot Work can_work
  unit_writes seat (unit.Updating cset spot) Work can_work = update_writes seat cset spot Work can_work
  unit_writes seat (unit.Ended ended) Work can_work = Writes.only_loads refl

  -- of who enters, and of who stops the others
  enter_writes : (seat entering_seat : ℕ) (spot : EnterSpot) (Work : Type 0) → Writes config world seat (enter_touch entering_seat spot) Work
  enter_writes seat entering_seat enter.Raise Work = Writes.elsewhere refl
  enter_writes seat entering_seat enter.Look Work = Writes.elsewhere refl
  enter_writes seat entering_seat enter.Lower Work = Writes.elsewhere refl
  enter_writes seat entering_seat enter.Await Work = Writes.elsewhere refl
  enter_writes seat entering_seat enter.Inside Work = Writes.elsewhere refl

  stop_writes : (seat : ℕ) (spot : StopSpot) (Work : Type 0) → Writes config world seat (stop_touch spot) Work
  stop_writes seat stop.Raise Work = Writes.elsewhere refl
  stop_writes seat (stop.Check checked_seat) Work = Writes.elsewhere refl
  stop_writes seat stop.Stopped Work = Writes.elsewhere refl

  -- of a helper
  help_writes : (seat : ℕ) (spot : HelpSpot) (Work : Type 0) → HelpFacts config world seat spot → Writes config world seat (helps.touch_at config seat spot) Work
  help_writes seat help.LoadEnd Work facts = Writes.only_loads refl
  help_writes seat (help.Entering spot) Work facts = enter_writes seat seat spot Work
  help_writes seat help.LoadPhase Work facts = Writes.only_loads refl
  help_writes seat (help.LoadSet phase) Work facts = Writes.only_loads refl
  help_writes seat (help.Working spot) Work facts = unit_writes seat spot Work facts
  help_writes seat help.Leave Work facts = Writes.elsewhere refl
  help_writes seat help.Gone Work facts = Writes.only_loads refl

  -- of the control, where it stores no word of an image
  control_writes : (spot : ControlSpot) (Work : Type 0) → ControlFacts config world (control_seat config) spot → Writes config world (control_seat config) (control_touch config spot) Work
  control_writes control.LookLeft Work facts = Writes.only_loads refl
  control_writes control.StoreEnd Work facts = Writes.elsewhere refl
  control_writes control.LookAsked Work facts = Writes.only_loads refl
  control_writes control.LookFree Work facts = Writes.only_loads refl
  control_writes (control.Working spot) Work facts = unit_writes (control_seat config) spot Work facts
  control_writes (control.Stopping spot) Work facts = stop_writes (control_seat config) spot Work
  control_writes (control.LoadWord index extent) Work facts = Writes.only_loads refl
  control_writes (control.StoreWord index extent) Work facts = Writes.only_loads refl
  control_writes control.Go Work facts = Writes.elsewhere refl
  control_writes control.Gone Work facts = Writes.only_loads refl

  -- by the parts of a call
  load_writes : (seat : ℕ) (command : Command) (spot : LoadSpot) (Work : Type 0) → Writes config world seat (load_touch seat command spot) Work
  load_writes seat command load.First Work = Writes.only_loads refl
  load_writes seat command (load.Second first_number) Work = Writes.only_loads refl
  load_writes seat command (load.Third first_number second) Work = Writes.only_loads refl
  load_writes seat command (load.Shape object second third) Work = Writes.only_loads refl

  field_writes : (seat : ℕ) (kept command : Command) (fixed : Option Reply) (object : ℕ) (spot : FieldSpot) → FieldFacts config world seat kept command fixed object spot → Writes config world seat (field_touch object kept spot) (is_write (field_place spot) ≡ true)
  field_writes seat kept command fixed object fields.Load facts = Writes.only_loads refl
  field_writes seat kept command fixed object (fields.LoadExpected expect value) facts = Writes.only_loads refl
  field_writes seat kept command fixed object (fields.LoadOld value) facts = Writes.only_loads refl
  field_writes seat kept command fixed object (fields.Store value) facts =
      let set_facts = facts.1 in let field_within = set_facts.below in Writes.works object (3 + index_of kept) set_facts.of.refs set_facts.of.nums set_facts.of.name set_facts.of.target (omega arith) (omega (arith, field_within)) (ap Heap (omega arith)) refl
  field_writes seat kept command fixed object (fields.Swap value) facts =
      let swap = facts.1 in let field_within = swap.below in Writes.works object (3 + index_of kept) swap.of.refs swap.of.nums swap.of.name swap.of.target (omega arith) (omega (arith, field_within)) (ap Heap (omega arith)) refl
  field_writes seat kept command fixed object (fields.Exchange found expect value) facts =
      let cas = facts.1 in let field_within = cas.below in Writes.works object (3 + index_of kept) cas.of.refs cas.of.nums cas.of.name cas.of.target (omega arith) (omega (arith, field_within)) (ap Heap (omega arith)) refl

  number_writes : (seat : ℕ) (kept command : Command) (fixed : Option Reply) (object refs : ℕ) (spot : NumberSpot) → NumberFacts config world seat kept command fixed object refs spot
      → Writes config world seat (number_touch object refs kept spot) (is_write (number_place spot) ≡ true)
  number_writes seat kept command fixed object refs numbers.Load facts = Writes.only_loads refl
  number_writes seat kept command fixed object refs numbers.Store facts =
      let number_facts = facts.1 in
      let number_within = number_facts.below in
      let refs_counted = number_facts.refs_are in
      Writes.works object (3 + refs + index_of kept) number_facts.of.refs number_facts.of.nums number_facts.of.name number_facts.of.target (omega arith) (omega (arith, number_within, refs_counted)) (ap Heap (omega arith)) refl

  remember_writes : (seat address : ℕ) (spot : RememberSpot) (Work : Type 0) → Writes config world seat (satb.touch_at config seat address spot) Work
  remember_writes seat address remember.LoadCount Work = Writes.elsewhere refl
  remember_writes seat address (remember.LoadEntry entry) Work = Writes.elsewhere refl
  remember_writes seat address (remember.MarkEntry entry found) Work = Writes.elsewhere refl
  remember_writes seat address remember.ClearCount Work = Writes.elsewhere refl
  remember_writes seat address (remember.StoreEntry entry) Work = Writes.elsewhere refl
  remember_writes seat address (remember.StoreCount entry) Work = Writes.elsewhere refl
  remember_writes seat address remember.Recorded Work = Writes.elsewhere refl

  show_writes : (seat value : ℕ) (command : Command) (spot : ShowSpot) (Work : Type 0) → Writes config world seat (show_touch seat value command spot) Work
  show_writes seat value command show.LoadName Work = Writes.only_loads refl
  show_writes seat value command (show.StoreRoot reply) Work = Writes.elsewhere refl

  make_writes : (seat made : ℕ) (kept command : Command) (fixed : Option Reply) (spot : MakeSpot) (Work : Type 0) → MakeFacts config world seat made kept command fixed spot → Writes config world seat (make_touch seat made kept spot) Work
  make_writes seat made kept command fixed (make.Taking spot) Work facts = take_writes seat _ spot Work facts.1
  make_writes seat made kept command fixed (make.StoreWord address stored_words) Work facts = Writes.fills address stored_words (hand seat _) facts.1.room refl facts.2 refl
  make_writes seat made kept command fixed (make.StoreRoot address) Work facts = Writes.elsewhere refl

  wait_writes : (seat made : ℕ) (command : Command) (spot : WaitSpot) (Work : Type 0) → Writes config world seat (wait_touch seat made command spot) Work
  wait_writes seat made command wait.Poll Work = Writes.elsewhere refl
  wait_writes seat made command wait.LoadAnswer Work = Writes.elsewhere refl
  wait_writes seat made command wait.StoreRequest Work = Writes.elsewhere refl
  wait_writes seat made command wait.AskRoom Work = Writes.elsewhere refl
  wait_writes seat made command wait.StepOut Work = Writes.elsewhere refl
  wait_writes seat made command (wait.StoreRoot address) Work = Writes.elsewhere refl
  wait_writes seat made command (wait.ClearAnswer reply) Work = Writes.elsewhere refl

  pin_writes : (seat value : ℕ) (command : Command) (spot : PinSpot) (Work : Type 0) → Writes config world seat (pin_touch seat value command spot) Work
  pin_writes seat value command pins.Look Work = Writes.only_loads refl
  pin_writes seat value command pins.Store Work = Writes.elsewhere refl

  -- between two calls
  first_writes : (seat : ℕ) (order : Order) (Work : Type 0) → Writes config world seat (first_touch seat order) Work
  first_writes seat Nothing Work = Writes.elsewhere refl
  first_writes seat (Begin command) Work = Writes.elsewhere refl
  first_writes seat End Work = Writes.elsewhere refl
  first_writes seat (Hint address) Work = Writes.elsewhere refl

  -- of a mutator
  spot_writes : (seat made : ℕ) (kept : Kept) (command : Command) (fixed : Option Reply) (order : Order) (spot : Spot) → SpotFacts config world seat made kept command fixed spot
      → Writes config world seat (touch_at config seat made kept order spot) (is_write (place_at order spot) ≡ true)
  spot_writes seat made kept command fixed order Rest facts = first_writes seat order _
  spot_writes seat made kept command fixed order (Ended reply) facts = first_writes seat order _
  spot_writes seat made kept command fixed order (Enters spot next) facts = enter_writes seat seat spot _
  spot_writes seat made kept command fixed order LoadPhase facts = Writes.only_loads refl
  spot_writes seat made kept command fixed order LoadSet facts = Writes.only_loads refl
  spot_writes seat made kept command fixed order (Loading spot) facts = load_writes seat kept.command spot _
  spot_writes seat made kept command fixed order (OnField object spot) facts = field_writes seat kept.command command fixed object spot facts
  spot_writes seat made kept command fixed order (Resolving address spot next) facts = resolving_writes seat address spot _ facts.0
  spot_writes seat made kept command fixed order (Recording spot address next) facts = remember_writes seat address spot _
  spot_writes seat made kept command fixed order (OnNumber object refs spot) facts = number_writes seat kept.command command fixed object refs spot facts
  spot_writes seat made kept command fixed order (Showing value spot) facts = show_writes seat value kept.command spot _
  spot_writes seat made kept command fixed order (StoreRoot value) facts = Writes.elsewhere refl
  spot_writes seat made kept command fixed order (Making spot) facts = make_writes seat made kept.command command fixed spot _ facts
  spot_writes seat made kept command fixed order AskCycle facts = Writes.elsewhere refl
  spot_writes seat made kept command fixed order (Pinning value spot) facts = pin_writes seat value kept.command spot _
  spot_writes seat made kept command fixed order (Waiting spot) facts = wait_writes seat made kept.command spot _
  spot_writes seat made kept command fixed order (Leave reply) facts = Writes.elsewhere refl
  spot_writes seat made kept command fixed order Gone facts = Writes.only_loads refl

  -- and of any machine
  pub machine_writes : (words : List ℕ) (entries : List Entry) (number : ℕ) (actor : Actor) (order : Order) (machine : Machine) → IsMachine config words world entries number actor machine → Writes config world number (touch_in config order machine) (WorkIn order machine)
  machine_writes words entries number actor order (mutating mutator) facts =
      subst (λ seat. Writes config world seat (touch_of config mutator order) (is_write (place_at order mutator.spot) ≡ true)) facts.number_is (spot_writes mutator.seat mutator.made mutator.kept actor.command facts.fixed order mutator.spot facts.mine.facts)
  machine_writes words entries number actor order (helping helper) facts = helper_writes (helping_by config order helper) (help_hinted_is config world number (hint_in order) helper facts)
    where
      helper_writes : (y : Helping) → IsHelper config world number y → Writes config world number (helps.help_touch config y) ⊥
      helper_writes y is_helper = subst (λ seat. Writes config world seat (helps.help_touch config y) ⊥) is_helper.number_is (help_writes y.seat y.spot ⊥ (subst (λ seat. HelpFacts config world seat y.spot) (sym is_helper.number_is) is_helper.facts))
  machine_writes words entries number actor order (controlling own_control) facts = the_control_writes (controlling_by config order own_control) (control_hinted_is config world number words (hint_in order) own_control facts)
    where
      the_control_writes : (y : Controlling) → IsControl config words world number y → Writes config world number (control_touch config y.spot) ⊥
      the_control_writes y is_control = subst (λ seat. Writes config world seat (control_touch config y.spot) ⊥) (sym is_control.number_is) (control_writes y.spot ⊥ (subst (λ seat. ControlFacts config world seat y.spot) is_control.number_is is_control.facts))
