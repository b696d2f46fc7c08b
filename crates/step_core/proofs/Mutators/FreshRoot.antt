-- A new object is stored into a root: room in hand, or an object that was promised, becomes an object of the graph, and its name
-- is settled.
use Rattle.heap_words.specs.Phases.{marking_phase}
use Rattle.std.proofs.Common.{◌≡◌, ◌≢◌, ℕ, ◌+◌, ◌<◌, ◌⊎◌, inl, inr, ◌≤◌, true, Option, Some, None, refl, sym, ap, ◌∙◌, subst, arith}
use Rattle.std.specs.Prelude.{◌==◌, ◌&&◌}
use Rattle.std.proofs.lemmas.Bool.{cond-false, ne_eqb, and_left}
use Rattle.std.proofs.lemmas.Bool.Decides.{nat_tests}
use Rattle.heap_words.specs.declared.config.Config.{Config}
use Rattle.heap_words.specs.Encoding.{fresh_word}
use Rattle.heap_words.specs.Words.{Free, Claim, Cset, Evac, Phase, Root, Top, Tams, Limit, Heap, Current, Share, Pin, Count, Buffer, Grey, Black}
use Rattle.heap_words.specs.Touch.{touch, stores, touched}
use Rattle.shen_graph.specs.declared.name.Name.{Name}
use Rattle.shen_graph.specs.declared.command.Command.{Command}
use Rattle.shen_graph.specs.declared.command.Reply.{Reply}
use Rattle.shen_graph.specs.declared.command.Reply.TheVariants as reply
use Rattle.shen_graph.specs.Graph.{Object, blank, fresh, with_root, with_fresh}
use Rattle.shen_graph.specs.Step.{outcome, pinned_by}
use Rattle.mutator.specs.Commands.{dst_of, refs_of, nums_of}
use Rattle.mutator.specs.WaitRows.{next_name}
use Rattle.heap_world.specs.World.{World, Block, thing, moved, promised, dead, filler, spare, carved, words_of, room_of, name_at, Points, IsCollected, TargetIn, UsableIn, IsThing, IsGiven, IsYoung, Shared}
use Rattle.heap_world.specs.Rely.{Rely}
use Rattle.heap_world.proofs.FunctionUpdates.{updated, updated_there, updated_else}
use Rattle.heap_world.proofs.Keeping.{points_stay, usable_stays}
use Rattle.heap_world.proofs.Pins.{pins_stay}
use Rattle.regions.specs.Marks.{HasMark}
use Rattle.std.proofs.lemmas.Option.{none-some}
use Rattle.heap_world.proofs.Copies.{CopiesStay, rely_copies}
use Rattle.heap_world.proofs.Marked.{rely_marks}
use Rattle.heap_world.proofs.Fields.{fields_stored}
use Rattle.heap_world.proofs.NewObject.{new_object, stays, names_stay, things_stay, old_room, old_promise, parsable_again, objects_again, owned_again, unwritten_again, markable_again, marking_again, evacuating_again, updating_again, given_again, with_count, count_own}
use Rattle.step_core.proofs.Machines.Stepped.{IsMaking, LegalBy, graph_by}
use Rattle.step_core.proofs.History.Settling.{legal_answer, graph_answer}
use Rattle.heap_world.proofs.RootChanges.{roots_written, usable_written}

-- a piece that is no other seat's, neither its room nor promised to it, and no dead object or filler, nor free words of a buffer or carved words
pub record IsOwn (seat : ℕ) (piece : Block) : Type 0 where
  pub no_room : (other_seat : ℕ) → other_seat ≢ seat → room_of piece ≢ Some other_seat
  pub no_promise : (other_seat words : ℕ) → other_seat ≢ seat → piece ≡ promised other_seat words → ⊥
  pub no_dead : (words : ℕ) → piece ≡ dead words → ⊥
  pub no_filler : (words : ℕ) → piece ≡ filler words → ⊥
  pub no_spare : (other_seat words : ℕ) → piece ≡ spare other_seat words → ⊥
  pub no_carved : (other_seat words : ℕ) → piece ≡ carved other_seat words → ⊥

-- What is needed where a mutator stores its next object into a root: the command makes it, and a piece of the seat's own has all
-- its words.
pub record HasNew (config : Config) (world : World) (seat made : ℕ) (command other_command : Command) (fixed : Option Reply) (address : ℕ) : Type 0 where
  pub making : IsMaking made command fixed (dst_of other_command) (refs_of other_command) (nums_of other_command)
  pub within : seat < config.mutators
  pub counted : world.graph.count (seat + 1) ≡ made
  pub piece : Block
  pub here : world.block address ≡ Some piece
  pub unnamed : name_at (Some piece) ≡ None
  pub long : words_of piece ≡ 3 + refs_of other_command + nums_of other_command
  pub own : IsOwn seat piece
  pub known : world.memory Phase ≡ marking_phase → (world.ghost.snapshot.starts address ≡ true) ⊎ IsYoung config world.ghost.snapshot.top address
  pub outside : IsCollected config (world.memory Cset) address → ⊥
  pub kept : 2 ≤ world.memory Phase → HasMark config (λ number. world.memory (Black number)) address ⊎ IsYoung config (λ region. world.memory (Tams region)) address
  pub stored : (i : ℕ) → i < 3 + refs_of other_command + nums_of other_command → world.memory (Heap (address + i)) ≡ fresh_word seat made (refs_of other_command) (nums_of other_command) i
  pub shared : Shared config world

module _ {c : Config} {u : World} {seat made : ℕ} {command k : Command} {fixed : Option Reply} {address : ℕ} (has_new : HasNew c u seat made command k fixed address) where
  abbrev top : ℕ → ℕ
  top region = u.memory (Top region)

  abbrev refs : ℕ
  refs = refs_of k

  abbrev nums : ℕ
  nums = nums_of k

  abbrev name : Name
  name = fresh u.graph (seat + 1)

  -- the world with the new object
  abbrev pub made_world : World
  made_world = record {
    memory = touched u.memory (touch (Root seat (dst_of k)) (stores address));
    block = updated u.block address (Some (thing name refs nums));
    ghost = u.ghost;
    graph = with_root (with_fresh u.graph (seat + 1) (blank refs nums)) (seat + 1) (dst_of k) (Some name);
  }

  -- the reply that is settled
  abbrev pub made_reply : Reply
  made_reply = reply.Ref (next_name seat made)

  -- what a word stands for it still stands for
  names : (address : ℕ) (name : Name) → name_at (u.block address) ≡ Some name → name_at (made_world.block address) ≡ Some name
  names = names_stay c top u.block address refs nums name has_new.piece has_new.unnamed has_new.long has_new.here

  -- each object stands where it stood
  targets : (address found_refs found_nums : ℕ) (name : Name) → TargetIn c u address found_refs found_nums name → TargetIn c made_world address found_refs found_nums name
  targets asked_address found_refs found_nums found_name target_there =
      record { piece = things_stay c top u.block address refs nums name has_new.piece has_new.unnamed has_new.long has_new.here asked_address found_refs found_nums found_name target_there.piece; safe = target_there.safe }

  -- the thread's fresh name is the one that the mutator writes
  name_is : name ≡ next_name seat made
  name_is = ap (next_name seat) has_new.counted

  -- no object has it
  not_given : (object : Object) → u.graph.object name ≡ Some object → ⊥
  not_given object has_object = let name_given = has_new.shared.contents.given name object has_object in let made_most = name_given.by_thread (omega arith) in omega (arith, made_most)

  -- its words are those of a blank object
  new_is : IsThing (λ address. u.memory (Heap address)) made_world.block address refs nums name (blank refs nums)
  new_is =
      subst (λ any_name. IsThing (λ address. u.memory (Heap address)) made_world.block address refs nums any_name (blank refs nums)) (sym name_is)
      (new_object (λ address. u.memory (Heap address)) made_world.block address seat made refs nums has_new.making.few_refs has_new.making.few_nums has_new.stored)

  -- its name is given then
  is_given : IsGiven c (with_count u.graph.count (seat + 1)) name
  is_given =
      let own_count = count_own u.graph.count (seat + 1) in
      let few_words = has_new.making.few in
      let counted = has_new.counted in
      let object_within = has_new.within in
      record { thread = omega (arith, object_within); made = omega (arith, own_count); by_thread = λ some_thread. omega (arith, own_count); small = omega (arith, few_words, counted) }

  -- its references are null
  nulls : (field : ℕ) → field < refs → u.memory (Heap (address + 3 + field)) ≡ 0
  nulls field field_below = ap (λ address. u.memory (Heap address)) (omega arith) ∙ has_new.stored (3 + field) (omega (arith, field_below)) ∙ grind (arith, nat_tests)

  -- machines share what they should
  pub shared_made : Shared c made_world
  shared_made = record {
    parsable = parsable_again c top u.block address refs nums name has_new.piece has_new.unnamed has_new.long has_new.here has_new.shared.parsable;
    contents = record {
      objects = objects_again c top u.block address refs nums name has_new.piece has_new.unnamed has_new.long has_new.here (λ address. u.memory (Heap address)) u.graph.object has_new.shared.contents.objects not_given (blank refs nums) new_is;
      given = given_again c u.graph.count u.graph.object name (blank refs nums) has_new.shared.contents.given is_given;
    };
    owned = owned_again c top u.block address refs nums name has_new.piece has_new.unnamed has_new.long has_new.here (u.memory Share) (u.memory Free) (u.memory Cset) (λ seat. u.memory (Current seat)) u.ghost.owner has_new.own.no_spare has_new.own.no_carved has_new.shared.owned;
    phased = has_new.shared.phased;
    unwritten = unwritten_again c top u.block address refs nums name has_new.piece has_new.unnamed has_new.long has_new.here (λ address. u.memory (Heap address)) has_new.shared.unwritten;
    marked = marking_again c top u.block address refs nums name has_new.piece has_new.unnamed has_new.long has_new.here (u.memory Phase) (λ number. u.memory (Grey number)) (λ number. u.memory (Black number)) (λ mutator. u.memory (Count mutator)) (λ mutator entry. u.memory (Buffer mutator entry))
        (λ region. u.memory (Tams region)) (λ address. u.memory (Heap address)) u.ghost.snapshot u.ghost.recording u.ghost.scanning has_new.known has_new.shared.marked;
    evacuated = evacuating_again c top u.block address refs nums name has_new.piece has_new.unnamed has_new.long has_new.here (u.memory Phase) (u.memory Cset) (u.memory Evac) (u.memory Claim) (u.memory Free) (λ region. u.memory (Tams region))
        (λ address. u.memory (Heap address)) (λ number. u.memory (Black number)) u.ghost.owner u.ghost.copying u.ghost.working has_new.outside has_new.kept has_new.shared.evacuated;
    updated = λ phase_on. updating_again c top u.block address refs nums name has_new.piece has_new.unnamed has_new.long has_new.here (u.memory Cset) (u.memory Claim) (λ region. u.memory (Limit region)) (λ address. u.memory (Heap address)) u.ghost.scanning has_new.outside nulls (has_new.shared.updated phase_on);
    pinned = pins_stay c (u.memory Cset) (u.memory Evac) (u.memory Cset) (u.memory Evac) u.block made_world.block (λ mutator slot. u.memory (Pin mutator slot)) u.graph.pin targets has_new.shared.pinned;
  }

  -- room was there before, elsewhere
  pub room_before : (asked_address seat : ℕ) (piece : Block) → made_world.block asked_address ≡ Some piece → room_of piece ≡ Some seat → (asked_address ≢ address) × (u.block asked_address ≡ Some piece)
  room_before = old_room c top u.block address refs nums name has_new.piece has_new.unnamed has_new.long has_new.here

  -- what is promised was promised before, elsewhere
  pub promise_before : (asked_address seat words : ℕ) → made_world.block asked_address ≡ Some (promised seat words) → (asked_address ≢ address) × (u.block asked_address ≡ Some (promised seat words))
  promise_before = old_promise c top u.block address refs nums name has_new.piece has_new.unnamed has_new.long has_new.here

  -- the mutator's roots stand for its thread's, with the new one
  pub roots_made : ((index : ℕ) → index < 16 → Points u.block (u.memory (Root seat index)) (u.graph.root (seat + 1) index)) → (index : ℕ) → index < 16
      → Points made_world.block (made_world.memory (Root seat index)) (made_world.graph.root (seat + 1) index)
  roots_made roots =
      roots_written made_world.block u.memory u.graph.root seat (dst_of k) address (Some name)
      (λ index index_below. points_stay u.block made_world.block names (u.memory (Root seat index)) (u.graph.root (seat + 1) index) (roots index index_below))
      (ap name_at (updated_there u.block address (Some (thing name refs nums))))

  -- the new object is there, and may be used
  target_made : TargetIn c made_world address refs nums name
  target_made = record { piece = updated_there u.block address (Some (thing name refs nums)); safe = λ inside. absurd (has_new.outside inside) }

  pub taken_made : TargetIn c made_world address refs nums (next_name seat made)
  taken_made = subst (λ any_name. TargetIn c made_world address refs nums any_name) name_is target_made

  -- and may be used
  pub usable_made : ((index : ℕ) → index < 16 → UsableIn c u (u.memory (Root seat index))) → (index : ℕ) → index < 16 → UsableIn c made_world (made_world.memory (Root seat index))
  usable_made usable =
      usable_written c (u.memory Cset) (u.memory Evac) made_world.block u.memory seat (dst_of k) address
      (λ index index_below. usable_stays c u made_world targets (u.memory (Root seat index)) (usable index index_below))
      (inr (name, refs, nums, target_made))

  -- it has made one object more
  pub count_made : made_world.graph.count (seat + 1) ≡ made + 1
  count_made = count_own u.graph.count (seat + 1) ∙ ap (λ count. count + 1) has_new.counted

  -- the command pins no object
  none_pinned : pinned_by u.graph (seat + 1) command ≡ None
  none_pinned = ap (pinned_by u.graph (seat + 1)) has_new.making.is

  -- the reply is the command's
  replied : (outcome u.graph (seat + 1) command).reply ≡ made_reply
  replied = ap (λ any_command. (outcome u.graph (seat + 1) any_command).reply) has_new.making.is ∙ ap (λ any_name. reply.Ref any_name) name_is

  -- and legal
  pub legal_made : LegalBy c u.graph seat command (Some made_reply)
  legal_made = legal_answer c u.graph seat command made_reply refl none_pinned replied

  -- and it leads to the graph with the new object
  pub graph_made : made_world.graph ≡ graph_by u.graph seat command (Some made_reply)
  graph_made = sym (graph_answer u.graph seat command made_reply refl none_pinned ∙ ap (λ any_command. (outcome u.graph (seat + 1) any_command).graph) has_new.making.is)

  -- a piece of the collection set is another, and stays
  not_here : (asked_address : ℕ) → IsCollected c (u.memory Cset) asked_address → asked_address ≢ address
  not_here asked_address address_collected same_address = has_new.outside (subst (λ any_address. IsCollected c (u.memory Cset) any_address) same_address address_collected)

  copies_stay : CopiesStay c u made_world
  copies_stay = record {
    cset = refl;
    evac = refl;
    things = things_stay c top u.block address refs nums name has_new.piece has_new.unnamed has_new.long has_new.here;
    moveds = λ piece_address found_refs found_nums copy found_name has_piece. stays c top u.block address refs nums name has_new.piece has_new.unnamed has_new.long has_new.here piece_address (moved found_name found_refs found_nums copy) has_piece
        (λ same_piece. none-some found_name (sym has_new.unnamed ∙ ap (λ any_piece. name_at (Some any_piece)) same_piece));
    spents = λ piece_address words copy has_piece. updated_else u.block address (Some (thing name refs nums)) piece_address (λ same_address. not_here piece_address (has_new.shared.evacuated.moved.spents piece_address words copy has_piece).inside (sym same_address)) ∙ has_piece;
    pieces = λ piece_address piece inside has_piece. (piece, updated_else u.block address (Some (thing name refs nums)) piece_address (λ same_address. not_here piece_address inside (sym same_address)) ∙ has_piece, refl, refl);
    no_new = λ piece_address found_refs found_nums object_name inside has_piece. sym (updated_else u.block address (Some (thing name refs nums)) piece_address (λ same_address. not_here piece_address inside (sym same_address))) ∙ has_piece;
    tops = λ region has_piece. refl;
  }

  -- others can rely on what they knew
  pub others_made : (other_seat : ℕ) → other_seat ≢ seat → Rely c other_seat u made_world
  others_made other_seat seats_differ = record {
    names = names;
    targets = targets;
    rooms = λ piece_address piece known_fact room. stays c top u.block address refs nums name has_new.piece has_new.unnamed has_new.long has_new.here piece_address piece known_fact (λ same_piece. has_new.own.no_room other_seat seats_differ (ap room_of same_piece ∙ room));
    no_rooms = λ piece_address piece known_fact room. (room_before piece_address other_seat piece known_fact room).1;
    room_words = λ piece_address place piece known_fact room offset_below. refl;
    promises = λ piece_address words known_fact. stays c top u.block address refs nums name has_new.piece has_new.unnamed has_new.long has_new.here piece_address (promised other_seat words) known_fact (has_new.own.no_promise other_seat words seats_differ);
    no_promises = λ address words known_fact. (promise_before address other_seat words known_fact).1;
    promise_words = λ address words place known_fact offset_below. refl;
    current = refl;
    opens = λ any_region known_fact. known_fact;
    owners = λ region known_fact. known_fact;
    tops = λ any_region known_fact. refl;
    root_words = λ place. cond-false ((seat == other_seat) && (dst_of k == place)) _ _ (and_left _ _ (ne_eqb seat other_seat (λ same_seat. seats_differ (sym same_seat))));
    roots = λ place. cond-false (((other_seat + 1) == (seat + 1)) && (place == dst_of k)) _ _ (and_left _ _ (ne_eqb (other_seat + 1) (seat + 1) (λ same_seat. seats_differ (omega (arith, same_seat)))));
    pin_words = λ index. refl;
    pins = λ place. refl;
    count = cond-false ((other_seat + 1) == (seat + 1)) _ _ (ne_eqb (other_seat + 1) (seat + 1) (λ same_seat. seats_differ (omega (arith, same_seat))));
    wait = refl;
    answer = refl;
    state = refl;
    asked = λ known_fact. known_fact;
    marks = rely_marks c u made_world other_seat refl (λ n. refl) (λ t. refl) (λ t place. refl) refl (λ t. refl) refl (markable_again c top u.block address refs nums name has_new.piece has_new.unnamed has_new.long has_new.here) (λ piece_address known_fact. refl);
    copies = rely_copies c u made_world other_seat copies_stay refl refl (λ piece_address place body seated copies inside known_fact from offset_below. refl);
    fields = fields_stored c u made_world (λ any_region. refl) (λ any_region. refl) refl (λ piece_address words known_fact. stays c top u.block address refs nums name has_new.piece has_new.unnamed has_new.long has_new.here piece_address (dead words) known_fact (has_new.own.no_dead words)) (λ piece_address words known_fact. stays c top u.block address refs nums name has_new.piece has_new.unnamed has_new.long has_new.here piece_address (filler words) known_fact (has_new.own.no_filler words)) (λ phase_on piece_address found_refs found_nums place n known_fact offset_below. inl refl);
  }
