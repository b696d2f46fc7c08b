-- The steps by which a call loads its command's roots and the shape of its object.
use Rattle.heap_words.specs.Phases.{marking_phase}
use Rattle.std.proofs.Common.{◌≡◌, ℕ, zero, suc, ◌+◌, ◌<◌, inl, inr, ⊎_elim, Bool, true, false, length, Option, Some, None, refl, sym, ap, ◌∙◌, subst, arith}
use Rattle.std.specs.Prelude.{◌==◌}
use Rattle.std.proofs.lemmas.Bool.{and_parts, cases_Bool, cond-true, cond-false, eq-eqb, eqb-true, eqb-false, ltb-true}
use Rattle.std.proofs.lemmas.Bool.Decides.{nat_tests}
use Rattle.heap_words.specs.declared.config.Config.{Config}
use Rattle.heap_words.specs.Words.{Cset, Root, Heap, is_word}
use Rattle.heap_words.specs.Fits.{is_number}
use Rattle.heap_words.specs.Encoding.{refs_in, nums_in}
use Rattle.shen_graph.specs.declared.command.Command.{Command}
use Rattle.shen_graph.specs.declared.command.Command.TheVariants.{New, Get, Set, Cas, Xchg, Rd, Wr, Copy, Drop, Same, Gc, Pin, Unpin}
use Rattle.shen_graph.specs.declared.command.Reply.{Reply}
use Rattle.shen_graph.specs.declared.command.Reply.TheVariants as reply
use Rattle.shen_graph.specs.Graph.{same_reference}
use Rattle.shen_graph.specs.Step.{yes_or_no, answers, outcome, pinned_by, IsPin}
use Rattle.shen_graph.specs.History.{is_full}
use Rattle.shen_graph.proofs.Outcomes.{pins_none}
use Rattle.mutator.specs.declared.spot.Spot.{Spot}
use Rattle.mutator.specs.declared.spot.Spot.TheVariants.{LoadSet, Loading, OnField, Leave}
use Rattle.mutator.specs.declared.loads.LoadSpot.TheVariants as load
use Rattle.mutator.specs.declared.spot.Kept.{Kept}
use Rattle.shen_graph.specs.declared.order.Order.TheVariants.{Nothing}
use Rattle.mutator.specs.Orders.{is_next}
use Rattle.mutator.specs.Commands.{command_roots, command_root, is_on_object, lacks_object, has_part}
use Rattle.mutator.specs.Rows.{Mutating, first_spot, after_first, first_of_set, with_part}
use Rattle.mutator.specs.Told.{name_the_same}
use Rattle.heap_world.specs.World.{World, name_at, Points, Shared}
use Rattle.step_core.proofs.Machines.Stepped.{IsRootWord, HasRoot, HasObject, HasFirst, HasRoots, IsBegun, IsSet, IsSeatedIn, HasMarkingBy, HasCopyingBy, Mine, Stepped, Row}
use Rattle.step_core.proofs.Mutators.Spots.{mutator_at}
use Rattle.step_core.proofs.Mutators.WhileMarking.{covered_unmarked}
use Rattle.step_core.proofs.Machines.Ready.{leaving, ready_of, number_small}
use Rattle.heap_world.proofs.Pointing.{named_if_not_0, null_if_0, points_small}
use Rattle.step_core.proofs.Machines.Naming.{same_words, names_agree, word_in, shape_in, bad_on_null, pinned_on_null, bad_on_shape}
use Rattle.step_core.proofs.Mutators.Loading.{looks, replies}
use Rattle.alloc_buffers.specs.Facts.{OnlySpares}

-- the roots that a command loads are below 16
root_small : (made : ℕ) (command : Command) (index : ℕ) → is_next made command ≡ true → index < length (command_roots command) → command_root command index < 16
root_small made (Get dst src field) zero comes_next index_below = grind (arith, nat_tests)
root_small made (Get dst src field) (suc earlier_index) comes_next index_below = absurd (omega arith)
root_small made (Set obj field val) zero comes_next index_below = grind (arith, nat_tests)
root_small made (Set obj field val) (suc zero) comes_next index_below = grind (arith, nat_tests)
root_small made (Set obj field val) (suc (suc earlier_index)) comes_next index_below = absurd (omega arith)
root_small made (Cas obj field expect val) zero comes_next index_below = grind (arith, nat_tests)
root_small made (Cas obj field expect val) (suc zero) comes_next index_below = grind (arith, nat_tests)
root_small made (Cas obj field expect val) (suc (suc zero)) comes_next index_below = grind (arith, nat_tests)
root_small made (Cas obj field expect val) (suc (suc (suc earlier_index))) comes_next index_below = absurd (omega arith)
root_small made (Xchg dst obj field val) zero comes_next index_below = grind (arith, nat_tests)
root_small made (Xchg dst obj field val) (suc zero) comes_next index_below = grind (arith, nat_tests)
root_small made (Xchg dst obj field val) (suc (suc earlier_index)) comes_next index_below = absurd (omega arith)
root_small made (Rd obj index) zero comes_next index_below = grind (arith, nat_tests)
root_small made (Rd obj index) (suc earlier_index) comes_next index_below = absurd (omega arith)
root_small made (Wr obj index value) zero comes_next index_below = grind (arith, nat_tests)
root_small made (Wr obj index value) (suc earlier_index) comes_next index_below = absurd (omega arith)
root_small made (Copy dst src) zero comes_next index_below = grind (arith, nat_tests)
root_small made (Copy dst src) (suc earlier_index) comes_next index_below = absurd (omega arith)
root_small made (Same first_index second_index) zero comes_next index_below = grind (arith, nat_tests)
root_small made (Same first_index second_index) (suc zero) comes_next index_below = grind (arith, nat_tests)
root_small made (Same first_index second_index) (suc (suc earlier_index)) comes_next index_below = absurd (omega arith)
root_small made (Pin slot obj) zero comes_next index_below = grind (arith, nat_tests)
root_small made (Pin slot obj) (suc earlier_index) comes_next index_below = absurd (omega arith)
root_small made _ index comes_next index_below = absurd (omega arith)

-- the object of a command whose first root is not null
abbrev object_of : (config : Config) (world : World) (seat : ℕ) (command : Command) (object : ℕ) → Shared config world → is_on_object command ≡ true → HasFirst config world seat command object → HasObject config world seat (command_root command 0) object
object_of config world seat command object shared on_object first_loaded =
    let first_names = first_loaded.first_is first_loaded.some in
    let named = named_if_not_0 config _ world.block shared.parsable.plotted object _ first_names.stands (first_loaded.not_null on_object) in
    ⊎_elim
    (λ null. absurd (first_loaded.not_null on_object null))
    (λ object_there. record { name = object_there.0; refs = object_there.1; nums = object_there.2; root_is = named.1 ∙ sym named.2 ∙ ap name_at object_there.3.piece; target = object_there.3 })
    first_names.usable

-- a call of a command has begun: what a mutator counts on that has no root in hand
record IsUnderWay (config : Config) (world : World) (seat made phase cset : ℕ) (command : Command) (fixed : Option Reply) (other_command : Command) : Type 0 where
  seated : IsSeatedIn config world seat made false
  marking : HasMarkingBy world seat None phase true
  copying : HasCopyingBy world seat false cset true
  roots : (index : ℕ) → index < 16 → Points world.block (world.memory (Root seat index)) (world.graph.root (seat + 1) index)
  rooms : OnlySpares world seat
  facts : IsBegun made command fixed other_command

-- yes and no are not full
full_no : (holds : Bool) → is_full (yes_or_no holds) ≡ false
full_no true = refl
full_no false = refl

module _ (config : Config) (world : World) (seat made : ℕ) (kept : Kept) (command : Command) (fixed : Option Reply) where
  abbrev at_spot : Spot → Mutating
  at_spot spot = mutator_at seat made kept spot

  -- what the call of a command keeps that has loaded this collection set
  abbrev keeping : Command → ℕ → Kept
  keeping command loaded_cset = record { command = command; phase = kept.phase; cset = loaded_cset }

  -- the mutator in a call of a command
  abbrev at_call : Command → Spot → Mutating
  at_call command spot = mutator_at seat made (keeping command kept.cset) spot

  -- what it counts on at a spot, once the call has a settled reply or none
  abbrev HasSpot : Command → ℕ → Option Reply → Spot → Type 0
  HasSpot asked loaded_cset settled spot = Mine config world (mutator_at seat made (keeping asked loaded_cset) spot) command settled

  -- a call of a command has begun, which has loaded this collection set, and no root is in hand
  abbrev HasBegunWith : Command → ℕ → Type 0
  HasBegunWith asked loaded_cset = IsUnderWay config world seat made kept.phase loaded_cset command fixed asked

  abbrev HasBegun : Command → Type 0
  HasBegun command = HasBegunWith command kept.cset

  -- it can go on with the command's first root
  root_mine : (command : Command) (loaded_cset : ℕ) → 0 < length (command_roots command) → HasBegunWith command loaded_cset → HasSpot command loaded_cset fixed (Loading load.First)
  root_mine command loaded_cset some_roots command_begun =
      let seat_below = command_begun.seated.below in
      let index_small = root_small made command 0 command_begun.facts.next some_roots in
      record { seated = command_begun.seated; ready = grind (arith, nat_tests); marking = command_begun.marking; copying = command_begun.copying; roots = command_begun.roots; rooms = command_begun.rooms; facts = (command_begun.facts, some_roots) }

  -- where it goes on after the collection set
  set_mine : (command : Command) (loaded_cset : ℕ) → HasBegunWith command loaded_cset → HasSpot command loaded_cset fixed (first_spot command)
  set_mine (New dst refs nums) loaded_cset command_begun =
      let seat_below = command_begun.seated.below in
      let comes_next = command_begun.facts.next in
      record {
        seated = command_begun.seated;
        ready = grind (arith, nat_tests);
        marking = command_begun.marking;
        copying = command_begun.copying;
        roots = command_begun.roots;
        rooms = command_begun.rooms;
        facts = (
          record {
            unsettled = command_begun.facts.unsettled;
            is = command_begun.facts.is;
            small = grind (arith, nat_tests);
            few_refs = grind (arith, nat_tests);
            few_nums = grind (arith, nat_tests);
            few = grind (arith, nat_tests);
          },
          tt,
        );
      }
  set_mine (Drop dst) loaded_cset command_begun =
      let seat_below = command_begun.seated.below in
      let comes_next = command_begun.facts.next in
      let index_small : dst < 16 = grind (arith, nat_tests) in
      record {
        seated = command_begun.seated;
        ready = grind (arith, nat_tests);
        marking = command_begun.marking;
        copying = command_begun.copying;
        roots = command_begun.roots;
        rooms = command_begun.rooms;
        facts = (command_begun.facts.unsettled, index_small, inr (record { is = command_begun.facts.is; value_is = refl }));
      }
  set_mine Gc loaded_cset command_begun = record { seated = command_begun.seated; ready = refl; marking = command_begun.marking; copying = command_begun.copying; roots = command_begun.roots; rooms = command_begun.rooms; facts = (command_begun.facts.unsettled, command_begun.facts.is) }
  set_mine (Get dst src field) loaded_cset command_begun = root_mine (Get dst src field) loaded_cset (omega arith) command_begun
  set_mine (Set obj field val) loaded_cset command_begun = root_mine (Set obj field val) loaded_cset (omega arith) command_begun
  set_mine (Cas obj field expect val) loaded_cset command_begun = root_mine (Cas obj field expect val) loaded_cset (omega arith) command_begun
  set_mine (Xchg dst obj field val) loaded_cset command_begun = root_mine (Xchg dst obj field val) loaded_cset (omega arith) command_begun
  set_mine (Rd obj index) loaded_cset command_begun = root_mine (Rd obj index) loaded_cset (omega arith) command_begun
  set_mine (Wr obj index value) loaded_cset command_begun = root_mine (Wr obj index value) loaded_cset (omega arith) command_begun
  set_mine (Copy dst src) loaded_cset command_begun = root_mine (Copy dst src) loaded_cset (omega arith) command_begun
  set_mine (Same first_index second_index) loaded_cset command_begun = root_mine (Same first_index second_index) loaded_cset (omega arith) command_begun
  set_mine (Pin slot obj) loaded_cset command_begun = root_mine (Pin slot obj) loaded_cset (omega arith) command_begun
  set_mine (Unpin slot) loaded_cset command_begun =
      let seat_below = command_begun.seated.below in
      let comes_next = command_begun.facts.next in
      let index_small : slot < 4 = grind (arith, nat_tests) in
      record {
        seated = command_begun.seated;
        ready = grind (arith, nat_tests);
        marking = command_begun.marking;
        copying = command_begun.copying;
        roots = command_begun.roots;
        rooms = command_begun.rooms;
        facts = (command_begun.facts.unsettled, command_begun.facts.is, (index_small, refl));
      }

  -- it leaves with the reply that is settled
  leave_mine : (asked : Command) (answer : Reply) → HasBegun asked → HasSpot asked kept.cset (Some answer) (Leave answer)
  leave_mine asked answer command_begun = leaving config _ seat made (keeping asked kept.cset) command answer command_begun.seated (command_begun.marking.records, command_begun.marking.scans, command_begun.copying.copies_is, command_begun.copying.works_none) command_begun.roots command_begun.rooms

  -- it can go on with the shape of the command's object
  shape_mine : (command : Command) (object second third : ℕ) → Shared config world → HasBegun command → is_on_object command ≡ true → (IsPin command → ⊥) → HasRoots config world seat command object second third → HasSpot command kept.cset fixed (Loading (load.Shape object second third))
  shape_mine command object second third shared command_begun on_object no_pin has_roots =
      let of_object : HasObject config world seat (command_root command 0) object = object_of config world seat command object shared on_object has_roots.first_is in
      record {
        seated = command_begun.seated;
        ready = ready_of _ true (word_in config world shared seat (command_root command 0) object (object + 1) 1 of_object (omega arith) refl) refl;
        marking = command_begun.marking;
        copying = command_begun.copying;
        roots = command_begun.roots;
        rooms = command_begun.rooms;
        facts = (command_begun.facts, on_object, has_roots, no_pin);
      }

  -- the word of a root of the command stands for the root
  root_has : (command : Command) (index : ℕ) → HasBegun command → HasRoot config world seat command index (world.memory (Root seat (command_root command index)))
  root_has command index command_begun index_below =
      let index_small = root_small made command index command_begun.facts.next index_below in
      record { stands = command_begun.roots (command_root command index) index_small; usable = command_begun.seated.usable (command_root command index) index_small }

  -- it can go on with the second root, and with the third
  second_mine : (command : Command) (first : ℕ) → HasBegun command → 1 < length (command_roots command) → HasFirst config world seat command first → HasSpot command kept.cset fixed (Loading (load.Second first))
  second_mine command first command_begun has_second has_first =
      let seat_below = command_begun.seated.below in
      let index_small = root_small made command 1 command_begun.facts.next has_second in
      record { seated = command_begun.seated; ready = grind (arith, nat_tests); marking = command_begun.marking; copying = command_begun.copying; roots = command_begun.roots; rooms = command_begun.rooms; facts = (command_begun.facts, has_second, has_first) }

  -- it can go on with the third root
  third_mine : (command : Command) (first second : ℕ) → HasBegun command → 2 < length (command_roots command) → HasFirst config world seat command first → HasRoot config world seat command 1 second → HasSpot command kept.cset fixed (Loading (load.Third first second))
  third_mine command first second command_begun has_third has_first has_second =
      let seat_below = command_begun.seated.below in
      let index_small = root_small made command 2 command_begun.facts.next has_third in
      record { seated = command_begun.seated; ready = grind (arith, nat_tests); marking = command_begun.marking; copying = command_begun.copying; roots = command_begun.roots; rooms = command_begun.rooms; facts = (command_begun.facts, has_third, has_first, has_second) }

  -- where it goes on after the first root
  first_mine : (command : Command) (first : ℕ) → Shared config world → HasBegun command → HasFirst config world seat command first → HasSpot command kept.cset fixed (after_first command first)
  first_mine (Get dst src field) first shared command_begun has_first =
      shape_mine (Get dst src field) first 0 0 shared command_begun refl (λ pins. pins) (record { first_is = has_first; second_is = λ number_below. absurd (omega arith); third_is = λ number_below. absurd (omega arith) })
  first_mine (Rd obj index) first shared command_begun has_first =
      shape_mine (Rd obj index) first 0 0 shared command_begun refl (λ pins. pins) (record { first_is = has_first; second_is = λ number_below. absurd (omega arith); third_is = λ number_below. absurd (omega arith) })
  first_mine (Wr obj index value) first shared command_begun has_first =
      shape_mine (Wr obj index value) first 0 0 shared command_begun refl (λ pins. pins) (record { first_is = has_first; second_is = λ number_below. absurd (omega arith); third_is = λ number_below. absurd (omega arith) })
  first_mine (Set obj field val) first shared command_begun has_first = second_mine (Set obj field val) first command_begun (omega arith) has_first
  first_mine (Cas obj field expect val) first shared command_begun has_first = second_mine (Cas obj field expect val) first command_begun (omega arith) has_first
  first_mine (Xchg dst obj field val) first shared command_begun has_first = second_mine (Xchg dst obj field val) first command_begun (omega arith) has_first
  first_mine (Same first_index second_index) first shared command_begun has_first = second_mine (Same first_index second_index) first command_begun (omega arith) has_first
  first_mine (Copy dst src) first shared command_begun has_first =
      let number_below = command_begun.seated.below in
      let comes_next = command_begun.facts.next in
      let index_small : dst < 16 = grind (arith, nat_tests) in
      let value_is : IsRootWord config world seat src first = has_first.first_is has_first.some in
      record {
        seated = command_begun.seated;
        ready = ready_of _ _ (grind (arith, nat_tests)) (number_small first (points_small config _ world.block shared.parsable.plotted first _ value_is.stands));
        marking = command_begun.marking;
        copying = command_begun.copying;
        roots = command_begun.roots;
        rooms = command_begun.rooms;
        facts = (command_begun.facts.unsettled, index_small, inl (record { src = src; is = command_begun.facts.is; value_is = value_is }));
      }
  first_mine (Pin slot obj) first shared command_begun has_first =
      let number_below = command_begun.seated.below in
      let comes_next = command_begun.facts.next in
      let index_small : slot < 4 = grind (arith, nat_tests) in
      record {
        seated = command_begun.seated;
        ready = grind (arith, nat_tests);
        marking = command_begun.marking;
        copying = command_begun.copying;
        roots = command_begun.roots;
        rooms = command_begun.rooms;
        facts = (command_begun.facts.unsettled, command_begun.facts.is, (index_small, object_of config world seat (Pin slot obj) first shared refl has_first));
      }
  first_mine _ first shared command_begun has_first = let first_some = has_first.some in absurd (omega arith)

  -- the load of the collection set
  pub at_load_set : Row config world (at_spot LoadSet) command fixed
  at_load_set shared own_facts =
      let command_begun : HasBegunWith kept.command (world.memory Cset) = record { seated = own_facts.seated; marking = own_facts.marking; copying = record { copies_is = own_facts.copying.copies_is; works_none = own_facts.copying.works_none; set_is = λ on. refl }; roots = own_facts.roots; rooms = own_facts.rooms; facts = own_facts.facts } in
      looks config world (at_spot LoadSet) Cset command fixed refl refl refl shared (set_mine kept.command (world.memory Cset) command_begun)

  -- the first root of a command is null, and there is no object
  root_lacks : (asked : Command) → Shared config world → HasBegun asked → 0 < length (command_roots asked) → lacks_object asked (world.memory (Root seat (command_root asked 0))) ≡ true → Stepped config world (at_call asked (Loading load.First)) command Nothing fixed
  root_lacks asked shared command_begun some_roots lacks =
      let both_tests = and_parts _ _ lacks in
      let null : world.graph.root (seat + 1) (command_root asked 0) ≡ None = null_if_0 config _ world.block shared.parsable.plotted _ _ (root_has asked 0 command_begun some_roots).stands (eqb-true _ _ both_tests.1) in
      replies config world (at_call asked (Loading load.First)) (Root seat (command_root asked 0)) command fixed reply.Bad refl
      (cond-true _ _ _ lacks) refl command_begun.facts.unsettled refl
      (ap (pinned_by world.graph (seat + 1)) command_begun.facts.is ∙ pinned_on_null world.graph (seat + 1) asked null)
      (ap (λ given_command. outcome world.graph (seat + 1) given_command) command_begun.facts.is ∙ bad_on_null world.graph (seat + 1) asked both_tests.0 null)
      shared (rw lacks (leave_mine asked reply.Bad command_begun))

  -- it is not, or the command works on none
  root_goes : (asked : Command) → Shared config world → HasBegun asked → 0 < length (command_roots asked) → lacks_object asked (world.memory (Root seat (command_root asked 0))) ≡ false → Stepped config world (at_call asked (Loading load.First)) command Nothing fixed
  root_goes asked shared command_begun some_roots lacks =
      looks config world (at_call asked (Loading load.First)) (Root seat (command_root asked 0)) command fixed refl (cond-false _ _ _ lacks) refl shared
      (rw lacks (first_mine asked (world.memory (Root seat (command_root asked 0))) shared command_begun (record {
        some = some_roots;
        first_is = root_has asked 0 command_begun;
        not_null = λ on_object is_null. absurd (let object_lacking : lacks_object asked (world.memory (Root seat (command_root asked 0))) ≡ true = rw on_object (eq-eqb _ _ is_null) in cc);
      })))

  -- the load of the first root
  pub at_load_root : Row config world (at_spot (Loading load.First)) command fixed
  at_load_root shared own_facts =
      let begun_command : Command = kept.command in
      let base : HasBegun begun_command = record { seated = own_facts.seated; marking = own_facts.marking; copying = own_facts.copying; roots = own_facts.roots; rooms = own_facts.rooms; facts = own_facts.facts.0 } in
      ⊎_elim (root_lacks begun_command shared base own_facts.facts.1) (root_goes begun_command shared base own_facts.facts.1) (cases_Bool (lacks_object begun_command (world.memory (Root seat (command_root begun_command 0)))))

  -- where it goes on after the second root; for a Same it is settled here whether the roots are the same
  second_step : (asked : Command) (first : ℕ) → Shared config world → HasBegun asked → 1 < length (command_roots asked) → HasFirst config world seat asked first → Stepped config world (at_call asked (Loading (load.Second first))) command Nothing fixed
  second_step (Set obj field val) first shared command_begun has_second has_first =
      looks config world (at_call (Set obj field val) (Loading (load.Second first))) (Root seat val) command fixed refl refl refl shared
      (shape_mine (Set obj field val) first (world.memory (Root seat val)) 0 shared command_begun refl (λ pins. pins) (record { first_is = has_first; second_is = root_has (Set obj field val) 1 command_begun; third_is = λ index_below. absurd (omega arith) }))
  second_step (Cas obj field expect val) first shared command_begun index_below has_first =
      looks config world (at_call (Cas obj field expect val) (Loading (load.Second first))) (Root seat expect) command fixed refl refl refl shared
      (third_mine (Cas obj field expect val) first (world.memory (Root seat expect)) command_begun (omega arith) has_first (root_has (Cas obj field expect val) 1 command_begun))
  second_step (Xchg dst obj field val) first shared command_begun has_second has_first =
      looks config world (at_call (Xchg dst obj field val) (Loading (load.Second first))) (Root seat val) command fixed refl refl refl shared
      (shape_mine (Xchg dst obj field val) first (world.memory (Root seat val)) 0 shared command_begun refl (λ pins. pins) (record { first_is = has_first; second_is = root_has (Xchg dst obj field val) 1 command_begun; third_is = λ index_below. absurd (omega arith) }))
  second_step (Same index second_index) first shared command_begun index_below has_first =
      let got : ℕ = world.memory (Root seat second_index) in
      let is_first = has_first.first_is has_first.some in
      let is_second = root_has (Same index second_index) 1 command_begun index_below in
      let stand : name_the_same world.memory first got ≡ same_reference (world.graph.root (seat + 1) index) (world.graph.root (seat + 1) second_index) = names_agree config world shared first got _ _ is_first.stands is_second.stands in
      let agree : name_the_same world.memory first got ≡ (first == got) = stand ∙ sym (same_words config world shared first got _ _ is_first.usable is_second.usable is_first.stands is_second.stands) in
      replies config world (at_call (Same index second_index) (Loading (load.Second first))) (Root seat second_index) command fixed (yes_or_no (name_the_same world.memory first got)) refl refl refl command_begun.facts.unsettled
      (full_no (name_the_same world.memory first got))
      (ap (pinned_by world.graph (seat + 1)) command_begun.facts.is)
      (ap (λ given. outcome world.graph (seat + 1) given) command_begun.facts.is ∙ ap (λ given. answers (yes_or_no given) world.graph) (sym stand))
      shared
      (subst (λ f. HasSpot (Same index second_index) kept.cset f (Leave (yes_or_no (first == got)))) (ap (λ given. Some (yes_or_no given)) (sym agree)) (leave_mine (Same index second_index) (yes_or_no (first == got)) command_begun))
  second_step _ first shared command_begun index_below has_first = absurd (omega arith)

  -- the load of the second root
  pub at_load_second : (first : ℕ) → Row config world (at_spot (Loading (load.Second first))) command fixed
  at_load_second first shared mine =
      second_step kept.command first shared (record { seated = mine.seated; marking = mine.marking; copying = mine.copying; roots = mine.roots; rooms = mine.rooms; facts = mine.facts.0 }) mine.facts.1 mine.facts.2

  -- where it goes on after the third root: only a Cas has one
  third_step : (asked : Command) (first second : ℕ) → Shared config world → HasBegun asked → 2 < length (command_roots asked) → HasFirst config world seat asked first → HasRoot config world seat asked 1 second → Stepped config world (at_call asked (Loading (load.Third first second))) command Nothing fixed
  third_step (Cas obj field expect val) first second shared command_begun has_third has_first has_second =
      looks config world (at_call (Cas obj field expect val) (Loading (load.Third first second))) (Root seat val) command fixed refl refl refl shared
      (shape_mine (Cas obj field expect val) first second (world.memory (Root seat val)) shared command_begun refl (λ pins. pins) (record { first_is = has_first; second_is = has_second; third_is = root_has (Cas obj field expect val) 2 command_begun }))
  third_step _ first second shared command_begun has_third has_first has_second = absurd (omega arith)

  -- the load of the third root
  pub at_load_third : (first second : ℕ) → Row config world (at_spot (Loading (load.Third first second))) command fixed
  at_load_third first second shared mine =
      third_step kept.command first second shared (record { seated = mine.seated; marking = mine.marking; copying = mine.copying; roots = mine.roots; rooms = mine.rooms; facts = mine.facts.0 }) mine.facts.1 mine.facts.2 mine.facts.3

  -- A Set goes on with its field: while objects are marked it looks first what it will overwrite.
  set_part : (obj field val object value : ℕ) → Shared config world → HasBegun (Set obj field val) → IsSet config world seat command object field value
      → HasSpot (Set obj field val) kept.cset fixed (OnField object (first_of_set kept.phase value))
  set_part obj field val object value shared command_begun set_facts = ⊎_elim
      (λ (marks : (kept.phase == marking_phase) ≡ true). rw marks (record {
        seated = command_begun.seated;
        ready = ready_of _ true there refl;
        marking = command_begun.marking;
        copying = command_begun.copying;
        roots = command_begun.roots;
        rooms = command_begun.rooms;
        facts = (command_begun.facts.unsettled, set_facts);
      }))
      (λ (not_marking : (kept.phase == marking_phase) ≡ false). rw not_marking (record {
        seated = command_begun.seated;
        ready = ready_of _ _ there (number_small value (points_small config _ world.block shared.parsable.plotted value _ set_facts.value_is.stands));
        marking = command_begun.marking;
        copying = command_begun.copying;
        roots = command_begun.roots;
        rooms = command_begun.rooms;
        facts = (command_begun.facts.unsettled, set_facts, covered_unmarked config world object field shared (λ marking. eqb-false _ _ not_marking (command_begun.marking.phase_is refl ∙ marking)));
      }))
      (cases_Bool (kept.phase == marking_phase))
    where
      there : is_word config (Heap (object + 3 + field)) ≡ true
      there = word_in config world shared seat set_facts.obj object (object + 3 + field) (3 + field) set_facts.of (let field_below = set_facts.below in omega (arith, field_below)) (omega arith)

  -- where it goes on with a part of the object that there is
  part_mine : (command : Command) (object second third shape : ℕ) → Shared config world → HasBegun command → HasRoots config world seat command object second third → (of_object : HasObject config world seat (command_root command 0) object)
      → refs_in shape ≡ of_object.refs → nums_in shape ≡ of_object.nums → is_on_object command ≡ true → has_part command shape ≡ true → HasSpot command kept.cset fixed (with_part kept.phase command object second third shape)
  part_mine (Get dst src field) object second third shape shared command_begun has_roots of_object same_refs same_nums on_object part_there =
      let comes_next = command_begun.facts.next in
      let part_below : field < of_object.refs = let tested_below = ltb-true _ _ part_there in omega arith in
      record {
        seated = command_begun.seated;
        ready = ready_of _ true (word_in config world shared seat src object (object + 3 + field) (3 + field) of_object (omega arith) (omega arith)) refl;
        marking = command_begun.marking;
        copying = command_begun.copying;
        roots = command_begun.roots;
        rooms = command_begun.rooms;
        facts = (command_begun.facts.unsettled, record { src = src; is = command_begun.facts.is; small = grind (arith, nat_tests); of = of_object; below = part_below });
      }
  part_mine (Set obj field val) object second third shape shared command_begun has_roots of_object same_refs same_nums on_object part_there =
      let part_below : field < of_object.refs = let tested_below = ltb-true _ _ part_there in omega arith in
      set_part obj field val object second shared command_begun (record { obj = obj; val = val; is = command_begun.facts.is; of = of_object; below = part_below; value_is = has_roots.second_is (omega arith) })
  part_mine (Cas obj field expect val) object second third shape shared command_begun has_roots of_object same_refs same_nums on_object part_there =
      let part_below : field < of_object.refs = let tested_below = ltb-true _ _ part_there in omega arith in
      record {
        seated = command_begun.seated;
        ready = ready_of _ true (word_in config world shared seat obj object (object + 3 + field) (3 + field) of_object (omega arith) (omega arith)) refl;
        marking = command_begun.marking;
        copying = command_begun.copying;
        roots = command_begun.roots;
        rooms = command_begun.rooms;
        facts = (
          command_begun.facts.unsettled,
          record { obj = obj; expected = expect; val = val; is = command_begun.facts.is; of = of_object; below = part_below; expect_is = has_roots.second_is (omega arith); value_is = has_roots.third_is (omega arith) },
        );
      }
  part_mine (Xchg dst obj field val) object second third shape shared command_begun has_roots of_object same_refs same_nums on_object part_there =
      let comes_next = command_begun.facts.next in
      let part_below : field < of_object.refs = let tested_below = ltb-true _ _ part_there in omega arith in
      let value_is : IsRootWord config world seat val second = has_roots.second_is (omega arith) in
      record {
        seated = command_begun.seated;
        ready = ready_of _ _ (word_in config world shared seat obj object (object + 3 + field) (3 + field) of_object (omega arith) (omega arith)) (number_small second (points_small config _ world.block shared.parsable.plotted second _ value_is.stands));
        marking = command_begun.marking;
        copying = command_begun.copying;
        roots = command_begun.roots;
        rooms = command_begun.rooms;
        facts = (command_begun.facts.unsettled, record { obj = obj; val = val; is = command_begun.facts.is; small = grind (arith, nat_tests); of = of_object; below = part_below; value_is = value_is });
      }
  part_mine (Rd obj index) object second third shape shared command_begun has_roots of_object same_refs same_nums on_object part_there =
      let part_below : index < of_object.nums = let tested_below = ltb-true _ _ part_there in omega arith in
      record {
        seated = command_begun.seated;
        ready = ready_of _ true (word_in config world shared seat obj object (object + 3 + refs_in shape + index) (3 + refs_in shape + index) of_object (omega arith) (omega arith)) refl;
        marking = command_begun.marking;
        copying = command_begun.copying;
        roots = command_begun.roots;
        rooms = command_begun.rooms;
        facts = (command_begun.facts.unsettled, record { obj = obj; is = command_begun.facts.is; of = of_object; refs_are = same_refs; below = part_below });
      }
  part_mine (Wr obj index value) object second third shape shared command_begun has_roots of_object same_refs same_nums on_object part_there =
      let comes_next = command_begun.facts.next in
      let part_below : index < of_object.nums = let tested_below = ltb-true _ _ part_there in omega arith in
      let value_small : is_number value ≡ true = grind (arith, nat_tests) in
      record {
        seated = command_begun.seated;
        ready = ready_of _ _ (word_in config world shared seat obj object (object + 3 + refs_in shape + index) (3 + refs_in shape + index) of_object (omega arith) (omega arith)) value_small;
        marking = command_begun.marking;
        copying = command_begun.copying;
        roots = command_begun.roots;
        rooms = command_begun.rooms;
        facts = (command_begun.facts.unsettled, record { obj = obj; is = command_begun.facts.is; of = of_object; refs_are = same_refs; below = part_below });
      }
  part_mine _ object second third shape shared command_begun has_roots of_object same_refs same_nums on_object part_there = cc

  -- the load of the shape settles Bad where the object has no such part
  pub at_load_shape : (object second third : ℕ) → Row config world (at_spot (Loading (load.Shape object second third))) command fixed
  at_load_shape object second third shared mine =
      let begun_command : Command = kept.command in
      let base : HasBegun begun_command = record { seated = mine.seated; marking = mine.marking; copying = mine.copying; roots = mine.roots; rooms = mine.rooms; facts = mine.facts.0 } in
      let of_object : HasObject config world seat (command_root begun_command 0) object = object_of config world seat begun_command object shared mine.facts.1 mine.facts.2.first_is in
      let sizes = shape_in config world shared seat (command_root begun_command 0) object of_object in
      ⊎_elim
      (λ (part_there : has_part begun_command (world.memory (Heap (object + 1))) ≡ true).
      looks config world (at_spot (Loading (load.Shape object second third))) (Heap (object + 1)) command fixed refl (cond-true _ _ _ part_there) refl shared
      (rw part_there (part_mine begun_command object second third (world.memory (Heap (object + 1))) shared base mine.facts.2 of_object sizes.0 sizes.1 mine.facts.1 part_there)))
      (λ (lacks : has_part begun_command (world.memory (Heap (object + 1))) ≡ false).
      replies config world (at_spot (Loading (load.Shape object second third))) (Heap (object + 1)) command fixed reply.Bad refl (cond-false _ _ _ lacks) refl mine.facts.0.unsettled refl
      (ap (pinned_by world.graph (seat + 1)) mine.facts.0.is ∙ pins_none world.graph (seat + 1) begun_command mine.facts.3)
      (ap (λ given_command. outcome world.graph (seat + 1) given_command) mine.facts.0.is ∙ bad_on_shape config world shared seat object begun_command of_object mine.facts.1 lacks)
      shared (rw lacks (leave_mine begun_command reply.Bad base)))
      (cases_Bool (has_part begun_command (world.memory (Heap (object + 1)))))
