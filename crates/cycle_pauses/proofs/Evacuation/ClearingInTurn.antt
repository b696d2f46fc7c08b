-- Roots and answers are cleared of the collection set, one after the other: after each the words stand for the same graph.
use Rattle.std.proofs.Common.{◌≡◌, ◌≢◌, ℕ, ◌+◌, ◌%◌, ◌<◌, ◌≤◌, ◌==◌, ◌&&◌, nat_le, true, false, zero, suc, List, [], ◌∷◌, Option, Some, None, ⊎_elim, refl, sym, ap, ◌∙◌, subst, arith}
use Rattle.std.specs.Prelude.{Contains}
use Rattle.std.specs.Int.{bit_at}
use Rattle.std.proofs.Math.Path.{fun_ext}
use Rattle.std.proofs.lemmas.Bool.{cases_Bool, cases_eq, cond-true, cond-false, and_parts, leb-true, eqb-true, eq-eqb, ne_eqb}
use Rattle.std.proofs.lemmas.Option.{same_Some}
use Rattle.heap_words.proofs.Bools.{both_equal}
use Rattle.heap_words.specs.declared.config.Config.{Config}
use Rattle.heap_words.specs.Words.{Word, Cset, Top, Root, Pin, Wait, Answer, Heap, same_word, write}
use Rattle.heap_words.specs.Encoding.{plain_header, header_word, shape_word, is_forwarded, forwardee_in, object_words}
use Rattle.heap_words.proofs.Stores.{same_word_true}
use Rattle.regions.specs.Place.{region_with}
use Rattle.shen_graph.specs.declared.name.Name.{Name}
use Rattle.shen_graph.specs.Graph.{Graph, Object, Reference}
use Rattle.image_graph.specs.Full.{now_in}
use Rattle.heap_world.specs.World.{Block, thing, moved, promised, words_of, Plot, Points, PinStands, name_at, body_of, IsCollected, IsMoved, IsThing}
use Rattle.heap_world.specs.Asking.{Asking, given, IsPromise, IsAsked}
use Rattle.heap_world.proofs.Pointing.{named_body, copy_cases, piece_inside}
use Rattle.heap_world.proofs.Keeping.{points_stay}
use Rattle.cycle_words.specs.Evacuation.Live.{words_at}
use Rattle.cycle_words.specs.Evacuation.Copied.{MayChange, copied_out, IsCopiedOut}
use Rattle.cycle_words.specs.Evacuation.Begun.{IsNaming, is_collected, moved_out, cleared_at, cleared_in_turn, CanClear, CanClearInTurn}
use Rattle.cycle_words.proofs.Evacuation.CopiedOut.{copies_out}
use Rattle.cycle_words.proofs.Evacuation.Copies.{cleared_is, spared_is}
use Rattle.cycle_words.proofs.Pinned.{PinsOutside, unpinned_inside, still_outside}
use Rattle.cycle_pauses.proofs.Evacuation.PinsKept.{pin_kept}
use Rattle.cycle_pauses.proofs.Evacuation.Between.{AreBetween}
use Rattle.cycle_pauses.proofs.Evacuation.CopiedOut.{HasCopied, copied_out_of}
use Rattle.cycle_words.proofs.Evacuation.NamingPlaces.{IsPlace}
use Rattle.cycle_pauses.proofs.Evacuation.Asked.{asked_stays, was_given}

-- The words between two turns: they stand for the graph, and but for pieces, roots and answers they are as at first. What pin slots hold lies
-- outside of the set.
pub record IsClearing (config : Config) (first memory : Word → ℕ) (block : Plot) (owner : ℕ → Option ℕ) (graph : Graph) (asking : ℕ → Asking) : Type 0 where
  pub between : AreBetween config memory block owner graph
  pub roots : (mutator index : ℕ) → mutator < config.mutators → index < 16 → Points block (memory (Root mutator index)) (graph.root (mutator + 1) index)
  pub asked : (mutator : ℕ) → mutator < config.mutators → IsAsked memory block graph.count mutator (asking mutator)
  pub same : (word : Word) → (MayChange word → ⊥) → (IsNaming word → ⊥) → memory word ≡ first word
  pub pinned : (mutator index : ℕ) → mutator < config.mutators → index < 4 → PinStands config (first Cset) 0 block (first (Pin mutator index)) (graph.pin (mutator + 1) index)
  pub apart : PinsOutside config first

-- headers, and where an object is by its header
pub plain_is_plain : (header : ℕ) → header ≡ plain_header → is_forwarded header ≡ false
plain_is_plain header header_plain = ap is_forwarded header_plain

pub led_is_forwarded : (header moved_to : ℕ) → header ≡ header_word moved_to → is_forwarded header ≡ true
led_is_forwarded header moved_to header_leads = ap is_forwarded header_leads ∙ eq-eqb (header_word moved_to % 4) 3 (omega arith)

pub now_is : (memory : Word → ℕ) (address moved_to : ℕ) → memory (Heap address) ≡ header_word moved_to → now_in memory address ≡ moved_to
now_is memory address moved_to header_leads =
    cond-true (is_forwarded (memory (Heap address))) (forwardee_in (memory (Heap address))) address (led_is_forwarded (memory (Heap address)) moved_to header_leads)
    ∙ ap forwardee_in header_leads ∙ omega arith

moved_out_plain : (config : Config) (memory : Word → ℕ) (address : ℕ) → memory (Heap address) ≡ plain_header → moved_out config memory address ≡ copied_out config memory address
moved_out_plain config memory address header_plain = fun_ext (λ word. cond-false (is_forwarded (memory (Heap address))) (memory word) (copied_out config memory address word) (plain_is_plain (memory (Heap address)) header_plain))

moved_out_led : (config : Config) (memory : Word → ℕ) (address moved_to : ℕ) → memory (Heap address) ≡ header_word moved_to → moved_out config memory address ≡ memory
moved_out_led config memory address moved_to header_leads = fun_ext (λ word. cond-true (is_forwarded (memory (Heap address))) (memory word) (copied_out config memory address word) (led_is_forwarded (memory (Heap address)) moved_to header_leads))

-- where it is copied out for that
copied_then : (config : Config) (memory : Word → ℕ) (place : Word) (copy_address : ℕ) → is_collected config memory (memory place) ≡ true → memory (Heap (memory place)) ≡ plain_header
    → copied_out config memory (memory place) (Heap (memory place)) ≡ header_word copy_address → cleared_at config memory place ≡ write (copied_out config memory (memory place)) place copy_address
copied_then config memory place copy_address object_collected header_plain header_written =
    let same_memory = moved_out_plain config memory (memory place) header_plain in
    cleared_is config memory place object_collected
    ∙ ap (λ (other_memory : Word → ℕ). write other_memory place (now_in other_memory (memory place))) same_memory
    ∙ ap (λ value. write (copied_out config memory (memory place)) place value) (now_is (copied_out config memory (memory place)) (memory place) copy_address header_written)

-- and where it had been before
renamed_then : (config : Config) (memory : Word → ℕ) (place : Word) (copy_address : ℕ) → is_collected config memory (memory place) ≡ true → memory (Heap (memory place)) ≡ header_word copy_address
    → cleared_at config memory place ≡ write memory place copy_address
renamed_then config memory place copy_address object_collected header_written =
    let same_memory = moved_out_led config memory (memory place) copy_address header_written in
    cleared_is config memory place object_collected
    ∙ ap (λ (other_memory : Word → ℕ). write other_memory place (now_in other_memory (memory place))) same_memory
    ∙ ap (λ value. write memory place value) (now_is memory (memory place) copy_address header_written)

-- a word that names nothing is not written
not_written : (memory : Word → ℕ) (place : Word) (value : ℕ) (word : Word) → IsNaming place → (IsNaming word → ⊥) → write memory place value word ≡ memory word
not_written memory place value word naming not_naming = ⊎_elim
    (λ (same_tested : same_word place word ≡ true). absurd (not_naming (subst IsNaming (same_word_true place word same_tested) naming)))
    (λ (words_differ : same_word place word ≡ false). cond-false (same_word place word) value (memory word) words_differ)
    (cases_Bool (same_word place word))

-- What a place names in the set.
record IsNamed (config : Config) (memory : Word → ℕ) (address : ℕ) : Type 0 where
  above : config.region_words ≤ address
  inside : IsCollected config (memory Cset) address

is_named : (config : Config) (memory : Word → ℕ) (address : ℕ) → is_collected config memory address ≡ true → IsNamed config memory address
is_named config memory address address_collected =
    let both_tests = and_parts (nat_le config.region_words address) (bit_at (memory Cset) (region_with config address) == 1) address_collected in
    record { above = leb-true config.region_words address both_tests.0; inside = eqb-true (bit_at (memory Cset) (region_with config address)) 1 both_tests.1 }

module _ (config : Config) (first_memory memory : Word → ℕ) (block : Plot) (owner : ℕ → Option ℕ) (graph : Graph) (asking : ℕ → Asking) (clearing : IsClearing config first_memory memory block owner graph asking) where
  -- no slot holds an object of the set, so what slots hold stays where one is copied
  unpinned : (address : ℕ) → is_collected config memory address ≡ true → (mutator slot : ℕ) → mutator < config.mutators → slot < 4 → first_memory (Pin mutator slot) ≢ address
  unpinned address address_collected mutator slot mutator_below slot_below same_address =
      unpinned_inside config memory (still_outside config first_memory memory (λ mutator index. clearing.same (Pin mutator index) (λ never. never) (λ never. never)) (clearing.same Cset (λ never. never) (λ never. never)) clearing.apart) address address_collected mutator slot mutator_below slot_below
      (clearing.same (Pin mutator slot) (λ never. never) (λ never. never) ∙ same_address)

  pins_copied : (collected_address : ℕ) (plot : Plot) → is_collected config memory collected_address ≡ true → ((address : ℕ) (piece : Block) → address ≢ collected_address → block address ≡ Some piece → plot address ≡ Some piece)
      → (mutator index : ℕ) → mutator < config.mutators → index < 4 → PinStands config (first_memory Cset) 0 plot (first_memory (Pin mutator index)) (graph.pin (mutator + 1) index)
  pins_copied collected_address plot object_collected others_stay mutator index mutator_below index_below =
      pin_kept config (first_memory Cset) 0 block plot (first_memory (Pin mutator index)) (graph.pin (mutator + 1) index) (λ piece has_piece. others_stay (first_memory (Pin mutator index)) piece (unpinned collected_address object_collected mutator index mutator_below index_below) has_piece) (clearing.pinned mutator index mutator_below index_below)

  -- a root that names an object becomes the name of a current copy, where other words and promises stay
  module _ (copied_memory : Word → ℕ) (plot : Plot) (cleared_mutator index copy_address : ℕ) (between_again : AreBetween config copied_memory plot owner graph) (words_same : (word : Word) → (MayChange word → ⊥) → copied_memory word ≡ memory word)
      (names_stay : (address : ℕ) (name : Name) → name_at (block address) ≡ Some name → name_at (plot address) ≡ Some name) (points : Points plot copy_address (graph.root (cleared_mutator + 1) index))
      (heap : (seat address words offset : ℕ) → block address ≡ Some (promised seat words) → offset < words → copied_memory (Heap (address + offset)) ≡ memory (Heap (address + offset)))
      (promises_stay : (seat address words : ℕ) → block address ≡ Some (promised seat words) → plot address ≡ Some (promised seat words))
      (promised_before : (seat address words : ℕ) → plot address ≡ Some (promised seat words) → block address ≡ Some (promised seat words))
      (pins : (seat pin_slot : ℕ) → seat < config.mutators → pin_slot < 4 → PinStands config (first_memory Cset) 0 plot (first_memory (Pin seat pin_slot)) (graph.pin (seat + 1) pin_slot)) where
    abbrev memory_then : Word → ℕ
    memory_then = write copied_memory (Root cleared_mutator index) copy_address

    root_again : (mutator any_index : ℕ) → mutator < config.mutators → any_index < 16 → Points plot (memory_then (Root mutator any_index)) (graph.root (mutator + 1) any_index)
    root_again mutator any_index mutator_below index_below = ⊎_elim
        (λ (same_root : ((cleared_mutator == mutator) && (index == any_index)) ≡ true).
        let both_same = both_equal cleared_mutator mutator index any_index same_root in
        subst (λ root_word. Points plot root_word (graph.root (mutator + 1) any_index)) (sym (cond-true ((cleared_mutator == mutator) && (index == any_index)) copy_address (copied_memory (Root mutator any_index)) same_root))
        (subst (λ offset. Points plot copy_address (graph.root (offset + 1) any_index)) both_same.0 (subst (λ index. Points plot copy_address (graph.root (cleared_mutator + 1) index)) both_same.1 points)))
        (λ (other_root : ((cleared_mutator == mutator) && (index == any_index)) ≡ false).
        subst (λ root_word. Points plot root_word (graph.root (mutator + 1) any_index)) (sym (cond-false ((cleared_mutator == mutator) && (index == any_index)) copy_address (copied_memory (Root mutator any_index)) other_root ∙ words_same (Root mutator any_index) (λ never. never)))
        (points_stay block plot names_stay (memory (Root mutator any_index)) (graph.root (mutator + 1) any_index) (clearing.roots mutator any_index mutator_below index_below)))
        (cases_Bool ((cleared_mutator == mutator) && (index == any_index)))

    root_named : IsClearing config first_memory memory_then plot owner graph asking
    root_named = record {
      between = between_again;
      roots = root_again;
      asked = λ seat inside.
          asked_stays memory memory_then block plot graph.count seat (words_same (Wait seat) (λ never. never)) (words_same (Answer seat) (λ never. never)) (λ address words offset. heap seat address words offset) (promises_stay seat) (promised_before seat) (asking seat) (clearing.asked seat inside);
      same = λ word fixed not_naming. not_written copied_memory (Root cleared_mutator index) copy_address word tt not_naming ∙ words_same word fixed ∙ clearing.same word fixed not_naming;
      pinned = pins;
      apart = clearing.apart;
    }

  -- One root is cleared.
  module _ (cleared_mutator index : ℕ) (mutator_below : cleared_mutator < config.mutators) (index_below : index < 16) (can_clear : CanClear config memory (memory (Root cleared_mutator index))) (root_collected : is_collected config memory (memory (Root cleared_mutator index)) ≡ true) where
    abbrev a : ℕ
    a = memory (Root cleared_mutator index)

    is : IsNamed config memory a
    is = is_named config memory a root_collected

    -- it is the name of an object
    named : (name : Name) × (graph.root (cleared_mutator + 1) index ≡ Some name) × (name_at (block a) ≡ Some name)
    named = of_reference (graph.root (cleared_mutator + 1) index) (clearing.roots cleared_mutator index mutator_below index_below)
      where
        of_reference : (reference : Reference) → Points block a reference → (name : Name) × (reference ≡ Some name) × (name_at (block a) ≡ Some name)
        of_reference None is_null = absurd (let above_first = is.above in let enough_words = config.in_range.least_words in omega (arith, is_null, above_first, enough_words))
        of_reference (Some name) points = (name, refl, points)

    -- which has not moved
    module _ (refs nums : ℕ) (object_there : block a ≡ Some (thing named.0 refs nums)) where
      abbrev x : Block
      x = thing named.0 refs nums

      object : (its_object : Object) × (graph.object named.0 ≡ Some its_object) × IsThing (λ address. memory (Heap address)) block a refs nums named.0 its_object
      object = clearing.between.contents.objects.each a refs nums named.0 object_there

      words_are : words_at memory a ≡ words_of x
      words_are = let few_refs = object.2.few_refs in let few_nums = object.2.few_nums in ap object_words object.2.shape ∙ omega (arith, few_refs, few_nums)

      copies : IsCopiedOut config memory (copied_out config memory a) a
      copies = copies_out config memory a is.above is.inside (can_clear.room root_collected (plain_is_plain (memory (Heap a)) object.2.header))

      no_promise : (seat address words : ℕ) → block address ≡ Some (promised seat words) → address ≢ a
      no_promise seat address words promise same_address =
          let same_piece : thing named.0 refs nums ≡ promised seat words = same_Some x (promised seat words) (sym object_there ∙ ap block (sym same_address) ∙ promise) in cc

      at : (copy_address : ℕ) × (plot : Plot) × HasCopied config memory (copied_out config memory a) block plot owner graph a copy_address x
      at = copied_out_of config memory block owner graph clearing.between a x object_there tt is.inside object.2.header words_are copies

      root_copied : (plot : Plot) × IsClearing config first_memory (cleared_at config memory (Root cleared_mutator index)) plot owner graph asking
      root_copied = (
        at.1,
        subst (λ memory. IsClearing config first_memory memory at.1 owner graph asking) (sym (copied_then config memory (Root cleared_mutator index) at.0 root_collected object.2.header at.2.header))
            (root_named (copied_out config memory a) at.1 cleared_mutator index at.0 at.2.between at.2.same at.2.names (subst (Points at.1 at.0) (sym named.1) (ap name_at at.2.there))
            (λ seat address words offset promise offset_below. at.2.kept address offset (promised seat words) (no_promise seat address words promise) promise offset_below)
            (λ seat address words promise. at.2.stays address (promised seat words) (no_promise seat address words promise) promise)
            (λ seat address words promise. ⊎_elim
            (λ (new : (address ≡ at.0) × (x ≡ promised seat words)). let differ = new.1 in cc)
            (λ (stood : (address ≢ a) × (block address ≡ Some (promised seat words))). stood.1)
            (at.2.promises address seat words promise))
            (pins_copied a at.1 root_collected at.2.stays)),
      )

    -- or which had moved
    module _ (refs nums copy_address : ℕ) (old_there : block a ≡ Some (moved named.0 refs nums copy_address)) where
      old_at : IsMoved config (memory Cset) (λ address. memory (Heap address)) block a refs nums copy_address named.0
      old_at = clearing.between.moves.moveds a refs nums copy_address named.0 old_there

      root_renamed : (plot : Plot) × IsClearing config first_memory (cleared_at config memory (Root cleared_mutator index)) plot owner graph asking
      root_renamed = (
        block,
        subst (λ memory. IsClearing config first_memory memory block owner graph asking) (sym (renamed_then config memory (Root cleared_mutator index) copy_address root_collected old_at.header))
            (root_named memory block cleared_mutator index copy_address clearing.between (λ word fixed. refl) (λ address name has_name. has_name) (subst (Points block copy_address) (sym named.1) (ap name_at old_at.copy))
            (λ seat address words offset promise offset_below. refl) (λ seat address words promise. promise) (λ seat address words promise. promise) clearing.pinned),
      )

    root_cleared : (plot : Plot) × IsClearing config first_memory (cleared_at config memory (Root cleared_mutator index)) plot owner graph asking
    root_cleared =
        let body = named_body (block a) named.0 named.2 in
        ⊎_elim
        (λ (current : block a ≡ Some (thing named.0 body.0 body.1)). root_copied body.0 body.1 current)
        (λ (old : (copy_address : ℕ) × (block a ≡ Some (moved named.0 body.0 body.1 copy_address))). root_renamed body.0 body.1 old.0 old.1)
        (copy_cases (block a) (body_of named.0 body.0 body.1) body.2)

  -- One answer is cleared.
  module _ (cleared_mutator : ℕ) (mutator_inside : cleared_mutator < config.mutators) (can_clear : CanClear config memory (memory (Answer cleared_mutator))) (answer_collected : is_collected config memory (memory (Answer cleared_mutator)) ≡ true) where
    abbrev answer : ℕ
    answer = memory (Answer cleared_mutator)

    answer_is : IsNamed config memory answer
    answer_is = is_named config memory answer answer_collected

    -- it is of an object that was made for the mutator
    gave : (refs : ℕ) × (nums : ℕ) × (asking cleared_mutator ≡ given refs nums) × (memory (Wait cleared_mutator) ≡ 0) × IsPromise memory block graph.count cleared_mutator refs nums answer
    gave = was_given memory block graph.count cleared_mutator (asking cleared_mutator) (clearing.asked cleared_mutator mutator_inside) (let above_first = answer_is.above in let enough_words = config.in_range.least_words in omega (arith, above_first, enough_words))

    abbrev made : Block
    made = promised cleared_mutator (3 + gave.0 + gave.1)

    made_header : memory (Heap answer) ≡ plain_header
    made_header = let start : answer + 0 ≡ answer = omega arith in ap (λ address. memory (Heap address)) (sym start) ∙ gave.4.words 0 (omega arith)

    made_shape : memory (Heap (answer + 1)) ≡ shape_word gave.0 gave.1
    made_shape = gave.4.words 1 (omega arith)

    made_words : words_at memory answer ≡ words_of made
    made_words = let few_refs = gave.4.few_refs in let few_nums = gave.4.few_nums in ap object_words made_shape ∙ omega (arith, few_refs, few_nums)

    made_copies : IsCopiedOut config memory (copied_out config memory answer) answer
    made_copies = copies_out config memory answer answer_is.above answer_is.inside (can_clear.room answer_collected (plain_is_plain (memory (Heap answer)) made_header))

    moves : (copy_address : ℕ) × (plot : Plot) × HasCopied config memory (copied_out config memory answer) block plot owner graph answer copy_address made
    moves = copied_out_of config memory block owner graph clearing.between answer made gave.4.here tt answer_is.inside made_header made_words made_copies

    abbrev to : ℕ
    to = moves.0

    abbrev plot : Plot
    plot = moves.1

    abbrev other_memory : Word → ℕ
    other_memory = copied_out config memory answer

    abbrev written : Word → ℕ
    written = write other_memory (Answer cleared_mutator) to

    -- what others were promised is elsewhere
    other_promise : (seat address words : ℕ) → seat ≢ cleared_mutator → block address ≡ Some (promised seat words) → address ≢ answer
    other_promise seat address words seats_differ promise same_address =
        let same_piece : made ≡ promised seat words = same_Some made (promised seat words) (sym gave.4.here ∙ ap block (sym same_address) ∙ promise) in
        let seats : cleared_mutator ≡ seat = cc in
        seats_differ (sym seats)

    answered_here : IsAsked written plot graph.count cleared_mutator (asking cleared_mutator)
    answered_here =
        let answer_now : written (Answer cleared_mutator) ≡ to = cond-true (cleared_mutator == cleared_mutator) to (other_memory (Answer cleared_mutator)) (eq-eqb cleared_mutator cleared_mutator refl) in
        let inside_of = piece_inside config (λ region. other_memory (Top region)) plot moves.2.between.parsable.plotted to made moves.2.there in
        let enough_words = config.in_range.least_words in
        subst (IsAsked written plot graph.count cleared_mutator) (sym gave.2) (
          moves.2.same (Wait cleared_mutator) (λ never. never) ∙ gave.3,
          subst (λ number. 1 < number) (sym answer_now) (omega (arith, inside_of.0, enough_words)),
          subst (IsPromise written plot graph.count cleared_mutator gave.0 gave.1) (sym answer_now)
              (record {
                here = moves.2.there;
                words = λ number offset_below. moves.2.copied number offset_below ∙ gave.4.words number offset_below;
                only = λ address more_words promise. ⊎_elim
                    (λ (new : (address ≡ to) × (made ≡ promised cleared_mutator more_words)). new.0)
                    (λ (stood : (address ≢ answer) × (block address ≡ Some (promised cleared_mutator more_words))). absurd (stood.0 (gave.4.only address more_words stood.1)))
                    (moves.2.promises address cleared_mutator more_words promise);
                few_refs = gave.4.few_refs;
                few_nums = gave.4.few_nums;
                few = gave.4.few;
              }),
        )

    answered_there : (mutator : ℕ) → mutator < config.mutators → mutator ≢ cleared_mutator → IsAsked written plot graph.count mutator (asking mutator)
    answered_there mutator mutator_below mutators_differ =
        asked_stays memory written block plot graph.count mutator (moves.2.same (Wait mutator) (λ never. never))
        (cond-false (cleared_mutator == mutator) to (other_memory (Answer mutator)) (ne_eqb cleared_mutator mutator (λ same_mutator. mutators_differ (sym same_mutator))) ∙ moves.2.same (Answer mutator) (λ never. never))
        (λ address words offset promise offset_below. moves.2.kept address offset (promised mutator words) (other_promise mutator address words mutators_differ promise) promise offset_below)
        (λ address words promise. moves.2.stays address (promised mutator words) (other_promise mutator address words mutators_differ promise) promise)
        (λ address words promise. ⊎_elim
        (λ (new : (address ≡ to) × (made ≡ promised mutator words)). let same_piece = new.1 in let seats : cleared_mutator ≡ mutator = cc in absurd (mutators_differ (sym seats)))
        (λ (stood : (address ≢ answer) × (block address ≡ Some (promised mutator words))). stood.1)
        (moves.2.promises address mutator words promise))
        (asking mutator) (clearing.asked mutator mutator_below)

    answer_cleared : (new_plot : Plot) × IsClearing config first_memory (cleared_at config memory (Answer cleared_mutator)) new_plot owner graph asking
    answer_cleared = (
      plot,
      subst (λ end. IsClearing config first_memory end plot owner graph asking) (sym (copied_then config memory (Answer cleared_mutator) to answer_collected made_header moves.2.header))
          (record {
            between = moves.2.between;
            roots = λ seat index seat_below few.
                subst (λ root_word. Points plot root_word (graph.root (seat + 1) index)) (sym (moves.2.same (Root seat index) (λ never. never)))
                (points_stay block plot moves.2.names (memory (Root seat index)) (graph.root (seat + 1) index) (clearing.roots seat index seat_below few));
            asked = λ mutator seat_below. ⊎_elim
                (λ (same_mutator : mutator ≡ cleared_mutator). subst (λ some_mutator. IsAsked written plot graph.count some_mutator (asking some_mutator)) (sym same_mutator) answered_here)
                (λ (mutators_differ : mutator ≢ cleared_mutator). answered_there mutator seat_below mutators_differ)
                (cases_eq mutator cleared_mutator);
            same = λ word fixed not_same. not_written other_memory (Answer cleared_mutator) to word tt not_same ∙ moves.2.same word fixed ∙ clearing.same word fixed not_same;
            pinned = pins_copied answer plot answer_collected moves.2.stays;
            apart = clearing.apart;
          }),
    )

  -- One place is cleared.
  spared : (place : Word) → is_collected config memory (memory place) ≡ false → (plot : Plot) × IsClearing config first_memory (cleared_at config memory place) plot owner graph asking
  spared place outside = (block, subst (λ end. IsClearing config first_memory end block owner graph asking) (sym (spared_is config memory place outside)) clearing)

  pub place_cleared : (place : Word) → IsPlace config place → CanClear config memory (memory place) → (plot : Plot) × IsClearing config first_memory (cleared_at config memory place) plot owner graph asking
  place_cleared (Root cleared_mutator index) place can_clear = ⊎_elim
      (λ (object_collected : is_collected config memory (memory (Root cleared_mutator index)) ≡ true). root_cleared cleared_mutator index place.0 place.1 can_clear object_collected)
      (λ (outside : is_collected config memory (memory (Root cleared_mutator index)) ≡ false). spared (Root cleared_mutator index) outside)
      (cases_Bool (is_collected config memory (memory (Root cleared_mutator index))))
  place_cleared (Answer cleared_mutator) place can_clear = ⊎_elim
      (λ (object_collected : is_collected config memory (memory (Answer cleared_mutator)) ≡ true). answer_cleared cleared_mutator place can_clear object_collected)
      (λ (outside : is_collected config memory (memory (Answer cleared_mutator)) ≡ false). spared (Answer cleared_mutator) outside)
      (cases_Bool (is_collected config memory (memory (Answer cleared_mutator))))
  place_cleared _ place can_clear = absurd place

-- All of them are.
pub is_first : (place : Word) (places : List Word) → Contains (place ∷ places) place
is_first place places = (zero, omega arith, refl)

pub is_later : (place : Word) (places : List Word) (word : Word) → Contains places word → Contains (place ∷ places) word
is_later place places word word_contained = (suc word_contained.0, omega (arith, word_contained.1), word_contained.2)

pub all_cleared : (config : Config) (first_memory : Word → ℕ) (owner : ℕ → Option ℕ) (graph : Graph) (asking : ℕ → Asking) (places : List Word) (memory : Word → ℕ) (block : Plot)
    → ((word : Word) → Contains places word → IsPlace config word) → IsClearing config first_memory memory block owner graph asking → CanClearInTurn config memory places
    → (plot : Plot) × IsClearing config first_memory (cleared_in_turn config memory places) plot owner graph asking
unfolding cleared_in_turn CanClearInTurn
all_cleared config first_memory owner graph asking [] memory block are_places clearing can_clear = (block, clearing)
all_cleared config first_memory owner graph asking (place ∷ places) memory block are_places clearing can_clear =
    let next_cleared = place_cleared config first_memory memory block owner graph asking clearing place (are_places place (is_first place places)) can_clear.0 in
    all_cleared config first_memory owner graph asking places (cleared_at config memory place) next_cleared.0 (λ word contained. are_places word (is_later place places word contained)) next_cleared.1 can_clear.1
