-- The list of the words that hold objects has exactly those that stand for roots, for what is promised, and for what pin slots hold.
use Rattle.std.proofs.Common.{◌≡◌, ◌≢◌, ℕ, ◌+◌, ◌<◌, ◌-◌, ◌≤◌, ◌⊎◌, ◌++◌, ◌∷◌, [], true, false, zero, suc, cond, nat_le, nat_eq, List, map, Option, Some, None, ⊎_elim, refl, sym, ap, ◌∙◌, subst, arith}
use Rattle.std.specs.List.{range_with_len}
use Rattle.std.proofs.lemmas.Bool.{cond-true, cond-false, cases_Bool, cases_eq, eq-eqb, eqb-true, lt-leb, leb-false, or_cases, or_left, false≢true}
use Rattle.std.proofs.lemmas.Option.{none-some}
use Rattle.std.proofs.lemmas.List.Folds.{list_any-append}
use Rattle.heap_words.specs.declared.config.Config.{Config}
use Rattle.heap_words.specs.Words.{Word, Root, Answer, Pin, Heap}
use Rattle.heap_words.specs.Encoding.{is_forwarded}
use Rattle.heap_world.specs.Walk.{has}
use Rattle.heap_world.proofs.TakenDown.{has-range, has-left, has-right}
use Rattle.shen_graph.specs.declared.name.Name.{Name}
use Rattle.shen_graph.specs.declared.pin.Pinned.{Pinned}
use Rattle.shen_graph.specs.Graph.{Graph, Reference}
use Rattle.shen_graph.specs.Step.{name_in}
use Rattle.heap_world.specs.World.{Plot, name_at, Points, IsPlotted}
use Rattle.heap_world.proofs.Pointing.{named_if_not_0}
use Rattle.image_graph.specs.Held.{IsAmong, IsCopy}
use Rattle.image_graph.specs.Pinned.{pins_below}
use Rattle.image_graph.specs.Full.{roots_below, answers_below, root_words, held_words}
use Rattle.image_graph.specs.Promised.{Promises, with_promised}
use Rattle.image_graph.specs.Image.{AnswerStands, PinWordStands, RootsStand}
use Rattle.image_graph.proofs.HeldFound.{has_map, map_has, range_has}
use Rattle.image_graph.proofs.PromisedRoots.{plain_root, extra_root, pin_root, IsPromisedRoot, IsPinRoot, root_cases}

-- a list behind another has what either has
pub has_either : (xs ys : List ℕ) (asked : ℕ) → has (xs ++ ys) asked ≡ true → (has xs asked ≡ true) ⊎ (has ys asked ≡ true)
has_either xs ys asked asked_there = or_cases (has xs asked) (has ys asked) (sym (list_any-append (nat_eq asked) xs ys) ∙ asked_there)

pub has_first : (xs ys : List ℕ) (asked : ℕ) → has xs asked ≡ true → has (xs ++ ys) asked ≡ true
has_first xs ys asked asked_there = has-left xs ys asked asked_there

pub has_second : (xs ys : List ℕ) (asked : ℕ) → has ys asked ≡ true → has (xs ++ ys) asked ≡ true
has_second xs ys asked asked_there = has-right xs ys asked asked_there

-- a list of one
pub has_one : (x asked : ℕ) → has (x ∷ []) asked ≡ true → asked ≡ x
has_one x asked asked_there = ⊎_elim (λ (same_number : nat_eq asked x ≡ true). eqb-true asked x same_number) (λ (none_there : has [] asked ≡ true). absurd (false≢true none_there)) (or_cases (nat_eq asked x) (has [] asked) asked_there)

module _ (memory : Word → ℕ) where
  -- the words of the roots
  pub root_in : (mutator asked : ℕ) → has (roots_below memory mutator) asked ≡ true → (other_mutator : ℕ) × (index : ℕ) × (other_mutator < mutator) × (index < 16) × (memory (Root other_mutator index) ≡ asked)
  root_in zero asked asked_there = absurd (false≢true asked_there)
  root_in (suc mutator) asked asked_there = ⊎_elim
      (λ (earlier : has (roots_below memory mutator) asked ≡ true). let found_place = root_in mutator asked earlier in (found_place.0, found_place.1, omega (arith, found_place.2), found_place.3, found_place.4))
      (λ (in_last : has (map (λ index. memory (Root mutator index)) (range_with_len 0 16)) asked ≡ true).
      let found_place = has_map (λ index. memory (Root mutator index)) (range_with_len 0 16) asked in_last in
      let few = range_has 0 16 found_place.0 found_place.1 in
      (mutator, found_place.0, omega arith, omega (arith, few.1), found_place.2))
      (has_either (roots_below memory mutator) (map (λ index. memory (Root mutator index)) (range_with_len 0 16)) asked asked_there)

  root_listed : (mutator other_mutator index : ℕ) → other_mutator < mutator → index < 16 → has (roots_below memory mutator) (memory (Root other_mutator index)) ≡ true
  root_listed zero mutator index mutator_below few = absurd (omega (arith, mutator_below))
  root_listed (suc mutator) other_mutator index mutator_below few = ⊎_elim
      (λ (last_mutator : mutator ≡ other_mutator).
      has_second (roots_below memory mutator) (map (λ index. memory (Root mutator index)) (range_with_len 0 16)) (memory (Root other_mutator index))
      (subst (λ other_mutator. has (map (λ index. memory (Root mutator index)) (range_with_len 0 16)) (memory (Root other_mutator index)) ≡ true) last_mutator
      (map_has (λ index. memory (Root mutator index)) (range_with_len 0 16) index (has-range 0 16 index (omega arith) (omega (arith, few))))))
      (λ (earlier_mutator : mutator ≢ other_mutator).
      has_first (roots_below memory mutator) (map (λ index. memory (Root mutator index)) (range_with_len 0 16)) (memory (Root other_mutator index)) (root_listed mutator other_mutator index (omega (arith, mutator_below, earlier_mutator)) few))
      (cases_eq mutator other_mutator)

  -- the words of the pin slots
  pub pin_in : (mutator asked : ℕ) → has (pins_below memory mutator) asked ≡ true → (other_mutator : ℕ) × (index : ℕ) × (other_mutator < mutator) × (index < 4) × (memory (Pin other_mutator index) ≡ asked)
  pin_in zero asked asked_there = absurd (false≢true asked_there)
  pin_in (suc mutator) asked asked_there = ⊎_elim
      (λ (earlier : has (pins_below memory mutator) asked ≡ true). let found_place = pin_in mutator asked earlier in (found_place.0, found_place.1, omega (arith, found_place.2), found_place.3, found_place.4))
      (λ (in_last : has (map (λ index. memory (Pin mutator index)) (range_with_len 0 4)) asked ≡ true).
      let found_place = has_map (λ index. memory (Pin mutator index)) (range_with_len 0 4) asked in_last in
      let few = range_has 0 4 found_place.0 found_place.1 in
      (mutator, found_place.0, omega arith, omega (arith, few.1), found_place.2))
      (has_either (pins_below memory mutator) (map (λ index. memory (Pin mutator index)) (range_with_len 0 4)) asked asked_there)

  pub pin_listed : (mutator other_mutator index : ℕ) → other_mutator < mutator → index < 4 → has (pins_below memory mutator) (memory (Pin other_mutator index)) ≡ true
  pin_listed zero mutator index mutator_below few = absurd (omega (arith, mutator_below))
  pin_listed (suc mutator) other_mutator index mutator_below few = ⊎_elim
      (λ (last_mutator : mutator ≡ other_mutator).
      has_second (pins_below memory mutator) (map (λ slot. memory (Pin mutator slot)) (range_with_len 0 4)) (memory (Pin other_mutator index))
      (subst (λ other_mutator. has (map (λ slot. memory (Pin mutator slot)) (range_with_len 0 4)) (memory (Pin other_mutator index)) ≡ true) last_mutator
      (map_has (λ slot. memory (Pin mutator slot)) (range_with_len 0 4) index (has-range 0 4 index (omega arith) (omega (arith, few))))))
      (λ (earlier_mutator : mutator ≢ other_mutator).
      has_first (pins_below memory mutator) (map (λ slot. memory (Pin mutator slot)) (range_with_len 0 4)) (memory (Pin other_mutator index)) (pin_listed mutator other_mutator index (omega (arith, mutator_below, earlier_mutator)) few))
      (cases_eq mutator other_mutator)

  -- the answers that are addresses
  abbrev one_answer : ℕ → List ℕ
  one_answer mutator = cond (nat_le (memory (Answer mutator)) 1) [] (memory (Answer mutator) ∷ [])

  pub answer_in : (mutator asked : ℕ) → has (answers_below memory mutator) asked ≡ true → (other_mutator : ℕ) × (other_mutator < mutator) × (1 < memory (Answer other_mutator)) × (memory (Answer other_mutator) ≡ asked)
  answer_in zero asked asked_there = absurd (false≢true asked_there)
  answer_in (suc mutator) asked asked_there = ⊎_elim
      (λ (earlier : has (answers_below memory mutator) asked ≡ true). let found_place = answer_in mutator asked earlier in (found_place.0, omega (arith, found_place.1), found_place.2, found_place.3))
      (λ (in_last : has (one_answer mutator) asked ≡ true). ⊎_elim
      (λ (no_answer : nat_le (memory (Answer mutator)) 1 ≡ true).
      absurd (false≢true (ap (λ xs. has xs asked) (sym (cond-true (nat_le (memory (Answer mutator)) 1) [] (memory (Answer mutator) ∷ []) no_answer)) ∙ in_last)))
      (λ (some_answer : nat_le (memory (Answer mutator)) 1 ≡ false). (
        mutator,
        omega arith,
        leb-false (memory (Answer mutator)) 1 some_answer,
        sym (has_one (memory (Answer mutator)) asked (ap (λ xs. has xs asked) (sym (cond-false (nat_le (memory (Answer mutator)) 1) [] (memory (Answer mutator) ∷ []) some_answer)) ∙ in_last)),
      ))
      (cases_Bool (nat_le (memory (Answer mutator)) 1)))
      (has_either (answers_below memory mutator) (one_answer mutator) asked asked_there)

  answer_listed : (mutators mutator : ℕ) → mutator < mutators → 1 < memory (Answer mutator) → has (answers_below memory mutators) (memory (Answer mutator)) ≡ true
  answer_listed zero mutator mutator_below some_answer = absurd (omega (arith, mutator_below))
  answer_listed (suc mutators) mutator mutator_below some_answer = ⊎_elim
      (λ (last_mutator : mutators ≡ mutator).
      let answer_there : has (one_answer mutator) (memory (Answer mutator)) ≡ true =
      ap (λ xs. has xs (memory (Answer mutator))) (cond-false (nat_le (memory (Answer mutator)) 1) [] (memory (Answer mutator) ∷ []) (lt-leb (memory (Answer mutator)) 1 some_answer))
      ∙ or_left (nat_eq (memory (Answer mutator)) (memory (Answer mutator))) (has [] (memory (Answer mutator))) (eq-eqb (memory (Answer mutator)) (memory (Answer mutator)) refl) in
      has_second (answers_below memory mutators) (one_answer mutators) (memory (Answer mutator)) (subst (λ any_mutator. has (one_answer any_mutator) (memory (Answer mutator)) ≡ true) (sym last_mutator) answer_there))
      (λ (earlier_mutator : mutators ≢ mutator). has_first (answers_below memory mutators) (one_answer mutators) (memory (Answer mutator)) (answer_listed mutators mutator (omega (arith, mutator_below, earlier_mutator)) some_answer))
      (cases_eq mutators mutator)

-- where an object has its current copy, that stands for its name
pub copy_named : (block : Plot) (address : ℕ) (name : Name) → IsCopy block address name → name_at (block address) ≡ Some name
copy_named block address name copy = ap name_at copy.2

-- what a pin slot holds has its object where the word says
pub pin_copy : (memory : Word → ℕ) (block : Plot) (word : ℕ) (held : Option Pinned) (pinned : Pinned) → PinWordStands memory block word held → held ≡ Some pinned
    → (word ≡ pinned.place) × IsCopy block word pinned.name × (is_forwarded (memory (Heap word)) ≡ false)
pin_copy memory block word held pinned stands pinned_there = subst (PinWordStands memory block word) pinned_there stands

-- and a pin word that is not null is that of a slot that holds something
pub pin_some : (memory : Word → ℕ) (block : Plot) (word : ℕ) (held : Option Pinned) → PinWordStands memory block word held → word ≢ 0 → (pinned : Pinned) × (held ≡ Some pinned)
pin_some memory block word None stands not_null = absurd (not_null stands)
pin_some memory block word (Some pinned) stands not_null = (pinned, refl)

-- where the headers of what it may hold stay, and objects stay where they are, a pin word stands for the same
pub pin_stays : (memory later : Word → ℕ) (block plot : Plot) (word : ℕ) (held : Option Pinned)
    → ((name : Name) → IsCopy block word name → is_forwarded (memory (Heap word)) ≡ false → IsCopy plot word name × (is_forwarded (later (Heap word)) ≡ false))
    → PinWordStands memory block word held → PinWordStands later plot word held
pin_stays memory later block plot word None stay stands = stands
pin_stays memory later block plot word (Some pinned) stay stands =
    let now = stay pinned.name stands.1 stands.2 in
    (stands.0, now.0, now.1)

module _ (config : Config) (top : ℕ → ℕ) (memory : Word → ℕ) (block : Plot) (graph : Graph) (promises : Promises) (plotted : IsPlotted config top block) (stand : RootsStand config memory block graph promises) where
  abbrev more : Graph
  more = with_promised graph promises

  abbrev IsNamed : ℕ → Type 0
  IsNamed word = (thread : ℕ) × (index : ℕ) × (name : Name) × (more.root thread index ≡ Some name) × (name_at (block word) ≡ Some name)

  abbrev HasWord : Name → Type 0
  HasWord name = (word : ℕ) × IsAmong (held_words config memory) word × (name_at (block word) ≡ Some name)

  pub answer_names : (word : ℕ) (reference : Reference) → 1 < word → AnswerStands block word reference → (name : Name) × (reference ≡ Some name) × (name_at (block word) ≡ Some name)
  answer_names word reference some_answer stands = ⊎_elim
      (λ (no_answer : (word ≤ 1) × (reference ≡ None)). absurd (omega (arith, no_answer.0, some_answer)))
      (λ (answer_named : (1 < word) × (name : Name) × (reference ≡ Some name) × (name_at (block word) ≡ Some name)). (answer_named.1, answer_named.2, answer_named.3))
      stands

  -- the words that are roots, answers or pins are among those that hold objects
  pub root_among : (mutator index : ℕ) → mutator < config.mutators → index < 16 → IsAmong (held_words config memory) (memory (Root mutator index))
  root_among mutator index inside index_below =
      has_first (root_words config memory) (pins_below memory config.mutators) (memory (Root mutator index))
      (has_first (roots_below memory config.mutators) (answers_below memory config.mutators) (memory (Root mutator index)) (root_listed memory config.mutators mutator index inside index_below))

  pub answer_among : (mutator : ℕ) → mutator < config.mutators → 1 < memory (Answer mutator) → IsAmong (held_words config memory) (memory (Answer mutator))
  answer_among mutator inside some_answer =
      has_first (root_words config memory) (pins_below memory config.mutators) (memory (Answer mutator))
      (has_second (roots_below memory config.mutators) (answers_below memory config.mutators) (memory (Answer mutator)) (answer_listed memory config.mutators mutator inside some_answer))

  pub pin_among : (mutator index : ℕ) → mutator < config.mutators → index < 4 → IsAmong (held_words config memory) (memory (Pin mutator index))
  pin_among mutator index inside index_below = has_second (root_words config memory) (pins_below memory config.mutators) (memory (Pin mutator index)) (pin_listed memory config.mutators mutator index inside index_below)

  -- a word of a pin slot is a root of the graph with promised objects
  pin_named : (word : ℕ) → has (pins_below memory config.mutators) word ≡ true → word ≢ 0 → IsNamed word
  pin_named word pin_word not_null =
      let pin_place = pin_in memory config.mutators word pin_word in
      let stands : PinWordStands memory block word (graph.pin (pin_place.0 + 1) pin_place.1) = subst (λ any_word. PinWordStands memory block any_word (graph.pin (pin_place.0 + 1) pin_place.1)) pin_place.4 (stand.pins pin_place.0 pin_place.1 pin_place.2 pin_place.3) in
      let some_pin = pin_some memory block word (graph.pin (pin_place.0 + 1) pin_place.1) stands not_null in
      let copy = (pin_copy memory block word (graph.pin (pin_place.0 + 1) pin_place.1) some_pin.0 stands some_pin.1).1 in
      (pin_place.0 + 1, 17 + pin_place.1, some_pin.0.name, pin_root graph promises (pin_place.0 + 1) pin_place.1 pin_place.3 ∙ ap name_in some_pin.1, copy_named block word some_pin.0.name copy)

  pub root_named : (word : ℕ) → IsAmong (held_words config memory) word → word ≢ 0 → IsNamed word
  root_named word held_word not_null = ⊎_elim
      (λ (names : has (root_words config memory) word ≡ true). ⊎_elim
      (λ (root : has (roots_below memory config.mutators) word ≡ true).
      let found_place = root_in memory config.mutators word root in
      let points : Points block word (graph.root (found_place.0 + 1) found_place.1) = subst (λ any_word. Points block any_word (graph.root (found_place.0 + 1) found_place.1)) found_place.4 (stand.roots found_place.0 found_place.1 found_place.2 found_place.3) in
      let named = named_if_not_0 config top block plotted word (graph.root (found_place.0 + 1) found_place.1) points not_null in
      (found_place.0 + 1, found_place.1, named.0, plain_root graph promises (found_place.0 + 1) found_place.1 found_place.3 ∙ named.1, named.2))
      (λ (answer : has (answers_below memory config.mutators) word ≡ true).
      let found_place = answer_in memory config.mutators word answer in
      let named = answer_names (memory (Answer found_place.0)) (promises.ref (found_place.0 + 1)) found_place.2 (stand.answers found_place.0 found_place.1) in
      (found_place.0 + 1, 16, named.0, extra_root graph promises (found_place.0 + 1) ∙ named.1, ap (λ address. name_at (block address)) (sym found_place.3) ∙ named.2))
      (has_either (roots_below memory config.mutators) (answers_below memory config.mutators) word names))
      (λ (pin : has (pins_below memory config.mutators) word ≡ true). pin_named word pin not_null)
      (has_either (root_words config memory) (pins_below memory config.mutators) word held_word)

  -- what is promised has an answer that holds it
  promised_held : (thread : ℕ) (name : Name) → promises.ref thread ≡ Some name → HasWord name
  promised_held thread name promised =
      let promise_place = stand.no_more_promised thread name promised in
      let same_promise : promises.ref (promise_place.0 + 1) ≡ Some name = ap promises.ref (sym promise_place.2) ∙ promised in
      ⊎_elim
      (λ (no_answer : (memory (Answer promise_place.0) ≤ 1) × (promises.ref (promise_place.0 + 1) ≡ None)). absurd (none-some name (sym no_answer.1 ∙ same_promise)))
      (λ (some_answer : (1 < memory (Answer promise_place.0)) × (answer_name : Name) × (promises.ref (promise_place.0 + 1) ≡ Some answer_name) × (name_at (block (memory (Answer promise_place.0))) ≡ Some answer_name)).
      (memory (Answer promise_place.0), answer_among promise_place.0 promise_place.1 some_answer.0, some_answer.3 ∙ sym some_answer.2 ∙ same_promise))
      (stand.answers promise_place.0 promise_place.1)

  -- what a slot holds has a pin word
  pinned_held : (thread slot : ℕ) (pinned : Pinned) → graph.pin thread slot ≡ Some pinned → HasWord pinned.name
  pinned_held thread slot pinned pin_there =
      let pin_place = stand.no_more_pins thread slot pinned pin_there in
      let same_pin : graph.pin (pin_place.0 + 1) slot ≡ Some pinned = ap (λ thread. graph.pin thread slot) (sym pin_place.2) ∙ pin_there in
      let copy = (pin_copy memory block (memory (Pin pin_place.0 slot)) (graph.pin (pin_place.0 + 1) slot) pinned (stand.pins pin_place.0 slot pin_place.1 pin_place.3) same_pin).1 in
      (memory (Pin pin_place.0 slot), pin_among pin_place.0 slot pin_place.1 pin_place.3, copy_named block (memory (Pin pin_place.0 slot)) pinned.name copy)

  pub root_held : (thread index : ℕ) (name : Name) → more.root thread index ≡ Some name → HasWord name
  root_held thread index name root_there = ⊎_elim
      (λ (extra : IsPromisedRoot graph promises thread index name). promised_held thread name extra.1)
      (λ (given_root : IsPinRoot graph promises thread index name ⊎ (graph.root thread index ≡ Some name)). ⊎_elim
      (λ (pin : IsPinRoot graph promises thread index name). subst HasWord pin.4 (pinned_held thread (index - 17) pin.2 pin.3))
      (λ (root : graph.root thread index ≡ Some name).
      let root_place = stand.no_more_roots thread index name root in
      let same_root : graph.root (root_place.0 + 1) index ≡ Some name = ap (λ thread. graph.root thread index) (sym root_place.2) ∙ root in
      (memory (Root root_place.0 index), root_among root_place.0 index root_place.1 root_place.3, subst (Points block (memory (Root root_place.0 index))) same_root (stand.roots root_place.0 index root_place.1 root_place.3)))
      given_root)
      (root_cases graph promises thread index name root_there)

  pub no_pins : (thread slot : ℕ) (held : Pinned) → more.pin thread slot ≡ Some held → ⊥
  no_pins thread slot held pin_there = none-some held pin_there
