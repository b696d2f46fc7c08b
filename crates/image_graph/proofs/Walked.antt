-- What one computes as kept is what the root words lead to.
use Rattle.std.proofs.Common.{◌≡◌, ◌≢◌, ℕ, ◌+◌, ◌*◌, ◌<◌, ◌≤◌, ◌==◌, true, false, cond, List, ⊎_elim, sym, ap, ◌∙◌, subst, arith}
use Rattle.std.specs.List.{range_with_len}
use Rattle.std.proofs.lemmas.Bool.{cond-true, cond-false, cases_Bool, cases_eq, eq-eqb, ne_eqb}
use Rattle.heap_words.specs.declared.config.Config.{Config}
use Rattle.heap_words.specs.Words.{Word, Top, Heap}
use Rattle.heap_words.specs.Encoding.{refs_in, object_words}
use Rattle.heap_world.specs.Walk.{has}
use Rattle.heap_world.proofs.TakenDown.{has-range}
use Rattle.shen_graph.specs.Graph.{Graph}
use Rattle.heap_world.specs.World.{Plot, thing}
use Rattle.heap_world.proofs.Pointing.{piece_inside}
use Rattle.image_graph.specs.Held.{IsLedTo, from_root, from_field, IsAmong, AreHeldKept, HoldsGraph}
use Rattle.image_graph.specs.Full.{now_in, held_words, field_words, copies_of, held_in, kept_in}
use Rattle.image_graph.proofs.Reached.{held_is_reached}
use Rattle.image_graph.proofs.HeldFound.{has_map, map_has, range_has, roots_found, found_held, found_closed}

module _ (config : Config) (memory : Word → ℕ) (block : Plot) (graph : Graph)
    (graph_held : HoldsGraph config (λ any_region. memory (Top any_region)) (λ any_address. memory (Heap any_address)) block (now_in memory) (IsAmong (held_words config memory)) graph) where
  abbrev heap : ℕ → ℕ
  heap address = memory (Heap address)

  abbrev now : ℕ → ℕ
  now = now_in memory

  abbrev Held : ℕ → Type 0
  Held = IsLedTo now heap (IsAmong (held_words config memory))

  abbrev copy : ℕ → ℕ
  copy word = cond (word == 0) 0 (now word)

  abbrev fields : ℕ → List ℕ
  fields address = copies_of memory (field_words memory address)

  abbrev roots : List ℕ
  roots = copies_of memory (held_words config memory)

  -- what is held lies in the heap
  held_inside : (address : ℕ) → Held address → (config.region_words ≤ address) × (address < config.region_words + config.regions * config.region_words)
  held_inside address is_held =
      let held_reached = held_is_reached config (λ region. memory (Top region)) heap block now (IsAmong (held_words config memory)) graph graph_held address is_held in
      let address_inside = piece_inside config (λ region. memory (Top region)) block graph_held.plotted address (thing held_reached.0 held_reached.1 held_reached.2) held_reached.3 in
      (address_inside.0, omega (arith, address_inside.1))

  -- a copy that is an address is that of a word that is not null
  copy_of : (word target : ℕ) → target ≢ 0 → copy word ≡ target → (word ≢ 0) × (now word ≡ target)
  copy_of word target not_null copy_is = ⊎_elim
      (λ (null : word ≡ 0). absurd (not_null (sym copy_is ∙ cond-true (word == 0) 0 (now word) (eq-eqb word 0 null))))
      (λ (some_word : word ≢ 0). (some_word, sym (cond-false (word == 0) 0 (now word) (ne_eqb word 0 some_word)) ∙ copy_is))
      (cases_eq word 0)

  copied : (word : ℕ) → word ≢ 0 → copy word ≡ now word
  copied word some_word = cond-false (word == 0) 0 (now word) (ne_eqb word 0 some_word)

  -- the reference words of an object by their index
  abbrev field : ℕ → ℕ → ℕ
  field address index = heap (address + 3 + index)

  pub root_held : (target : ℕ) → target ≢ 0 → has roots target ≡ true → Held target
  root_held target not_null is_among =
      let root = has_map copy (held_words config memory) target is_among in
      let root_copied = copy_of root.0 target not_null root.2 in
      subst Held root_copied.1 (from_root root.0 root.1 root_copied.0)

  pub field_held : (address target : ℕ) → Held address → target ≢ 0 → has (fields address) target ≡ true → Held target
  field_held address target is_held not_null is_among =
      let word = has_map copy (field_words memory address) target is_among in
      let index = has_map (field address) (range_with_len 0 (refs_in (heap (address + 1)))) word.0 word.1 in
      let index_below = range_has 0 (refs_in (heap (address + 1))) index.0 index.1 in
      let field_copied = copy_of (field address index.0) target not_null (ap copy index.2 ∙ word.2) in
      subst Held field_copied.1 (from_field address index.0 is_held (omega (arith, index_below.1)) field_copied.0)

  pub held_is_found : (address : ℕ) → Held address → has (held_in config memory) address ≡ true
  held_is_found _ (from_root word is_among some_word) =
      let target_inside = held_inside (now word) (from_root word is_among some_word) in
      roots_found fields roots (config.regions * config.region_words) (now word) (omega (arith, target_inside.0, config.in_range.least_words))
      (ap (has roots) (sym (copied word some_word)) ∙ map_has copy (held_words config memory) word is_among)
  held_is_found _ (from_field address index holder_held few some_word) =
      let word = field address index in
      let target_inside = held_inside (now word) (from_field address index holder_held few some_word) in
      let is_among : has (field_words memory address) word ≡ true =
      map_has (field address) (range_with_len 0 (refs_in (heap (address + 1)))) index (has-range 0 (refs_in (heap (address + 1))) index (omega arith) (omega (arith, few))) in
      found_closed fields roots Held root_held field_held config.region_words (config.regions * config.region_words) held_inside address (now word) (held_is_found address holder_held)
      (omega (arith, target_inside.0, config.in_range.least_words))
      (ap (has (fields address)) (sym (copied word some_word)) ∙ map_has copy (field_words memory address) word is_among)

  pub found_is_held : (address : ℕ) → has (held_in config memory) address ≡ true → Held address
  found_is_held address is_among = found_held fields roots Held root_held field_held (config.regions * config.region_words) address is_among

  -- exactly the held objects are kept, by their words
  pub walk_keeps : AreHeldKept heap Held (kept_in config memory)
  walk_keeps = record {
    words = λ address is_held. cond-true (has (held_in config memory) address) (object_words (heap (address + 1))) 0 (held_is_found address is_held);
    only = λ any_address some_kept. ⊎_elim
        (λ (is_among : has (held_in config memory) any_address ≡ true). found_is_held any_address is_among)
        (λ (not_among : has (held_in config memory) any_address ≡ false).
        absurd (let is_zero : kept_in config memory any_address ≡ 0 = cond-false (has (held_in config memory) any_address) (object_words (heap (any_address + 1))) 0 not_among in omega (arith, is_zero, some_kept)))
        (cases_Bool (has (held_in config memory) any_address));
  }
