-- What an asking promises, as further objects of the graph: each thread's next object, blank.
use Rattle.std.proofs.Common.{◌≡◌, ℕ, ◌+◌, ◌-◌, ◌<◌, ◌&&◌, Bool, true, false, nat_le, Some, None, ⊎_elim, refl, sym, ap, ◌∙◌, arith}
use Rattle.std.specs.Prelude.{if◌then◌else◌}
use Rattle.std.proofs.lemmas.Bool.{cond-true, cond-false, cases_Bool, and_from, and_parts, le-leb, leb-true}
use Rattle.std.proofs.lemmas.Option.{none-some, same_Some}
use Rattle.heap_words.specs.declared.config.Config.{Config}
use Rattle.shen_graph.specs.declared.name.Name.{Name}
use Rattle.shen_graph.specs.Graph.{Graph, Reference, fresh}
use Rattle.heap_world.specs.Asking.{Asking, nothing, asks, refused, given}
use Rattle.image_graph.specs.Promised.{Promises}

-- the reference and the sizes that a thread is promised with an asking
abbrev pub promised_ref : Graph → (thread : ℕ) → Asking → Reference
promised_ref graph thread (given refs nums) = Some (fresh graph thread)
promised_ref graph thread _ = None

abbrev pub promised_refs : Asking → ℕ
promised_refs (given refs nums) = refs
promised_refs _ = 0

abbrev pub promised_nums : Asking → ℕ
promised_nums (given refs nums) = nums
promised_nums _ = 0

-- whether a number is a thread's
abbrev is_thread : Config → ℕ → Bool
is_thread config thread = nat_le 1 thread && nat_le thread config.mutators

-- what all threads are promised; the asking of thread t is that of mutator t - 1
abbrev pub promises_of : Config → Graph → (ℕ → Asking) → Promises
promises_of config graph asking = record {
  ref = λ thread. if is_thread config thread then promised_ref graph thread (asking (thread - 1)) else None;
  refs = λ mutator. promised_refs (asking (mutator - 1));
  nums = λ mutator. promised_nums (asking (mutator - 1));
}

module _ (config : Config) (graph : Graph) (asking : ℕ → Asking) where
  abbrev promises : Promises
  promises = promises_of config graph asking

  pub ref_of : (mutator : ℕ) → mutator < config.mutators → promises.ref (mutator + 1) ≡ promised_ref graph (mutator + 1) (asking mutator)
  ref_of mutator inside =
      cond-true (is_thread config (mutator + 1)) (promised_ref graph (mutator + 1) (asking (mutator + 1 - 1))) None
      (and_from (nat_le 1 (mutator + 1)) (nat_le (mutator + 1) config.mutators) (le-leb 1 (mutator + 1) (omega arith)) (le-leb (mutator + 1) config.mutators (omega (arith, inside))))
      ∙ ap (λ seat. promised_ref graph (mutator + 1) (asking seat)) (back mutator)
    where
      back : (seat : ℕ) → seat + 1 - 1 ≡ seat
      back seat = omega arith

  pub refs_of : (mutator : ℕ) → promises.refs (mutator + 1) ≡ promised_refs (asking mutator)
  refs_of mutator = let same_mutator : mutator + 1 - 1 ≡ mutator = omega arith in ap (λ seat. promised_refs (asking seat)) same_mutator

  pub nums_of : (mutator : ℕ) → promises.nums (mutator + 1) ≡ promised_nums (asking mutator)
  nums_of mutator = let same_mutator : mutator + 1 - 1 ≡ mutator = omega arith in ap (λ seat. promised_nums (asking seat)) same_mutator

  -- an asking that promises something was given it
  pub some_given : (thread : ℕ) (asking : Asking) (name : Name) → promised_ref graph thread asking ≡ Some name → (asking ≡ given (promised_refs asking) (promised_nums asking)) × (fresh graph thread ≡ name)
  some_given thread (given refs nums) name has_promise = (refl, same_Some (fresh graph thread) name has_promise)
  some_given thread nothing name has_promise = absurd (none-some name has_promise)
  some_given thread (asks refs nums) name has_promise = absurd (none-some name has_promise)
  some_given thread refused name has_promise = absurd (none-some name has_promise)

  -- what is promised is promised to a mutator, and is its next object
  pub promised_one : (thread : ℕ) (name : Name) → promises.ref thread ≡ Some name
      → (mutator : ℕ) × (mutator < config.mutators) × (thread ≡ mutator + 1) × (asking mutator ≡ given (promised_refs (asking mutator)) (promised_nums (asking mutator))) × (name ≡ fresh graph thread)
  promised_one thread name has_promise = ⊎_elim
      (λ (of_thread : is_thread config thread ≡ true).
      let both_tests = and_parts (nat_le 1 thread) (nat_le thread config.mutators) of_thread in
      let low = leb-true 1 thread both_tests.0 in
      let high = leb-true thread config.mutators both_tests.1 in
      let found = some_given thread (asking (thread - 1)) name (sym (cond-true (is_thread config thread) (promised_ref graph thread (asking (thread - 1))) None of_thread) ∙ has_promise) in
      (thread - 1, omega (arith, low, high), omega (arith, low), found.0, sym found.1))
      (λ (not_thread : is_thread config thread ≡ false). absurd (none-some name (sym (cond-false (is_thread config thread) (promised_ref graph thread (asking (thread - 1))) None not_thread) ∙ has_promise)))
      (cases_Bool (is_thread config thread))
