-- A root changes: a word is stored into it, and in the graph a reference.
use Rattle.std.proofs.Common.{◌≡◌, ℕ, ◌+◌, ◌<◌, true, false, ⊎_elim, refl, sym, subst, arith}
use Rattle.std.specs.Prelude.{◌==◌, ◌&&◌, if◌then◌else◌}
use Rattle.std.proofs.lemmas.Bool.{eq-eqb, cond-true, cond-false, cases_Bool}
use Rattle.std.proofs.lemmas.Bool.Decides.{nat_tests}
use Rattle.heap_words.specs.declared.config.Config.{Config}
use Rattle.heap_words.specs.Words.{Word, Root, write}
use Rattle.shen_graph.specs.Graph.{Reference}
use Rattle.heap_world.specs.World.{Plot, Points, IsUsable}

-- Words that stand for a mutator's roots do so after one of them became another, if the word of that one is another too.
pub roots_then : (block : Plot) (words : ℕ → ℕ) (root : ℕ → ℕ → Reference) (thread dst value : ℕ) (reference : Reference)
    → ((index : ℕ) → index < 16 → Points block (words index) (root thread index)) → Points block value reference
    → (index : ℕ) → index < 16 → Points block (if index == dst then value else words index) (if (thread == thread) && (index == dst) then reference else root thread index)
roots_then block words root thread dst value reference roots value_points index index_low =
    rw (eq-eqb thread thread refl)
    (elim (index == dst) as (λ is_stored. Points block (if is_stored then value else words index) (if is_stored then reference else root thread index)) [ true ↦ value_points | false ↦ roots index index_low ])

-- a mutator's roots, after a number was stored into one of them
pub root_written : (memory : Word → ℕ) (seat dst value index : ℕ) → (if index == dst then value else memory (Root seat index)) ≡ write memory (Root seat dst) value (Root seat index)
root_written memory seat dst value index =
    let turned : (dst == index) ≡ (index == dst) = grind (arith, nat_tests) in
    rw (eq-eqb seat seat refl, turned) refl

-- Words that stand for a mutator's roots do so after a reference was stored into one of them.
pub roots_written : (block : Plot) (memory : Word → ℕ) (root : ℕ → ℕ → Reference) (seat dst value : ℕ) (reference : Reference)
    → ((index : ℕ) → index < 16 → Points block (memory (Root seat index)) (root (seat + 1) index)) → Points block value reference → (index : ℕ) → index < 16
    → Points block (write memory (Root seat dst) value (Root seat index)) (if ((seat + 1) == (seat + 1)) && (index == dst) then reference else root (seat + 1) index)
roots_written block memory root seat dst value reference roots stands index index_low =
    subst (λ word. Points block word (if ((seat + 1) == (seat + 1)) && (index == dst) then reference else root (seat + 1) index)) (root_written memory seat dst value index)
    (roots_then block (λ index. memory (Root seat index)) root (seat + 1) dst value reference roots stands index index_low)

-- Words of a mutator's roots may be used after one that may be used was stored into one of them.
pub usable_written : (config : Config) (cset evac : ℕ) (block : Plot) (memory : Word → ℕ) (seat dst value : ℕ) → ((index : ℕ) → index < 16 → IsUsable config cset evac block (memory (Root seat index))) → IsUsable config cset evac block value → (index : ℕ) → index < 16
    → IsUsable config cset evac block (write memory (Root seat dst) value (Root seat index))
usable_written config cset evac block memory seat dst value usable new index index_low = subst (λ word. IsUsable config cset evac block word) (root_written memory seat dst value index) (⊎_elim
    (λ (same_index : (index == dst) ≡ true). subst (λ word. IsUsable config cset evac block word) (sym (cond-true (index == dst) value (memory (Root seat index)) same_index)) new)
    (λ (index_differs : (index == dst) ≡ false). subst (λ word. IsUsable config cset evac block word) (sym (cond-false (index == dst) value (memory (Root seat index)) index_differs)) (usable index index_low))
    (cases_Bool (index == dst)))
