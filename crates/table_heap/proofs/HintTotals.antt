-- How many hints the machines in memory have taken.
use Rattle.std.proofs.Common.{◌≡◌, ℕ, zero, suc, ◌+◌, ◌<◌, ◌≤◌, List, [], ◌∷◌, length, take, get_or, Option, Some, None, refl, sym, ap, ◌∙◌, arith}
use Rattle.std.specs.Prelude.{sum_by, min}
use Rattle.std.proofs.lemmas.List.Sums.{sum_by-cons}
use Rattle.shared_table.specs.Views.{View, whole, kept_in_view}
use Rattle.heap_machines.specs.declared.machine.Machine as memory
use Rattle.heap_machines.specs.Shown.{shown}
use Rattle.step_core.specs.Actor.{Machine, Actor}
use Rattle.step_core.specs.Machines.{hints_of}
use Rattle.table_heap.specs.Core.{machine_in}
use Rattle.table_heap.specs.Hinted.{actor_hints, place_hints}

-- those of all places
abbrev pub total : View memory.Machine → ℕ
total [] = 0
total (x ∷ xs) = place_hints x + total xs

pub total_next : (view : View memory.Machine) (index : ℕ) (default : Option memory.Machine) → index < length view → total (take (suc index) view) ≡ total (take index view) + place_hints (get_or view index default)
total_next [] index default index_below = absurd (omega (arith, index_below))
total_next (x ∷ xs) zero default index_below = omega arith
total_next (x ∷ xs) (suc index) default index_below = let rest_total = total_next xs index default (omega (arith, index_below)) in omega (arith, rest_total)

pub total_all : (view : View memory.Machine) (n : ℕ) → length view ≤ n → total (take n view) ≡ total view
total_all [] zero all_taken = refl
total_all [] (suc n) all_taken = refl
total_all (x ∷ xs) zero all_taken = absurd (omega (arith, all_taken))
total_all (x ∷ xs) (suc n) all_taken = ap (λ hint_count. place_hints x + hint_count) (total_all xs n (omega (arith, all_taken)))

-- the same as the events see them
abbrev seen_total : View Machine → ℕ
seen_total [] = 0
seen_total (None ∷ xs) = seen_total xs
seen_total (Some machine ∷ xs) = hints_of machine + seen_total xs

total_seen : (view : View memory.Machine) → total view ≡ seen_total (kept_in_view shown view)
total_seen [] = refl
total_seen (None ∷ xs) = let rest_total = total_seen xs in omega (arith, rest_total)
total_seen (Some machine ∷ xs) = ap (λ hint_count. hints_of (shown machine) + hint_count) (total_seen xs)

seen_whole : (actors : List Actor) → seen_total (kept_in_view machine_in (whole actors)) ≡ sum_by actor_hints actors
seen_whole [] = refl
seen_whole (actor ∷ rest) = ap (λ hint_count. hints_of actor.machine + hint_count) (seen_whole rest) ∙ sym (sum_by-cons actor_hints actor rest)

pub total_of : (view : View memory.Machine) (actors : List Actor) → kept_in_view shown view ≡ kept_in_view machine_in (whole actors) → total view ≡ sum_by actor_hints actors
total_of view actors same_view = total_seen view ∙ ap seen_total same_view ∙ seen_whole actors

-- one place more, up to a greatest number
pub capped_next : (view : View memory.Machine) (index most taken : ℕ) (machine : Option memory.Machine) → index < length view → machine ≡ get_or view index machine → taken ≡ min (total (take index view)) most → min (taken + place_hints machine) most ≡ min (total (take (index + 1) view)) most
capped_next view index most taken machine index_below machine_is so_far =
    let next_total : total (take (suc index) view) ≡ total (take index view) + place_hints machine = total_next view index machine index_below ∙ ap (λ machine_there. total (take index view) + place_hints machine_there) (sym machine_is) in
    let next_index : index + 1 ≡ suc index = omega arith in
    ap (λ hint_count. min (hint_count + place_hints machine) most) so_far ∙ min_twice (total (take index view)) (place_hints machine) most ∙ ap (λ hint_count. min hint_count most) (sym next_total) ∙ ap (λ n. min (total (take n view)) most) (sym next_index)
  where
    min_twice : (a b n : ℕ) → min (min a n + b) n ≡ min (a + b) n
    min_twice a b n = omega arith
