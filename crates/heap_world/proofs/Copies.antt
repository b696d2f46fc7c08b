-- What stays of evacuation where copies stay where they are, and what is said of it while there is no collection set.
use Rattle.std.proofs.Common.{◌≡◌, ◌≢◌, ℕ, ◌+◌, ◌<◌, ◌≤◌, Bool, false, true, Option, Some, zero, suc, ⊎_elim, refl, sym, ap, ◌∙◌, subst, arith}
use Rattle.std.proofs.lemmas.Bool.{cases_eq}
use Rattle.std.proofs.lemmas.Nat.Bits.{bit_at-zero}
use Rattle.heap_words.specs.declared.config.Config.{Config}
use Rattle.heap_words.specs.Ranges.{seat_count}
use Rattle.heap_words.specs.Words.{Cset, Evac, Top, Heap}
use Rattle.regions.specs.Sets.{IsIn}
use Rattle.regions.specs.Place.{region_with}
use Rattle.heap_words.specs.Counter.{is_out_of_room, IsQuiet}
use Rattle.shen_graph.specs.declared.name.Name.{Name}
use Rattle.heap_world.specs.World.{World, Block, thing, moved, spent, words_of, filling, Plot, Body, body_at, body_words, IsCollected, IsCounted, IsEvacuating, copiers}
use Rattle.heap_world.specs.Rely.{KeepsCopies, RelyCopies}
use Rattle.heap_world.proofs.Pointing.{copy_cases}

-- the empty set has no region
pub none_is_in : (region : ℕ) → IsIn 0 region → ⊥
none_is_in region region_in = omega (arith, bit_at-zero region, region_in)

-- so nothing lies in it
pub none_in_0 : (config : Config) (address : ℕ) → IsCollected config 0 address → ⊥
none_in_0 config address collected = none_is_in (region_with config address) collected

-- where current and old copies stay, copies stay
pub bodies_stay : (plot other_plot : Plot) → ((address refs nums : ℕ) (name : Name) → plot address ≡ Some (thing name refs nums) → other_plot address ≡ Some (thing name refs nums))
    → ((address refs nums target : ℕ) (name : Name) → plot address ≡ Some (moved name refs nums target) → other_plot address ≡ Some (moved name refs nums target))
    → (address : ℕ) (body : Body) → body_at (plot address) ≡ Some body → body_at (other_plot address) ≡ Some body
bodies_stay plot other_plot things moveds address body body_there = ⊎_elim
    (λ is_thing. ap body_at (things address body.refs body.nums body.name is_thing))
    (λ was_moved. ap body_at (moveds address body.refs body.nums was_moved.0 body.name was_moved.1))
    (copy_cases (plot address) body body_there)

-- What another seat relies on of evacuation, where no copy moves and the counter stays.
pub record CopiesStay (config : Config) (world other_world : World) : Type 0 where
  pub cset : other_world.memory Cset ≡ world.memory Cset
  pub evac : other_world.memory Evac ≡ world.memory Evac
  pub things : (address refs nums : ℕ) (name : Name) → world.block address ≡ Some (thing name refs nums) → other_world.block address ≡ Some (thing name refs nums)
  pub moveds : (address refs nums to : ℕ) (name : Name) → world.block address ≡ Some (moved name refs nums to) → other_world.block address ≡ Some (moved name refs nums to)
  pub spents : (address words to : ℕ) → world.block address ≡ Some (spent words to) → other_world.block address ≡ Some (spent words to)
  pub pieces : (address : ℕ) (piece : Block) → IsCollected config (world.memory Cset) address → world.block address ≡ Some piece → (other_piece : Block) × (other_world.block address ≡ Some other_piece) × (words_of other_piece ≡ words_of piece) × (filling other_piece ≡ filling piece)
  pub no_new : (address refs nums : ℕ) (name : Name) → IsCollected config (world.memory Cset) address → other_world.block address ≡ Some (thing name refs nums) → world.block address ≡ Some (thing name refs nums)
  pub tops : (region : ℕ) → IsIn (world.memory Cset) region → other_world.memory (Top region) ≡ world.memory (Top region)

pub keeps_copies : (config : Config) (world next_world : World) → CopiesStay config world next_world → KeepsCopies config world next_world
keeps_copies config world next_world stay = record {
  cset = stay.cset;
  bodies = bodies_stay world.block next_world.block stay.things stay.moveds;
  moveds = stay.moveds;
  spents = stay.spents;
  pieces = stay.pieces;
  no_new = stay.no_new;
  tops = stay.tops;
  out = λ held_before. ap is_out_of_room stay.evac ∙ held_before;
  quiet = λ held_before. subst IsQuiet (sym stay.evac) held_before;
}

-- where the plot is the same, copies stay
pub same_plot : (config : Config) (world next_world : World) → next_world.block ≡ world.block → next_world.memory Cset ≡ world.memory Cset → next_world.memory Evac ≡ world.memory Evac → ((region : ℕ) → IsIn (world.memory Cset) region → next_world.memory (Top region) ≡ world.memory (Top region))
    → CopiesStay config world next_world
same_plot config world next_world block cset evac tops = record {
  cset = cset;
  evac = evac;
  things = λ address refs nums name piece_there. ap (λ plot. plot address) block ∙ piece_there;
  moveds = λ address refs nums target name piece_there. ap (λ plot. plot address) block ∙ piece_there;
  spents = λ address words target piece_there. ap (λ plot. plot address) block ∙ piece_there;
  pieces = λ address piece inside piece_there. (piece, ap (λ plot. plot address) block ∙ piece_there, refl, refl);
  no_new = λ address refs nums name inside piece_there. sym (ap (λ plot. plot address) block) ∙ piece_there;
  tops = tops;
}

-- what another seat relies on then, where who copies and works is the same, and words of copies in the set stay while the seat copies
pub rely_copies : (config : Config) (world next_world : World) (seat : ℕ) → CopiesStay config world next_world → next_world.ghost.copying seat ≡ world.ghost.copying seat → next_world.ghost.working seat ≡ world.ghost.working seat
    → ((address offset : ℕ) (body : Body) → seat < seat_count config.mutators config.helpers → world.ghost.copying seat ≡ true → IsCollected config (world.memory Cset) address → body_at (world.block address) ≡ Some body
    → 1 ≤ offset → offset < body_words body → next_world.memory (Heap (address + offset)) ≡ world.memory (Heap (address + offset)))
    → RelyCopies config seat world next_world
rely_copies config world next_world seat stay copying working words = record { keeps = keeps_copies config world next_world stay; copying = copying; working = working; words = words }

-- nothing changes where nothing is written
pub same_copies : (config : Config) (world : World) (seat : ℕ) → RelyCopies config seat world world
same_copies config world seat = rely_copies config world world seat (same_plot config world world refl refl refl (λ region is_there. refl)) refl refl (λ address offset body seated counted inside is_there from offset_below. refl)

-- where nobody copies there is no copier
pub no_copiers : (copying : ℕ → Bool) (seats : ℕ) → ((seat : ℕ) → seat < seats → copying seat ≡ false) → copiers copying seats ≡ 0
unfolding copiers
no_copiers copying zero none_copying = refl
no_copiers copying (suc seats) none_copying =
    let rest : copiers copying seats ≡ 0 = no_copiers copying seats (λ seat seat_below. none_copying seat (omega (arith, seat_below))) in
    let last_idle : copying seats ≡ false = none_copying seats (omega arith) in
    rw (last_idle, rest) refl

-- who copies is counted
pub counted_one : (copying : ℕ → Bool) (seats seat : ℕ) → seat < seats → copying seat ≡ true → 1 ≤ copiers copying seats
unfolding copiers
counted_one copying zero seat seat_below seat_copies = absurd (omega (arith, seat_below))
counted_one copying (suc seats) seat seat_below seat_copies = ⊎_elim
    (λ (same_seat : seat ≡ seats). let last_copies : copying seats ≡ true = ap copying (sym same_seat) ∙ seat_copies in rw last_copies (omega arith))
    (λ (other_seat : seat ≢ seats). let rest = counted_one copying seats seat (omega (arith, seat_below, other_seat)) seat_copies in omega (arith, rest))
    (cases_eq seat seats)

-- so while a seat copies it is not so that nobody does
pub not_quiet : (config : Config) (evac : ℕ) (copying : ℕ → Bool) (seat : ℕ) → IsCounted config evac copying → seat < seat_count config.mutators config.helpers → copying seat ≡ true → IsQuiet evac → ⊥
not_quiet config evac copying seat counted seated seat_copies quiet =
    let some_copier = counted_one copying (seat_count config.mutators config.helpers) seat seated seat_copies in
    let counts = counted.counts in
    let nobody = quiet.nobody in
    omega (arith, some_copier, counts, nobody)

-- and the counter is right that is 0
pub counted_none : (config : Config) (copying : ℕ → Bool) → ((seat : ℕ) → seat < seat_count config.mutators config.helpers → copying seat ≡ false) → IsCounted config 0 copying
counted_none config copying none_copying = record { is_word = omega arith; counts = sym (no_copiers copying (seat_count config.mutators config.helpers) none_copying) }

-- While there is no collection set, nothing is said of evacuation but that no copy is old and nobody copies.
pub none_evacuated : (config : Config) (phase claim free : ℕ) (top tams heap black : ℕ → ℕ) (block : Plot) (owner : ℕ → Option ℕ) (copying : ℕ → Bool) (working : ℕ → Option ℕ)
    → (2 ≤ phase → ⊥) → ((address refs nums target : ℕ) (name : Name) → block address ≡ Some (moved name refs nums target) → ⊥) → ((address words target : ℕ) → block address ≡ Some (spent words target) → ⊥)
    → ((seat : ℕ) → seat < seat_count config.mutators config.helpers → copying seat ≡ false)
    → IsEvacuating config phase 0 0 claim free top tams heap black block owner copying working
none_evacuated config phase claim free top tams heap black block owner copying working too_early moveds spents none_copying = record {
  moved = record {
    moveds = λ address refs nums target name is_there. absurd (moveds address refs nums target name is_there);
    spents = λ address words target is_there. absurd (spents address words target is_there);
  };
  counted = counted_none config copying none_copying;
  aside = record {
    in_heap = λ region is_there. absurd (none_is_in region is_there);
    in_use = λ region is_free is_there. none_is_in region is_there;
    nobodys = λ region seat owned is_there. none_is_in region is_there;
    no_new = λ region is_there. absurd (none_is_in region is_there);
    no_promises = λ address seat words is_there inside. none_in_0 config address inside;
    no_rooms = λ address seat piece is_there room inside. none_in_0 config address inside;
  };
  kept = λ phase_on. absurd (too_early phase_on);
  units = λ phase_on. absurd (too_early (omega (arith, phase_on)));
}
