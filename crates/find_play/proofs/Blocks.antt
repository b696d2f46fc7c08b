-- The loop over the blocks.
use Rattle.std.proofs.Common.{◌≡◌, ℕ, ◌+◌, ◌<◌, ◌≤◌, Bool, true, false, List, length, get_or, drop, refl, sym, ◌∙◌, add-one, drop-cons}
use Rattle.std.proofs.lemmas.List.{drop_all}
use Rattle.find_play.specs.declared.draft.Block.{Block}
use Rattle.find_play.specs.Drafts.{is_loop, has_loop}

pub loop_found : (piece : Block) (blocks : List Block) (index : ℕ) (whole_answer : Bool) → index < length blocks → true ≡ is_loop (get_or blocks index piece) → has_loop (drop index blocks) ≡ whole_answer → true ≡ whole_answer
unfolding has_loop
loop_found piece blocks index whole_answer index_below loop_here so_far =
    let one_step : has_loop (drop index blocks) ≡ true = rw (drop-cons blocks index piece, ← loop_here) refl in
    sym one_step ∙ so_far

pub loop_goes_on : (piece : Block) (blocks : List Block) (index : ℕ) (whole_answer : Bool) → index < length blocks → false ≡ is_loop (get_or blocks index piece) → has_loop (drop index blocks) ≡ whole_answer → has_loop (drop (index + 1) blocks) ≡ whole_answer
unfolding has_loop
loop_goes_on piece blocks index whole_answer index_below no_loop so_far =
    let one_step : has_loop (drop index blocks) ≡ has_loop (drop (index + 1) blocks) = rw (add-one, drop-cons blocks index piece, ← no_loop) refl in
    sym one_step ∙ so_far

pub loops_end : (blocks : List Block) (index : ℕ) (whole_answer : Bool) → length blocks ≤ index → has_loop (drop index blocks) ≡ whole_answer → false ≡ whole_answer
unfolding has_loop
loops_end blocks index whole_answer index_past so_far =
    let none_left : has_loop (drop index blocks) ≡ false = rw (drop_all index blocks index_past) refl in
    sym none_left ∙ so_far
