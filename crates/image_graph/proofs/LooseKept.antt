-- The laws of settling and letting go, for both ways to represent a graph.
use Rattle.std.proofs.Common.{◌≡◌, ℕ, Some, inl, inr, refl, ap, ◌∙◌, arith}
use Rattle.heap_words.specs.declared.config.Config.{Config}
use Rattle.heap_words.specs.Encoding.{end_in}
use Rattle.heap_words.specs.Words.{Word, Cset, Evac, Top, Root}
use Rattle.shen_graph.specs.Graph.{Graph}
use Rattle.heap_world.specs.World.{thing, spare, Plot, IsUsable, AreUsable}
use Rattle.heap_world.specs.Asking.{Asking}
use Rattle.heap_world.specs.Represents.{RepresentsByCopies}
use Rattle.heap_world.proofs.Loose.{SameButLoose}
use Rattle.heap_world.proofs.Pieces.{some_words}
use Rattle.heap_world.proofs.Roomless.{only_spares}
use Rattle.image_graph.specs.LetGo.{let_go}
use Rattle.image_graph.specs.BuffersKeep.{SettlingKeeps, LettingGoKeeps, HasNoOtherBuffers, LastDivide, NoneHaveRoom}
use Rattle.image_graph.proofs.StandsStill.{IsOfRoots}
use Rattle.image_graph.proofs.BuffersKept.{settled_stands, let_go_stands, let_go_trims}
use Rattle.image_graph.proofs.Trimmed.{trim}
use Rattle.image_graph.proofs.Divided.{divided}

-- that roots may be used
abbrev Usable : Config → (Word → ℕ) → Plot → Type 0
Usable config memory block = AreUsable config (memory Cset) (memory Evac) block (λ mutator index. memory (Root mutator index))

-- a word may be used still where objects stay
usable_still : (config : Config) (cset evac : ℕ) (plot other_plot : Plot) → SameButLoose plot other_plot → (word : ℕ) → IsUsable config cset evac plot word → IsUsable config cset evac other_plot word
usable_still config cset evac plot other_plot same_but_loose word (inl null) = inl null
usable_still config cset evac plot other_plot same_but_loose word (inr target) = inr (target.0, target.1, target.2, record { piece = same_but_loose.stays word (thing target.0 target.1 target.2) refl target.3.piece; safe = target.3.safe })

usable_of_roots : (config : Config) → IsOfRoots (Usable config)
usable_of_roots config = record {
  refits = λ memory top heap current block usable. usable;
  stays = λ some_memory plot next_memory same_plot usable. λ mutator index index_below small. usable_still config (some_memory Cset) (some_memory Evac) plot next_memory same_plot (some_memory (Root mutator index)) (usable mutator index index_below small);
}

-- nothing is asked of them
nothing_of_roots : IsOfRoots (λ some_memory block. Unit {0})
nothing_of_roots = record { refits = λ memory top heap current block nothing_asked. nothing_asked; stays = λ some_memory plot next_plot same_plot nothing_asked. nothing_asked }

pub settling_keeps : (config : Config) (memory : Word → ℕ) (graph : Graph) (asking : ℕ → Asking) → SettlingKeeps config memory graph asking
settling_keeps config memory graph asking = record {
  represents = λ represented. settled_stands (Usable config) (usable_of_roots config) config graph asking memory represented;
  by_copies = λ represented. settled_stands (λ some_memory block. Unit {0}) nothing_of_roots config graph asking memory represented;
}

pub letting_go_keeps : (config : Config) (memory : Word → ℕ) (graph : Graph) (asking : ℕ → Asking) → HasNoOtherBuffers config memory → LettingGoKeeps config memory graph asking
letting_go_keeps config memory graph asking no_other_buffers = record {
  represents = λ represented. let_go_stands (Usable config) (usable_of_roots config) config graph asking memory no_other_buffers represented;
  by_copies = λ represented. let_go_stands (λ some_memory block. Unit {0}) nothing_of_roots config graph asking memory no_other_buffers represented;
}

-- Whatever seats there are, so it is but for buffers without free words.
pub trimmed_copies : (config : Config) (memory : Word → ℕ) (graph : Graph) (asking : ℕ → Asking) → RepresentsByCopies config memory graph asking → RepresentsByCopies config (trim (let_go config memory)) graph asking
trimmed_copies config memory graph asking represents_by_copies = let_go_trims (λ some_memory block. Unit {0}) nothing_of_roots config graph asking memory represents_by_copies

pub edges_divide : LastDivide
edges_divide config memory graph asking represents last_buffers = divided config memory represents.block represents.shared.parsable.plotted (some_words config (λ region. memory (Top region)) represents.block represents.shared.parsable represents.shared.owned.rooms) represents.shared.owned.buffers represents.uncarved represents.none
    (λ address seat words spare_there. represents.shared.owned.rooms.seated address seat (spare seat words) spare_there refl) last_buffers

pub none_have_room : NoneHaveRoom
none_have_room config memory graph asking represents no_buffers address seat seat_piece piece_there room =
    let only_spare = only_spares represents.block represents.none represents.uncarved address seat seat_piece piece_there room in
    let piece : represents.block address ≡ Some (spare seat only_spare.0) = piece_there ∙ ap Some only_spare.1 in
    let end = (represents.shared.owned.buffers.spares address seat only_spare.0 piece).1 in
    let spare_words = represents.shared.owned.rooms.spares address seat only_spare.0 piece in
    let zero_end = ap end_in (no_buffers seat (represents.shared.owned.rooms.seated address seat seat_piece piece_there room)) in
    omega (arith, end, spare_words, zero_end)
