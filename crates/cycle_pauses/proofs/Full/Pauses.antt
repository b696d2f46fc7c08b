-- A full collection does what a pause owes.
use Rattle.std.proofs.Common.{◌≡◌, ℕ, refl, sym, ap, subst}
use Rattle.std.proofs.Math.Path.{fun_ext}
use Rattle.heap_words.specs.declared.config.Config.{Config}
use Rattle.heap_words.specs.Words.{Word, Pause, Left, End, State, Phase, Cset, Free, Evac, Claim, Ask, Top, Tams, Limit, Current, Root, Pin, Count, Buffer, Wait, Answer, Grey, Black, Heap, Share}
use Rattle.shen_graph.specs.Graph.{Graph}
use Rattle.heap_world.specs.Asking.{Asking}
use Rattle.heap_world.specs.Change.{image_view, IsPaused}
use Rattle.heap_world.specs.Represents.{RepresentsByCopies}
use Rattle.image_graph.specs.LetGo.{let_go, HasNoBuffers}
use Rattle.image_graph.proofs.LettingGo.{letting_go_leaves}
use Rattle.image_graph.proofs.Refitted.{currents_of}
use Rattle.image_graph.proofs.Trimmed.{trim, trimmed_none}
use Rattle.image_graph.proofs.LooseKept.{trimmed_copies}
use Rattle.image_graph.specs.Full.{moved_heap, packed, packed_in, served, refused, full_from, full}
use Rattle.cycle_pauses.specs.Full.Laws.{RepresentingHolds, ImageIsFull, TableIsFull, FullFromCopies, FullIsPause}
use Rattle.cycle_pauses.proofs.Full.ByCopies.{by_copies}
use Rattle.cycle_pauses.proofs.Full.Holding.{holds_some, holds_sized}
use Rattle.cycle_pauses.proofs.Full.SameGraph.{asked_then}
use Rattle.cycle_pauses.proofs.Full.Answered.{is_answer, represents_again}
use Rattle.cycle_pauses.proofs.Full.Crowds.{is_crowded}
use Rattle.cycle_pauses.proofs.Full.Images.{image_length, image_is_full, table_is_full}

-- What a pause owes says nothing of the words before it but that they stand for the graph.
pub paused_from : (config : Config) (before before_settling after : Word → ℕ) (graph : Graph) (asking : ℕ → Asking) → IsPaused config before after graph asking → IsPaused config before_settling after graph asking
paused_from config before before_settling after graph asking paused = record { asked_then = paused.asked_then; stands = paused.stands; answers = paused.answers; crowded = paused.crowded }

-- once buffers were let go
pub let_go_paused : (config : Config) (memory : Word → ℕ) (graph : Graph) (asking : ℕ → Asking) → RepresentsByCopies config memory graph asking → HasNoBuffers config memory → IsPaused config memory (full_from config memory) graph asking
let_go_paused config memory graph asking represents_by_copies bare = record {
  asked_then = asked_then config memory graph asking represents_by_copies;
  stands = represents_again config memory graph asking represents_by_copies bare;
  answers = λ mutator inside. is_answer (asking mutator) _;
  crowded = λ mutator refs nums inside asks_now refused. is_crowded config memory graph asking represents_by_copies mutator refs nums inside asks_now refused;
}

-- packing reads no buffer
packed_trimmed : (config : Config) (memory : Word → ℕ) (word : Word) → packed_in config (trim memory) word ≡ packed_in config memory word
unfolding packed moved_heap
packed_trimmed config memory Ask = refl
packed_trimmed config memory Phase = refl
packed_trimmed config memory Cset = refl
packed_trimmed config memory Claim = refl
packed_trimmed config memory Evac = refl
packed_trimmed config memory Free = refl
packed_trimmed config memory (Top region) = refl
packed_trimmed config memory (Tams region) = refl
packed_trimmed config memory (Limit region) = refl
packed_trimmed config memory (Heap address) = refl
packed_trimmed config memory (Root mutator index) = refl
packed_trimmed config memory (Answer mutator) = refl
packed_trimmed config memory (Pin mutator slot) = refl
packed_trimmed config memory Pause = refl
packed_trimmed config memory Left = refl
packed_trimmed config memory End = refl
packed_trimmed config memory (State seat) = refl
packed_trimmed config memory (Current seat) = refl
packed_trimmed config memory (Count mutator) = refl
packed_trimmed config memory (Buffer mutator entry) = refl
packed_trimmed config memory (Wait mutator) = refl
packed_trimmed config memory (Grey number) = refl
packed_trimmed config memory (Black number) = refl
packed_trimmed config memory Share = refl

-- So a full collection is a pause, whatever buffers without free words there are.
pub paused : (config : Config) (memory : Word → ℕ) (graph : Graph) (asking : ℕ → Asking) → RepresentsByCopies config memory graph asking → IsPaused config memory (full config memory) graph asking
paused config memory graph asking represents_by_copies =
    subst (λ after. IsPaused config memory after graph asking) (ap (λ (memory : Word → ℕ). refused (served config memory config.mutators)) (fun_ext (packed_trimmed config (let_go config memory))))
    (paused_from config (trim (let_go config memory)) memory (full_from config (trim (let_go config memory))) graph asking (let_go_paused config (trim (let_go config memory)) graph asking (trimmed_copies config memory graph asking represents_by_copies)
    (λ seat seat_below. trimmed_none (currents_of (let_go config memory)) seat (letting_go_leaves config memory seat seat_below))))

pub from_copies : FullFromCopies
from_copies = paused

pub representing_holds : RepresentingHolds
representing_holds config memory graph asking represents = holds_sized config memory graph asking (by_copies config memory graph asking represents)

pub is_full : ImageIsFull
is_full config image whole_image holds = image_is_full config image holds

pub is_whole : TableIsFull
is_whole config image table whole_image whole_table holds same_view = table_is_full config image table whole_table holds same_view

pub full_is_pause : FullIsPause
full_is_pause = record {
  long = λ config image whole_image. image_length config image;
  pauses = λ given_config image graph asking whole_image represents due.
      subst (λ after. IsPaused given_config (image_view given_config image) after graph asking) (sym (image_is_full given_config image (holds_some given_config (image_view given_config image) graph asking (by_copies given_config (image_view given_config image) graph asking represents))))
      (paused given_config (image_view given_config image) graph asking (by_copies given_config (image_view given_config image) graph asking represents));
}
