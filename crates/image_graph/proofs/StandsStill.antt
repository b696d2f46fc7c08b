-- What stands while buffers are settled or let go: words represent the graph still, by pieces of which all but loose ones are the same.
use Rattle.std.proofs.Common.{◌≡◌, ℕ, ◌+◌, ◌<◌, Some, refl, ◌∙◌}
use Rattle.heap_words.specs.declared.config.Config.{Config}
use Rattle.heap_words.specs.Words.{Word, Root, Heap}
use Rattle.shen_graph.specs.Graph.{Graph}
use Rattle.heap_world.specs.World.{World, hand, promised, carved, Plot, Shared}
use Rattle.heap_world.specs.Asking.{Asking, nothing, asks, refused, given, IsAsked}
use Rattle.heap_world.specs.Represents.{RepresentsWith}
use Rattle.heap_world.proofs.Keeping.{points_stay}
use Rattle.heap_world.proofs.Loose.{SameButLoose, names_stay}
use Rattle.image_graph.proofs.Refitted.{refitted}

-- What is asked of the root words besides does not speak of tops, buffers or the heap, and stays where all pieces but loose ones do.
pub record IsOfRoots (Asks : (Word → ℕ) → Plot → Type 0) : Type 0 where
  pub refits : (memory : Word → ℕ) (top heap current : ℕ → ℕ) (block : Plot) → Asks memory block → Asks (refitted memory top heap current) block
  pub stays : (memory : Word → ℕ) (plot other_plot : Plot) → SameButLoose plot other_plot → Asks memory plot → Asks memory other_plot

module _ (Asks : (Word → ℕ) → Plot → Type 0) (of_roots : IsOfRoots Asks) (config : Config) (memory : Word → ℕ) (graph : Graph) (asking : ℕ → Asking) (represents_with : RepresentsWith (Asks memory) config memory graph asking) where
  -- the world that there is
  abbrev pub standing : World
  standing = record { memory = memory; block = represents_with.block; ghost = represents_with.ghost; graph = graph }

  -- Other pieces, tops, words of the heap and buffers, where what is shared stands with them, no room comes, and promised objects keep their words.
  module _ (top heap current : ℕ → ℕ) (block : Plot) (same_shared : SameButLoose represents_with.block block)
      (hands : (promised_address seat words : ℕ) → block promised_address ≡ Some (hand seat words) → represents_with.block promised_address ≡ Some (hand seat words))
      (carveds : (promised_address seat words : ℕ) → block promised_address ≡ Some (carved seat words) → represents_with.block promised_address ≡ Some (carved seat words))
      (promised_kept : (promised_address offset seat words : ℕ) → represents_with.block promised_address ≡ Some (promised seat words) → offset < words → heap (promised_address + offset) ≡ memory (Heap (promised_address + offset)))
      (shared : Shared config (record { memory = refitted memory top heap current; block = block; ghost = represents_with.ghost; graph = graph })) where
    -- who waits has asked for what it had
    asked_still : (seat : ℕ) (asking : Asking) → IsAsked memory represents_with.block graph.count seat asking → IsAsked (refitted memory top heap current) block graph.count seat asking
    asked_still seat nothing asked_before = (asked_before.0, asked_before.1, λ promised_address words piece_there. asked_before.2 promised_address words (same_shared.came promised_address (promised seat words) refl piece_there))
    asked_still seat (asks refs nums) asked_before = (
      record { wait_is = asked_before.0.wait_is; few_refs = asked_before.0.few_refs; few_nums = asked_before.0.few_nums; few = asked_before.0.few },
      asked_before.1,
      λ promised_address words piece_there. asked_before.2 promised_address words (same_shared.came promised_address (promised seat words) refl piece_there),
    )
    asked_still seat refused asked_before = (asked_before.0, asked_before.1, λ promised_address words piece_there. asked_before.2 promised_address words (same_shared.came promised_address (promised seat words) refl piece_there))
    asked_still seat (given refs nums) asked_before = (
      asked_before.0,
      asked_before.1,
      record {
        here = same_shared.stays _ (promised seat (3 + refs + nums)) refl asked_before.2.here;
        words = λ asking index_below. promised_kept _ asking seat (3 + refs + nums) asked_before.2.here index_below ∙ asked_before.2.words asking index_below;
        only = λ asked_address other_words piece_there. asked_before.2.only asked_address other_words (same_shared.came asked_address (promised seat other_words) refl piece_there);
        few_refs = asked_before.2.few_refs;
        few_nums = asked_before.2.few_nums;
        few = asked_before.2.few;
      },
    )

    pub stands_still : RepresentsWith (Asks (refitted memory top heap current)) config (refitted memory top heap current) graph asking
    stands_still = record {
      block = block;
      ghost = represents_with.ghost;
      shared = shared;
      roots = λ mutator index seat_below small. points_stay represents_with.block block (names_stay config represents_with.block block same_shared) (memory (Root mutator index)) (graph.root (mutator + 1) index) (represents_with.roots mutator index seat_below small);
      usable = of_roots.refits memory top heap current block (of_roots.stays memory represents_with.block block same_shared represents_with.usable);
      none = λ promised_address seat words piece_there. represents_with.none promised_address seat words (hands promised_address seat words piece_there);
      uncarved = λ address seat words piece_there. represents_with.uncarved address seat words (carveds address seat words piece_there);
      asked = λ seat seat_below. asked_still seat (asking seat) (represents_with.asked seat seat_below);
      heard = represents_with.heard;
      promised_to = λ promised_address seat words piece_there. represents_with.promised_to promised_address seat words (same_shared.came promised_address (promised seat words) refl piece_there);
      unmarking = represents_with.unmarking;
      uncopying = represents_with.uncopying;
      no_more = represents_with.no_more;
      no_more_pins = represents_with.no_more_pins;
    }
