-- A word that is set leaves what was found, and that lies in the heap.
use Rattle.std.proofs.Common.{◌≡◌, ℕ, slice_get, Some, sym, subst, arith}
use Rattle.heap_words.specs.declared.config.Config.{Config}
use Rattle.heap_words.specs.Words.{Heap, IsWord}
use Rattle.heap_world.specs.Walk.{IsMarked}
use Rattle.image_graph.proofs.HeldFound.{has_at}
use Rattle.image_graph.specs.declared.image.Image.{Image}
use Rattle.image_graph.specs.State.{config_of, marks_of, found_of, AreFound}

pub still_found : (image other_image : Image) → config_of other_image ≡ config_of image → marks_of other_image ≡ marks_of image → found_of other_image ≡ found_of image → AreFound image → AreFound other_image
still_found image other_image config marks same_found are_found =
    subst (λ (config : Config). IsMarked config.region_words (marks_of other_image) (found_of other_image)) (sym config)
    (subst (λ mark_list. IsMarked (config_of image).region_words mark_list (found_of other_image)) (sym marks)
    (subst (IsMarked (config_of image).region_words (marks_of image)) (sym same_found) are_found))

pub found_inside : (image : Image) (index address : ℕ) → AreFound image → slice_get (found_of image) index ≡ Some address → IsWord (config_of image) (Heap address)
found_inside image index address are_found address_found = let address_among = are_found.among address (has_at (found_of image) index address address_found) in (address_among.0, omega (arith, address_among.1, image.all_marks))
