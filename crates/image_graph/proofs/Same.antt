-- What is known of an image that did not change.
use Rattle.std.proofs.Common.{◌≡◌, ℕ, List, Bool, sym, ap, ◌∙◌, subst}
use Rattle.heap_words.specs.declared.config.Config.{Config}
use Rattle.heap_words.specs.Words.{Word, view}
use Rattle.heap_world.specs.Walk.{IsMarked}
use Rattle.image_graph.specs.declared.image.Image.{Image}
use Rattle.image_graph.specs.State.{config_of, words_of, memory_of, marks_of, found_of, IsUnchanged, AreFound}

pub memory_same : (image later_image : Image) → IsUnchanged image later_image → memory_of later_image ≡ memory_of image
memory_same image later_image unchanged = ap (λ (config : Config). view config (words_of later_image)) unchanged.config ∙ ap (view (config_of image)) unchanged.words

pub carried : (P : Config → (Word → ℕ) → Type 0) (image later_image : Image) → IsUnchanged image later_image → P (config_of image) (memory_of image) → P (config_of later_image) (memory_of later_image)
carried P image later_image unchanged holds =
    subst (λ (config : Config). P config (memory_of later_image)) (sym unchanged.config) (subst (P (config_of image)) (sym (memory_same image later_image unchanged)) holds)

pub both : (first_image second_image third_image : Image) → IsUnchanged first_image second_image → IsUnchanged second_image third_image → IsUnchanged first_image third_image
both image middle_image third_image unchanged unchanged_again = record { config = unchanged_again.config ∙ unchanged.config; words = unchanged_again.words ∙ unchanged.words }

-- what was found is found still where neither flags nor list change
pub found_same : (image later_image : Image) → config_of later_image ≡ config_of image → marks_of later_image ≡ marks_of image → found_of later_image ≡ found_of image → AreFound image → AreFound later_image
found_same image later_image config marks same_findings were_found =
    subst (λ (config : Config). IsMarked config.region_words (marks_of later_image) (found_of later_image)) (sym config)
    (subst (λ (flags : List Bool). IsMarked (config_of image).region_words flags (found_of later_image)) (sym marks) (subst (λ (order : List ℕ). IsMarked (config_of image).region_words (marks_of image) order) (sym same_findings) were_found))
