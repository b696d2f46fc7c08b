-- So many words of an image have been made 0.
use Rattle.std.proofs.Common.{◌≡◌, ◌<◌, ℕ, get_or}
use Rattle.image_graph.specs.declared.image.Image.{Image}
use Rattle.image_graph.specs.State.{config_of, words_of}
use Rattle.control.specs.Image.{image_in}

pub record IsCleared (old new : Image) (count : ℕ) : Type 0 where
  pub config : config_of new ≡ config_of old
  pub image : image_in new ≡ image_in old
  pub clear : (index : ℕ) → index < count → get_or (words_of new) index 0 ≡ 0
