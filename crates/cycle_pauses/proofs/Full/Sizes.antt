-- Each piece says how many words it has: objects and old copies by their shape word, and words that only fill by their header.
use Rattle.std.proofs.Common.{◌≡◌, ℕ, ◌+◌, ◌%◌, Option, false, Some, ap, ◌∙◌, sym, arith}
use Rattle.std.proofs.lemmas.Bool.{ne_eqb, true≢false}
use Rattle.heap_words.specs.declared.config.Config.{Config}
use Rattle.heap_words.specs.Words.{Word, Cset, Heap}
use Rattle.heap_words.specs.Encoding.{header_word, object_words}
use Rattle.regions.specs.Walk.{is_filler}
use Rattle.shen_graph.specs.declared.name.Name.{Name}
use Rattle.shen_graph.specs.Graph.{Object}
use Rattle.heap_world.specs.World.{Block, thing, moved, spent, promised, dead, words_of, is_loose, Plot, AreObjects, AreUnwritten, HaveMoved}
use Rattle.image_graph.proofs.Reached.{words_read}
use Rattle.image_graph.specs.Holds.{AreSized}

-- a header that leads on is not one of words that only fill
led_no_filler : (header moved_to : ℕ) → header ≡ header_word moved_to → is_filler header ≡ false
led_no_filler header moved_to header_leads = ne_eqb (header % 4) 2 (λ filler_tag. omega (arith, header_leads, filler_tag))

module _ (config : Config) (memory : Word → ℕ) (block : Plot) (object : Name → Option Object) (objects : AreObjects (λ heap_address. memory (Heap heap_address)) block object) (unwritten : AreUnwritten (λ heap_address. memory (Heap heap_address)) block)
    (moves : HaveMoved config (memory Cset) (λ heap_address. memory (Heap heap_address)) block) where
  size_of : (address : ℕ) (piece : Block) → block address ≡ Some piece → is_loose piece ≡ false → object_words (memory (Heap (address + 1))) ≡ words_of piece
  size_of address (thing name refs nums) has_piece fixed =
      let object_stands = objects.each address refs nums name has_piece in
      ap object_words object_stands.2.shape ∙ words_read refs nums object_stands.2.few_refs object_stands.2.few_nums
  size_of address (moved name refs nums moved_to) has_piece fixed =
      let old_copy = moves.moveds address refs nums moved_to name has_piece in
      ap object_words old_copy.shape ∙ words_read refs nums old_copy.few_refs old_copy.few_nums
  size_of address (spent words moved_to) has_piece fixed = (moves.spents address words moved_to has_piece).shape
  size_of address (promised seat words) has_piece fixed =
      let blank = unwritten.blanks address seat words has_piece in
      ap object_words blank.shape ∙ words_read blank.refs blank.nums blank.few_refs blank.few_nums ∙ sym blank.long
  size_of address (dead words) has_piece fixed = unwritten.lengths address words has_piece
  size_of address _ has_piece fixed = absurd (true≢false fixed)

  header_at : (address : ℕ) (piece : Block) → block address ≡ Some piece → is_loose piece ≡ false → is_filler (memory (Heap address)) ≡ false
  header_at address (thing name refs nums) has_piece fixed = ap is_filler (objects.each address refs nums name has_piece).2.header
  header_at address (moved name refs nums moved_to) has_piece fixed = led_no_filler (memory (Heap address)) moved_to (moves.moveds address refs nums moved_to name has_piece).header
  header_at address (spent words moved_to) has_piece fixed = led_no_filler (memory (Heap address)) moved_to (moves.spents address words moved_to has_piece).header
  header_at address (promised seat words) has_piece fixed = ap is_filler (unwritten.blanks address seat words has_piece).header
  header_at address (dead words) has_piece fixed = ap is_filler (unwritten.headers address words has_piece)
  header_at address _ has_piece fixed = absurd (true≢false fixed)

  pub pieces_sized : AreSized memory block
  pieces_sized = record { objects = size_of; headers = header_at; fillers = unwritten.fillers }
