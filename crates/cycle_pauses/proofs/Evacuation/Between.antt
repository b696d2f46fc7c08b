-- What holds of the words in the pause that begins evacuation, between two objects that are copied: roots and answers aside.
use Rattle.std.proofs.Common.{◌≡◌, ℕ, ◌<◌, ◌≤◌, ◌⊎◌, Option, Some, None, refl, ap}
use Rattle.heap_words.specs.declared.config.Config.{Config}
use Rattle.heap_words.specs.Words.{Word, Cset, Free, Top, Tams, Current, Black, Heap, Share}
use Rattle.regions.specs.Sets.{IsIn}
use Rattle.shen_graph.specs.declared.name.Name.{Name}
use Rattle.shen_graph.specs.Graph.{Graph}
use Rattle.regions.specs.Marks.{HasMark}
use Rattle.heap_world.specs.World.{Block, thing, moved, spent, hand, promised, dead, filler, carved, words_of, room_of, Plot, name_at, IsCollected, IsParsable, HasContents, AreOwned, AreUnwritten, HaveMoved, IsMarkable, IsYoung, AreYoungRooms, AreRoomsOutside, HasCopy, body_at}

-- As in any pause of evacuation, but that objects which are promised may still lie in the collection set.
pub record IsBetween (config : Config) (share cset free : ℕ) (top tams heap black current : ℕ → ℕ) (block : Plot) (owner : ℕ → Option ℕ) (graph : Graph) : Type 0 where
  pub parsable : IsParsable config top block
  pub contents : HasContents config heap block graph.object graph.count
  pub owned : AreOwned config top share free cset current block owner
  pub unwritten : AreUnwritten heap block
  pub moves : HaveMoved config cset heap block
  pub unheld : (address seat words : ℕ) → block address ≡ Some (hand seat words) → ⊥
  pub uncarved : (address seat words : ℕ) → block address ≡ Some (carved seat words) → ⊥
  pub no_rooms : AreRoomsOutside config cset block
  pub promised_to : (address seat words : ℕ) → block address ≡ Some (promised seat words) → seat < config.mutators
  pub in_heap : (region : ℕ) → IsIn cset region → region < config.regions
  pub used : (region : ℕ) → IsIn free region → IsIn cset region → ⊥
  pub nobodys : (region seat : ℕ) → owner region ≡ Some seat → IsIn cset region → ⊥
  pub no_new : (region : ℕ) → IsIn cset region → top region ≡ tams region
  pub marked : (address : ℕ) → IsMarkable block address → HasMark config black address ⊎ IsYoung config tams address
  pub young : AreYoungRooms config tams block
  pub floors : (region : ℕ) → region < config.regions → tams region ≤ top region
  pub unmarked : (address words : ℕ) → block address ≡ Some (dead words) → HasMark config black address → ⊥
  pub deads : (address words : ℕ) → block address ≡ Some (dead words) → IsYoung config tams address → ⊥
  pub only : (address : ℕ) → config.region_words ≤ address → HasMark config black address → IsCollected config cset address → IsMarkable block address ⊎ HasCopy block address

-- so it is of words
abbrev pub AreBetween : Config → (Word → ℕ) → Plot → (ℕ → Option ℕ) → Graph → Type 0
AreBetween config memory block owner graph =
    IsBetween config (memory Share) (memory Cset) (memory Free) (λ region. memory (Top region)) (λ region. memory (Tams region)) (λ address. memory (Heap address)) (λ number. memory (Black number)) (λ seat. memory (Current seat)) block owner graph

-- a piece that is copied: an object of the graph, or one that is promised
abbrev pub IsLive : Block → Type 0
IsLive (thing name refs nums) = Unit {0}
IsLive (promised seat words) = Unit {0}
IsLive _ = ⊥

-- what is left of it where it was
abbrev pub old_of : Block → ℕ → Block
old_of (thing name refs nums) copy_address = moved name refs nums copy_address
old_of (moved name refs nums moved_to) copy_address = moved name refs nums copy_address
old_of piece copy_address = spent (words_of piece) copy_address

pub old_words : (piece : Block) (copy_address : ℕ) → words_of (old_of piece copy_address) ≡ words_of piece
old_words (thing name refs nums) copy_address = refl
old_words (moved name refs nums moved_to) copy_address = refl
old_words _ copy_address = refl

pub old_name : (piece : Block) (copy_address : ℕ) → IsLive piece → name_at (Some (old_of piece copy_address)) ≡ name_at (Some piece)
old_name (thing name refs nums) copy_address live = refl
old_name (promised seat words) copy_address live = refl
old_name _ copy_address live = absurd live

-- an old copy is none of these
pub old_is_old : (piece : Block) (copy_address : ℕ) → ((name : Name) (refs nums : ℕ) → old_of piece copy_address ≡ thing name refs nums → ⊥) × ((seat words : ℕ) → old_of piece copy_address ≡ promised seat words → ⊥)
    × (room_of (old_of piece copy_address) ≡ None) × ((words : ℕ) → old_of piece copy_address ≡ dead words → ⊥) × ((words : ℕ) → old_of piece copy_address ≡ filler words → ⊥)
old_is_old (thing piece_name piece_refs piece_nums) copy_address = (λ name refs nums same_piece. cc, λ seat words same_piece. cc, refl, λ words same_piece. cc, λ words same_piece. cc)
old_is_old (moved piece_name piece_refs piece_nums moved_to) copy_address = (λ name refs nums same_piece. cc, λ seat words same_piece. cc, refl, λ words same_piece. cc, λ words same_piece. cc)
old_is_old _ copy_address = (λ name refs nums same_piece. cc, λ seat words same_piece. cc, refl, λ words same_piece. cc, λ words same_piece. cc)

-- where it is one of an object, the object was there; where it is one of an object that was promised, that was
pub was_thing : (piece : Block) (copy_address : ℕ) → IsLive piece → (name : Name) (refs nums moved_to : ℕ) → old_of piece copy_address ≡ moved name refs nums moved_to → (piece ≡ thing name refs nums) × (moved_to ≡ copy_address)
was_thing (thing piece_name piece_refs piece_nums) copy_address live name refs nums moved_to same_piece = (cc, cc)
was_thing (promised seat words) copy_address live name refs nums moved_to same_piece = cc
was_thing _ copy_address live name refs nums moved_to same_piece = absurd live

pub was_promised : (piece : Block) (copy_address : ℕ) → IsLive piece → (words moved_to : ℕ) → old_of piece copy_address ≡ spent words moved_to → (seat : ℕ) × (piece ≡ promised seat words) × (moved_to ≡ copy_address)
was_promised (thing name refs nums) copy_address live words moved_to same_piece = cc
was_promised (promised seat piece_words) copy_address live words moved_to same_piece = (seat, cc, cc)
was_promised _ copy_address live words moved_to same_piece = absurd live

-- a live piece is none of these
pub live_is_live : (piece : Block) → IsLive piece → ((name : Name) (refs nums moved_to : ℕ) → piece ≡ moved name refs nums moved_to → ⊥) × ((words moved_to : ℕ) → piece ≡ spent words moved_to → ⊥)
    × (room_of piece ≡ None) × ((words : ℕ) → piece ≡ dead words → ⊥) × ((words : ℕ) → piece ≡ filler words → ⊥)
live_is_live (thing piece_name piece_refs piece_nums) live = (λ name refs nums moved_to same_piece. cc, λ words moved_to same_piece. cc, refl, λ words same_piece. cc, λ words same_piece. cc)
live_is_live (promised seat piece_words) live = (λ name refs nums moved_to same_piece. cc, λ words moved_to same_piece. cc, refl, λ words same_piece. cc, λ words same_piece. cc)
live_is_live _ live = absurd live

-- it may be marked, and what is left of it is a copy
pub live_markable : (block : Plot) (address : ℕ) (piece : Block) → IsLive piece → block address ≡ Some piece → IsMarkable block address
live_markable block address (thing name refs nums) live has_piece = IsMarkable.object name refs nums has_piece
live_markable block address (promised seat words) live has_piece = IsMarkable.to_come seat words has_piece
live_markable block address _ live has_piece = absurd live

pub old_has_copy : (block : Plot) (address copy_address : ℕ) (piece : Block) → IsLive piece → block address ≡ Some (old_of piece copy_address) → HasCopy block address
old_has_copy block address copy_address (thing name refs nums) live has_old = HasCopy.copy (record { name = name; refs = refs; nums = nums }) (ap body_at has_old)
old_has_copy block address copy_address (promised seat words) live has_old = HasCopy.spent_copy words copy_address has_old
old_has_copy block address copy_address _ live has_old = absurd live
