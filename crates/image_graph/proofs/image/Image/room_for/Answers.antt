use Rattle.std.proofs.Common.{◌≡◌, ℕ, ◌<◌, slice_index, sym, subst}
use Rattle.heap_words.specs.declared.config.Config.{Config}
use Rattle.heap_words.specs.Words.{Top}
use Rattle.regions.specs.ServedRooms.{lowest_room}
use Rattle.image_graph.specs.State.{memory_of}
use Rattle.image_graph.specs.Make.{AreWithin}
use Rattle.image_graph.proofs.Room.{room_found}
use Rattle.image_graph.proofs.image.Image.room_for.Goals as goal

pub returns : goal.returns
returns c =
    let memory = memory_of c.args.self.now in
    let same_config = c.config.ensures in
    subst (λ (config : Config). c.first_with_room.result ≡ lowest_room config.region_words (λ region. memory (Top region)) c.args.words config.regions) same_config
    (room_found c.config.result memory c.tops.result.now c.args.words c.first_with_room.result
    (subst (λ (config : Config). (region : ℕ) → region < config.regions → slice_index c.tops.result.now region ≡ memory (Top region)) (sym same_config) c.tops.ensures.tops)
    (subst (λ (config : Config). AreWithin config memory) (sym same_config) c.requires)
    c.first_with_room.ensures.none c.first_with_room.ensures.first)
