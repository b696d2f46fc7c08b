use Rattle.std.proofs.Common.{sym, ◌∙◌}
use Rattle.image_graph.specs.State.{config_of, memory_of}
use Rattle.control.proofs.Collecting.{room-collected, cycle-collected}
use Rattle.control.proofs.collect.collect.Goals as goal

pub make_room-requires-clause-needed : goal.make_room-requires-clause-needed
make_room-requires-clause-needed c = sym c.is_room_needed.ensures ∙ c.if-is_room_needed.true

pub returns-then-is_room_needed-clause-words : goal.returns-then-is_room_needed-clause-words
returns-then-is_room_needed-clause-words c =
    c.make_room.ensures.words ∙ room-collected (config_of c.args.image.now) (memory_of c.args.image.now) (sym c.is_room_needed.ensures ∙ c.if-is_room_needed.true)

pub returns-else-is_room_needed-clause-words : goal.returns-else-is_room_needed-clause-words
returns-else-is_room_needed-clause-words c =
    c.go_on.ensures.words ∙ cycle-collected (config_of c.args.image.now) (memory_of c.args.image.now) (sym c.is_room_needed.ensures ∙ c.if-is_room_needed.false)
