use Rattle.std.proofs.Common.{refl}
use Rattle.image_graph.specs.State.{config_of, words_of, memory_of}
use Rattle.image_graph.proofs.Holding.{laid_sized, sized_holds}
use Rattle.image_graph.proofs.Seats.{no_seat}
use Rattle.image_graph.proofs.check.stands.Goals as goal

pub returns-clause-sized : goal.returns-clause-sized
returns-clause-sized c told =
    laid_sized (config_of c.args.image.now) (memory_of c.args.image.now) c.args.objects.now (record {
      regions = c.if-not-are_regions_right.ensures refl;
      free = c.if-not-is_free_word_right.ensures refl;
      unbuffered = c.if-not-has_no_buffers.ensures refl;
      shared_one = c.if-not-is_share_right.ensures refl;
      order = c.if-not-are_in_order.ensures refl;
      lies = c.if-not-lie_right.ensures refl;
      reads = c.if-not-read_right.ensures refl;
      mutators = c.are_mutators_right.ensures told;
    })
    (no_seat (config_of c.args.image.now) (words_of c.args.image.now))

pub returns-clause-holds : goal.returns-clause-holds
returns-clause-holds c told = sized_holds (config_of c.args.image.now) (memory_of c.args.image.now) (returns-clause-sized c told)
