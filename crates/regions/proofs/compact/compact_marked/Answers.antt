use Rattle.std.proofs.Common.{◌+◌, length, ◌∙◌}
use Rattle.regions.specs.Places.{is_shut}
use Rattle.regions.specs.Table.{word_of}
use Rattle.regions.proofs.Followed.{is_placing, are_in_table, slid_by_now, renewed_by, in_rows}
use Rattle.regions.proofs.compact.compact_marked.Goals as goal

pub slide-requires-clause-places : goal.slide-requires-clause-places
slide-requires-clause-places c =
    is_placing c.args.region_words (is_shut c.args.shut) c.args.heap.now c.args.marks.now c.requires.compact c.assign.new.places c.follow.new.places
    (c.follow.auto.places ∙ c.assign.auto.places ∙ c.requires.table) c.assign.ensures.places c.follow.ensures
    (in_rows c.args.region_words c.args.heap.now c.args.marks.now (length c.args.tops.now) c.requires.compact c.requires.regions c.requires.few)

pub slide-requires-clause-closed : goal.slide-requires-clause-closed
slide-requires-clause-closed c =
    are_in_table c.args.region_words (is_shut c.args.shut) c.args.heap.now c.args.marks.now c.requires.compact c.assign.new.places c.follow.new.places
    (c.follow.auto.places ∙ c.assign.auto.places ∙ c.requires.table) c.assign.ensures.places c.follow.ensures

pub returns-clause-slid : goal.returns-clause-slid
returns-clause-slid c =
    slid_by_now c.args.region_words (is_shut c.args.shut) c.args.heap.now c.args.marks.now c.requires.compact c.assign.new.places c.follow.new.places
    (c.follow.auto.places ∙ c.assign.auto.places ∙ c.requires.table) c.assign.ensures.places c.follow.ensures
    (c.args.region_words + length c.args.heap.now) (word_of c.args.region_words c.slide.new.heap) c.slide.ensures

pub returns-clause-renews : goal.returns-clause-renews
returns-clause-renews c =
    renewed_by c.args.region_words (is_shut c.args.shut) c.args.heap.now c.args.marks.now c.requires.compact c.assign.new.places c.follow.new.places
    (c.follow.auto.places ∙ c.assign.auto.places ∙ c.requires.table) c.assign.ensures.places c.follow.ensures
