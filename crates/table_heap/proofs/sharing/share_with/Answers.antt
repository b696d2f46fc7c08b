use Rattle.std.proofs.Common.{length, sym, ◌∙◌, subst, arith}
use Rattle.std.specs.Prelude.{slice_set}
use Rattle.std.proofs.lemmas.List.{length-set}
use Rattle.table_heap.specs.Sharing.{StealsFrom}
use Rattle.table_heap.proofs.Thieves.{read_place, read_changed, both_changed, config_still, changed_place, other_place}
use Rattle.table_heap.proofs.sharing.share_with.Goals as goal

pub returns-in_err-thief-clause-more : goal.returns-in_err-thief-clause-more
returns-in_err-thief-clause-more c = read_changed c.args.bundles.now.items c.args.bundle c.index_mut.result.now c.thief.new.self c.requires.bundle c.index_mut.ensures.value c.thief.ensures.more

-- both bundles have one configuration
pub steal_by-requires : goal.steal_by-requires
steal_by-requires c =
    let bundles = c.args.bundles.now.items in
    let first_bundle = c.index_mut.result.now in
    let other_bundle = c.index_mut-2.result.now in
    let mid = slice_set bundles c.args.bundle c.thief.new.self in
    let same_length = length-set bundles c.args.bundle c.thief.new.self in
    let first_read = read_place bundles c.args.bundle first_bundle c.requires.bundle c.index_mut.ensures.value in
    let other_read = read_place mid c.args.other other_bundle (omega (arith, same_length, c.requires.other)) c.index_mut-2.ensures.value in
    let config_stays = config_still c.requires.heap.0 bundles mid (read_changed bundles c.args.bundle first_bundle c.thief.new.self c.requires.bundle c.index_mut.ensures.value c.thief.ensures.more) c.requires.heap.1 in
    record { heap = c.in_ok-thief.ensures.thief.0 ∙ c.requires.heap.1 c.args.bundle first_bundle first_read ∙ sym (config_stays c.args.other other_bundle other_read) }

pub returns-in_err-steal_by-clause-more : goal.returns-in_err-steal_by-clause-more
returns-in_err-steal_by-clause-more c =
    both_changed c.args.bundles.now.items c.args.bundle c.args.other c.index_mut.result.now c.thief.new.self c.index_mut-2.result.now c.steal_by.new.self c.requires.bundle c.requires.other c.index_mut.ensures.value
    c.thief.ensures.more c.index_mut-2.ensures.value c.steal_by.ensures.more

pub returns-clause-more : goal.returns-clause-more
returns-clause-more c =
    both_changed c.args.bundles.now.items c.args.bundle c.args.other c.index_mut.result.now c.thief.new.self c.index_mut-2.result.now c.steal_by.new.self c.requires.bundle c.requires.other c.index_mut.ensures.value
    c.thief.ensures.more c.index_mut-2.ensures.value c.steal_by.ensures.more

-- the thief stands behind those that the other bundle had, and steals from this bundle's deque
pub returns-clause-steals : goal.returns-clause-steals
returns-clause-steals c = λ stealing_bundle own_bundle bundles_apart bundle_there place_read.
    let bundles = c.args.bundles.now.items in
    let mid = slice_set bundles c.args.bundle c.thief.new.self in
    let same_length = length-set bundles c.args.bundle c.thief.new.self in
    let bundle_is = changed_place mid c.args.other c.steal_by.new.self stealing_bundle (omega (arith, same_length, c.requires.other)) bundle_there in
    let own_is = changed_place bundles c.args.bundle c.thief.new.self own_bundle c.requires.bundle (other_place mid c.args.other c.steal_by.new.self own_bundle c.args.bundle (λ same_bundle. bundles_apart (sym same_bundle)) place_read) in
    subst (λ bundle. StealsFrom bundle own_bundle) bundle_is
    (subst (λ source_bundle. StealsFrom c.steal_by.new.self source_bundle) own_is
    (record { place = length c.index_mut-2.result.now.thieves.items; thief = c.in_ok-thief.thief; there = c.in_ok-steal_by.ensures.thief; steals = c.in_ok-thief.ensures.thief.1 }))
