use Rattle.std.proofs.Common.{◌≡◌, ℕ, List, length, map, ap, ◌∙◌, sym, subst}
use Rattle.std.specs.List.{range_with_len}
use Rattle.std.proofs.lemmas.Result.{IfOk-weaker}
use Rattle.heap_words.specs.Ranges.{seat_count}
use Rattle.shared_table.specs.Views.{whole, dealt_to}
use Rattle.heap_words.specs.Steps.{Stage}
use Rattle.step_core.specs.Actor.{Actor}
use Rattle.image_graph.specs.State as images
use Rattle.heap_machines.specs.Shown.{shown}
use Rattle.heap_machines.specs.FromImage.{machine_from}
use Rattle.heap_machines.proofs.FromImages.{begins_from}
use Rattle.table_heap.specs.declared.left.Left.{Left}
use Rattle.table_heap.specs.State.{IsFresh}
use Rattle.table_heap.proofs.Opened.{left_start, left_begins, left_words, left_machines}
use Rattle.table_heap.proofs.heap.Heap.open_from.Goals as goal

pub returns-in_err-words-clause-begins : goal.returns-in_err-words-clause-begins
returns-in_err-words-clause-begins c = begins_from c.args.image.config c.args.image.words.items c.args.counts.items c.args.image.all_words

pub returns-in_err-machines-clause-begins : goal.returns-in_err-machines-clause-begins
returns-in_err-machines-clause-begins c = begins_from c.args.image.config c.args.image.words.items c.args.counts.items c.args.image.all_words

pub returns-in_err-heap-clause-begins : goal.returns-in_err-heap-clause-begins
returns-in_err-heap-clause-begins c = begins_from c.args.image.config c.args.image.words.items c.args.counts.items c.args.image.all_words

pub returns-clause-begins : goal.returns-clause-begins
returns-clause-begins c = begins_from c.args.image.config c.args.image.words.items c.args.counts.items c.args.image.all_words

pub machines_from-requires : goal.machines_from-requires
machines_from-requires c = ap length c.deref.ensures.value ∙ c.requires.counts

pub invariant_of-key : goal.invariant_of-key
invariant_of-key c =
    let left : Left = record { words = c.of.result; counts = c.of-2.result } in
    record { begins = left_begins c.config-config.result left c.args.image c.args.counts.items c.config-config.ensures (ap (λ vector. vector.items) c.of.ensures ∙ c.in_ok-words.ensures) (ap (λ vector. vector.items) c.of-2.ensures) c.requires.begins }

pub invariant_of-key-2 : goal.invariant_of-key-2
invariant_of-key-2 c =
    let left : Left = record { words = c.of.result; counts = c.of-2.result } in
    record { begins = left_begins c.config-config.result left c.args.image c.args.counts.items c.config-config.ensures (ap (λ vector. vector.items) c.of.ensures ∙ c.in_ok-words.ensures) (ap (λ vector. vector.items) c.of-2.ensures) c.requires.begins }

pub open_whole-requires-clause-words : goal.open_whole-requires-clause-words
open_whole-requires-clause-words c =
    let left : Left = record { words = c.of.result; counts = c.of-2.result } in
    c.in_ok-words.ensures ∙ sym (left_words c.config-config.result left c.args.image c.args.counts.items c.config-config.ensures (ap (λ vector. vector.items) c.of.ensures ∙ c.in_ok-words.ensures) (ap (λ vector. vector.items) c.of-2.ensures))

pub open_whole-requires-clause-machines : goal.open_whole-requires-clause-machines
open_whole-requires-clause-machines c =
    let left : Left = record { words = c.of.result; counts = c.of-2.result } in
    let image = c.args.image in
    let made = c.in_ok-machines.ensures in
    left_machines c.config-config.result left image c.args.counts.items c.config-config.ensures (ap (λ vector. vector.items) c.of.ensures ∙ c.in_ok-words.ensures) (ap (λ vector. vector.items) c.of-2.ensures) c.in_ok-machines.machines.items
    (subst (λ (xs : List ℕ). map shown c.in_ok-machines.machines.items ≡ map (machine_from (images.config_of image) xs (images.memory_of image)) (range_with_len 0 (seat_count (images.config_of image).mutators (images.config_of image).helpers)))
    c.deref.ensures.value made.machines)
    made.heap made.orders

pub returns-clause-bundles : goal.returns-clause-bundles
returns-clause-bundles c =
    let left : Left = record { words = c.of.result; counts = c.of-2.result } in
    let start = c.in_ok-heap.ensures.key ∙ left_start c.config-config.result left c.args.image c.args.counts.items c.config-config.ensures (ap (λ vector. vector.items) c.of.ensures ∙ c.in_ok-words.ensures) (ap (λ vector. vector.items) c.of-2.ensures) in
    IfOk-weaker c.dealt.result _ _
    (λ dealt_heap fresh place bundle bundle_there. subst (λ (stage : Stage Actor). IsFresh dealt_heap.0 bundle (dealt_to c.args.workers place (whole stage.machines))) start (fresh place bundle bundle_there))
    c.dealt.ensures.bundles
