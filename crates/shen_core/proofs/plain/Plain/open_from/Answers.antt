use Rattle.std.proofs.Common.{◌≡◌, ap, sym, ◌∙◌, map, subst}
use Rattle.std.proofs.lemmas.List.Elements.{All-map}
use Rattle.heap_words.specs.Ranges.{seat_count}
use Rattle.shen_graph.specs.declared.order.Order.TheVariants.{Nothing}
use Rattle.heap_machines.specs.Shown.{shown, order_of}
use Rattle.heap_machines.specs.FromImage.{stage_from}
use Rattle.shen_core.specs.Runs.{IsShownBySomeRun}
use Rattle.heap_machines.proofs.FromImages.{machines_count, begins_from}
use Rattle.shen_core.proofs.FromImage.{shows_from, shown_from, opened_shows, opened_orders}
use Rattle.shen_core.proofs.plain.Plain.open_from.Goals as goal

pub returns-in_err-words-clause-begins : goal.returns-in_err-words-clause-begins
returns-in_err-words-clause-begins c = begins_from c.args.image.config c.args.image.words.items c.args.counts.now c.args.image.all_words

pub returns-in_err-machines-clause-begins : goal.returns-in_err-machines-clause-begins
returns-in_err-machines-clause-begins c = begins_from c.args.image.config c.args.image.words.items c.args.counts.now c.args.image.all_words

pub of-requires-clause-machines : goal.of-requires-clause-machines
of-requires-clause-machines c =
    machines_count c.args.image.config c.args.image.words.items c.args.counts.now c.in_ok-machines.machines.items c.in_ok-machines.ensures.machines
    ∙ ap (λ config. seat_count config.mutators config.helpers) (sym c.config-config.ensures)

pub of-requires-clause-reached : goal.of-requires-clause-reached
of-requires-clause-reached c =
    subst (λ config. ∥ IsShownBySomeRun config c.in_ok-words.words.items (map shown c.in_ok-machines.machines.items) ∥₁) (sym c.config-config.ensures)
    (shown_from c.args.image.config c.args.image.words.items c.args.counts.now c.in_ok-words.words.items (map shown c.in_ok-machines.machines.items) c.args.image.all_words
    (shows_from c.args.image.config c.args.image.words.items c.args.counts.now c.in_ok-words.words.items c.in_ok-machines.machines.items c.in_ok-words.ensures c.in_ok-machines.ensures.machines) c.requires.begins)

pub returns-clause-stage : goal.returns-clause-stage
returns-clause-stage c =
    opened_shows c.of.result c.in_ok-words.words.items (map shown c.in_ok-machines.machines.items) (stage_from c.args.image.config c.args.image.words.items c.args.counts.now) c.of.ensures.words c.of.ensures.machines
    (shows_from c.args.image.config c.args.image.words.items c.args.counts.now c.in_ok-words.words.items c.in_ok-machines.machines.items c.in_ok-words.ensures c.in_ok-machines.ensures.machines)

pub returns-clause-begins : goal.returns-clause-begins
returns-clause-begins c = begins_from c.args.image.config c.args.image.words.items c.args.counts.now c.args.image.all_words

pub returns-clause-orders : goal.returns-clause-orders
returns-clause-orders c = opened_orders c.of.result (map order_of c.in_ok-machines.machines.items) c.of.ensures.orders (All-map (λ order. order ≡ Nothing) order_of c.in_ok-machines.machines.items c.in_ok-machines.ensures.orders)

pub machines_from-requires : goal.machines_from-requires
machines_from-requires c = c.requires.counts

pub returns-clause-config : goal.returns-clause-config
returns-clause-config c = c.of.ensures.config ∙ c.config-config.ensures

pub returns-in_default-clause-begins : goal.returns-in_default-clause-begins
returns-in_default-clause-begins c = begins_from c.args.image.config c.args.image.words.items c.args.counts.now c.args.image.all_words
