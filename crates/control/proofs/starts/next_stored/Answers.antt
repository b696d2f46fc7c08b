use Rattle.std.proofs.Common.{◌≡◌, sym, ap, ◌∙◌, subst, arith}
use Rattle.image_graph.specs.State.{config_of}
use Rattle.collector_rows.specs.Extent.{next_loaded}
use Rattle.control.specs.Image.{image_in}
use Rattle.control.proofs.Storing.{IsLeast, least_first, least_more, least_is_next}
use Rattle.control.proofs.starts.next_stored.Goals as goal

pub loop-number-init : goal.loop-number-init
loop-number-init c =
    let config = config_of c.args.image.now in
    let next_right : c.next-next.result ≡ next_loaded config c.args.extent c.args.index = c.next-next.ensures ∙ ap (λ any_config. next_loaded any_config c.args.extent c.args.index) c.config.ensures in
    subst (IsLeast config c.args.extent c.args.starts.now (image_in c.args.image.now) c.args.index 0) (sym next_right)
    (least_first config c.args.extent c.args.starts.now (image_in c.args.image.now) c.args.index c.requires.index)

pub lesser-next-requires : goal.lesser-next-requires
lesser-next-requires c =
    let of_heap = c.requires.heap c.loop-number.number (omega (arith, c.loop-number-test.true)) in
    omega (arith, of_heap.1)

pub loop-number-preserved : goal.loop-number-preserved
loop-number-preserved c =
    least_more (config_of c.args.image.now) c.args.extent c.args.starts.now (image_in c.args.image.now) c.args.index c.loop-number.number c.loop-number.next
    (omega (arith, c.loop-number-test.true)) c.loop-number.invariant c.lesser-next.result c.lesser-next.ensures.start c.lesser-next.ensures.next

pub returns : goal.returns
returns c =
    least_is_next (config_of c.args.image.now) c.args.extent c.args.starts.now (image_in c.args.image.now) c.args.index c.loop-number.number c.loop-number.next
    (omega (arith, c.loop-number-test.false)) c.requires.index c.loop-number.invariant
