use Rattle.std.proofs.Common.{◌≡◌, refl, ap, ◌∙◌, arith}
use Rattle.regions.specs.Sets.{members_below}
use Rattle.regions.proofs.SetLemmas.{no_members}
use Rattle.alloc_buffers.proofs.spot.after_free.Goals as goal

pub unreachable-requires : goal.unreachable-requires
unreachable-requires c =
    let none_free : c.args.free ≡ 0 = c.in-None.ensures.none.0 refl in
    let no_size : c.size.result ≡ 0 = c.size.ensures ∙ ap (λ members. members_below members 64) none_free ∙ no_members in
    omega (arith, no_size, c.if-size-kept_back.false)
