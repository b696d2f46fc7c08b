use Rattle.std.proofs.Common.{◌≡◌, ◌+◌, ap, ◌∙◌, true, arith}
use Rattle.std.specs.Prelude.{vec_len, is_ok}
use Rattle.shen_graph.specs.TextLayout.{span_length}
use Rattle.shen_graph.proofs.TextLemmas.{length-part}
use Rattle.shen_graph.proofs.graph_text.carry.Goals as goal

pub returns-clause-items : goal.returns-clause-items
returns-clause-items κ c =
    let part_length = length-part c.args.from.now c.args.span c.requires.within.0 c.requires.within.1 in
    let extended : is_ok c.extend_from_slice.result ≡ true = c.extend_from_slice.ensures.succeeds (omega (arith, c.requires.room, part_length)) in
    rw extended at c.extend_from_slice.ensures.items

pub returns-clause-len : goal.returns-clause-len
returns-clause-len κ c =
    let part_length = length-part c.args.from.now c.args.span c.requires.within.0 c.requires.within.1 in
    let extended : is_ok c.extend_from_slice.result ≡ true = c.extend_from_slice.ensures.succeeds (omega (arith, c.requires.room, part_length)) in
    (rw extended at c.extend_from_slice.ensures.len) ∙ ap (λ added. vec_len c.args.into.now + added) part_length

pub returns-clause-span : goal.returns-clause-span
returns-clause-span κ c =
    let part_length = length-part c.args.from.now c.args.span c.requires.within.0 c.requires.within.1 in
    let extended : is_ok c.extend_from_slice.result ≡ true = c.extend_from_slice.ensures.succeeds (omega (arith, c.requires.room, part_length)) in
    let new_length : c.len.result ≡ vec_len c.args.into.now + span_length c.args.span = c.len.ensures ∙ (rw extended at c.extend_from_slice.ensures.len) ∙ ap (λ added. vec_len c.args.into.now + added) part_length in
    λ i. record { from = c.len-begin.ensures i; to = new_length i }

pub returns-clause-capacity : goal.returns-clause-capacity
returns-clause-capacity κ c = c.extend_from_slice.ensures.capacity
