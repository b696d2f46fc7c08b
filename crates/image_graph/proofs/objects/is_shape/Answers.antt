use Rattle.std.proofs.Common.{ℕ, ◌≤◌, ap, ◌∙◌, subst}
use Rattle.std.proofs.lemmas.Bool.{eqb-true}
use Rattle.heap_words.specs.Encoding.{refs_in, shape_word}
use Rattle.image_graph.proofs.objects.is_shape.Goals as goal

pub shape_of-requires-then-nums-le16-clause-refs : goal.shape_of-requires-then-nums-le16-clause-refs
shape_of-requires-then-nums-le16-clause-refs c = c.if-nums-le16.true.0

pub shape_of-requires-then-nums-le16-clause-nums : goal.shape_of-requires-then-nums-le16-clause-nums
shape_of-requires-then-nums-le16-clause-nums c = c.if-nums-le16.true.1

pub returns-then-nums-le16 : goal.returns-then-nums-le16
returns-then-nums-le16 c = λ shape_met. record {
  few_refs = subst (λ (count : ℕ). count ≤ 16) c.refs_of-refs.ensures c.if-nums-le16.true.0;
  few_nums = subst (λ (count : ℕ). count ≤ 16) c.nums_of-nums.ensures c.if-nums-le16.true.1;
  whole = eqb-true _ _ shape_met ∙ c.shape_of.ensures ∙ ap (λ (count : ℕ). shape_word count c.nums_of-nums.result) c.refs_of-refs.ensures ∙ ap (shape_word (refs_in c.args.shape)) c.nums_of-nums.ensures;
}
