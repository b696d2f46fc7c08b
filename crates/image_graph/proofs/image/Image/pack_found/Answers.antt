use Rattle.std.proofs.Common.{ℕ, Bool, List, length, sym, ap, ◌∙◌, subst}
use Rattle.heap_words.specs.Words.{heap_in}
use Rattle.regions.specs.Table.{CanCompact}
use Rattle.image_graph.proofs.image.Image.pack_found.Goals as goal

pub pack_words-requires-clause-table : goal.pack_words-requires-clause-table
pack_words-requires-clause-table c = ap length c.deref_mut.ensures.value ∙ c.args.self.now.all_words

pub pack_words-requires-clause-places : goal.pack_words-requires-clause-places
pack_words-requires-clause-places c = ap length c.deref_mut-2.ensures.value ∙ c.args.self.now.all_places

pub pack_words-requires-clause-compact : goal.pack_words-requires-clause-compact
pack_words-requires-clause-compact c =
    subst (λ (words : List ℕ). CanCompact c.args.self.now.config.region_words (heap_in c.args.self.now.config words) c.deref.result.now) (sym c.deref_mut.ensures.value)
    (subst (λ (flags : List Bool). CanCompact c.args.self.now.config.region_words (heap_in c.args.self.now.config c.args.self.now.words.items) flags) (sym c.deref.ensures.value) c.requires)
