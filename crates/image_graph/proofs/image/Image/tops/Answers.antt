use Rattle.std.proofs.Common.{arith}
use Rattle.image_graph.proofs.image.Image.tops.Goals as goal

pub top_at-start-requires : goal.top_at-start-requires
top_at-start-requires c = omega (arith, c.args.self.now.config.in_range.least_regions)

pub overflow_add-result : goal.overflow_add-result
overflow_add-result c = omega (arith, c.top_at-start.ensures, c.regions.ensures, c.args.self.now.config.in_range.most_regions, c.args.self.now.config.in_range.most_mutators, c.args.self.now.config.in_range.most_helpers)

pub offset_bounds-deref-start : goal.offset_bounds-deref-start
offset_bounds-deref-start c = omega (arith, c.top_at-start.ensures, c.args.self.now.config.in_range.most_mutators, c.args.self.now.config.in_range.most_helpers)

pub slice_bounds-result-count : goal.slice_bounds-result-count
slice_bounds-result-count c = omega arith
