use Rattle.std.proofs.Common.{◌≡◌, List, [], ◌∷◌, ◌++◌, ◌^◌, ◌<◌, sym, subst, arith}
use Rattle.std.specs.List.{flat_map, AllByRecursion}
use Rattle.shen_graph.specs.History.{Entry}
use Rattle.shen_graph.specs.Noting.{seen}
use Rattle.trace_text.specs.History.{entry_line}
use Rattle.trace_text.specs.Entries.{IsClaim}
use Rattle.trace_text.proofs.ReadEntries.{entry_takes, entry_shorter, all_more, spelled_more, none_read}
use Rattle.trace_text.proofs.entries.entries_in.Goals as goal

pub entries-smaller : goal.entries-smaller
entries-smaller c =
    let small : c.args.threads < 2 ^ 64 = omega (arith, c.ranges.threads.fits) in
    let took = entry_takes c.args.version c.args.threads c.entries.rest.now (seen c.in-Some.entry, c.in-Some.behind.now) small (sym c.in-Some.ensures) in
    entry_shorter c.args.version c.args.threads (seen c.in-Some.entry) c.entries.rest.now c.in-Some.behind.now small took.1 took.0

pub entries-preserved : goal.entries-preserved
entries-preserved c =
    let small : c.args.threads < 2 ^ 64 = omega (arith, c.ranges.threads.fits) in
    let entry_seen = seen c.in-Some.entry in
    let took = entry_takes c.args.version c.args.threads c.entries.rest.now (entry_seen, c.in-Some.behind.now) small (sym c.in-Some.ensures) in
    let added : c.push.new.self.list ≡ c.entries.history.list ++ entry_seen ∷ [] = c.in_ok-push.ensures.added in
    record {
      in_range = subst (AllByRecursion (IsClaim c.args.version c.args.threads)) (sym added) (all_more c.args.version c.args.threads c.entries.history.list entry_seen c.entries.invariant.in_range took.1);
      spelled = subst (λ (entries : List Entry). c.args.bytes.now ≡ flat_map entry_line entries ++ c.in-Some.behind.now) (sym added) (spelled_more c.entries.history.list entry_seen c.args.bytes.now c.entries.rest.now c.in-Some.behind.now c.entries.invariant.spelled took.0);
    }

pub returns-clause-none : goal.returns-clause-none
returns-clause-none c = let small : c.args.threads < 2 ^ 64 = omega (arith, c.ranges.threads.fits) in none_read c.args.version c.args.threads c.entries.rest.now small (sym c.in_default.ensures)
