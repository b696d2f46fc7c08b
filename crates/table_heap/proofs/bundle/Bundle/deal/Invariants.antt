use Rattle.table_heap.proofs.bundle.Bundle.deal.Given as goal

abbrev pub ghosts-deal_bundle : goal.ghosts-deal_bundle
ghosts-deal_bundle arguments = record { bundles = arguments.bundles; bundle = arguments.bundle }
