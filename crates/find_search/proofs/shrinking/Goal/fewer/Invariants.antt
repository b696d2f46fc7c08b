use Rattle.find_search.proofs.shrinking.Goal.fewer.Given as goal

abbrev pub decreases-loop-at : goal.decreases-loop-at
decreases-loop-at loop = loop.at
