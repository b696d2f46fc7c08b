-- Runs of like lines.
use Rattle.std.specs.Prelude.{ℕ}
use Rattle.listing.specs.declared.fold.Folds.{Folds}

-- how many lines the run has behind its first group
abbrev pub more_of : Folds → ℕ
more_of folds = folds.more
