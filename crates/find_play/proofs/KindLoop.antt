-- The loop over the kinds of lines.
use Rattle.std.proofs.Common.{◌≡◌, ℕ, ◌+◌, ◌<◌, ◌≤◌, true, false, List, length, get_or, drop, Option, Some, None, refl, sym, ◌∙◌, add-one, drop-cons}
use Rattle.std.proofs.lemmas.List.{drop_all}
use Rattle.trace_reading.specs.Causes.{is_same}
use Rattle.find_play.specs.declared.kind.LineKind.{LineKind}
use Rattle.find_play.specs.declared.kind.LineKind.TheVariants.{Bounds}
use Rattle.find_play.specs.Kinds.{line_word, kind_of_word}

pub kind_found : (kinds : List LineKind) (index : ℕ) (word : List ℕ) (found_kind : Option LineKind) → index < length kinds → true ≡ is_same word (line_word (get_or kinds index Bounds)) → kind_of_word (drop index kinds) word ≡ found_kind → found_kind ≡ Some (get_or kinds index Bounds)
unfolding kind_of_word
kind_found kinds index word found_kind index_below same_word so_far =
    let kind_read : kind_of_word (drop index kinds) word ≡ Some (get_or kinds index Bounds) = rw (drop-cons kinds index Bounds, ← same_word) refl in
    sym so_far ∙ kind_read

pub kind_goes_on : (kinds : List LineKind) (index : ℕ) (word : List ℕ) (found_kind : Option LineKind) → index < length kinds → false ≡ is_same word (line_word (get_or kinds index Bounds)) → kind_of_word (drop index kinds) word ≡ found_kind → kind_of_word (drop (index + 1) kinds) word ≡ found_kind
unfolding kind_of_word
kind_goes_on kinds index word found_kind index_below other_word so_far =
    let next_read : kind_of_word (drop index kinds) word ≡ kind_of_word (drop (index + 1) kinds) word = rw (add-one, drop-cons kinds index Bounds, ← other_word) refl in
    sym next_read ∙ so_far

pub kinds_end : (kinds : List LineKind) (index : ℕ) (word : List ℕ) (found_kind : Option LineKind) → length kinds ≤ index → kind_of_word (drop index kinds) word ≡ found_kind → found_kind ≡ None
unfolding kind_of_word
kinds_end kinds index word found_kind index_past so_far =
    let nothing_read : kind_of_word (drop index kinds) word ≡ None = rw (drop_all index kinds index_past) refl in
    sym so_far ∙ nothing_read
