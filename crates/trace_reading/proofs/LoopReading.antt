-- Reading in a loop: what was read before, and what is still read.
use Rattle.std.proofs.Common.{◌≡◌, ℕ, suc, ◌+◌, ◌<◌, ◌≤◌, List, [], ◌∷◌, ◌++◌, length, get_or, drop, Option, Some, None, refl, sym, ap, ◌∙◌, append_assoc, add-one, drop-cons}
use Rattle.std.proofs.lemmas.List.{append-nil, drop_all}
use Rattle.trace_reading.specs.declared.kind.CommandKind.{CommandKind}
use Rattle.trace_reading.specs.declared.kind.CommandKind.TheVariants.{New}
use Rattle.trace_reading.specs.Kinds.{word}
use Rattle.trace_reading.specs.Scanning.{◌>>=◌, behind, spaced_at, numbers_at, kind_among}

-- these numbers, and then those that are read
abbrev pub with_front : List ℕ → Option (List ℕ × List ℕ) → Option (List ℕ × List ℕ)
with_front front read = read >>= λ x. Some (front ++ x.0, x.1)

regroup : (front : List ℕ) (number : ℕ) (read : Option (List ℕ × List ℕ)) → with_front front (read >>= λ read_pair. Some (number ∷ read_pair.0, read_pair.1)) ≡ with_front (front ++ number ∷ []) read
regroup front number (Some read_pair) = ap (λ (given_numbers : List ℕ). Some (given_numbers, read_pair.1)) (simp append_assoc)
regroup front number None = refl

pub number_goes_on : (front limits : List ℕ) (index : ℕ) (bytes : List ℕ) (number : ℕ) (after : List ℕ) (whole_read : Option (List ℕ × List ℕ)) → index < length limits → spaced_at (get_or limits index 0) bytes ≡ Some (number, after)
    → with_front front (numbers_at (drop index limits) bytes) ≡ whole_read → with_front (front ++ number ∷ []) (numbers_at (drop (index + 1) limits) after) ≡ whole_read
unfolding numbers_at
number_goes_on front limits index bytes number after whole_read index_within found so_far =
    let one_step : with_front front (numbers_at (drop index limits) bytes) ≡ with_front (front ++ number ∷ []) (numbers_at (drop (index + 1) limits) after) = rw (add-one, drop-cons limits index 0, found) (regroup front number (numbers_at (drop (suc index) limits) after)) in
    sym one_step ∙ so_far

pub number_fails : (front limits : List ℕ) (index : ℕ) (bytes : List ℕ) (whole_read : Option (List ℕ × List ℕ)) → index < length limits → spaced_at (get_or limits index 0) bytes ≡ None
    → with_front front (numbers_at (drop index limits) bytes) ≡ whole_read → whole_read ≡ None
unfolding numbers_at
number_fails front limits index bytes whole_read index_within no_number so_far =
    let read_fails : with_front front (numbers_at (drop index limits) bytes) ≡ None = rw (drop-cons limits index 0, no_number) refl in
    sym so_far ∙ read_fails

pub numbers_end : (front limits : List ℕ) (index : ℕ) (bytes : List ℕ) (whole_read : Option (List ℕ × List ℕ)) → length limits ≤ index → with_front front (numbers_at (drop index limits) bytes) ≡ whole_read → whole_read ≡ Some (front, bytes)
unfolding numbers_at
numbers_end front limits index bytes whole_read index_past so_far =
    let read_ends : with_front front (numbers_at (drop index limits) bytes) ≡ Some (front, bytes) = rw (drop_all index limits index_past) (ap (λ (given_numbers : List ℕ). Some (given_numbers, bytes)) (append-nil front)) in
    sym so_far ∙ read_ends

pub kind_found : (kinds : List CommandKind) (index : ℕ) (bytes rest : List ℕ) (whole_kind : Option (CommandKind × List ℕ)) → index < length kinds → behind (word (get_or kinds index New)) bytes ≡ Some rest
    → kind_among (drop index kinds) bytes ≡ whole_kind → whole_kind ≡ Some (get_or kinds index New, rest)
unfolding kind_among
kind_found kinds index bytes rest whole_kind index_within found so_far =
    let kind_read : kind_among (drop index kinds) bytes ≡ Some (get_or kinds index New, rest) = rw (drop-cons kinds index New, found) refl in
    sym so_far ∙ kind_read

pub kind_goes_on : (kinds : List CommandKind) (index : ℕ) (bytes : List ℕ) (whole_kind : Option (CommandKind × List ℕ)) → index < length kinds → behind (word (get_or kinds index New)) bytes ≡ None
    → kind_among (drop index kinds) bytes ≡ whole_kind → kind_among (drop (index + 1) kinds) bytes ≡ whole_kind
unfolding kind_among
kind_goes_on kinds index bytes whole_kind index_within no_kind so_far =
    let next_kind : kind_among (drop index kinds) bytes ≡ kind_among (drop (index + 1) kinds) bytes = rw (add-one, drop-cons kinds index New, no_kind) refl in
    sym next_kind ∙ so_far

pub kinds_end : (kinds : List CommandKind) (index : ℕ) (bytes : List ℕ) (whole_kind : Option (CommandKind × List ℕ)) → length kinds ≤ index → kind_among (drop index kinds) bytes ≡ whole_kind → whole_kind ≡ None
unfolding kind_among
kinds_end kinds index bytes whole_kind index_past so_far =
    let no_kind : kind_among (drop index kinds) bytes ≡ None = rw (drop_all index kinds index_past) refl in
    sym so_far ∙ no_kind
