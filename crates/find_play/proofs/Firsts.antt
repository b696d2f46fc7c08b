-- The first of a list of which a test holds, and tests of all.
use Rattle.std.proofs.Common.{◌≡◌, ℕ, ◌+◌, ◌<◌, Bool, true, false, not, ◌&&◌, cond, List, length, get_or, drop, Some, None, sym, ap, ◌∙◌, subst, arith}
use Rattle.std.specs.Prelude.{slice_get, nat_lt, position}
use Rattle.std.specs.List.{list_all, position_or_len}
use Rattle.std.proofs.lemmas.Bool.Decides.{nat_tests}
use Rattle.std.proofs.lemmas.List.{at_drop_more}
use Rattle.std.proofs.lemmas.List.Folds.{list_all_at}
use Rattle.std.proofs.lemmas.List.Sums.{position_or_len_is}
use Rattle.std.proofs.lemmas.Option.{slice_get_within, get_or_from_slice_get}
use Rattle.shen_graph.specs.History.{Entry}
use Rattle.find_play.specs.declared.wanted.Wanted.{Wanted}
use Rattle.find_play.specs.Wanted.{fits}

some_if : (n m : ℕ) → n < m → Some n ≡ cond (nat_lt n m) (Some n) None
some_if n m in_order = grind (arith, nat_tests)

-- the first index at which a test holds
pub position_is : {X : Type 0} (test : X → Bool) (xs : List X) (other_index : ℕ) (default : X) → other_index < length xs → ((index : ℕ) → index < other_index → test (get_or xs index default) ≡ false) → test (get_or xs other_index default) ≡ true → Some other_index ≡ position test xs
position_is test xs index default index_below before test_here =
    let place_is : position_or_len test xs ≡ index = position_or_len_is test xs index default (omega arith) before (λ _. test_here) in
    subst (λ (place : ℕ). Some index ≡ cond (nat_lt place (length xs)) (Some place) None) (sym place_is) (some_if index (length xs) index_below)

-- a reply that fits is found
pub never_broken : (wanted : Wanted) (entries : List Entry) (index : ℕ) (entry : Entry) → slice_get entries index ≡ Some entry → fits wanted entry.reply ≡ true → false ≡ list_all (λ x. not (fits wanted x.reply)) entries
never_broken wanted entries index entry found reply_fits =
    sym (list_all_at (λ (entry : Entry). not (fits wanted entry.reply)) entries index entry (slice_get_within entries index entry found) (ap (λ (entry : Entry). not (fits wanted entry.reply)) (get_or_from_slice_get entries index entry entry found) ∙ ap not reply_fits))

-- one that does not is passed over
pub never_on : (wanted : Wanted) (entries : List Entry) (index : ℕ) (entry : Entry) (whole_answer : Bool) → slice_get entries index ≡ Some entry → fits wanted entry.reply ≡ false → list_all (λ each_entry. not (fits wanted each_entry.reply)) (drop index entries) ≡ whole_answer → list_all (λ each_entry. not (fits wanted each_entry.reply)) (drop (index + 1) entries) ≡ whole_answer
never_on wanted entries index entry whole_answer found unfit_reply sofar =
    let test : Entry → Bool = λ each_entry. not (fits wanted each_entry.reply) in
    let test_here : test (get_or entries index entry) ≡ true = ap test (get_or_from_slice_get entries index entry entry found) ∙ ap not unfit_reply in
    sym (at_drop_more (list_all test) entries index entry (slice_get_within entries index entry found) ∙ ap (λ (holds : Bool). holds && list_all test (drop (index + 1) entries)) test_here) ∙ sofar
