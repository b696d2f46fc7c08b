-- When a claim of a test holds of what a run has left.
use Rattle.std.specs.Prelude.{ℕ, ◌+◌, ◌==◌, Bool, true, false, not, ◌&&◌, ◌||◌, List, [], ◌∷◌, ◌++◌, count_by, Option, Some, None, slice_index_or, if◌then◌else◌}
use Rattle.std.specs.List.{list_all}
use Rattle.shen_graph.specs.declared.command.Reply.{Reply}
use Rattle.shen_graph.specs.declared.command.Reply.TheVariants as reply
use Rattle.shen_graph.specs.Graph.{Reference, hub, same_name, same_reference}
use Rattle.shen_graph.specs.GraphText.{Row}
use Rattle.shen_graph.specs.History.{Entry}
use Rattle.find_play.specs.declared.claim.Claim.{Claim}
use Rattle.find_play.specs.declared.claim.Claim.TheVariants.{Assert, Or, Is, Isnt, Never, Count, Alike, Differ, Number, Null, Chain, Same}
use Rattle.find_play.specs.declared.test.Place.{Place}
use Rattle.find_play.specs.declared.wanted.Wanted.{Wanted}
use Rattle.find_play.specs.Wanted.{fits}
use Rattle.find_play.specs.Rows.{number_held, follow, along}

-- what a run has left: what the notes hold, the history, the objects of the last graph, and the references at the places
pub record Left : Type 0 where
  pub notes : List (Option Reply)
  pub history : List Entry
  pub rows : List Row
  pub places : List (Option Reference)

-- the references at more places, each of which is a field of the object at an earlier one
abbrev pub with_places : List Row → List Place → List (Option Reference) → List (Option Reference)
with_places rows [] found = found
with_places rows (place ∷ rest) found = with_places rows rest (found ++ follow rows place.field (slice_index_or found place.from None) ∷ [])

-- the references at the places: the hub is the first
abbrev pub places_in : List Row → List Place → List (Option Reference)
places_in rows places = with_places rows places (Some (Some hub) ∷ [])

abbrev pub same_reply : Reply → Reply → Bool
same_reply (reply.Ref name) (reply.Ref other_name) = same_name name other_name
same_reply reply.Null reply.Null = true
same_reply reply.Ok reply.Ok = true
same_reply reply.Yes reply.Yes = true
same_reply reply.No reply.No = true
same_reply (reply.Number value) (reply.Number other_value) = value == other_value
same_reply reply.Bad reply.Bad = true
same_reply reply.Full reply.Full = true
same_reply (reply.At place) (reply.At other_place) = place == other_place
same_reply _ _ = false

-- there is a reply, and it is such
abbrev pub is_such : Wanted → Option Reply → Bool
is_such wanted None = false
is_such wanted (Some answer) = fits wanted answer

-- there is a reply, and it is not such
abbrev pub is_other : Wanted → Option Reply → Bool
is_other wanted None = false
is_other wanted (Some answer) = not (fits wanted answer)

-- there are two replies, which are alike, or are not
abbrev pub are_alike : Bool → Option Reply → Option Reply → Bool
are_alike alike (Some answer) (Some other_answer) = if same_reply answer other_answer then alike else not alike
are_alike alike _ _ = false

-- the reference is there, and null
abbrev pub is_null_place : Option Reference → Bool
is_null_place (Some None) = true
is_null_place _ = false

-- an object is there, and has this number
abbrev pub has_number : List Row → ℕ → ℕ → Option Reference → Bool
has_number rows index value (Some (Some name)) = is_value value (number_held rows name index)
  where
    is_value : ℕ → Option ℕ → Bool
    is_value value None = false
    is_value value (Some found) = found == value
has_number rows index value _ = false

-- both references are there, and equal
abbrev pub are_one : Option Reference → Option Reference → Bool
are_one (Some reference) (Some other_reference) = same_reference reference other_reference
are_one _ _ = false

-- a fact holds
abbrev pub holds : Left → Claim → Bool
holds left Assert = true
holds left Or = true
holds left (Is wanted note) = is_such wanted (slice_index_or left.notes note None)
holds left (Isnt wanted note) = is_other wanted (slice_index_or left.notes note None)
holds left (Never wanted) = list_all (λ entry. not (fits wanted entry.reply)) left.history
holds left (Count wanted count) = count_by (is_such wanted) left.notes == count
holds left (Alike first second) = are_alike true (slice_index_or left.notes first None) (slice_index_or left.notes second None)
holds left (Differ first second) = are_alike false (slice_index_or left.notes first None) (slice_index_or left.notes second None)
holds left (Number place index value) = has_number left.rows index value (slice_index_or left.places place None)
holds left (Null place) = is_null_place (slice_index_or left.places place None)
holds left (Chain place field length) = is_null_place (along left.rows field length (slice_index_or left.places place None))
holds left (Same first second) = are_one (slice_index_or left.places first None) (slice_index_or left.places second None)

-- all facts hold up to the next alternative or assertion
abbrev pub all_hold : Left → List Claim → Bool
all_hold left [] = true
all_hold left (Assert ∷ claims) = true
all_hold left (Or ∷ claims) = true
all_hold left (claim ∷ claims) = holds left claim && all_hold left claims

-- some later alternative of the assertion holds
abbrev pub another_holds : Left → List Claim → Bool
another_holds left [] = false
another_holds left (Assert ∷ claims) = false
another_holds left (Or ∷ claims) = all_hold left claims || another_holds left claims
another_holds left (claim ∷ claims) = another_holds left claims

-- the number of the first assertion that does not hold, behind so many
abbrev pub broken_behind : Left → ℕ → List Claim → Option ℕ
broken_behind left count [] = None
broken_behind left count (Assert ∷ claims) = if all_hold left claims || another_holds left claims then broken_behind left (count + 1) claims else Some (count + 1)
broken_behind left count (claim ∷ claims) = broken_behind left count claims

-- the number of the first assertion of all that does not hold, counted from 1
abbrev pub first_broken : Left → List Claim → Option ℕ
first_broken left claims = broken_behind left 0 claims
