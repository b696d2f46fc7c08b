-- The names and numbers of a legal history are small enough to be written and read again.
use Rattle.std.proofs.Common.{◌≡◌, ℕ, suc, ◌+◌, ◌*◌, ◌^◌, ◌<◌, ◌≤◌, Bool, true, false, cond, eqb, List, [], ◌∷◌, length, Option, Some, None, inl, inr, refl, sym, ap, subst, arith}
use Rattle.std.specs.Prelude.{All, unwrap_or}
use Rattle.std.specs.List.{AllByRecursion}
use Rattle.std.proofs.lemmas.List.Elements.{All-nil, All-replicate, All-set}
use Rattle.std.proofs.lemmas.Option.{same_Some}
use Rattle.shen_graph.proofs.Lists.{element_of_all}
use Rattle.shen_graph.specs.declared.name.Name.{Name}
use Rattle.shen_graph.specs.declared.pin.Pinned.{Pinned}
use Rattle.shen_graph.specs.declared.command.Command.{Command}
use Rattle.shen_graph.specs.declared.command.Command.TheVariants.{New, Get, Set, Cas, Xchg, Rd, Wr, Copy, Drop, Same, Gc, Pin, Unpin}
use Rattle.shen_graph.specs.Graph.{Reference, Object, Graph, same_name, same_reference, hub, blank, named, field_at, number_at, with_root, with_pin, with_object, with_named, with_field, with_number, with_fresh, fresh, opening}
use Rattle.shen_graph.specs.Step.{Outcome, shown, yes_or_no, on, outcome, pinned_by, name_in, slot_of, IsLegal}
use Rattle.shen_graph.specs.History.{Entry, after, after_entry, EachIsLegal}
use Rattle.trace_reading.specs.Spelling.{FitsWhenWritten}
use Rattle.trace_text.specs.Entries.{FitsReply}

abbrev pub IsSmallName : Name → Type 0
IsSmallName name = (name.thread < 2 ^ 32) × (name.count < 2 ^ 32)

abbrev pub IsSmallReference : Reference → Type 0
IsSmallReference None = Unit {0}
IsSmallReference (Some name) = IsSmallName name

pub record IsSmallObject (object : Object) : Type 0 where
  pub refs : All IsSmallReference object.refs
  pub nums : All (λ n. n < 2 ^ 64) object.nums

-- no thread has made more than so many objects
pub record IsSmallGraph (most : ℕ) (graph : Graph) : Type 0 where
  pub root : (thread index : ℕ) → IsSmallReference (graph.root thread index)
  pub pin : (thread slot : ℕ) → IsSmallReference (name_in (graph.pin thread slot))
  pub object : (name : Name) (o : Object) → graph.object name ≡ Some o → IsSmallObject o
  pub count : (thread : ℕ) → graph.count thread ≤ most

-- ---- graphs

small_either : (holds : Bool) (reference second_reference : Reference) → IsSmallReference reference → IsSmallReference second_reference → IsSmallReference (cond holds reference second_reference)
small_either true reference second_reference small_reference second_small = small_reference
small_either false reference second_reference small_reference second_small = second_small

pin_either : (holds : Bool) (found second_found : Option Pinned) → IsSmallReference (name_in found) → IsSmallReference (name_in second_found) → IsSmallReference (name_in (cond holds found second_found))
pin_either true found second_found small_reference second_small = small_reference
pin_either false found second_found small_reference second_small = second_small

object_either : (holds : Bool) (object : Object) (second_found : Option Object) (object_got : Object) → IsSmallObject object → (second_found ≡ Some object_got → IsSmallObject object_got) → cond holds (Some object) second_found ≡ Some object_got → IsSmallObject object_got
object_either true object second_found object_got small_object second_small found = subst IsSmallObject (same_Some object object_got found) small_object
object_either false object second_found object_got small_object second_small found = second_small found

count_either : (holds : Bool) (first_count second_count most : ℕ) → first_count ≤ most → second_count ≤ most → cond holds first_count second_count ≤ most
count_either true first_count second_count most at_most second_small = at_most
count_either false first_count second_count most at_most second_small = second_small

blank_small : (refs nums : ℕ) → IsSmallObject (blank refs nums)
blank_small refs nums = record { refs = All-replicate IsSmallReference refs None tt; nums = All-replicate (λ number. number < 2 ^ 64) nums 0 (omega arith) }

nothing_small : IsSmallObject (record { refs = []; nums = [] })
nothing_small = record { refs = All-nil IsSmallReference; nums = All-nil (λ number. number < 2 ^ 64) }

pub opening_small : (threads : ℕ) → IsSmallGraph 0 (opening threads)
opening_small threads = record {
  root = λ thread index. small_either _ (Some hub) None (omega arith, omega arith) tt;
  pin = λ thread slot. tt;
  object = λ name object object_there. object_either (same_name name hub) (blank 16 0) None object (blank_small 16 0) (λ no_hub. absurd cc) object_there;
  count = λ thread. omega arith;
}

pub named_small : (most_counts : ℕ) (graph : Graph) (reference : Reference) → IsSmallGraph most_counts graph → IsSmallObject (named graph reference)
named_small most_counts graph None small = nothing_small
named_small most_counts graph (Some name) small = by_object (graph.object name) refl
  where
    by_object : (found : Option Object) → graph.object name ≡ found → IsSmallObject (unwrap_or found (record { refs = []; nums = [] }))
    by_object None object_found = nothing_small
    by_object (Some found) object_found = small.object name found object_found

root_small : (most_counts : ℕ) (graph : Graph) (root_thread root : ℕ) (value : Reference) → IsSmallGraph most_counts graph → IsSmallReference value → IsSmallGraph most_counts (with_root graph root_thread root value)
root_small most_counts graph root_thread root value small fits = record { root = λ thread index. small_either _ value (graph.root thread index) fits (small.root thread index); pin = small.pin; object = small.object; count = small.count }

pin_small : (most_counts : ℕ) (graph : Graph) (pin_thread slot : ℕ) (held : Option Pinned) → IsSmallGraph most_counts graph → IsSmallReference (name_in held) → IsSmallGraph most_counts (with_pin graph pin_thread slot held)
pin_small most_counts graph pin_thread slot held small fits = record { root = small.root; pin = λ thread slot. pin_either _ held (graph.pin thread slot) fits (small.pin thread slot); object = small.object; count = small.count }

object_small : (most_counts : ℕ) (graph : Graph) (name : Name) (object : Object) → IsSmallGraph most_counts graph → IsSmallObject object → IsSmallGraph most_counts (with_object graph name object)
object_small most_counts graph name object small fits = record { root = small.root; pin = small.pin; object = λ asked_name asked_object object_there. object_either (same_name asked_name name) object (graph.object asked_name) asked_object fits (λ old_object. small.object asked_name asked_object old_object) object_there; count = small.count }

named_object_small : (most_counts : ℕ) (graph : Graph) (reference : Reference) (object : Object) → IsSmallGraph most_counts graph → IsSmallObject object → IsSmallGraph most_counts (with_named graph reference object)
named_object_small most_counts graph None object small fits = small
named_object_small most_counts graph (Some name) object small fits = object_small most_counts graph name object small fits

field_small : (most_counts : ℕ) (graph : Graph) (thread root field : ℕ) (value : Reference) → IsSmallGraph most_counts graph → IsSmallReference value → IsSmallGraph most_counts (with_field graph thread root field value)
field_small most_counts graph thread root field value small fits =
    let reference = graph.root thread root in
    let old_small = named_small most_counts graph reference small in
    named_object_small most_counts graph reference _ small (record { refs = All-set IsSmallReference (named graph reference).refs field value fits old_small.refs; nums = old_small.nums })

number_small : (most_counts : ℕ) (graph : Graph) (thread root index value : ℕ) → IsSmallGraph most_counts graph → value < 2 ^ 64 → IsSmallGraph most_counts (with_number graph thread root index value)
number_small most_counts graph thread root index value small fits =
    let reference = graph.root thread root in
    let old_small = named_small most_counts graph reference small in
    named_object_small most_counts graph reference _ small (record { refs = old_small.refs; nums = All-set (λ number. number < 2 ^ 64) (named graph reference).nums index value fits old_small.nums })

fresh_small : (most_counts : ℕ) (graph : Graph) (new_thread : ℕ) (object : Object) → IsSmallGraph most_counts graph → IsSmallObject object → IsSmallGraph (most_counts + 1) (with_fresh graph new_thread object)
fresh_small most_counts graph new_thread object small fits =
    let with_it = object_small most_counts graph (fresh graph new_thread) object small fits in
    record {
      root = small.root;
      pin = small.pin;
      object = with_it.object;
      count = λ thread. let few = small.count thread in count_either (eqb thread new_thread) (graph.count thread + 1) (graph.count thread) (most_counts + 1) (omega (arith, few)) (omega (arith, few));
    }

pub later_small : (most_counts : ℕ) (graph : Graph) → IsSmallGraph most_counts graph → IsSmallGraph (most_counts + 1) graph
later_small most_counts graph small = record { root = small.root; pin = small.pin; object = small.object; count = λ thread. let few = small.count thread in omega (arith, few) }

-- ---- what a command answers

shown_fits : (reference : Reference) → IsSmallReference reference → FitsReply (shown reference)
shown_fits None small = tt
shown_fits (Some name) small = small

yes_or_no_fits : (holds : Bool) → FitsReply (yes_or_no holds)
yes_or_no_fits true = tt
yes_or_no_fits false = tt

record IsSmallOutcome (most : ℕ) (o : Outcome) : Type 0 where
  reply : FitsReply o.reply
  graph : IsSmallGraph most o.graph

on_small : {A : Type 0} (most_counts : ℕ) (found : Option A) (graph : Graph) (outcome_of : A → Outcome) → IsSmallGraph most_counts graph → ((value : A) → found ≡ Some value → IsSmallOutcome most_counts (outcome_of value)) → IsSmallOutcome most_counts (on found graph outcome_of)
on_small most_counts None graph outcome_of small each_small = record { reply = tt; graph = small }
on_small most_counts (Some value) graph outcome_of small each_small = each_small value refl

either_small : (most_counts : ℕ) (holds : Bool) (first_outcome second_outcome : Outcome) → IsSmallOutcome most_counts first_outcome → IsSmallOutcome most_counts second_outcome → IsSmallOutcome most_counts (cond holds first_outcome second_outcome)
either_small most_counts true first_outcome second_outcome small_outcome second_small = small_outcome
either_small most_counts false first_outcome second_outcome small_outcome second_small = second_small

outcome_small : (most_counts : ℕ) (graph : Graph) (thread : ℕ) (command : Command) → IsSmallGraph most_counts graph → thread < 2 ^ 32 → most_counts + 1 < 2 ^ 32 → FitsWhenWritten command → IsSmallOutcome (most_counts + 1) (outcome graph thread command)
outcome_small most_counts graph acting_thread (New dst refs nums) small thread counts_fit fits =
    let name : IsSmallName (fresh graph acting_thread) = (thread, let made = small.count acting_thread in omega (arith, made, counts_fit)) in
    record { reply = name; graph = root_small (most_counts + 1) _ acting_thread dst (Some (fresh graph acting_thread)) (fresh_small most_counts graph acting_thread (blank refs nums) small (blank_small refs nums)) name }
outcome_small most_counts graph acting_thread (Get dst src field) small thread counts_fit fits =
    on_small (most_counts + 1) (field_at graph acting_thread src field) graph _ (later_small most_counts graph small) (λ found_value value_there.
    let ref = element_of_all IsSmallReference (named graph (graph.root acting_thread src)).refs field found_value (named_small most_counts graph (graph.root acting_thread src) small).refs value_there in
    record { reply = shown_fits found_value ref; graph = root_small (most_counts + 1) graph acting_thread dst found_value (later_small most_counts graph small) ref })
outcome_small most_counts graph acting_thread (Set obj field val) small thread counts_fit fits =
    on_small (most_counts + 1) (field_at graph acting_thread obj field) graph _ (later_small most_counts graph small) (λ found_value value_there. record { reply = tt; graph = field_small (most_counts + 1) graph acting_thread obj field (graph.root acting_thread val) (later_small most_counts graph small) (small.root acting_thread val) })
outcome_small most_counts graph acting_thread (Cas obj field expect val) small thread counts_fit fits =
    on_small (most_counts + 1) (field_at graph acting_thread obj field) graph _ (later_small most_counts graph small) (λ found_value value_there.
    either_small (most_counts + 1) (same_reference found_value (graph.root acting_thread expect)) _ _ (record { reply = tt; graph = field_small (most_counts + 1) graph acting_thread obj field (graph.root acting_thread val) (later_small most_counts graph small) (small.root acting_thread val) }) (record { reply = tt; graph = later_small most_counts graph small }))
outcome_small most_counts graph acting_thread (Xchg dst obj field val) small thread counts_fit fits =
    on_small (most_counts + 1) (field_at graph acting_thread obj field) graph _ (later_small most_counts graph small) (λ found_value value_there.
    let ref = element_of_all IsSmallReference (named graph (graph.root acting_thread obj)).refs field found_value (named_small most_counts graph (graph.root acting_thread obj) small).refs value_there in
    record { reply = shown_fits found_value ref; graph = root_small (most_counts + 1) _ acting_thread dst found_value (field_small (most_counts + 1) graph acting_thread obj field (graph.root acting_thread val) (later_small most_counts graph small) (small.root acting_thread val)) ref })
outcome_small most_counts graph acting_thread (Rd obj index) small thread counts_fit fits =
    on_small (most_counts + 1) (number_at graph acting_thread obj index) graph _ (later_small most_counts graph small) (λ number value_there.
    record { reply = element_of_all (λ each_number. each_number < 2 ^ 64) (named graph (graph.root acting_thread obj)).nums index number (named_small most_counts graph (graph.root acting_thread obj) small).nums value_there; graph = later_small most_counts graph small })
outcome_small most_counts graph acting_thread (Wr obj index value) small thread counts_fit fits =
    on_small (most_counts + 1) (number_at graph acting_thread obj index) graph _ (later_small most_counts graph small) (λ number value_there. record { reply = tt; graph = number_small (most_counts + 1) graph acting_thread obj index value (later_small most_counts graph small) fits })
outcome_small most_counts graph acting_thread (Copy dst src) small thread counts_fit fits = record { reply = tt; graph = root_small (most_counts + 1) graph acting_thread dst (graph.root acting_thread src) (later_small most_counts graph small) (small.root acting_thread src) }
outcome_small most_counts graph acting_thread (Drop dst) small thread counts_fit fits = record { reply = tt; graph = root_small (most_counts + 1) graph acting_thread dst None (later_small most_counts graph small) tt }
outcome_small most_counts graph acting_thread (Same first_root second_root) small thread counts_fit fits = record { reply = yes_or_no_fits _; graph = later_small most_counts graph small }
outcome_small most_counts graph acting_thread Gc small thread counts_fit fits = record { reply = tt; graph = later_small most_counts graph small }
outcome_small most_counts graph acting_thread (Pin slot obj) small thread counts_fit fits = record { reply = tt; graph = later_small most_counts graph small }
outcome_small most_counts graph acting_thread (Unpin slot) small thread counts_fit fits =
    on_small (most_counts + 1) (graph.pin acting_thread slot) graph _ (later_small most_counts graph small) (λ held_pin value_there. record { reply = tt; graph = pin_small (most_counts + 1) graph acting_thread slot None (later_small most_counts graph small) tt })

-- what a command pins is the object of a root
pinned_small : (most_counts : ℕ) (graph : Graph) (thread : ℕ) (command : Command) → IsSmallGraph most_counts graph → IsSmallReference (pinned_by graph thread command)
pinned_small most_counts graph thread (Pin slot obj) small = small_either _ None (graph.root thread obj) tt (small.root thread obj)
pinned_small most_counts graph thread (New dst refs nums) small = tt
pinned_small most_counts graph thread _ small = tt

-- ---- histories

-- an entry of a thread that has a number of 32 bits, whose command can be written
pub record IsAsked (entry : Entry) : Type 0 where
  pub thread : entry.thread < 2 ^ 32
  pub fits : FitsWhenWritten entry.command

-- the replies fit, and the graph in the end is small
pub record HasSmall (most : ℕ) (graph_then : Graph) (entries : List Entry) : Type 0 where
  pub replies : AllByRecursion (λ e. FitsReply e.reply) entries
  pub graph : IsSmallGraph most (after graph_then entries)

entry_small : (regions region_words most_counts : ℕ) (graph : Graph) (entry : Entry) (graph_after : Graph) → (regions + 1) * region_words ≤ 2 ^ 64 → IsSmallGraph most_counts graph → IsAsked entry → most_counts + 1 < 2 ^ 32 → IsLegal regions region_words graph entry.thread entry.command entry.reply graph_after
    → FitsReply entry.reply × IsSmallGraph (most_counts + 1) graph_after
entry_small regions region_words most_counts graph entry graph_after room small asked counts_fit (inl told_reply) =
    let made = outcome_small most_counts graph entry.thread entry.command small asked.thread counts_fit asked.fits in
    (subst FitsReply (sym (ap (λ (some_outcome : Outcome). some_outcome.reply) told_reply.1)) made.reply, subst (IsSmallGraph (most_counts + 1)) (sym (ap (λ (some_outcome : Outcome). some_outcome.graph) told_reply.1)) made.graph)
entry_small regions region_words most_counts graph entry graph_after room small asked counts_fit (inr (inl heap_full)) = (subst FitsReply (sym heap_full.1) tt, subst (IsSmallGraph (most_counts + 1)) (sym heap_full.2) (later_small most_counts graph small))
entry_small regions region_words most_counts graph entry graph_after room small asked counts_fit (inr (inr pinning)) =
    let place : pinning.place < 2 ^ 64 = omega (arith, pinning.may.within.1, room) in
    let name : IsSmallReference (Some pinning.name) = subst IsSmallReference pinning.pins (pinned_small most_counts graph entry.thread entry.command small) in (
      subst FitsReply (sym pinning.reply) place,
      subst (IsSmallGraph (most_counts + 1)) (sym pinning.graph) (pin_small (most_counts + 1) graph entry.thread (slot_of entry.command) (Some (record { name = pinning.name; place = pinning.place })) (later_small most_counts graph small) name),
    )

pub history_small : (regions region_words most_counts : ℕ) (graph : Graph) (entries : List Entry) → (regions + 1) * region_words ≤ 2 ^ 64 → IsSmallGraph most_counts graph → EachIsLegal regions region_words graph entries → AllByRecursion IsAsked entries → most_counts + length entries < 2 ^ 32
    → HasSmall (most_counts + length entries) graph entries
history_small regions region_words most_counts graph [] room small legal asked counts_fit = record { replies = tt; graph = subst (λ (most_counts : ℕ). IsSmallGraph most_counts graph) (no_more most_counts) small }
  where
    no_more : (count : ℕ) → count ≡ count + 0
    no_more count = omega arith
history_small regions region_words most_counts graph (entry ∷ entries) room small legal asked counts_fit =
    let entry_fits = entry_small regions region_words most_counts graph entry (after_entry graph entry) room small asked.0 (omega (arith, counts_fit)) legal.0 in
    let others = history_small regions region_words (most_counts + 1) (after_entry graph entry) entries room entry_fits.1 legal.1 asked.1 (omega (arith, counts_fit)) in
    record { replies = (entry_fits.0, others.replies); graph = subst (λ (most_counts : ℕ). IsSmallGraph most_counts (after (after_entry graph entry) entries)) (one_more most_counts (length entries)) others.graph }
  where
    one_more : (count entry_count : ℕ) → count + 1 + entry_count ≡ count + suc entry_count
    one_more count entry_count = omega arith
