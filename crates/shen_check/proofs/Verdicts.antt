-- When a history is right, wrong or cut short, by its entries one after the other.
use Rattle.std.proofs.Common.{ℕ, zero, suc, ◌≡◌, ◌+◌, ◌<◌, ◌≤◌, List, [], ◌∷◌, ◌++◌, length, get_or, take, drop, Some, inl, inr, refl, ap, sym, subst, ◌∙◌, arith}
use Rattle.std.specs.Prelude.{slice_get}
use Rattle.std.proofs.lemmas.Bool.{cases_lt, cases_eq}
use Rattle.std.proofs.lemmas.List.{append_assoc, length-append, length-map, map-append, take_all, take_at, take-append-drop}
use Rattle.std.proofs.lemmas.List.Elements.{filter-append}
use Rattle.std.proofs.lemmas.Option.{slice_get_within, slice_get-get_or, same_Some}
use Rattle.heap_words.specs.declared.config.Config.{Config}
use Rattle.shen_graph.specs.declared.command.Command.{Command}
use Rattle.shen_graph.specs.declared.command.Command.TheVariants.{Gc}
use Rattle.shen_graph.specs.declared.command.Reply.TheVariants as reply
use Rattle.shen_graph.specs.Graph.{Graph, opening}
use Rattle.shen_graph.specs.Step.{IsLegal}
use Rattle.shen_graph.specs.History.{Entry, after, after_entry, of_thread, commands_of, script_of, EachIsLegal, Follows}
use Rattle.shen_graph.specs.Crowd.{IsLegalHistory}
use Rattle.churn.proofs.Refusals.{after-append}
use Rattle.shen_check.specs.declared.verdict.Verdict.{Verdict}
use Rattle.shen_check.specs.declared.verdict.Verdict.TheVariants.{Yes, Entry as NoEntry, Script, Text}
use Rattle.shen_check.specs.Judged.{graph_after, MayFollow, FollowUpTo, AllFollow, HasLeft, IsFirstWrong, IsRight, IsVerdict}
use Rattle.shen_check.proofs.Taking.{one_longer, of_same, of_other}

abbrev Scripts : Type 0
Scripts = List (List Command)

-- ---- one entry after the other

pub none_yet : (config : Config) (scripts : Scripts) (entries : List Entry) → FollowUpTo config scripts entries 0
none_yet config scripts entries index entry index_below entry_there = absurd (omega (arith, index_below))

pub follow_more : (config : Config) (scripts : Scripts) (entries : List Entry) (index : ℕ) (entry : Entry) → slice_get entries index ≡ Some entry → FollowUpTo config scripts entries index → MayFollow config scripts (take index entries) entry → FollowUpTo config scripts entries (index + 1)
follow_more config scripts entries index entry entry_there follow entry_follows asked_index asked_entry asked_below asked_there = elim (cases_eq asked_index index) [
  | inl same_index ↦ subst (λ (i : ℕ). MayFollow config scripts (take i entries) asked_entry) (sym same_index)
      (subst (MayFollow config scripts (take index entries)) (same_Some entry asked_entry (sym entry_there ∙ subst (λ (index : ℕ). slice_get entries index ≡ Some asked_entry) same_index asked_there)) entry_follows)
  | inr other_index ↦ follow asked_index asked_entry (omega (arith, asked_below, other_index)) asked_there
]

seam : (before entries : List Entry) (entry : Entry) → slice_get (before ++ entry ∷ entries) (length before) ≡ Some entry
seam [] entries entry = refl
seam (first_entry ∷ before) entries entry = seam before entries entry

-- ---- entries that follow are legal

each_from : (config : Config) (scripts : Scripts) (earlier_entries rest : List Entry) → AllFollow config scripts (earlier_entries ++ rest) → EachIsLegal config.regions config.region_words (graph_after scripts earlier_entries) rest
each_from config scripts earlier_entries [] follow = tt
each_from config scripts earlier_entries (entry ∷ later_entries) follow =
    let low : length earlier_entries < length (earlier_entries ++ entry ∷ later_entries) = let size = length-append earlier_entries (entry ∷ later_entries) in omega (arith, size) in
    let entry_follows = follow (length earlier_entries) entry low (seam earlier_entries later_entries entry) in
    let legal = subst (λ (entries : List Entry). IsLegal config.regions config.region_words (graph_after scripts entries) entry.thread entry.command entry.reply (after_entry (graph_after scripts entries) entry)) (take_at earlier_entries (entry ∷ later_entries) (length earlier_entries) refl) entry_follows.legal in
    let later_legal = each_from config scripts (earlier_entries ++ entry ∷ []) later_entries (subst (AllFollow config scripts) (sym (append_assoc earlier_entries (entry ∷ []) later_entries)) follow) in
    (legal, subst (λ (graph : Graph). EachIsLegal config.regions config.region_words graph later_entries) (after-append (opening (length scripts)) earlier_entries (entry ∷ [])) later_legal)

-- ---- and are fronts of the scripts

abbrev IsFront : Scripts → List Entry → ℕ → Type 0
IsFront scripts entries thread = commands_of (of_thread entries thread) ≡ take (length (of_thread entries thread)) (script_of scripts thread)

command_longer : (script : List Command) (index : ℕ) (command : Command) → slice_get script index ≡ Some command → take (index + 1) script ≡ take index script ++ command ∷ []
command_longer [] index command command_there = absurd (let none_within = slice_get_within [] index command command_there in omega (arith, none_within))
command_longer (first_command ∷ script) zero command command_there = ap (λ (command : Command). command ∷ []) (same_Some first_command command command_there)
command_longer (first_command ∷ later_commands) (suc index) command command_there =
    let next_number : suc index + 1 ≡ suc (index + 1) = omega arith in
    ap (λ (n : ℕ). take n (first_command ∷ later_commands)) next_number ∙ ap (λ (script : List Command). first_command ∷ script) (command_longer later_commands index command command_there)

front_more : (config : Config) (scripts : Scripts) (entries : List Entry) (entry : Entry) (thread : ℕ) → MayFollow config scripts entries entry → IsFront scripts entries thread → IsFront scripts (entries ++ entry ∷ []) thread
front_more config scripts entries entry thread entry_follows front = elim (cases_eq thread entry.thread) [
  | inl same_thread ↦ (
      let thread_entries = of_same entries entry thread same_thread in
      let size : length (of_thread (entries ++ entry ∷ []) thread) ≡ length (of_thread entries thread) + 1 = ap length thread_entries ∙ length-append (of_thread entries thread) (entry ∷ []) in
      let next_there : slice_get (script_of scripts thread) (length (of_thread entries thread)) ≡ Some entry.command = subst (λ (number : ℕ). slice_get (script_of scripts number) (length (of_thread entries number)) ≡ Some entry.command) (sym same_thread) entry_follows.next in
      ap commands_of thread_entries ∙ map-append (λ (entry : Entry). entry.command) (of_thread entries thread) (entry ∷ [])
      ∙ ap (λ (script : List Command). script ++ entry.command ∷ []) front
      ∙ sym (command_longer (script_of scripts thread) (length (of_thread entries thread)) entry.command next_there)
      ∙ sym (ap (λ (n : ℕ). take n (script_of scripts thread)) size))
  | inr threads_differ ↦ (
      let thread_entries = of_other entries entry thread threads_differ in
      ap commands_of thread_entries ∙ front ∙ sym (ap (λ (n : ℕ). take n (script_of scripts thread)) (ap length thread_entries)))
]

front_up_to : (config : Config) (scripts : Scripts) (entries : List Entry) (thread index : ℕ) → index ≤ length entries → FollowUpTo config scripts entries index → IsFront scripts (take index entries) thread
front_up_to config scripts entries thread zero low follow = refl
front_up_to config scripts other_entries thread (suc index) low follow =
    let entry : Entry = get_or other_entries index (record { thread = 0; command = Gc; reply = reply.Ok }) in
    let index_below : index < length other_entries = omega (arith, low) in
    let entry_there : slice_get other_entries index ≡ Some entry = slice_get-get_or other_entries index (record { thread = 0; command = Gc; reply = reply.Ok }) index_below in
    let next_number : index + 1 ≡ suc index = omega arith in
    let sofar = front_up_to config scripts other_entries thread index (omega (arith, low)) (λ number earlier_entry small entry_found. follow number earlier_entry (omega (arith, small)) entry_found) in
    let longer_front = front_more config scripts (take index other_entries) entry thread (follow index entry (omega arith) entry_there) sofar in
    subst (λ (entries : List Entry). IsFront scripts entries thread) (sym (one_longer other_entries index entry entry_there) ∙ ap (λ (number : ℕ). take number other_entries) next_number) longer_front

front_of : (config : Config) (scripts : Scripts) (entries : List Entry) (thread : ℕ) → AllFollow config scripts entries → IsFront scripts entries thread
front_of config scripts other_entries thread follow = subst (λ (entries : List Entry). IsFront scripts entries thread) (take_all (length other_entries) other_entries (omega arith)) (front_up_to config scripts other_entries thread (length other_entries) (omega arith) follow)

-- ---- so a history of which all follow, and no command is left, is right

pub legal_history : (config : Config) (scripts : Scripts) (entries : List Entry) → AllFollow config scripts entries → IsLegalHistory config.regions config.region_words scripts entries
legal_history config scripts entries follow = record {
  each = each_from config scripts [] entries follow;
  crowded = λ index entry entry_there answered_full. (follow index entry (slice_get_within entries index entry entry_there) entry_there).crowded answered_full;
}

pub follows_scripts : (config : Config) (scripts : Scripts) (entries : List Entry) → AllFollow config scripts entries → ((thread : ℕ) → HasLeft scripts entries thread → ⊥) → Follows scripts entries
follows_scripts config scripts entries follow none_left thread =
    let whole_length : length (script_of scripts thread) ≤ length (of_thread entries thread) = elim (cases_lt (length (of_thread entries thread)) (length (script_of scripts thread))) [ inl has_left ↦ absurd (none_left thread has_left) | inr all_done ↦ all_done ] in
    front_of config scripts entries thread follow ∙ take_all (length (of_thread entries thread)) (script_of scripts thread) whole_length

-- ---- and the other way round

legal_at : (regions region_words : ℕ) (graph : Graph) (entries : List Entry) (index : ℕ) (entry : Entry) → EachIsLegal regions region_words graph entries → slice_get entries index ≡ Some entry → IsLegal regions region_words (after graph (take index entries)) entry.thread entry.command entry.reply (after_entry (after graph (take index entries)) entry)
legal_at regions region_words graph [] index entry each_legal entry_there = absurd (let none_within = slice_get_within [] index entry entry_there in omega (arith, none_within))
legal_at regions region_words graph (first_entry ∷ entries) zero entry each_legal entry_there = subst (λ (entry : Entry). IsLegal regions region_words graph entry.thread entry.command entry.reply (after_entry graph entry)) (same_Some first_entry entry entry_there) each_legal.0
legal_at regions region_words graph (first_entry ∷ entries) (suc index) entry each_legal entry_there = legal_at regions region_words (after_entry graph first_entry) entries index entry each_legal.1 entry_there

next_at : (entries : List Entry) (index : ℕ) (entry : Entry) (script : List Command) → slice_get entries index ≡ Some entry → commands_of (of_thread entries entry.thread) ≡ script → slice_get script (length (of_thread (take index entries) entry.thread)) ≡ Some entry.command
next_at other_entries index entry script_commands entry_there same_script =
    let front = take index other_entries ++ entry ∷ [] in
    let split : front ++ drop (index + 1) other_entries ≡ other_entries = ap (λ (entries : List Entry). entries ++ drop (index + 1) other_entries) (sym (one_longer other_entries index entry entry_there)) ∙ take-append-drop (index + 1) other_entries in
    let rest = of_thread (drop (index + 1) other_entries) entry.thread in
    let split_entries : of_thread other_entries entry.thread ≡ of_thread (take index other_entries) entry.thread ++ (entry ∷ rest) =
    ap (λ (entries : List Entry). of_thread entries entry.thread) (sym split) ∙ filter-append _ front (drop (index + 1) other_entries)
    ∙ ap (λ (entries : List Entry). entries ++ rest) (of_same (take index other_entries) entry entry.thread refl) ∙ append_assoc (of_thread (take index other_entries) entry.thread) (entry ∷ []) rest in
    let split_script : script_commands ≡ commands_of (of_thread (take index other_entries) entry.thread) ++ (entry.command ∷ commands_of rest) = sym same_script ∙ ap commands_of split_entries ∙ map-append (λ (entry : Entry). entry.command) (of_thread (take index other_entries) entry.thread) (entry ∷ rest) in
    let size : length (of_thread (take index other_entries) entry.thread) ≡ length (commands_of (of_thread (take index other_entries) entry.thread)) = sym (length-map (of_thread (take index other_entries) entry.thread) (λ (entry : Entry). entry.command)) in
    ap (λ (index : ℕ). slice_get script_commands index) size ∙ ap (λ (script : List Command). slice_get script (length (commands_of (of_thread (take index other_entries) entry.thread)))) split_script
    ∙ command_seam (commands_of (of_thread (take index other_entries) entry.thread)) (commands_of rest) entry.command
  where
    command_seam : (before later_commands : List Command) (command : Command) → slice_get (before ++ command ∷ later_commands) (length before) ≡ Some command
    command_seam [] later_commands command = refl
    command_seam (first_command ∷ before) later_commands command = command_seam before later_commands command

right_follows : (version : ℕ) (config : Config) (scripts : Scripts) (entries : List Entry) (body : List ℕ) → IsRight version config scripts entries body → AllFollow config scripts entries
right_follows version config scripts entries body right index entry index_below entry_there = record {
  next = next_at entries index entry (script_of scripts entry.thread) entry_there (right.follows entry.thread);
  legal = legal_at config.regions config.region_words (opening (length scripts)) entries index entry right.legal.each entry_there;
  crowded = λ answered_full. right.legal.crowded index entry entry_there answered_full;
}

right_ends : (version : ℕ) (config : Config) (scripts : Scripts) (entries : List Entry) (body : List ℕ) → IsRight version config scripts entries body → (thread : ℕ) → HasLeft scripts entries thread → ⊥
right_ends version config scripts entries body right thread has_left =
    let same_length = ap length (right.follows thread) in
    let size = length-map (of_thread entries thread) (λ (entry : Entry). entry.command) in
    omega (arith, has_left, same_length, size)

-- ---- one verdict

wrong_stops : (config : Config) (scripts : Scripts) (entries : List Entry) (place end_place : ℕ) → IsFirstWrong config scripts entries place → place < end_place → FollowUpTo config scripts entries end_place → ⊥
wrong_stops config scripts entries place end_place first_wrong place_below follow = first_wrong.wrong (follow place first_wrong.entry place_below first_wrong.there)

wrong_never : (config : Config) (scripts : Scripts) (entries : List Entry) (place : ℕ) → IsFirstWrong config scripts entries place → AllFollow config scripts entries → ⊥
wrong_never config scripts entries place first_wrong follow = wrong_stops config scripts entries place (length entries) first_wrong (slice_get_within entries place first_wrong.entry first_wrong.there) follow

trichotomy : (a b : ℕ) → (a < b → ⊥) → (b < a → ⊥) → a ≡ b
trichotomy a b not_low never = elim (cases_eq a b) [ inl numbers_same ↦ numbers_same | inr numbers_differ ↦ elim (cases_lt a b) [ inl low ↦ absurd (not_low low) | inr high ↦ absurd (never (omega (arith, high, numbers_differ))) ] ]

pub one : (version : ℕ) (config : Config) (scripts : Scripts) (entries : List Entry) (body : List ℕ) (verdict other_verdict : Verdict) → IsVerdict version config scripts entries body verdict → IsVerdict version config scripts entries body other_verdict → verdict ≡ other_verdict
one version config scripts entries body Yes Yes verdict other_holds = refl
one version config scripts entries body Yes (NoEntry place) verdict other_holds = absurd (wrong_never config scripts entries place other_holds (right_follows version config scripts entries body verdict))
one version config scripts entries body Yes (Script thread) verdict other_holds = absurd (right_ends version config scripts entries body verdict thread other_holds.left)
one version config scripts entries body Yes Text verdict other_holds = absurd (other_holds.other verdict.text)
one version config scripts entries body (NoEntry place) Yes verdict other_holds = absurd (wrong_never config scripts entries place verdict (right_follows version config scripts entries body other_holds))
one version config scripts entries body (NoEntry place) (NoEntry other_place) verdict other_holds =
    ap NoEntry (trichotomy place other_place (λ low. wrong_stops config scripts entries place other_place verdict low other_holds.before) (λ low. wrong_stops config scripts entries other_place place other_holds low verdict.before))
one version config scripts entries body (NoEntry place) (Script thread) verdict other_holds = absurd (wrong_never config scripts entries place verdict other_holds.follow)
one version config scripts entries body (NoEntry place) Text verdict other_holds = absurd (wrong_never config scripts entries place verdict other_holds.follow)
one version config scripts entries body (Script thread) Yes verdict other_holds = absurd (right_ends version config scripts entries body other_holds thread verdict.left)
one version config scripts entries body (Script thread) (NoEntry place) verdict other_holds = absurd (wrong_never config scripts entries place other_holds verdict.follow)
one version config scripts entries body (Script thread) (Script other_thread) verdict other_holds = ap Script (trichotomy thread other_thread (λ low. other_holds.before thread low verdict.left) (λ low. verdict.before other_thread low other_holds.left))
one version config scripts entries body (Script thread) Text verdict other_holds = absurd (other_holds.none_left thread verdict.left)
one version config scripts entries body Text Yes verdict other_holds = absurd (verdict.other other_holds.text)
one version config scripts entries body Text (NoEntry place) verdict other_holds = absurd (wrong_never config scripts entries place other_holds verdict.follow)
one version config scripts entries body Text (Script thread) verdict other_holds = absurd (verdict.none_left thread other_holds.left)
one version config scripts entries body Text Text verdict other_holds = refl
