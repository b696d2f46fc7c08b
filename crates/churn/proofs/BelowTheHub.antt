-- Histories in which each thread works below its own field of the hub.
use Rattle.std.proofs.Common.{ℕ, ◌≡◌, ◌+◌, ◌≤◌, ◌⊎◌, false, List, [], ◌∷◌, refl, ap, ◌∙◌, sym, subst, inl, inr, arith}
use Rattle.std.specs.Prelude.{◌≢◌}
use Rattle.std.specs.List.{AllByRecursion}
use Rattle.std.proofs.lemmas.Bool.{cases_lt, ne_eqb}
use Rattle.std.proofs.lemmas.Bool.Decides.{eqb_tells}
use Rattle.shen_graph.proofs.Numbers.{eqb_itself}
use Rattle.shen_graph.specs.declared.command.Command.{Command}
use Rattle.shen_graph.specs.declared.command.Command.TheVariants.{New}
use Rattle.shen_graph.specs.declared.command.Reply.{Reply}
use Rattle.shen_graph.specs.declared.command.Reply.TheVariants as reply
use Rattle.shen_graph.specs.Graph.{Graph}
use Rattle.shen_graph.specs.Step.{Outcome, IsLegal, IsPin, outcome, answers}
use Rattle.shen_graph.specs.History.{Entry, is_full, after_entry, after, EachIsLegal, of_thread, commands_of}
use Rattle.shen_graph.proofs.Outcomes.{pins_none, leaves_outcome, legal_plain}
use Rattle.churn.specs.Script.{own_box}
use Rattle.churn.proofs.Belongings.{IsThread, Same, Tidy, Same-itself, Same-flip, Same-join}
use Rattle.churn.proofs.Moves.{Moved}
use Rattle.churn.proofs.Commands.{IsLater, Stepped, first-step, later-step}
use Rattle.churn.proofs.Commands.IsLater.{makes, writes, links, stores, drops, loads, reads, swaps, exchanges}

-- it was not refused, and is to pin no object
abbrev pub IsGiven : Entry → Type 0
IsGiven entry = (entry.reply ≢ reply.Full) × (IsPin entry.command → ⊥)

-- what is ahead of a thread: its whole script, or only commands that come after the first
abbrev pub Ahead : Graph → ℕ → List Command → Type 0
Ahead graph thread script =
    ((graph.count thread ≡ 0) × ((later_commands : List Command) × (script ≡ New own_box 16 0 ∷ later_commands) × AllByRecursion (IsLater thread) later_commands))
    ⊎ ((1 ≤ graph.count thread) × AllByRecursion (IsLater thread) script)

-- entries that may come from a graph on, as far as their commands say
pub record Going (graph : Graph) (entries : List Entry) : Type 0 where
  pub ahead : (thread : ℕ) → IsThread thread → Ahead graph thread (commands_of (of_thread entries thread))
  pub others : (thread : ℕ) → (IsThread thread → ⊥) → of_thread entries thread ≡ []

pub thread_or_not : (thread : ℕ) → IsThread thread ⊎ (IsThread thread → ⊥)
thread_or_not thread =
    elim (cases_lt thread 1) [
      | inl too_low ↦ inr (λ is_thread. omega (arith, is_thread.0))
      | inr low ↦ elim (cases_lt 3 thread) [ inl too_high ↦ inr (λ is_thread. omega (arith, is_thread.1)) | inr high ↦ inl (low, high) ]
    ]

pub of_thread-here : (entry : Entry) (entries : List Entry) → of_thread (entry ∷ entries) entry.thread ≡ entry ∷ of_thread entries entry.thread
of_thread-here entry entries = rw (eqb_itself entry.thread) refl

pub of_thread-there : (entry : Entry) (entries : List Entry) (thread : ℕ) → thread ≢ entry.thread → of_thread (entry ∷ entries) thread ≡ of_thread entries thread
of_thread-there entry entries thread threads_apart = rw (ne_eqb entry.thread thread (λ same_thread. threads_apart (sym same_thread))) refl

pub going-thread : (graph : Graph) (entry : Entry) (entries : List Entry) → Going graph (entry ∷ entries) → IsThread entry.thread
going-thread graph entry entries going =
    elim (thread_or_not entry.thread) [
      | inl is_thread ↦ is_thread
      | inr not_thread ↦ let no_entries : entry ∷ of_thread entries entry.thread ≡ [] = sym (of_thread-here entry entries) ∙ going.others entry.thread not_thread in absurd cc
    ]

-- the commands that the thread of the first entry has ahead
pub going-here : (graph : Graph) (entry : Entry) (entries : List Entry) → Going graph (entry ∷ entries) → Ahead graph entry.thread (entry.command ∷ commands_of (of_thread entries entry.thread))
going-here graph entry later_entries going =
    subst (λ (entries : List Entry). Ahead graph entry.thread (commands_of entries)) (of_thread-here entry later_entries) (going.ahead entry.thread (going-thread graph entry later_entries going))

-- a command that is next
stepped : (graph next_graph : Graph) (thread : ℕ) (command : Command) (script : List Command) → IsThread thread → Tidy graph → Tidy next_graph → Same thread graph next_graph → Ahead graph thread (command ∷ script) → Stepped thread graph next_graph (outcome graph thread command) (outcome next_graph thread command)
stepped graph next_graph thread_number command script thread tidy next_tidy same_graphs ahead =
    elim ahead [
      | inl at_start ↦
          let makes_box : command ≡ New own_box 16 0 = cc (at_start.1.1) in
          subst (λ (command : Command). Stepped thread_number graph next_graph (outcome graph thread_number command) (outcome next_graph thread_number command)) (sym makes_box) (first-step thread_number graph next_graph thread tidy next_tidy same_graphs at_start.0)
      | inr later ↦ later-step thread_number graph next_graph command thread tidy next_tidy same_graphs later.0 later.1.0
    ]

made : (graph : Graph) (thread : ℕ) → (outcome graph thread (New own_box 16 0)).graph.count thread ≡ graph.count thread + 1
made graph thread = rw (eqb_itself thread) refl

-- none of these is to pin an object

later_pins_none : (field : ℕ) (command : Command) → IsLater field command → IsPin command → ⊥
later_pins_none field _ (makes refs nums few_refs) is_pin = is_pin
later_pins_none field _ (writes value) is_pin = is_pin
later_pins_none field _ links is_pin = is_pin
later_pins_none field _ (stores index) is_pin = is_pin
later_pins_none field _ drops is_pin = is_pin
later_pins_none field _ (loads index) is_pin = is_pin
later_pins_none field _ reads is_pin = is_pin
later_pins_none field _ (swaps index) is_pin = is_pin
later_pins_none field _ (exchanges index) is_pin = is_pin

pub all_pin_none : (field : ℕ) (script : List Command) → AllByRecursion (IsLater field) script → AllByRecursion (λ some_command. IsPin some_command → ⊥) script
all_pin_none field [] all_later = tt
all_pin_none field (command ∷ script) all_later = (later_pins_none field command all_later.0, all_pin_none field script all_later.1)

pub ahead_pins_none : (graph : Graph) (field : ℕ) (command : Command) (script : List Command) → Ahead graph field (command ∷ script) → IsPin command → ⊥
ahead_pins_none graph field command script ahead is_pin =
    elim ahead [
      | inl at_start ↦ let makes_box : command ≡ New own_box 16 0 = cc (at_start.1.1) in subst IsPin makes_box is_pin
      | inr later ↦ later_pins_none field command later.1.0 is_pin
    ]

-- what is ahead after it
ahead-step : (graph : Graph) (thread : ℕ) (command : Command) (script : List Command) → Ahead graph thread (command ∷ script) → graph.count thread ≤ (outcome graph thread command).graph.count thread → Ahead (outcome graph thread command).graph thread script
ahead-step graph thread command script ahead grows =
    elim ahead [
      | inl at_start ↦
          let makes_box : command ≡ New own_box 16 0 = cc (at_start.1.1) in
          let same_script : at_start.1.0 ≡ script = cc (at_start.1.1) in
          let count : (outcome graph thread command).graph.count thread ≡ graph.count thread + 1 = subst (λ (command : Command). (outcome graph thread command).graph.count thread ≡ graph.count thread + 1) (sym makes_box) (made graph thread) in
          inr (omega arith, subst (AllByRecursion (IsLater thread)) same_script at_start.1.2)
      | inr later ↦ inr (omega (arith, later.0), later.1.1)
    ]

-- A legal entry that is not Full, in two graphs that are the same to its thread.
pub record Went (graph next_graph : Graph) (entry : Entry) (entries : List Entry) : Type 0 where
  pub moved : Moved entry.thread graph next_graph (after_entry graph entry) (after_entry next_graph entry)
  pub legal : IsLegal 16 256 next_graph entry.thread entry.command entry.reply (after_entry next_graph entry)
  pub going : Going (after_entry graph entry) entries

not_full : (answer : Reply) → answer ≢ reply.Full → is_full answer ≡ false
not_full reply.Full unrefused = absurd (unrefused refl)
not_full (reply.Ref name) unrefused = refl
not_full reply.Null unrefused = refl
not_full reply.Ok unrefused = refl
not_full reply.Yes unrefused = refl
not_full reply.No unrefused = refl
not_full (reply.Number number) unrefused = refl
not_full reply.Bad unrefused = refl
not_full (reply.At place) unrefused = refl

pub after_given : (graph : Graph) (entry : Entry) → IsGiven entry → after_entry graph entry ≡ (outcome graph entry.thread entry.command).graph
after_given graph entry is_given = rw (not_full entry.reply is_given.0) (leaves_outcome graph entry.thread entry.command entry.reply is_given.1)

pub replied : (graph next_graph : Graph) (entry : Entry) → IsLegal 16 256 graph entry.thread entry.command entry.reply next_graph → IsGiven entry → entry.reply ≡ (outcome graph entry.thread entry.command).reply
replied graph next_graph entry legal_entry is_given =
    elim (legal_plain 16 256 graph entry.thread entry.command entry.reply next_graph is_given.1 legal_entry) [ inl done ↦ ap (λ (result : Outcome). result.reply) done | inr refused ↦ absurd (is_given.0 refused.1) ]

pub entry-step : (graph other_graph : Graph) (entry : Entry) (entries : List Entry) → Tidy graph → Tidy other_graph → Same entry.thread graph other_graph → Going graph (entry ∷ entries)
    → IsLegal 16 256 graph entry.thread entry.command entry.reply (after_entry graph entry) → IsGiven entry → Went graph other_graph entry entries
entry-step other_graph graph_then entry later_entries tidy then_tidy same_graphs going legal_entry is_given =
    let own_thread = entry.thread in
    let command = entry.command in
    let thread = going-thread other_graph entry later_entries going in
    let commands_ahead = going-here other_graph entry later_entries going in
    let step = stepped other_graph graph_then own_thread command (commands_of (of_thread later_entries own_thread)) thread tidy then_tidy same_graphs commands_ahead in
    let left_after = after_given other_graph entry is_given in
    let right = after_given graph_then entry is_given in
    let same_reply : entry.reply ≡ (outcome other_graph own_thread command).reply = replied other_graph (after_entry other_graph entry) entry legal_entry is_given in
    let moved : Moved own_thread other_graph graph_then (after_entry other_graph entry) (after_entry graph_then entry) =
    subst (λ (graph : Graph). Moved own_thread other_graph graph_then graph (after_entry graph_then entry)) (sym left_after) (subst (λ (graph : Graph). Moved own_thread other_graph graph_then (outcome other_graph own_thread command).graph graph) (sym right) step.moved) in
    record {
      moved = moved;
      legal = inl (pins_none graph_then own_thread command is_given.1, same_outcome entry.reply (outcome graph_then own_thread command) (after_entry graph_then entry) (same_reply ∙ step.reply) right);
      going = record {
        ahead = λ thread is_thread. elim (eqb_tells thread own_thread) as (λ _. Ahead (after_entry other_graph entry) thread (commands_of (of_thread later_entries thread))) [
          | inl compared ↦ subst (λ (some_thread : ℕ). Ahead (after_entry other_graph entry) some_thread (commands_of (of_thread later_entries some_thread))) (sym compared.1)
              (subst (λ (graph : Graph). Ahead graph own_thread (commands_of (of_thread later_entries own_thread))) (sym left_after) (ahead-step other_graph own_thread command (commands_of (of_thread later_entries own_thread)) commands_ahead step.moved.grows))
          | inr compared ↦ other_ahead thread is_thread compared.1 moved (going.ahead thread is_thread)
        ];
        others = λ other_thread not_thread. elim (eqb_tells other_thread own_thread) [
          | inl compared ↦ absurd (not_thread (subst IsThread (sym compared.1) thread))
          | inr compared ↦ sym (of_thread-there entry later_entries other_thread compared.1) ∙ going.others other_thread not_thread
        ];
      };
    }
  where
    same_outcome : (answer : Reply) (result : Outcome) (answer_graph : Graph) → answer ≡ result.reply → answer_graph ≡ result.graph → answers answer answer_graph ≡ result
    same_outcome answer result answer_graph reply same_graph = λ number. record { reply = reply number; graph = same_graph number }

    other_ahead : (any_thread : ℕ) → IsThread any_thread → any_thread ≢ entry.thread → Moved entry.thread other_graph graph_then (after_entry other_graph entry) (after_entry graph_then entry) → Ahead other_graph any_thread (commands_of (of_thread (entry ∷ later_entries) any_thread)) → Ahead (after_entry other_graph entry) any_thread (commands_of (of_thread later_entries any_thread))
    other_ahead any_thread is_thread threads_apart moved ahead =
        let count = (moved.frame any_thread is_thread threads_apart).count in
        let ahead_there : Ahead other_graph any_thread (commands_of (of_thread later_entries any_thread)) = subst (λ (entries : List Entry). Ahead other_graph any_thread (commands_of entries)) (of_thread-there entry later_entries any_thread threads_apart) ahead in
        elim ahead_there [ inl at_start ↦ inl (sym count ∙ at_start.0, at_start.1) | inr later ↦ inr (omega (arith, count, later.0), later.1) ]

-- The entries of one thread alone, from a graph that is the same to it.
pub record Solo (thread : ℕ) (graph other_graph : Graph) (entries : List Entry) : Type 0 where
  pub legal : EachIsLegal 16 256 other_graph (of_thread entries thread)
  pub same : Same thread (after graph entries) (after other_graph (of_thread entries thread))
  pub tidy : Tidy (after graph entries)
  pub other : Tidy (after other_graph (of_thread entries thread))
  pub frame : (u : ℕ) → IsThread u → u ≢ thread → Same u other_graph (after other_graph (of_thread entries thread))

-- from any two graphs
abbrev pub AreSolo : ℕ → List Entry → Type 0
AreSolo thread entries = (graph next_graph : Graph) → Tidy graph → Tidy next_graph → Same thread graph next_graph → Going graph entries → EachIsLegal 16 256 graph entries → AllByRecursion IsGiven entries → Solo thread graph next_graph entries

pub solo : (thread : ℕ) → IsThread thread → (entries : List Entry) (graph next_graph : Graph) → Tidy graph → Tidy next_graph → Same thread graph next_graph → Going graph entries → EachIsLegal 16 256 graph entries → AllByRecursion IsGiven entries → Solo thread graph next_graph entries
solo thread_number thread [] graph next_graph tidy next_tidy same_graphs going legal are_given =
    record { legal = tt; same = same_graphs; tidy = tidy; other = next_tidy; frame = λ thread _ _. Same-itself thread next_graph }
solo thread_number thread (entry ∷ later_entries) graph next_graph tidy next_tidy same_graphs going legal are_given =
    elim (eqb_tells thread_number entry.thread) as (λ _. Solo thread_number graph next_graph (entry ∷ later_entries)) [ inl compared ↦ own (solo thread_number thread later_entries) compared.1 | inr compared ↦ others (solo thread_number thread later_entries) compared.1 ]
  where
    own : AreSolo thread_number later_entries → thread_number ≡ entry.thread → Solo thread_number graph next_graph (entry ∷ later_entries)
    own rest_solo same_thread =
        let went = entry-step graph next_graph entry later_entries tidy next_tidy (subst (λ (thread : ℕ). Same thread graph next_graph) same_thread same_graphs) going legal.0 are_given.0 in
        let later_solo = rest_solo (after_entry graph entry) (after_entry next_graph entry) went.moved.tidy went.moved.other (subst (λ (thread : ℕ). Same thread (after_entry graph entry) (after_entry next_graph entry)) (sym same_thread) went.moved.same) went.going legal.1 are_given.1 in
        let entries_here : of_thread (entry ∷ later_entries) thread_number ≡ entry ∷ of_thread later_entries thread_number = subst (λ (any_thread : ℕ). of_thread (entry ∷ later_entries) any_thread ≡ entry ∷ of_thread later_entries any_thread) (sym same_thread) (of_thread-here entry later_entries) in
        record {
          legal = subst (EachIsLegal 16 256 next_graph) (sym entries_here) (went.legal, later_solo.legal);
          same = subst (λ (entries : List Entry). Same thread_number (after graph (entry ∷ later_entries)) (after next_graph entries)) (sym entries_here) later_solo.same;
          tidy = later_solo.tidy;
          other = subst (λ (entries : List Entry). Tidy (after next_graph entries)) (sym entries_here) later_solo.other;
          frame = λ thread is_thread apart. subst (λ (entries : List Entry). Same thread next_graph (after next_graph entries)) (sym entries_here)
              (Same-join (went.moved.beside thread is_thread (λ at_entry. apart (at_entry ∙ sym same_thread))) (later_solo.frame thread is_thread apart));
        }

    others : AreSolo thread_number later_entries → thread_number ≢ entry.thread → Solo thread_number graph next_graph (entry ∷ later_entries)
    others rest_solo threads_apart =
        let went = entry-step graph graph entry later_entries tidy tidy (Same-itself entry.thread graph) going legal.0 are_given.0 in
        let solo_rest = rest_solo (after_entry graph entry) next_graph went.moved.tidy next_tidy (Same-join (Same-flip (went.moved.frame thread_number thread threads_apart)) same_graphs) went.going legal.1 are_given.1 in
        let entries_there = of_thread-there entry later_entries thread_number threads_apart in
        record {
          legal = subst (EachIsLegal 16 256 next_graph) (sym entries_there) solo_rest.legal;
          same = subst (λ (entries : List Entry). Same thread_number (after graph (entry ∷ later_entries)) (after next_graph entries)) (sym entries_there) solo_rest.same;
          tidy = solo_rest.tidy;
          other = subst (λ (entries : List Entry). Tidy (after next_graph entries)) (sym entries_there) solo_rest.other;
          frame = λ thread is_thread away. subst (λ (entries : List Entry). Same thread next_graph (after next_graph entries)) (sym entries_there) (solo_rest.frame thread is_thread away);
        }
