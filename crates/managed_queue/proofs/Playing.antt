-- All entries of a history, one after the other.
use Rattle.std.proofs.Common.{ℕ, ◌≡◌, Bool, true, false, List, [], ◌∷◌, ◌++◌, refl, sym, ap, ◌∙◌, subst, inl, inr, append_assoc, append-nil}
use Rattle.std.specs.Prelude.{◌≢◌, ◌==◌, if◌then◌else◌}
use Rattle.std.proofs.lemmas.Bool.{cases_eq, ne_eqb}
use Rattle.shen_graph.proofs.Numbers.{eqb_itself}
use Rattle.shen_graph.specs.declared.command.Command.{Command}
use Rattle.shen_graph.specs.declared.command.Reply.{Reply}
use Rattle.shen_graph.specs.Graph.{Graph, Reference, opening}
use Rattle.shen_graph.specs.Step.{Outcome, answers}
use Rattle.shen_graph.specs.History.{Entry, after_entry, of_thread, EachIsLegal}
use Rattle.shen_graph.proofs.Outcomes.{legal_plain}
use Rattle.managed_queue.specs.declared.spot.Spot.{Spot}
use Rattle.managed_queue.specs.declared.spot.Spot.TheVariants.{MakesAnchor, Joins}
use Rattle.managed_queue.specs.Spots.{Operation, MayCome, IsGranted, next_spot, fixed_at, operation_ended, open_at}
use Rattle.managed_queue.specs.Spots.Operation.{put, got, empty, full}
use Rattle.managed_queue.specs.Queue.{Leads, puts_of, gots_of, IsPlayed, spot_after, fixed_in, ended_in, spot_moved, fixed, entry_spot, EveryHistory}
use Rattle.managed_queue.proofs.Facts.{Chain, Facts}
use Rattle.managed_queue.proofs.Stable.{facts_stay}
use Rattle.managed_queue.proofs.Lookups.{IsPlain}
use Rattle.managed_queue.proofs.Small.{next_pins_none}
use Rattle.managed_queue.proofs.Steps.{waiting, Goes, goes}
use Rattle.managed_queue.proofs.Rising.{goes_on, on_here, on_there, State, rises, rising_opening}
use Rattle.managed_queue.proofs.Rising.State.{rising, shown}

-- one step of one thread
pub record Steps (graph : Graph) (spots : ℕ → Spot) (queue : List ℕ) (t : ℕ) (command : Command) (outcome : Outcome) : Type 0 where
  pub new_queue : List ℕ
  pub state : State outcome.graph (goes_on spots t command outcome.reply) new_queue
  pub run : Leads queue (fixed_at (spots t) outcome.reply) new_queue
  pub replies : open_at (spots t) ++ fixed_at (spots t) outcome.reply ≡ operation_ended (spots t) outcome.reply ++ open_at (next_spot (spots t) command outcome.reply)

-- all users after one's step
stands : (graph : Graph) (spots : ℕ → Spot) (chain : Chain) (thread : ℕ) (command : Command) (outcome : Outcome) → ((user : ℕ) → Facts user graph.object chain (graph.root user) (spots user)) → (step : Goes thread graph chain (spots thread) command outcome)
    → (user : ℕ) → Facts user outcome.graph.object step.after (outcome.graph.root user) (goes_on spots thread command outcome.reply user)
stands graph spots chain thread command outcome users step user =
    elim (cases_eq user thread) [
      | inl same_thread ↦ subst (λ (user : ℕ). Facts user outcome.graph.object step.after (outcome.graph.root user) (goes_on spots thread command outcome.reply user)) (sym same_thread)
          (subst (Facts thread outcome.graph.object step.after (outcome.graph.root thread)) (sym (on_here spots thread command outcome.reply)) step.facts)
      | inr threads_differ ↦ subst (Facts user outcome.graph.object step.after (outcome.graph.root user)) (sym (on_there spots thread command outcome.reply user threads_differ))
          (subst (λ (root : ℕ → Reference). Facts user outcome.graph.object step.after root (spots user)) (sym (step.others user threads_differ))
          (facts_stay user graph.object chain outcome.graph.object step.after (graph.root user) (spots user) (step.rely user threads_differ) (users user)))
    ]

stepped : (graph : Graph) (spots : ℕ → Spot) (queue : List ℕ) (thread : ℕ) (command : Command) (reply : Reply) (next_graph : Graph) → State graph spots queue → MayCome (spots thread) command → IsGranted (spots thread) reply → IsPlain graph thread command reply next_graph → Steps graph spots queue thread command (answers reply next_graph)
stepped graph spots queue thread command reply next_graph (rising stated queue_empty) may_come granted reply_legal =
    let step = rises graph spots thread command reply next_graph stated may_come granted reply_legal in
    record { new_queue = []; state = step.0; run = subst (λ (ops : List Operation). Leads queue ops []) (sym step.1) queue_empty; replies = step.2 }
stepped graph spots queue thread command reply next_graph (shown shown_chain chain users stated) may_come granted reply_legal =
    let step = goes thread graph shown_chain (spots thread) command reply next_graph chain (users thread) may_come reply_legal in
    record {
      new_queue = waiting step.after;
      state = shown step.after step.chain (stands graph spots shown_chain thread command (answers reply next_graph) users step) refl;
      run = subst (λ (values : List ℕ). Leads values (fixed_at (spots thread) reply) (waiting step.after)) (sym stated) step.run;
      replies = step.replies;
    }

-- a run goes on with another
leads_join : (queue between left : List ℕ) (first_run second_run : List Operation) → Leads queue first_run between → Leads between second_run left → Leads queue (first_run ++ second_run) left
leads_join queue between left [] second_run first_leads later = subst (λ (values : List ℕ). Leads values second_run left) (sym first_leads) later
leads_join queue between left (put value ∷ first_run) second_run first_leads later = leads_join (queue ++ value ∷ []) between left first_run second_run first_leads later
leads_join queue between left (got value ∷ first_run) second_run first_leads later = (first_leads.0, first_leads.1, leads_join first_leads.0 between left first_run second_run first_leads.2 later)
leads_join queue between left (empty ∷ first_run) second_run first_leads later = (first_leads.0, leads_join queue between left first_run second_run first_leads.1 later)
leads_join queue between left (full ∷ first_run) second_run first_leads later = leads_join queue between left first_run second_run first_leads later

-- the entries of a thread

pub of_here : (entry : Entry) (entries : List Entry) → of_thread (entry ∷ entries) entry.thread ≡ entry ∷ of_thread entries entry.thread
of_here entry entries = rw (eqb_itself entry.thread) refl

pub of_there : (entry : Entry) (entries : List Entry) (thread : ℕ) → thread ≢ entry.thread → of_thread (entry ∷ entries) thread ≡ of_thread entries thread
of_there entry entries thread threads_differ = rw (ne_eqb entry.thread thread (λ same_thread. threads_differ (sym same_thread))) refl

-- a thread's replies are those of the run, from a spot on
abbrev Answers : Spot → List Entry → Type 0
Answers spot entries = open_at spot ++ fixed_in spot entries ≡ ended_in spot entries ++ open_at (spot_after spot entries)

answers_on : (spot : Spot) (entry : Entry) (entries : List Entry) → open_at spot ++ fixed_at spot entry.reply ≡ operation_ended spot entry.reply ++ open_at (next_spot spot entry.command entry.reply)
    → Answers (next_spot spot entry.command entry.reply) entries → Answers spot (entry ∷ entries)
answers_on spot entry entries entry_answers later =
    let coming_spot = next_spot spot entry.command entry.reply in
    sym (append_assoc (open_at spot) (fixed_at spot entry.reply) (fixed_in coming_spot entries))
    ∙ ap (λ ended_operations. ended_operations ++ fixed_in coming_spot entries) entry_answers
    ∙ append_assoc (operation_ended spot entry.reply) (open_at coming_spot) (fixed_in coming_spot entries)
    ∙ ap (λ ended_operations. operation_ended spot entry.reply ++ ended_operations) later
    ∙ sym (append_assoc (operation_ended spot entry.reply) (ended_in coming_spot entries) (open_at (spot_after coming_spot entries)))

pub record Plays (spots : ℕ → Spot) (entries : List Entry) (queue : List ℕ) : Type 0 where
  pub left : List ℕ
  pub run : Leads queue (fixed spots entries) left
  pub replies : (thread : ℕ) → Answers (spots thread) (of_thread entries thread)

pub plays : (regions region_words : ℕ) (entries : List Entry) (graph : Graph) (spots : ℕ → Spot) (queue : List ℕ) → State graph spots queue → EachIsLegal regions region_words graph entries → ((thread : ℕ) → IsPlayed (spots thread) (of_thread entries thread)) → Plays spots entries queue
plays regions region_words [] graph spots queue state legal played = record { left = queue; run = refl; replies = λ thread. append-nil (open_at (spots thread)) }
plays regions region_words (entry ∷ entries) graph spots queue state legal played =
    let own_played : IsPlayed (spots entry.thread) (entry ∷ of_thread entries entry.thread) = subst (IsPlayed (spots entry.thread)) (of_here entry entries) (played entry.thread) in
    let step_legal = legal_plain regions region_words graph entry.thread entry.command entry.reply (after_entry graph entry) (next_pins_none (spots entry.thread) entry.command own_played.0) legal.0 in
    let step = stepped graph spots queue entry.thread entry.command entry.reply (after_entry graph entry) state own_played.0 own_played.1 step_legal in
    let ahead : (thread : ℕ) → IsPlayed (spot_moved spots entry thread) (of_thread entries thread) = λ thread. elim (cases_eq thread entry.thread) [
      | inl same_thread ↦ subst (λ (user : ℕ). IsPlayed (spot_moved spots entry user) (of_thread entries user)) (sym same_thread) (subst (λ (spot : Spot). IsPlayed spot (of_thread entries entry.thread)) (sym (on_here spots entry.thread entry.command entry.reply)) own_played.2)
      | inr threads_differ ↦ subst (λ (spot : Spot). IsPlayed spot (of_thread entries thread)) (sym (on_there spots entry.thread entry.command entry.reply thread threads_differ)) (subst (IsPlayed (spots thread)) (of_there entry entries thread threads_differ) (played thread))
    ] in
    let later = plays regions region_words entries (after_entry graph entry) (spot_moved spots entry) step.new_queue step.state legal.1 ahead in
    record {
      left = later.left;
      run = leads_join queue step.new_queue later.left (fixed_at (spots entry.thread) entry.reply) (fixed (spot_moved spots entry) entries) step.run later.run;
      replies = λ thread. elim (cases_eq thread entry.thread) [
        | inl same_thread ↦ subst (λ (user : ℕ). Answers (spots user) (of_thread (entry ∷ entries) user)) (sym same_thread)
            (subst (Answers (spots entry.thread)) (sym (of_here entry entries))
            (answers_on (spots entry.thread) entry (of_thread entries entry.thread) step.replies
            (subst (λ (spot : Spot). Answers spot (of_thread entries entry.thread)) (on_here spots entry.thread entry.command entry.reply) (later.replies entry.thread))))
        | inr threads_differ ↦ subst (Answers (spots thread)) (sym (of_there entry entries thread threads_differ))
            (subst (λ (spot : Spot). Answers spot (of_thread entries thread)) (on_there spots entry.thread entry.command entry.reply thread threads_differ) (later.replies thread))
      ];
    }

-- what was put is what was got, and what is left
leads_order : (queue left : List ℕ) (ops : List Operation) → Leads queue ops left → queue ++ puts_of ops ≡ gots_of ops ++ left
leads_order queue left [] leads = append-nil queue ∙ leads
leads_order queue left (put value ∷ ops) leads = sym (append_assoc queue (value ∷ []) (puts_of ops)) ∙ leads_order (queue ++ value ∷ []) left ops leads
leads_order queue left (got value ∷ ops) leads = ap (λ queue_values. queue_values ++ puts_of ops) leads.1 ∙ ap (λ values. value ∷ values) (leads_order leads.0 left ops leads.2)
leads_order queue left (empty ∷ ops) leads = leads_order queue left ops leads.1
leads_order queue left (full ∷ ops) leads = leads_order queue left ops leads

-- no operation is open where a thread begins
begins_closed : (thread : ℕ) → open_at (entry_spot thread) ≡ []
begins_closed thread = at (thread == 1)
  where
    at : (holds : Bool) → open_at (if holds then MakesAnchor else Joins) ≡ []
    at true = refl
    at false = refl

pub every_history : EveryHistory
every_history regions region_words threads history some_thread legal played =
    let whole_run = plays regions region_words history (opening threads) entry_spot [] (rising (rising_opening threads some_thread) refl) legal played in
    record {
      left = whole_run.left;
      run = whole_run.run;
      order = leads_order [] whole_run.left (fixed entry_spot history) whole_run.run;
      replies = λ thread. ap (λ ended_operations. ended_operations ++ fixed_in (entry_spot thread) (of_thread history thread)) (sym (begins_closed thread)) ∙ whole_run.replies thread;
    }
