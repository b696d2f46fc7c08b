-- The set-up: thread 1 makes the anchor, while the others look for it in vain.
use Rattle.std.proofs.Common.{ℕ, zero, suc, ◌≡◌, ◌+◌, ◌<◌, ◌≤◌, ◌⊎◌, Bool, true, false, Some, None, List, [], ◌∷◌, ◌++◌, slice_get, slice_set, refl, sym, ap, ◌∙◌, subst, inl, inr, arith, le-leb}
use Rattle.std.specs.Prelude.{◌≢◌, ◌==◌, ◌&&◌, nat_le, if◌then◌else◌}
use Rattle.std.proofs.lemmas.Bool.{cases_eq, ne_eqb}
use Rattle.shen_graph.proofs.Numbers.{eqb_itself}
use Rattle.shen_graph.specs.declared.name.Name.{Name}
use Rattle.shen_graph.specs.declared.command.Command.{Command}
use Rattle.shen_graph.specs.declared.command.Command.TheVariants.{New, Get, Set}
use Rattle.shen_graph.specs.declared.command.Reply.{Reply}
use Rattle.shen_graph.specs.declared.command.Reply.TheVariants as reply
use Rattle.shen_graph.specs.Graph.{Graph, Object, Reference, hub, opening, same_name, with_root, with_object, with_fresh, fresh, blank}
use Rattle.shen_graph.specs.Step.{Outcome, outcome, answers}
use Rattle.managed_queue.specs.declared.spot.Spot.{Spot}
use Rattle.managed_queue.specs.declared.spot.Spot.TheVariants.{MakesAnchor, MakesFirst, SetsHead, SetsTail, Shows, Joins}
use Rattle.managed_queue.specs.Spots.{MayCome, IsGranted, next_spot, fixed_at, operation_ended, open_at}
use Rattle.managed_queue.specs.Spots.MayCome.{anchor_made, first_made, head_set, tail_set, anchor_shown, joined, put_begun, take_begun, filled, looked, followed, linked, helped, swung, turned, tail_taken, next_taken, compared, pushed, read, unlinked}
use Rattle.managed_queue.specs.Queue.{entry_spot}
use Rattle.managed_queue.proofs.Facts.{Objects, anchor, first, cell, ends, shown_hub, Chain, IsChain, AreMade, IsJoining, Facts}
use Rattle.managed_queue.proofs.Facts.IsLinked.{end}
use Rattle.managed_queue.proofs.Moves.{but, but_there, by_name, made_but}
use Rattle.managed_queue.proofs.Lookups.{IsPlain, own_root, other_root, by_outcome, gets, gets_bad, sets}
use Rattle.managed_queue.proofs.Steps.{waiting, made_fresh, fresh_none, nothing_there}

-- one thread's spot goes on by a command and its reply
abbrev pub goes_on : (ℕ → Spot) → ℕ → Command → Reply → ℕ → Spot
goes_on spots thread command answered asked_thread = if thread == asked_thread then next_spot (spots asked_thread) command answered else spots asked_thread

pub on_here : (spots : ℕ → Spot) (thread : ℕ) (command : Command) (answered : Reply) → goes_on spots thread command answered thread ≡ next_spot (spots thread) command answered
on_here spots thread command answered = ap (λ own_thread. if own_thread then next_spot (spots thread) command answered else spots thread) (eqb_itself thread)

pub on_there : (spots : ℕ → Spot) (thread : ℕ) (command : Command) (answered : Reply) (asked_thread : ℕ) → asked_thread ≢ thread → goes_on spots thread command answered asked_thread ≡ spots asked_thread
on_there spots thread command answered asked_thread different_thread = ap (λ own_thread. if own_thread then next_spot (spots asked_thread) command answered else spots asked_thread) (ne_eqb thread asked_thread (λ same_thread. different_thread (sym same_thread)))

-- both nodes' references of the anchor, once the first node is made
pub record Raised (object : Objects) (root : ℕ → Reference) (front back : Reference) : Type 0 where
  pub anchor_root : root 1 ≡ Some anchor
  pub first_root : root 2 ≡ Some first
  pub anchor_is : object anchor ≡ Some (ends front back)
  pub first_is : object first ≡ Some (cell None 0)

-- how far thread 1 is
abbrev pub IsRaised : Objects → (ℕ → Reference) → ℕ → Spot → Type 0
IsRaised object root count MakesAnchor = count ≡ 0
IsRaised object root count MakesFirst = (count ≡ 1) × (root 1 ≡ Some anchor) × (object anchor ≡ Some (ends None None))
IsRaised object root count SetsHead = Raised object root None None
IsRaised object root count SetsTail = Raised object root (Some first) None
IsRaised object root count Shows = Raised object root (Some first) (Some first)
IsRaised object root count _ = ⊥

-- The anchor is not shown.
pub record IsRising (graph : Graph) (spots : ℕ → Spot) : Type 0 where
  pub hub_is : graph.object hub ≡ Some (blank 16 0)
  pub made : AreMade graph.object graph.count
  pub hub_root : graph.root 1 0 ≡ Some hub
  pub null_root : graph.root 1 7 ≡ None
  pub raised : IsRaised graph.object (graph.root 1) (graph.count 1) (spots 1)
  pub others : (thread : ℕ) → thread ≢ 1 → (spots thread ≡ Joins) × IsJoining thread (graph.root thread)

-- Whatever is shown or not: these numbers are in the queue.
pub data State (graph : Graph) (spots : ℕ → Spot) (queue : List ℕ) : Type 0 where
  rising : IsRising graph spots → queue ≡ [] → State graph spots queue
  shown : (chain : Chain) → IsChain graph.object graph.count chain → ((thread : ℕ) → Facts thread graph.object chain (graph.root thread) (spots thread)) → queue ≡ waiting chain → State graph spots queue

-- A step of thread 1 or another while the anchor is not shown.
abbrev pub Rises : (graph : Graph) (spots : ℕ → Spot) (thread : ℕ) (command : Command) → Outcome → Type 0
Rises graph spots thread command reached_outcome = State reached_outcome.graph (goes_on spots thread command reached_outcome.reply) []

-- Another looks for the anchor: nothing is there.

others_after : (graph next_graph : Graph) (spots : ℕ → Spot) (acting_thread : ℕ) (command : Command) (answered : Reply) → IsRising graph spots → acting_thread ≢ 1 → spots acting_thread ≡ Joins → next_spot Joins command answered ≡ Joins → IsJoining acting_thread (next_graph.root acting_thread)
    → ((thread : ℕ) → thread ≢ acting_thread → next_graph.root thread ≡ graph.root thread) → (thread : ℕ) → thread ≢ 1 → (goes_on spots acting_thread command answered thread ≡ Joins) × IsJoining thread (next_graph.root thread)
others_after graph next_graph spots actor command answered is_rising actor_not_first joins spot_stays joining other_roots thread thread_not_first =
    elim (cases_eq thread actor) [
      | inl same_thread ↦ subst (λ (thread : ℕ). (goes_on spots actor command answered thread ≡ Joins) × IsJoining thread (next_graph.root thread)) (sym same_thread) (on_here spots actor command answered ∙ ap (λ spot. next_spot spot command answered) joins ∙ spot_stays, joining)
      | inr differ ↦ (
        on_there spots actor command answered thread differ ∙ (is_rising.others thread thread_not_first).0,
        subst (λ (root : ℕ → Reference). IsJoining thread root) (sym (other_roots thread differ)) (is_rising.others thread thread_not_first).1,
      )
    ]

-- only the roots of another thread change
looks_in_vain : (graph : Graph) (spots : ℕ → Spot) (acting_thread : ℕ) (answered : Reply) (next_graph : Graph) → IsRising graph spots → acting_thread ≢ 1 → next_graph.object ≡ graph.object → next_graph.count ≡ graph.count → spots acting_thread ≡ Joins → next_spot Joins (Get 1 0 0) answered ≡ Joins → IsJoining acting_thread (next_graph.root acting_thread)
    → ((thread : ℕ) → thread ≢ acting_thread → next_graph.root thread ≡ graph.root thread) → Rises graph spots acting_thread (Get 1 0 0) (answers answered next_graph)
looks_in_vain graph spots actor answered next_graph is_rising not_first object count joins spot_stays joining other_roots =
    let same_root : next_graph.root 1 ≡ graph.root 1 = other_roots 1 (λ is_first. not_first (sym is_first)) in
    rising (record {
      hub_is = ap (λ (objects : Objects). objects hub) object ∙ is_rising.hub_is;
      made = subst (λ (objects : Objects). AreMade objects next_graph.count) (sym object) (subst (λ (made_count : ℕ → ℕ). AreMade graph.object made_count) (sym count) is_rising.made);
      hub_root = ap (λ (root : ℕ → Reference). root 0) same_root ∙ is_rising.hub_root;
      null_root = ap (λ (root : ℕ → Reference). root 7) same_root ∙ is_rising.null_root;
      raised = subst (IsRaised next_graph.object (next_graph.root 1) (next_graph.count 1)) (sym (on_there spots actor (Get 1 0 0) answered 1 (λ is_first. not_first (sym is_first))))
          (subst (λ (objects : Objects). IsRaised objects (next_graph.root 1) (next_graph.count 1) (spots 1)) (sym object)
          (subst (λ (root : ℕ → Reference). IsRaised graph.object root (next_graph.count 1) (spots 1)) (sym same_root)
          (subst (λ (made_count : ℕ). IsRaised graph.object (graph.root 1) made_count (spots 1)) (sym (ap (λ (f : ℕ → ℕ). f 1) count)) is_rising.raised)));
      others = others_after graph next_graph spots actor (Get 1 0 0) answered is_rising not_first joins spot_stays joining other_roots;
    }) refl

rises_join : (graph : Graph) (spots : ℕ → Spot) (thread : ℕ) → IsRising graph spots → thread ≢ 1 → Rises graph spots thread (Get 1 0 0) (outcome graph thread (Get 1 0 0))
rises_join graph spots thread is_rising not_first =
    let own_joining = is_rising.others thread not_first in
    elim (own_joining.1.hub_root) [
      | inl no_root ↦ gets_bad (Rises graph spots thread (Get 1 0 0)) graph thread 1 0 0 no_root (looks_in_vain graph spots thread reply.Bad graph is_rising not_first refl refl own_joining.0 refl own_joining.1 (λ other_thread different_thread. refl))
      | inr at_hub ↦ gets (Rises graph spots thread (Get 1 0 0)) graph thread 1 0 0 hub (blank 16 0) None at_hub.0 is_rising.hub_is refl
          (looks_in_vain graph spots thread reply.Null (with_root graph thread 1 None) is_rising not_first refl refl own_joining.0 refl
          (subst (λ (root : ℕ → Reference). IsJoining thread root) (sym (own_root graph thread 1 None)) (record { hub_root = own_joining.1.hub_root; null_root = own_joining.1.null_root }))
          (λ asked_thread different_thread. other_root graph thread 1 asked_thread None different_thread))
    ]

-- Thread 1 goes on.

others_stay : (graph next_graph : Graph) (spots : ℕ → Spot) (command : Command) (answered : Reply) → IsRising graph spots → ((thread : ℕ) → thread ≢ 1 → next_graph.root thread ≡ graph.root thread) → (thread : ℕ) → thread ≢ 1 → (goes_on spots 1 command answered thread ≡ Joins) × IsJoining thread (next_graph.root thread)
others_stay graph next_graph spots command answered is_rising other_roots thread not_first = (
  on_there spots 1 command answered thread not_first ∙ (is_rising.others thread not_first).0,
  subst (λ (root : ℕ → Reference). IsJoining thread root) (sym (other_roots thread not_first)) (is_rising.others thread not_first).1,
)

-- its own part of what holds after a step
pub record Onward (graph other_graph : Graph) (spot : Spot) : Type 0 where
  pub hub_is : other_graph.object hub ≡ Some (blank 16 0)
  pub made : AreMade other_graph.object other_graph.count
  pub hub_root : other_graph.root 1 0 ≡ Some hub
  pub null_root : other_graph.root 1 7 ≡ None
  pub raised : IsRaised other_graph.object (other_graph.root 1) (other_graph.count 1) spot
  pub others : (thread : ℕ) → thread ≢ 1 → other_graph.root thread ≡ graph.root thread

goes_onward : (graph next_graph : Graph) (spots : ℕ → Spot) (spot : Spot) (command : Command) (answered : Reply) → IsRising graph spots → spots 1 ≡ spot → Onward graph next_graph (next_spot spot command answered) → Rises graph spots 1 command (answers answered next_graph)
goes_onward graph next_graph spots spot command answered is_rising at_spot onward =
    rising (record {
      hub_is = onward.hub_is;
      made = onward.made;
      hub_root = onward.hub_root;
      null_root = onward.null_root;
      raised = subst (IsRaised next_graph.object (next_graph.root 1) (next_graph.count 1)) (ap (λ given_spot. next_spot given_spot command answered) (sym at_spot)) onward.raised;
      others = others_stay graph next_graph spots command answered is_rising onward.others;
    }) refl

-- the name that thread 1 gives next
fresh_is : (graph : Graph) (given_count : ℕ) → graph.count 1 ≡ given_count → fresh graph 1 ≡ record { thread = 1; count = given_count + 1 }
fresh_is graph given_count counted = ap (λ count. record { thread = 1; count = count + 1 }) counted

one_more : (graph : Graph) (given_count : ℕ) (object : Object) → graph.count 1 ≡ given_count → (with_fresh graph 1 object).count 1 ≡ given_count + 1
one_more graph given_count object counted = ap (λ made_count. made_count + 1) counted

makes_anchor : (graph : Graph) (spots : ℕ → Spot) → IsRising graph spots → spots 1 ≡ MakesAnchor → graph.count 1 ≡ 0 → Rises graph spots 1 (New 1 2 0) (outcome graph 1 (New 1 2 0))
makes_anchor graph spots is_rising at_spot count =
    let name : fresh graph 1 ≡ anchor = fresh_is graph 0 count in
    let fresh_unused = fresh_none graph 1 is_rising.made (λ (impossible : 1 ≡ 0). omega (arith, impossible)) in
    goes_onward graph _ spots MakesAnchor (New 1 2 0) (reply.Ref (fresh graph 1)) is_rising at_spot (record {
      hub_is = but_there graph.object (fresh graph 1) (blank 2 0) hub _ (nothing_there graph.object hub (fresh graph 1) _ is_rising.hub_is fresh_unused) is_rising.hub_is;
      made = made_fresh graph 1 (blank 2 0) is_rising.made;
      hub_root = is_rising.hub_root;
      null_root = is_rising.null_root;
      raised = (one_more graph 0 (blank 2 0) count, ap Some name, subst (λ (name : Name). but graph.object name (blank 2 0) anchor ≡ Some (ends None None)) (sym name) refl);
      others = λ thread different_thread. other_root (with_fresh graph 1 (blank 2 0)) 1 1 thread (Some (fresh graph 1)) different_thread;
    })

makes_first : (graph : Graph) (spots : ℕ → Spot) → IsRising graph spots → spots 1 ≡ MakesFirst → IsRaised graph.object (graph.root 1) (graph.count 1) MakesFirst → Rises graph spots 1 (New 2 1 1) (outcome graph 1 (New 2 1 1))
makes_first graph spots is_rising at_spot raised =
    let name : fresh graph 1 ≡ first = fresh_is graph 1 raised.0 in
    let fresh_unused = fresh_none graph 1 is_rising.made (λ (impossible : 1 ≡ 0). omega (arith, impossible)) in
    goes_onward graph _ spots MakesFirst (New 2 1 1) (reply.Ref (fresh graph 1)) is_rising at_spot (record {
      hub_is = but_there graph.object (fresh graph 1) (blank 1 1) hub _ (nothing_there graph.object hub (fresh graph 1) _ is_rising.hub_is fresh_unused) is_rising.hub_is;
      made = made_fresh graph 1 (blank 1 1) is_rising.made;
      hub_root = is_rising.hub_root;
      null_root = is_rising.null_root;
      raised = record {
        anchor_root = raised.1;
        first_root = ap Some name;
        anchor_is = but_there graph.object (fresh graph 1) (blank 1 1) anchor _ (nothing_there graph.object anchor (fresh graph 1) _ raised.2 fresh_unused) raised.2;
        first_is = subst (λ (name : Name). but graph.object name (blank 1 1) first ≡ Some (cell None 0)) (sym name) refl;
      };
      others = λ thread different_thread. other_root (with_fresh graph 1 (blank 1 1)) 1 2 thread (Some (fresh graph 1)) different_thread;
    })

-- the anchor names other nodes
sets_ends : (graph : Graph) (spots : ℕ → Spot) (front back new_front new_back : Reference) → IsRising graph spots → Raised graph.object (graph.root 1) front back
    → (raised : Raised (but graph.object anchor (ends new_front new_back)) (graph.root 1) new_front new_back)
    × (but graph.object anchor (ends new_front new_back) hub ≡ Some (blank 16 0))
    × AreMade (but graph.object anchor (ends new_front new_back)) graph.count
sets_ends graph spots front back new_front new_back is_rising raised = (
  record { anchor_root = raised.anchor_root; first_root = raised.first_root; anchor_is = refl; first_is = raised.first_is },
  is_rising.hub_is,
  made_but graph.object graph.count anchor (ends new_front new_back) _ is_rising.made raised.anchor_is,
)

sets_head : (graph : Graph) (spots : ℕ → Spot) → IsRising graph spots → spots 1 ≡ SetsHead → Raised graph.object (graph.root 1) None None → Rises graph spots 1 (Set 1 0 2) (outcome graph 1 (Set 1 0 2))
sets_head graph spots is_rising at_spot raised =
    let new = sets_ends graph spots None None (Some first) None is_rising raised in
    sets (Rises graph spots 1 (Set 1 0 2)) graph 1 1 0 2 anchor (ends None None) None raised.anchor_root raised.anchor_is refl
    (subst (λ (reference : Reference). Rises graph spots 1 (Set 1 0 2) (answers reply.Ok (with_object graph anchor (ends reference None)))) (sym raised.first_root)
    (goes_onward graph (with_object graph anchor (ends (Some first) None)) spots SetsHead (Set 1 0 2) reply.Ok is_rising at_spot (record {
      hub_is = new.1;
      made = new.2;
      hub_root = is_rising.hub_root;
      null_root = is_rising.null_root;
      raised = new.0;
      others = λ other_thread different_thread. refl;
    })))

sets_tail : (graph : Graph) (spots : ℕ → Spot) → IsRising graph spots → spots 1 ≡ SetsTail → Raised graph.object (graph.root 1) (Some first) None → Rises graph spots 1 (Set 1 1 2) (outcome graph 1 (Set 1 1 2))
sets_tail graph spots is_rising at_spot raised =
    let new = sets_ends graph spots (Some first) None (Some first) (Some first) is_rising raised in
    sets (Rises graph spots 1 (Set 1 1 2)) graph 1 1 1 2 anchor (ends (Some first) None) None raised.anchor_root raised.anchor_is refl
    (subst (λ (reference : Reference). Rises graph spots 1 (Set 1 1 2) (answers reply.Ok (with_object graph anchor (ends (Some first) reference)))) (sym raised.first_root)
    (goes_onward graph (with_object graph anchor (ends (Some first) (Some first))) spots SetsTail (Set 1 1 2) reply.Ok is_rising at_spot (record {
      hub_is = new.1;
      made = new.2;
      hub_root = is_rising.hub_root;
      null_root = is_rising.null_root;
      raised = new.0;
      others = λ other_thread different_thread. refl;
    })))

-- The anchor is shown: the first node is all of the chain.

abbrev one_node : Chain
one_node = record {
  place = λ name. if same_name name first then Some 0 else None;
  numbers = 0 ∷ [];
  head = 0;
  tail = 0;
  last = 0;
  front = first;
  back = first;
}

placed_first : (name : Name) (place : ℕ) → one_node.place name ≡ Some place → (name ≡ first) × (place ≡ 0)
placed_first name place = by_name (λ found_place. found_place ≡ Some place → (name ≡ first) × (place ≡ 0)) name first (Some 0) None (λ same_first place_given. (same_first, cc)) (λ _ place_given. let never : None ≡ Some place = place_given in absurd cc)

first_chain : (graph : Graph) (spots : ℕ → Spot) → IsRising graph spots → Raised graph.object (graph.root 1) (Some first) (Some first) → IsChain (but graph.object hub shown_hub) graph.count one_node
first_chain graph spots is_rising raised = record {
  hub_is = refl;
  anchor_is = raised.anchor_is;
  front_at = refl;
  back_at = refl;
  order = omega arith;
  size = refl;
  within = λ name place name_placed. let placed = placed_first name place name_placed in omega (arith, placed.1);
  once = λ first_name second_name place first_placed second_placed. (placed_first first_name place first_placed).0 ∙ sym (placed_first second_name place second_placed).0;
  linked = λ name place name_placed. let placed = placed_first name place name_placed in
      end 0 (ap (but graph.object hub shown_hub) placed.0 ∙ raised.first_is) placed.1 (ap (slice_get (0 ∷ [])) placed.1);
  made = made_but graph.object graph.count hub shown_hub _ is_rising.made is_rising.hub_is;
}

shows_anchor : (graph : Graph) (spots : ℕ → Spot) → IsRising graph spots → spots 1 ≡ Shows → Raised graph.object (graph.root 1) (Some first) (Some first) → Rises graph spots 1 (Set 0 0 1) (outcome graph 1 (Set 0 0 1))
shows_anchor graph spots is_rising at_spot raised =
    sets (Rises graph spots 1 (Set 0 0 1)) graph 1 0 0 1 hub (blank 16 0) None is_rising.hub_root is_rising.hub_is refl
    (subst (λ (reference : Reference). Rises graph spots 1 (Set 0 0 1) (answers reply.Ok (with_object graph hub (record { refs = slice_set (blank 16 0).refs 0 reference; nums = [] })))) (sym raised.anchor_root)
    (shown one_node (first_chain graph spots is_rising raised) known refl))
  where
    known : (asked_thread : ℕ) → Facts asked_thread (but graph.object hub shown_hub) one_node (graph.root asked_thread) (goes_on spots 1 (Set 0 0 1) reply.Ok asked_thread)
    known asked_thread =
        elim (cases_eq asked_thread 1) [
          | inl first_thread ↦ subst (λ (thread : ℕ). Facts thread (but graph.object hub shown_hub) one_node (graph.root thread) (goes_on spots 1 (Set 0 0 1) reply.Ok thread)) (sym first_thread)
              (subst (Facts 1 (but graph.object hub shown_hub) one_node (graph.root 1)) (ap (λ spot. next_spot spot (Set 0 0 1) reply.Ok) (sym at_spot))
              (record { some = λ (impossible : 1 ≡ 0). omega (arith, impossible); anchor_root = raised.anchor_root; null_root = is_rising.null_root }))
          | inr not_first ↦ let joining = is_rising.others asked_thread not_first in
              subst (Facts asked_thread (but graph.object hub shown_hub) one_node (graph.root asked_thread)) (sym (on_there spots 1 (Set 0 0 1) reply.Ok asked_thread not_first ∙ joining.0)) joining.1
        ]

-- one thread's step

-- a New that was not refused
by_made : (P : Outcome → Type 0) (graph : Graph) (thread : ℕ) (command : Command) (answered : Reply) (next_graph : Graph) → answered ≢ reply.Full → IsPlain graph thread command answered next_graph → P (outcome graph thread command) → P (answers answered next_graph)
by_made P graph thread command answered next_graph not_full answer_legal holds = elim answer_legal [ inl plain_outcome ↦ subst P (sym plain_outcome) holds | inr full_reply ↦ absurd (not_full full_reply.1) ]

rises_one : (graph : Graph) (spots : ℕ → Spot) (spot : Spot) (command : Command) (answered : Reply) (next_graph : Graph) → IsRising graph spots → spots 1 ≡ spot → IsRaised graph.object (graph.root 1) (graph.count 1) spot → MayCome spot command → IsGranted spot answered → IsPlain graph 1 command answered next_graph
    → Rises graph spots 1 command (answers answered next_graph) × (fixed_at spot answered ≡ []) × (open_at spot ++ fixed_at spot answered ≡ operation_ended spot answered ++ open_at (next_spot spot command answered))
rises_one graph spots _ _ answered next_graph is_rising at_spot raised anchor_made granted answer_legal = (by_made (Rises graph spots 1 (New 1 2 0)) graph 1 (New 1 2 0) answered next_graph granted answer_legal (makes_anchor graph spots is_rising at_spot raised), refl, refl)
rises_one graph spots _ _ answered next_graph is_rising at_spot raised first_made granted answer_legal = (by_made (Rises graph spots 1 (New 2 1 1)) graph 1 (New 2 1 1) answered next_graph granted answer_legal (makes_first graph spots is_rising at_spot raised), refl, refl)
rises_one graph spots _ _ answered next_graph is_rising at_spot raised head_set granted answer_legal = (by_outcome (Rises graph spots 1 (Set 1 0 2)) graph 1 (Set 1 0 2) answered next_graph (λ never. never) answer_legal (sets_head graph spots is_rising at_spot raised), refl, refl)
rises_one graph spots _ _ answered next_graph is_rising at_spot raised tail_set granted answer_legal = (by_outcome (Rises graph spots 1 (Set 1 1 2)) graph 1 (Set 1 1 2) answered next_graph (λ never. never) answer_legal (sets_tail graph spots is_rising at_spot raised), refl, refl)
rises_one graph spots _ _ answered next_graph is_rising at_spot raised anchor_shown granted answer_legal = (by_outcome (Rises graph spots 1 (Set 0 0 1)) graph 1 (Set 0 0 1) answered next_graph (λ never. never) answer_legal (shows_anchor graph spots is_rising at_spot raised), refl, refl)
rises_one graph spots _ _ answered next_graph is_rising at_spot raised joined granted answer_legal = absurd raised
rises_one graph spots _ _ answered next_graph is_rising at_spot raised put_begun granted answer_legal = absurd raised
rises_one graph spots _ _ answered next_graph is_rising at_spot raised take_begun granted answer_legal = absurd raised
rises_one graph spots _ _ answered next_graph is_rising at_spot raised (filled value) granted answer_legal = absurd raised
rises_one graph spots _ _ answered next_graph is_rising at_spot raised (looked value) granted answer_legal = absurd raised
rises_one graph spots _ _ answered next_graph is_rising at_spot raised (followed value) granted answer_legal = absurd raised
rises_one graph spots _ _ answered next_graph is_rising at_spot raised (linked value) granted answer_legal = absurd raised
rises_one graph spots _ _ answered next_graph is_rising at_spot raised (helped value) granted answer_legal = absurd raised
rises_one graph spots _ _ answered next_graph is_rising at_spot raised (swung value) granted answer_legal = absurd raised
rises_one graph spots _ _ answered next_graph is_rising at_spot raised turned granted answer_legal = absurd raised
rises_one graph spots _ _ answered next_graph is_rising at_spot raised tail_taken granted answer_legal = absurd raised
rises_one graph spots _ _ answered next_graph is_rising at_spot raised next_taken granted answer_legal = absurd raised
rises_one graph spots _ _ answered next_graph is_rising at_spot raised (compared null) granted answer_legal = absurd raised
rises_one graph spots _ _ answered next_graph is_rising at_spot raised pushed granted answer_legal = absurd raised
rises_one graph spots _ _ answered next_graph is_rising at_spot raised read granted answer_legal = absurd raised
rises_one graph spots _ _ answered next_graph is_rising at_spot raised (unlinked value) granted answer_legal = absurd raised

rises_other : (graph : Graph) (spots : ℕ → Spot) (thread : ℕ) (spot : Spot) (command : Command) (answered : Reply) (next_graph : Graph) → IsRising graph spots → thread ≢ 1 → Joins ≡ spot → MayCome spot command → IsPlain graph thread command answered next_graph → Rises graph spots thread command (answers answered next_graph)
rises_other graph spots thread spot command answered next_graph is_rising not_first joins_spot may_come answer_legal =
    let only_command : command ≡ Get 1 0 0 = only_joins command (subst (λ (spot : Spot). MayCome spot command) (sym joins_spot) may_come) in
    subst (λ (command : Command). Rises graph spots thread command (answers answered next_graph)) (sym only_command)
    (by_outcome (Rises graph spots thread (Get 1 0 0)) graph thread (Get 1 0 0) answered next_graph (λ never. never) (subst (λ (command : Command). IsPlain graph thread command answered next_graph) only_command answer_legal) (rises_join graph spots thread is_rising not_first))
  where
    only_joins : (command : Command) → MayCome Joins command → command ≡ Get 1 0 0
    only_joins _ joined = refl

-- the replies stay those of the run
abbrev Replies : Command → Reply → Spot → Type 0
Replies command answered spot = open_at spot ++ fixed_at spot answered ≡ operation_ended spot answered ++ open_at (next_spot spot command answered)

-- any thread's
pub rises : (graph : Graph) (spots : ℕ → Spot) (thread : ℕ) (command : Command) (answered : Reply) (next_graph : Graph) → IsRising graph spots → MayCome (spots thread) command → IsGranted (spots thread) answered → IsPlain graph thread command answered next_graph
    → Rises graph spots thread command (answers answered next_graph) × (fixed_at (spots thread) answered ≡ []) × (open_at (spots thread) ++ fixed_at (spots thread) answered ≡ operation_ended (spots thread) answered ++ open_at (next_spot (spots thread) command answered))
rises graph spots thread command answered next_graph is_rising may_come granted answer_legal =
    elim (cases_eq thread 1) [
      | inl first_thread ↦ subst (λ (any_thread : ℕ). Rises graph spots any_thread command (answers answered next_graph) × (fixed_at (spots any_thread) answered ≡ []) × Replies command answered (spots any_thread)) (sym first_thread) (rises_one graph spots (spots 1) command answered next_graph is_rising refl is_rising.raised
          (subst (λ (any_thread : ℕ). MayCome (spots any_thread) command) first_thread may_come) (subst (λ (any_thread : ℕ). IsGranted (spots any_thread) answered) first_thread granted) (subst (λ (any_thread : ℕ). IsPlain graph any_thread command answered next_graph) first_thread answer_legal))
      | inr not_first ↦ let joining = (is_rising.others thread not_first).0 in
          (rises_other graph spots thread (spots thread) command answered next_graph is_rising not_first (sym joining) may_come answer_legal, subst (λ (spot : Spot). fixed_at spot answered ≡ []) (sym joining) refl, subst (Replies command answered) (sym joining) quiet)
    ]
  where
    nothing_open : (answered : Reply) → [] ≡ open_at (next_spot Joins command answered)
    nothing_open (reply.Ref n) = refl
    nothing_open reply.Null = refl
    nothing_open reply.Ok = refl
    nothing_open reply.Yes = refl
    nothing_open reply.No = refl
    nothing_open (reply.Number n) = refl
    nothing_open reply.Bad = refl
    nothing_open (reply.At place) = refl
    nothing_open reply.Full = refl

    quiet : Replies command answered Joins
    quiet = nothing_open answered

-- how all begins

starts : (threads thread : ℕ) → thread ≢ 1 → (holds : Bool) → (nat_le 1 thread && nat_le thread threads) ≡ holds → (((opening threads).root thread 0 ≡ None) ⊎ (((opening threads).root thread 0 ≡ Some hub) × (thread ≢ zero)))
starts threads zero not_first holds test_holds = inl refl
starts threads (suc previous) not_first true test_holds = inr (ap (λ holds. if holds && (0 == 0) then Some hub else None) test_holds, λ (impossible : suc previous ≡ zero). omega (arith, impossible))
starts threads (suc previous) not_first false test_holds = inl (ap (λ holds. if holds && (0 == 0) then Some hub else None) test_holds)

no_other_root : (holds : Bool) → ◌≡◌ {A = Reference} (if holds && false then Some hub else None) None
no_other_root true = refl
no_other_root false = refl

pub rising_opening : (threads : ℕ) → 0 < threads → IsRising (opening threads) entry_spot
rising_opening threads some_threads = record {
  hub_is = refl;
  made = λ name object. by_name (λ found_object. found_object ≡ Some object → (name ≡ hub) ⊎ (name.count ≤ 0)) name hub (Some (blank 16 0)) None (λ same_hub _. inl same_hub) (λ _ some_object. let never : None ≡ Some object = some_object in absurd cc);
  hub_root = ap (λ is_first. if is_first && (0 == 0) then Some hub else None) (le-leb 1 threads some_threads);
  null_root = no_other_root (nat_le 1 1 && nat_le 1 threads);
  raised = refl;
  others = λ thread not_first. (
    ap (λ is_first. if is_first then MakesAnchor else Joins) (ne_eqb thread 1 not_first),
    record { hub_root = starts threads thread not_first (nat_le 1 thread && nat_le thread threads) refl; null_root = no_other_root (nat_le 1 thread && nat_le thread threads) },
  );
}
