-- Each step of a user that has joined, or joins.
use Rattle.std.proofs.Common.{ℕ, zero, suc, ◌≡◌, ◌+◌, ◌≤◌, ◌⊎◌, Bool, true, false, Option, Some, None, List, [], ◌∷◌, ◌++◌, drop, slice_get, refl, sym, ap, ◌∙◌, subst, inl, inr, arith, drop-cons, drop_of_length-le}
use Rattle.std.specs.Prelude.{◌≢◌, ◌==◌, if◌then◌else◌}
use Rattle.std.proofs.lemmas.List.{drop-append-le}
use Rattle.std.proofs.lemmas.Option.{get_or_from_slice_get, slice_get_within}
use Rattle.shen_graph.proofs.Numbers.{eqb_itself}
use Rattle.shen_graph.specs.declared.name.Name.{Name}
use Rattle.shen_graph.specs.declared.command.Command.{Command}
use Rattle.shen_graph.specs.declared.command.Command.TheVariants.{New, Get, Cas, Rd, Wr, Same}
use Rattle.shen_graph.specs.declared.command.Reply.{Reply}
use Rattle.shen_graph.specs.declared.command.Reply.TheVariants as reply
use Rattle.shen_graph.specs.Graph.{Graph, Object, Reference, hub, with_root, with_object, with_fresh, fresh, blank}
use Rattle.shen_graph.specs.Step.{Outcome, outcome, answers}
use Rattle.managed_queue.specs.declared.spot.Spot.{Spot}
use Rattle.managed_queue.specs.declared.spot.Spot.TheVariants.{Joins, Rests, Fills, Looks, Follows, Links, Helps, Swings, Turns, TookHead, TookTail, Compares, Pushes, Reads, Unlinks}
use Rattle.managed_queue.specs.Spots.{MayCome, next_spot, fixed_at, operation_ended, open_at}
use Rattle.managed_queue.specs.Spots.MayCome.{anchor_made, first_made, head_set, tail_set, anchor_shown, joined, put_begun, take_begun, filled, looked, followed, linked, helped, swung, turned, tail_taken, next_taken, compared, pushed, read, unlinked}
use Rattle.managed_queue.specs.Queue.{Leads}
use Rattle.managed_queue.proofs.Facts.{Objects, anchor, cell, ends, shown_hub, Chain, IsLinked, IsChain, AreMade, IsUser, IsEdge, Facts, Rely}
use Rattle.managed_queue.proofs.Facts.IsLinked.{inner, end}
use Rattle.managed_queue.proofs.Stable.{facts_stay}
use Rattle.managed_queue.proofs.Moves.{but, but_here, by_name, apart_by_tag, same_place, stays, chain_but, rely_but, made_but, with_ends, ends_chain, ends_rely}
use Rattle.managed_queue.proofs.Linking.{with_last, CanLink, link_chain, link_rely, link_edge}
use Rattle.managed_queue.proofs.Lookups.{IsPlain, root_put, own_root, other_root, by_outcome, gets, gets_bad, swaps, reads, writes, compares}

-- the numbers in the queue
abbrev pub waiting : Chain → List ℕ
waiting chain = drop (suc chain.head) chain.numbers

-- A step that may be made: what is left, and what it means for the queue.
pub record Goes (other_thread : ℕ) (graph : Graph) (w : Chain) (spot : Spot) (command : Command) (o : Outcome) : Type 0 where
  pub after : Chain
  pub chain : IsChain o.graph.object o.graph.count after
  pub rely : (thread : ℕ) → thread ≢ other_thread → Rely thread graph.object w o.graph.object after
  pub others : (thread : ℕ) → thread ≢ other_thread → o.graph.root thread ≡ graph.root thread
  pub facts : Facts other_thread o.graph.object after (o.graph.root other_thread) (next_spot spot command o.reply)
  pub run : Leads (waiting w) (fixed_at spot o.reply) (waiting after)
  pub replies : open_at spot ++ fixed_at spot o.reply ≡ operation_ended spot o.reply ++ open_at (next_spot spot command o.reply)

-- the reply fixes an operation that changes nothing, and the replies stay those of the run
pub record Tells (chain : Chain) (spot : Spot) (command : Command) (answered : Reply) : Type 0 where
  pub run : Leads (waiting chain) (fixed_at spot answered) (waiting chain)
  pub replies : open_at spot ++ fixed_at spot answered ≡ operation_ended spot answered ++ open_at (next_spot spot command answered)

-- the graph stays
keeps : (thread : ℕ) (graph : Graph) (chain : Chain) (spot : Spot) (command : Command) (answered : Reply) → IsChain graph.object graph.count chain → Facts thread graph.object chain (graph.root thread) (next_spot spot command answered) → Tells chain spot command answered → Goes thread graph chain spot command (answers answered graph)
keeps thread graph queue spot command answered chain facts tells = record {
  after = queue;
  chain = chain;
  rely = λ other_thread thread_differs. stays other_thread graph.object queue;
  others = λ other_thread thread_differs. refl;
  facts = facts;
  run = tells.run;
  replies = tells.replies;
}

-- a root is loaded
loads : (thread : ℕ) (graph : Graph) (chain : Chain) (spot : Spot) (command : Command) (dst : ℕ) (answered : Reply) (value : Reference) → IsChain graph.object graph.count chain → Facts thread graph.object chain (root_put (graph.root thread) dst value) (next_spot spot command answered) → Tells chain spot command answered
    → Goes thread graph chain spot command (answers answered (with_root graph thread dst value))
loads thread graph queue spot command dst answered value chain facts tells = record {
  after = queue;
  chain = chain;
  rely = λ asked_thread thread_differs. stays asked_thread graph.object queue;
  others = λ other_thread thread_differs. other_root graph thread dst other_thread value thread_differs;
  facts = subst (λ (root : ℕ → Reference). Facts thread graph.object queue root (next_spot spot command answered)) (sym (own_root graph thread dst value)) facts;
  run = tells.run;
  replies = tells.replies;
}

user_put : (thread : ℕ) (root : ℕ → Reference) (dst : ℕ) (value : Reference) → (1 == dst) ≡ false → (7 == dst) ≡ false → IsUser thread root → IsUser thread (root_put root dst value)
user_put thread root dst value not_anchor seven user = record {
  some = user.some;
  anchor_root = ap (λ same_root. if same_root then value else root 1) not_anchor ∙ user.anchor_root;
  null_root = ap (λ same_root. if same_root then value else root 7) seven ∙ user.null_root;
}

-- a take has its head
takes_head : (thread : ℕ) (graph : Graph) (chain : Chain) (spot : Spot) → IsChain graph.object graph.count chain → IsUser thread (graph.root thread) → next_spot spot (Get 4 1 0) (reply.Ref chain.front) ≡ TookHead → Tells chain spot (Get 4 1 0) (reply.Ref chain.front)
    → Goes thread graph chain spot (Get 4 1 0) (outcome graph thread (Get 4 1 0))
takes_head thread graph queue spot chain user next_took_head tells =
    gets (Goes thread graph queue spot (Get 4 1 0)) graph thread 4 1 0 anchor (ends (Some queue.front) (Some queue.back)) (Some queue.front) user.anchor_root chain.anchor_is refl
    (loads thread graph queue spot (Get 4 1 0) 4 (reply.Ref queue.front) (Some queue.front) chain (subst (λ (spot : Spot). Facts thread graph.object queue (root_put (graph.root thread) 4 (Some queue.front)) spot) (sym next_took_head) known) tells)
  where
    known : Facts thread graph.object queue (root_put (graph.root thread) 4 (Some queue.front)) TookHead
    known = (user_put thread (graph.root thread) 4 (Some queue.front) refl refl user, record { name = queue.front; index = queue.head; is = refl; at = chain.front_at; low = omega arith })

goes_rests_take : (thread : ℕ) (graph : Graph) (chain : Chain) → IsChain graph.object graph.count chain → Facts thread graph.object chain (graph.root thread) Rests → Goes thread graph chain Rests (Get 4 1 0) (outcome graph thread (Get 4 1 0))
goes_rests_take thread graph queue chain facts = takes_head thread graph queue Rests chain facts refl (record { run = refl; replies = refl })

goes_turns : (thread : ℕ) (graph : Graph) (chain : Chain) → IsChain graph.object graph.count chain → Facts thread graph.object chain (graph.root thread) Turns → Goes thread graph chain Turns (Get 4 1 0) (outcome graph thread (Get 4 1 0))
goes_turns thread graph queue chain facts = takes_head thread graph queue Turns chain facts refl (record { run = refl; replies = refl })

-- a put

goes_refused : (thread : ℕ) (graph : Graph) (chain : Chain) → IsChain graph.object graph.count chain → Facts thread graph.object chain (graph.root thread) Rests → Goes thread graph chain Rests (New 3 1 1) (answers reply.Full graph)
goes_refused thread graph queue chain facts = keeps thread graph queue Rests (New 3 1 1) reply.Full chain facts (record { run = refl; replies = refl })

pub fresh_none : (graph : Graph) (thread : ℕ) → AreMade graph.object graph.count → thread ≢ zero → graph.object (fresh graph thread) ≡ None
fresh_none graph thread names_made some_thread = at (graph.object (fresh graph thread)) refl
  where
    at : (found : Option Object) → graph.object (fresh graph thread) ≡ found → found ≡ None
    at None fresh_object = refl
    at (Some found) fresh_object = elim (names_made (fresh graph thread) found fresh_object) [
      | inl at_hub ↦ absurd (some_thread (ap (λ (name : Name). name.thread) at_hub))
      | inr low ↦ absurd (omega (arith, low))
    ]

-- what is made has a name that was given
pub made_fresh : (graph : Graph) (thread : ℕ) (object : Object) → AreMade graph.object graph.count → AreMade (but graph.object (fresh graph thread) object) (with_fresh graph thread object).count
made_fresh graph thread object names_made made_name found_object =
    by_name (λ found. found ≡ Some found_object → (made_name ≡ hub) ⊎ (made_name.count ≤ (with_fresh graph thread object).count made_name.thread)) made_name (fresh graph thread) (Some object) (graph.object made_name)
    (λ names_equal _. inr (subst (λ (name : Name). name.count ≤ (with_fresh graph thread object).count name.thread) (sym names_equal) own))
    (λ _ old_object. elim (names_made made_name found_object old_object) [ inl at_hub ↦ inl at_hub | inr low ↦ inr (more made_name low) ])
  where
    own : graph.count thread + 1 ≤ (if thread == thread then graph.count thread + 1 else graph.count thread)
    own = rw (eqb_itself thread) (omega arith)

    up : (holds : Bool) (other_thread number : ℕ) → number ≤ graph.count other_thread → number ≤ (if holds then graph.count other_thread + 1 else graph.count other_thread)
    up true other_thread number number_low = omega (arith, number_low)
    up false other_thread number number_low = number_low

    more : (name : Name) → name.count ≤ graph.count name.thread → name.count ≤ (if name.thread == thread then graph.count name.thread + 1 else graph.count name.thread)
    more name count_low = up (name.thread == thread) name.thread name.count count_low

unplaced : (object : Objects) (count : ℕ → ℕ) (chain : Chain) (name : Name) → IsChain object count chain → object name ≡ None → chain.place name ≡ None
unplaced object count queue name chain no_object = at (queue.place name) refl
  where
    has : (index : ℕ) → IsLinked object queue.place queue.numbers queue.last name index → ⊥
    has index (inner next_name value cell_there place_there number) = let never : None ≡ Some (cell (Some next_name) value) = sym no_object ∙ cell_there in absurd cc
    has index (end value cell_there place_there number) = let never : None ≡ Some (cell None value) = sym no_object ∙ cell_there in absurd cc

    at : (found : Option ℕ) → queue.place name ≡ found → found ≡ None
    at None place_found = refl
    at (Some index) place_found = absurd (has index (chain.linked name index place_found))

-- an object is where there is none
pub nothing_there : (object : Objects) (name other_name : Name) (found_object : Object) → object name ≡ Some found_object → object other_name ≡ None → name ≢ other_name
nothing_there object name other_name found_object some_object no_object same_name = let never : Some found_object ≡ None = sym some_object ∙ ap object same_name ∙ no_object in absurd cc

goes_made : (thread : ℕ) (graph : Graph) (chain : Chain) → IsChain graph.object graph.count chain → Facts thread graph.object chain (graph.root thread) Rests → Goes thread graph chain Rests (New 3 1 1) (outcome graph thread (New 3 1 1))
goes_made thread graph queue chain facts =
    let no_object = fresh_none graph thread chain.made facts.some in
    let no_place = unplaced graph.object graph.count queue (fresh graph thread) chain no_object in
    record {
      after = queue;
      chain = chain_but graph.object graph.count (with_fresh graph thread (blank 1 1)).count queue (fresh graph thread) (blank 1 1) chain no_place (nothing_there graph.object hub (fresh graph thread) _ chain.hub_is no_object) (nothing_there graph.object anchor (fresh graph thread) _ chain.anchor_is no_object)
          (made_fresh graph thread (blank 1 1) chain.made);
      rely = λ asked_thread thread_differs. rely_but asked_thread graph.object queue (fresh graph thread) (blank 1 1) no_place (λ same_thread. thread_differs (sym same_thread));
      others = λ other_thread thread_differs. other_root (with_fresh graph thread (blank 1 1)) thread 3 other_thread (Some (fresh graph thread)) thread_differs;
      facts = subst (λ (root : ℕ → Reference). Facts thread (but graph.object (fresh graph thread) (blank 1 1)) queue root Fills) (sym (own_root (with_fresh graph thread (blank 1 1)) thread 3 (Some (fresh graph thread)))) (
        user_put thread (graph.root thread) 3 (Some (fresh graph thread)) refl refl facts,
        0,
        record { name = fresh graph thread; is = refl; mine = refl; apart = no_place; whole = but_here graph.object (fresh graph thread) (blank 1 1) },
      );
      run = refl;
      replies = refl;
    }

goes_fills : (thread : ℕ) (graph : Graph) (chain : Chain) (value : ℕ) → IsChain graph.object graph.count chain → Facts thread graph.object chain (graph.root thread) Fills → Goes thread graph chain Fills (Wr 3 0 value) (outcome graph thread (Wr 3 0 value))
goes_fills thread graph queue value chain facts =
    let own_node = facts.2 in
    writes (Goes thread graph queue Fills (Wr 3 0 value)) graph thread 3 0 value own_node.name (cell None facts.1) facts.1 own_node.is own_node.whole refl (record {
      after = queue;
      chain = chain_but graph.object graph.count graph.count queue own_node.name (cell None value) chain own_node.apart
          (apart_by_tag graph.object hub own_node.name _ _ chain.hub_is own_node.whole (λ (same_thread : 16 ≡ 1). omega (arith, same_thread)))
          (apart_by_tag graph.object anchor own_node.name _ _ chain.anchor_is own_node.whole (λ (same_thread : 2 ≡ 1). omega (arith, same_thread)))
          (made_but graph.object graph.count own_node.name (cell None value) _ chain.made own_node.whole);
      rely = λ other_thread thread_differs. rely_but other_thread graph.object queue own_node.name (cell None value) own_node.apart (λ same_thread. thread_differs (sym same_thread ∙ own_node.mine));
      others = λ other_thread thread_differs. refl;
      facts = (facts.0, record { name = own_node.name; is = own_node.is; mine = own_node.mine; apart = own_node.apart; whole = but_here graph.object own_node.name (cell None value) });
      run = refl;
      replies = refl;
    })

goes_looks : (thread : ℕ) (graph : Graph) (chain : Chain) (value : ℕ) → IsChain graph.object graph.count chain → Facts thread graph.object chain (graph.root thread) (Looks value) → Goes thread graph chain (Looks value) (Get 4 1 1) (outcome graph thread (Get 4 1 1))
goes_looks thread graph queue value chain facts =
    let user = facts.0 in
    gets (Goes thread graph queue (Looks value) (Get 4 1 1)) graph thread 4 1 1 anchor (ends (Some queue.front) (Some queue.back)) (Some queue.back) user.anchor_root chain.anchor_is refl
    (loads thread graph queue (Looks value) (Get 4 1 1) 4 (reply.Ref queue.back) (Some queue.back) chain (
      user_put thread (graph.root thread) 4 (Some queue.back) refl refl user,
      facts.1,
      record { name = queue.back; index = queue.tail; is = refl; at = chain.back_at; low = omega arith },
    ) (record { run = refl; replies = refl }))

goes_follows : (thread : ℕ) (graph : Graph) (chain : Chain) (value : ℕ) → IsChain graph.object graph.count chain → Facts thread graph.object chain (graph.root thread) (Follows value) → Goes thread graph chain (Follows value) (Get 5 4 0) (outcome graph thread (Get 5 4 0))
goes_follows thread graph queue value chain facts = on (chain.linked facts.2.name facts.2.index facts.2.at)
  where
    on : IsLinked graph.object queue.place queue.numbers queue.last facts.2.name facts.2.index → Goes thread graph queue (Follows value) (Get 5 4 0) (outcome graph thread (Get 5 4 0))
    on (inner next_name node_value cell_there next_at number) =
        gets (Goes thread graph queue (Follows value) (Get 5 4 0)) graph thread 5 4 0 facts.2.name (cell (Some next_name) node_value) (Some next_name) facts.2.is cell_there refl
        (loads thread graph queue (Follows value) (Get 5 4 0) 5 (reply.Ref next_name) (Some next_name) chain (
          user_put thread (graph.root thread) 5 (Some next_name) refl refl facts.0,
          facts.1,
          record { from = facts.2.name; to = next_name; index = facts.2.index; value = node_value; from_is = facts.2.is; to_is = refl; at = facts.2.at; next_at = next_at; whole = cell_there },
        ) (record { run = refl; replies = refl }))
    on (end node_value cell_there at_last number) =
        gets (Goes thread graph queue (Follows value) (Get 5 4 0)) graph thread 5 4 0 facts.2.name (cell None node_value) None facts.2.is cell_there refl
        (loads thread graph queue (Follows value) (Get 5 4 0) 5 reply.Null None chain (user_put thread (graph.root thread) 5 None refl refl facts.0, facts.1, facts.2) (record { run = refl; replies = refl }))

-- the node is linked behind the last
links_last : (thread : ℕ) (graph : Graph) (chain : Chain) (value old : ℕ) → IsChain graph.object graph.count chain → (facts : Facts thread graph.object chain (graph.root thread) (Links value)) → CanLink graph.object chain facts.2.name facts.1.name old value
    → Goes thread graph chain (Links value) (Cas 4 0 7 3) (answers reply.Yes (with_object graph facts.2.name (cell (Some facts.1.name) old)))
links_last thread graph queue value old chain facts linkable =
    let name = facts.2.name in
    let new_name = facts.1.name in
    let edge = link_edge graph.object queue name new_name old value linkable in
    record {
      after = with_last queue new_name value;
      chain = link_chain graph.object graph.count queue name new_name old value chain linkable;
      rely = λ other_thread thread_differs. link_rely other_thread graph.object graph.count queue name new_name old value chain linkable (λ same_thread. thread_differs (sym same_thread ∙ facts.1.mine));
      others = λ other_thread thread_differs. refl;
      facts = (facts.0, record { from = name; to = new_name; index = queue.last; value = old; from_is = facts.2.is; to_is = facts.1.is; at = edge.0; next_at = edge.1; whole = edge.2 });
      run = sym (drop-append-le (suc queue.head) queue.numbers (value ∷ []) (omega (arith, chain.size, chain.order, chain.within queue.back queue.tail chain.back_at)));
      replies = refl;
    }

goes_links : (thread : ℕ) (graph : Graph) (chain : Chain) (value : ℕ) → IsChain graph.object graph.count chain → Facts thread graph.object chain (graph.root thread) (Links value) → Goes thread graph chain (Links value) (Cas 4 0 7 3) (outcome graph thread (Cas 4 0 7 3))
goes_links thread graph queue value chain facts = on (chain.linked facts.2.name facts.2.index facts.2.at)
  where
    refused : Goes thread graph queue (Links value) (Cas 4 0 7 3) (answers reply.No graph)
    refused = keeps thread graph queue (Links value) (Cas 4 0 7 3) reply.No chain (facts.0, facts.1) (record { run = refl; replies = refl })

    on : IsLinked graph.object queue.place queue.numbers queue.last facts.2.name facts.2.index → Goes thread graph queue (Links value) (Cas 4 0 7 3) (outcome graph thread (Cas 4 0 7 3))
    on (inner next_name node_value cell_there next_at number) =
        swaps (Goes thread graph queue (Links value) (Cas 4 0 7 3)) graph thread 4 0 7 3 facts.2.name (cell (Some next_name) node_value) (Some next_name) facts.2.is cell_there refl
        (λ same_reference. let never : Some next_name ≡ None = same_reference ∙ facts.0.null_root in absurd cc)
        (λ _. refused)
    on (end node_value cell_there at_last number) =
        swaps (Goes thread graph queue (Links value) (Cas 4 0 7 3)) graph thread 4 0 7 3 facts.2.name (cell None node_value) None facts.2.is cell_there refl
        (λ _. subst (λ (reference : Reference). Goes thread graph queue (Links value) (Cas 4 0 7 3) (answers reply.Yes (with_object graph facts.2.name (cell reference node_value)))) (sym facts.1.is)
        (links_last thread graph queue value node_value chain facts (record {
          at = facts.2.at ∙ ap Some at_last;
          whole = cell_there;
          number = ap (slice_get queue.numbers) (sym at_last) ∙ number;
          none = facts.1.apart;
          fresh = facts.1.whole;
        })))
        (λ _. refused)

-- the three that move the tail: a root names a node and another the next one
advances : (thread : ℕ) (graph : Graph) (chain : Chain) (spot : Spot) (expect val : ℕ) → IsChain graph.object graph.count chain → IsUser thread (graph.root thread) → IsEdge graph.object chain (graph.root thread expect) (graph.root thread val)
    → Facts thread graph.object chain (graph.root thread) (next_spot spot (Cas 1 1 expect val) reply.Yes) → Facts thread graph.object chain (graph.root thread) (next_spot spot (Cas 1 1 expect val) reply.No)
    → Tells chain spot (Cas 1 1 expect val) reply.Yes → Tells chain spot (Cas 1 1 expect val) reply.No → Goes thread graph chain spot (Cas 1 1 expect val) (outcome graph thread (Cas 1 1 expect val))
advances thread graph queue spot expect val chain user edge yes_facts no_facts yes_tells no_tells =
    swaps (Goes thread graph queue spot (Cas 1 1 expect val)) graph thread 1 1 expect val anchor (ends (Some queue.front) (Some queue.back)) (Some queue.back) user.anchor_root chain.anchor_is refl
    (λ root_agrees. subst (λ (reference : Reference). Goes thread graph queue spot (Cas 1 1 expect val) (answers reply.Yes (with_object graph anchor (ends (Some queue.front) reference)))) (sym edge.to_is) (moves root_agrees))
    (λ _. keeps thread graph queue spot (Cas 1 1 expect val) reply.No chain no_facts no_tells)
  where
    moves : Some queue.back ≡ graph.root thread expect → Goes thread graph queue spot (Cas 1 1 expect val) (answers reply.Yes (with_object graph anchor (ends (Some queue.front) (Some edge.to))))
    moves same_root =
        let names_one : Some queue.back ≡ Some edge.from = same_root ∙ edge.from_is in
        let tail_index : queue.tail ≡ edge.index = same_place queue queue.back edge.from queue.tail edge.index chain.back_at edge.at cc in
        let rely = λ (other_user : ℕ). ends_rely other_user graph.object graph.count queue queue.head (suc edge.index) queue.front edge.to chain (omega arith) (omega (arith, tail_index)) in
        record {
          after = with_ends queue queue.head (suc edge.index) queue.front edge.to;
          chain = ends_chain graph.object graph.count queue queue.head (suc edge.index) queue.front edge.to chain chain.front_at edge.next_at (omega (arith, tail_index, chain.order));
          rely = λ other_user thread_differs. rely other_user;
          others = λ other_user thread_differs. refl;
          facts = facts_stay thread graph.object queue _ _ (graph.root thread) (next_spot spot (Cas 1 1 expect val) reply.Yes) (rely thread) yes_facts;
          run = yes_tells.run;
          replies = yes_tells.replies;
        }

goes_helps : (thread : ℕ) (graph : Graph) (chain : Chain) (value : ℕ) → IsChain graph.object graph.count chain → Facts thread graph.object chain (graph.root thread) (Helps value) → Goes thread graph chain (Helps value) (Cas 1 1 4 5) (outcome graph thread (Cas 1 1 4 5))
goes_helps thread graph queue value chain facts =
    advances thread graph queue (Helps value) 4 5 chain facts.0 facts.2 (facts.0, facts.1) (facts.0, facts.1) (record { run = refl; replies = refl }) (record { run = refl; replies = refl })

goes_swings : (thread : ℕ) (graph : Graph) (chain : Chain) (value : ℕ) → IsChain graph.object graph.count chain → Facts thread graph.object chain (graph.root thread) (Swings value) → Goes thread graph chain (Swings value) (Cas 1 1 4 3) (outcome graph thread (Cas 1 1 4 3))
goes_swings thread graph queue value chain facts =
    advances thread graph queue (Swings value) 4 3 chain facts.0 facts.1 facts.0 facts.0 (record { run = refl; replies = refl }) (record { run = refl; replies = refl })

goes_pushes : (thread : ℕ) (graph : Graph) (chain : Chain) → IsChain graph.object graph.count chain → Facts thread graph.object chain (graph.root thread) Pushes → Goes thread graph chain Pushes (Cas 1 1 5 6) (outcome graph thread (Cas 1 1 5 6))
goes_pushes thread graph queue chain facts =
    advances thread graph queue Pushes 5 6 chain facts.0 facts.1 facts.0 facts.0 (record { run = refl; replies = refl }) (record { run = refl; replies = refl })

-- a take

goes_took_head : (thread : ℕ) (graph : Graph) (chain : Chain) → IsChain graph.object graph.count chain → Facts thread graph.object chain (graph.root thread) TookHead → Goes thread graph chain TookHead (Get 5 1 1) (outcome graph thread (Get 5 1 1))
goes_took_head thread graph queue chain facts =
    gets (Goes thread graph queue TookHead (Get 5 1 1)) graph thread 5 1 1 anchor (ends (Some queue.front) (Some queue.back)) (Some queue.back) facts.0.anchor_root chain.anchor_is refl
    (loads thread graph queue TookHead (Get 5 1 1) 5 (reply.Ref queue.back) (Some queue.back) chain (
      user_put thread (graph.root thread) 5 (Some queue.back) refl refl facts.0,
      record {
        front = facts.1;
        back = record { name = queue.back; index = queue.tail; is = refl; at = chain.back_at; low = omega arith };
        order = omega (arith, facts.1.low, chain.order);
      },
    ) (record { run = refl; replies = refl }))

goes_took_tail : (thread : ℕ) (graph : Graph) (chain : Chain) → IsChain graph.object graph.count chain → Facts thread graph.object chain (graph.root thread) TookTail → Goes thread graph chain TookTail (Get 6 4 0) (outcome graph thread (Get 6 4 0))
goes_took_tail thread graph queue chain facts = on (chain.linked facts.1.front.name facts.1.front.index facts.1.front.at)
  where
    on : IsLinked graph.object queue.place queue.numbers queue.last facts.1.front.name facts.1.front.index → Goes thread graph queue TookTail (Get 6 4 0) (outcome graph thread (Get 6 4 0))
    on (inner next_name node_value cell_there next_at number) =
        gets (Goes thread graph queue TookTail (Get 6 4 0)) graph thread 6 4 0 facts.1.front.name (cell (Some next_name) node_value) (Some next_name) facts.1.front.is cell_there refl
        (loads thread graph queue TookTail (Get 6 4 0) 6 (reply.Ref next_name) (Some next_name) chain (
          user_put thread (graph.root thread) 6 (Some next_name) refl refl facts.0,
          facts.1,
          record {
            from = facts.1.front.name;
            to = next_name;
            index = facts.1.front.index;
            value = node_value;
            from_is = facts.1.front.is;
            to_is = refl;
            at = facts.1.front.at;
            next_at = next_at;
            whole = cell_there;
          },
        ) (record { run = refl; replies = refl }))
    on (end node_value cell_there at_last number) =
        let tail_within = chain.within queue.back queue.tail chain.back_at in
        let same_index : facts.1.back.index ≡ facts.1.front.index = omega (arith, at_last, tail_within, facts.1.order, facts.1.back.low) in
        let same_name = chain.once facts.1.front.name facts.1.back.name facts.1.front.index facts.1.front.at (facts.1.back.at ∙ ap Some same_index) in
        gets (Goes thread graph queue TookTail (Get 6 4 0)) graph thread 6 4 0 facts.1.front.name (cell None node_value) None facts.1.front.is cell_there refl
        (loads thread graph queue TookTail (Get 6 4 0) 6 reply.Null None chain (user_put thread (graph.root thread) 6 None refl refl facts.0, facts.1.front.is ∙ ap Some same_name ∙ sym facts.1.back.is) (record {
          run = (drop_of_length-le queue.numbers {i = suc queue.head} (omega (arith, chain.size, facts.1.front.low, at_last)), refl);
          replies = refl;
        }))

goes_compares_null : (thread : ℕ) (graph : Graph) (chain : Chain) → IsChain graph.object graph.count chain → Facts thread graph.object chain (graph.root thread) (Compares true) → Goes thread graph chain (Compares true) (Same 4 5) (outcome graph thread (Same 4 5))
goes_compares_null thread graph queue chain facts =
    compares (Goes thread graph queue (Compares true) (Same 4 5)) graph thread 4 5
    (λ _. keeps thread graph queue (Compares true) (Same 4 5) reply.Yes chain facts.0 (record { run = refl; replies = refl }))
    (λ roots_differ. absurd (roots_differ facts.1))

goes_compares : (thread : ℕ) (graph : Graph) (chain : Chain) → IsChain graph.object graph.count chain → Facts thread graph.object chain (graph.root thread) (Compares false) → Goes thread graph chain (Compares false) (Same 4 5) (outcome graph thread (Same 4 5))
goes_compares thread graph queue chain facts =
    compares (Goes thread graph queue (Compares false) (Same 4 5)) graph thread 4 5
    (λ same_root. keeps thread graph queue (Compares false) (Same 4 5) reply.Yes chain (facts.0, subst (λ (reference : Reference). IsEdge graph.object queue reference (graph.root thread 6)) same_root facts.2) (record { run = refl; replies = refl }))
    (λ apart. keeps thread graph queue (Compares false) (Same 4 5) reply.No chain (facts.0, facts.2, behind apart) (record { run = refl; replies = refl }))
  where
    behind : graph.root thread 4 ≢ graph.root thread 5 → suc facts.2.index ≤ queue.tail
    behind roots_differ =
        let front = facts.1.front in
        let back = facts.1.back in
        let one_name : Some facts.2.from ≡ Some front.name = sym facts.2.from_is ∙ front.is in
        let same_index : facts.2.index ≡ front.index = same_place queue facts.2.from front.name facts.2.index front.index facts.2.at front.at cc in
        let index_differs : front.index ≢ back.index = λ indices_equal. roots_differ (front.is ∙ ap Some (chain.once front.name back.name front.index front.at (back.at ∙ ap Some (sym indices_equal))) ∙ sym back.is) in
        omega (arith, same_index, index_differs, facts.1.order, back.low)

goes_reads : (thread : ℕ) (graph : Graph) (chain : Chain) → IsChain graph.object graph.count chain → Facts thread graph.object chain (graph.root thread) Reads → Goes thread graph chain Reads (Rd 6 0) (outcome graph thread (Rd 6 0))
goes_reads thread graph queue chain facts = on (chain.linked facts.1.to (suc facts.1.index) facts.1.next_at)
  where
    on : IsLinked graph.object queue.place queue.numbers queue.last facts.1.to (suc facts.1.index) → Goes thread graph queue Reads (Rd 6 0) (outcome graph thread (Rd 6 0))
    on (inner next_name node_value cell_there next_at number) =
        reads (Goes thread graph queue Reads (Rd 6 0)) graph thread 6 0 facts.1.to (cell (Some next_name) node_value) node_value facts.1.to_is cell_there refl
        (keeps thread graph queue Reads (Rd 6 0) (reply.Number node_value) chain (facts.0, facts.1, facts.2, number) (record { run = refl; replies = refl }))
    on (end node_value cell_there at_last number) =
        reads (Goes thread graph queue Reads (Rd 6 0)) graph thread 6 0 facts.1.to (cell None node_value) node_value facts.1.to_is cell_there refl
        (keeps thread graph queue Reads (Rd 6 0) (reply.Number node_value) chain (facts.0, facts.1, facts.2, number) (record { run = refl; replies = refl }))

goes_unlinks : (thread : ℕ) (graph : Graph) (chain : Chain) (value : ℕ) → IsChain graph.object graph.count chain → Facts thread graph.object chain (graph.root thread) (Unlinks value) → Goes thread graph chain (Unlinks value) (Cas 1 0 4 6) (outcome graph thread (Cas 1 0 4 6))
goes_unlinks thread graph queue value chain facts =
    swaps (Goes thread graph queue (Unlinks value) (Cas 1 0 4 6)) graph thread 1 0 4 6 anchor (ends (Some queue.front) (Some queue.back)) (Some queue.front) facts.0.anchor_root chain.anchor_is refl
    (λ root_agrees. subst (λ (reference : Reference). Goes thread graph queue (Unlinks value) (Cas 1 0 4 6) (answers reply.Yes (with_object graph anchor (ends reference (Some queue.back))))) (sym facts.1.to_is) (moves root_agrees))
    (λ _. keeps thread graph queue (Unlinks value) (Cas 1 0 4 6) reply.No chain facts.0 (record { run = refl; replies = refl }))
  where
    moves : Some queue.front ≡ graph.root thread 4 → Goes thread graph queue (Unlinks value) (Cas 1 0 4 6) (answers reply.Yes (with_object graph anchor (ends (Some facts.1.to) (Some queue.back))))
    moves same_root =
        let edge = facts.1 in
        let names_one : Some queue.front ≡ Some edge.from = same_root ∙ edge.from_is in
        let head_index : queue.head ≡ edge.index = same_place queue queue.front edge.from queue.head edge.index chain.front_at edge.at cc in
        let number : slice_get queue.numbers (suc queue.head) ≡ Some value = ap (λ index. slice_get queue.numbers (suc index)) head_index ∙ facts.3 in
        let after = with_ends queue (suc edge.index) queue.tail edge.to queue.back in
        record {
          after = after;
          chain = ends_chain graph.object graph.count queue (suc edge.index) queue.tail edge.to queue.back chain edge.next_at chain.back_at facts.2;
          rely = λ other_thread thread_differs. ends_rely other_thread graph.object graph.count queue (suc edge.index) queue.tail edge.to queue.back chain (omega (arith, head_index)) (omega arith);
          others = λ other_thread thread_differs. refl;
          facts = facts.0;
          run = (
            drop (suc (suc queue.head)) queue.numbers,
            drop-cons queue.numbers (suc queue.head) 0 (slice_get_within queue.numbers (suc queue.head) value number) ∙ ap (λ head_number. head_number ∷ drop (suc (suc queue.head)) queue.numbers) (get_or_from_slice_get queue.numbers (suc queue.head) value 0 number),
            ap (λ index. drop (suc (suc index)) queue.numbers) head_index,
          );
          replies = refl;
        }

-- a join finds the anchor, or has no hub to look at
goes_joins : (thread : ℕ) (graph : Graph) (chain : Chain) → IsChain graph.object graph.count chain → Facts thread graph.object chain (graph.root thread) Joins → Goes thread graph chain Joins (Get 1 0 0) (outcome graph thread (Get 1 0 0))
goes_joins thread graph queue chain facts =
    elim (facts.hub_root) [
      | inl no_hub ↦ gets_bad (Goes thread graph queue Joins (Get 1 0 0)) graph thread 1 0 0 no_hub (keeps thread graph queue Joins (Get 1 0 0) reply.Bad chain facts (record { run = refl; replies = refl }))
      | inr at_hub ↦ gets (Goes thread graph queue Joins (Get 1 0 0)) graph thread 1 0 0 hub shown_hub (Some anchor) at_hub.0 chain.hub_is refl
          (loads thread graph queue Joins (Get 1 0 0) 1 (reply.Ref anchor) (Some anchor) chain (record { some = at_hub.1; anchor_root = refl; null_root = facts.null_root }) (record { run = refl; replies = refl }))
    ]

-- all spots together
pub goes : (thread : ℕ) (graph : Graph) (chain : Chain) (spot : Spot) (command : Command) (answered : Reply) (other_graph : Graph) → IsChain graph.object graph.count chain → Facts thread graph.object chain (graph.root thread) spot → MayCome spot command → IsPlain graph thread command answered other_graph → Goes thread graph chain spot command (answers answered other_graph)
goes thread graph queue _ _ answered other_graph chain facts anchor_made answer_legal = absurd facts
goes thread graph queue _ _ answered other_graph chain facts first_made answer_legal = absurd facts
goes thread graph queue _ _ answered other_graph chain facts head_set answer_legal = absurd facts
goes thread graph queue _ _ answered other_graph chain facts tail_set answer_legal = absurd facts
goes thread graph queue _ _ answered other_graph chain facts anchor_shown answer_legal = absurd facts
goes thread graph queue _ _ answered other_graph chain facts joined answer_legal = by_outcome (Goes thread graph queue Joins (Get 1 0 0)) graph thread (Get 1 0 0) answered other_graph (λ never. never) answer_legal (goes_joins thread graph queue chain facts)
goes thread graph queue _ _ answered other_graph chain facts put_begun answer_legal =
    elim answer_legal [
      | inl made_none ↦ subst (Goes thread graph queue Rests (New 3 1 1)) (sym made_none) (goes_made thread graph queue chain facts)
      | inr refused ↦ subst (λ (given_outcome : Outcome). Goes thread graph queue Rests (New 3 1 1) given_outcome) (λ i. answers (sym refused.1 i) (sym refused.2 i)) (goes_refused thread graph queue chain facts)
    ]
goes thread graph queue _ _ answered other_graph chain facts take_begun answer_legal = by_outcome (Goes thread graph queue Rests (Get 4 1 0)) graph thread (Get 4 1 0) answered other_graph (λ never. never) answer_legal (goes_rests_take thread graph queue chain facts)
goes thread graph queue _ _ answered other_graph chain facts (filled value) answer_legal = by_outcome (Goes thread graph queue Fills (Wr 3 0 value)) graph thread (Wr 3 0 value) answered other_graph (λ never. never) answer_legal (goes_fills thread graph queue value chain facts)
goes thread graph queue _ _ answered other_graph chain facts (looked value) answer_legal = by_outcome (Goes thread graph queue (Looks value) (Get 4 1 1)) graph thread (Get 4 1 1) answered other_graph (λ never. never) answer_legal (goes_looks thread graph queue value chain facts)
goes thread graph queue _ _ answered other_graph chain facts (followed value) answer_legal = by_outcome (Goes thread graph queue (Follows value) (Get 5 4 0)) graph thread (Get 5 4 0) answered other_graph (λ never. never) answer_legal (goes_follows thread graph queue value chain facts)
goes thread graph queue _ _ answered other_graph chain facts (linked value) answer_legal = by_outcome (Goes thread graph queue (Links value) (Cas 4 0 7 3)) graph thread (Cas 4 0 7 3) answered other_graph (λ never. never) answer_legal (goes_links thread graph queue value chain facts)
goes thread graph queue _ _ answered other_graph chain facts (helped value) answer_legal = by_outcome (Goes thread graph queue (Helps value) (Cas 1 1 4 5)) graph thread (Cas 1 1 4 5) answered other_graph (λ never. never) answer_legal (goes_helps thread graph queue value chain facts)
goes thread graph queue _ _ answered other_graph chain facts (swung value) answer_legal = by_outcome (Goes thread graph queue (Swings value) (Cas 1 1 4 3)) graph thread (Cas 1 1 4 3) answered other_graph (λ never. never) answer_legal (goes_swings thread graph queue value chain facts)
goes thread graph queue _ _ answered other_graph chain facts turned answer_legal = by_outcome (Goes thread graph queue Turns (Get 4 1 0)) graph thread (Get 4 1 0) answered other_graph (λ never. never) answer_legal (goes_turns thread graph queue chain facts)
goes thread graph queue _ _ answered other_graph chain facts tail_taken answer_legal = by_outcome (Goes thread graph queue TookHead (Get 5 1 1)) graph thread (Get 5 1 1) answered other_graph (λ never. never) answer_legal (goes_took_head thread graph queue chain facts)
goes thread graph queue _ _ answered other_graph chain facts next_taken answer_legal = by_outcome (Goes thread graph queue TookTail (Get 6 4 0)) graph thread (Get 6 4 0) answered other_graph (λ never. never) answer_legal (goes_took_tail thread graph queue chain facts)
goes thread graph queue _ _ answered other_graph chain facts (compared true) answer_legal = by_outcome (Goes thread graph queue (Compares true) (Same 4 5)) graph thread (Same 4 5) answered other_graph (λ never. never) answer_legal (goes_compares_null thread graph queue chain facts)
goes thread graph queue _ _ answered other_graph chain facts (compared false) answer_legal = by_outcome (Goes thread graph queue (Compares false) (Same 4 5)) graph thread (Same 4 5) answered other_graph (λ never. never) answer_legal (goes_compares thread graph queue chain facts)
goes thread graph queue _ _ answered other_graph chain facts pushed answer_legal = by_outcome (Goes thread graph queue Pushes (Cas 1 1 5 6)) graph thread (Cas 1 1 5 6) answered other_graph (λ never. never) answer_legal (goes_pushes thread graph queue chain facts)
goes thread graph queue _ _ answered other_graph chain facts read answer_legal = by_outcome (Goes thread graph queue Reads (Rd 6 0)) graph thread (Rd 6 0) answered other_graph (λ never. never) answer_legal (goes_reads thread graph queue chain facts)
goes thread graph queue _ _ answered other_graph chain facts (unlinked value) answer_legal = by_outcome (Goes thread graph queue (Unlinks value) (Cas 1 0 4 6)) graph thread (Cas 1 0 4 6) answered other_graph (λ never. never) answer_legal (goes_unlinks thread graph queue value chain facts)
