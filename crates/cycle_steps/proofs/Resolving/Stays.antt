-- What a machine counts on that resolves an address stays while others step.
use Rattle.std.proofs.Common.{◌≡◌, ℕ, ◌+◌, ◌<◌, ◌≤◌, Some, true, sym, ap, ◌∙◌, subst, arith, refl}
use Rattle.std.proofs.lemmas.Option.{none-some}
use Rattle.heap_words.specs.declared.config.Config.{Config}
use Rattle.heap_words.specs.Ranges.{seat_count}
use Rattle.heap_words.specs.Words.{Cset, Evac, Heap}
use Rattle.alloc_buffers.specs.declared.spot.Taken.TheVariants.{At}
use Rattle.alloc_buffers.specs.declared.spot.TakeSpot.TheVariants.{Ended}
use Rattle.alloc_buffers.proofs.TakeStays.{take_stays, can_take_stays}
use Rattle.evac_room.specs.declared.spot.RoomSpot.{RoomSpot}
use Rattle.evac_room.specs.declared.spot.RoomSpot.TheVariants.{Wait}
use Rattle.heap_world.specs.World.{World, Body, body_at, body_words, IsCollected, HasCopy, Shared}
use Rattle.heap_world.specs.Rely.{Rely}
use Rattle.load_barrier.specs.declared.copying.CopySpot.{CopySpot}
use Rattle.load_barrier.specs.declared.copying.CopySpot.TheVariants.{LoadWord, StoreWord, StoreHeader, Publish, GiveBack}
use Rattle.load_barrier.specs.declared.spot.ResolveSpot.{ResolveSpot}
use Rattle.load_barrier.specs.declared.spot.ResolveSpot.TheVariants.{LoadHeader, Entering, LoadShape, Taking, Copying, Leaving, Stopping, LoadAgain, Resolved}
use Rattle.load_barrier.specs.Alone.{is_copier}
use Rattle.cycle_steps.specs.Resolving.Facts.{IsAnswer, IsCopied, CopyFacts, StopFacts, BodyFacts, ResolveFacts, CanResolve}

module _ (config : Config) (world later_world : World) (seat address : ℕ) (shared : Shared config world) (rely : Rely config seat world later_world) where
  -- a copy stays one
  copy_stays : HasCopy world.block address → HasCopy later_world.block address
  copy_stays (HasCopy.copy had_copy body_there) = HasCopy.copy had_copy (rely.copies.keeps.bodies address had_copy body_there)
  copy_stays (HasCopy.spent_copy words target body_there) = HasCopy.spent_copy words target (rely.copies.keeps.spents address words target body_there)

  -- what is in the set was, and is
  was_inside : (address : ℕ) → IsCollected config (later_world.memory Cset) address → IsCollected config (world.memory Cset) address
  was_inside address address_inside = subst (λ any_set. IsCollected config any_set address) rely.copies.keeps.cset address_inside

  now_inside : (address : ℕ) → IsCollected config (world.memory Cset) address → IsCollected config (later_world.memory Cset) address
  now_inside address address_inside = subst (λ any_set. IsCollected config any_set address) (sym rely.copies.keeps.cset) address_inside

  -- the answer stays right
  pub answer_stays : (answered : ℕ) → HasCopy world.block address → IsCollected config (world.memory Cset) address → IsAnswer config world address answered → IsAnswer config later_world address answered
  answer_stays answered copy_there address_inside answer = record {
    named = λ named_body piece_there. rely.targets answered named_body.refs named_body.nums named_body.name (answer.named named_body (was_body copy_there named_body piece_there));
    passed = λ not_in_set refs nums name piece_there. answer.passed (λ in_set. not_in_set (now_inside answered in_set)) refs nums name (rely.copies.keeps.no_new address refs nums name address_inside piece_there);
    stopped = λ in_set. rely.copies.keeps.out (answer.stopped (was_inside answered in_set));
  }
    where
      was_body : HasCopy world.block address → (body : Body) → body_at (later_world.block address) ≡ Some body → body_at (world.block address) ≡ Some body
      was_body (HasCopy.copy copied_body was_there) body body_there = was_there ∙ sym (rely.copies.keeps.bodies address copied_body was_there) ∙ body_there
      was_body (HasCopy.spent_copy words target was_there) body body_there = absurd (none-some body (sym (ap body_at (rely.copies.keeps.spents address words target was_there)) ∙ body_there))

  module _ (seated : seat < seat_count config.mutators config.helpers) (address_inside : IsCollected config (world.memory Cset) address) (body : Body) (body_there : body_at (world.block address) ≡ Some body) where
    -- words that are copied stay so, for its room is its own and while it copies the object's words stay
    copied_stays : (copy end index : ℕ) → world.ghost.copying seat ≡ true → index ≤ body_words body → IsCopied config world seat address copy end body index → IsCopied config later_world seat address copy end body index
    copied_stays copy end index counted index_most object_copied = record {
      taken = take_stays config world later_world seat rely (body_words body) (Ended (At copy) end) object_copied.taken;
      same = λ field index_positive index_below.
          rely.room_words copy field _ object_copied.taken.here refl (omega (arith, index_below, index_most))
          ∙ object_copied.same field index_positive index_below
          ∙ sym (rely.copies.words address field body seated counted address_inside body_there index_positive (omega (arith, index_below, index_most)));
    }

    copy_facts_stay : (copy end : ℕ) (spot : CopySpot) → world.ghost.copying seat ≡ true → CopyFacts config world seat address copy end body spot → CopyFacts config later_world seat address copy end body spot
    copy_facts_stay copy end (LoadWord words index) counted facts =
        let copy_long = facts.0 in let index_below = facts.2 in (facts.0, facts.1, facts.2, copied_stays copy end index counted (omega (arith, copy_long, index_below)) facts.3)
    copy_facts_stay copy end (StoreWord words index found) counted facts =
        let copy_long = facts.0 in
        let index_below = facts.2 in
        let index_positive = facts.1 in (
          facts.0,
          facts.1,
          facts.2,
          copied_stays copy end index counted (omega (arith, copy_long, index_below)) facts.3,
          facts.4 ∙ sym (rely.copies.words address index body seated counted address_inside body_there index_positive (omega (arith, copy_long, index_below))),
        )
    copy_facts_stay copy end StoreHeader counted facts = copied_stays copy end (body_words body) counted (omega arith) facts
    copy_facts_stay copy end Publish counted facts = (
      copied_stays copy end (body_words body) counted (omega arith) facts.0,
      (let first_word : copy + 0 ≡ copy = omega arith in subst (λ address. later_world.memory (Heap address) ≡ world.memory (Heap address)) first_word (rely.room_words copy 0 _ facts.0.taken.here refl (omega arith))) ∙ facts.1,
    )
    copy_facts_stay copy end (GiveBack answer) counted facts = (take_stays config world later_world seat rely (body_words body) (Ended (At copy) end) facts.0, rely.copies.keeps.moveds address body.refs body.nums answer body.name facts.1)

    stop_stays : (spot : RoomSpot) → StopFacts (world.memory Evac) spot → StopFacts (later_world.memory Evac) spot
    stop_stays Wait facts = rely.copies.keeps.out facts
    stop_stays _ facts = tt

    body_facts_stay : (spot : ResolveSpot) → world.ghost.copying seat ≡ is_copier spot → BodyFacts config world seat address body spot → BodyFacts config later_world seat address body spot
    body_facts_stay LoadHeader copying facts = tt
    body_facts_stay (Entering spot) copying facts = tt
    body_facts_stay LoadShape copying facts = tt
    body_facts_stay (Taking words spot) copying facts = (facts.0, can_take_stays config world later_world seat words spot rely facts.1)
    body_facts_stay (Copying copy end spot) copying facts = copy_facts_stay copy end spot copying facts
    body_facts_stay (Leaving answer) copying facts = rely.copies.keeps.moveds address body.refs body.nums answer body.name facts
    body_facts_stay (Stopping spot) copying facts = stop_stays spot facts
    body_facts_stay LoadAgain copying facts = rely.copies.keeps.quiet facts
    body_facts_stay (Resolved answer) copying facts = tt

  facts_stay : (spot : ResolveSpot) → CanResolve config world seat address spot → ResolveFacts config world seat address spot → ResolveFacts config later_world seat address spot
  facts_stay LoadHeader resolvable facts = tt
  facts_stay (Resolved answer) resolvable facts = answer_stays answer resolvable.there resolvable.inside facts
  facts_stay (Entering spot) resolvable facts = (facts.0, rely.copies.keeps.bodies address facts.0 facts.1, tt)
  facts_stay LoadShape resolvable facts = (facts.0, rely.copies.keeps.bodies address facts.0 facts.1, tt)
  facts_stay (Taking words spot) resolvable facts = (facts.0, rely.copies.keeps.bodies address facts.0 facts.1, body_facts_stay resolvable.seated resolvable.inside facts.0 facts.1 (Taking words spot) resolvable.copying facts.2)
  facts_stay (Copying copy end spot) resolvable facts = (facts.0, rely.copies.keeps.bodies address facts.0 facts.1, body_facts_stay resolvable.seated resolvable.inside facts.0 facts.1 (Copying copy end spot) resolvable.copying facts.2)
  facts_stay (Leaving answer) resolvable facts = (facts.0, rely.copies.keeps.bodies address facts.0 facts.1, body_facts_stay resolvable.seated resolvable.inside facts.0 facts.1 (Leaving answer) resolvable.copying facts.2)
  facts_stay (Stopping spot) resolvable facts = (facts.0, rely.copies.keeps.bodies address facts.0 facts.1, body_facts_stay resolvable.seated resolvable.inside facts.0 facts.1 (Stopping spot) resolvable.copying facts.2)
  facts_stay LoadAgain resolvable facts = (facts.0, rely.copies.keeps.bodies address facts.0 facts.1, body_facts_stay resolvable.seated resolvable.inside facts.0 facts.1 LoadAgain resolvable.copying facts.2)

  -- all that it counts on stays
  pub can_resolve_stays : (spot : ResolveSpot) → CanResolve config world seat address spot → CanResolve config later_world seat address spot
  can_resolve_stays spot resolvable = record {
    seated = resolvable.seated;
    phase = rely.marks.keeps.phase ∙ resolvable.phase;
    inside = now_inside address resolvable.inside;
    there = copy_stays resolvable.there;
    copying = rely.copies.copying ∙ resolvable.copying;
    records_none = rely.marks.recording ∙ resolvable.records_none;
    scans_none = rely.marks.scanning ∙ resolvable.scans_none;
    rooms = λ place piece piece_there own_room. resolvable.rooms place piece (rely.no_rooms place piece piece_there own_room) own_room;
    ready = resolvable.ready;
    facts = facts_stay spot resolvable resolvable.facts;
  }
