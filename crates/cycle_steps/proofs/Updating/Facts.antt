-- What a machine counts on while it works on a unit of updating stays while others step, and while it goes on itself.
use Rattle.heap_words.specs.Phases.{updating_phase}
use Rattle.std.proofs.Common.{◌≡◌, ℕ, ◌+◌, Some, ⊎_elim, inl, inr, sym, ap, ◌∙◌, subst, arith}
use Rattle.heap_words.specs.declared.config.Config.{Config}
use Rattle.heap_words.specs.Encoding.{refs_in}
use Rattle.heap_words.proofs.Shapes.{refs_in-shape_word}
use Rattle.heap_words.specs.Words.{Phase, Heap}
use Rattle.regions.specs.Sets.{IsIn}
use Rattle.shen_graph.specs.declared.name.Name.{Name}
use Rattle.heap_world.specs.World.{World, thing, IsMarkable, IsCurrent, Shared}
use Rattle.heap_world.specs.Rely.{KeepsFields, Keeps, Rely}
use Rattle.heap_world.proofs.Updated.{current_stays}
use Rattle.unit_part.specs.declared.update_spot.Walk.{Walk}
use Rattle.unit_part.specs.declared.update_spot.Visit.{Visit}
use Rattle.unit_part.specs.declared.update_spot.UpdateSpot.{UpdateSpot}
use Rattle.unit_part.specs.declared.update_spot.UpdateSpot.TheVariants.{LoadClaim, ClaimUnit, LoadLimit, LoadTams, LoadFirst, LoadShape, LoadBlack, LoadField, LoadHeader, ExchangeField, Ended}
use Rattle.cycle_steps.specs.Updating.Facts.{IsUnit, HasComeTo, IsPiece, HasPiece, HasShape, HasField, HasFound, UpdateFacts, CanUpdate}

-- Outside pauses, whoever steps: what holds by where a machine stands does so then.
module _ (config : Config) (world other_world : World) (seat : ℕ) (shared : Shared config world) (is_updating : world.memory Phase ≡ updating_phase) (world_kept : Keeps config seat world other_world) (fields : KeepsFields config world other_world) where
  -- a region that can be a unit
  unit_stays : (region : ℕ) → IsUnit config world region → IsUnit config other_world region
  unit_stays region unit = (unit.0, λ region_in_set. unit.1 (subst (λ any_set. IsIn any_set region) world_kept.copies.cset region_in_set))

  -- a walk of it
  walked_stays : (walk : Walk) (address : ℕ) → HasComeTo config world walk address → HasComeTo config other_world walk address
  walked_stays walk address walked = record {
    unit = unit_stays walk.region walked.unit;
    limit_is = walked.limit_is ∙ sym (fields.limits walk.region);
    tams_is = walked.tams_is ∙ sym (fields.tams walk.region);
    from_base = walked.from_base;
    before = walked.before;
  }

  -- an object, of the graph or promised
  alive_stays : (address : ℕ) → IsMarkable world.block address → IsMarkable other_world.block address
  alive_stays = world_kept.marks.markable (λ phase_two. omega (arith, is_updating, phase_two))

  -- a piece
  piece_stays : (address : ℕ) → IsPiece world address → IsPiece other_world address
  piece_stays address (inl alive) = inl (alive_stays address alive)
  piece_stays address (inr fills) = inr (fills.0, fields.deads address fills.0 fills.1)

  -- or words that only fill
  any_stays : (address : ℕ) → HasPiece world address → HasPiece other_world address
  any_stays address (inl piece) = inl (piece_stays address piece)
  any_stays address (inr fills) = inr (fills.0, fields.fillers address fills.0 fills.1)

  -- the shape word of a piece
  shape_stays : (address shape : ℕ) → HasShape world address shape → HasShape other_world address shape
  shape_stays address shape (inl object) = inl (alive_stays address object.0, object.1 ∙ sym (world_kept.marks.shapes address object.0))
  shape_stays address shape (inr fills) = inr (fills.0, fields.deads address fills.0 fills.1, fills.2)

  -- a reference of an object
  pub field_stays : (visit : Visit) (field : ℕ) → HasField config world visit field → HasField config other_world visit field
  field_stays visit field holds_field = record {
    walked = walked_stays visit.walk visit.address holds_field.walked;
    alive = alive_stays visit.address holds_field.alive;
    shape_is = holds_field.shape_is ∙ sym (world_kept.marks.shapes visit.address holds_field.alive);
    below = holds_field.below;
  }

  -- an object of the graph lies outside of the collection set, so that it stays where it is
  thing_stays : (address refs nums : ℕ) (name : Name) → world.block address ≡ Some (thing name refs nums) → other_world.block address ≡ Some (thing name refs nums)
  thing_stays address refs nums name object_there = (world_kept.targets address refs nums name (record { piece = object_there; safe = λ inside. absurd ((shared.updated is_updating).outside address refs nums name object_there inside) })).piece

  -- what the reference was found to be
  found_stays : (visit : Visit) (field found copy : ℕ) → HasField config world visit field → HasFound world visit field found copy → HasFound other_world visit field found copy
  found_stays visit field found copy holds_field finds =
      let holder = finds.holder in
      let object_facts = (shared.contents.objects.each visit.address holder.1 holder.2 holder.0 holder.3).2 in
      let same_refs : refs_in visit.shape ≡ holder.1 = ap refs_in (holds_field.shape_is ∙ object_facts.shape) ∙ refs_in-shape_word holder.1 holder.2 object_facts.few_refs object_facts.few_nums in
      let field_below = holds_field.below in
      record {
        holder = (holder.0, holder.1, holder.2, thing_stays visit.address holder.1 holder.2 holder.0 holder.3);
        refs = finds.refs;
        nums = finds.nums;
        name = finds.name;
        old = world_kept.copies.moveds found finds.refs finds.nums copy finds.name finds.old;
        still = ⊎_elim
            (λ (same_word : other_world.memory (Heap (visit.address + 3 + field)) ≡ world.memory (Heap (visit.address + 3 + field))). ⊎_elim
            (λ (word_is : world.memory (Heap (visit.address + 3 + field)) ≡ found). inl (same_word ∙ word_is))
            (λ (current : IsCurrent world.block (world.memory (Heap (visit.address + 3 + field)))). inr (subst (IsCurrent other_world.block) (sym same_word) (current_stays world.block other_world.block thing_stays _ current)))
            finds.still)
            (λ (current : IsCurrent other_world.block (other_world.memory (Heap (visit.address + 3 + field)))). inr current)
            (fields.fields is_updating visit.address holder.1 holder.2 field holder.0 holder.3 (omega (arith, field_below, same_refs)));
      }

  -- so do all of them
  pub facts_stay : (spot : UpdateSpot) → UpdateFacts config world spot → UpdateFacts config other_world spot
  facts_stay LoadClaim facts = tt
  facts_stay (ClaimUnit unit) facts = facts
  facts_stay (LoadLimit region) facts = unit_stays region facts
  facts_stay (LoadTams region limit) facts = (unit_stays region facts.0, facts.1 ∙ sym (fields.limits region), facts.2)
  facts_stay (LoadFirst walk address) facts = (walked_stays walk address facts.0, any_stays address facts.1)
  facts_stay (LoadShape walk address) facts = (walked_stays walk address facts.0, piece_stays address facts.1)
  facts_stay (LoadBlack visit) facts = (walked_stays visit.walk visit.address facts.0, shape_stays visit.address visit.shape facts.1, facts.2, facts.3)
  facts_stay (LoadField visit field) facts = field_stays visit field facts
  facts_stay (LoadHeader visit field found) facts = (field_stays visit field facts.0, (facts.1.0, found_stays visit field found facts.1.0 facts.0 facts.1.1))
  facts_stay (ExchangeField visit field found copy) facts = (field_stays visit field facts.0, found_stays visit field found copy facts.0 facts.1)
  facts_stay (Ended unit) facts = tt

-- While others step, what it counts on stays.
pub can_update_stays : (config : Config) (world next_world : World) (seat cset : ℕ) (spot : UpdateSpot) → Shared config world → Keeps config seat world next_world → Rely config seat world next_world → CanUpdate config world seat cset spot → CanUpdate config next_world seat cset spot
can_update_stays config world next_world seat cset spot shared world_kept rely can_update = record {
  seated = can_update.seated;
  phase = rely.marks.keeps.phase ∙ can_update.phase;
  set_is = can_update.set_is ∙ sym rely.copies.keeps.cset;
  copying = rely.copies.copying ∙ can_update.copying;
  working = rely.copies.working ∙ can_update.working;
  records_none = rely.marks.recording ∙ can_update.records_none;
  scanning = rely.marks.scanning ∙ can_update.scanning;
  rooms = λ address piece piece_there room. can_update.rooms address piece (rely.no_rooms address piece piece_there room) room;
  facts = facts_stay config world next_world seat shared can_update.phase world_kept rely.fields spot can_update.facts;
}
