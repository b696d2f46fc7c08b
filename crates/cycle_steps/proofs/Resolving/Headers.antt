-- A header of a copy changes only once, and leads to the current copy then.
use Rattle.std.proofs.Common.{◌≡◌, ℕ, inl, inr, ⊎_elim, true, false, Some, sym, ap, ◌∙◌, subst}
use Rattle.heap_words.specs.declared.config.Config.{Config}
use Rattle.heap_words.specs.Encoding.{plain_header, header_word, is_forwarded, forwardee_in}
use Rattle.heap_words.specs.Words.{Heap}
use Rattle.heap_world.specs.World.{World, thing, moved, Body, TargetIn, Shared}
use Rattle.heap_world.proofs.Pointing.{copy_cases}
use Rattle.load_barrier.proofs.Knows.{header_forwarded, header_names}
use Rattle.cycle_steps.specs.Resolving.Laws.{HeadersLead}

module _ (config : Config) (world : World) (shared : Shared config world) (address : ℕ) (body : Body) where
  -- the header of a current copy
  plain : world.block address ≡ Some (thing body.name body.refs body.nums) → world.memory (Heap address) ≡ plain_header
  plain has_piece = (shared.contents.objects.each address body.refs body.nums body.name has_piece).2.header

  -- that of an old one
  led : (copy : ℕ) → world.block address ≡ Some (moved body.name body.refs body.nums copy) → world.memory (Heap address) ≡ header_word copy
  led copy has_piece = (shared.evacuated.moved.moveds address body.refs body.nums copy body.name has_piece).header

  -- where it leads
  leads_to : (copy : ℕ) → world.block address ≡ Some (moved body.name body.refs body.nums copy) → TargetIn config world copy body.refs body.nums body.name × (world.memory (Heap copy) ≡ plain_header)
  leads_to copy has_piece =
      let old = shared.evacuated.moved.moveds address body.refs body.nums copy body.name has_piece in
      (record { piece = old.copy; safe = λ inside. absurd (old.outside inside) }, (shared.contents.objects.each copy body.refs body.nums body.name old.copy).2.header)

pub headers_lead : HeadersLead
headers_lead = record {
  leads = λ config world address body shared has_body address_forwarded. ⊎_elim
      (λ current. absurd (let differ : false ≡ true = sym (ap is_forwarded (plain config world shared address body current)) ∙ address_forwarded in cc))
      (λ old. subst (λ copy. TargetIn config world copy body.refs body.nums body.name × (world.memory (Heap copy) ≡ plain_header)) (sym (ap forwardee_in (led config world shared address body old.0 old.1) ∙ header_names old.0)) (leads_to config world shared address body old.0 old.1))
      (copy_cases (world.block address) body has_body);
  once = λ config old_world world address body before after keeps has_body. ⊎_elim
      (λ was_current. ⊎_elim
      (λ current. inl (plain config world after address body current ∙ sym (plain config old_world before address body was_current)))
      (λ old. inr (plain config old_world before address body was_current, ap is_forwarded (led config world after address body old.0 old.1) ∙ header_forwarded old.0))
      (copy_cases (world.block address) body (keeps.bodies address body has_body)))
      (λ was_old. inl (led config world after address body was_old.0 (keeps.moveds address body.refs body.nums was_old.0 body.name was_old.1) ∙ sym (led config old_world before address body was_old.0 was_old.1)))
      (copy_cases (old_world.block address) body has_body);
}
