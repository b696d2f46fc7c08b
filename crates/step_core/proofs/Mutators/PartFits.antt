-- The words that a mutator finds are fit for its parts: a reference that is to be used is one, and a resolving can go on.
use Rattle.std.proofs.Common.{◌≡◌, ◌≢◌, ℕ, ⊎_elim, true, false, Option, Some, None, refl, ap, ◌∙◌, arith}
use Rattle.std.specs.Prelude.{◌==◌}
use Rattle.std.proofs.lemmas.Bool.{cond-true, cond-false, eq-eqb, ne_eqb}
use Rattle.std.proofs.lemmas.Bool.{cases_eq}
use Rattle.heap_words.specs.declared.config.Config.{Config}
use Rattle.heap_words.specs.Words.{Top, Heap, is_word}
use Rattle.shen_graph.specs.declared.command.Command.{Command}
use Rattle.shen_graph.specs.declared.command.Reply.{Reply}
use Rattle.shen_graph.specs.declared.order.Order.TheVariants.{Nothing}
use Rattle.shen_graph.specs.Graph.{Reference}
use Rattle.mutator.specs.declared.spot.Kept.{Kept}
use Rattle.mutator.specs.declared.spot.Spot.{Spot}
use Rattle.mutator.specs.declared.spot.Spot.TheVariants.{Rest, Ended, OnField, Resolving, Gone}
use Rattle.mutator.specs.declared.fields.FieldSpot.{FieldSpot}
use Rattle.mutator.specs.declared.fields.FieldSpot.TheVariants as fields
use Rattle.mutator.specs.Orders.{is_between_calls}
use Rattle.mutator.specs.Rows.{touch_of}
use Rattle.mutator.specs.Fit.{is_reference_word, field_goes, PartFit}
use Rattle.heap_world.specs.World.{World, Points, Shared}
use Rattle.heap_world.proofs.Pointing.{named_piece, piece_word}
use Rattle.heap_world.proofs.Pieces.{some_words}
use Rattle.handshake.specs.Standing.{is_within}
use Rattle.step_core.specs.Standing.{standing_at}
use Rattle.step_core.proofs.Machines.Stepped.{Mine}
use Rattle.step_core.proofs.Machines.Naming.{field_in}
use Rattle.step_core.proofs.Mutators.ResolvingInCommon.{resolving_fits}
use Rattle.step_core.proofs.Mutators.Resolving.{going_now}
use Rattle.step_core.proofs.Mutators.Spots.{mutator_at}

module _ (config : Config) (world : World) (shared : Shared config world) where
  -- a word that stands for a reference is one
  reference_fits : (word : ℕ) (reference : Reference) → Points world.block word reference → is_reference_word config word ≡ true
  reference_fits word reference points = ⊎_elim
      (λ (null : word ≡ 0). cond-true (word == 0) true (is_word config (Heap word)) (eq-eqb word 0 null))
      (λ (not_null : word ≢ 0). cond-false (word == 0) true (is_word config (Heap word)) (ne_eqb word 0 not_null) ∙ of_object reference points not_null)
      (cases_eq word 0)
    where
      of_object : (reference : Reference) → Points world.block word reference → word ≢ 0 → is_word config (Heap word) ≡ true
      of_object None points some_word = absurd (some_word points)
      of_object (Some name) points some_word =
          let piece = named_piece (world.block word) name points in
          let piece_words = some_words config (λ region. world.memory (Top region)) world.block shared.parsable shared.owned.rooms word piece.0 piece.1 in
          ap (λ address. is_word config (Heap address)) (omega arith) ∙ piece_word config (λ region. world.memory (Top region)) world.block shared.parsable.plotted word 0 piece.0 piece.1 (omega (arith, piece_words))

  module _ (seat made : ℕ) (kept : Kept) (command : Command) (fixed : Option Reply) where
    -- what is found in a field is one, where it is to be used
    field_fits : (object : ℕ) (spot : FieldSpot) → Mine config world (mutator_at seat made kept (OnField object spot)) command fixed
        → field_goes config spot (world.memory (touch_of config (mutator_at seat made kept (OnField object spot)) Nothing).word) ≡ true
    field_fits object fields.Load own_facts = let get_facts = own_facts.facts.1 in let field_here = field_in config world shared seat get_facts.src object _ get_facts.of get_facts.below in reference_fits _ field_here.0 field_here.2
    field_fits object (fields.LoadExpected expect value) own_facts = let cas = own_facts.facts.1 in let field_here = field_in config world shared seat cas.obj object _ cas.of cas.below in reference_fits _ field_here.0 field_here.2
    field_fits object (fields.Swap value) own_facts = let swap = own_facts.facts.1 in let field_here = field_in config world shared seat swap.obj object _ swap.of swap.below in reference_fits _ field_here.0 field_here.2
    field_fits object (fields.LoadOld value) own_facts = refl
    field_fits object (fields.Store value) own_facts = refl
    field_fits object (fields.Exchange found expect value) own_facts = refl

    -- the word that a mutator finds is fit for its part
    pub part_fits : (spot : Spot) → Mine config world (mutator_at seat made kept spot) command fixed → PartFit config seat kept spot (world.memory (touch_of config (mutator_at seat made kept spot) Nothing).word)
    part_fits (OnField object spot) own_facts = field_fits object spot own_facts
    part_fits (Resolving address spot next) own_facts =
        resolving_fits config world seat address kept.phase spot (going_now config world seat made kept command fixed spot address next own_facts) shared (own_facts.marking.phase_is refl) own_facts.facts.0
    part_fits _ own_facts = tt

-- outside the heap each word is fit
pub part_outside : (config : Config) (seat : ℕ) (kept : Kept) (spot : Spot) (got : ℕ) → is_within (standing_at spot) ≡ false → PartFit config seat kept spot got
part_outside config seat kept (OnField object spot) got outside = absurd (cc (outside))
part_outside config seat kept (Resolving address spot next) got outside = absurd (cc (outside))
part_outside config seat kept _ got outside = tt

-- a mutator that is in the heap has a call in progress
pub within_call : (spot : Spot) → is_within (standing_at spot) ≡ true → is_between_calls spot ≡ false
within_call Rest spot_within = absurd (cc (spot_within))
within_call (Ended reply) spot_within = absurd (cc (spot_within))
within_call Gone spot_within = absurd (cc (spot_within))
within_call _ spot_within = refl
