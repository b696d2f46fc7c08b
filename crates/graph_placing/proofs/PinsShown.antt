-- What pin slots hold, by a text that shows them.
use Rattle.std.proofs.Common.{◌≡◌, ℕ, zero, suc, length, Option, Some, None, refl, sym, ap, ◌∙◌, arith}
use Rattle.shen_graph.specs.declared.pin.Pinned.{Pinned}
use Rattle.shen_graph.specs.Graph.{Graph, Reference}
use Rattle.shen_graph.specs.GraphText.{Text, pin_of}
use Rattle.shen_graph.specs.Step.{name_in}
use Rattle.heap_world.specs.Shows.{ShowsGraph}
use Rattle.graph_placing.specs.Renewed.{PinsNothing, HoldsNothing}
use Rattle.graph_placing.proofs.TextShown.{shown_pin}

-- what pin slots hold, by the text
none_named : (held : Option Pinned) → name_in held ≡ None → held ≡ None
none_named None no_name = refl
none_named (Some held) no_name = absurd (cc)

module _ (text : Text) (threads : ℕ) (graph : Graph) (shows : ShowsGraph text threads graph) where
  pub nothing_pinned : length text.roots ≡ threads → PinsNothing text → HoldsNothing threads graph
  nothing_pinned same_length pins_nothing zero slot low high small = absurd (omega (arith, low))
  nothing_pinned same_length pins_nothing (suc mutator) slot low high small =
      none_named (graph.pin (suc mutator) slot) (sym (shown_pin text threads graph shows mutator slot (omega (arith, high)) small) ∙ pins_nothing (suc mutator) slot low (omega (arith, high, same_length)) small)

  pub nothing_held : length text.roots ≡ threads → HoldsNothing threads graph → PinsNothing text
  nothing_held same_length holds_nothing zero slot low high small = absurd (omega (arith, low))
  nothing_held same_length holds_nothing (suc mutator) slot low high small =
      shown_pin text threads graph shows mutator slot (omega (arith, high, same_length)) small ∙ ap name_in (holds_nothing (suc mutator) slot low (omega (arith, high, same_length)) small)

-- a test of pin slots that does not fail
pub not_pinned : (text : Text) → ((PinsNothing text → ⊥) → ⊥) → PinsNothing text
not_pinned text never thread slot low high small = by_slot (pin_of text thread slot) refl
  where
    by_slot : (held_name : Reference) → pin_of text thread slot ≡ held_name → pin_of text thread slot ≡ None
    by_slot None pin_holds = pin_holds
    by_slot (Some name) pin_holds = absurd (never (λ pins_nothing. let empty = pins_nothing thread slot low high small in cc))
