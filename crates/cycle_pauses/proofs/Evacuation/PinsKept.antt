-- Pin words stand for what their slots hold while objects are copied that no slot holds.
use Rattle.std.proofs.Common.{◌≡◌, ℕ, Option, Some, None, subst}
use Rattle.heap_words.specs.declared.config.Config.{Config}
use Rattle.shen_graph.specs.declared.pin.Pinned.{Pinned}
use Rattle.heap_world.specs.World.{Block, thing, Plot, PinStands}

-- where what stands at the word stays
pub pin_kept : (config : Config) (cset evac : ℕ) (block new_plot : Plot) (word : ℕ) (held : Option Pinned) → ((piece : Block) → block word ≡ Some piece → new_plot word ≡ Some piece)
    → PinStands config cset evac block word held → PinStands config cset evac new_plot word held
pin_kept config cset evac block new_plot word None piece_stays pin_stands = pin_stands
pin_kept config cset evac block new_plot word (Some pinned) piece_stays pin_stands = (pin_stands.0, pin_stands.1, pin_stands.2, record { piece = piece_stays (thing pinned.name pin_stands.1 pin_stands.2) pin_stands.3.piece; safe = pin_stands.3.safe })

-- and where the words are the same
pub pin_same : (config : Config) (cset evac new_cset new_evac : ℕ) (block : Plot) (word new_word : ℕ) (pinned : Option Pinned) → cset ≡ new_cset → evac ≡ new_evac → word ≡ new_word
    → PinStands config cset evac block word pinned → PinStands config new_cset new_evac block new_word pinned
pin_same config cset evac new_cset new_evac block word new_word pinned same_cset copiers same_word pin_stands =
    subst (λ pin_word. PinStands config new_cset new_evac block pin_word pinned) same_word (subst (λ evac. PinStands config new_cset evac block word pinned) copiers (subst (λ cset. PinStands config cset evac block word pinned) same_cset pin_stands))
