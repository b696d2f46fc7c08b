-- The words of an image stand for a graph before and after packing.
use Rattle.std.proofs.Common.{◌≡◌, ◌≢◌, ℕ, ◌+◌, ◌<◌, ◌≤◌, ◌==◌, inl, inr, nat_le, Bool, false, List, Some, None, ⊎_elim, refl, sym, ap, ◌∙◌, subst, arith}
use Rattle.std.proofs.lemmas.Bool.{cond-true, cond-false, le-leb, lt-leb, ne_eqb}
use Rattle.heap_words.specs.declared.config.Config.{Config}
use Rattle.heap_words.specs.Words.{Word, Top, Root, Answer, Pin, Heap}
use Rattle.heap_words.specs.Encoding.{is_forwarded, forwardee_in, plain_header}
use Rattle.regions.specs.Places.{new_place}
use Rattle.regions.proofs.Placed.{stays_above}
use Rattle.regions.specs.Slide.{renewed}
use Rattle.shen_graph.specs.declared.name.Name.{Name}
use Rattle.shen_graph.specs.Graph.{Graph}
use Rattle.heap_world.specs.World.{Plot, thing, name_at, Points, IsPlotted, AreObjects}
use Rattle.heap_world.proofs.Pointing.{piece_inside}
use Rattle.image_graph.specs.Held.{from_root, IsAmong, AreHeldKept, IsLedTo, HoldsGraph, IsCopy}
use Rattle.image_graph.specs.Pinned.{is_row_pinned}
use Rattle.image_graph.specs.Plot.{AreParsed, AreThings, packed_block}
use Rattle.image_graph.specs.Full.{now_in, held_words, kept_in, packed, renewed_answer}
use Rattle.image_graph.specs.Laws.{KeepsGraph}
use Rattle.image_graph.specs.Promised.{Promises, with_promised}
use Rattle.image_graph.specs.Image.{AnswerStands, PinWordStands, RootsStand, ImageStands}
use Rattle.image_graph.proofs.Named.{thing_at}
use Rattle.image_graph.proofs.Reached.{can_pack}
use Rattle.image_graph.proofs.Origin.{lie_apart}
use Rattle.image_graph.proofs.ImagesHold.{keeps_graph}
use Rattle.image_graph.proofs.PinnedRows.{word_pinned}
use Rattle.image_graph.proofs.Walked.{walk_keeps}
use Rattle.image_graph.proofs.HeldRoots.{pin_stays, root_named, root_held, root_among, answer_among, pin_among, no_pins}

-- an object with a plain header is its own current copy
pub own_copy : (memory : Word → ℕ) (address : ℕ) → memory (Heap address) ≡ plain_header → now_in memory address ≡ address
own_copy memory address plain =
    cond-false (is_forwarded (memory (Heap address))) (forwardee_in (memory (Heap address))) address (ap is_forwarded plain)

-- packing changes no pin slot
pub packed_pin : (config : Config) (shut : ℕ → Bool) (now kept : ℕ → ℕ) (memory : Word → ℕ) (mutator index : ℕ) → packed config shut now kept memory (Pin mutator index) ≡ memory (Pin mutator index)
unfolding packed
packed_pin config shut now kept memory mutator index = refl

pub objects_hold : (config : Config) (memory : Word → ℕ) (block : Plot) (graph : Graph) (promises : Promises) → IsPlotted config (λ region. memory (Top region)) block → AreThings block
    → AreObjects (λ address. memory (Heap address)) block (with_promised graph promises).object → RootsStand config memory block graph promises
    → HoldsGraph config (λ region. memory (Top region)) (λ address. memory (Heap address)) block (now_in memory) (IsAmong (held_words config memory)) (with_promised graph promises)
objects_hold config memory block graph promises plotted things objects rooted = record {
  plotted = plotted;
  current = λ word name stands_there.
      let piece = thing_at block things word name stands_there in
      let object = objects.each word piece.0 piece.1 name piece.2 in
      (piece.0, piece.1, ap block (own_copy memory word object.2.header) ∙ piece.2);
  each = λ own_address refs nums name is_held stands_there. objects.each own_address refs nums name stands_there;
  once = λ own_address other_address refs nums other_refs other_nums name own_held other_held first_there second_there. objects.once own_address other_address refs nums other_refs other_nums name first_there second_there;
  root_named = root_named config (λ region. memory (Top region)) memory block graph promises plotted rooted;
  root_held = root_held config (λ region. memory (Top region)) memory block graph promises plotted rooted;
  pinless = no_pins config (λ region. memory (Top region)) memory block graph promises plotted rooted;
}

pub standing_holds : (config : Config) (memory : Word → ℕ) (block : Plot) (graph : Graph) (promises : Promises) → ImageStands config memory block graph promises
    → HoldsGraph config (λ region. memory (Top region)) (λ address. memory (Heap address)) block (now_in memory) (IsAmong (held_words config memory)) (with_promised graph promises)
standing_holds config memory block graph promises stands = objects_hold config memory block graph promises stands.plotted stands.things stands.objects stands.rooted

module _ (config : Config) (memory : Word → ℕ) (block : Plot) (graph : Graph) (promises : Promises)
    (holds : HoldsGraph config (λ any_region. memory (Top any_region)) (λ any_address. memory (Heap any_address)) block (now_in memory) (IsAmong (held_words config memory)) (with_promised graph promises))
    (rooted : RootsStand config memory block graph promises) (parsed : AreParsed config (is_row_pinned config memory) (λ any_region. memory (Top any_region)) (λ any_address. memory (Heap any_address)) block) where
  abbrev top : ℕ → ℕ
  top region = memory (Top region)

  abbrev heap : ℕ → ℕ
  heap address = memory (Heap address)

  abbrev now : ℕ → ℕ
  now = now_in memory

  abbrev kept : ℕ → ℕ
  kept = kept_in config memory

  abbrev shut : ℕ → Bool
  shut = is_row_pinned config memory

  abbrev place : ℕ → ℕ
  place = new_place config.region_words shut kept

  abbrev roots : List ℕ
  roots = held_words config memory

  abbrev new_block : Plot
  new_block = packed_block config shut kept block

  abbrev after : Word → ℕ
  after = packed config shut now kept memory

  kept_are : AreHeldKept heap (IsLedTo now heap (IsAmong roots)) kept
  kept_are = walk_keeps config memory block (with_promised graph promises) holds

  keeps : KeepsGraph config memory block (with_promised graph promises) shut now kept roots
  keeps = keeps_graph config memory block (with_promised graph promises) shut now kept roots (record { holds = holds; kept_are = kept_are; parsed = parsed })

  -- the place of what a root word leads to is an address
  place_high : (word : ℕ) → IsAmong roots word → word ≢ 0 → 1 < place (now word)
  place_high word among_roots some_word =
      let can_be_packed = can_pack config top heap block now (IsAmong roots) (with_promised graph promises) holds kept kept_are in
      let size = kept_are.words (now word) (from_root word among_roots some_word) in
      let objects_apart = lie_apart config top heap block (with_promised graph promises).object now kept can_be_packed in
      omega (arith, stays_above config.region_words shut kept objects_apart (now word) (omega (arith, size)), config.in_range.least_words)

  -- what an answer stood for it stands for
  answer_again : (mutator : ℕ) → mutator < config.mutators → AnswerStands new_block (after (Answer mutator)) (promises.ref (mutator + 1))
  unfolding packed
  answer_again mutator inside = ⊎_elim
      (λ (no_answer : (memory (Answer mutator) ≤ 1) × (promises.ref (mutator + 1) ≡ None)).
      let same_word = cond-true (nat_le (memory (Answer mutator)) 1) (memory (Answer mutator)) (place (now (memory (Answer mutator)))) (le-leb (memory (Answer mutator)) 1 no_answer.0) in
      inl (omega (arith, same_word, no_answer.0), no_answer.1))
      (λ (some_answer : (1 < memory (Answer mutator)) × (name : Name) × (promises.ref (mutator + 1) ≡ Some name) × (name_at (block (memory (Answer mutator))) ≡ Some name)).
      let word = memory (Answer mutator) in
      let some_word : word ≢ 0 = λ null_word. omega (arith, null_word, some_answer.0) in
      let among = answer_among config top memory block graph promises holds.plotted rooted mutator inside some_answer.0 in
      let answer : renewed_answer place now word ≡ place (now word) = cond-false (nat_le word 1) word (place (now word)) (lt-leb word 1 some_answer.0) in
      let root : renewed place now word ≡ place (now word) = cond-false (word == 0) 0 (place (now word)) (ne_eqb word 0 some_word) in
      let points : name_at (new_block (renewed place now word)) ≡ Some some_answer.1 = keeps.root_words word (Some some_answer.1) among some_answer.3 in
      inr (omega (arith, answer, place_high word among some_word), some_answer.1, some_answer.2, ap (λ copy_address. name_at (new_block copy_address)) (answer ∙ sym root) ∙ points))
      (rooted.answers mutator inside)

  root_again : (mutator index : ℕ) → mutator < config.mutators → index < 16 → Points new_block (after (Root mutator index)) (graph.root (mutator + 1) index)
  unfolding packed
  root_again mutator index inside index_below = keeps.root_words (memory (Root mutator index)) (graph.root (mutator + 1) index) (root_among config top memory block graph promises holds.plotted rooted mutator index inside index_below) (rooted.roots mutator index inside index_below)

  -- the object of a pin slot stays where it is, and is its own current copy
  pin_there : (mutator index : ℕ) → mutator < config.mutators → index < 4 → (name : Name) → IsCopy block (memory (Pin mutator index)) name → is_forwarded (memory (Heap (memory (Pin mutator index)))) ≡ false
      → IsCopy new_block (memory (Pin mutator index)) name × (is_forwarded (after (Heap (memory (Pin mutator index)))) ≡ false)
  pin_there mutator index inside index_below name copy plain =
      let word = memory (Pin mutator index) in
      let lies_inside = piece_inside config top block holds.plotted word (thing name copy.0 copy.1) copy.2 in
      let closed = word_pinned config memory mutator index inside index_below lies_inside.0 (omega (arith, lies_inside.1)) in
      let current : now word ≡ word = cond-false (is_forwarded (memory (Heap word))) (forwardee_in (memory (Heap word))) word plain in
      let stays = keeps.stays word name (pin_among config top memory block graph promises holds.plotted rooted mutator index inside index_below) current closed copy in
      (stays, ap is_forwarded (keeps.objects.each word stays.0 stays.1 name stays.2).2.header)

  pin_again : (mutator index : ℕ) → mutator < config.mutators → index < 4 → PinWordStands after new_block (after (Pin mutator index)) (graph.pin (mutator + 1) index)
  pin_again mutator index inside index_below =
      subst (λ word. PinWordStands after new_block word (graph.pin (mutator + 1) index)) (sym (packed_pin config shut now kept memory mutator index))
      (pin_stays memory after block new_block (memory (Pin mutator index)) (graph.pin (mutator + 1) index) (pin_there mutator index inside index_below) (rooted.pins mutator index inside index_below))

  pub packed_stands : ImageStands config after new_block graph promises
  packed_stands = record {
    plotted = keeps.plotted;
    filled = keeps.filled;
    objects = keeps.objects;
    things = keeps.things;
    fillers = keeps.fillers;
    free_word = keeps.free_word;
    rooted = record {
      roots = root_again;
      answers = answer_again;
      no_more_roots = rooted.no_more_roots;
      pins = pin_again;
      no_more_pins = rooted.no_more_pins;
      no_more_promised = rooted.no_more_promised;
    };
  }
