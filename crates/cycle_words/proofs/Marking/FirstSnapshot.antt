-- The snapshot of the words with which marking begins: the pieces, what roots, answers and pin slots hold, and the edges of regions.
use Rattle.std.proofs.Common.{◌≡◌, ◌≢◌, ℕ, ◌+◌, ◌*◌, ◌≤◌, ◌&&◌, nat_le, Bool, true, false, Option, Some, inl, refl, sym, ap, ◌∙◌, arith}
use Rattle.std.proofs.lemmas.Bool.{and_parts, and_from, le-leb, leb-true}
use Rattle.std.proofs.lemmas.Nat.Bits.{bit_at-zero}
use Rattle.heap_words.specs.declared.config.Config.{Config}
use Rattle.heap_words.specs.Words.{Word, Top, Buffer, Heap}
use Rattle.shen_graph.specs.declared.name.Name.{Name}
use Rattle.regions.specs.Marks.{mark_bit}
use Rattle.heap_world.specs.Walk.{has}
use Rattle.heap_world.specs.World.{thing, promised, dead, Plot, Scan, Snapshot, AreMarks, IsMarkable, IsNoted, IsToScan, IsTracedAt, IsLed, KeepsSnapshot}
use Rattle.image_graph.specs.Edge.{edge}
use Rattle.image_graph.specs.Divided.{AreDivided}
use Rattle.image_graph.specs.Held.{IsAmong}
use Rattle.image_graph.specs.Full.{held_words}
use Rattle.cycle_words.specs.Marking.Marks.{mark_bits}
use Rattle.cycle_words.proofs.Marking.Bits.{one, bits_small, bits_at, mark_at}

one_is : (holds : Bool) → one holds ≡ 1 → holds ≡ true
one_is true counts_one = refl
one_is false counts_one = absurd (omega (arith, counts_one))

module _ (config : Config) (memory : Word → ℕ) (plot : Plot) where
  abbrev named : ℕ → Bool
  named = has (held_words config memory)

  abbrev pub first : ℕ → Bool
  first address = nat_le config.region_words address && named address

  abbrev pub first_snapshot : Snapshot
  first_snapshot = record { block = plot; heap = λ address. memory (Heap address); starts = first; top = edge config memory }

  pub is_first : (address : ℕ) → config.region_words ≤ address → IsAmong (held_words config memory) address → first address ≡ true
  is_first address address_above held_word = and_from (nat_le config.region_words address) (named address) (le-leb config.region_words address address_above) held_word

  -- Where its objects are those that it leads to, what roots, answers and pin slots hold can be marked, and what is promised is so held.
  module _ (recording : ℕ → Option ℕ) (scanning : ℕ → Option Scan) (led : (asked_address refs nums : ℕ) (name : Name) → plot asked_address ≡ Some (thing name refs nums) → IsLed first_snapshot asked_address)
      (markable : (asked_address : ℕ) → IsAmong (held_words config memory) asked_address → asked_address ≢ 0 → IsMarkable plot asked_address) (promises : (asked_address seat words : ℕ) → plot asked_address ≡ Some (promised seat words) → first asked_address ≡ true)
      (divided : AreDivided config memory plot) where
    -- what they hold is grey
    first_noted : (address : ℕ) → first address ≡ true → IsNoted config (mark_bits config named) (λ t. 0) (λ mutator entry. memory (Buffer mutator entry)) recording address
    first_noted address first_address =
        let first_parts = and_parts (nat_le config.region_words address) (named address) first_address in
        IsNoted.by_mark (mark_at config named address (leb-true config.region_words address first_parts.0) ∙ ap one first_parts.1)

    -- and nothing else
    greys_are : AreMarks config (mark_bits config named) plot
    greys_are = record {
      small = λ word_number. bits_small named (config.region_words + 64 * word_number) 64;
      of_objects = λ word_number bit bit_below bit_set.
          let marked_address : ℕ = config.region_words + 64 * word_number + bit in
          let address_named = one_is (named marked_address) (sym (bits_at named (config.region_words + 64 * word_number) 64 bit bit_below) ∙ bit_set) in
          let least_words = config.in_range.least_words in
          markable marked_address address_named (λ null_address. omega (arith, null_address, least_words));
    }

    pub first_marked : KeepsSnapshot config 1 (mark_bits config named) (λ number. 0) (λ thread. 0) (λ mutator entry. memory (Buffer mutator entry)) (λ region. memory (Top region)) (edge config memory) (λ address. memory (Heap address)) plot first_snapshot recording scanning
    first_marked = record {
      empty = λ other_phase. absurd (other_phase refl);
      traced = record {
        edges = λ address refs nums index name piece_there number_below. IsTracedAt.stands refl (IsToScan.is_white (bit_at-zero (mark_bit config address)));
        starts = first_noted;
      };
      led = led;
      old = λ asked_address refs nums name piece_there. divided.others asked_address (thing name refs nums) piece_there refl;
      kept = λ asked_address refs nums name piece_there. piece_there;
      floors = λ number inside. divided.tops number;
      marking = λ phase_one. record {
        older = λ address refs nums name piece_there. inl piece_there;
        promises = λ asked_address seat words piece_there. promises asked_address seat words piece_there;
        deads = λ asked_address words piece_there. divided.others asked_address (dead words) piece_there refl;
        young = divided.rooms;
        tams_are = λ region inside. refl;
        greys = greys_are;
        blacks = record { small = λ number. omega arith; of_objects = λ number index number_below bit_set. absurd (let bit_clear = bit_at-zero index in omega (arith, bit_clear, bit_set)) };
        entries = record { few = λ thread inside. omega arith; of_objects = λ thread index inside number_below. absurd (omega (arith, number_below)) };
      };
    }
