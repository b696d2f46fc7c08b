-- While objects are marked, marking comes to each object that is not marked and was there at mark start.
use Rattle.heap_words.specs.Phases.{marking_phase}
use Rattle.std.proofs.Common.{◌≡◌, ◌≢◌, ℕ, ◌+◌, ◌<◌, ◌≤◌, inl, inr, ⊎_elim, true, Some, arith}
use Rattle.std.proofs.lemmas.Bool.{cases_lt, cases_eq}
use Rattle.std.proofs.lemmas.Nat.Bits.{bit_at-lt}
use Rattle.heap_words.specs.declared.config.Config.{Config}
use Rattle.heap_words.specs.Words.{Phase, Top, Tams, Black, Heap, IsWord}
use Rattle.regions.specs.Place.{base_of, region_with}
use Rattle.regions.proofs.PlaceLemmas.{regions_tile}
use Rattle.regions.specs.Marks.{mark_word, mark_bit, mark_at}
use Rattle.shen_graph.specs.declared.name.Name.{Name}
use Rattle.heap_world.specs.World.{World, thing, Snapshot, IsMarkable, IsYoung, IsToScan, IsTracedAt, IsLed, NotedIn, was_at, Shared}
use Rattle.heap_world.proofs.Pointing.{piece_inside}
use Rattle.cycle_steps.specs.Chains.{IsStillOpen, IsNamedBy, IsChained, IsSafe, MarkingComes}

module _ (config : Config) (world : World) (shared : Shared config world) (marking_on : world.memory Phase ≡ marking_phase) where
  abbrev snapshot : Snapshot
  snapshot = world.ghost.snapshot

  abbrev black : ℕ → ℕ
  black number = world.memory (Black number)

  -- whether an object of the snapshot has been allocated since
  not_young : (address refs nums : ℕ) (name : Name) → snapshot.block address ≡ Some (thing name refs nums) → IsYoung config (λ region. world.memory (Tams region)) address → ⊥
  not_young address refs nums name object_there young =
      let piece_place = piece_inside config (λ region. world.memory (Top region)) world.block shared.parsable.plotted address (thing name refs nums) (shared.marked.kept address refs nums name object_there) in
      let heap : IsWord config (Heap address) = (piece_place.0, omega (arith, piece_place.1)) in
      let tams = (shared.marked.marking marking_on).tams_are (region_with config address) (regions_tile.in_range config address heap) in
      shared.marked.old address refs nums name object_there (omega (arith, young, tams))

  -- what marking would come to is safe
  safe_if : (address : ℕ) → (IsStillOpen config world address → IsChained config world address) → IsSafe config world address
  safe_if address chain = ⊎_elim
      (λ (white : mark_at config black address ≡ 0). ⊎_elim
      (λ (below_tams : address < base_of config (region_with config address) + world.memory (Tams (region_with config address))). inr (inr (chain (record { unmarked = white; old = λ young. omega (arith, below_tams, young) }))))
      (λ (young : base_of config (region_with config address) + world.memory (Tams (region_with config address)) ≤ address). inr (inl young))
      (cases_lt address (base_of config (region_with config address) + world.memory (Tams (region_with config address)))))
      (λ (address_marked : mark_at config black address ≢ 0). inl (let bit = bit_at-lt (black (mark_word config address)) (mark_bit config address) in omega (arith, address_marked, bit)))
      (cases_eq (mark_at config black address) 0)

  -- what is noted is safe
  noted_safe : (address : ℕ) → NotedIn config world address → IsSafe config world address
  noted_safe address noted = safe_if address (IsChained.begins address noted)

  module _ (address refs nums field : ℕ) (name : Name) (object_there : snapshot.block address ≡ Some (thing name refs nums)) (field_below : field < refs) (some_reference : was_at snapshot address field ≢ 0) (word_stands : world.memory (Heap (address + 3 + field)) ≡ was_at snapshot address field) where
    -- the field names what it named then
    named : IsNamedBy world address field (was_at snapshot address field)
    named = record { name = name; refs = refs; nums = nums; object = shared.marked.kept address refs nums name object_there; below = field_below; word = word_stands; some = some_reference }

    -- where the object is not black, it is safe and so chained, and the chain goes on
    from_white : mark_at config black address ≡ 0 → IsSafe config world address → IsSafe config world (was_at snapshot address field)
    from_white white safe = ⊎_elim
        (λ (address_marked : mark_at config black address ≡ 1). absurd (omega (arith, white, address_marked)))
        (λ young_or_chained. ⊎_elim
        (λ (young : IsYoung config (λ region. world.memory (Tams region)) address). absurd (not_young address refs nums name object_there young))
        (λ (chain : IsChained config world address). safe_if (was_at snapshot address field) (IsChained.goes_on address field (was_at snapshot address field) chain named))
        young_or_chained)
        safe

    -- a scan has still to come to the field
    from_scan : IsToScan config black world.ghost.scanning address field → IsSafe config world address → IsSafe config world (was_at snapshot address field)
    from_scan (IsToScan.is_white white) safe = from_white white safe
    from_scan (IsToScan.in_scan seat scan_place seat_inside scan_there field_ahead) safe = safe_if (was_at snapshot address field) (IsChained.in_scan seat address scan_place field (was_at snapshot address field) seat_inside scan_there field_ahead named)

  -- a reference of the snapshot names what is safe
  from_edge : (address refs nums field : ℕ) (name : Name) → snapshot.block address ≡ Some (thing name refs nums) → field < refs → was_at snapshot address field ≢ 0 → IsSafe config world address
      → IsTracedAt config snapshot (λ address. world.memory (Heap address)) black world.ghost.scanning (NotedIn config world) address field → IsSafe config world (was_at snapshot address field)
  from_edge address refs nums field name object_there field_below some_reference safe (IsTracedAt.done done_marking) = ⊎_elim (λ (null : was_at snapshot address field ≡ 0). absurd (some_reference null)) (λ (noted : NotedIn config world (was_at snapshot address field)). noted_safe (was_at snapshot address field) noted) done_marking
  from_edge address refs nums field name object_there field_below some_reference safe (IsTracedAt.stands address_stands scan) = from_scan address refs nums field name object_there field_below some_reference address_stands scan safe

  -- so what the snapshot leads to is safe
  led_safe : (address : ℕ) → IsLed snapshot address → IsSafe config world address
  led_safe _ (IsLed.by_start address starts) = noted_safe address (shared.marked.traced.starts address starts)
  led_safe _ (IsLed.by_field address refs nums field name led object_there field_below some_reference) =
      from_edge address refs nums field name object_there field_below some_reference (led_safe address led) (shared.marked.traced.edges address refs nums field name object_there field_below)

  -- and each object
  markable_safe : (address : ℕ) → IsMarkable world.block address → IsSafe config world address
  markable_safe address (IsMarkable.to_come seat words piece_there) = noted_safe address (shared.marked.traced.starts address ((shared.marked.marking marking_on).promises address seat words piece_there))
  markable_safe address (IsMarkable.object name refs nums piece_there) = ⊎_elim
      (λ (old : snapshot.block address ≡ Some (thing name refs nums)). led_safe address (shared.marked.led address refs nums name old))
      (λ start_or_young. ⊎_elim
      (λ (start : snapshot.starts address ≡ true). noted_safe address (shared.marked.traced.starts address start))
      (λ (young : IsYoung config snapshot.top address).
      let piece_place = piece_inside config (λ region. world.memory (Top region)) world.block shared.parsable.plotted address (thing name refs nums) piece_there in
      let tams = (shared.marked.marking marking_on).tams_are (region_with config address) (regions_tile.in_range config address (piece_place.0, omega (arith, piece_place.1))) in
      inr (inl (omega (arith, young, tams))))
      start_or_young)
      ((shared.marked.marking marking_on).older address refs nums name piece_there)

pub marking_comes : MarkingComes
marking_comes config world shared marking_on = markable_safe config world shared marking_on
