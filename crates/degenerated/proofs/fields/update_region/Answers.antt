use Rattle.std.proofs.Common.{◌≡◌, ◌+◌, ◌-◌, ◌<◌, ◌==◌, ℕ, Bool, true, false, refl, sym, ap, ◌∙◌, subst, arith}
use Rattle.heap_words.specs.declared.config.Config.{Config}
use Rattle.heap_words.specs.Words.{Word, Top, Heap}
use Rattle.regions.specs.Place.{base_of}
use Rattle.regions.specs.Walk.{start_of, stride_at}
use Rattle.image_graph.specs.Pinned.{object_of}
use Rattle.image_graph.specs.State.{config_of, memory_of}
use Rattle.image_graph.proofs.PieceStarts.{start_first}
use Rattle.cycle_words.specs.Finishing.Updated.{stays, is_staying, CanUpdateAll}
use Rattle.degenerated.specs.Steps.{kept_now, fields_updated, is_at, is_below, is_of}
use Rattle.degenerated.proofs.UpdatedFields.{CanRead, staying_told, object_in, same_fields, no_fields, can_still, same_object, then_updated, last_in_heap, here, still, none_below, addresses_apart, one_address_more, fields_below}
use Rattle.degenerated.proofs.KeptHeap.{kept_same}
use Rattle.degenerated.proofs.fields.update_region.Goals as goal
use Rattle.degenerated.proofs.fields.update_region.Goals.{then-ends_at, else-ends_at}

-- what was found of an object is so of the words at first
module _ (lead : ℕ → ℕ) (config other_config : Config) (memory now : Word → ℕ) (can_update : CanUpdateAll config memory) (region offset : ℕ) (region_below : region < config.regions) (staying : stays config memory region ≡ true) (offset_below : offset < memory (Top region))
    (same_config : other_config ≡ config) (words : now ≡ fields_updated config lead (is_below config region offset) memory) (first : ℕ) (base : first ≡ base_of config region) where
  abbrev test : ℕ → Bool
  test = is_below config region offset

  abbrev memory_then : Word → ℕ
  memory_then = fields_updated config lead test memory

  module _ (object : ℕ) (object_there : object ≡ base_of config region + start_of (λ any_address. memory (Heap any_address)) (base_of config region) (offset - 1)) where
    pub first_is : CanRead other_config now object
    first_is =
        subst (λ (config : Config). CanRead config now object) (sym same_config)
        (subst (λ (memory : Word → ℕ). CanRead config memory object) (sym words) (subst (CanRead config memory_then) (sym object_there) (last_in_heap config lead memory can_update test region region_below staying offset offset_below)))

    pub begun_here : (answered : Bool) → answered ≡ (object + stride_at (λ address. now (Heap address)) object == first + offset) → answered ≡ true
        → first + offset ≡ base_of config region + start_of (λ address. memory (Heap address)) (base_of config region) offset
    begun_here answered same_answer passes =
        here config lead memory can_update test region region_below staying offset offset_below object first object_there base (ap (λ (memory : Word → ℕ). object + stride_at (λ address. memory (Heap address)) object == first + offset) (sym words) ∙ sym same_answer ∙ passes)

    pub goes_on_here : (answered : Bool) → answered ≡ (object + stride_at (λ address. now (Heap address)) object == first + offset) → answered ≡ false
        → object ≡ base_of config region + start_of (λ address. memory (Heap address)) (base_of config region) offset
    goes_on_here answered same_answer fails =
        still config lead memory can_update test region region_below staying offset offset_below object first object_there base (ap (λ (memory : Word → ℕ). object + stride_at (λ address. memory (Heap address)) object == first + offset) (sym words) ∙ sym same_answer ∙ fails)

  pub can_now : CanUpdateAll other_config now
  can_now = subst (λ (config : Config). CanUpdateAll config now) (sym same_config) (subst (CanUpdateAll config) (sym words) (can_still config lead memory can_update test))

  lies : is_staying config memory (first + offset) ≡ true
  lies = ap (λ start. is_staying config memory (start + offset)) base ∙ staying_told config memory region offset region_below staying (can_update.within region region_below) offset_below

  pub staying_now : is_staying other_config now (first + offset) ≡ true
  staying_now = ap (λ (config : Config). is_staying config now (first + offset)) same_config ∙ ap (λ (memory : Word → ℕ). is_staying config memory (first + offset)) words ∙ lies

  pub object_now : (object : ℕ) → object ≡ base_of config region + start_of (λ address. memory (Heap address)) (base_of config region) offset → object ≡ object_of other_config now (first + offset)
  object_now object object_there =
      object_there ∙ sym (ap (λ (config : Config). object_of config now (first + offset)) same_config ∙ ap (λ (memory : Word → ℕ). object_of config memory (first + offset)) words
      ∙ same_object config lead memory can_update test (first + offset) lies ∙ ap (λ start. object_of config memory (start + offset)) base ∙ object_in config memory region offset (omega (arith, can_update.within region region_below, offset_below)))

pub loop-offset-init : goal.loop-offset-init
loop-offset-init c =
    let config = config_of c.args.image.now in
    let memory : Word → ℕ = memory_of c.args.image.now in
    let region = c.args.region in
    record {
      config = refl;
      places = refl;
      words = no_fields config memory (kept_now c.args.image.now) (is_below config region 0) (λ any_address field. none_below config region any_address);
      object = c.base-first.ensures ∙ ap (λ (config : Config). base_of config region) c.config.ensures
          ∙ (let first_start = start_first (λ address. memory (Heap address)) (base_of config region) in let same_base : base_of config region ≡ base_of config region + start_of (λ address. memory (Heap address)) (base_of config region) 0 = omega (arith, first_start) in same_base);
    }

pub ends_at-requires-clause-header : goal.ends_at-requires-clause-header
ends_at-requires-clause-header c =
    let config = config_of c.args.image.now in
    let memory : Word → ℕ = memory_of c.args.image.now in
    let invariant = c.loop-offset.invariant in
    (first_is (kept_now c.args.image.now) config (config_of c.loop-offset.image) memory (memory_of c.loop-offset.image) c.requires.can c.args.region c.loop-offset.offset c.requires.region c.requires.stays
    (omega (arith, c.loop-offset-test.true, c.top-top.ensures)) invariant.config invariant.words c.base-first.result
    (c.base-first.ensures ∙ ap (λ (config : Config). base_of config c.args.region) c.config.ensures) c.loop-offset.object invariant.object).0

pub ends_at-requires-clause-shape : goal.ends_at-requires-clause-shape
ends_at-requires-clause-shape c =
    let config = config_of c.args.image.now in
    let memory : Word → ℕ = memory_of c.args.image.now in
    let invariant = c.loop-offset.invariant in
    (first_is (kept_now c.args.image.now) config (config_of c.loop-offset.image) memory (memory_of c.loop-offset.image) c.requires.can c.args.region c.loop-offset.offset c.requires.region c.requires.stays
    (omega (arith, c.loop-offset-test.true, c.top-top.ensures)) invariant.config invariant.words c.base-first.result
    (c.base-first.ensures ∙ ap (λ (config : Config). base_of config c.args.region) c.config.ensures) c.loop-offset.object invariant.object).1

pub update_word-requires-clause-can : goal.update_word-requires-clause-can
update_word-requires-clause-can c =
    let config = config_of c.args.image.now in
    let memory : Word → ℕ = memory_of c.args.image.now in
    let invariant = c.loop-offset.invariant in
    can_now (kept_now c.args.image.now) config (config_of c.loop-offset.image) memory (memory_of c.loop-offset.image) c.requires.can c.args.region c.loop-offset.offset c.requires.region c.requires.stays
    (omega (arith, c.loop-offset-test.true, c.top-top.ensures)) invariant.config invariant.words c.base-first.result
    (c.base-first.ensures ∙ ap (λ (config : Config). base_of config c.args.region) c.config.ensures)

pub update_word-requires-clause-stays : goal.update_word-requires-clause-stays
update_word-requires-clause-stays c =
    let config = config_of c.args.image.now in
    let memory : Word → ℕ = memory_of c.args.image.now in
    let invariant = c.loop-offset.invariant in
    staying_now (kept_now c.args.image.now) config (config_of c.loop-offset.image) memory (memory_of c.loop-offset.image) c.requires.can c.args.region c.loop-offset.offset c.requires.region c.requires.stays
    (omega (arith, c.loop-offset-test.true, c.top-top.ensures)) invariant.config invariant.words c.base-first.result
    (c.base-first.ensures ∙ ap (λ (config : Config). base_of config c.args.region) c.config.ensures)

pub update_word-requires-clause-object : goal.update_word-requires-clause-object
update_word-requires-clause-object c =
    let config = config_of c.args.image.now in
    let memory : Word → ℕ = memory_of c.args.image.now in
    let region = c.args.region in
    let offset = c.loop-offset.offset in
    let now = c.loop-offset.image in
    let invariant = c.loop-offset.invariant in
    let offset_below : offset < memory (Top region) = omega (arith, c.loop-offset-test.true, c.top-top.ensures) in
    let base = c.base-first.ensures ∙ ap (λ (config : Config). base_of config region) c.config.ensures in
    object_now (kept_now c.args.image.now) config (config_of now) memory (memory_of now) c.requires.can region offset c.requires.region c.requires.stays offset_below invariant.config invariant.words c.base-first.result base c.if-ends_at.object
    (elim c.if-ends_at.branch [
      | then-ends_at w ↦ w.object-is ∙ begun_here (kept_now c.args.image.now) config (config_of now) memory (memory_of now) c.requires.can region offset c.requires.region c.requires.stays offset_below invariant.config invariant.words c.base-first.result base
          c.loop-offset.object invariant.object c.ends_at.result c.ends_at.ensures w.if-ends_at.true
      | else-ends_at w ↦ w.object-is ∙ goes_on_here (kept_now c.args.image.now) config (config_of now) memory (memory_of now) c.requires.can region offset c.requires.region c.requires.stays offset_below invariant.config invariant.words c.base-first.result base
          c.loop-offset.object invariant.object c.ends_at.result c.ends_at.ensures w.if-ends_at.false
    ])

pub loop-offset-preserved : goal.loop-offset-preserved
loop-offset-preserved c =
    let config = config_of c.args.image.now in
    let memory : Word → ℕ = memory_of c.args.image.now in
    let region = c.args.region in
    let offset = c.loop-offset.offset in
    let now = c.loop-offset.image in
    let invariant = c.loop-offset.invariant in
    let offset_below : offset < memory (Top region) = omega (arith, c.loop-offset-test.true, c.top-top.ensures) in
    let base : c.base-first.result ≡ base_of config region = c.base-first.ensures ∙ ap (λ (config : Config). base_of config region) c.config.ensures in
    let object : c.if-ends_at.object ≡ base_of config region + start_of (λ address. memory (Heap address)) (base_of config region) offset = elim c.if-ends_at.branch [
      | then-ends_at w ↦ w.object-is ∙ begun_here (kept_now c.args.image.now) config (config_of now) memory (memory_of now) c.requires.can region offset c.requires.region c.requires.stays offset_below invariant.config invariant.words c.base-first.result base
          c.loop-offset.object invariant.object c.ends_at.result c.ends_at.ensures w.if-ends_at.true
      | else-ends_at w ↦ w.object-is ∙ goes_on_here (kept_now c.args.image.now) config (config_of now) memory (memory_of now) c.requires.can region offset c.requires.region c.requires.stays offset_below invariant.config invariant.words c.base-first.result base
          c.loop-offset.object invariant.object c.ends_at.result c.ends_at.ensures w.if-ends_at.false
    ] in
    let same_offset : offset ≡ offset + 1 - 1 = omega arith in
    let lead : ℕ → ℕ = kept_now c.args.image.now in
    record {
      config = c.update_word.ensures.config ∙ invariant.config;
      places = c.update_word.ensures.places ∙ invariant.places;
      words = c.update_word.ensures.words
          ∙ ap (λ (f : ℕ → ℕ). fields_updated (config_of now) f (is_at (c.base-first.result + offset)) (memory_of now)) (kept_same c.args.image.now now invariant.config invariant.places)
          ∙ ap (λ (config : Config). fields_updated config lead (is_at (c.base-first.result + offset)) (memory_of now)) invariant.config
          ∙ ap (fields_updated config lead (is_at (c.base-first.result + offset))) invariant.words
          ∙ ap (λ start. fields_updated config lead (is_at (start + offset)) (fields_updated config lead (is_below config region offset) memory)) base
          ∙ then_updated config lead memory c.requires.can (is_below config region offset) (is_at (base_of config region + offset)) (is_below config region (offset + 1)) (λ any_address field before. addresses_apart config region offset any_address before) (λ any_address field. one_address_more config region offset any_address);
      object = object ∙ ap (λ any_offset. base_of config region + start_of (λ address. memory (Heap address)) (base_of config region) any_offset) same_offset;
    }

pub returns-clause-words : goal.returns-clause-words
returns-clause-words c =
    let config = config_of c.args.image.now in
    let memory : Word → ℕ = memory_of c.args.image.now in
    let region = c.args.region in
    let all_words : c.loop-offset.offset ≡ memory (Top region) = omega (arith, c.loop-offset-test.false, c.loop-offset.auto.offset-end, c.top-top.ensures) in
    c.loop-offset.invariant.words ∙ ap (λ offset. fields_updated config (kept_now c.args.image.now) (is_below config region offset) memory) all_words
    ∙ same_fields config memory (kept_now c.args.image.now) (is_below config region (memory (Top region))) (is_of config region) (fields_below config memory region c.requires.region (c.requires.can.within region c.requires.region))
