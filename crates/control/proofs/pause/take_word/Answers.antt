use Rattle.std.proofs.Common.{◌≡◌, ℕ, ◌<◌, ◌≤◌, List, length, set, take, true, sym, ap, ◌∙◌, subst, arith}
use Rattle.std.specs.Prelude.{nat_lt, if◌then◌else◌}
use Rattle.heap_words.specs.declared.config.Config.{Config}
use Rattle.heap_words.specs.Words.{Word, Phase, Cset}
use Rattle.heap_world.specs.Change.{image_words, image_view}
use Rattle.image_graph.specs.declared.image.Image.{Image}
use Rattle.image_graph.specs.State.{config_of, memory_of}
use Rattle.collector_rows.specs.declared.extent.Extent.{Extent}
use Rattle.collector_rows.specs.declared.control_spot.ControlSpot.TheVariants.{LoadWord}
use Rattle.collector_rows.specs.Extent.{is_of_extent, extent_after, next_loaded}
use Rattle.collector_rows.specs.ControlRows.{after_load, seen_after, next_image, next_seen, next_phase, next_set}
use Rattle.cycle_pauses.specs.Collect.{collect_image}
use Rattle.control.specs.Clear.{IsClear}
use Rattle.control.specs.Fit.{CanCollectPart, fits_with}
use Rattle.control.specs.Image.{image_in, part_in, image_shown, words_seen}
use Rattle.control.specs.Starts.{AreHeapIndices}
use Rattle.control.proofs.Images.{memory-image_in, length-image_in}
use Rattle.control.proofs.Loaded.{goes_on, stays, can_collect, image_made, phase_made, cset_made, seen_made}
use Rattle.control.proofs.pause.take_word.Goals as goal

-- an image into which a word was put, and the extent then
module _ (old mid : Image) (extent new_extent : Extent) (phase index word : ℕ) (index_below : index < image_words (config_of old)) (in_extent : is_of_extent (config_of old) extent index ≡ true)
    (config : config_of mid ≡ config_of old) (word_put : image_in mid ≡ set (image_in old) index word) (now_is : new_extent ≡ extent_after phase index extent word) where
  abbrev d : Config
  d = config_of old

  abbrev then_of : Extent
  then_of = extent_after phase index extent word

  abbrev before : List ℕ
  before = take index (part_in d extent (image_in old))

  abbrev next : ℕ
  next = next_loaded d then_of index

  long : length (image_in old) ≡ image_words d
  long = length-image_in old

  pub image_on : (starts : List ℕ) → next < image_words d → words_seen d (after_load d then_of index) starts (image_in mid) ≡ next_image collect_image d (LoadWord index extent) before phase word
  image_on starts next_below =
      ap (words_seen d (after_load d then_of index) starts) word_put ∙ goes_on collect_image d extent phase index word (image_in old) long index_below in_extent starts next_below

  -- the word that was last stays as well
  pub last_on : (before_it then_it : ℕ) → next < image_words d → before_it ≡ (if nat_lt next (image_words d) then before_it else then_it)
  last_on before_it then_it next_below = sym (stays collect_image d extent phase index word (image_in old) long index_below in_extent before_it then_it next_below)

  module _ (next_past : image_words d ≤ next) where
    pub can : fits_with d (LoadWord index extent) phase before word → CanCollectPart (config_of mid) new_extent (image_view (config_of mid) (part_in (config_of mid) new_extent (image_in mid)))
    can fit =
        let Can : Config → Extent → List ℕ → Type 0 = λ asked_config asked_extent image_list. CanCollectPart asked_config asked_extent (image_view asked_config (part_in asked_config asked_extent image_list)) in
        subst (λ asked_config. Can asked_config new_extent (image_in mid)) (sym config) (subst (λ asked_extent. Can d asked_extent (image_in mid)) (sym now_is) (subst (Can d then_of) (sym word_put)
        (can_collect collect_image d extent phase index word (image_in old) long index_below in_extent next_past fit)))

    -- and the image that a pause has made of it
    module _ (new : Image) (starts : List ℕ) (config_then : config_of new ≡ config_of mid) (clear : IsClear new)
        (made : image_shown (config_of mid) new_extent starts (image_in new) ≡ collect_image (config_of mid) (part_in (config_of mid) new_extent (image_in mid))) where
      made_then : image_shown d then_of starts (image_in new) ≡ collect_image d (part_in d then_of (set (image_in old) index word))
      made_then =
          let Made : Config → Extent → List ℕ → Type 0 = λ asked_config asked_extent image_list. image_shown asked_config asked_extent starts (image_in new) ≡ collect_image asked_config (part_in asked_config asked_extent image_list) in
          subst (Made d then_of) word_put (subst (λ asked_extent. Made d asked_extent (image_in mid)) now_is (subst (λ asked_config. Made asked_config new_extent (image_in mid)) config made))

      memory_then : memory_of new ≡ image_view d (image_in new)
      memory_then = memory-image_in new clear ∙ ap (λ asked_config. image_view asked_config (image_in new)) (config_then ∙ config)

      pub image_then : words_seen d (after_load d then_of index) starts (image_in new) ≡ next_image collect_image d (LoadWord index extent) before phase word
      image_then = image_made collect_image d extent phase index word (image_in old) long index_below in_extent next_past starts (image_in new) made_then

      pub phase_then : memory_of new Phase ≡ next_phase collect_image d (LoadWord index extent) before phase word
      phase_then = ap (λ (memory : Word → ℕ). memory Phase) memory_then ∙ phase_made collect_image d extent phase index word (image_in old) long index_below in_extent next_past starts (image_in new) made_then

      pub cset_then : (cset : ℕ) → memory_of new Cset ≡ next_set collect_image d (LoadWord index extent) before cset phase word
      cset_then cset = ap (λ (memory : Word → ℕ). memory Cset) memory_then ∙ cset_made collect_image d extent phase index word (image_in old) long index_below in_extent next_past starts (image_in new) made_then cset

      pub seen_then : (seen : ℕ) → seen_after seen (memory_of new) ≡ next_seen collect_image d (LoadWord index extent) before seen phase word
      seen_then seen = ap (seen_after seen) memory_then ∙ seen_made collect_image d extent phase index word (image_in old) long index_below in_extent next_past starts (image_in new) made_then seen

-- the index of the next word, and that of the end
next_is : (old mid : Image) (extent new_extent : Extent) (phase index word next_index : ℕ) (config : Config) → config ≡ config_of mid → config_of mid ≡ config_of old → new_extent ≡ extent_after phase index extent word → next_index ≡ next_loaded config new_extent index
    → next_index ≡ next_loaded (config_of old) (extent_after phase index extent word) index
next_is old mid extent new_extent phase index word next_index given_config read config now_is is_next =
    is_next ∙ ap (λ e. next_loaded e new_extent index) (read ∙ config) ∙ ap (λ e. next_loaded (config_of old) e index) now_is

pub collect_loaded-requires-clause-can : goal.collect_loaded-requires-clause-can
collect_loaded-requires-clause-can c =
    let next_right = next_is c.args.image.now c.put_word.new.image c.args.extent c.after-extent_now.result c.args.last.phase c.args.index c.args.word c.next-next.result c.config-config.result
    c.config-config.ensures c.put_word.ensures.config c.after-extent_now.ensures c.next-next.ensures in
    let end = c.image_words-end.ensures ∙ ap image_words (c.config-config.ensures ∙ c.put_word.ensures.config) in
    can c.args.image.now c.put_word.new.image c.args.extent c.after-extent_now.result c.args.last.phase c.args.index c.args.word c.requires.index c.requires.own
    c.put_word.ensures.config c.put_word.ensures.image c.after-extent_now.ensures (omega (arith, next_right, end, c.if-next-end.false)) c.requires.fit

pub collect_loaded-requires-clause-heap : goal.collect_loaded-requires-clause-heap
collect_loaded-requires-clause-heap c = subst (λ config. AreHeapIndices config c.args.starts.now) (sym c.put_word.ensures.config) c.requires.heap

pub returns-clause-heap : goal.returns-clause-heap
returns-clause-heap c = subst (λ config. AreHeapIndices config c.collect_loaded.result) c.put_word.ensures.config c.collect_loaded.ensures.heap

pub returns-then-next-end-clause-image : goal.returns-then-next-end-clause-image
returns-then-next-end-clause-image c =
    let next_right = next_is c.args.image.now c.put_word.new.image c.args.extent c.after-extent_now.result c.args.last.phase c.args.index c.args.word c.next-next.result c.config-config.result
    c.config-config.ensures c.put_word.ensures.config c.after-extent_now.ensures c.next-next.ensures in
    let end = c.image_words-end.ensures ∙ ap image_words (c.config-config.ensures ∙ c.put_word.ensures.config) in
    image_on c.args.image.now c.put_word.new.image c.args.extent c.after-extent_now.result c.args.last.phase c.args.index c.args.word c.requires.index c.requires.own
    c.put_word.ensures.config c.put_word.ensures.image c.after-extent_now.ensures c.args.starts.now (omega (arith, next_right, end, c.if-next-end.true))

pub returns-then-next-end-clause-seen : goal.returns-then-next-end-clause-seen
returns-then-next-end-clause-seen c =
    let next_right = next_is c.args.image.now c.put_word.new.image c.args.extent c.after-extent_now.result c.args.last.phase c.args.index c.args.word c.next-next.result c.config-config.result
    c.config-config.ensures c.put_word.ensures.config c.after-extent_now.ensures c.next-next.ensures in
    let end = c.image_words-end.ensures ∙ ap image_words (c.config-config.ensures ∙ c.put_word.ensures.config) in
    last_on c.args.image.now c.put_word.new.image c.args.extent c.after-extent_now.result c.args.last.phase c.args.index c.args.word c.requires.index c.requires.own
    c.put_word.ensures.config c.put_word.ensures.image c.after-extent_now.ensures c.args.last.seen _ (omega (arith, next_right, end, c.if-next-end.true))

pub returns-then-next-end-clause-phase : goal.returns-then-next-end-clause-phase
returns-then-next-end-clause-phase c =
    let next_right = next_is c.args.image.now c.put_word.new.image c.args.extent c.after-extent_now.result c.args.last.phase c.args.index c.args.word c.next-next.result c.config-config.result
    c.config-config.ensures c.put_word.ensures.config c.after-extent_now.ensures c.next-next.ensures in
    let end = c.image_words-end.ensures ∙ ap image_words (c.config-config.ensures ∙ c.put_word.ensures.config) in
    last_on c.args.image.now c.put_word.new.image c.args.extent c.after-extent_now.result c.args.last.phase c.args.index c.args.word c.requires.index c.requires.own
    c.put_word.ensures.config c.put_word.ensures.image c.after-extent_now.ensures c.args.last.phase _ (omega (arith, next_right, end, c.if-next-end.true))

pub returns-then-next-end-clause-cset : goal.returns-then-next-end-clause-cset
returns-then-next-end-clause-cset c =
    let next_right = next_is c.args.image.now c.put_word.new.image c.args.extent c.after-extent_now.result c.args.last.phase c.args.index c.args.word c.next-next.result c.config-config.result
    c.config-config.ensures c.put_word.ensures.config c.after-extent_now.ensures c.next-next.ensures in
    let end = c.image_words-end.ensures ∙ ap image_words (c.config-config.ensures ∙ c.put_word.ensures.config) in
    last_on c.args.image.now c.put_word.new.image c.args.extent c.after-extent_now.result c.args.last.phase c.args.index c.args.word c.requires.index c.requires.own
    c.put_word.ensures.config c.put_word.ensures.image c.after-extent_now.ensures c.args.last.cset _ (omega (arith, next_right, end, c.if-next-end.true))

pub returns-clause-image : goal.returns-clause-image
returns-clause-image c =
    let next_right = next_is c.args.image.now c.put_word.new.image c.args.extent c.after-extent_now.result c.args.last.phase c.args.index c.args.word c.next-next.result c.config-config.result
    c.config-config.ensures c.put_word.ensures.config c.after-extent_now.ensures c.next-next.ensures in
    let end = c.image_words-end.ensures ∙ ap image_words (c.config-config.ensures ∙ c.put_word.ensures.config) in
    image_then c.args.image.now c.put_word.new.image c.args.extent c.after-extent_now.result c.args.last.phase c.args.index c.args.word c.requires.index c.requires.own
    c.put_word.ensures.config c.put_word.ensures.image c.after-extent_now.ensures (omega (arith, next_right, end, c.if-next-end.false))
    c.collect_loaded.new.image c.collect_loaded.result c.collect_loaded.ensures.config c.collect_loaded.ensures.clear c.collect_loaded.ensures.image

pub returns-clause-phase : goal.returns-clause-phase
returns-clause-phase c =
    let next_right = next_is c.args.image.now c.put_word.new.image c.args.extent c.after-extent_now.result c.args.last.phase c.args.index c.args.word c.next-next.result c.config-config.result
    c.config-config.ensures c.put_word.ensures.config c.after-extent_now.ensures c.next-next.ensures in
    let end = c.image_words-end.ensures ∙ ap image_words (c.config-config.ensures ∙ c.put_word.ensures.config) in
    c.ended_with.ensures.phase ∙ phase_then c.args.image.now c.put_word.new.image c.args.extent c.after-extent_now.result c.args.last.phase c.args.index c.args.word c.requires.index c.requires.own
    c.put_word.ensures.config c.put_word.ensures.image c.after-extent_now.ensures (omega (arith, next_right, end, c.if-next-end.false))
    c.collect_loaded.new.image c.collect_loaded.result c.collect_loaded.ensures.config c.collect_loaded.ensures.clear c.collect_loaded.ensures.image

pub returns-clause-cset : goal.returns-clause-cset
returns-clause-cset c =
    let next_right = next_is c.args.image.now c.put_word.new.image c.args.extent c.after-extent_now.result c.args.last.phase c.args.index c.args.word c.next-next.result c.config-config.result
    c.config-config.ensures c.put_word.ensures.config c.after-extent_now.ensures c.next-next.ensures in
    let end = c.image_words-end.ensures ∙ ap image_words (c.config-config.ensures ∙ c.put_word.ensures.config) in
    c.ended_with.ensures.cset ∙ cset_then c.args.image.now c.put_word.new.image c.args.extent c.after-extent_now.result c.args.last.phase c.args.index c.args.word c.requires.index c.requires.own
    c.put_word.ensures.config c.put_word.ensures.image c.after-extent_now.ensures (omega (arith, next_right, end, c.if-next-end.false))
    c.collect_loaded.new.image c.collect_loaded.result c.collect_loaded.ensures.config c.collect_loaded.ensures.clear c.collect_loaded.ensures.image c.args.last.cset

pub returns-clause-seen : goal.returns-clause-seen
returns-clause-seen c =
    let next_right = next_is c.args.image.now c.put_word.new.image c.args.extent c.after-extent_now.result c.args.last.phase c.args.index c.args.word c.next-next.result c.config-config.result
    c.config-config.ensures c.put_word.ensures.config c.after-extent_now.ensures c.next-next.ensures in
    let end = c.image_words-end.ensures ∙ ap image_words (c.config-config.ensures ∙ c.put_word.ensures.config) in
    c.ended_with.ensures.seen ∙ seen_then c.args.image.now c.put_word.new.image c.args.extent c.after-extent_now.result c.args.last.phase c.args.index c.args.word c.requires.index c.requires.own
    c.put_word.ensures.config c.put_word.ensures.image c.after-extent_now.ensures (omega (arith, next_right, end, c.if-next-end.false))
    c.collect_loaded.new.image c.collect_loaded.result c.collect_loaded.ensures.config c.collect_loaded.ensures.clear c.collect_loaded.ensures.image c.args.last.seen
