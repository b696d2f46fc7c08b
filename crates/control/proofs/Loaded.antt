-- A word of the image that is loaded goes on to the next one, or is the last: then a pause makes the new image.
use Rattle.heap_words.specs.Phases.{idle_phase}
use Rattle.std.proofs.Common.{◌≡◌, ℕ, ◌<◌, ◌≤◌, Bool, true, false, List, length, set, take, refl, sym, ap, ◌∙◌, subst, arith}
use Rattle.std.specs.Prelude.{◌==◌, if◌then◌else◌, nat_lt}
use Rattle.std.proofs.lemmas.Bool.{cond-true, cond-false, lt-ltb, le-ltb}
use Rattle.heap_words.specs.declared.config.Config.{Config}
use Rattle.heap_words.specs.Words.{Word, Phase, Cset, Free}
use Rattle.heap_world.specs.Change.{Change, image_words, image_view}
use Rattle.collector_rows.specs.declared.extent.Extent.{Extent}
use Rattle.collector_rows.specs.Extent.{is_of_extent, extent_after, next_loaded}
use Rattle.collector_rows.specs.declared.control_spot.ControlSpot.TheVariants.{LoadWord, StoreWord}
use Rattle.collector_rows.specs.ControlRows.{after_load, loaded_on, loaded_all, next_image, next_seen, next_phase, next_set, seen_after}
use Rattle.collector_rows.proofs.Extents.{next_is}
use Rattle.control.specs.Fit.{CanCollectPart, fits_with}
use Rattle.control.specs.Image.{part_in, image_shown, words_seen}
use Rattle.control.proofs.PartShown.{loaded_upto, loaded_whole, first_reads}

module _ (change : Change) (config : Config) (extent : Extent) (phase index got : ℕ) (loaded_words : List ℕ) (words_long : length loaded_words ≡ image_words config) (index_within : index < image_words config) (of_extent : is_of_extent config extent index ≡ true) where
  abbrev then_of : Extent
  then_of = extent_after phase index extent got

  abbrev next : ℕ
  next = next_loaded config then_of index

  abbrev more : Bool
  more = nat_lt next (image_words config)

  abbrev before : List ℕ
  before = take index (part_in config extent loaded_words)

  below : index < length loaded_words
  below = omega (arith, index_within, words_long)

  -- there is a next one
  pub goes_on : (starts : List ℕ) → next < image_words config → words_seen config (after_load config then_of index) starts (set loaded_words index got) ≡ next_image change config (LoadWord index extent) before phase got
  goes_on starts next_there =
      let next_facts = next_is config then_of index index_within in
      let test : more ≡ true = lt-ltb next (image_words config) next_there in
      ap (λ spot. words_seen config spot starts (set loaded_words index got)) (cond-true more (LoadWord next then_of) (StoreWord 0 then_of) test)
      ∙ loaded_upto config extent phase index got loaded_words below of_extent next next_facts.above (let next_most = next_facts.most in omega (arith, next_most, words_long)) next_facts.between
      ∙ sym (cond-true more (loaded_on next before got) (change config (loaded_all config before got)) test)

  pub stays : (before_it then_it : ℕ) → next < image_words config → (if more then before_it else then_it) ≡ before_it
  stays before_it then_it next_there = cond-true more before_it then_it (lt-ltb next (image_words config) next_there)

  module _ (none_next : image_words config ≤ next) where
    test : more ≡ false
    test = le-ltb next (image_words config) none_next

    -- that was the last
    pub all_loaded : part_in config then_of (set loaded_words index got) ≡ loaded_all config before got
    all_loaded =
        let next_facts = next_is config then_of index index_within in
        loaded_whole config extent phase index got loaded_words below of_extent (image_words config) index_within (omega (arith, words_long)) (λ asked_index index_above index_below. next_facts.between asked_index index_above (omega (arith, index_below, none_next))) (sym words_long)

    pub can_collect : fits_with config (LoadWord index extent) phase before got → CanCollectPart config then_of (image_view config (part_in config then_of (set loaded_words index got)))
    can_collect fit = subst (λ given_words. CanCollectPart config then_of (image_view config given_words)) (sym all_loaded) (fit test)

    module _ (starts new : List ℕ) (made : image_shown config then_of starts new ≡ change config (part_in config then_of (set loaded_words index got))) where
      made_of_all : image_shown config then_of starts new ≡ change config (loaded_all config before got)
      made_of_all = made ∙ ap (change config) all_loaded

      pub image_made : words_seen config (after_load config then_of index) starts new ≡ next_image change config (LoadWord index extent) before phase got
      image_made =
          ap (λ spot. words_seen config spot starts new) (cond-false more (LoadWord next then_of) (StoreWord 0 then_of) test) ∙ made_of_all
          ∙ sym (cond-false more (loaded_on next before got) (change config (loaded_all config before got)) test)

      -- the words of a cycle
      abbrev then_made : Word → ℕ
      then_made = image_view config (change config (loaded_all config before got))

      phase_is : image_view config new Phase ≡ then_made Phase
      phase_is = sym (first_reads config then_of starts new Phase tt refl (omega arith)) ∙ ap (λ given_words. image_view config given_words Phase) made_of_all

      cset_is : image_view config new Cset ≡ then_made Cset
      cset_is = sym (first_reads config then_of starts new Cset tt refl (omega arith)) ∙ ap (λ given_words. image_view config given_words Cset) made_of_all

      free_is : image_view config new Free ≡ then_made Free
      free_is = sym (first_reads config then_of starts new Free tt refl (omega arith)) ∙ ap (λ given_words. image_view config given_words Free) made_of_all

      pub phase_made : image_view config new Phase ≡ next_phase change config (LoadWord index extent) before phase got
      phase_made = phase_is ∙ sym (cond-false more phase (then_made Phase) test)

      pub cset_made : (cset : ℕ) → image_view config new Cset ≡ next_set change config (LoadWord index extent) before cset phase got
      cset_made cset = cset_is ∙ sym (cond-false more cset (then_made Cset) test)

      pub seen_made : (seen : ℕ) → seen_after seen (image_view config new) ≡ next_seen change config (LoadWord index extent) before seen phase got
      seen_made seen =
          ap (λ value. if value == 0 then image_view config new Free else seen) phase_is ∙ ap (λ value. if then_made Phase == idle_phase then value else seen) free_is
          ∙ sym (cond-false more seen (seen_after seen then_made) test)
