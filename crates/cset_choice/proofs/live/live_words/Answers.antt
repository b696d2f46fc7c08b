use Rattle.std.proofs.Common.{◌≡◌, ◌+◌, ◌-◌, ℕ, sym, ap, ◌∙◌, subst, arith}
use Rattle.std.proofs.lemmas.Bool.{cond-false}
use Rattle.heap_words.specs.declared.config.Config.{Config}
use Rattle.heap_words.specs.Words.{Word}
use Rattle.regions.specs.Tops.{sum_below}
use Rattle.regions.proofs.Sums.{sum_none}
use Rattle.regions.specs.Place.{base_of}
use Rattle.image_graph.specs.State.{config_of, memory_of}
use Rattle.image_graph.proofs.Room.{room_in_heap}
use Rattle.cycle_words.specs.Marking.Marks.{is_black}
use Rattle.cycle_words.specs.Evacuation.Live.{words_at, marked_words, live_words}
use Rattle.cycle_words.specs.Evacuation.Laws.{IsMarkedIn}
use Rattle.cycle_words.proofs.Evacuation.CanCopy.{live_is_marked}
use Rattle.cset_choice.proofs.Objects.{sum_more, sum_pass}
use Rattle.cset_choice.proofs.live.live_words.Goals as goal

pub loop-address-init : goal.loop-address-init
loop-address-init c =
    let config = config_of c.args.image.now in
    let memory : Word → ℕ = memory_of c.args.image.now in
    let base : ℕ = base_of config c.args.region in
    let lives : ℕ → ℕ = λ offset. marked_words config memory (base + offset) in
    let black_found = c.next_black-address.ensures in
    let base_is : c.base-first.result ≡ base = c.base-first.ensures ∙ ap (λ (config : Config). base_of config c.args.region) c.config.ensures in
    let skipped : ℕ = c.next_black-address.result - base in
    let sum_plain : 0 + skipped ≡ skipped = omega arith in
    record {
      first = omega (arith, black_found.from, base_is);
      last = black_found.end;
      black = black_found.black;
      value = sym (sum_none lives)
          ∙ sum_pass lives 0 skipped (λ offset _ offset_below. cond-false (is_black config memory (base + offset)) (words_at memory (base + offset)) 0 (black_found.none (base + offset) (omega (arith, base_is)) (omega (arith, offset_below))))
          ∙ ap (sum_below lives) sum_plain;
      bound = omega arith;
    }

pub marked_words-words-requires-clause-inside : goal.marked_words-words-requires-clause-inside
marked_words-words-requires-clause-inside c =
    let config = config_of c.args.image.now in
    let base : ℕ = base_of config c.args.region in
    let base_is : c.base-first.result ≡ base = c.base-first.ensures ∙ ap (λ (config : Config). base_of config c.args.region) c.config.ensures in
    let words_read : c.region_words.result ≡ config.region_words = c.region_words.ensures ∙ ap (λ (config : Config). config.region_words) c.config-2.ensures in
    let counted_so_far = c.loop-address.invariant in
    let address_inside = room_in_heap config c.args.region (c.loop-address.address - base) 1 c.requires.region (omega (arith, c.loop-address-test.true, base_is, words_read, counted_so_far.first)) in
    (omega (arith, address_inside.from, counted_so_far.first), omega (arith, address_inside.to, counted_so_far.first))

pub loop-address-preserved : goal.loop-address-preserved
loop-address-preserved c =
    let config = config_of c.args.image.now in
    let memory : Word → ℕ = memory_of c.args.image.now in
    let base : ℕ = base_of config c.args.region in
    let lives : ℕ → ℕ = λ offset. marked_words config memory (base + offset) in
    let counted_so_far = c.loop-address.invariant in
    let black_found = c.next_black-address-in-loop-address.ensures in
    let next_address : ℕ = c.next_black-address-in-loop-address.result in
    let offset : ℕ = c.loop-address.address - base in
    let address_is : c.loop-address.address ≡ base + offset = omega (arith, counted_so_far.first) in
    let skipped : ℕ = next_address - (c.loop-address.address + 1) in
    let all_skipped : offset + 1 + skipped ≡ next_address - base = omega (arith, counted_so_far.first, black_found.from) in
    let live_added : c.marked_words-words.result ≡ lives offset = c.marked_words-words.ensures.value ∙ ap (marked_words config memory) address_is in
    record {
      first = omega (arith, counted_so_far.first, black_found.from);
      last = black_found.end;
      black = black_found.black;
      value = sum_more lives offset c.loop-address.words c.marked_words-words.result counted_so_far.value live_added
          ∙ sum_pass lives (offset + 1) skipped
          (λ skipped_offset from offset_below. cond-false (is_black config memory (base + skipped_offset)) (words_at memory (base + skipped_offset)) 0 (black_found.none (base + skipped_offset) (omega (arith, from, address_is)) (omega (arith, offset_below, all_skipped, counted_so_far.first, black_found.from))))
          ∙ ap (sum_below lives) all_skipped;
      bound = omega (arith, counted_so_far.bound, c.marked_words-words.ensures.bound, counted_so_far.first, black_found.from);
    }

pub returns-clause-value : goal.returns-clause-value
returns-clause-value c =
    let config = config_of c.args.image.now in
    let memory : Word → ℕ = memory_of c.args.image.now in
    let base : ℕ = base_of config c.args.region in
    let base_is : c.base-first.result ≡ base = c.base-first.ensures ∙ ap (λ (config : Config). base_of config c.args.region) c.config.ensures in
    let words_read : c.region_words.result ≡ config.region_words = c.region_words.ensures ∙ ap (λ (config : Config). config.region_words) c.config-2.ensures in
    let all_words : c.loop-address.address - base ≡ config.region_words = omega (arith, c.loop-address-test.false, c.loop-address.invariant.last, base_is, words_read) in
    c.loop-address.invariant.value ∙ ap (sum_below (λ offset. marked_words config memory (base + offset))) all_words

pub returns-clause-marked : goal.returns-clause-marked
returns-clause-marked c =
    let config = config_of c.args.image.now in
    let memory : Word → ℕ = memory_of c.args.image.now in
    let base : ℕ = base_of config c.args.region in
    let base_is : c.base-first.result ≡ base = c.base-first.ensures ∙ ap (λ (config : Config). base_of config c.args.region) c.config.ensures in
    let words_read : c.region_words.result ≡ config.region_words = c.region_words.ensures ∙ ap (λ (config : Config). config.region_words) c.config-2.ensures in
    let all_words : c.loop-address.address - base ≡ config.region_words = omega (arith, c.loop-address-test.false, c.loop-address.invariant.last, base_is, words_read) in
    let value : c.loop-address.words ≡ live_words config memory c.args.region = c.loop-address.invariant.value ∙ ap (sum_below (λ offset. marked_words config memory (base + offset))) all_words in
    subst (IsMarkedIn config memory c.args.region) (sym value) (live_is_marked config memory c.args.region)
