-- The beginning of updating makes the words that it says.
use Rattle.std.proofs.Common.{◌≡◌, ℕ, ◌+◌, ◌==◌, nat_lt, cond, false, List, refl, ap, ◌∙◌, arith}
use Rattle.std.specs.Prelude.{if◌then◌else◌}
use Rattle.std.proofs.lemmas.Bool.Decides.{nat_tests}
use Rattle.std.proofs.Math.Path.{fun_ext}
use Rattle.heap_words.specs.declared.config.Config.{Config}
use Rattle.heap_words.specs.Words.{Word, Phase, Evac, Claim, Top, Limit, view, write}
use Rattle.heap_words.specs.Ranges.{seat_count}
use Rattle.heap_words.proofs.Stores.{view_none}
use Rattle.image_graph.specs.Edge.{edge}
use Rattle.image_graph.proofs.Edges.{edges_same, edge_zero}
use Rattle.mark_core.proofs.MarkingBegun.{below_and_past}
use Rattle.cycle_words.specs.Updating.Changes.{is_chosen, updating_begun}
use Rattle.update_refs.specs.Steps.{limit_in, limited, update_started}

module _ (config : Config) where
  -- no limit is noted yet
  none_limited_at : (memory : Word → ℕ) (word : Word) → memory word ≡ limited config 0 memory word
  none_limited_at memory (Limit region) = none_yet (limit_in config memory region) (memory (Limit region))
    where
      none_yet : (x y : ℕ) → y ≡ cond (nat_lt region 0) x y
      none_yet x y = grind (arith, nat_tests)
  none_limited_at memory _ = refl

  pub none_limited : (memory : Word → ℕ) → memory ≡ limited config 0 memory
  none_limited memory = fun_ext (λ word. none_limited_at memory word)

  -- noted limits change no other
  pub limit_limited : (count region : ℕ) (memory : Word → ℕ) → limit_in config (limited config count memory) region ≡ limit_in config memory region
  limit_limited count region memory = ap (λ limit. if is_chosen memory region then 0 else limit) (edges_same config memory (limited config count memory) region (λ q. refl) (λ seat. refl) (seat_count config.mutators config.helpers))

  -- one limit more
  one_more : (before value : ℕ → ℕ) (count number : ℕ) → cond (count == number) (value count) (cond (nat_lt number count) (value number) (before number)) ≡ cond (nat_lt number (count + 1)) (value number) (before number)
  one_more before value count number = grind (arith, nat_tests)

  limited_next_at : (region : ℕ) (memory : Word → ℕ) (word : Word) → write (limited config region memory) (Limit region) (limit_in config memory region) word ≡ limited config (region + 1) memory word
  limited_next_at region memory (Limit other_region) = one_more (λ region. memory (Limit region)) (limit_in config memory) region other_region
  limited_next_at region memory _ = refl

  pub limited_next : (region : ℕ) (memory : Word → ℕ) → write (limited config region memory) (Limit region) (limit_in config memory region) ≡ limited config (region + 1) memory
  limited_next region memory = fun_ext (λ word. limited_next_at region memory word)

-- updating runs

started_at : (memory : Word → ℕ) (word : Word) → write (write (write memory Evac 0) Claim 0) Phase 3 word ≡ update_started memory word
started_at memory Phase = refl
started_at memory Evac = refl
started_at memory Claim = refl
started_at memory _ = refl

pub started : (memory : Word → ℕ) → write (write (write memory Evac 0) Claim 0) Phase 3 ≡ update_started memory
started memory = fun_ext (started_at memory)

-- all together

module _ (config : Config) (words : List ℕ) where
  abbrev now : Word → ℕ
  now = view config words

  -- a region that is not of the heap has no edge and no limit
  none_past : (region : ℕ) → nat_lt region config.regions ≡ false → now (Limit region) ≡ limit_in config now region
  none_past region region_past = view_none config words (Limit region) region_past ∙ either (edge config now region) (edge_zero config now region (view_none config words (Top region) region_past))
    where
      either : (least : ℕ) → least ≡ 0 → 0 ≡ cond (is_chosen now region) 0 least
      either least least_zero = grind (arith, nat_tests)

  begun_at : (word : Word) → update_started (limited config config.regions now) word ≡ updating_begun config now word
  begun_at (Limit region) = below_and_past region config.regions (limit_in config now region) (now (Limit region)) (limit_in config now region) (λ region_below. refl) (λ test_false region_past. none_past region test_false)
  begun_at Phase = refl
  begun_at Evac = refl
  begun_at Claim = refl
  begun_at _ = refl

  pub begun : update_started (limited config config.regions now) ≡ updating_begun config now
  begun = fun_ext begun_at
