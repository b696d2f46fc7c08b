-- The next access of a mutator is one of a word of the table.
use Rattle.std.proofs.Common.{◌≡◌, ℕ, ◌<◌, Bool, true, false, ◌&&◌, cond, List, get_or, refl, sym, ap, ◌∙◌, subst}
use Rattle.std.proofs.lemmas.Bool.{and_parts, false≢true}
use Rattle.heap_words.specs.declared.config.Config.{Config}
use Rattle.heap_words.specs.Access.{table_index}
use Rattle.heap_words.specs.Words.{IsWord, is_word, word_at, table_words, view}
use Rattle.heap_words.proofs.Rows.{word_inside}
use Rattle.heap_words.proofs.Stores.{is_word_true, view_word}
use Rattle.heap_words.specs.Touch.{Touch, placed}
use Rattle.heap_words.proofs.Touches.{table_index-access_at}
use Rattle.shen_graph.specs.declared.order.Order.{Order}
use Rattle.shen_graph.specs.declared.order.Order.TheVariants.{Nothing, Begin, End, Hint}
use Rattle.mutator.specs.declared.spot.Kept.{Kept}
use Rattle.mutator.specs.declared.spot.Spot.{Spot}
use Rattle.mutator.specs.declared.spot.Spot.TheVariants.{Rest, Ended}
use Rattle.mutator.specs.Rows.{touch_at}
use Rattle.mutator.specs.Fit.{is_ready, stores_fit, numbers_fit}

-- between two calls too, where the access is by the order
touch_word : (config : Config) (seat made : ℕ) (kept : Kept) (order : Order) (spot : Spot) → is_word config (touch_at config seat made kept Nothing spot).word ≡ true → IsWord config (touch_at config seat made kept order spot).word
touch_word config seat made kept End Rest word_tested = tt
touch_word config seat made kept Nothing Rest word_tested = is_word_true config (touch_at config seat made kept Nothing Rest).word word_tested
touch_word config seat made kept (Begin command) Rest word_tested = is_word_true config (touch_at config seat made kept Nothing Rest).word word_tested
touch_word config seat made kept (Hint address) Rest word_tested = is_word_true config (touch_at config seat made kept Nothing Rest).word word_tested
touch_word config seat made kept End (Ended reply) word_tested = tt
touch_word config seat made kept Nothing (Ended reply) word_tested = is_word_true config (touch_at config seat made kept Nothing Rest).word word_tested
touch_word config seat made kept (Begin command) (Ended reply) word_tested = is_word_true config (touch_at config seat made kept Nothing Rest).word word_tested
touch_word config seat made kept (Hint address) (Ended reply) word_tested = is_word_true config (touch_at config seat made kept Nothing Rest).word word_tested
touch_word config seat made kept order spot word_tested = is_word_true config (touch_at config seat made kept Nothing spot).word word_tested

-- an access of a word is inside the table
placed_inside : (config : Config) (touch : Touch) → IsWord config touch.word → table_index (placed config touch) < table_words config
placed_inside config touch word_there = subst (λ any_index. any_index < table_words config) (sym (table_index-access_at (word_at config touch.word) touch.form)) (word_inside config touch.word word_there)

pub touch_inside : (config : Config) (seat made : ℕ) (kept : Kept) (order : Order) (spot : Spot) → is_word config (touch_at config seat made kept Nothing spot).word ≡ true → table_index (placed config (touch_at config seat made kept order spot)) < table_words config
touch_inside config seat made kept order spot word_tested = placed_inside config (touch_at config seat made kept order spot) (touch_word config seat made kept order spot word_tested)

-- and the word that it finds there is the one that it is named for
pub touch_found : (config : Config) (words : List ℕ) (seat made : ℕ) (kept : Kept) (order : Order) (spot : Spot) → is_word config (touch_at config seat made kept Nothing spot).word ≡ true
    → view config words (touch_at config seat made kept order spot).word ≡ get_or words (table_index (placed config (touch_at config seat made kept order spot))) 0
touch_found config words seat made kept order spot word_tested =
    let touch : Touch = touch_at config seat made kept order spot in
    view_word config words touch.word (touch_word config seat made kept order spot word_tested)
    ∙ ap (λ index. get_or words index 0) (sym (table_index-access_at (word_at config touch.word) touch.form))

-- where a mutator that is ready stands at a spot, the numbers of the access are in range, and so are those of the spot
pub ready_at : (config : Config) (seat made : ℕ) (kept : Kept) (spot asked_spot : Spot) → spot ≡ asked_spot → is_ready config seat made kept spot ≡ true
    → ((is_word config (touch_at config seat made kept Nothing asked_spot).word && stores_fit config seat made kept asked_spot) ≡ true) × (numbers_fit config seat made kept asked_spot ≡ true)
ready_at config seat made kept spot asked_spot same_spot spot_ready = and_parts _ _ (subst (λ any_spot. is_ready config seat made kept any_spot ≡ true) same_spot spot_ready)

-- a part that goes on has not ended
pub not_ended : (ended : Bool) → cond ended false true ≡ true → ended ≡ false
not_ended true spot_goes = absurd (false≢true spot_goes)
not_ended false spot_goes = refl
