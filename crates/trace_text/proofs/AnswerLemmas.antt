-- How the lines of an answer come together from what is put.
use Rattle.std.proofs.Common.{◌≡◌, ℕ, zero, suc, ◌+◌, ◌<◌, ◌≤◌, true, false, cond, ltb, List, [], ◌∷◌, ◌++◌, length, map, take, get_or, codes, sym, ap, ◌∙◌, refl, append_assoc, append-nil, arith}
use Rattle.std.specs.List.{flat_map, join_with_byte, range_with_len}
use Rattle.std.proofs.lemmas.Bool.Decides.{nat_tests}
use Rattle.std.proofs.lemmas.List.{take_more, take_all, map-id}
use Rattle.std.proofs.lemmas.List.Concat.{flat_map-append}
use Rattle.std.proofs.lemmas.List.Folds.{flat_map-map}
use Rattle.std.proofs.lemmas.List.FromFn.{map-range_with_len_more}
use Rattle.std.specs.Fmt.{decimal}
use Rattle.shen_graph.specs.declared.name.Name.{Name}
use Rattle.shen_graph.specs.declared.command.Reply.{Reply}
use Rattle.shen_graph.specs.Graph.{Reference}
use Rattle.shen_graph.specs.GraphText.{Row}
use Rattle.shen_base.specs.Sending.{SinkStage, Puts}
use Rattle.shen_base.proofs.Stages.{puts_both, puts_same}
use Rattle.trace_reading.specs.Spelling.{space, newline}
use Rattle.trace_text.specs.Answer.{line_of, name_word, reference_word, reply_line, object_line, roots_line, root_spellings, pins_line, pin_spellings, pins_text, answer_text}

-- Loops over a list.

-- the texts of one element more
pub flat_map-take_more : {X : Type 0} (f : X → List ℕ) (xs : List X) (index : ℕ) (otherwise : X) → index < length xs
    → flat_map f (take index xs) ++ f (get_or xs index otherwise) ≡ flat_map f (take (index + 1) xs)
flat_map-take_more f xs index otherwise index_below =
    let element = get_or xs index otherwise in
    ap (λ last_part. flat_map f (take index xs) ++ last_part) (sym (append-nil (f element)))
    ∙ sym (flat_map-append f (take index xs) (element ∷ []))
    ∙ sym (ap (flat_map f) (take_more xs index otherwise index_below))

-- the text of the next element was put
pub puts_next : {X : Type 0} {a b c : SinkStage} (f : X → List ℕ) (xs : List X) (index : ℕ) (element otherwise : X) → index < length xs → element ≡ get_or xs index otherwise
    → Puts a b (flat_map f (take index xs)) → Puts b c (f element) → Puts a c (flat_map f (take (index + 1) xs))
puts_next f xs index element otherwise index_below same_element puts next_put =
    puts_same (ap (λ any_element. flat_map f (take index xs) ++ f any_element) same_element ∙ flat_map-take_more f xs index otherwise index_below) (puts_both puts next_put)

-- the texts of all elements were put
pub puts_all : {X : Type 0} {a b : SinkStage} (f : X → List ℕ) (xs : List X) (count : ℕ) → length xs ≤ count → Puts a b (flat_map f (take count xs)) → Puts a b (flat_map f xs)
puts_all f xs count at_most puts = puts_same (ap (flat_map f) (take_all count xs at_most)) puts

-- Loops over numbers.

-- the texts of one number more
flat_map-range_more : (f : ℕ → List ℕ) (from count next_number : ℕ) → from + count ≡ next_number
    → flat_map f (range_with_len from count) ++ f next_number ≡ flat_map f (range_with_len from (count + 1))
flat_map-range_more f from count next_number same_number =
    let longer : range_with_len from (count + 1) ≡ range_with_len from count ++ next_number ∷ [] =
    sym (map-id (range_with_len from (count + 1))) ∙ map-range_with_len_more (λ x. x) from count next_number same_number
    ∙ ap (λ list. list ++ next_number ∷ []) (map-id (range_with_len from count)) in
    ap (λ list. flat_map f (range_with_len from count) ++ list) (sym (append-nil (f next_number)))
    ∙ sym (flat_map-append f (range_with_len from count) (next_number ∷ []))
    ∙ sym (ap (flat_map f) longer)

-- the text of the next number was put
pub puts_next_number : {a b c : SinkStage} (f : ℕ → List ℕ) (from count next_number : ℕ) → from + count ≡ next_number
    → Puts a b (flat_map f (range_with_len from count)) → Puts b c (f next_number) → Puts a c (flat_map f (range_with_len from (count + 1)))
puts_next_number f from count next_number same_number puts next_put = puts_same (flat_map-range_more f from count next_number same_number) (puts_both puts next_put)

-- the texts of all numbers were put
pub puts_each_number : {a b : SinkStage} (f : ℕ → List ℕ) (from count other_count : ℕ) → count ≡ other_count → Puts a b (flat_map f (range_with_len from count)) → Puts a b (flat_map f (range_with_len from other_count))
puts_each_number f from count other_count same_count puts = puts_same (ap (λ number. flat_map f (range_with_len from number)) same_count) puts

-- Words.

-- words with a space between: the first, and the others each after a space
pub joined : (first_word : List ℕ) (later_words : List (List ℕ)) → join_with_byte space (first_word ∷ later_words) ≡ first_word ++ flat_map (λ next_word. space ∷ next_word) later_words
joined first_word [] = sym (append-nil first_word)
joined first_word (next_word ∷ last_words) = ap (λ later_text. first_word ++ space ∷ later_text) (joined next_word last_words)

regroup : (label name references separator numbers : List ℕ) → (((label ++ name) ++ references) ++ separator) ++ numbers ≡ label ++ (name ++ (references ++ (separator ++ numbers)))
regroup label name references separator numbers = simp append_assoc

-- the words of an object behind its name, each after a space
field_words : (row : Row) → flat_map (λ word. space ∷ word) (map reference_word row.refs ++ codes "/" ∷ map decimal row.nums)
    ≡ flat_map (λ x. space ∷ reference_word x) row.refs ++ (codes " /" ++ flat_map (λ number. space ∷ decimal number) row.nums)
field_words row =
    flat_map-append (λ word. space ∷ word) (map reference_word row.refs) (codes "/" ∷ map decimal row.nums)
    ∙ ap (λ later_text. later_text ++ flat_map (λ word. space ∷ word) (codes "/" ∷ map decimal row.nums)) (flat_map-map (λ word. space ∷ word) reference_word row.refs)
    ∙ ap (λ later_text. flat_map (λ x. space ∷ reference_word x) row.refs ++ (codes " /" ++ later_text)) (flat_map-map (λ word. space ∷ word) decimal row.nums)

-- the line of an object, as it is put
pub object_line_is : (row : Row) (name : Name) → name ≡ row.name
    → ((((codes "object " ++ name_word name) ++ flat_map (λ x. space ∷ reference_word x) row.refs) ++ codes " /") ++ flat_map (λ number. space ∷ decimal number) row.nums) ++ newline ∷ [] ≡ object_line row
object_line_is row name right_name =
    let refs = flat_map (λ x. space ∷ reference_word x) row.refs in
    let nums = flat_map (λ number. space ∷ decimal number) row.nums in
    ap (λ t. t ++ newline ∷ [])
    (regroup (codes "object ") (name_word name) refs (codes " /") nums
    ∙ ap (λ t. codes "object " ++ (name_word t ++ (refs ++ (codes " /" ++ nums)))) right_name
    ∙ ap (λ t. codes "object " ++ (name_word row.name ++ t)) (sym (field_words row))
    ∙ sym (joined (codes "object") (name_word row.name ∷ (map reference_word row.refs ++ codes "/" ∷ map decimal row.nums))))

-- the line of a thread's roots, as it is put
pub roots_line_is : (thread : ℕ) (root : ℕ → Reference)
    → ((codes "roots " ++ decimal thread) ++ flat_map (λ word. space ∷ word) (root_spellings root)) ++ newline ∷ [] ≡ roots_line thread root
roots_line_is thread root =
    let words = root_spellings root in
    ap (λ line_text. line_text ++ newline ∷ [])
    (append_assoc (codes "roots ") (decimal thread) (flat_map (λ word. space ∷ word) words) ∙ sym (joined (codes "roots") (decimal thread ∷ words)))

-- the words of 16 roots, each after a space
pub root_words_are : (root : ℕ → Reference) (count : ℕ) → count ≡ 16 → flat_map (λ thread. space ∷ reference_word (root thread)) (range_with_len 0 count) ≡ flat_map (λ word. space ∷ word) (root_spellings root)
unfolding root_spellings
root_words_are root thread index =
    ap (λ amount. flat_map (λ thread. space ∷ reference_word (root thread)) (range_with_len 0 amount)) index
    ∙ sym (flat_map-map (λ word. space ∷ word) (λ thread. reference_word (root thread)) (range_with_len 0 16))

-- the line of what a thread pins, as it is put
pub pins_line_is : (thread : ℕ) (pin : ℕ → Reference)
    → ((codes "pins " ++ decimal thread) ++ flat_map (λ word. space ∷ word) (pin_spellings pin)) ++ newline ∷ [] ≡ pins_line thread pin
pins_line_is thread pin =
    let words = pin_spellings pin in
    ap (λ line_text. line_text ++ newline ∷ [])
    (append_assoc (codes "pins ") (decimal thread) (flat_map (λ word. space ∷ word) words) ∙ sym (joined (codes "pins") (decimal thread ∷ words)))

-- the words of 4 pin slots, each after a space
pub pin_words_are : (pin : ℕ → Reference) (count : ℕ) → count ≡ 4 → flat_map (λ thread. space ∷ reference_word (pin thread)) (range_with_len 0 count) ≡ flat_map (λ word. space ∷ word) (pin_spellings pin)
unfolding pin_spellings
pin_words_are pin thread slot =
    ap (λ amount. flat_map (λ thread. space ∷ reference_word (pin thread)) (range_with_len 0 amount)) slot
    ∙ sym (flat_map-map (λ word. space ∷ word) (λ thread. reference_word (pin thread)) (range_with_len 0 4))

-- a version from 2 on has the lines of what is pinned, and one before has none
pub has_pins : (version threads : ℕ) (pin : ℕ → ℕ → Reference) → 2 ≤ version → flat_map (λ thread. pins_line thread (pin thread)) (range_with_len 1 threads) ≡ pins_text version threads pin
has_pins version threads pin from_two = rw (not_below version from_two) refl
  where
    not_below : (n : ℕ) → 2 ≤ n → ltb n 2 ≡ false
    not_below n at_least_two = grind (arith, nat_tests)

-- Equal answers.

-- texts of numbers that are equal at each number in a range
flat_map-range_same : (f h : ℕ → List ℕ) (from count : ℕ) → ((number : ℕ) → from ≤ number → number < from + count → f number ≡ h number) → flat_map f (range_with_len from count) ≡ flat_map h (range_with_len from count)
flat_map-range_same f h from zero same_each = refl
flat_map-range_same f h from (suc count) same_each =
    let same_first : f from ≡ h from = same_each from (omega arith) (omega arith) in
    let others : (number : ℕ) → from + 1 ≤ number → number < (from + 1) + count → f number ≡ h number = λ number low high. same_each number (omega arith) (omega arith) in
    ap (λ list. list ++ flat_map f (range_with_len (from + 1) count)) same_first
    ∙ ap (λ list. h from ++ list) (flat_map-range_same f h (from + 1) count others)

-- the same for words
map-range_same : (f h : ℕ → List ℕ) (from count : ℕ) → ((number : ℕ) → from ≤ number → number < from + count → f number ≡ h number) → map f (range_with_len from count) ≡ map h (range_with_len from count)
map-range_same f h from zero same_each = refl
map-range_same f h from (suc count) same_each =
    let same_first : f from ≡ h from = same_each from (omega arith) (omega arith) in
    let others : (number : ℕ) → from + 1 ≤ number → number < (from + 1) + count → f number ≡ h number = λ number low high. same_each number (omega arith) (omega arith) in
    ap (λ t. t ∷ map f (range_with_len (from + 1) count)) same_first
    ∙ ap (λ t. h from ∷ t) (map-range_same f h (from + 1) count others)

-- the words of equal roots
root_words_same : (root other_root : ℕ → Reference) → ((index : ℕ) → index < 16 → root index ≡ other_root index) → root_spellings root ≡ root_spellings other_root
unfolding root_spellings
root_words_same root other_root same_roots =
    map-range_same (λ index. reference_word (root index)) (λ index. reference_word (other_root index)) 0 16 (λ place low high. ap reference_word (same_roots place (omega arith)))

-- the words of equal pin slots
pin_words_same : (pin other_pin : ℕ → Reference) → ((thread : ℕ) → thread < 4 → pin thread ≡ other_pin thread) → pin_spellings pin ≡ pin_spellings other_pin
unfolding pin_spellings
pin_words_same pin other_pin same_pins =
    map-range_same (λ thread. reference_word (pin thread)) (λ slot. reference_word (other_pin slot)) 0 4 (λ place low high. ap reference_word (same_pins place (omega arith)))

-- the lines of equal pin slots
pub pins_text_same : (version threads : ℕ) (pin other_pin : ℕ → ℕ → Reference) → ((thread slot : ℕ) → 1 ≤ thread → thread ≤ threads → slot < 4 → pin thread slot ≡ other_pin thread slot)
    → pins_text version threads pin ≡ pins_text version threads other_pin
pins_text_same version threads pin other_pin same_pins =
    ap (λ (any_thread : List ℕ). cond (ltb version 2) [] any_thread) (flat_map-range_same (λ thread. pins_line thread (pin thread)) (λ any_thread. pins_line any_thread (other_pin any_thread)) 1 threads
    (λ thread low high. ap (λ words. line_of (codes "pins" ∷ decimal thread ∷ words)) (pin_words_same (pin thread) (other_pin thread) (λ index slot_below. same_pins thread index low (omega arith) slot_below))))

-- the answers of equal replies, equal roots and equal pin slots
pub answer_text_same : (version threads : ℕ) (replies other_replies : ℕ → List Reply) (rows : List Row) (root other_root pin other_pin : ℕ → ℕ → Reference)
    → ((thread : ℕ) → 1 ≤ thread → thread ≤ threads → replies thread ≡ other_replies thread)
    → ((thread index : ℕ) → 1 ≤ thread → thread ≤ threads → index < 16 → root thread index ≡ other_root thread index)
    → ((thread index : ℕ) → 1 ≤ thread → thread ≤ threads → index < 4 → pin thread index ≡ other_pin thread index)
    → answer_text version threads replies rows root pin ≡ answer_text version threads other_replies rows other_root other_pin
answer_text_same version threads replies other_replies rows root other_root pin other_pin same_replies same_roots same_pins =
    let reply_lines : flat_map (λ any_thread. flat_map (reply_line any_thread) (replies any_thread)) (range_with_len 1 threads) ≡ flat_map (λ any_thread. flat_map (reply_line any_thread) (other_replies any_thread)) (range_with_len 1 threads) =
    flat_map-range_same _ _ 1 threads (λ asked_thread low high. ap (flat_map (reply_line asked_thread)) (same_replies asked_thread low (omega arith))) in
    let root_lines : flat_map (λ thread. roots_line thread (root thread)) (range_with_len 1 threads) ≡ flat_map (λ any_thread. roots_line any_thread (other_root any_thread)) (range_with_len 1 threads) =
    flat_map-range_same _ _ 1 threads
    (λ thread low high. ap (λ words. line_of (codes "roots" ∷ decimal thread ∷ words)) (root_words_same (root thread) (other_root thread) (λ index index_below. same_roots thread index low (omega arith) index_below))) in
    let pinned = pins_text_same version threads pin other_pin same_pins in
    let graph = line_of (codes "graph" ∷ []) in
    let objects = flat_map object_line rows in
    let whole_text = λ (first_text roots pins : List ℕ). first_text ++ (graph ++ (objects ++ (roots ++ pins))) in
    ap (λ any_thread. whole_text any_thread (flat_map (λ thread. roots_line thread (root thread)) (range_with_len 1 threads)) (pins_text version threads pin)) reply_lines
    ∙ ap (λ any_thread. whole_text (flat_map (λ any_thread. flat_map (reply_line any_thread) (other_replies any_thread)) (range_with_len 1 threads)) any_thread (pins_text version threads pin)) root_lines
    ∙ ap (λ any_thread. whole_text (flat_map (λ any_thread. flat_map (reply_line any_thread) (other_replies any_thread)) (range_with_len 1 threads)) (flat_map (λ any_thread. roots_line any_thread (other_root any_thread)) (range_with_len 1 threads)) any_thread) pinned

-- a label and its number were put, and then the others
pub puts_told : {a b c : SinkStage} (label number others : List ℕ) → Puts a b (label ++ number) → Puts b c others → Puts a c (label ++ (number ++ others))
puts_told label number others puts others_put = puts_same (append_assoc label number others) (puts_both puts others_put)
