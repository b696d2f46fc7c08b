-- The words of the command line.
use Rattle.std.proofs.Common.{◌≡◌, ℕ, zero, suc, ◌+◌, ◌&&◌, ◌<◌, ◌≤◌, Bool, true, false, eqb, List, [], ◌∷◌, ◌++◌, length, get_or, take, drop, map, inl, inr, refl, sym, ap, subst, ◌∙◌, arith}
use Rattle.std.specs.Prelude.{codes, ◌==◌, if◌then◌else◌, Option, Some, None, MatchBool, MatchOption}
use Rattle.std.specs.Fmt.{decimal}
use Rattle.std.specs.Cmp.Lexicographic.{pointwise}
use Rattle.std.proofs.lemmas.Bool.{eqb-true, false≢true}
use Rattle.std.proofs.lemmas.Fmt.{decimal_digit}
use Rattle.std.proofs.lemmas.List.{length-append}
use Rattle.trace_reading.specs.Spelling.{IsUpTo}
use Rattle.trace_runs.specs.declared.mode.Mode.{Mode}
use Rattle.trace_runs.specs.declared.mode.Mode.TheVariants.{Replay, Noted, Dump, Resume, Run, Churn, Queue, Check}
use Rattle.trace_runs.specs.Words.{most_seed, most_rounds, most_numbers, most_steps, usual_steps, most_machines, IsNumbered, IsReplay, IsReplayThen, IsRunBy, IsChurn, IsQueue, IsCheck, IsResume, Asks, Ask}
use Rattle.trace_runs.specs.Readings.{Reading, ReadNothing, ReadTrace, ReadPair, ReadDump, reading_of, HasInput, ReadsInput, ReadsNothing}
use Rattle.shen_graph.proofs.Numbers.{eqb_itself}

same_from_test : (xs ys : List ℕ) → pointwise eqb xs ys ≡ true → xs ≡ ys
same_from_test [] [] same_test = refl
same_from_test [] (y ∷ ys) same_test = absurd cc
same_from_test (x ∷ xs) [] same_test = absurd cc
same_from_test (x ∷ xs) (y ∷ ys) same_test = by_head (eqb x y) refl (same_from_test xs ys) same_test
  where
    by_head : (holds : Bool) → eqb x y ≡ holds → (pointwise eqb xs ys ≡ true → xs ≡ ys) → (holds && pointwise eqb xs ys) ≡ true → x ∷ xs ≡ y ∷ ys
    by_head true heads_equal rest both_equal = rw (eqb-true x y heads_equal) (ap (λ (zs : List ℕ). y ∷ zs) (rest both_equal))
    by_head false heads_equal rest both_equal = absurd cc

test_itself : (xs : List ℕ) → pointwise eqb xs xs ≡ true
test_itself [] = refl
test_itself (x ∷ xs) = rw (eqb_itself x) (test_itself xs)

-- a list of one, and what its one element is
pub one_word : {X : Type 0} (f : X → List ℕ) (words : List X) (word : X) (text : List ℕ) (holds : Bool) → 1 ≤ length words → length words < 2 → word ≡ get_or words 0 word → holds ≡ pointwise eqb (f word) text
    → (holds ≡ true → map f words ≡ text ∷ []) × (map f words ≡ text ∷ [] → holds ≡ true)
one_word f [] word text holds positive few_words word_is same_text = absurd (omega arith)
one_word f (x ∷ []) word text holds positive few_words word_is test_is = (
  (λ h. ap (λ (some_text : List ℕ). some_text ∷ []) (sym (ap f word_is) ∙ same_from_test (f word) text (sym test_is ∙ h))),
  (λ h. let same_text : f word ≡ text = ap f word_is ∙ cc in test_is ∙ ap (λ (some_text : List ℕ). pointwise eqb some_text text) same_text ∙ test_itself text),
)
one_word f (x ∷ y ∷ words) word text holds positive few_words word_is same_text = absurd (omega arith)

-- what a test says of that which it tests
pub decided : (holds : Bool) (P : Type 0) → (holds ≡ true → P) × (P → holds ≡ true) → MatchBool holds P (P → ⊥)
decided true P both_ways = both_ways.0 refl
decided false P both_ways = λ proof. false≢true (both_ways.1 proof)

-- a list of three, of which the first is known
pub word_and_two : {X : Type 0} (f : X → List ℕ) (words : List X) (first_word second_word third_word : X) (first_text : List ℕ) → 3 ≤ length words → length words < 4 → first_word ≡ get_or words 0 first_word → second_word ≡ get_or words 1 second_word → third_word ≡ get_or words 2 third_word
    → true ≡ pointwise eqb (f first_word) first_text → map f words ≡ first_text ∷ f second_word ∷ f third_word ∷ []
word_and_two f [] first_word second_word third_word first_text at_most few_words at_a at_b at_c first_same = absurd (omega arith)
word_and_two f (x ∷ []) first_word second_word third_word first_text at_most few_words at_a at_b at_c first_same = absurd (omega arith)
word_and_two f (x ∷ y ∷ []) first_word second_word third_word first_text at_most few_words at_a at_b at_c first_same = absurd (omega arith)
word_and_two f (x ∷ y ∷ z ∷ []) first_word second_word third_word first_text at_most few_words at_a at_b at_c first_same =
    ap (λ (some_text : List ℕ). some_text ∷ f y ∷ f z ∷ []) (sym (ap f at_a) ∙ same_from_test (f first_word) first_text (sym first_same))
    ∙ ap (λ (some_text : List ℕ). first_text ∷ some_text ∷ f z ∷ []) (sym (ap f at_b))
    ∙ ap (λ (some_text : List ℕ). first_text ∷ f second_word ∷ some_text ∷ []) (sym (ap f at_c))
word_and_two f (x ∷ y ∷ z ∷ w ∷ words) first_word second_word third_word first_text at_most few_words at_a at_b at_c first_same = absurd (omega arith)

-- a list of two, of which the first is known
pub word_and_one : {X : Type 0} (f : X → List ℕ) (words : List X) (first_word second_word : X) (first_text : List ℕ) → 2 ≤ length words → length words < 3 → first_word ≡ get_or words 0 first_word → second_word ≡ get_or words 1 second_word → true ≡ pointwise eqb (f first_word) first_text
    → map f words ≡ first_text ∷ f second_word ∷ []
word_and_one f [] first_word second_word first_text at_most few_words at_a at_b first_same = absurd (omega arith)
word_and_one f (x ∷ []) first_word second_word first_text at_most few_words at_a at_b first_same = absurd (omega arith)
word_and_one f (x ∷ y ∷ []) first_word second_word first_text at_most few_words at_a at_b first_same =
    ap (λ (some_text : List ℕ). some_text ∷ f y ∷ []) (sym (ap f at_a) ∙ same_from_test (f first_word) first_text (sym first_same)) ∙ ap (λ (some_text : List ℕ). first_text ∷ some_text ∷ []) (sym (ap f at_b))
word_and_one f (x ∷ y ∷ z ∷ words) first_word second_word first_text at_most few_words at_a at_b first_same = absurd (omega arith)

-- a list of three, of which the first two are known
pub three_words : {X : Type 0} (f : X → List ℕ) (words : List X) (first_word second_word third_word : X) (first_text second : List ℕ) → 3 ≤ length words → length words < 4 → first_word ≡ get_or words 0 first_word → second_word ≡ get_or words 1 second_word → third_word ≡ get_or words 2 third_word
    → true ≡ pointwise eqb (f first_word) first_text → true ≡ pointwise eqb (f second_word) second → map f words ≡ first_text ∷ second ∷ f third_word ∷ []
three_words f [] first_word second_word third_word first_text second at_most few_words at_a at_b at_c first_same second_same = absurd (omega arith)
three_words f (x ∷ []) first_word second_word third_word first_text second at_most few_words at_a at_b at_c first_same second_same = absurd (omega arith)
three_words f (x ∷ y ∷ []) first_word second_word third_word first_text second at_most few_words at_a at_b at_c first_same second_same = absurd (omega arith)
three_words f (x ∷ y ∷ z ∷ []) first_word second_word third_word first_text second at_most few_words at_a at_b at_c first_same second_same =
    ap (λ (some_text : List ℕ). some_text ∷ f y ∷ f z ∷ []) (sym (ap f at_a) ∙ same_from_test (f first_word) first_text (sym first_same))
    ∙ ap (λ (some_text : List ℕ). first_text ∷ some_text ∷ f z ∷ []) (sym (ap f at_b) ∙ same_from_test (f second_word) second (sym second_same))
    ∙ ap (λ (some_text : List ℕ). first_text ∷ second ∷ some_text ∷ []) (sym (ap f at_c))
three_words f (x ∷ y ∷ z ∷ w ∷ words) first_word second_word third_word first_text second at_most few_words at_a at_b at_c first_same second_same = absurd (omega arith)

-- what the third word says
pub number_named : (command option : List ℕ) (usual most : ℕ) (words : List (List ℕ)) (number : List ℕ) (found : Option ℕ) → words ≡ command ∷ option ∷ number ∷ []
    → MatchOption found ((value : ℕ) → IsUpTo most value → number ≡ decimal value → ⊥) (λ value. IsUpTo most value × (number ≡ decimal value))
    → MatchOption found (((value : ℕ) × IsNumbered command option usual most words value) → ⊥) (IsNumbered command option usual most words)
number_named command option usual most words number (Some value) words_are read = inr (words_are ∙ ap (λ (some_text : List ℕ). command ∷ option ∷ some_text ∷ []) read.1, read.0)
number_named command option usual most words number None words_are number_read = λ asked. by_form asked.0 asked.1
  where
    third : (first_text second_text : List ℕ) → command ∷ option ∷ first_text ∷ [] ≡ command ∷ option ∷ second_text ∷ [] → first_text ≡ second_text
    third first_text second_text words_same = ap (λ (ws : List (List ℕ)). get_or ws 2 []) words_same

    by_form : (read_number : ℕ) → IsNumbered command option usual most words read_number → ⊥
    by_form read_number (inl one_form) = absurd (omega (arith, ap length (sym words_are ∙ one_form.0)))
    by_form read_number (inr three_form) = number_read read_number three_form.1 (third number (decimal read_number) (sym words_are ∙ three_form.0))

-- a seed is 0, or a number from 1 on

pub zero_named : (word : List ℕ) → true ≡ pointwise eqb word (codes "0") → (0 ≤ most_seed) × (word ≡ decimal 0)
zero_named word zero_test = (omega arith, same_from_test word (codes "0") (sym zero_test) ∙ sym (decimal_digit 0 (omega arith)))

pub seed_named : (word : List ℕ) (found : Option ℕ) → false ≡ pointwise eqb word (codes "0") → MatchOption found ((seed : ℕ) → IsUpTo most_seed seed → word ≡ decimal seed → ⊥) (λ seed. IsUpTo most_seed seed × (word ≡ decimal seed))
    → MatchOption found ((seed : ℕ) → seed ≤ most_seed → word ≡ decimal seed → ⊥) (λ seed. (seed ≤ most_seed) × (word ≡ decimal seed))
seed_named word (Some seed) not_zero read = (read.0.1, read.1)
seed_named word None not_zero number_read = by_number
  where
    by_number : (read_number : ℕ) → read_number ≤ most_seed → word ≡ decimal read_number → ⊥
    by_number zero small word_is = false≢true (not_zero ∙ ap (λ (some_text : List ℕ). pointwise eqb some_text (codes "0")) (word_is ∙ decimal_digit 0 (omega arith)) ∙ test_itself (codes "0"))
    by_number (suc read_number) small word_is = number_read (suc read_number) (omega arith, small) word_is

-- words of which both are numbers in their ranges ask for a churn
pub is_churn : (words : List (List ℕ)) (seed_text count_text : List ℕ) (seed count : ℕ) → words ≡ codes "churn" ∷ seed_text ∷ count_text ∷ [] → (seed ≤ most_seed) × (seed_text ≡ decimal seed) → IsUpTo most_rounds count × (count_text ≡ decimal count) → IsChurn words seed count
is_churn words seed_text count_text seed count words_are seed_right second =
    (words_are ∙ ap (λ (some_text : List ℕ). codes "churn" ∷ some_text ∷ count_text ∷ []) seed_right.1 ∙ ap (λ (some_text : List ℕ). codes "churn" ∷ decimal seed ∷ some_text ∷ []) second.1, seed_right.0, second.0)

-- words of which the second is a number or none ask for a queue of that number, or for none
pub queue_named : (words : List (List ℕ)) (number : List ℕ) (found : Option ℕ) → words ≡ codes "queue" ∷ number ∷ []
    → MatchOption found ((read_number : ℕ) → IsUpTo most_numbers read_number → number ≡ decimal read_number → ⊥) (λ read_number. IsUpTo most_numbers read_number × (number ≡ decimal read_number))
    → MatchOption found (((count : ℕ) × IsQueue words count) → ⊥) (IsQueue words)
queue_named words number (Some read_number) words_are read = (words_are ∙ ap (λ (some_text : List ℕ). codes "queue" ∷ some_text ∷ []) read.1, read.0)
queue_named words number None words_are number_read = λ asked. number_read asked.0 asked.1.1 (ap (λ (ws : List (List ℕ)). get_or ws 1 []) (sym words_are ∙ asked.1.0))

-- ---- the first word

-- the first word is this one
abbrev pub BeginWith : List ℕ → List (List ℕ) → Type 0
BeginWith word [] = ⊥
BeginWith word (head_word ∷ words) = head_word ≡ word

begins_as : (words more_words : List (List ℕ)) (word : List ℕ) → words ≡ word ∷ more_words → BeginWith word words
begins_as words more_words word words_are = subst (BeginWith word) (sym words_are) refl

-- who names a number of a command begins with the command
pub numbered_begins : (command option : List ℕ) (usual most : ℕ) (words : List (List ℕ)) (read_number : ℕ) → IsNumbered command option usual most words read_number → BeginWith command words
numbered_begins command option usual most words read_number (inl one_form) = begins_as words [] command one_form.0
numbered_begins command option usual most words read_number (inr three_form) = begins_as words (option ∷ decimal read_number ∷ []) command three_form.0

-- what more words stand behind does not change the first one
begins_longer : (word : List ℕ) (front more_words : List (List ℕ)) → BeginWith word front → BeginWith word (front ++ more_words)
begins_longer word [] more_words begins = absurd begins
begins_longer word (head_word ∷ front) more_words begins = begins

replay_begins : (words : List (List ℕ)) (steps : ℕ) → IsReplay words steps → BeginWith (codes "replay") words
replay_begins words steps asked = numbered_begins (codes "replay") (codes "--steps") usual_steps most_steps words steps asked

replay_then_begins : (words : List (List ℕ)) (last_word : List ℕ) (steps : ℕ) → IsReplayThen last_word words steps → BeginWith (codes "replay") words
replay_then_begins words last_word steps asked = subst (BeginWith (codes "replay")) (sym asked.1) (begins_longer (codes "replay") asked.0 (last_word ∷ []) (replay_begins asked.0 steps asked.2))

pub churn_begins : (words : List (List ℕ)) (seed count : ℕ) → IsChurn words seed count → BeginWith (codes "churn") words
churn_begins words seed count asked = begins_as words (decimal seed ∷ decimal count ∷ []) (codes "churn") asked.0

pub queue_begins : (words : List (List ℕ)) (count : ℕ) → IsQueue words count → BeginWith (codes "queue") words
queue_begins words count asked = begins_as words (decimal count ∷ []) (codes "queue") asked.0

-- the command of a mode
abbrev pub name_of : Mode → List ℕ
name_of (Replay steps) = codes "replay"
name_of (Noted steps) = codes "replay"
name_of (Dump steps) = codes "replay"
name_of (Resume steps) = codes "resume"
name_of (Run workers) = codes "run"
name_of (Churn load) = codes "churn"
name_of (Queue count) = codes "queue"
name_of Check = codes "check"

-- who asks for a mode begins with its command
begins_with_name : (words : List (List ℕ)) (mode : Mode) → Asks words mode → BeginWith (name_of mode) words
begins_with_name words (Replay steps) asked = replay_begins words steps asked
begins_with_name words (Noted steps) asked = replay_then_begins words (codes "--history") steps asked
begins_with_name words (Dump steps) asked = replay_then_begins words (codes "--dump") steps asked
begins_with_name words (Resume steps) asked = numbered_begins (codes "resume") (codes "--steps") usual_steps most_steps words steps asked
begins_with_name words (Run workers) asked = numbered_begins (codes "run") (codes "--workers") most_machines most_machines words workers asked
begins_with_name words (Churn load) asked = churn_begins words load.seed load.count asked
begins_with_name words (Queue count) asked = queue_begins words count asked
begins_with_name words Check asked = begins_as words [] (codes "check") asked

-- words have one first word
one_first : (first_text second_text : List ℕ) (words : List (List ℕ)) → BeginWith first_text words → BeginWith second_text words → first_text ≡ second_text
one_first first_text second_text [] begins begins_other = absurd begins
one_first first_text second_text (word ∷ words) begins begins_other = sym begins ∙ begins_other

-- modes that words ask for are of one command
pub one_name : (words : List (List ℕ)) (mode other_mode : Mode) → Asks words mode → Asks words other_mode → name_of mode ≡ name_of other_mode
one_name words mode other_mode asked also = one_first (name_of mode) (name_of other_mode) words (begins_with_name words mode asked) (begins_with_name words other_mode also)

-- the sum of two letters, by which a command is told
abbrev letters_of : List ℕ → ℕ
letters_of word = get_or word 0 0 + get_or word 2 0

abbrev reading_at : ℕ → Reading
reading_at number = if number == letters_of (codes "churn") then ReadNothing else (if number == letters_of (codes "queue") then ReadNothing else (if number == letters_of (codes "check") then ReadPair else (if number == letters_of (codes "resume") then ReadDump else ReadTrace)))

reading_named : (mode : Mode) → reading_of mode ≡ reading_at (letters_of (name_of mode))
reading_named (Replay steps) = refl
reading_named (Noted steps) = refl
reading_named (Dump steps) = refl
reading_named (Resume steps) = refl
reading_named (Run workers) = refl
reading_named (Churn load) = refl
reading_named (Queue count) = refl
reading_named Check = refl

-- modes that words ask for read alike
pub one_reading : (words : List (List ℕ)) (mode other_mode : Mode) → Asks words mode → Asks words other_mode → reading_of mode ≡ reading_of other_mode
one_reading words mode other_mode asked also = reading_named mode ∙ ap (λ (word : List ℕ). reading_at (letters_of word)) (one_name words mode other_mode asked also) ∙ sym (reading_named other_mode)

-- so words ask for what reads something, or for what reads nothing
pub asks_alike : (words : List (List ℕ)) (mode silent_mode : Mode) → Asks words mode → Asks words silent_mode → ReadsInput mode → ReadsNothing silent_mode → ⊥
asks_alike words mode silent_mode asked also reads reads_nothing = subst HasInput (one_reading words mode silent_mode asked also ∙ reads_nothing) reads

-- a list that is not empty begins with its first word
pub first_word : {X : Type 0} (f : X → List ℕ) (words : List X) (word : X) (text : List ℕ) (holds : Bool) → 1 ≤ length words → word ≡ get_or words 0 word → holds ≡ pointwise eqb (f word) text
    → (holds ≡ true → BeginWith text (map f words)) × (BeginWith text (map f words) → holds ≡ true)
first_word f [] word text holds positive word_is test_is = absurd (omega arith)
first_word f (x ∷ xs) word text holds positive word_is test_is = (
  (λ test_holds. sym (ap f word_is) ∙ same_from_test (f word) text (sym test_is ∙ test_holds)),
  (λ begins. test_is ∙ ap (λ (some_text : List ℕ). pointwise eqb some_text text) (ap f word_is ∙ begins) ∙ test_itself text),
)

-- words of which the second is another one name no number behind an option
pub other_option : {X : Type 0} (f : X → List ℕ) (command option : List ℕ) (usual most : ℕ) (words : List X) (second_word : X) (holds : Bool) → 2 ≤ length words → second_word ≡ get_or words 1 second_word → holds ≡ pointwise eqb (f second_word) option → holds ≡ false
    → (read_number : ℕ) → IsNumbered command option usual most (map f words) read_number → ⊥
other_option f command option usual most [] second_word holds at_most word_is test_is differs read_number asked = absurd (omega arith)
other_option f command option usual most (x ∷ []) second_word holds at_most word_is test_is differs read_number asked = absurd (omega arith)
other_option f command option usual most (x ∷ y ∷ words) second_word holds at_most word_is test_is differs read_number (inl one_form) = absurd (omega (arith, ap length one_form.0))
other_option f command option usual most (x ∷ y ∷ words) second_word holds at_most word_is test_is differs read_number (inr three_form) =
    let second : f y ≡ option = ap (λ (ws : List (List ℕ)). get_or ws 1 []) three_form.0 in
    false≢true (sym differs ∙ test_is ∙ ap (λ (some_text : List ℕ). pointwise eqb some_text option) (ap f word_is ∙ second) ∙ test_itself option)

-- no words have no first word
pub none_begins : {X : Type 0} (f : X → List ℕ) (words : List X) (text : List ℕ) → length words < 1 → BeginWith text (map f words) → ⊥
none_begins f [] text no_words begins = begins
none_begins f (x ∷ xs) text no_words begins = absurd (omega arith)

-- ---- the last word

-- words of which the last one is this
last_added : {X : Type 0} (f : X → List ℕ) (words : List X) (word : X) (text : List ℕ) (index : ℕ) → length words ≡ suc index → word ≡ get_or words index word → f word ≡ text → map f words ≡ map f (take index words) ++ text ∷ []
last_added f [] word text index words_length word_is same_text = absurd (omega arith)
last_added f (x ∷ []) word text zero words_length word_is same_text = ap (λ (some_text : List ℕ). some_text ∷ []) (sym (ap f word_is) ∙ same_text)
last_added f (x ∷ []) word text (suc index) words_length word_is same_text = absurd (omega arith)
last_added f (x ∷ y ∷ words) word text zero words_length word_is same_text = absurd (omega arith)
last_added f (x ∷ y ∷ words) word text (suc index) words_length word_is same_text = ap (λ (ws : List (List ℕ)). f x ∷ ws) (last_added f (y ∷ words) word text index (omega arith) word_is same_text)

-- a front and one word more have this last word, and this front
last_of : {X : Type 0} (f : X → List ℕ) (words : List X) (word : X) (front : List (List ℕ)) (text : List ℕ) (index : ℕ) → length words ≡ suc index → word ≡ get_or words index word → map f words ≡ front ++ text ∷ []
    → (f word ≡ text) × (map f (take index words) ≡ front)
last_of f [] word front text index words_length word_is same_words = absurd (omega arith)
last_of f (x ∷ []) word [] text zero words_length word_is same_words = (ap f word_is ∙ ap (λ (ws : List (List ℕ)). get_or ws 0 []) same_words, refl)
last_of f (x ∷ []) word (front_word ∷ front) text zero words_length word_is same_words = absurd (omega (arith, ap length same_words, length-append front (text ∷ [])))
last_of f (x ∷ []) word front text (suc index) words_length word_is same_words = absurd (omega arith)
last_of f (x ∷ y ∷ words) word front text zero words_length word_is same_words = absurd (omega arith)
last_of f (x ∷ y ∷ words) word [] text (suc index) words_length word_is same_words = absurd (omega (arith, ap length same_words))
last_of f (x ∷ y ∷ words) word (front_word ∷ front) text (suc index) words_length word_is same_words =
    let rest : map f (y ∷ words) ≡ front ++ text ∷ [] = ap (λ (ws : List (List ℕ)). drop 1 ws) same_words in
    let first_same : f x ≡ front_word = ap (λ (ws : List (List ℕ)). get_or ws 0 []) same_words in
    let both_same = last_of f (y ∷ words) word front text index (omega arith) word_is rest in
    (both_same.0, ap (λ (some_text : List ℕ). some_text ∷ map f (take index (y ∷ words))) first_same ∙ ap (λ (ws : List (List ℕ)). front_word ∷ ws) both_same.1)

-- what is asked for where this is the last word: a replay by the words before it
pub then_by_front : {X : Type 0} (f : X → List ℕ) (words front : List X) (word : X) (text : List ℕ) (index : ℕ) (found : Option ℕ) → length words ≡ suc index → word ≡ get_or words index word → front ≡ take index words
    → true ≡ pointwise eqb (f word) text → MatchOption found (((steps : ℕ) × IsReplay (map f front) steps) → ⊥) (IsReplay (map f front)) → MatchOption found (((steps : ℕ) × IsReplayThen text (map f words) steps) → ⊥) (IsReplayThen text (map f words))
then_by_front f words front word text index (Some steps) words_length word_is front_is same_text asked =
    (map f front, last_added f words word text index words_length word_is (same_from_test (f word) text (sym same_text)) ∙ ap (λ ws. map f ws ++ text ∷ []) (sym front_is), asked)
then_by_front f words front word text index None words_length word_is front_is same_text front_matched = λ asked.
    let last_parts = last_of f words word asked.1.0 text index words_length word_is asked.1.1 in
    front_matched (asked.0, subst (λ (ws : List (List ℕ)). IsReplay ws asked.0) (sym last_parts.1 ∙ ap (λ ws. map f ws) (sym front_is)) asked.1.2)

-- nothing is asked for by that last word where the last one differs
pub then_other : {X : Type 0} (f : X → List ℕ) (words : List X) (word : X) (text : List ℕ) (index : ℕ) (holds : Bool) → length words ≡ suc index → word ≡ get_or words index word → holds ≡ pointwise eqb (f word) text → holds ≡ false
    → (steps : ℕ) → IsReplayThen text (map f words) steps → ⊥
then_other f words word text index holds words_length word_is test_is differs steps asked =
    let last_parts = last_of f words word asked.0 text index words_length word_is asked.1 in
    false≢true (sym differs ∙ test_is ∙ ap (λ (some_text : List ℕ). pointwise eqb some_text text) last_parts.0 ∙ test_itself text)

-- words that ask for none of the modes ask for nothing
pub none_asked : (words : List (List ℕ)) → ((steps : ℕ) × IsReplay words steps → ⊥) → ((steps : ℕ) × IsReplayThen (codes "--history") words steps → ⊥) → ((n : ℕ) × IsReplayThen (codes "--dump") words n → ⊥) → ((n : ℕ) × IsResume words n → ⊥)
    → ((steps : ℕ) × IsRunBy words steps → ⊥) → ((seed : ℕ) × ((count : ℕ) × IsChurn words seed count) → ⊥) → ((count : ℕ) × IsQueue words count → ⊥) → (IsCheck words → ⊥) → Ask words → ⊥
none_asked words replay noted dump resume run churn queue check asked = by_mode asked.0 asked.1
  where
    by_mode : (mode : Mode) → Asks words mode → ⊥
    by_mode (Replay steps) asks_mode = replay (steps, asks_mode)
    by_mode (Noted steps) asks_mode = noted (steps, asks_mode)
    by_mode (Dump steps) asks_mode = dump (steps, asks_mode)
    by_mode (Resume steps) asks_mode = resume (steps, asks_mode)
    by_mode (Run workers) asks_mode = run (workers, asks_mode)
    by_mode (Churn load) asks_mode = churn (load.seed, (load.count, asks_mode))
    by_mode (Queue count) asks_mode = queue (count, asks_mode)
    by_mode Check asks_mode = check asks_mode
