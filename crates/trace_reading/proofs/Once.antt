-- Bytes are read in one way.
use Rattle.std.proofs.lemmas.Option.{same_Some}
use Rattle.shen_graph.proofs.Lists.{cons_injective}
use Rattle.std.proofs.Common.{◌≡◌, ℕ, ◌+◌, ◌-◌, ◌^◌, ◌<◌, List, [], ◌∷◌, ◌++◌, get_or, refl, sym, ap, subst, ◌∙◌, append_assoc, lit<, arith}
use Rattle.std.specs.List.{flat_map, AllByRecursion}
use Rattle.std.specs.Fmt.{decimal}
use Rattle.std.proofs.lemmas.List.{append-nil}
use Rattle.shen_graph.specs.declared.command.Command.{Command}
use Rattle.heap_words.specs.declared.config.Config.{Config}
use Rattle.heap_words.specs.declared.place.Place.{Place}
use Rattle.heap_words.specs.declared.place.Place.TheVariants.{E1}
use Rattle.heap_words.specs.declared.schedule.Item.{Item}
use Rattle.heap_words.specs.declared.schedule.Item.TheVariants.{Steps, Until, Replies}
use Rattle.heap_words.specs.Place.{code_of}
use Rattle.heap_words.specs.Ranges.{seat_count, IsInRange}
use Rattle.std.proofs.Props.{props}
use Rattle.heap_words.proofs.Codes.{same_code}
use Rattle.trace_reading.specs.Spelling.{IsUpTo, line, IsLine, number_of, aim, item, spaced_item, items_and_end, schedule_line, IsItem, IsScheduleLine}
use Rattle.trace_reading.specs.Scanning.{HeadNumbers, sizes_at}
use Rattle.trace_reading.specs.Front.{NoDigit, IsLineEnd, BeginsWith, IsAny, IsItemOf}
use Rattle.trace_reading.specs.Grammar.{items_of, scripts_of, Reads, IsSameTrace}
use Rattle.trace_reading.proofs.GrammarNumbers.{positive_again}
use Rattle.trace_reading.proofs.HeadLaws.{numbers_in_head, sizes_again}
use Rattle.trace_reading.proofs.Traces.{lines_once, turns_behind}
use Rattle.trace_reading.proofs.Pieces.{ArePieces, first_piece}
use Rattle.trace_reading.proofs.ReadItems.{number_read, steps_read, until_read, replies_read, item_read, seat_of, aim_no_digit}
use Rattle.trace_reading.proofs.ScheduleLines.{IsEmpty, items_are_pieces, lines_are_pieces, with_end, spaced}

-- ---- items

number_once : (limit number : ℕ) (rest : List ℕ) → limit < 2 ^ 64 → IsUpTo limit number → NoDigit rest → BeginsWith decimal (IsUpTo limit) (decimal number ++ rest) number rest
number_once limit number rest small within no_digit = number_read limit (decimal number ++ rest) number rest small (sym (positive_again limit number rest within.0 within.1 small no_digit))

place_once : (place : Place) (rest : List ℕ) → BeginsWith code_of IsAny (code_of place ++ rest) place rest
place_once place rest = record { good = tt; spelled = refl; only = λ other_place after any_place any_tail same_text. let equal_parts = two_each place other_place rest after same_text in (same_code place other_place equal_parts.0, equal_parts.1) }
  where
    two_listed : (place : Place) → code_of place ≡ get_or (code_of place) 0 0 ∷ get_or (code_of place) 1 0 ∷ []
    two_listed E1 = refl
    two_listed _ = refl

    by_two : (first_byte second_byte other_first other_second : ℕ) (xs ys : List ℕ) → first_byte ∷ second_byte ∷ xs ≡ other_first ∷ other_second ∷ ys → (first_byte ∷ second_byte ∷ [] ≡ other_first ∷ other_second ∷ []) × (xs ≡ ys)
    by_two first_byte second_byte other_first other_second xs ys same_bytes = (cc, cc)

    two_each : (place other_place : Place) (xs ys : List ℕ) → code_of place ++ xs ≡ code_of other_place ++ ys → (code_of place ≡ code_of other_place) × (xs ≡ ys)
    two_each place other_place xs ys same_bytes =
        let first_byte : ℕ = get_or (code_of place) 0 0 in let second_byte : ℕ = get_or (code_of place) 1 0 in let other_first : ℕ = get_or (code_of other_place) 0 0 in let other_second : ℕ = get_or (code_of other_place) 1 0 in
        let both_same = by_two first_byte second_byte other_first other_second xs ys (ap (λ (zs : List ℕ). zs ++ xs) (sym (two_listed place)) ∙ same_bytes ∙ ap (λ (zs : List ℕ). zs ++ ys) (two_listed other_place)) in
        (two_listed place ∙ both_same.0 ∙ sym (two_listed other_place), both_same.1)

aim_once : (config : Config) (given_item : Item) (rest : List ℕ) → IsItem config given_item → NoDigit rest → BeginsWith aim (IsItemOf config (number_of given_item)) (aim given_item ++ rest) given_item rest
aim_once config (Steps number count) rest good_item no_digit = steps_read config number (58 ∷ (decimal count ++ rest)) (decimal count ++ rest) count rest good_item.0 refl (number_once 4000000000 count rest (lit< tt) good_item.1 no_digit)
aim_once config (Until number place) rest good_item no_digit = until_read config number (64 ∷ (code_of place ++ rest)) (code_of place ++ rest) place rest good_item refl (place_once place rest)
aim_once config (Replies number count) rest good_item no_digit = replies_read config number (61 ∷ (decimal count ++ rest)) (decimal count ++ rest) count rest good_item.0 refl (number_once 4000000000 count rest (lit< tt) good_item.1 no_digit)

item_once : (config : Config) (given_item : Item) (rest : List ℕ) → IsItem config given_item → NoDigit rest → BeginsWith item (IsItem config) (item given_item ++ rest) given_item rest
item_once config given_item rest good_item no_digit =
    let machine = number_once (seat_count config.mutators config.helpers) (number_of given_item + 1) (aim given_item ++ rest) (omega arith) (seat_of config given_item good_item) (aim_no_digit given_item rest) in
    let same_number : number_of given_item ≡ number_of given_item + 1 - 1 = omega arith in
    let item_whole = item_read config (decimal (number_of given_item + 1) ++ (aim given_item ++ rest)) (aim given_item ++ rest) (number_of given_item + 1) given_item rest machine (subst (λ (number : ℕ). BeginsWith aim (IsItemOf config number) (aim given_item ++ rest) given_item rest) same_number (aim_once config given_item rest good_item no_digit)) in
    subst (λ (bytes : List ℕ). BeginsWith item (IsItem config) bytes given_item rest) (sym (append_assoc (decimal (number_of given_item + 1)) (aim given_item) rest)) item_whole

-- ---- pieces

abbrev IsOnce : {A : Type 0} → (A → List ℕ) → (A → Type 0) → Type 0
IsOnce {A} spelling IsGood = (x : A) (rest : List ℕ) → IsGood x → NoDigit rest → BeginsWith spelling IsGood (spelling x ++ rest) x rest

pieces_once : {A : Type 0} (spelling : A → List ℕ) (IsGood : A → Type 0) (IsTail : List ℕ → Type 0) → ArePieces spelling IsTail → IsOnce spelling IsGood
    → (xs ys : List A) (rest after : List ℕ) → AllByRecursion IsGood xs → AllByRecursion IsGood ys → IsTail rest → IsTail after → flat_map spelling xs ++ rest ≡ flat_map spelling ys ++ after → (xs ≡ ys) × (rest ≡ after)
pieces_once spelling IsGood IsTail laws spelled_once [] [] rest after all_xs all_ys tail after_tail same_spelling = (refl, same_spelling)
pieces_once spelling IsGood IsTail laws spelled_once [] (y ∷ ys) rest after all_xs all_ys tail after_tail same_spelling = absurd (laws.no_tail y (flat_map spelling ys ++ after) (subst IsTail (same_spelling ∙ first_piece spelling y ys after) tail))
pieces_once spelling IsGood IsTail laws spelled_once (x ∷ xs) [] rest after all_xs all_ys tail after_tail same_spelling = absurd (laws.no_tail x (flat_map spelling xs ++ rest) (subst IsTail (sym same_spelling ∙ first_piece spelling x xs rest) after_tail))
pieces_once {A} spelling IsGood IsTail laws spelled_once (x ∷ xs) (y ∷ ys) rest after all_xs all_ys tail same_spelling equal_bytes =
    let first_once = (spelled_once x (flat_map spelling xs ++ rest) all_xs.0 (laws.ends xs rest tail)).only y (flat_map spelling ys ++ after) all_ys.0 (laws.ends ys after same_spelling) (sym (first_piece spelling x xs rest) ∙ equal_bytes ∙ first_piece spelling y ys after) in
    let others = pieces_once spelling IsGood IsTail laws spelled_once xs ys rest after all_xs.1 all_ys.1 tail same_spelling first_once.1 in
    (ap (λ (z : A). z ∷ xs) first_once.0 ∙ ap (λ (zs : List A). y ∷ zs) others.0, others.1)

spaced_once : (config : Config) → IsOnce spaced_item (IsItem config)
spaced_once config given_item rest good_item no_digit = spaced config (32 ∷ (item given_item ++ rest)) (item given_item ++ rest) rest given_item refl (item_once config given_item rest good_item no_digit)

line_once : (config : Config) → IsOnce schedule_line (IsScheduleLine config)
line_once config items rest good_line no_digit = record {
  good = good_line;
  spelled = refl;
  only = λ other_items after others_good digit same_text.
      let both_same = pieces_once spaced_item (IsItem config) IsLineEnd items_are_pieces (spaced_once config) items other_items (10 ∷ rest) (10 ∷ after) good_line.in_range others_good.in_range refl refl
      (sym (with_end items rest) ∙ (cons_injective 33 33 (items_and_end items ++ rest) (items_and_end other_items ++ after) same_text).1 ∙ with_end other_items after) in
      (both_same.0, (cons_injective 10 10 rest after both_same.1).1);
}

pub turns_once : (config : Config) (xs ys : List (List Item)) → AllByRecursion (IsScheduleLine config) xs → AllByRecursion (IsScheduleLine config) ys → flat_map schedule_line xs ≡ flat_map schedule_line ys → xs ≡ ys
turns_once config xs ys all_xs all_ys same_bytes =
    (pieces_once schedule_line (IsScheduleLine config) IsEmpty lines_are_pieces (line_once config) xs ys [] [] all_xs all_ys refl refl (append-nil (flat_map schedule_line xs) ∙ same_bytes ∙ sym (append-nil (flat_map schedule_line ys)))).0

-- ---- traces

abbrev of : (regions region_words mutators helpers reserve : ℕ) → IsInRange regions region_words mutators helpers reserve → Config
of regions region_words mutators helpers reserve in_range = record { regions = regions; region_words = region_words; mutators = mutators; helpers = helpers; reserve = reserve; in_range = in_range }

one_proof : (regions region_words mutators helpers reserve : ℕ) → IsProp (IsInRange regions region_words mutators helpers reserve)
one_proof regions region_words mutators helpers reserve = Prim.hlevel props

-- a configuration is its numbers
pub same_config : (config other_config : Config) → config.regions ≡ other_config.regions → config.region_words ≡ other_config.region_words → config.mutators ≡ other_config.mutators → config.helpers ≡ other_config.helpers → config.reserve ≡ other_config.reserve → config ≡ other_config
same_config config other_config same_regions same_words same_mutators same_helpers same_reserve =
    subst (λ (regions : ℕ). (in_range : IsInRange regions other_config.region_words other_config.mutators other_config.helpers other_config.reserve) → config ≡ of regions other_config.region_words other_config.mutators other_config.helpers other_config.reserve in_range) same_regions
    (subst (λ (region_words : ℕ). (in_range : IsInRange config.regions region_words other_config.mutators other_config.helpers other_config.reserve) → config ≡ of config.regions region_words other_config.mutators other_config.helpers other_config.reserve in_range) same_words
    (subst (λ (mutators : ℕ). (in_range : IsInRange config.regions config.region_words mutators other_config.helpers other_config.reserve) → config ≡ of config.regions config.region_words mutators other_config.helpers other_config.reserve in_range) same_mutators
    (subst (λ (helpers : ℕ). (in_range : IsInRange config.regions config.region_words config.mutators helpers other_config.reserve) → config ≡ of config.regions config.region_words config.mutators helpers other_config.reserve in_range) same_helpers
    (subst (λ (reserve : ℕ). (in_range : IsInRange config.regions config.region_words config.mutators config.helpers reserve) → config ≡ of config.regions config.region_words config.mutators config.helpers reserve in_range) same_reserve
    (λ in_range. ap (of config.regions config.region_words config.mutators config.helpers config.reserve) (one_proof config.regions config.region_words config.mutators config.helpers config.reserve config.in_range in_range)))))) other_config.in_range

-- bytes are read as one trace at most
pub read_once : (bytes : List ℕ) (version other_version : ℕ) (config other_config : Config) (scripts other_scripts : List (List Command)) (items other_items : List Item) → Reads bytes version config scripts items → Reads bytes other_version other_config other_scripts other_items → IsSameTrace version config scripts items other_version other_config other_scripts other_items
read_once bytes first_version other_version other_config second_config scripts other_scripts items other_items reads other_reads =
    let rest = flat_map line reads.lines ++ flat_map schedule_line reads.turns in
    let after = flat_map line other_reads.lines ++ flat_map schedule_line other_reads.turns in
    let first_head : HeadNumbers × List ℕ = (numbers_in_head first_version other_config, rest) in
    let second_head : HeadNumbers × List ℕ = (numbers_in_head other_version second_config, after) in
    let same_head : first_head ≡ second_head = same_Some first_head second_head (sym (sizes_again first_version other_config rest reads.known reads.narrow) ∙ ap sizes_at (sym reads.spelled ∙ other_reads.spelled) ∙ sizes_again other_version second_config after other_reads.known other_reads.narrow) in
    let version : first_version ≡ other_version = ap (λ (given_head : HeadNumbers × List ℕ). given_head.0.version) same_head in
    let config : other_config ≡ second_config = same_config other_config second_config (ap (λ (given_head : HeadNumbers × List ℕ). get_or given_head.0.heap 0 0) same_head) (ap (λ (given_head : HeadNumbers × List ℕ). get_or given_head.0.heap 1 0) same_head)
    (ap (λ (given_head : HeadNumbers × List ℕ). get_or given_head.0.threads 0 0) same_head) (ap (λ (given_head : HeadNumbers × List ℕ). get_or given_head.0.threads 1 0) same_head) (ap (λ (given_head : HeadNumbers × List ℕ). get_or given_head.0.heap 2 0) same_head) in
    let in_range = subst (λ (version : ℕ). AllByRecursion (IsLine version other_config.mutators) other_reads.lines) (sym version) (subst (λ (config : Config). AllByRecursion (IsLine other_version config.mutators) other_reads.lines) (sym config) other_reads.in_range) in
    let lines = lines_once first_version other_config.mutators reads.lines other_reads.lines (flat_map schedule_line reads.turns) (flat_map schedule_line other_reads.turns) (omega arith) reads.in_range in_range
    (turns_behind reads.turns) (turns_behind other_reads.turns) (ap (λ (given_head : HeadNumbers × List ℕ). given_head.1) same_head) in
    let turns = turns_once other_config reads.turns other_reads.turns reads.turns_in_range (subst (λ (config : Config). AllByRecursion (IsScheduleLine config) other_reads.turns) (sym config) other_reads.turns_in_range) lines.1 in
    record {
      version = version;
      config = config;
      scripts = reads.by_thread ∙ ap (scripts_of other_config.mutators) lines.0 ∙ ap (λ (config : Config). scripts_of config.mutators other_reads.lines) config ∙ sym other_reads.by_thread;
      items = reads.in_order ∙ ap items_of turns ∙ sym other_reads.in_order;
    }
