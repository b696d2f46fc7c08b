-- A step that writes the free word or the word of the shared region, and no other word, and leaves all pieces as they are: the seat keeps what
-- its facts stand on, and others can rely on what they knew.
use Rattle.std.proofs.Common.{◌≡◌, ℕ, ◌+◌, Bool, true, false, Option, Some, refl, sym, ap, ◌∙◌, subst}
use Rattle.std.specs.Int.{bit_at}
use Rattle.heap_words.specs.declared.config.Config.{Config}
use Rattle.heap_words.specs.Words.{Word, Phase, Cset, Free, Evac, Claim, Ask, State, Top, Tams, Limit, Current, Root, Count, Buffer, Wait, Answer, Grey, Heap, Share, Pin}
use Rattle.heap_words.specs.Counter.{IsQuiet}
use Rattle.shen_graph.specs.declared.name.Name.{Name}
use Rattle.heap_world.specs.World.{World, with_owner, IsCollected, IsOpenIn, TargetIn}
use Rattle.heap_world.specs.Rely.{Keeps, RelyMarks, Rely}
use Rattle.heap_world.proofs.Marked.{rely_marks}
use Rattle.heap_world.proofs.Copies.{CopiesStay, same_plot, keeps_copies, rely_copies}
use Rattle.heap_world.proofs.Fields.{fields_kept}

-- the words that tell which regions are free, and which one is shared
abbrev pub is_of_regions : Word → Bool
is_of_regions Free = true
is_of_regions Share = true
is_of_regions _ = false

module _ (config : Config) (world : World) (memory : Word → ℕ) (owner : ℕ → Option ℕ) (other_words_stay : (word : Word) → is_of_regions word ≡ false → memory word ≡ world.memory word) where
  -- the world after the step
  abbrev pub region_world : World
  region_world = record { memory = memory; block = world.block; ghost = with_owner world.ghost owner; graph = world.graph }

  -- marking goes on
  marks_kept : (seat : ℕ) → RelyMarks config seat world region_world
  marks_kept seat = rely_marks config world region_world seat (other_words_stay Phase refl) (λ number. other_words_stay (Grey number) refl) (λ mutator. other_words_stay (Count mutator) refl) (λ mutator entry. other_words_stay (Buffer mutator entry) refl) refl (λ t. refl) refl (λ address known_fact. known_fact) (λ address known_fact. other_words_stay (Heap (address + 1)) refl)

  -- copies stay
  copies_kept : CopiesStay config world region_world
  copies_kept = same_plot config world region_world refl (other_words_stay Cset refl) (other_words_stay Evac refl) (λ region known_fact. other_words_stay (Top region) refl)

  -- an object may be used still
  targets_kept : (address refs nums : ℕ) (name : Name) → TargetIn config world address refs nums name → TargetIn config region_world address refs nums name
  targets_kept address refs nums name has_target = record {
    piece = has_target.piece;
    safe = λ target_collected. subst IsQuiet (sym (other_words_stay Evac refl)) (has_target.safe (subst (λ cset. IsCollected config cset address) (other_words_stay Cset refl) target_collected));
  }

  -- the facts of the seat's machine stand
  pub keeps_regions : (seat : ℕ) → Keeps config seat world region_world
  keeps_regions seat = record {
    names = λ asked_address name known_fact. known_fact;
    targets = targets_kept;
    promises = λ asked_address words known_fact. known_fact;
    no_promises = λ address words known_fact. known_fact;
    promise_words = λ address words offset known_fact offset_below. other_words_stay (Heap (address + offset)) refl;
    root_words = λ index. other_words_stay (Root seat index) refl;
    roots = λ i. refl;
    pin_words = λ index. other_words_stay (Pin seat index) refl;
    pins = λ i. refl;
    count = refl;
    wait = other_words_stay (Wait seat) refl;
    answer = other_words_stay (Answer seat) refl;
    marks = (marks_kept seat).keeps;
    copies = keeps_copies config world region_world copies_kept;
  }

  -- others can rely on what they knew, where they keep their regions, and regions that may be carved may be so still
  pub others_regions : (seat : ℕ) → ((region : ℕ) → world.ghost.owner region ≡ Some seat → owner region ≡ Some seat) → ((region : ℕ) → IsOpenIn config world region → IsOpenIn config region_world region) → Rely config seat world region_world
  others_regions seat owners opens = record {
    names = λ asked_address name known_fact. known_fact;
    targets = targets_kept;
    rooms = λ asked_address piece known_fact room. known_fact;
    no_rooms = λ asked_address piece known_fact room. known_fact;
    room_words = λ asked_address offset piece known_fact room offset_below. other_words_stay (Heap (asked_address + offset)) refl;
    promises = λ asked_address words known_fact. known_fact;
    no_promises = λ address words known_fact. known_fact;
    promise_words = λ address words offset known_fact offset_below. other_words_stay (Heap (address + offset)) refl;
    current = other_words_stay (Current seat) refl;
    opens = opens;
    owners = owners;
    tops = λ region known_fact. other_words_stay (Top region) refl;
    root_words = λ index. other_words_stay (Root seat index) refl;
    roots = λ i. refl;
    pin_words = λ index. other_words_stay (Pin seat index) refl;
    pins = λ i. refl;
    count = refl;
    wait = other_words_stay (Wait seat) refl;
    answer = other_words_stay (Answer seat) refl;
    state = other_words_stay (State seat) refl;
    asked = λ known_fact. ap (λ ask_bits. bit_at ask_bits 1) (other_words_stay Ask refl) ∙ known_fact;
    marks = marks_kept seat;
    copies = rely_copies config world region_world seat copies_kept refl refl (λ asked_address offset body seated counted inside known_fact from offset_below. other_words_stay (Heap (asked_address + offset)) refl);
    fields = fields_kept config world region_world refl (λ region. other_words_stay (Tams region) refl) (λ region. other_words_stay (Limit region) refl) (other_words_stay Claim refl) (λ address. other_words_stay (Heap address) refl);
  }
