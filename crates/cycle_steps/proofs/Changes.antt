-- What a step owes that changes only words of marking, and who records and scans what.
use Rattle.heap_words.specs.Phases.{marking_phase}
use Rattle.std.proofs.Common.{◌≡◌, ◌≢◌, ℕ, ◌<◌, ◌≤◌, ◌⊎◌, ⊎_elim, inl, Bool, true, false, Option, Some, refl, sym, ap, ◌∙◌, arith}
use Rattle.std.specs.Prelude.{if◌then◌else◌}
use Rattle.std.proofs.Math.Path.{fun_ext}
use Rattle.std.proofs.lemmas.Bool.{cases_Bool, cond-true, cond-false, false≢true}
use Rattle.heap_words.specs.declared.config.Config.{Config}
use Rattle.heap_words.specs.Words.{Word, Phase, Cset, Free, Evac, Claim, Top, Tams, Count, Buffer, Grey, Black, Heap, same_word}
use Rattle.heap_words.proofs.Stores.{same_word_true}
use Rattle.heap_words.specs.Touch.{Touch, touch, loads, touched}
use Rattle.regions.specs.Marks.{HasMark}
use Rattle.shen_graph.specs.declared.name.Name.{Name}
use Rattle.heap_world.specs.World.{World, Scan, thing, with_recording, with_scanning, IsNoted, IsToScan, NeedsNoMarking, AreMarks, AreEntries, KeepsSnapshot, IsEvacuating, NotedIn, Shared}
use Rattle.heap_world.specs.Rely.{KeepsMarks, RelyCopies, Keeps, Rely}
use Rattle.heap_world.specs.Part.{PartStep, SameWork}
use Rattle.heap_world.proofs.Keeping.{load_keeps}
use Rattle.heap_world.proofs.Copies.{same_plot, rely_copies}
use Rattle.heap_world.proofs.Traced.{traced_noted, traced_scanned}

-- whether a word is one of marking: what is claimed, a buffer, or bits
abbrev pub is_marking : Word → Bool
is_marking Claim = true
is_marking (Count mutator) = true
is_marking (Buffer mutator entry) = true
is_marking (Grey number) = true
is_marking (Black number) = true
is_marking _ = false

-- a memory with the words of marking of another one
abbrev pub with_marking : (Word → ℕ) → (Word → ℕ) → Word → ℕ
with_marking memory marking word = if is_marking word then marking word else memory word

-- other words stay where a word of marking is written
other_stays : (memory : Word → ℕ) (access : Touch) (word : Word) → is_marking access.word ≡ true → is_marking word ≡ false → touched memory access word ≡ memory word
other_stays memory access word of_marking not_marking = ⊎_elim
    (λ (same_name : same_word access.word word ≡ true). absurd (false≢true (sym not_marking ∙ ap is_marking (sym (same_word_true access.word word same_name)) ∙ of_marking)))
    (λ (words_differ : same_word access.word word ≡ false). cond-false (same_word access.word word) _ _ words_differ)
    (cases_Bool (same_word access.word word))

-- an access to a word of marking changes only words of marking
pub marking_touched : (memory : Word → ℕ) (access : Touch) → is_marking access.word ≡ true → with_marking memory (touched memory access) ≡ touched memory access
marking_touched memory access marks_word = fun_ext (λ word. ⊎_elim
    (λ (of_marking : is_marking word ≡ true). cond-true (is_marking word) _ _ of_marking)
    (λ (not_marking : is_marking word ≡ false). cond-false (is_marking word) _ _ not_marking ∙ sym (other_stays memory access word marks_word not_marking))
    (cases_Bool (is_marking word)))

-- with its own words a memory is itself
pub same_marking : (memory : Word → ℕ) → with_marking memory memory ≡ memory
same_marking memory = fun_ext (λ word. ⊎_elim
    (λ (of_marking : is_marking word ≡ true). cond-true (is_marking word) _ _ of_marking)
    (λ (not_marking : is_marking word ≡ false). cond-false (is_marking word) _ _ not_marking)
    (cases_Bool (is_marking word)))

-- and so a load changes none
pub marking_loaded : (memory : Word → ℕ) (word : Word) → with_marking memory memory ≡ touched memory (touch word loads)
marking_loaded memory word = same_marking memory ∙ load_keeps memory word

module _ (config : Config) (world : World) (seat : ℕ) (marking : Word → ℕ) (recording : ℕ → Option ℕ) (scanning : ℕ → Option Scan) where
  -- the world after such a step
  abbrev pub world_after : World
  world_after = record { memory = with_marking world.memory marking; block = world.block; ghost = with_scanning (with_recording world.ghost recording) scanning; graph = world.graph }

  -- What the change keeps: units that are claimed, what is grey and what is noted stay so, each field of the snapshot that a scan has still to come to is such
  -- a one, or done; marks and entries are objects; and what is another seat's stays as it is.
  pub record IsMarkingStep : Type 0 where
    pub phase : world.memory Phase ≡ marking_phase
    pub claims : world.memory Claim ≤ marking Claim
    pub greys : (asked_address : ℕ) → HasMark config (λ number. world.memory (Grey number)) asked_address → HasMark config (λ number. marking (Grey number)) asked_address
    pub noted : (address : ℕ) → NotedIn config world address → IsNoted config (λ number. marking (Grey number)) (λ mutator. marking (Count mutator)) (λ mutator index. marking (Buffer mutator index)) recording address
    pub scanned : (address refs nums index : ℕ) (name : Name) → world.ghost.snapshot.block address ≡ Some (thing name refs nums) → index < refs
        → IsToScan config (λ number. world.memory (Black number)) world.ghost.scanning address index
        → IsToScan config (λ number. marking (Black number)) scanning address index ⊎ NeedsNoMarking world.ghost.snapshot (IsNoted config (λ number. marking (Grey number)) (λ mutator. marking (Count mutator)) (λ mutator index. marking (Buffer mutator index)) recording) address index
    pub grey_marks : AreMarks config (λ number. marking (Grey number)) world.block
    pub black_marks : AreMarks config (λ number. marking (Black number)) world.block
    pub entries : AreEntries config (λ mutator. marking (Count mutator)) (λ mutator index. marking (Buffer mutator index)) world.block
    pub counts : (mutator : ℕ) → mutator ≢ seat → marking (Count mutator) ≡ world.memory (Count mutator)
    pub buffers : (mutator index : ℕ) → mutator ≢ seat → marking (Buffer mutator index) ≡ world.memory (Buffer mutator index)
    pub recorded : (asked_seat : ℕ) → asked_seat ≢ seat → recording asked_seat ≡ world.ghost.recording asked_seat
    pub scans : (asked_seat : ℕ) → asked_seat ≢ seat → scanning asked_seat ≡ world.ghost.scanning asked_seat

  module _ (shared : Shared config world) (step : IsMarkingStep) where
    -- no reference of the snapshot is lost
    snapshot_after : KeepsSnapshot config (world.memory Phase) (λ number. marking (Grey number)) (λ number. marking (Black number)) (λ mutator. marking (Count mutator)) (λ mutator entry. marking (Buffer mutator entry))
        (λ region. world.memory (Top region)) (λ region. world.memory (Tams region)) (λ address. world.memory (Heap address)) world.block world.ghost.snapshot recording scanning
    snapshot_after = record {
      empty = shared.marked.empty;
      traced = traced_scanned config world.ghost.snapshot (λ address. world.memory (Heap address)) (λ number. world.memory (Black number)) world.ghost.scanning
          (IsNoted config (λ number. marking (Grey number)) (λ mutator. marking (Count mutator)) (λ mutator entry. marking (Buffer mutator entry)) recording) (λ number. marking (Black number)) scanning step.scanned
          (traced_noted config world.ghost.snapshot (λ address. world.memory (Heap address)) (λ number. world.memory (Black number)) world.ghost.scanning (NotedIn config world)
          (IsNoted config (λ number. marking (Grey number)) (λ mutator. marking (Count mutator)) (λ mutator entry. marking (Buffer mutator entry)) recording) step.noted shared.marked.traced);
      led = shared.marked.led;
      old = shared.marked.old;
      kept = shared.marked.kept;
      floors = shared.marked.floors;
      marking = λ marking_on. record {
        older = (shared.marked.marking marking_on).older;
        promises = (shared.marked.marking marking_on).promises;
        deads = (shared.marked.marking marking_on).deads;
        young = (shared.marked.marking marking_on).young;
        tams_are = (shared.marked.marking marking_on).tams_are;
        greys = step.grey_marks;
        blacks = step.black_marks;
        entries = step.entries;
      };
    }

    -- it is not so that objects are evacuated
    evacuating_after : IsEvacuating config (world.memory Phase) (world.memory Cset) (world.memory Evac) (marking Claim) (world.memory Free) (λ region. world.memory (Top region)) (λ region. world.memory (Tams region)) (λ address. world.memory (Heap address)) (λ number. marking (Black number))
        world.block world.ghost.owner world.ghost.copying world.ghost.working
    evacuating_after =
        let not_evacuating : 2 ≤ world.memory Phase → ⊥ = λ evacuating_on. (let phase_is = step.phase in omega (arith, phase_is, evacuating_on)) in
        let evacuated_before = shared.evacuated in
        record {
          moved = evacuated_before.moved;
          counted = evacuated_before.counted;
          aside = evacuated_before.aside;
          kept = λ evacuating_on. absurd (not_evacuating evacuating_on);
          units = λ evacuating_on. absurd (not_evacuating (omega (arith, evacuating_on)));
        }

    -- nothing changes of copies
    copies_after : (other_seat : ℕ) → RelyCopies config other_seat world world_after
    copies_after other_seat = rely_copies config world world_after other_seat (same_plot config world world_after refl refl refl (λ region stands. refl)) refl refl (λ address offset body seated counted inside stands from word_below. refl)

    -- machines share what they should
    pub shared_after : Shared config world_after
    shared_after = record {
      parsable = shared.parsable;
      contents = shared.contents;
      owned = shared.owned;
      phased = shared.phased;
      unwritten = shared.unwritten;
      marked = snapshot_after;
      evacuated = evacuating_after;
      updated = λ updating_on. (let phase_is = step.phase in absurd (omega (arith, phase_is, updating_on)));
      pinned = shared.pinned;
    }

    -- what holds of marking holds
    marks_kept : KeepsMarks config world world_after
    marks_kept = record { phase = refl; snapshot = refl; markable = λ marking_on markable_address stands. stands; shapes = λ address stands. refl; noted = step.noted }

    -- the facts of the seat's machine stand
    pub keeps_after : Keeps config seat world world_after
    keeps_after = record {
      names = λ piece_address name stands. stands;
      targets = λ address refs nums name stands. stands;
      promises = λ piece_address words stands. stands;
      no_promises = λ address words stands. stands;
      promise_words = λ address words offset stands word_below. refl;
      root_words = λ i. refl;
      roots = λ i. refl;
      pin_words = λ index. refl;
      pins = λ i. refl;
      count = refl;
      wait = refl;
      answer = refl;
      marks = marks_kept;
      copies = (copies_after seat).keeps;
    }

    -- others can rely on what they knew
    pub others_after : (other_seat : ℕ) → other_seat ≢ seat → Rely config other_seat world world_after
    others_after other_seat seats_differ = record {
      names = λ piece_address name stands. stands;
      targets = λ address refs nums name stands. stands;
      rooms = λ piece_address piece stands room. stands;
      no_rooms = λ piece_address piece stands room. stands;
      room_words = λ piece_address place piece stands room word_below. refl;
      promises = λ piece_address words stands. stands;
      no_promises = λ address words stands. stands;
      promise_words = λ address words place stands word_below. refl;
      current = refl;
      opens = λ any_region stands. stands;
      owners = λ region stands. stands;
      tops = λ any_region stands. refl;
      root_words = λ i. refl;
      roots = λ i. refl;
      pin_words = λ index. refl;
      pins = λ i. refl;
      count = refl;
      wait = refl;
      answer = refl;
      state = refl;
      asked = λ stands. stands;
      marks = record {
        keeps = marks_kept;
        recording = step.recorded other_seat seats_differ;
        scanning = step.scans other_seat seats_differ;
        entries = step.counts other_seat seats_differ;
        buffer = λ place. step.buffers other_seat place seats_differ;
        greys = step.greys;
      };
      copies = copies_after other_seat;
      fields = record {
        tams = λ any_region. refl;
        limits = λ region. refl;
        deads = λ piece_address words stands. stands;
        fillers = λ piece_address words stands. stands;
        claims = λ all_claimed. (let more_claimed = step.claims in omega (arith, all_claimed, more_claimed));
        fields = λ updating_on piece_address refs nums place name stands word_below. inl refl;
      };
    }

    -- the step owes no more
    pub step_after : (made_touch : Touch) (facts : World → Type 0) → with_marking world.memory marking ≡ touched world.memory made_touch → facts world_after → PartStep config world seat made_touch (λ later_world. facts later_world × SameWork world later_world seat × (later_world.block ≡ world.block))
    step_after made_touch facts memory_touched own_facts = record { world = world_after; memory = memory_touched; graph = refl; shared = shared_after; own = (own_facts, record { copying = refl; working = refl }, refl); keeps = keeps_after; others = others_after }
