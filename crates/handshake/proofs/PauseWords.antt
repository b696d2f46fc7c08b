-- The pause word and the state words after an access.
use Rattle.std.proofs.Common.{◌≡◌, ◌≢◌, ℕ, ◌<◌, List, length, true, refl, sym, ap, ◌∙◌, get_or-set_other}
use Rattle.std.proofs.lemmas.Bool.{ne_eqb, eq-eqb, cond-true, cond-false}
use Rattle.std.proofs.lemmas.List.{length-set, set-get_or}
use Rattle.heap_words.specs.declared.config.Config.{Config}
use Rattle.heap_words.specs.declared.access.Access.{Access}
use Rattle.heap_words.specs.declared.access.Access.TheVariants.{Load}
use Rattle.heap_words.specs.Access.{table_index}
use Rattle.heap_words.specs.Words.{Pause, State, word_at, table_words, view}
use Rattle.heap_words.proofs.Stores.{view_word, view_set}
use Rattle.heap_words.specs.Touch.{touch, stores, placed}
use Rattle.heap_words.specs.Steps.{accessed}
use Rattle.handshake.specs.Standing.{control_seat}
use Rattle.handshake.specs.Obeys.{IsElsewhere, is_load}

-- the words of the handshake are as they were
pub record KeepsWords (config : Config) (old new : List ℕ) : Type 0 where
  pub long : length new ≡ length old
  pub pause : view config new Pause ≡ view config old Pause
  pub states : (seat : ℕ) → seat < control_seat config → view config new (State seat) ≡ view config old (State seat)

-- an access of another word keeps them
pub elsewhere_keeps : (config : Config) (words : List ℕ) (access : Access) → IsElsewhere config access → KeepsWords config words (accessed access words)
elsewhere_keeps config words access access_elsewhere = record {
  long = length-set _ _ _;
  pause = get_or-set_other words (table_index access) (word_at config Pause) _ 0 (λ same_index. access_elsewhere.not_pause (sym same_index));
  states = λ seat seat_below.
      view_word config _ (State seat) seat_below
      ∙ get_or-set_other words (table_index access) (word_at config (State seat)) _ 0 (λ same_index. access_elsewhere.not_state seat seat_below (sym same_index))
      ∙ sym (view_word config words (State seat) seat_below);
}

-- an access that only reads changes nothing
pub accessed-load : (words : List ℕ) (access : Access) → is_load access ≡ true → accessed access words ≡ words
accessed-load words (Load index) only_reads = set-get_or words index 0
accessed-load words _ only_reads = absurd (cc (only_reads))

pub load_keeps : (config : Config) (words : List ℕ) (access : Access) → is_load access ≡ true → KeepsWords config words (accessed access words)
load_keeps config words access only_reads = let same_words = accessed-load words access only_reads in record {
  long = ap length same_words;
  pause = ap (λ table. view config table Pause) same_words;
  states = λ seat seat_below. ap (λ table. view config table (State seat)) same_words;
}

-- a store into the pause word
pub pause_stored : (config : Config) (words : List ℕ) (value : ℕ) → length words ≡ table_words config
    → view config (accessed (placed config (touch Pause (stores value))) words) Pause ≡ value
pause_stored config words value words_long = view_set config words Pause value Pause words_long tt

pub pause_stored_states : (config : Config) (words : List ℕ) (value seat : ℕ) → length words ≡ table_words config
    → view config (accessed (placed config (touch Pause (stores value))) words) (State seat) ≡ view config words (State seat)
pause_stored_states config words value seat words_long = view_set config words Pause value (State seat) words_long tt

-- a store into a state word
pub state_stored : (config : Config) (words : List ℕ) (value seat : ℕ) → length words ≡ table_words config → seat < control_seat config
    → view config (accessed (placed config (touch (State seat) (stores value))) words) (State seat) ≡ value
state_stored config words value seat words_long seat_below = view_set config words (State seat) value (State seat) words_long seat_below ∙ cond-true _ _ _ (eq-eqb seat seat refl)

pub state_stored_pause : (config : Config) (words : List ℕ) (value seat : ℕ) → length words ≡ table_words config → seat < control_seat config
    → view config (accessed (placed config (touch (State seat) (stores value))) words) Pause ≡ view config words Pause
state_stored_pause config words value seat words_long seat_below = view_set config words (State seat) value Pause words_long seat_below

pub state_stored_other : (config : Config) (words : List ℕ) (value seat other_seat : ℕ) → length words ≡ table_words config → seat < control_seat config → other_seat ≢ seat
    → view config (accessed (placed config (touch (State seat) (stores value))) words) (State other_seat) ≡ view config words (State other_seat)
state_stored_other config words value seat other_seat words_long seat_below seats_apart =
    view_set config words (State seat) value (State other_seat) words_long seat_below ∙ cond-false _ _ _ (ne_eqb seat other_seat (λ same_seat. seats_apart (sym same_seat)))
