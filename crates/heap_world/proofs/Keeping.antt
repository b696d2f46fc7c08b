-- What stays where little changes: words that stand for references, a memory of which a word is loaded, and what is relied on.
use Rattle.std.proofs.Common.{◌≡◌, ℕ, inl, inr, ⊎_elim, true, false, Some, None, refl, sym, ap, ◌∙◌}
use Rattle.std.proofs.Math.Path.{fun_ext}
use Rattle.std.proofs.lemmas.Bool.{cases_Bool, cond-true, cond-false}
use Rattle.heap_words.specs.declared.config.Config.{Config}
use Rattle.heap_words.specs.Words.{Word, same_word, write}
use Rattle.heap_words.proofs.Stores.{same_word_true}
use Rattle.shen_graph.specs.declared.name.Name.{Name}
use Rattle.shen_graph.specs.Graph.{Reference}
use Rattle.heap_world.specs.World.{World, Plot, moved, TargetIn, UsableIn, IsUsable, Points, name_at}
use Rattle.heap_world.proofs.Pointing.{named_thing}
use Rattle.heap_world.proofs.Marked.{same_marks}
use Rattle.heap_world.proofs.Copies.{same_copies, none_in_0}
use Rattle.heap_world.proofs.Fields.{same_fields}
use Rattle.heap_world.specs.Rely.{Keeps, Rely}

-- a word stands for what it stood for where names stay
pub points_stay : (plot other_plot : Plot) → ((address : ℕ) (name : Name) → name_at (plot address) ≡ Some name → name_at (other_plot address) ≡ Some name) → (word : ℕ) (reference : Reference) → Points plot word reference → Points other_plot word reference
points_stay plot other_plot names word None points = points
points_stay plot other_plot names word (Some name) points = names word name points

-- a load leaves the memory as it is
pub load_keeps : (memory : Word → ℕ) (word : Word) → memory ≡ write memory word (memory word)
load_keeps memory word = fun_ext (λ read_word. ⊎_elim
    (λ (same_address : same_word word read_word ≡ true). sym (cond-true (same_word word read_word) (memory word) (memory read_word) same_address ∙ ap memory (same_word_true word read_word same_address)))
    (λ (differs : same_word word read_word ≡ false). sym (cond-false (same_word word read_word) (memory word) (memory read_word) differs))
    (cases_Bool (same_word word read_word)))

-- a word may still be used
pub usable_stays : (config : Config) (world other_world : World) → ((address refs nums : ℕ) (name : Name) → TargetIn config world address refs nums name → TargetIn config other_world address refs nums name) → (word : ℕ) → UsableIn config world word → UsableIn config other_world word
usable_stays config world other_world targets word (inl null) = inl null
usable_stays config world other_world targets word (inr current_word) = inr (current_word.0, current_word.1, current_word.2, targets word current_word.1 current_word.2 current_word.0 current_word.3)

-- as long as there is no collection set and no object has a second copy, each word that stands for a reference may be used
pub usable_now : (config : Config) (evac : ℕ) (block : Plot) → ((address refs nums copy_address : ℕ) (name : Name) → block address ≡ Some (moved name refs nums copy_address) → ⊥) → (word : ℕ) (reference : Reference) → Points block word reference
    → IsUsable config 0 evac block word
usable_now config evac block unmoved word None points = inl points
usable_now config evac block unmoved word (Some name) points =
    let piece = named_thing (block word) name (λ refs nums copy_address. unmoved word refs nums copy_address name) points in
    inr (name, piece.0, piece.1, record { piece = piece.2; safe = λ collected. absurd (none_in_0 config word collected) })

-- where nothing changes, everything can be relied on
pub rely_same : (config : Config) (seat : ℕ) (world : World) → Rely config seat world world
rely_same config seat world = record {
  names = λ asked_address name stands. stands;
  targets = λ address refs nums name stands. stands;
  rooms = λ asked_address piece stands room. stands;
  no_rooms = λ asked_address piece stands room. stands;
  room_words = λ asked_address offset piece stands room word_below. refl;
  promises = λ asked_address words stands. stands;
  no_promises = λ address words stands. stands;
  promise_words = λ address words offset stands word_below. refl;
  current = refl;
  opens = λ any_region stands. stands;
  owners = λ region stands. stands;
  tops = λ any_region stands. refl;
  root_words = λ slot. refl;
  roots = λ slot. refl;
  pin_words = λ index. refl;
  pins = λ slot. refl;
  count = refl;
  wait = refl;
  answer = refl;
  state = refl;
  asked = λ stands. stands;
  marks = same_marks config world seat;
  copies = same_copies config world seat;
  fields = same_fields config world;
}

-- what is relied on keeps all that the facts of a seat stand on
pub keeps_of : (config : Config) (seat : ℕ) (world next_world : World) → Rely config seat world next_world → Keeps config seat world next_world
keeps_of config seat world next_world rely = record {
  names = rely.names;
  targets = rely.targets;
  promises = rely.promises;
  no_promises = rely.no_promises;
  promise_words = rely.promise_words;
  root_words = rely.root_words;
  roots = rely.roots;
  pin_words = rely.pin_words;
  pins = rely.pins;
  count = rely.count;
  wait = rely.wait;
  answer = rely.answer;
  marks = rely.marks.keeps;
  copies = rely.copies.keeps;
}
