-- What it means that words are an object, wherever objects stand: the one definition, of running heaps and of words alone.
use Rattle.std.specs.Prelude.{ℕ, ◌≡◌, ◌+◌, ◌≤◌, length, Option, Some, None, slice_get}
use Rattle.heap_words.specs.Encoding.{plain_header, shape_word, name_code}
use Rattle.shen_graph.specs.declared.name.Name.{Name}
use Rattle.shen_graph.specs.Graph.{Reference, Object}

-- A word stands for a reference: 0 for null, and else an address at which the object of that name stands. For an address,
-- `at` gives the name of the object that stands there, if one does.
abbrev pub Refers : (ℕ → Option Name) → ℕ → Reference → Type 0
Refers at word None = word ≡ 0
Refers at word (Some name) = at word ≡ Some name

-- The words from an address on are an object of the graph with so many references and numbers: header, shape and name, words
-- that stand for its references, and its numbers.
pub record IsObject (heap : ℕ → ℕ) (at : ℕ → Option Name) (address refs nums : ℕ) (name : Name) (object : Object) : Type 0 where
  pub header : heap address ≡ plain_header
  pub shape : heap (address + 1) ≡ shape_word refs nums
  pub name_word : heap (address + 2) ≡ name_code name.thread name.count
  pub few_refs : refs ≤ 16
  pub few_nums : nums ≤ 16
  pub refs_are : length object.refs ≡ refs
  pub nums_are : length object.nums ≡ nums
  pub references : (i : ℕ) (reference : Reference) → slice_get object.refs i ≡ Some reference → Refers at (heap (address + 3 + i)) reference
  pub numbers : (i n : ℕ) → slice_get object.nums i ≡ Some n → heap (address + 3 + refs + i) ≡ n
