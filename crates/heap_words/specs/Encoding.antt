-- How the numbers of an object are written into its words.
use Rattle.std.specs.Prelude.{◌≡◌, ℕ, ◌+◌, ◌*◌, ◌/◌, ◌%◌, ◌^◌, ◌<◌, ◌≤◌, ◌==◌, if◌then◌else◌, Bool, true, false, Option, Some, None}

-- the header of an object whose copy is at an address
abbrev pub header_word : ℕ → ℕ
header_word address = 4 * address + 3

-- the header of an object that is its own current copy
abbrev pub plain_header : ℕ
plain_header = 1

-- whether a header names a copy
abbrev pub is_forwarded : ℕ → Bool
is_forwarded header = header % 4 == 3

-- the address of the copy
abbrev pub forwardee_in : ℕ → ℕ
forwardee_in header = header / 4

-- the header of so many words that only fill
abbrev pub filler_header : ℕ → ℕ
filler_header words = 4 * words + 2

-- how many words only fill, where a header is one of such words
abbrev pub filler_words_in : ℕ → Option ℕ
filler_words_in header = if header % 4 == 2 then Some (header / 4) else None

-- the word of a buffer whose free words are those from one address up to another
abbrev pub buffer_word : ℕ → ℕ → ℕ
buffer_word next limit = 2 ^ 32 * limit + next

-- where the free words of a buffer begin
abbrev pub next_in : ℕ → ℕ
next_in word = word % 2 ^ 32

-- and the address behind the last of them
abbrev pub end_in : ℕ → ℕ
end_in word = word / 2 ^ 32

-- the shape word of so many references and numbers
abbrev pub shape_word : ℕ → ℕ → ℕ
shape_word refs nums = 65536 + 256 * refs + nums

-- the references of a shape word
abbrev pub refs_in : ℕ → ℕ
refs_in shape = shape / 256 % 256

-- the numbers of a shape word
abbrev pub nums_in : ℕ → ℕ
nums_in shape = shape % 256

-- the words of an object with a shape word
abbrev pub object_words : ℕ → ℕ
object_words shape = 3 + refs_in shape + nums_in shape

-- the name word of a thread's object by its count
abbrev pub name_code : ℕ → ℕ → ℕ
name_code thread count = 2 ^ 32 * thread + count

-- the thread of a name word
abbrev pub thread_in : ℕ → ℕ
thread_in name = name / 2 ^ 32

-- the count of a name word
abbrev pub count_in : ℕ → ℕ
count_in name = name % 2 ^ 32

-- The words, in order, of an object of so many references and numbers that is new: header, shape, name, and zeros. It is the
-- next object of the mutator of a seat that has made so many.
abbrev pub fresh_word : ℕ → ℕ → ℕ → ℕ → ℕ → ℕ
fresh_word seat made refs nums offset =
    if offset == 0 then plain_header else (if offset == 1 then shape_word refs nums else (if offset == 2 then name_code (seat + 1) (made + 1) else 0))

-- the word that asks for an object of a shape word, by the count of its name
abbrev pub request_code : ℕ → ℕ → ℕ
request_code count shape = 2 ^ 32 * count + shape

-- the count in a request
abbrev pub request_count_in : ℕ → ℕ
request_count_in request = request / 2 ^ 32

-- the shape word in a request
abbrev pub request_shape_in : ℕ → ℕ
request_shape_in request = request % 2 ^ 32

-- a header to an address reads as forwarded, to that address, and the plain one as not forwarded
pub record HeadersUndo : Type 0 where
  pub forwarded : (address : ℕ) → is_forwarded (header_word address) ≡ true
  pub forwardee : (address : ℕ) → forwardee_in (header_word address) ≡ address
  pub plain : is_forwarded plain_header ≡ false
  pub whole : (header : ℕ) → is_forwarded header ≡ true → header_word (forwardee_in header) ≡ header

-- a header of words that only fill reads as their number; those of objects, moved or not, as none
pub record FillersUndo : Type 0 where
  pub words : (words : ℕ) → filler_words_in (filler_header words) ≡ Some words
  pub forwarded : (address : ℕ) → filler_words_in (header_word address) ≡ None
  pub plain : filler_words_in plain_header ≡ None

-- the word of a buffer reads as the addresses that it was made of
pub record BuffersUndo : Type 0 where
  pub next : (next limit : ℕ) → next < 2 ^ 32 → next_in (buffer_word next limit) ≡ next
  pub limit : (next limit : ℕ) → next < 2 ^ 32 → end_in (buffer_word next limit) ≡ limit
  pub whole : (word : ℕ) → buffer_word (next_in word) (end_in word) ≡ word

-- a shape word reads as the fields that it was made of
pub record ShapesUndo : Type 0 where
  pub refs : (refs nums : ℕ) → refs ≤ 16 → nums ≤ 16 → refs_in (shape_word refs nums) ≡ refs
  pub nums : (refs nums : ℕ) → refs ≤ 16 → nums ≤ 16 → nums_in (shape_word refs nums) ≡ nums
  pub words : (refs nums : ℕ) → refs ≤ 16 → nums ≤ 16 → object_words (shape_word refs nums) ≡ 3 + refs + nums

-- a name word reads as the thread and the count that it was made of
pub record NamesUndo : Type 0 where
  pub thread : (thread count : ℕ) → count < 2 ^ 32 → thread_in (name_code thread count) ≡ thread
  pub count : (thread count : ℕ) → count < 2 ^ 32 → count_in (name_code thread count) ≡ count
  pub whole : (name : ℕ) → name_code (thread_in name) (count_in name) ≡ name

-- a request reads as the count and the shape word that it was made of
pub record RequestsUndo : Type 0 where
  pub count : (count shape : ℕ) → shape < 2 ^ 32 → request_count_in (request_code count shape) ≡ count
  pub shape : (count shape : ℕ) → shape < 2 ^ 32 → request_shape_in (request_code count shape) ≡ shape
  pub whole : (request : ℕ) → request_code (request_count_in request) (request_shape_in request) ≡ request
