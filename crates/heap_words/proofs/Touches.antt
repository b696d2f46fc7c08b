-- An access by the name of a word is the access at its place.
use Rattle.std.proofs.Common.{◌≡◌, ℕ, refl}
use Rattle.heap_words.specs.Access.{table_index, made_of}
use Rattle.heap_words.specs.Touch.{Form, loads, formed, access_at}

pub table_index-access_at : (index : ℕ) (form : Form) → table_index (access_at index form) ≡ index
table_index-access_at index loads = refl
table_index-access_at index _ = refl

pub made_of-access_at : (index : ℕ) (form : Form) (found : ℕ) → made_of (access_at index form) found ≡ formed form found
made_of-access_at index loads found = refl
made_of-access_at index _ found = refl
