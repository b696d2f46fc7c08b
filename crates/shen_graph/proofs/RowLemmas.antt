-- What adding to the last row of a text makes of it, and when it is the text of a graph.
use Rattle.std.proofs.Common.{ℕ, suc, ◌≡◌, ◌+◌, ◌-◌, ◌≤◌, List, [], ◌∷◌, ◌++◌, length, map, arith, refl, ap, subst, sym, ◌∙◌}
use Rattle.std.proofs.lemmas.List.{append_assoc, append-nil}
use Rattle.shen_graph.specs.declared.name.Name.{Name}
use Rattle.shen_graph.specs.Graph.{Graph, Reference}
use Rattle.shen_graph.specs.Reach.{IsReach}
use Rattle.shen_graph.specs.GraphText.{Text, Row, change_last, add_reference, add_number, with_row, with_reference, with_number, with_references, with_numbers, with_whole_row, names_of, root_of, pin_of, row_in, IsTextOf}
use Rattle.shen_graph.specs.Step.{name_in}

pub length-change_last : {A : Type 0} (f : A → A) (xs : List A) → length (change_last f xs) ≡ length xs
length-change_last f [] = refl
length-change_last f (x ∷ []) = refl
length-change_last f (x ∷ y ∷ xs) = ap (λ count. suc count) (length-change_last f (y ∷ xs))

change_last-push : {A : Type 0} (f : A → A) (xs : List A) (x : A) → change_last f (xs ++ x ∷ []) ≡ xs ++ f x ∷ []
change_last-push f [] x = refl
change_last-push f (y ∷ []) x = refl
change_last-push f (y ∷ z ∷ xs) x = ap (λ ys. y ∷ ys) (change_last-push f (z ∷ xs) x)

pub with_references-push : (text : Text) (references : List Reference) (reference : Reference) → with_references text (references ++ reference ∷ []) ≡ with_reference (with_references text references) reference
with_references-push text [] reference = refl
with_references-push text (first_reference ∷ references) reference = with_references-push (with_reference text first_reference) references reference

pub with_numbers-push : (text : Text) (xs : List ℕ) (x : ℕ) → with_numbers text (xs ++ x ∷ []) ≡ with_number (with_numbers text xs) x
with_numbers-push text [] x = refl
with_numbers-push text (y ∷ xs) x = with_numbers-push (with_number text y) xs x

-- a text whose last row is known
abbrev pub ending : List Row → List (List Reference) → List (List Reference) → ℕ → ℕ → Row → Text
ending rows roots pins room spare row = record { rows = rows ++ row ∷ []; roots = roots; pins = pins; spare = spare; room = room }

all : (a : ℕ) → a ≡ a - 0
all a = omega arith

less : (a n : ℕ) → a - 1 - n ≡ a - suc n
less a n = omega arith

with_references-ending : (references : List Reference) (rows : List Row) (roots pins : List (List Reference)) (room spare : ℕ) (row : Row)
    → with_references (ending rows roots pins room spare row) references
    ≡ ending rows roots pins room (spare - length references) (record row { refs = row.refs ++ references })
with_references-ending [] rows roots pins room spare row =
    ap (λ given_refs. ending rows roots pins room spare (record row { refs = given_refs })) (sym (append-nil row.refs))
    ∙ ap (λ spare_left. ending rows roots pins room spare_left (record row { refs = row.refs ++ [] })) (all spare)
with_references-ending (reference ∷ references) rows roots pins room spare row =
    ap (λ given_rows. with_references (record { rows = given_rows; roots = roots; pins = pins; spare = spare - 1; room = room }) references)
    (change_last-push (add_reference reference) rows row)
    ∙ with_references-ending references rows roots pins room (spare - 1) (add_reference reference row)
    ∙ ap (λ spare_left. ending rows roots pins room spare_left (record row { refs = row.refs ++ reference ∷ [] ++ references })) (less spare (length references))
    ∙ ap (λ given_refs. ending rows roots pins room (spare - length (reference ∷ references)) (record row { refs = given_refs })) (append_assoc row.refs (reference ∷ []) references)

with_numbers-ending : (xs : List ℕ) (rows : List Row) (roots pins : List (List Reference)) (room spare : ℕ) (row : Row)
    → with_numbers (ending rows roots pins room spare row) xs
    ≡ ending rows roots pins room (spare - length xs) (record row { nums = row.nums ++ xs })
with_numbers-ending [] rows roots pins room spare row =
    ap (λ ys. ending rows roots pins room spare (record row { nums = ys })) (sym (append-nil row.nums))
    ∙ ap (λ spare_left. ending rows roots pins room spare_left (record row { nums = row.nums ++ [] })) (all spare)
with_numbers-ending (x ∷ xs) rows roots pins room spare row =
    ap (λ given_rows. with_numbers (record { rows = given_rows; roots = roots; pins = pins; spare = spare - 1; room = room }) xs)
    (change_last-push (add_number x) rows row)
    ∙ with_numbers-ending xs rows roots pins room (spare - 1) (add_number x row)
    ∙ ap (λ spare_left. ending rows roots pins room spare_left (record row { nums = row.nums ++ x ∷ [] ++ xs })) (less spare (length xs))
    ∙ ap (λ ys. ending rows roots pins room (spare - length (x ∷ xs)) (record row { nums = ys })) (append_assoc row.nums (x ∷ []) xs)

-- a row, its references and its numbers are a whole row
pub whole : (text : Text) (name : Name) (refs : List Reference) (nums : List ℕ)
    → with_numbers (with_references (with_row text name) refs) nums
    ≡ with_whole_row text (record { name = name; refs = refs; nums = nums })
whole text name refs nums =
    let same_spare : text.spare - 3 - length refs - length nums ≡ text.spare - (3 + length refs + length nums) = omega arith in
    ap (λ grown_text. with_numbers grown_text nums)
    (with_references-ending refs text.rows text.roots text.pins text.room (text.spare - 3) (record { name = name; refs = []; nums = [] }))
    ∙ with_numbers-ending nums text.rows text.roots text.pins text.room (text.spare - 3 - length refs) (record { name = name; refs = refs; nums = [] })
    ∙ ap (λ spare_left. ending text.rows text.roots text.pins text.room spare_left (record { name = name; refs = refs; nums = nums })) same_spare

pub rows_left : (text : Text) (references : List Reference) → length (with_references text references).rows ≡ length text.rows
rows_left text [] = refl
rows_left text (reference ∷ references) = rows_left (with_reference text reference) references ∙ length-change_last (add_reference reference) text.rows

pub spare_left : (text : Text) (references : List Reference) → (with_references text references).spare ≡ text.spare - length references
spare_left text [] = all text.spare
spare_left text (reference ∷ references) = spare_left (with_reference text reference) references ∙ less text.spare (length references)

-- ---- the text of a graph

names-rows : (graph : Graph) (names : List Name) → map (λ (row : Row). row.name) (map (row_in graph) names) ≡ names
names-rows graph [] = refl
names-rows graph (name ∷ later_names) = ap (λ (names : List Name). name ∷ names) (names-rows graph later_names)

pub text_of_graph : (graph : Graph) (threads : ℕ) (text : Text) (names : List Name) → IsReach graph names → text.rows ≡ map (row_in graph) names → length text.roots ≡ threads
    → ((thread index : ℕ) → 1 ≤ thread → thread ≤ threads → root_of text thread index ≡ graph.root thread index) → length text.pins ≡ threads
    → ((thread slot : ℕ) → 1 ≤ thread → thread ≤ threads → pin_of text thread slot ≡ name_in (graph.pin thread slot)) → IsTextOf graph threads text
text_of_graph graph threads text names reach rows root_count roots pinned pins =
    let same_names : names_of text ≡ names = ap (map (λ (row : Row). row.name)) rows ∙ names-rows graph names in
    record {
      reach = subst (IsReach graph) (sym same_names) reach;
      rows = rows ∙ ap (map (row_in graph)) (sym same_names);
      each = root_count;
      roots = roots;
      pinned = pinned;
      pins = pins;
    }
