-- Words of references up to a stroke, and words of numbers.
use Rattle.std.proofs.Common.{ℕ, suc, ◌≡◌, ◌<◌, List, [], ◌∷◌, ◌++◌, length, codes, refl, sym, ap, subst, ◌∙◌, None, Some, arith}
use Rattle.shen_graph.proofs.Lists.{cons_injective}
use Rattle.shen_graph.specs.Graph.{Reference}
use Rattle.trace_reading.specs.Causes.{parts}
use Rattle.heap_dump.specs.DumpLines.{IsDumpReference, AreReferences}
use Rattle.heap_dump.proofs.References.{dotted}

-- a stroke is no reference
stroke : (word : List ℕ) (reference : Reference) → IsDumpReference word reference → word ≡ codes "/" → ⊥
stroke word None dump_reference stroke_word = let parts_same = (cons_injective 45 47 [] [] (sym dump_reference ∙ stroke_word)).0 in absurd (omega (arith, parts_same))
stroke word (Some name) dump_reference stroke_word =
    let parts_same : codes "/" ∷ [] ≡ dump_reference.0 ∷ dump_reference.1 ∷ [] = sym (ap (parts 46) stroke_word) ∙ dotted word name dump_reference in
    let sizes = ap length parts_same in
    absurd (omega (arith, sizes))

pub references_more : (words : List (List ℕ)) (references : List Reference) (word : List ℕ) (reference : Reference) → AreReferences words references → IsDumpReference word reference → AreReferences (words ++ word ∷ []) (references ++ reference ∷ [])
references_more [] [] word reference are_spelled spells_it = (spells_it, tt)
references_more [] (first_reference ∷ references) word reference are_spelled spells_it = absurd are_spelled
references_more (first_word ∷ words) [] word reference are_spelled spells_it = absurd are_spelled
references_more (first_word ∷ words) (first_reference ∷ references) word reference are_spelled spells_it = (are_spelled.0, references_more words references word reference are_spelled.1 spells_it)

-- what stands behind the first of the references
pub data Follows (w : List ℕ) (many all : ℕ) : Type 0 where
  is_stroke : w ≡ codes "/" → Follows w many all
  is_another : (reference : Reference) → IsDumpReference w reference → many < all → Follows w many all

pub follows : (first_words second_words : List (List ℕ)) (references other_references : List Reference) (word : List ℕ) (rest later_words : List (List ℕ)) → AreReferences first_words references → AreReferences second_words other_references
    → first_words ++ word ∷ rest ≡ second_words ++ codes "/" ∷ later_words → Follows word (length references) (length other_references)
follows [] [] [] [] word rest later_words references second_spelled same_words = is_stroke (cons_injective word (codes "/") rest later_words same_words).0
follows [] [] [] (reference ∷ other_references) word rest later_words references second_spelled same_words = absurd second_spelled
follows [] (second_word ∷ second_words) [] [] word rest later_words references second_spelled same_words = absurd second_spelled
follows [] (second_word ∷ second_words) [] (reference ∷ other_references) word rest later_words references second_spelled same_words =
    is_another reference (subst (λ (any_text : List ℕ). IsDumpReference any_text reference) (sym (cons_injective word second_word rest (second_words ++ codes "/" ∷ later_words) same_words).0) second_spelled.0) (omega arith)
follows [] second_words (reference ∷ other_references) references word rest later_words first_spelled second_spelled same_words = absurd first_spelled
follows (first_word ∷ first_words) second_words [] references word rest later_words first_spelled second_spelled same_words = absurd first_spelled
follows (first_word ∷ first_words) [] (reference ∷ other_references) [] word rest later_words references second_spelled same_words = absurd (stroke first_word reference references.0 (cons_injective first_word (codes "/") (first_words ++ word ∷ rest) later_words same_words).0)
follows (first_word ∷ first_words) [] (reference ∷ other_references) (second_reference ∷ later_references) word rest later_words references second_spelled same_words = absurd second_spelled
follows (first_word ∷ first_words) (second_word ∷ second_words) (reference ∷ other_references) [] word rest later_words references second_spelled same_words = absurd second_spelled
follows (first_word ∷ first_words) (second_word ∷ second_words) (reference ∷ other_references) (second_reference ∷ later_references) word rest later_words references second_spelled same_words =
    by_rest (follows first_words second_words other_references later_references word rest later_words references.1 second_spelled.1 (cons_injective first_word second_word (first_words ++ word ∷ rest) (second_words ++ codes "/" ∷ later_words) same_words).1)
  where
    by_rest : Follows word (length other_references) (length later_references) → Follows word (length (reference ∷ other_references)) (length (second_reference ∷ later_references))
    by_rest (is_stroke spelled) = is_stroke spelled
    by_rest (is_another next_reference spelled length_below) = is_another next_reference spelled (omega (arith, length_below))

-- references alone have no stroke among them
pub no_stroke : (first_words second_words : List (List ℕ)) (references other_references : List Reference) (later_words : List (List ℕ)) → AreReferences first_words references → AreReferences second_words other_references → first_words ≡ second_words ++ codes "/" ∷ later_words → ⊥
no_stroke [] [] references other_references later_words first_spelled second_spelled same_words = absurd (let sizes = ap length same_words in omega (arith, sizes))
no_stroke [] (second_word ∷ second_words) references other_references later_words first_spelled second_spelled same_words = absurd (let sizes = ap length same_words in omega (arith, sizes))
no_stroke (first_word ∷ first_words) second_words [] references later_words first_spelled second_spelled same_words = absurd first_spelled
no_stroke (first_word ∷ first_words) [] (reference ∷ other_references) references later_words first_spelled second_spelled same_words = stroke first_word reference first_spelled.0 (cons_injective first_word (codes "/") first_words later_words same_words).0
no_stroke (first_word ∷ first_words) (second_word ∷ second_words) (reference ∷ other_references) [] later_words references second_spelled same_words = absurd second_spelled
no_stroke (first_word ∷ first_words) (second_word ∷ second_words) (reference ∷ other_references) (second_reference ∷ rest) later_words references second_spelled same_words = no_stroke first_words second_words other_references rest later_words references.1 second_spelled.1 (cons_injective first_word second_word first_words (second_words ++ codes "/" ∷ later_words) same_words).1

-- behind the same references up to a stroke stand the same words
pub same_behind : (first_words second_words : List (List ℕ)) (references other_references : List Reference) (later_words rest : List (List ℕ)) → AreReferences first_words references → AreReferences second_words other_references
    → first_words ++ codes "/" ∷ later_words ≡ second_words ++ codes "/" ∷ rest → (first_words ≡ second_words) × (later_words ≡ rest)
same_behind [] [] references other_references later_words rest first_spelled second_spelled same_words = (refl, (cons_injective (codes "/") (codes "/") later_words rest same_words).1)
same_behind [] (second_word ∷ second_words) references [] later_words rest first_spelled second_spelled same_words = absurd second_spelled
same_behind [] (second_word ∷ second_words) references (reference ∷ other_references) later_words rest first_spelled second_spelled same_words = absurd (stroke second_word reference second_spelled.0 (sym (cons_injective (codes "/") second_word later_words (second_words ++ codes "/" ∷ rest) same_words).0))
same_behind (first_word ∷ first_words) [] [] references later_words rest first_spelled second_spelled same_words = absurd first_spelled
same_behind (first_word ∷ first_words) [] (reference ∷ other_references) references later_words rest first_spelled second_spelled same_words = absurd (stroke first_word reference first_spelled.0 (cons_injective first_word (codes "/") (first_words ++ codes "/" ∷ later_words) rest same_words).0)
same_behind (first_word ∷ first_words) (second_word ∷ second_words) [] references later_words rest first_spelled second_spelled same_words = absurd first_spelled
same_behind (first_word ∷ first_words) (second_word ∷ second_words) (reference ∷ other_references) [] later_words rest references second_spelled same_words = absurd second_spelled
same_behind (first_word ∷ first_words) (second_word ∷ second_words) (reference ∷ other_references) (second_reference ∷ later_references) later_words rest references second_spelled same_words =
    let parts_same = cons_injective first_word second_word (first_words ++ codes "/" ∷ later_words) (second_words ++ codes "/" ∷ rest) same_words in
    let later = same_behind first_words second_words other_references later_references later_words rest references.1 second_spelled.1 parts_same.1 in
    (ap (λ (any_text : List ℕ). any_text ∷ first_words) parts_same.0 ∙ ap (λ (ts : List (List ℕ)). second_word ∷ ts) later.0, later.1)

pub length_refs : (words : List (List ℕ)) (references : List Reference) → AreReferences words references → length words ≡ length references
length_refs [] [] references = refl
length_refs [] (reference ∷ later_references) references = absurd references
length_refs (word ∷ words) [] references = absurd references
length_refs (word ∷ words) (reference ∷ later_references) references = ap suc (length_refs words later_references references.1)
