-- What is wanted where something is missing.
use Rattle.std.proofs.Common.{◌≡◌, ℕ, List, ◌∷◌, ◌++◌, codes, refl, sym, ap, ◌∙◌, append_assoc}
use Rattle.std.specs.List.{flat_map}
use Rattle.shen_graph.specs.History.{Entry}
use Rattle.trace_reading.specs.declared.why.Why.TheVariants.{EntryWanted}
use Rattle.trace_reading.specs.Causes.{parts}
use Rattle.trace_reading.proofs.Cuts.{cut_parts}
use Rattle.trace_text.specs.History.{entry_line}
use Rattle.trace_text.specs.LineCuts.{IsCutAt}
use Rattle.trace_text.specs.Refusals.{wanted_at}
use Rattle.trace_text.proofs.CutLines.{behind_cut}

-- a whole line that is none of an entry
pub entry_wanted : (bytes line later_bytes : List ℕ) → parts 10 bytes ≡ line ∷ parts 10 later_bytes → EntryWanted ≡ wanted_at (parts 10 bytes)
entry_wanted bytes line later_bytes same_lines = rw (same_lines, cut_parts 10 later_bytes) refl

-- what is behind some entries is at the end of all bytes
pub rest_of_claims : (bytes front later_bytes body claimed rest : List ℕ) (entries : List Entry) → bytes ≡ front ++ later_bytes → IsCutAt (codes "history") later_bytes body claimed → claimed ≡ flat_map entry_line entries ++ rest → (before : List ℕ) × (bytes ≡ before ++ rest)
rest_of_claims bytes front later_bytes body claimed rest entries bytes_split cut spelled =
    let title_cut = behind_cut (codes "history") later_bytes body claimed cut in
    (front ++ (title_cut.0 ++ flat_map entry_line entries), bytes_split ∙ ap (λ (some_bytes : List ℕ). front ++ some_bytes) (title_cut.1 ∙ ap (λ (some_bytes : List ℕ). title_cut.0 ++ some_bytes) spelled) ∙ sym (simp append_assoc))
