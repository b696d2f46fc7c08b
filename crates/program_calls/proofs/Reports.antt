-- Texts that are put one after the other.
use Rattle.std.proofs.Common.{◌≡◌, ℕ, ◌++◌, List, append_assoc, sym, ap, ◌∙◌}
use Rattle.shen_base.specs.Sending.{SinkStage, Puts}
use Rattle.shen_base.proofs.Stages.{puts_both, puts_same}

-- some text was put
pub some_text : {a b : SinkStage} {x : List ℕ} → Puts a b x → (text : List ℕ) × Puts a b text
some_text {a} {b} {x} puts = (x, puts)

-- a text was put behind some other
pub behind_some : {a b c : SinkStage} {x y : List ℕ} → Puts a b x → Puts b c y → (front : List ℕ) × Puts a c (front ++ y)
behind_some {a} {b} {c} {x} {y} first_puts second_puts = (x, puts_both first_puts second_puts)

-- some texts were put, and behind them one behind some other
pub behind_more : {a b c d : SinkStage} {v : List ℕ} → ((text : List ℕ) × Puts a b text) → ((other_text : List ℕ) × Puts b c other_text) → ((last_text : List ℕ) × Puts c d (last_text ++ v))
    → (front : List ℕ) × Puts a d (front ++ v)
behind_more {a} {b} {c} {d} {v} first_part second_part last_part = (first_part.0 ++ (second_part.0 ++ last_part.0), puts_same same (puts_both first_part.1 (puts_both second_part.1 last_part.1)))
  where
    same : first_part.0 ++ (second_part.0 ++ (last_part.0 ++ v)) ≡ (first_part.0 ++ (second_part.0 ++ last_part.0)) ++ v
    same = sym (append_assoc first_part.0 (second_part.0 ++ last_part.0) v ∙ ap (λ text. first_part.0 ++ text) (append_assoc second_part.0 last_part.0 v))
