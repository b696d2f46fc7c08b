-- What a churn tells.
use Rattle.std.specs.Prelude.{ℕ, ◌≡◌, List}
use Rattle.heap_words.specs.declared.config.Config.{Config}
use Rattle.churn.specs.declared.summary.Summary.{Summary}
use Rattle.churn.specs.Laws.{SumsUpTurns}
use Rattle.trace_text.specs.Message.{line_text}
use Rattle.trace_text.specs.declared.message.Line.TheVariants.{Churn}

-- The heap of a churn: 16 regions of 256 words, of which two are kept back, for three mutators and two helpers.
pub record IsChurnHeap (config : Config) : Type 0 where
  pub regions : config.regions ≡ 16
  pub region_words : config.region_words ≡ 256
  pub mutators : config.mutators ≡ 3
  pub helpers : config.helpers ≡ 2
  pub reserve : config.reserve ≡ 2

-- The text is the summary of the history in which the three threads of this seed and of so many rounds run one after the
-- other, and no allocation is refused.
pub record IsChurned (seed count : ℕ) (out : List ℕ) : Type 0 where
  pub summary : Summary
  pub turns : SumsUpTurns seed count summary
  pub text : out ≡ line_text (Churn summary)
