-- Which bytes are a trace together with an answer and a history that somebody claims for it.
use Rattle.std.specs.Prelude.{ℕ, ◌≡◌, ◌≤◌, List, codes, length}
use Rattle.std.specs.List.{flat_map, AllByRecursion}
use Rattle.shen_graph.specs.declared.command.Command.{Command}
use Rattle.shen_graph.specs.History.{Entry}
use Rattle.heap_words.specs.declared.config.Config.{Config}
use Rattle.heap_words.specs.declared.schedule.Item.{Item}
use Rattle.trace_reading.specs.Grammar.{most_bytes, Reads, IsSameTrace}
use Rattle.trace_text.specs.History.{entry_line}
use Rattle.trace_text.specs.Entries.{IsClaim}
use Rattle.trace_text.specs.LineCuts.{IsCutAt}

-- The bytes before the first line `answer` are this trace.
pub record HasTrace (bytes : List ℕ) (version : ℕ) (config : Config) (scripts : List (List Command)) (items : List Item) (behind : List ℕ) : Type 0 where
  pub trace : List ℕ
  pub cut : IsCutAt (codes "answer") bytes trace behind
  pub reads : Reads trace version config scripts items

-- Behind the line `answer` the bytes are the lines of this body, of which none is `history`, the line `history`, and to their end
-- lines of these entries.
pub record HasClaims (version threads : ℕ) (bytes body : List ℕ) (entries : List Entry) : Type 0 where
  pub claimed : List ℕ
  pub cut : IsCutAt (codes "history") bytes body claimed
  pub spelled : claimed ≡ flat_map entry_line entries
  pub in_range : AllByRecursion (IsClaim version threads) entries

-- The bytes are a trace, the line `answer`, a body, and behind it a history of the trace's threads.
pub record IsPair (bytes : List ℕ) (version : ℕ) (config : Config) (scripts : List (List Command)) (items : List Item) (body : List ℕ) (entries : List Entry) : Type 0 where
  pub behind : List ℕ
  pub trace : HasTrace bytes version config scripts items behind
  pub claims : HasClaims version config.mutators behind body entries
  pub short : length bytes ≤ most_bytes

-- two readings are of one trace, the same body and the same entries
pub record IsSamePair (v : ℕ) (config : Config) (scripts : List (List Command)) (items : List Item) (body : List ℕ) (entries : List Entry) (w : ℕ) (other_config : Config) (other_scripts : List (List Command)) (other_items : List Item) (other : List ℕ) (other_entries : List Entry) : Type 0 where
  pub trace : IsSameTrace v config scripts items w other_config other_scripts other_items
  pub text : body ≡ other
  pub history : entries ≡ other_entries
