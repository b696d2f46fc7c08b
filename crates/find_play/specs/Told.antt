-- What the lines of a test say, as far as they are read.
use Rattle.std.specs.Prelude.{ℕ, List, [], ◌∷◌, codes, Option, None}
use Rattle.find_play.specs.declared.claim.Claim.{Claim}
use Rattle.find_play.specs.declared.statement.Statement.{Statement}
use Rattle.find_play.specs.declared.test.Bounds.{Bounds}
use Rattle.find_play.specs.declared.test.Place.{Place}
use Rattle.find_play.specs.declared.draft.Block.{Block}
use Rattle.find_play.specs.declared.draft.Draft.{Draft}

pub record Told : Type 0 where
  -- the version of the test
  pub version : ℕ
  -- how many threads there are to be
  pub threads : ℕ
  -- once their line came
  pub bounds : Option Bounds
  -- the names of the notes, and of the places, of which the first is `hub`
  pub notes : List (List ℕ)
  pub place_names : List (List ℕ)
  -- the places behind the hub
  pub places : List Place
  -- the names of the roots of the thread that began last; the first is `hub`
  pub roots : List (List ℕ)
  -- the programs of the threads that began
  pub programs : List (List Statement)
  -- the blocks that began and did not end, the innermost last
  pub blocks : List Block
  pub claims : List Claim

-- before the first line behind the head
abbrev pub untold : (version threads : ℕ) → Told
untold version threads = record { version = version; threads = threads; bounds = None; notes = []; place_names = codes "hub" ∷ []; places = []; roots = codes "hub" ∷ []; programs = []; blocks = []; claims = [] }

-- what a draft holds
abbrev pub told_in : Draft → Told
told_in draft = record { version = draft.version; threads = draft.threads; bounds = draft.bounds; notes = draft.notes; place_names = draft.place_names; places = draft.places.items; roots = draft.roots; programs = draft.programs.items; blocks = draft.open.items; claims = draft.claims.items }
