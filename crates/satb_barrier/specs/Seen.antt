-- What callers know of a machine that records an address.
use Rattle.std.specs.Prelude.{ℕ}
use Rattle.heap_words.specs.declared.config.Config.{Config}
use Rattle.satb_barrier.specs.declared.spot.RememberSpot.{RememberSpot}
use Rattle.satb_barrier.specs.declared.remember.Remember.{Remember}

-- who records which address, in which heap
pub record Recorder : Type 0 where
  pub config : Config
  pub mutator : ℕ
  pub address : ℕ

abbrev pub recorder_of : Remember → Recorder
recorder_of remember = record { config = remember.config; mutator = remember.mutator; address = remember.address }

-- where it stands
abbrev pub spot_of : Remember → RememberSpot
spot_of remember = remember.spot
