pub mod Objects
pub mod Choosing
pub mod CopyStores
pub mod ClearedInTurn
pub mod EvacuationBegun
pub mod CanBegin
pub mod Reading
