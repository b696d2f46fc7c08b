pub mod AnswerLemmas
mod CanonicalLemmas
pub mod Rewritten
pub mod ReadReplies
pub mod ReadEntries
pub mod CutLines
pub mod Wanted
pub mod PairLaws
pub mod SmallGraphs
pub mod LinesOfTraces
pub mod AnswerLines
pub mod MadePairs
pub mod LineKinds
pub mod TakenTraces
