pub mod PlaceLemmas
pub mod StoodLemmas
pub mod FactLemmas
mod AskLemmas
mod NameLemmas
mod WriterLemmas
mod SourceLemmas
mod ValueLemmas
mod MovedLemmas
