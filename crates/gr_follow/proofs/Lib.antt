pub mod StandLemmas
mod MoveLemmas
