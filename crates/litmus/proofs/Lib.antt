-- Lemmas on runs of small programs.
pub mod EndLemmas
