pub mod CodeLemmas
pub mod ValueLemmas
pub mod GoroutineLemmas
pub mod Writing
mod WaitLemmas
