mod Growing
mod ScriptLemmas
mod EndLemmas
mod WrittenLemmas
mod ScheduleLemmas
mod OpenLemmas
mod BlameLemmas
