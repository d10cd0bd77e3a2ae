mod ListLemmas
mod NameLemmas
pub mod MachineLemmas
mod StepLemmas
mod EndLemmas
mod OfferLemmas
mod ChoiceLists
mod AloneLemmas
mod MoveLemmas
mod BlameLemmas
mod PageLemmas
mod ListingLemmas
mod BookLemmas
mod FitLemmas
mod LeakLemmas
