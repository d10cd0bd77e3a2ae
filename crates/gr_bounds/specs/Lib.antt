pub mod CodeUses
pub mod CoveredContents
pub mod DeadContents
