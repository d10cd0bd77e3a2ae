-- What type safety says of the states that runs of checked programs reach.
pub mod Standing
