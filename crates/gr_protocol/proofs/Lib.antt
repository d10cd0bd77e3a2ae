mod Sources
mod Rows
mod Showing
mod ClientLemmas
mod Replying
mod SoFar
