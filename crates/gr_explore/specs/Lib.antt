pub mod Exploring
pub mod Alone
pub mod Leading
pub mod Trying
pub mod Fewest
pub mod Blaming
pub mod Keeping
pub mod Books
