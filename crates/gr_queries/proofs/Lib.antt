pub mod Copying
pub mod Waiting
pub mod Holding
pub mod FramesShown
pub mod ChannelsShown
pub mod Logs
pub mod NextLines
pub mod ConsoleOfLogs
mod StacksShown
