mod Lent
mod Running
mod Starting
