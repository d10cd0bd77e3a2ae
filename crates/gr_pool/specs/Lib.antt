pub mod Goroutines
