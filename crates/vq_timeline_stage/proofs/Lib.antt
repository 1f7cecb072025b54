pub mod Cited
mod Asks
mod Watchables
