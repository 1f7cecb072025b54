pub mod Cited
mod FirstWord
mod LongLines
mod Opened
mod WordsGiven
