pub mod Cited
mod EndedLines
mod FedLines
mod Sources
mod ToldLines
