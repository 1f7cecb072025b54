pub mod Cited
mod ChainValues
mod Growing
mod Looking
mod Payloads
