pub mod Cited
mod Completing
mod Finding
mod Parts
mod Removing
mod Runs
mod Slots
mod Taking
mod Uses
mod Values
