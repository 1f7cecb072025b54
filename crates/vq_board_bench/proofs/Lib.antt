mod Below
mod Facts
mod HostRowSteps
mod OnePoint
mod RingSteps
mod Shares
mod ShelfRowSteps
