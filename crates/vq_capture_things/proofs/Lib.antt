mod MoreSteps
mod NoQueue
mod Noted
mod Pairs
mod RisingValues
