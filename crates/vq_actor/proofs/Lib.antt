mod Blocked
pub mod Cited
mod Comparing
mod Doable
mod Fitting
mod HostService
mod HostTurns
mod Keeping
mod LastTasks
mod ProgramsMade
mod QueueCounts
mod Resolved
mod Rounds
mod Seeking
mod Slots
mod Taking
mod TurnSteps
