pub mod Cited
mod Firsts
mod PlanFacts
mod LaneFacts
mod Counts
mod Keeps
mod TimelineLaws
mod Carriers
mod WaitingPoints
mod ChainNexts
