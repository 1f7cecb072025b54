pub mod Cited
mod Examples
mod FirstPairs
mod FullScopesShow
mod MemoryRows
mod SeenIsOrdered
mod SlowMemoryVerdicts
mod SlowSeen
