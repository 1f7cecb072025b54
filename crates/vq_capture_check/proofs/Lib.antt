pub mod Cited
mod Forgotten
mod KeptOrders
mod KindsKnown
mod Lists
mod LooseFound
mod LoweredLines
mod Passes
mod PrunedClocks
mod SignalsLeft
mod SitesAdded
mod StageSets
