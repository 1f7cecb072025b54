pub mod Cited
mod BatchCounts
mod LaneNext
mod TableLaws
mod LaneLaws
mod TimelineTables
mod NoteLaws
mod OtherChains
mod OpeningLaws
