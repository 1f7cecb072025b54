mod AccessLanes
pub mod Cited
mod ClockLaws
mod EdgeCauses
mod FoundRaces
mod LaneEdges
mod PointKinds
mod ReleasingLines
mod RisingSteps
mod SiteNumbers
mod StageNumbers
mod StandingAccesses
mod Taking
mod TidyReads
