mod BehindPoints
pub mod Cited
mod Examples
mod FaultRows
mod Joined
mod MemberFacts
mod OrderRows
mod PathLaws
mod PointOrder
mod RisingReads
mod SlowRaces
mod SlowVerdicts
