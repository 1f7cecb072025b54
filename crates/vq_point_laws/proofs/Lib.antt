pub mod Cited
mod Binds
mod Carriers
mod Completions
mod Freeings
mod HeldPoints
mod NewTimelines
mod PartedLists
mod PendingLaws
mod PointEvents
mod PointFacts
mod PointHistories
mod PointTakes
mod PointWords
mod Takes
mod TimelineLists
