pub mod Cited
mod SlowFacts
mod Covering
mod ClockLaws
mod RowLaws
mod CommandPlaces
mod Marking
mod NeedChains
mod SortedLists
mod BothClocks
mod PartLaws
