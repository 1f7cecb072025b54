pub mod Cited
mod BlockLists
mod Bringings
mod NumberLanes
mod Numbered
mod PlaceGroups
mod Cleared
mod Joined
mod Leveled
mod LaneBits
mod LeftLanes
mod RaisedLines
