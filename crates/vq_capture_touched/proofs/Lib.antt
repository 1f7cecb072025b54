pub mod Cited
mod IndexLists
mod Listings
mod PartLines
mod PlaceLists
mod SameKinds
