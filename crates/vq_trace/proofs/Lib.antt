pub mod Cited
mod EventShapes
mod FirstInRange
mod FirstNames
mod FirstPlaces
mod FirstWord
mod Joined
mod LineCuts
mod Lookups
mod OtherWords
