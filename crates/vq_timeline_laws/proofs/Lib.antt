pub mod Cited
mod Binding
mod Completing
mod Freeing
mod Fresh
mod GivenPoints
mod InUse
mod ListParts
mod Places
mod Taking
