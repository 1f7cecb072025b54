mod Endings
mod NamedOrigins
mod RunRows
mod RunsEnded
mod TraceParts
