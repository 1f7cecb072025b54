mod Asked
mod Chain
mod Looks
mod Waits
