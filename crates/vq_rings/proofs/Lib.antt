mod Berthing
mod Crossing
