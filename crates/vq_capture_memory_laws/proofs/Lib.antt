mod FirstLacking
mod FoundUnseen
mod MemoryVerdictsSaid
mod ReachedPoints
mod SaidMemory
mod ToldPoints
