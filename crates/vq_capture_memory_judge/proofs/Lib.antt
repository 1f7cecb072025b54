mod FedWhole
mod MemorySources
mod ReadLines
mod ToldLists
