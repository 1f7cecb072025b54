pub mod PastWatches
pub mod PruningWatches
