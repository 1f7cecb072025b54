pub mod AccessKinds
pub mod Seen
pub mod UnseenWrites
pub mod MemoryVerdicts
pub mod SlowMemory
pub mod FullScopes
