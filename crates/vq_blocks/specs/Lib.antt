pub mod BlockForms
pub mod Blocks
pub mod BlockFaults
pub mod BlockReading
pub mod Compiled
pub mod HostsMachine
pub mod HostsRuns
