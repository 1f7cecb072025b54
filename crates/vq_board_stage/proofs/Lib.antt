mod Asks
mod Binds
mod Chains
mod SeenMade
mod Shares
mod Waits
