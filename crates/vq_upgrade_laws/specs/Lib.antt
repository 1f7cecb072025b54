pub mod Upgrades
