mod Suffixes
mod Ties
