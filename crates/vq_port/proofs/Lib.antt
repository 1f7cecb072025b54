mod Appending
mod Counting
mod Taking
mod Telling
