mod Steps
mod Points
mod Finding
mod Rows
