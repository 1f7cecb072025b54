mod Beyond
pub mod Cited
mod CoreAnswers
mod Holding
mod Openings
mod PastValues
mod Played
mod Serving
mod Troupes
