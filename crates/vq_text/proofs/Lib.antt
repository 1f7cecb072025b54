pub mod Cited
mod HexLines
mod JoinedTurns
mod PrintedLines
mod PrintedSteps
mod ShortNumerals
mod TextSizes
