pub mod Cited
mod JudgedLines
mod SaidVerdicts
