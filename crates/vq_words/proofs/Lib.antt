mod AllWords
mod ByWord
mod FewRounds
mod Rows
mod Strays
