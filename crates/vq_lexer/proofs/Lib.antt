mod Blanks
pub mod Cited
mod DigitsRead
mod FirstFound
mod FirstLine
mod Marks
mod PlainParts
mod PlainWords
mod WordsCut
