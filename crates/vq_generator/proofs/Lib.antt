pub mod Cited
mod GeneratedRows
mod GeneratedScripts
mod RoundLists
mod ShortTexts
