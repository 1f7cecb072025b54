mod FirstFaults
mod LinesRead
mod NameTables
mod NamesAlone
mod WordsRead
