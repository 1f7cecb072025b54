mod BlockSteps
pub mod Cited
mod CompiledOrigins
mod CompiledScripts
mod EndedLines
mod KeptThreads
mod SilentForms
mod ToldLines
mod OriginLines
mod RenumberedLines
mod StepLines
