pub mod FindingUnseen
pub mod MemoryJudgements
