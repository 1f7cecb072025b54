pub mod RunFacts
pub mod SlowAnswers
