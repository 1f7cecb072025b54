pub mod FirstLines
pub mod NameTables
pub mod Outcomes
pub mod PlanIndex
pub mod Shapes
pub mod TurnSteps
pub mod Words
