mod SameRuns
mod SameMachine
mod SameOrder
mod SameOutputs
