pub mod ToldOutputs
