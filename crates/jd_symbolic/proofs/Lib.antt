pub mod OperationGates
pub mod Stepping
pub mod OnBits
pub mod Examples
pub mod Standing
