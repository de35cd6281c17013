pub mod Assumed
pub mod Inputs
pub mod Fields
pub mod FieldsOfNibbles
pub mod Examples
