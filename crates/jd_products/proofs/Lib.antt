pub mod SignedProducts
pub mod SignedRows
pub mod WholeRoots
mod Examples
