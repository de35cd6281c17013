pub mod ReadBack
pub mod FreeBits
pub mod FreeStarts
pub mod StartBack
pub mod Parts
pub mod Assumed
pub mod ProblemWords
pub mod ProblemBack
