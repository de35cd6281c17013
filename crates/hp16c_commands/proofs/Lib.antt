pub mod AnswerEnds
pub mod AnswersGiven
pub mod Generated
pub mod InTwoParts
pub mod Answered
pub mod CutShort
pub mod AfterProblem
mod Examples
