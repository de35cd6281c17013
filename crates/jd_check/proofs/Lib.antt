pub mod Taking
pub mod Progressing
pub mod Events
pub mod EventByEvent
pub mod Hearing
pub mod Answering
