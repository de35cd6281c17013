pub mod Comparing
pub mod RaisedWords
mod Examples
