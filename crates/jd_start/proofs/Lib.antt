pub mod Contents
pub mod FlagLists
pub mod NibbleTexts
pub mod PartByPart
pub mod Searches
