pub mod RunLines
pub mod RecordedSince
pub mod StepsBack
pub mod RunsAsPressed
pub mod ScriptOutput
