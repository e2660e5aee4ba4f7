pub mod Checks
pub mod Histories
pub mod ScriptFronts
pub mod ScriptRest
pub mod ScriptRuns
pub mod TextFronts
pub mod TextRuns
pub mod Unknown
