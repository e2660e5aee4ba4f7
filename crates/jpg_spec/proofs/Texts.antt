pub mod TextRuns
pub mod TextsParsed
pub mod TextsRead
