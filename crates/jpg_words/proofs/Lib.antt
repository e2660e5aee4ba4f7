pub mod WordsAsked
