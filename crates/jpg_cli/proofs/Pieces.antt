pub mod FirstRead
pub mod FirstShown
pub mod FrontShown
pub mod InputMost
pub mod InputShown
