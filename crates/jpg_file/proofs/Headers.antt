pub mod HeaderTaken
pub mod InForce
