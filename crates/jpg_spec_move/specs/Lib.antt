pub mod Cropped
pub mod ExampleFiles
pub mod Examples
pub mod Laws
pub mod Moved
pub mod Moves
pub mod Transforms
