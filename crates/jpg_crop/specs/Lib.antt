pub mod CropPlanned
pub mod CroppedBlocks
