pub mod CropPlanned
pub mod CroppedViews
