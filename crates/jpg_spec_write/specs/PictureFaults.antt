-- The names of the faults of a picture that can't be written as it is asked for.
use Rattle.std.specs.Prelude.{ℕ, List, codes}
use Rattle.jpg_spec_write.specs.declared.picture_fault.PictureFault.{PictureFault}
use Rattle.jpg_spec_write.specs.declared.picture_fault.PictureFault.TheVariants.{GrayColour, GrayFactors, FractionalFactors, TooManyBlocks, ScriptComponent, ScriptMcu, ScriptBand, ScriptIncomplete, CropOutside}

abbrev pub picture_name : PictureFault → List ℕ
picture_name GrayColour = codes "GrayColour"
picture_name GrayFactors = codes "GrayFactors"
picture_name (FractionalFactors component) = codes "FractionalFactors"
picture_name TooManyBlocks = codes "TooManyBlocks"
picture_name (ScriptComponent entry) = codes "ScriptComponent"
picture_name (ScriptMcu entry) = codes "ScriptMcu"
picture_name (ScriptBand entry) = codes "ScriptBand"
picture_name (ScriptIncomplete component coefficient bit) = codes "ScriptIncomplete"
picture_name CropOutside = codes "CropOutside"
