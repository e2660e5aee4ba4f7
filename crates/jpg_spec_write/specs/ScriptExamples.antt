-- WORKED EXAMPLES of scripts: their texts, and their faults on small frames.
use Rattle.std.specs.Prelude.{ℕ, List, [], ◌∷◌, codes}
use Rattle.jpg_spec.specs.Geometry.{Frame}
use Rattle.jpg_spec.specs.Meaning.{picture_frame}
use Rattle.jpg_spec.specs.ExampleFiles.{gray_meaning}
use Rattle.jpg_spec.specs.Examples.{smallest}
use Rattle.jpg_spec_write.specs.Script.{Entry}
use Rattle.jpg_spec_write.specs.ScriptFaults.{of_one}

-- 8 by 8 samples of one component
abbrev pub gray_frame : Frame
gray_frame = picture_frame (gray_meaning smallest)

-- DC down to bit 1, and all AC
abbrev pub half_text : List ℕ
half_text = codes "0: 0-0,0,1; 0: 1-63,0,0;"

abbrev pub half_script : List Entry
half_script = of_one 0 0 0 0 1 ∷ of_one 0 1 63 0 0 ∷ []

-- the scan of a gray frame in any notation, with a comment and without a semicolon
abbrev pub short_text : List ℕ
short_text = codes " 0 # all of it"

abbrev pub short_script : List Entry
short_script = of_one 0 0 63 0 0 ∷ []
