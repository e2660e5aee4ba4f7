-- Texts of scripts that are wrong (release 6b's wizard.txt).
use Rattle.std.specs.Prelude.{ℕ, List, codes}

-- components 0 and 1, and then a byte that no text has there
abbrev pub wrong_text : List ℕ
wrong_text = codes "0 1 x;"

-- a comma with no number after it
abbrev pub comma_text : List ℕ
comma_text = codes "0,1,;"

-- a number above 255
abbrev pub large_text : List ℕ
large_text = codes "0:256"
