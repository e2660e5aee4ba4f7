-- A line whose pixels are reversed one after another, from the first one on.
use Rattle.std.specs.Prelude.{ℕ, List, ◌++◌, take, drop}
use Rattle.jpg_spec_image.specs.ImageText.{turned_round}

-- those before a place are reversed, and then the rest
abbrev pub turned_from : List ℕ → ℕ → List ℕ
turned_from line at = take at line ++ turned_round (drop at line)
