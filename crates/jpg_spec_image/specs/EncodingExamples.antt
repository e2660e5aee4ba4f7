-- IMAGES OF THE WORKED EXAMPLES, what is asked for, and the results.
use Rattle.std.specs.Prelude.{List, ◌∷◌, ◌++◌, ℤ, negsuc}
use Rattle.jpg_spec.specs.Elements.{zeros}

-- the frequencies of samples from 0 to 63 after the first row
abbrev pub ramp_down : List ℤ
ramp_down = negsuc 1165 ∷ zeros 15 ++ negsuc 121 ∷ zeros 15 ++ negsuc 35 ∷ zeros 15 ++ negsuc 8 ∷ zeros 7
