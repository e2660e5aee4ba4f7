-- Terms of the laws on encoded images. No definition uses them.
use Rattle.std.specs.Prelude.{ℕ, ◌<◌, List, All}

-- samples of eight bits
abbrev pub AreSamples : List ℕ → Type 0
AreSamples samples = All (λ s. s < 256) samples
