-- Switches as their definitions have them.
use Rattle.std.specs.Prelude.{ℕ, List}
use Rattle.std.specs.Borrow.{Bor}
use Rattle.jpg_spec_words.specs.Switches.{Switch}
use Rattle.jpg_spec_words.specs.declared.switch.Purpose.{Purpose}

abbrev pub switch_view : Bor (List ℕ) × ℕ × Purpose → Switch
switch_view s = record { name = s.0.now; shortest = s.1; purpose = s.2 }
