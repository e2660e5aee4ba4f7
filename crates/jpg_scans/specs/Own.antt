-- Scans of default scripts (T.81, B.2.3, G.1.1.1).
use Rattle.std.specs.Prelude.{ℕ, List}
use Rattle.jpg_spec_write.specs.Script.{Entry}
use Rattle.jpg_scans.specs.declared.own.Band.{Band}

-- a scan of these components
abbrev pub with_band : List ℕ → Band → Entry
with_band components band = record { components = components; ss = band.ss; se = band.se; ah = band.ah; al = band.al }
