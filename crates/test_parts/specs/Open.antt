-- Machines that may take bits.
use Rattle.std.specs.Prelude.{◌≡◌, Bool, List, replicate}
use Rattle.jpg_spec.specs.Elements.{zeros}
use Rattle.jpg_spec.specs.Geometry.{padded_blocks}
use Rattle.jpg_coefs.specs.Picture.{Picture}
use Rattle.jpg_coefs.specs.Machine.{Interval}
use Rattle.jpg_coefs.specs.declared.machine.Taken.{Taken}
use Rattle.jpg_coefs.specs.declared.machine.Taken.TheVariants.{More, Units, IntervalDone, Fault}
use Rattle.jpg_seq.specs.declared.reader.SeqReader.{SeqReader}
use Rattle.jpg_seq.specs.Reader.{RepresentsSeqScan}

abbrev pub IsOpen : SeqReader → Picture → Type 0
IsOpen m now = (i : Interval) × (bits : List Bool) × RepresentsSeqScan m i bits now

-- after a result it may take more only where the interval goes on
abbrev pub GoesOn : Taken → SeqReader → Picture → Type 0
GoesOn More m now = IsOpen m now
GoesOn Units m now = Unit {0}
GoesOn IntervalDone m now = Unit {0}
GoesOn (Fault fault) m now = Unit {0}

-- a picture whose blocks are zero
abbrev pub IsBlank : Picture → Type 0
IsBlank now = now.blocks ≡ replicate (padded_blocks now.frame) (zeros 64)
