use Rattle.std.proofs.Common.{refl, sym}
use Rattle.jpg_seq.proofs.reader.put_coder.Goals as goal

pub returns : goal.returns
returns c = (
  record { dc = c.new-2.result; ac = c.new.result },
  refl,
  record { dc = c.in-Some-Some.dc.now; in_dc = sym c.in-Some-Some.ensures; ac = c.in-Some-Some.ac.now; in_ac = sym c.in-Some-Some.ensures'; dc_codes = c.new-2.ensures; ac_codes = c.new.ensures },
)
