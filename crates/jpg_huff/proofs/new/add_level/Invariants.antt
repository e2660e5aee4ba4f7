use Rattle.std.specs.Prelude.{◌≡◌, ◌+◌, ◌-◌, length, drop}
use Rattle.jpg_spec.specs.Codes.{codes_at}
use Rattle.jpg_huff.specs.New.{AreEntries, HaveFirstCodes}
use Rattle.jpg_huff.proofs.new.add_level.Given as goal

abbrev pub invariant-loop-i : goal.invariant-loop-i
invariant-loop-i l =
    record {
      due : l.number ≡ l.first + l.i;
      entries : AreEntries l.encoder;
      leads : HaveFirstCodes l.fn.encoder (codes_at (length l.symbols) l.size l.first l.symbols) l.encoder (codes_at (length l.symbols - l.i) l.size l.number (drop l.i l.symbols));
    }
