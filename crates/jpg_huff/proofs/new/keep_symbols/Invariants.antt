use Rattle.std.specs.Prelude.{◌≡◌, length, take}
use Rattle.jpg_huff.proofs.new.keep_symbols.Given as goal

abbrev pub invariant-loop-i : goal.invariant-loop-i
invariant-loop-i l =
    record {
      size : length l.symbols ≡ 256;
      done : take l.i l.symbols ≡ take l.i l.values;
    }
