use Rattle.std.specs.Prelude.{◌≡◌, ℕ, ◌<◌, ◌+◌, sum, take, drop, slice_index}
use Rattle.jpg_spec.specs.Codes.{codes, codes_from, first_code}
use Rattle.jpg_huff.specs.Index.{entry_code}
use Rattle.jpg_huff.specs.New.{first_number, AreEntries, or_else}
use Rattle.jpg_huff.proofs.new.encode.Given as goal

abbrev pub invariant-loop-i : goal.invariant-loop-i
invariant-loop-i l =
    record {
      entries : AreEntries l.encoder;
      first : (symbol : ℕ) → symbol < 256
          → or_else (entry_code (slice_index l.encoder symbol)) (first_code (codes_from (l.i + 1) (first_number l.bits l.i) (drop l.i l.bits) (drop (sum (take l.i l.bits)) l.symbols)) symbol) ≡ first_code (codes l.bits l.symbols) symbol;
    }
