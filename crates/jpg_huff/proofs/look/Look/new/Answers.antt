use Rattle.std.proofs.Common.{rules, arith}
use Rattle.jpg_huff.specs.Tables.{symbol_codes}
use Rattle.jpg_huff.proofs.LookedUp.{look_more}
use Rattle.jpg_huff.proofs.look.Look.new.Goals as goal

pub returns : goal.returns
returns c = record { each = λ n h. c.loop-byte.invariant.1 n (omega (arith, h, c.loop-byte-test.false)) }

pub loop-byte-preserved : goal.loop-byte-preserved
loop-byte-preserved c =
    (search rules, look_more (symbol_codes c.args.table.now) c.loop-byte.entries c.loop-byte.byte c.entry.result (omega (arith, c.loop-byte.invariant.0, c.loop-byte-test.true)) c.loop-byte.invariant.1 c.entry.ensures)
