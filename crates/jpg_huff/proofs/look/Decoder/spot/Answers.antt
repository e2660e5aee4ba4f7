use Rattle.std.proofs.Common.{List, Bool, subst, arith}
use Rattle.jpg_spec.specs.Codes.{Code}
use Rattle.jpg_huff.specs.Tables.{symbol_codes}
use Rattle.jpg_huff.specs.Look.{Spots}
use Rattle.jpg_huff.specs.declared.look.Spotted.TheVariants as spotted
use Rattle.jpg_huff.proofs.LookedUp.{look_eight}
use Rattle.jpg_huff.proofs.look.Decoder.spot.Goals as goal

pub returns-in-Some : goal.returns-in-Some
returns-in-Some c =
    subst (λ (codes : List Code). Spots codes c.args.bits.now (spotted.Symbol c.in-Some.found.length c.in-Some.found.symbol)) c.self.view_is
    (look_eight (symbol_codes c.self.inside.table) c.args.bits.now c.peek.result c.in-Some.found (omega arith) c.peek.ensures.value (c.in-Some.ensures (symbol_codes c.self.inside.table) c.self.invariant))

pub returns-in-None : goal.returns-in-None
returns-in-None c = subst (λ (b : List Bool). Spots c.args.self.now b c.long.result) c.copy.ensures c.long.ensures

pub returns-else-have-ge8 : goal.returns-else-have-ge8
returns-else-have-ge8 c = subst (λ (b : List Bool). Spots c.args.self.now b c.few.result) c.copy-else-have-ge8.ensures c.few.ensures
