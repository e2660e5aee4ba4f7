use Rattle.std.proofs.Common.{List, refl, subst, arith}
use Rattle.jpg_spec.specs.Codes.{Code}
use Rattle.jpg_huff.specs.Tables.{symbol_codes}
use Rattle.jpg_huff.specs.Look.{Spots}
use Rattle.jpg_huff.specs.declared.look.Spotted.TheVariants as spotted
use Rattle.jpg_huff.proofs.LookedUp.{look_few}
use Rattle.jpg_huff.proofs.look.Decoder.few.Goals as goal

pub returns-then-found-have : goal.returns-then-found-have
returns-then-found-have c =
    subst (λ (codes : List Code). Spots codes c.args.bits.now (spotted.Symbol c.in-Some.found.length c.in-Some.found.symbol)) c.self.view_is
    (look_few (symbol_codes c.self.inside.table) c.args.bits.now c.peek-number.result _ c.len-have.result c.in-Some.found c.len-have.ensures.value (omega (arith, c.len-have.ensures.value, c.requires)) c.peek-number.ensures.value refl
    (c.in-Some.ensures (symbol_codes c.self.inside.table) c.self.invariant) (omega arith))
