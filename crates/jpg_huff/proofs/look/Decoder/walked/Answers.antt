use Rattle.std.proofs.Common.{◌≡◌, ◌+◌, ◌++◌, ◌∷◌, [], false, List, Bool, get_or, subst, arith}
use Rattle.std.specs.List.{Contains}
use Rattle.jpg_huff.specs.Walk.{BeginsNoCode}
use Rattle.jpg_spec.specs.Codes.{Code}
use Rattle.jpg_huff.specs.Tables.{symbol_codes}
use Rattle.jpg_huff.specs.Look.{Spots}
use Rattle.jpg_huff.specs.declared.look.Spotted.TheVariants as spotted
use Rattle.jpg_huff.proofs.LookedUp.{walk_symbol, walk_none, walk_part}
use Rattle.jpg_huff.proofs.look.Decoder.walked.Goals as goal

pub returns-in-Symbol : goal.returns-in-Symbol
returns-in-Symbol c =
    let i = c.loop-i.i in let t = c.self.inside.table in let bits = c.args.bits.now in
    let b : c.bit.result ≡ get_or bits i false = c.bit.ensures in
    subst (λ (codes : List Code). Spots codes bits (spotted.Symbol (i + 1) c.in-Symbol.symbol)) c.self.view_is
    (walk_symbol t bits c.loop-i.walk i c.in-Symbol.symbol (omega (arith, c.loop-i-test.true, c.len-i-end.ensures.value)) c.loop-i.invariant.0
    (subst (λ (x : Bool). Contains (symbol_codes t) (c.loop-i.walk ++ x ∷ [], c.in-Symbol.symbol)) b c.in-Symbol.ensures.0))

pub returns-in-NoCode : goal.returns-in-NoCode
returns-in-NoCode c =
    let i = c.loop-i.i in let t = c.self.inside.table in let bits = c.args.bits.now in
    let b : c.bit.result ≡ get_or bits i false = c.bit.ensures in
    subst (λ (codes : List Code). Spots codes bits (spotted.NoCode (i + 1))) c.self.view_is
    (walk_none (symbol_codes t) bits c.loop-i.walk i (omega (arith, c.loop-i-test.true, c.len-i-end.ensures.value)) c.loop-i.invariant.0 c.loop-i.invariant.1
    (subst (λ (x : Bool). BeginsNoCode (symbol_codes t) (c.loop-i.walk ++ x ∷ [])) b c.in-NoCode.ensures.0))

pub returns : goal.returns
returns c =
    subst (λ (codes : List Code). Spots codes c.args.bits.now spotted.Part) c.self.view_is
    (walk_part c.self.inside.table c.args.bits.now c.loop-i.i (omega (arith, c.loop-i-test.false, c.len-i-end.ensures.value)) c.loop-i.invariant.1)
