use Rattle.std.proofs.Common.{ℕ, ◌+◌, ◌-◌, ◌/◌, ◌^◌, List, get_or, refl, subst, arith}
use Rattle.jpg_spec.specs.Codes.{Code}
use Rattle.jpg_huff.specs.Look.{Spots}
use Rattle.jpg_huff.specs.declared.look.Spotted.TheVariants as spotted
use Rattle.jpg_huff.proofs.LookedUp.{long_code}
use Rattle.jpg_huff.proofs.look.Decoder.long.Goals as goal

pub returns-then-number-first-2 : goal.returns-then-number-first-2
returns-then-number-first-2 c =
    let t = c.self.inside.table in let at = c.loop-at.at in
    let number : ℕ = c.peek-sixteen.result / 2 ^ (15 - at) in
    let symbol : ℕ = get_or t.symbols (get_or t.starts at 0 + (number - get_or t.firsts at 0)) 0 in
    subst (λ (codes : List Code). Spots codes c.args.bits.now (spotted.Symbol (at + 1) symbol)) c.self.view_is
    (long_code t c.args.bits.now at c.peek-sixteen.result number symbol (omega (arith, c.loop-at-test.true)) (omega (arith, c.len.ensures.value, c.if-len-ge16.true)) c.peek-sixteen.ensures.value refl (omega (arith, c.if-number-first.true)) (omega (arith, c.if-number-first-2.true, c.from.ensures)) refl)
