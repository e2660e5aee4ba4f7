use Rattle.std.proofs.Common.{◌≡◌, ◌<◌, ◌≤◌, ◌+◌, ◌-◌, List, ℕ, get_or, subst, arith}
use Rattle.std.proofs.lemmas.Bool.Decides.{nat_tests}
use Rattle.jpg_spec.specs.Bits.{bits_of}
use Rattle.jpg_spec.specs.Codes.{Code}
use Rattle.jpg_spec.specs.Parts.{BeginsCode}
use Rattle.jpg_huff.proofs.Steps.{begins_code}
use Rattle.jpg_huff.proofs.Tables.{codes_kept}
use Rattle.jpg_huff.proofs.look.Decoder.begins.Goals as goal

pub returns-then-behind-number : goal.returns-then-behind-number
returns-then-behind-number c = λ e.
    let t = c.self.inside.table in let i = c.args.length - 1 in
    let lt : c.args.number < get_or t.limits i 0 = grind (arith, nat_tests, e) in
    let le : get_or t.firsts i 0 + get_or t.counts i 0 ≤ c.args.number = omega (arith, c.if-behind-number.true, c.from.ensures) in
    let b = begins_code t.symbols t.indexed i c.args.number (omega (arith, c.requires.few)) le lt in
    let n : i + 1 ≡ c.args.length = omega (arith, c.requires.some) in
    let P : List Code → Type 0 = λ l. BeginsCode l (bits_of (i + 1) c.args.number) in
    let Q : ℕ → Type 0 = λ m. BeginsCode c.args.self.now (bits_of m c.args.number) in
    subst Q n (subst P c.self.view_is (subst P (codes_kept t) b))
