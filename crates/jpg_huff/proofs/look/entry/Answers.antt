use Rattle.std.proofs.Common.{rules, ◌≡◌, ◌⊎◌, ◌<◌, ◌≤◌, ◌+◌, ◌-◌, ◌*◌, ◌/◌, ◌^◌, ℕ, get_or, sym, ap, ◌∙◌, subst, arith, inl, inr}
use Rattle.jpg_spec.specs.Bits.{bits_of}
use Rattle.jpg_huff.specs.Tables.{symbol_codes}
use Rattle.jpg_huff.specs.Look.{LooksUp, found_of}
use Rattle.jpg_huff.proofs.LookedUp.{none_at_first, none_further, none_in_eight, code_in_eight}
use Rattle.jpg_huff.proofs.look.entry.Goals.{else-number-first-via-then-number-first+else-number-first-2, else-number-first-via-else-number-first}
use Rattle.jpg_huff.proofs.look.entry.Goals as goal

pub loop-at-init : goal.loop-at-init
loop-at-init c = none_at_first c.args.table.now c.args.byte

pub returns-then-number-first-2 : goal.returns-then-number-first-2
returns-then-number-first-2 c =
    let t = c.args.table.now in let at = c.loop-at.at in
    let n : c.from-number.result ≡ c.args.byte / 2 ^ (7 - at) = c.from-number.ensures in
    let e : 256 * c.from-then-number-first-2.result + c.from-then-number-first-2-2.result ≡ 256 * (at + 1) + c.from-then-number-first-2-2.result = omega (arith, c.from-then-number-first-2.ensures) in
    let low : get_or t.firsts at 0 ≤ c.args.byte / 2 ^ (7 - at) = omega (arith, n, c.if-number-first.true) in
    let high : c.args.byte / 2 ^ (7 - at) - get_or t.firsts at 0 < get_or t.counts at 0 = omega (arith, n, c.if-number-first-2.true, c.from.ensures) in
    subst (λ (k : ℕ). LooksUp (symbol_codes t) (bits_of 8 c.args.byte) (found_of k)) (sym e)
    (code_in_eight t at c.args.byte c.from-then-number-first-2-2.result (omega (arith, c.loop-at-test.true)) (search rules) low high
    (c.from-then-number-first-2-2.ensures ∙ ap (λ (k : ℕ). get_or t.symbols (get_or t.starts at 0 + (k - get_or t.firsts at 0)) 0) n))

pub loop-at-preserved : goal.loop-at-preserved
loop-at-preserved c =
    let t = c.args.table.now in let at = c.loop-at.at in
    let n : c.from-number.result ≡ c.args.byte / 2 ^ (7 - at) = c.from-number.ensures in
    let out : (c.args.byte / 2 ^ (7 - at) < get_or t.firsts at 0) ⊎ (get_or t.counts at 0 ≤ c.args.byte / 2 ^ (7 - at) - get_or t.firsts at 0) =
    elim c.else-number-first.branch [ else-number-first-via-then-number-first+else-number-first-2 w ↦ inr (omega (arith, n, w.if-number-first.true, w.if-number-first-2.false, w.from.ensures)) | else-number-first-via-else-number-first w ↦ inl (omega (arith, n, w.if-number-first.false)) ] in
    none_further t c.args.byte at (omega (arith, c.loop-at-test.true)) (search rules) c.loop-at.invariant out

pub returns : goal.returns
returns c = none_in_eight c.args.table.now c.args.byte c.loop-at.at (omega (arith, c.loop-at-test.false)) c.loop-at.invariant
