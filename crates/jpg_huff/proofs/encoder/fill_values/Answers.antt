use Rattle.std.proofs.Common.{◌/◌, ◌%◌, pos, arith, rules, subst, ◌∙◌}
use mir.Syntax.{w32}
use mir.Val.{SFits}
use Rattle.std.proofs.lemmas.Int.{to_z-of_z}
use Rattle.std.specs.Prelude.{◌-ℤ◌}
use Rattle.jpg_huff.specs.Tables.{symbol_codes}
use Rattle.jpg_huff.specs.Encoder.{IsValueEntry}
use Rattle.jpg_huff.proofs.Encoded.{both_more}
use Rattle.jpg_huff.proofs.encoder.fill_values.Goals as goal

pub returns : goal.returns
returns c = λ n h. c.loop-i.invariant.2 n (omega (arith, h, c.loop-i-test.false))

pub loop-i-preserved : goal.loop-i-preserved
loop-i-preserved c =
    let codes = symbol_codes c.args.table.now in
    let i = c.loop-i.i in
    let e = c.value_entry-bits.result in
    let f : SFits w32 c.lowered.result = search rules in (
      search rules,
      search rules,
      both_more (λ n x y. IsValueEntry codes (n / 64) (pos (n % 64) -ℤ pos 32) x y) c.loop-i.values c.loop-i.counts i e.0 e.1 (omega (arith, c.loop-i.invariant.0, c.loop-i-test.true)) (omega (arith, c.loop-i.invariant.1, c.loop-i-test.true))
          c.loop-i.invariant.2 (subst (λ v. IsValueEntry codes (i / 64) v e.0 e.1) (to_z-of_z w32 c.lowered.result f ∙ c.lowered.ensures.value) c.value_entry-bits.ensures),
    )
