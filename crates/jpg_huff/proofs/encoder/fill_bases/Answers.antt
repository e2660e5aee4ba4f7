use Rattle.std.proofs.Common.{◌≡◌, ◌+◌, ◌*◌, ◌-◌, ◌/◌, ◌%◌, ◌^◌, sym, ap, ◌∙◌, arith, rules}
use Rattle.jpg_huff.specs.Tables.{symbol_codes}
use Rattle.jpg_huff.specs.Encoder.{IsBase}
use Rattle.jpg_huff.proofs.Encoded.{both_more}
use Rattle.jpg_huff.proofs.encoder.fill_bases.Goals as goal

pub loop-i-preserved : goal.loop-i-preserved
loop-i-preserved c =
    let codes = symbol_codes c.args.table.now in
    let i = c.loop-i.i in
    let code = c.written-code.result in
    let e : i % 256 % 16 ≡ i % 16 = omega arith in
    let here : IsBase codes (i % 256) (i / 256) c.base_of.result (code.length + i % 16) = record {
      code = code.bits;
      count = code.length;
      short = c.written-code.ensures.short;
      fits = c.written-code.ensures.fits;
      first = c.written-code.ensures.first;
      number = c.base_of.ensures ∙ ap (λ s. code.bits * 2 ^ s + i / 256 * (2 ^ s - 1)) (sym e);
      all = ap (λ s. code.length + s) (sym e);
    } in (
      search rules,
      search rules,
      both_more (λ n. IsBase codes (n % 256) (n / 256)) c.loop-i.bases c.loop-i.lengths i c.base_of.result (code.length + i % 16) (omega (arith, c.loop-i.invariant.0, c.loop-i-test.true)) (omega (arith, c.loop-i.invariant.1, c.loop-i-test.true)) c.loop-i.invariant.2 here,
    )
