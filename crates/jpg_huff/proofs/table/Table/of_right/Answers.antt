use Rattle.std.proofs.Common.{◌≡◌, ◌∙◌, ap, sym, subst, arith, length, take}
use Rattle.jpg_spec.specs.Codes.{codes}
use Rattle.jpg_huff.specs.Index.{IsEncoder, IsIndexed}
use Rattle.jpg_huff.proofs.Made.{made_indexed}
use Rattle.jpg_huff.proofs.Tables.{codes_take}
use Rattle.jpg_huff.proofs.table.Table.of_right.Goals as goal

pub invariant_of-result : goal.invariant_of-result
invariant_of-result c =
    let bits = c.args.bits.now in
    let symbols = c.keep_symbols-symbols.result in
    let e : codes bits (take c.count_all-total.result symbols) ≡ codes bits symbols = ap (λ n. codes bits (take n symbols)) c.count_all-total.ensures ∙ codes_take bits symbols in
    let size : length symbols ≡ 256 = omega arith in
    record {
      indexed = subst (λ n. IsIndexed bits n c.in-Some.firsts c.count_shorter-starts.result c.find_limits.result) (sym size)
          (made_indexed bits c.in-Some.firsts c.count_shorter-starts.result c.find_limits.result (omega arith) (omega (arith, c.count_all-total.ensures)) c.in-Some.ensures.firsts c.count_shorter-starts.ensures c.find_limits.ensures);
      summed = c.count_all-total.ensures;
      encoded = subst (λ l. IsEncoder l c.encode.result) (sym e) c.encode.ensures;
    }
