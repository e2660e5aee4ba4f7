use Rattle.std.proofs.Common.{◌≡◌, ◌∙◌, ◌<◌, ◌≤◌, get_or, sym, ap, arith, ⊎_elim}
use Rattle.std.proofs.lemmas.Bool.{cases_lt}
use Rattle.std.proofs.lemmas.List.{length-set, get_or-set_other}
use Rattle.std.proofs.lemmas.Grind.{get_or-set_at}
use Rattle.jpg_huff.specs.Tables.{table_of}
use Rattle.jpg_prog_read.proofs.TableCopies.{counts_same, same_codes, no_fault}
use Rattle.jpg_prog_read.proofs.table_copy.copy_of.Goals as goal

pub loop-i-preserved : goal.loop-i-preserved
loop-i-preserved c =
    let l = c.loop-i in
    let counts = (table_of c.args.table.now).counts in
    let here : c.count.result ≡ get_or counts l.i 0 = c.count.ensures ∙ ap (λ n. get_or counts n 0) (omega arith) in (
      length-set l.counts l.i c.count.result ∙ l.invariant.0,
      λ k h.
          ⊎_elim
          (λ (less : k < l.i). get_or-set_other l.counts l.i k c.count.result 0 (λ e. omega (arith, e, less)) ∙ l.invariant.1 k less)
          (λ (more : l.i ≤ k). (let e : k ≡ l.i = omega (arith, h, more) in get_or-set_at l.counts l.i k c.count.result 0 e (omega (arith, l.invariant.0, c.loop-i-test.true)) ∙ here ∙ ap (λ n. get_or counts n 0) (sym e)))
          (cases_lt k l.i),
    )

pub unreachable-requires : goal.unreachable-requires
unreachable-requires c =
    let l = c.loop-i in let t = c.args.table.now in
    let counts = counts_same t l.counts l.invariant.0 (λ k h. l.invariant.1 k (omega (arith, h, c.loop-i-test.false))) in
    no_fault t l.counts c.symbols.result.now c.in-Err.field-0 counts c.symbols.ensures c.in-Err.ensures

pub returns : goal.returns
returns c =
    let l = c.loop-i in let t = c.args.table.now in
    let counts = counts_same t l.counts l.invariant.0 (λ k h. l.invariant.1 k (omega (arith, h, c.loop-i-test.false))) in
    same_codes t c.in-Ok.table l.counts c.symbols.result.now counts c.symbols.ensures c.in-Ok.ensures
