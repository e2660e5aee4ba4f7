use Rattle.std.proofs.Common.{◌≡◌, true, ◌∷◌, ◌&&◌, sym, ap, ◌∙◌}
use Rattle.jpg_spec.specs.Lists.{are_equal}
use Rattle.jpg_huff.specs.Tables.{table_of}
use Rattle.jpg_base.proofs.Equal.{pointwise-are_equal}
use Rattle.jpg_file.proofs.write.tables.is_same.Goals as goal

pub returns-then-eq : goal.returns-then-eq
returns-then-eq c =
    let old = table_of c.args.old.now in
    let new = table_of c.args.table.now in
    let xs = c.as_slice.result.now in
    let ys = c.as_slice-2.result.now in
    let x : xs ≡ 0 ∷ old.counts = c.as_slice.ensures.value ∙ c.counted.ensures.value in
    let y : ys ≡ 0 ∷ new.counts = c.as_slice-2.ensures.value ∙ c.counted-2.ensures.value in
    let counts : are_equal old.counts new.counts ≡ true = sym (c.eq.ensures ∙ pointwise-are_equal xs ys ∙ ap (λ l. are_equal l ys) x ∙ ap (are_equal (0 ∷ old.counts)) y) ∙ c.if-eq.true in
    c.eq-then-eq.ensures ∙ pointwise-are_equal c.symbols.result.now c.symbols-then-eq.result.now ∙ ap (λ l. are_equal l c.symbols-then-eq.result.now) c.symbols.ensures ∙ ap (are_equal old.symbols) c.symbols-then-eq.ensures
    ∙ ap (λ b. b && are_equal old.symbols new.symbols) (sym counts)
