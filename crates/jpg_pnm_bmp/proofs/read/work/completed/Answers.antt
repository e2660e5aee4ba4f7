use Rattle.std.proofs.Common.{◌≡◌, ◌++◌, ◌∷◌, [], ap, arith, drop, get_or, subst, sym, take, ◌∙◌}
use Rattle.std.proofs.lemmas.List.{drop-set-lt, length-set, take-append-drop, take_all, take_more, take_more_set}
use Rattle.jpg_pnm_bmp.proofs.read.work.completed.Goals as goal

pub loop-k-preserved : goal.loop-k-preserved
loop-k-preserved c =
    let head = c.loop-k.head in let k = c.loop-k.k in let held = c.args.held.now in
    let (long, same, last) = c.loop-k.invariant in (
      length-set head k _ ∙ long,
      take_more_set head k (get_or held k 0) (omega (arith, long, c.loop-k-test.true)) ∙ ap (λ l. l ++ get_or held k 0 ∷ []) same
          ∙ sym (take_more held k 0 (omega (arith, c.requires, c.loop-k-test.true))),
      drop-set-lt 53 head k _ c.loop-k-test.true ∙ last,
    )

pub returns : goal.returns
returns c =
    let head = c.loop-k.head in let k = c.loop-k.k in let held = c.args.held.now in
    let (long, same, last) = c.loop-k.invariant in
    let at : k ≡ 53 = omega (arith, c.loop-k-test.false, c.loop-k.auto.k-end) in
    let front : take 53 head ≡ take 53 held = subst (λ n. take n head ≡ take n held) at same in
    sym (take-append-drop 53 head) ∙ ap (λ l. l ++ drop 53 head) front ∙ ap (λ l. take 53 held ++ l) last ∙ ap (λ l. l ++ c.args.byte ∷ []) (take_all 53 held (omega (arith, c.requires)))
