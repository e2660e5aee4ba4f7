use Rattle.std.proofs.Common.{◌≡◌, ◌<◌, ◌/◌, ◌%◌, length, ℕ, List, ℤ, [], ◌∷◌, All, nat_abs, ◌≤◌, sym, subst, ◌∙◌, arith, rules}
use Rattle.std.specs.Int.{w16, w32}
use Rattle.std.proofs.lemmas.Int.{to_z-of_z}
use Rattle.std.proofs.lemmas.List.{length-set}
use Rattle.jpg_spec_image.specs.Dct.{column_at}
use Rattle.jpg_spec_image.specs.ForwardDct.{forward_dct}
use Rattle.jpg_dct.proofs.Eights.{seen}
use Rattle.jpg_dct.proofs.Natural.{number_set, rows_handed, number_fits, block_is, block_small}
use Rattle.jpg_dct.proofs.forward.fdct.Goals as goal

pub loop-n-preserved : goal.loop-n-preserved
loop-n-preserved c =
    let d = c.frequencies-f.result in
    let rows : List (List ℤ) = seen w16 d.v0 ∷ seen w16 d.v1 ∷ seen w16 d.v2 ∷ seen w16 d.v3 ∷ seen w16 d.v4 ∷ seen w16 d.v5 ∷ seen w16 d.v6 ∷ seen w16 d.v7 ∷ [] in
    let there : c.loop-n.n < length c.loop-n.out = omega (arith, c.loop-n.invariant.0, c.loop-n-test.true) in (
      length-set c.loop-n.out c.loop-n.n _ ∙ c.loop-n.invariant.0,
      number_set (λ k. column_at rows (k % 8) (k / 8)) c.loop-n.out c.loop-n.n _ there c.loop-n.invariant.1 (to_z-of_z w32 c.from.result (search rules) ∙ c.from.ensures ∙ number_fits c.args.samples.now d rows c.loop-n.n c.loop-n-test.true c.frequencies-f.ensures.all c.frequencies-f.ensures.at (rows_handed c.args.samples.now d c.frequencies-f.ensures.all c.frequencies-f.ensures.at)),
    )

pub returns-clause-value : goal.returns-clause-value
returns-clause-value c =
    let d = c.frequencies-f.result in
    let s : List ℕ = c.args.samples.now in
    block_is s c.loop-n.out (seen w16 d.v0 ∷ seen w16 d.v1 ∷ seen w16 d.v2 ∷ seen w16 d.v3 ∷ seen w16 d.v4 ∷ seen w16 d.v5 ∷ seen w16 d.v6 ∷ seen w16 d.v7 ∷ []) c.loop-n.n
    c.loop-n-test.false c.loop-n.invariant.0 c.loop-n.invariant.1 (rows_handed s d c.frequencies-f.ensures.all c.frequencies-f.ensures.at)

pub returns-clause-small : goal.returns-clause-small
returns-clause-small c =
    let d = c.frequencies-f.result in
    let s : List ℕ = c.args.samples.now in
    let is : c.loop-n.out ≡ forward_dct s =
    block_is s c.loop-n.out (seen w16 d.v0 ∷ seen w16 d.v1 ∷ seen w16 d.v2 ∷ seen w16 d.v3 ∷ seen w16 d.v4 ∷ seen w16 d.v5 ∷ seen w16 d.v6 ∷ seen w16 d.v7 ∷ []) c.loop-n.n
    c.loop-n-test.false c.loop-n.invariant.0 c.loop-n.invariant.1 (rows_handed s d c.frequencies-f.ensures.all c.frequencies-f.ensures.at)
    in
    subst (λ xs. All (λ x. nat_abs x ≤ 8192) xs) (sym is) (block_small s d c.frequencies-f.ensures.all c.frequencies-f.ensures.at)
