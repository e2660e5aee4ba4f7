use Rattle.std.proofs.Common.{rules, ◌≡◌, ◌<◌, ◌≤◌, List, ℕ, ℤ, All, nat_abs, subst, pos, ◌*ℤ◌, slice_index, to_z, of_z, FitsSigned, sym, ap, ◌∙◌}
use Rattle.std.specs.Int.{w32}
use Rattle.std.proofs.lemmas.Int.{to_z-of_z}
use Rattle.jpg_spec_image.specs.Dct.{number_at, dequantised, inverse_dct}
use Rattle.jpg_color.proofs.OnlyFirst.{only_first, only_ten, flat_dequantised}
use Rattle.jpg_color.proofs.decode.blocks.samples_by.Goals as goal

pub returns-then-nonzero-lt2 : goal.returns-then-nonzero-lt2
returns-then-nonzero-lt2 c =
    let block = c.args.block.now in
    let quants = c.args.quants.now in
    let f : FitsSigned w32 c.first.result = search rules in
    let d : to_z w32 (of_z w32 c.first.result) ≡ number_at block 0 *ℤ pos (slice_index quants 0) = to_z-of_z w32 c.first.result f ∙ c.first.ensures.value in
    c.flat_lanes.ensures
    ∙ sym (ap inverse_dct (flat_dequantised quants block (to_z w32 (of_z w32 c.first.result)) d (only_first c.nonzero-nonzero.result block c.if-nonzero-lt2.true c.nonzero-nonzero.ensures)))

pub first_ten-requires : goal.first_ten-requires
first_ten-requires c = only_ten c.nonzero-nonzero.result c.args.block.now c.if-nonzero-lt1024.true c.nonzero-nonzero.ensures

pub corner-requires-clause-small : goal.corner-requires-clause-small
corner-requires-clause-small c = subst (λ (xs : List ℤ). All (λ x. nat_abs x ≤ 1024) xs) (sym c.first_ten.ensures.value) c.requires.small

pub corner-requires-clause-few : goal.corner-requires-clause-few
corner-requires-clause-few c =
    subst (λ (xs : List ℤ). (k : ℕ) → 10 ≤ k → k < 64 → number_at xs k ≡ pos 0) (sym c.first_ten.ensures.value)
    (only_ten c.nonzero-nonzero.result c.args.block.now c.if-nonzero-lt1024.true c.nonzero-nonzero.ensures)

pub returns-then-nonzero-lt1024 : goal.returns-then-nonzero-lt1024
returns-then-nonzero-lt1024 c =
    c.corner.ensures
    ∙ ap (λ (xs : List ℤ). inverse_dct (dequantised c.args.steps.now xs)) c.first_ten.ensures.value
    ∙ ap (λ (q : List ℕ). inverse_dct (dequantised q c.args.block.now)) c.requires.steps

pub block-requires : goal.block-requires
block-requires c = subst (λ (xs : List ℤ). All (λ x. nat_abs x ≤ 1024) xs) (sym c.numbers.ensures.value) c.requires.small

pub returns : goal.returns
returns c =
    c.block.ensures
    ∙ ap (λ (xs : List ℤ). inverse_dct (dequantised c.args.steps.now xs)) c.numbers.ensures.value
    ∙ ap (λ (q : List ℕ). inverse_dct (dequantised q c.args.block.now)) c.requires.steps
