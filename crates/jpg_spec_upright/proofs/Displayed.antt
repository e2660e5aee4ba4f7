-- Blocks are displayed at the distances from the sides that the orientation names.
use Rattle.std.proofs.Common.{◌≡◌, ℕ, zero, suc, ◌-◌, ◌<◌, ◌≤◌, Bool, true, false, cond, List, refl, ap, ◌∙◌, arith, ℤ}
use Rattle.std.specs.Prelude.{nat_lt}
use Rattle.jpg_spec.specs.Meaning.{Meaning}
use Rattle.jpg_spec.specs.WholeBlocks.{HasWholeBlocks}
use Rattle.jpg_spec_move.specs.Moves.{whole_columns, whole_rows}
use Rattle.jpg_spec_move.specs.Transforms.{changed_columns, changed_rows, mirrors_across, mirrors_down, opposite, signed, transformed, transposes, turned_over}
use Rattle.jpg_spec_move.specs.declared.transform.Transform.{Transform}
use Rattle.jpg_spec_move.specs.declared.transform.Transform.TheVariants.{Keep, FlipH, FlipV, Transpose, Transverse, Rotate90, Rotate180, Rotate270}
use Rattle.jpg_spec_upright.specs.Laws.{IsDisplayed, displayed_block, turned_block}
use Rattle.jpg_spec.proofs.Basics.Common.{lt_yes, lt_no}
use Rattle.jpg_spec_move.proofs.Transforming.{by_formula}

-- the place at a distance from the far side, or from the near one
abbrev far : Bool → ℕ → ℕ → ℕ
far b n d = cond b (n - 1 - d) d

-- it comes from there
back : (b : Bool) (n d : ℕ) → d < n → opposite (cond b n 0) (far b n d) ≡ d
back true n d h =
    let there : n - 1 - d < n = omega (arith, h) in
    let again : n - 1 - (n - 1 - d) ≡ d = omega (arith, h) in
    ap (λ t. cond t (n - 1 - (n - 1 - d)) (n - 1 - d)) (lt_yes (n - 1 - d) n there) ∙ again
back false n d h = ap (λ t. cond t (0 - 1 - d) d) (lt_no d 0 (omega arith))

changes : (b : Bool) (n d : ℕ) → d < n → nat_lt (far b n d) (cond b n 0) ≡ b
changes true n d h = lt_yes (n - 1 - d) n (omega (arith, h))
changes false n d h = lt_no d 0 (omega arith)

abbrev block_from : Bool → (ℕ → ℕ → List ℤ) → Bool → Bool → ℕ → ℕ → List ℤ
block_from over blocks a b column row = signed a b (turned_over over (cond over (blocks row column) (blocks column row)))

-- by the formula
pub at_distances : (t : Transform) (M : Meaning) (i x y : ℕ) → HasWholeBlocks M
    → cond (transposes t) y x < whole_columns (transformed t M) i → cond (transposes t) x y < whole_rows (transformed t M) i
    → (transformed t M).blocks i (far (mirrors_across t) (whole_columns (transformed t M) i) (cond (transposes t) y x)) (far (mirrors_down t) (whole_rows (transformed t M) i) (cond (transposes t) x y))
    ≡ signed (mirrors_across t) (mirrors_down t) (turned_over (transposes t) (M.blocks i x y))
at_distances t M i x y w across down =
    let N = transformed t M in
    let c = whole_columns N i in
    let r = whole_rows N i in
    let o = transposes t in
    let u = cond o y x in
    let v = cond o x y in
    let a = mirrors_across t in
    let b = mirrors_down t in
    let X = far a c u in
    let Y = far b r v in
    by_formula M t w i X Y
    ∙ ap (λ (k : Bool). block_from o (M.blocks i) k (nat_lt Y (cond b r 0)) (opposite (cond a c 0) X) (opposite (cond b r 0) Y)) (changes a c u across)
    ∙ ap (λ (k : Bool). block_from o (M.blocks i) a k (opposite (cond a c 0) X) (opposite (cond b r 0) Y)) (changes b r v down)
    ∙ ap (λ (k : ℕ). block_from o (M.blocks i) a b k (opposite (cond b r 0) Y)) (back a c u across)
    ∙ ap (λ (k : ℕ). block_from o (M.blocks i) a b u k) (back b r v down)
    ∙ one o a b
  where
    one : (o a b : Bool) → block_from o (M.blocks i) a b (cond o y x) (cond o x y) ≡ signed a b (turned_over o (M.blocks i x y))
    one true a b = refl
    one false a b = refl

pub displayed_there : (orientation : ℕ) (M : Meaning) (i x y : ℕ) → IsDisplayed orientation M i x y → displayed_block orientation M i x y ≡ turned_block orientation (M.blocks i x y)
displayed_there zero M i x y d = absurd (let h = d.some in omega (arith, h))
displayed_there (suc zero) M i x y d = at_distances Keep M i x y d.blocks d.across d.down
displayed_there (suc (suc zero)) M i x y d = at_distances FlipH M i x y d.blocks d.across d.down
displayed_there (suc (suc (suc zero))) M i x y d = at_distances Rotate180 M i x y d.blocks d.across d.down
displayed_there (suc (suc (suc (suc zero)))) M i x y d = at_distances FlipV M i x y d.blocks d.across d.down
displayed_there (suc (suc (suc (suc (suc zero))))) M i x y d = at_distances Transpose M i x y d.blocks d.across d.down
displayed_there (suc (suc (suc (suc (suc (suc zero)))))) M i x y d = at_distances Rotate90 M i x y d.blocks d.across d.down
displayed_there (suc (suc (suc (suc (suc (suc (suc zero))))))) M i x y d = at_distances Transverse M i x y d.blocks d.across d.down
displayed_there (suc (suc (suc (suc (suc (suc (suc (suc zero)))))))) M i x y d = at_distances Rotate270 M i x y d.blocks d.across d.down
displayed_there (suc (suc (suc (suc (suc (suc (suc (suc (suc n))))))))) M i x y d = absurd (let h = d.few in omega (arith, h))
