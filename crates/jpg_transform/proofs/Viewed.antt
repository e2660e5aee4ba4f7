-- What contracts see of a picture that was read.
use Rattle.std.proofs.Common.{◌≡◌, ℕ, ◌-◌, ◌≤◌, false, cond, sym, ap, subst, arith}
use Rattle.std.specs.Prelude.{nat_lt}
use Rattle.std.proofs.lemmas.Bool.Decides.{nat_tests}
use Rattle.jpg_spec.specs.Geometry.{Frame, IsReal}
use Rattle.jpg_spec_move.specs.Transforms.{opposite}
use Rattle.jpg_base.specs.Cursor.{IsPadded}
use Rattle.jpg_base.proofs.ScanPlaces.{padded_of}
use Rattle.jpg_coefs.specs.Picture.{block_in, map_of}
use Rattle.jpg_coefs.proofs.Maps.{map_at}
use Rattle.jpg_file.specs.declared.read.picture.Picture.{Picture}

pub padded_there : (p : Picture) (i x y : ℕ) → IsReal p.frame i x y → IsPadded p.coefs.frame i x y
padded_there p i x y r = subst (λ (f : Frame). IsPadded f i x y) (sym p.keeps.grids) (padded_of p.frame i x y p.keeps.frame r)

pub seen_block : (p : Picture) (i x y : ℕ) → IsReal p.frame i x y → block_in p.coefs i x y ≡ map_of p.coefs i x y
seen_block p i x y r = sym (map_at p.coefs i x y (padded_there p i x y r))

-- at equal places
pub real_at : (f : Frame) (i a b x y : ℕ) → x ≡ a → y ≡ b → IsReal f i a b → IsReal f i x y
real_at f i a b x y e h r = subst (λ (z : ℕ). IsReal f i z y) (sym e) (subst (λ (z : ℕ). IsReal f i a z) (sym h) r)

-- a column or row that isn't among those that change places
pub stays : (changed x : ℕ) → changed ≤ x → x ≡ opposite changed x
stays changed x h =
    let t : nat_lt x changed ≡ false = grind (arith, nat_tests) in
    sym (ap (λ b. (let n : ℕ = cond b (changed - 1 - x) x in n)) t)
