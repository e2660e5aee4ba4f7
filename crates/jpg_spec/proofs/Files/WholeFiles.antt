-- A block of a picture, displayed or not, has 64 numbers.
use Rattle.std.proofs.Common.{◌≡◌, Bool, true, false, cond, List, length, refl, ℤ}
use Rattle.jpg_spec.specs.Elements.{zeros}

pub shown_whole : (b : Bool) (block : List ℤ) → length block ≡ 64 → length (cond b block (zeros 64)) ≡ 64
shown_whole true block l = l
shown_whole false block l = refl
