-- The file of one scan, by equal parts.
use Rattle.std.proofs.Common.{◌≡◌, ℕ, List, sym, subst}
use Rattle.jpg_spec.specs.Geometry.{Frame}
use Rattle.jpg_spec.specs.Scan.{Blocks}
use Rattle.jpg_file.specs.Write.WriteFile.{IsSoleData}
use Rattle.jpg_file.specs.declared.write.Plan.{Plan}
use Rattle.jpg_file.specs.declared.write.sole.SoleScan.{SoleScan}

-- the same data, by equal parts
pub same_sole : {p q : Plan} {s t : SoleScan} {x y : List ℕ} (k : List (ℕ × List ℕ)) (f : Frame) (b : Blocks) → p ≡ q → s ≡ t → x ≡ y → IsSoleData q k f b t y → IsSoleData p k f b s x
same_sole {p} {q} {s} {t} {x} {y} k f b one other text is =
    subst (λ (r : Plan). IsSoleData r k f b s x) (sym one) (subst (λ (u : SoleScan). IsSoleData q k f b u x) (sym other) (subst (λ (z : List ℕ). IsSoleData q k f b t z) (sym text) is))
