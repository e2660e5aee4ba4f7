-- The bytes of segments that are written.
use Rattle.std.proofs.Common.{◌≡◌, ℕ, ◌+◌, List, [], ◌∷◌, get_or, ap}
use Rattle.std.specs.Int.{to_be_bytes, w16}

-- the marker and the length
abbrev pub segment_head : ℕ → ℕ → List ℕ
segment_head code n = 255 ∷ code ∷ to_be_bytes w16 (n + 2)

-- the two bytes of a number, one by one
pub head_is : (code n : ℕ) (bytes : List ℕ) → bytes ≡ to_be_bytes w16 (n + 2) → 255 ∷ code ∷ get_or bytes 0 0 ∷ get_or bytes 1 0 ∷ [] ≡ segment_head code n
head_is code n bytes e = ap (λ (b : List ℕ). (let h : List ℕ = 255 ∷ code ∷ get_or b 0 0 ∷ get_or b 1 0 ∷ [] in h)) e
