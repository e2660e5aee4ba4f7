-- Frame and scan headers, read from their bytes.
use Rattle.std.proofs.Common.{◌≡◌, ℕ, ◌+◌, ◌-◌, ◌*◌, ◌≤◌, true, List, [], ◌∷◌, length, get_or, take, drop, refl, sym, ap, ◌∙◌, arith}
use Rattle.std.specs.Prelude.{◌==◌, ◌&&◌}
use lib.Pointwise.{pointwise}
use Rattle.std.proofs.lemmas.Bool.{eq-eqb}
use Rattle.std.proofs.lemmas.List.{take_all, length-drop, get_or-drop}
use Rattle.byteorder.specs.Endian.{big_number}
use Rattle.jpg_spec.specs.Lists.{begins_with}
use Rattle.jpg_spec.specs.Segments.{two_bytes}
use Rattle.jpg_spec.specs.FrameHeader.{checked_frame}
use Rattle.jpg_spec.specs.FrameContents.{parsed_frame, frame_header}
use Rattle.jpg_spec.specs.declared.frame.Process.{Process}
use Rattle.jpg_spec.specs.declared.frame.Limits.{Limits}

-- a header of at least six bytes whose length is right, where n bytes follow these six
pub frame_is : (limits : Limits) (process : Process) (contents : List ℕ) (n count height width : ℕ) → 6 ≤ length contents → n ≡ length contents - 6 → count ≡ get_or contents 5 0
    → length (take n (drop 6 contents)) ≡ 3 * count → height ≡ two_bytes (get_or contents 1 0) (get_or contents 2 0) → width ≡ two_bytes (get_or contents 3 0) (get_or contents 4 0)
    → checked_frame limits (parsed_frame process (get_or contents 0 0) height width (take n (drop 6 contents))) ≡ frame_header limits process contents
frame_is limits process [] n count height width long n-is count-is right high wide = absurd (omega (arith, long))
frame_is limits process (a ∷ []) n count height width long n-is count-is right high wide = absurd (omega (arith, long))
frame_is limits process (a ∷ b ∷ []) n count height width long n-is count-is right high wide = absurd (omega (arith, long))
frame_is limits process (a ∷ b ∷ c ∷ []) n count height width long n-is count-is right high wide = absurd (omega (arith, long))
frame_is limits process (a ∷ b ∷ c ∷ d ∷ []) n count height width long n-is count-is right high wide = absurd (omega (arith, long))
frame_is limits process (a ∷ b ∷ c ∷ d ∷ e ∷ []) n count height width long n-is count-is right high wide = absurd (omega (arith, long))
frame_is limits process (a ∷ b ∷ c ∷ d ∷ e ∷ k ∷ parts) n count height width long n-is count-is right high wide =
    let whole : take n parts ≡ parts = take_all n parts (omega (arith, n-is)) in
    let same : length parts ≡ 3 * k = ap length (sym whole) ∙ right ∙ ap (λ (m : ℕ). 3 * m) count-is in
    let tested : (length parts == 3 * k) ≡ true = eq-eqb (length parts) (3 * k) same in
    rw (whole, high, wide, tested) refl

-- the number of two bytes
pub number_at : (bytes : List ℕ) (i : ℕ) → big_number 2 (take (length bytes - i) (drop i bytes)) ≡ two_bytes (get_or bytes i 0) (get_or bytes (i + 1) 0)
number_at bytes i =
    let whole : take (length bytes - i) (drop i bytes) ≡ drop i bytes = take_all (length bytes - i) (drop i bytes) (omega (arith, length-drop i bytes)) in
    let first : get_or (drop i bytes) 0 0 ≡ get_or bytes i 0 = grind (arith, get_or-drop) in
    let second : get_or (drop i bytes) 1 0 ≡ get_or bytes (i + 1) 0 = grind (arith, get_or-drop) in
    ap (λ (xs : List ℕ). big_number 2 xs) whole ∙ omega (arith, first, second)

-- the test for a prefix, as the standard library computes it
pub starts_is : (front rest : List ℕ) → pointwise (λ a b. a == b) front (take (length front) rest) ≡ begins_with front rest
starts_is [] rest = refl
starts_is (b ∷ front) [] = refl
starts_is (b ∷ front) (x ∷ rest) = ap (λ r. b == x && r) (starts_is front rest)
