-- Blocks and tables of 64 numbers mirrored and with their axes exchanged.
use Rattle.std.proofs.Common.{◌≡◌, ℕ, List, map, length, get_or, refl, sym, ap, ◌∙◌, subst, ℤ, pos}
use Rattle.std.specs.List.{range_with_len}
use Rattle.std.proofs.lemmas.List.{length-map}
use Rattle.std.proofs.lemmas.Simd.{pick_l_whole}
use Rattle.jpg_spec.specs.Zigzag.{zigzag}
use Rattle.jpg_spec_move.specs.Moves.{mirrored, mirrored_down}
use Rattle.jpg_spec.specs.Transposed.{exchanged, transposed}
use Rattle.jpg_spec.proofs.Writing.MirroredBlocks.{IsBlock}
use Rattle.jpg_spec_move.proofs.MirroredBlocks.{mirrored_block, mirrored_twice}

-- 64 numbers, given by a function of their place
abbrev pub numbers : {X : Type 0} → (ℕ → X) → List X
numbers f = map f (range_with_len 0 64)

pub numbers_are : {X : Type 0} (d : X) (xs : List X) → length xs ≡ 64 → numbers (λ k. get_or xs k d) ≡ xs
numbers_are d xs l = pick_l_whole d xs 64 l

pub length_transposed : {X : Type 0} (d : X) (xs : List X) → length (transposed d xs) ≡ 64
unfolding transposed
length_transposed d xs = length-map zigzag (λ n. get_or xs (exchanged n) d)

exchanged_numbers : {X : Type 0} (d : X) (f : ℕ → X) → transposed d (transposed d (numbers f)) ≡ numbers f
unfolding transposed
exchanged_numbers d f = refl

pub transposed_twice : {X : Type 0} (d : X) (xs : List X) → length xs ≡ 64 → transposed d (transposed d xs) ≡ xs
transposed_twice d xs l = subst (λ ys. transposed d (transposed d ys) ≡ ys) (numbers_are d xs l) (exchanged_numbers d (λ k. get_or xs k d))

-- the law of mirroring and exchanging, for values of places
across_numbers : (f : ℕ → ℤ) → mirrored (transposed (pos 0) (numbers f)) ≡ transposed (pos 0) (mirrored_down (numbers f))
unfolding mirrored mirrored_down transposed
across_numbers f = refl

down_numbers : (f : ℕ → ℤ) → mirrored_down (transposed (pos 0) (numbers f)) ≡ transposed (pos 0) (mirrored (numbers f))
unfolding mirrored mirrored_down transposed
down_numbers f = refl

both_numbers : (f : ℕ → ℤ) → mirrored (mirrored_down (numbers f)) ≡ mirrored_down (mirrored (numbers f))
unfolding mirrored mirrored_down
both_numbers f = refl

pub mirrored_transposed : (b : List ℤ) → IsBlock b → mirrored (transposed (pos 0) b) ≡ transposed (pos 0) (mirrored_down b)
mirrored_transposed b l = subst (λ c. mirrored (transposed (pos 0) c) ≡ transposed (pos 0) (mirrored_down c)) (numbers_are (pos 0) b l) (across_numbers (λ k. get_or b k (pos 0)))

pub mirrored_down_transposed : (b : List ℤ) → IsBlock b → mirrored_down (transposed (pos 0) b) ≡ transposed (pos 0) (mirrored b)
mirrored_down_transposed b l = subst (λ c. mirrored_down (transposed (pos 0) c) ≡ transposed (pos 0) (mirrored c)) (numbers_are (pos 0) b l) (down_numbers (λ k. get_or b k (pos 0)))

pub mirrored_both : (b : List ℤ) → IsBlock b → mirrored (mirrored_down b) ≡ mirrored_down (mirrored b)
mirrored_both b l = subst (λ c. mirrored (mirrored_down c) ≡ mirrored_down (mirrored c)) (numbers_are (pos 0) b l) (both_numbers (λ k. get_or b k (pos 0)))

-- mirrored down is mirrored across of the block with its axes exchanged
pub down_is : (b : List ℤ) → IsBlock b → mirrored_down b ≡ transposed (pos 0) (mirrored (transposed (pos 0) b))
down_is b l =
    let t = transposed (pos 0) b in
    sym (ap mirrored_down (transposed_twice (pos 0) b l)) ∙ mirrored_down_transposed t (length_transposed (pos 0) b)

pub mirrored_down_block : (b : List ℤ) → IsBlock b → IsBlock (mirrored_down b)
mirrored_down_block b l = ap length (down_is b l) ∙ length_transposed (pos 0) (mirrored (transposed (pos 0) b))

pub mirrored_down_twice : (b : List ℤ) → IsBlock b → mirrored_down (mirrored_down b) ≡ b
mirrored_down_twice b l =
    let t = transposed (pos 0) b in
    let lt = length_transposed (pos 0) b in
    ap mirrored_down (down_is b l) ∙ mirrored_down_transposed (mirrored t) (mirrored_block t lt) ∙ ap (transposed (pos 0)) (mirrored_twice t lt) ∙ transposed_twice (pos 0) b l
