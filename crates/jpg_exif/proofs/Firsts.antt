-- The first segment of Exif data is looked for among kept markers, one after another.
use Rattle.std.proofs.Common.{◌≡◌, ℕ, zero, suc, ◌+◌, ◌<◌, true, false, cond, List, [], ◌∷◌, ◌++◌, length, take, drop, get_or, refl, sym, ap, ◌∙◌, arith}
use Rattle.std.specs.Prelude.{slice_set}
use Rattle.std.proofs.lemmas.List.{append_assoc, drop-drop, get_or-drop, length-drop, set_split}
use Rattle.jpg_spec_upright.specs.Exif.{is_exif, marked_upright, orientation_in, orientation_of, upright_contents}
use Rattle.jpg_exif.specs.FirstExif.{IsFirstExif, member}

-- none is before this index, where these are left
pub record NoneBefore (kept rest : List (ℕ × List ℕ)) (i : ℕ) : Type 0 where
  pub turned : orientation_of rest ≡ orientation_of kept
  pub marked : marked_upright kept ≡ take i kept ++ marked_upright rest
  pub left : drop i kept ≡ rest

pub at_first : (kept : List (ℕ × List ℕ)) → NoneBefore kept kept 0
at_first kept = record { turned = refl; marked = refl; left = refl }

-- the next of them
inside : (kept rest : List (ℕ × List ℕ)) (i : ℕ) (s : ℕ × List ℕ) → drop i kept ≡ s ∷ rest → i < length kept
inside kept rest i s e = let h = ap length e in let l = length-drop i kept in omega (arith, h, l)

after : (kept rest : List (ℕ × List ℕ)) (i : ℕ) (s : ℕ × List ℕ) → drop i kept ≡ s ∷ rest → drop (i + 1) kept ≡ rest
after kept rest i s e = sym (drop-drop 1 i kept) ∙ ap (drop 1) e

take_one : (kept rest : List (ℕ × List ℕ)) (i : ℕ) (s : ℕ × List ℕ) → drop i kept ≡ s ∷ rest → take (i + 1) kept ≡ take i kept ++ s ∷ []
take_one [] rest i s e = absurd (let h = inside [] rest i s e in omega (arith, h))
take_one (k ∷ kept) rest zero s e = ap (take 1) e
take_one (k ∷ kept) rest (suc i) s e =
    let n : suc i + 1 ≡ suc (i + 1) = omega arith in
    ap (λ (m : ℕ). take m (k ∷ kept)) n ∙ ap (λ (l : List (ℕ × List ℕ)). k ∷ l) (take_one kept rest i s e)

pub found_first : (kept rest : List (ℕ × List ℕ)) (i : ℕ) (s : ℕ × List ℕ) → NoneBefore kept (s ∷ rest) i → is_exif s ≡ true → IsFirstExif kept i
found_first kept rest i s n is =
    let at : member kept i ≡ s =
    ap (λ (j : ℕ). get_or kept j (0, [])) (let z : i ≡ i + 0 = omega arith in z) ∙ sym (get_or-drop i kept 0 (0, [])) ∙ ap (λ (l : List (ℕ × List ℕ)). get_or l 0 (0, [])) n.left in
    let within = inside kept rest i s n.left in
    record {
      inside = within;
      turned = sym n.turned ∙ ap (λ b. cond b (orientation_in s.1) (orientation_of rest)) is ∙ ap (λ (t : ℕ × List ℕ). orientation_in t.1) (sym at);
      marked = n.marked ∙ ap (λ b. take i kept ++ cond b ((s.0, upright_contents s.1) ∷ rest) (s ∷ marked_upright rest)) is
          ∙ ap (λ (l : List (ℕ × List ℕ)). take i kept ++ (s.0, upright_contents s.1) ∷ l) (sym (after kept rest i s n.left))
          ∙ ap (λ (j : ℕ). take i kept ++ (s.0, upright_contents s.1) ∷ drop j kept) (let z : i + 1 ≡ suc i = omega arith in z)
          ∙ sym (set_split kept i (s.0, upright_contents s.1) within) ∙ ap (λ (t : ℕ × List ℕ). slice_set kept i (t.0, upright_contents t.1)) (sym at);
    }

pub passed_one : (kept rest : List (ℕ × List ℕ)) (i : ℕ) (s : ℕ × List ℕ) → NoneBefore kept (s ∷ rest) i → is_exif s ≡ false → NoneBefore kept rest (i + 1)
passed_one kept rest i s n other = record {
  turned = ap (λ b. cond b (orientation_in s.1) (orientation_of rest)) (sym other) ∙ n.turned;
  marked = n.marked ∙ ap (λ b. take i kept ++ cond b ((s.0, upright_contents s.1) ∷ rest) (s ∷ marked_upright rest)) other
      ∙ sym (append_assoc (take i kept) (s ∷ []) (marked_upright rest)) ∙ ap (λ (l : List (ℕ × List ℕ)). l ++ marked_upright rest) (sym (take_one kept rest i s n.left));
  left = after kept rest i s n.left;
}
