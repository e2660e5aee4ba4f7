-- The samples of an image, made row by row from the bytes of its file.
use Rattle.std.proofs.Common.{◌≡◌, ℕ, zero, suc, ◌+◌, ◌-◌, ◌*◌, Bool, true, cond, List, [], ◌∷◌, ◌++◌, length, take, drop, flat_map, sym, ap, ◌∙◌, arith}
use Rattle.std.proofs.lemmas.List.{append-nil, take_all}
use Rattle.std.proofs.lemmas.Grind.{flat_map-append}
use Rattle.std.proofs.Math.Seq.{take-add}
use Rattle.jpg_spec.specs.Lists.{below}
use Rattle.jpg_spec_image.specs.ImageText.{row_bytes, file_samples}
use Rattle.jpg_spec_image.specs.TargaFile.{is_from_top, targa_kind, targa_height, targa_info, targa_image}
use Rattle.jpg_spec_image.specs.TargaSteps.{total}
use Rattle.jpg_spec_image.specs.declared.image.ImageKind.{ImageKind}
use Rattle.jpg_spec_image.specs.declared.image.ImageKind.TheVariants.{Gray}

-- lines of n bytes from the top
lines_in_order : (n k : ℕ) (bytes : List ℕ) → flat_map (λ y. take n (drop (n * y) bytes)) (below k) ≡ take (n * k) bytes
lines_in_order n zero bytes = let none : 0 ≡ n * 0 = omega arith in ap (λ m. take m bytes) none
lines_in_order n (suc k) bytes =
    let line : ℕ → List ℕ = λ y. take n (drop (n * y) bytes) in
    let more : n * k + n ≡ n * suc k = omega arith in
    flat_map-append line (below k) (k ∷ [])
    ∙ ap (λ x. x ++ (line k ++ [])) (lines_in_order n k bytes)
    ∙ ap (λ x. take (n * k) bytes ++ x) (append-nil (line k))
    ∙ sym (take-add (n * k) n bytes) ∙ ap (λ m. take m bytes) more

pub as_they_are : (head bytes : List ℕ) → targa_kind head ≡ Gray → is_from_top head ≡ true → length bytes ≡ total head → (targa_image head bytes).samples ≡ bytes
as_they_are head bytes gray top long =
    let n = row_bytes (targa_info head) in
    let h = targa_height head in
    let row : ImageKind → Bool → ℕ → List ℕ = λ kind v y. file_samples kind (take n (drop (n * cond v y (h - 1 - y)) bytes)) in
    let all : h * n ≡ n * h = omega arith in
    ap (λ k. flat_map (row k (is_from_top head)) (below h)) gray ∙ ap (λ v. flat_map (row Gray v) (below h)) top ∙ lines_in_order n h bytes ∙ take_all (n * h) bytes (omega (arith, long, all))
