-- The header of an image is short.
use Rattle.std.proofs.Common.{◌≡◌, ℕ, ◌<◌, List, [], ◌∷◌, ◌++◌, length, refl, sym, ap, ◌∙◌, subst, arith, Result, Ok, Err}
use Rattle.std.proofs.lemmas.List.{length-append}
use Rattle.std.specs.Prelude.{codes}
use Rattle.std.specs.Fmt.{decimal}
use Rattle.jpg_spec_image.specs.ImageText.{first_piece, pnm_header, pnm_letter, targa_header}
use Rattle.jpg_spec_image.specs.declared.image.EndKind.{EndKind}
use Rattle.jpg_spec_image.specs.declared.image.EndKind.TheVariants.{Pnm, Bmp, Targa}
use Rattle.jpg_spec_image.specs.declared.image.ImageKind.{ImageKind}
use Rattle.jpg_spec_image.specs.declared.image.ImageKind.TheVariants.{Gray, Rgb}
use Rattle.jpg_spec_image.specs.declared.image.ImageInfo.{ImageInfo}
use Rattle.jpg_base.specs.declared.names.NoMemory.{NoMemory}
use Rattle.jpg_pnm_bmp.specs.EndState.{EndState, IsImageInfo, Starts}
use Rattle.jpg_pnm_bmp.proofs.Digits.{five}

pub first_short : (kind : EndKind) (info : ImageInfo) → IsImageInfo info → length (first_piece kind info) < 32768
unfolding pnm_header targa_header
first_short Bmp info valid = omega arith
first_short Targa info valid = let all : length (targa_header info) ≡ 18 = refl in omega (arith, all)
first_short Pnm info valid =
    let wide = valid.width_high in
    let high = valid.height_high in
    let w = five info.width (omega (arith, wide)) in
    let h = five info.height (omega (arith, high)) in
    let a = letter info.kind in
    let front = pnm_letter info.kind ++ 10 ∷ decimal info.width in
    let l1 = length-append (pnm_letter info.kind) (10 ∷ decimal info.width) in
    let l2 = length-append front (codes " ") in
    let l3 = length-append (front ++ codes " ") (decimal info.height) in
    let l4 = length-append (front ++ codes " " ++ decimal info.height) (10 ∷ codes "255") in
    let l5 = length-append (front ++ codes " " ++ decimal info.height ++ 10 ∷ codes "255") (10 ∷ []) in
    let one : length (codes " ") ≡ 1 = refl in
    let three : length (codes "255") ≡ 3 = refl in
    omega (arith, w, h, a, l1, l2, l3, l4, l5, one, three)
  where
    letter : (kind : ImageKind) → length (pnm_letter kind) ≡ 2
    letter Gray = refl
    letter Rgb = refl

-- an image that begins with no text before it
pub starts_short : (e : EndState) (out : List ℕ) (info : ImageInfo) (result : Result (Unit {0}) NoMemory) (new : EndState) (grown : List ℕ) → IsImageInfo info → out ≡ [] → Starts e out info result new grown → length grown < 32768
starts_short e out info (Ok u) new grown valid none (begun, is) =
    subst (λ (x : List ℕ). length x < 32768) (sym (is ∙ ap (λ (o : List ℕ). o ++ first_piece e.kind info) none)) (first_short e.kind info valid)
starts_short e out info (Err fault) new grown valid none (begun, is) = subst (λ (x : List ℕ). length x < 32768) (sym (is ∙ none)) (omega arith)
