-- The picture that jpgwork rotates and rotates back is the first one again, and so is its file.
use Rattle.std.proofs.Common.{◌≡◌, ℕ, zero, suc, Bool, true, cond, ◌&&◌, List, [], ◌∷◌, length, refl, sym, ap, ◌∙◌, arith, subst}
use Rattle.std.specs.Prelude.{zip, ℤ}
use Rattle.std.specs.List.{All}
use Rattle.std.specs.Str.{bytes_eq}
use Rattle.std.proofs.lemmas.List.{length-map}
use Rattle.std.proofs.lemmas.List.Elements.{All-nil, All-cons}
use Rattle.std.proofs.lemmas.Slice.Eq.{bytes_eq-Decides}
use Rattle.std.proofs.lemmas.Slice.Zip.{length-zip}
use Rattle.jpg_spec.specs.Geometry.{is_real}
use Rattle.jpg_spec.specs.Elements.{zeros}
use Rattle.jpg_spec.specs.Meaning.{Meaning, PictureComponent, component_of, colour_of, picture_frame}
use Rattle.jpg_spec.specs.Scan.{Blocks}
use Rattle.jpg_spec.specs.Segments.{QuantTable}
use Rattle.jpg_spec.specs.WholeBlocks.{HasWholeBlocks}
use Rattle.jpg_spec.specs.Zigzag.{zigzag}
use Rattle.jpg_spec_image.specs.Dct.{number_at}
use Rattle.jpg_spec_image.specs.ForwardDct.{forward_dct, quantised, quantised_block}
use Rattle.jpg_spec_write.specs.FileText.{file_text, frame_of_meaning, off}
use Rattle.jpg_spec_write.specs.declared.huffman.Huffman.TheVariants.{Plain}
use Rattle.jpg_spec_write.specs.ScansAsked.{script_due, standard}
use Rattle.jpg_spec_encode.specs.Encoded.{component_due, component_plane, encoded_block, encoded_head, samples_of_block}
use Rattle.jpg_spec_move.specs.Moved.{IsSamePicture}
use Rattle.jpg_spec_move.specs.declared.transform.Transform.TheVariants.{Rotate90}
use Rattle.jpg_spec.proofs.Basics.Common.{lt_no}
use Rattle.jpg_spec_move.proofs.MovedBack.{moved_back}
use Rattle.jpg_spec_words.specs.Work.{back_choice, back_picture, back_text, first_encoding, first_picture, first_text, lines, samples_sum, turned_picture, turned_text, work_image, work_info, work_text}
use Rattle.jpg_spec.proofs.Files.WholeFiles.{shown_whole}

-- BLOCKS AND TABLES of 64 numbers

block_long : (quants : QuantTable) (numbers : List ℤ) → length quants ≡ 64 → length (quantised_block quants numbers) ≡ 64
block_long quants numbers l =
    length-map (zip zigzag quants) (λ p. quantised (number_at numbers p.0) p.1)
    ∙ (let e = length-zip zigzag quants in let z : length zigzag ≡ 64 = refl in omega (arith, e, z, l))

abbrev head : ℕ → Meaning
head n = encoded_head (first_encoding n) (work_image n)

abbrev IsLong : PictureComponent → Type 0
IsLong c = length c.quants ≡ 64

abbrev due : ℕ → ℕ → PictureComponent
due n i = component_due (first_encoding n) i

quants_long : (n : ℕ) → All IsLong (head n).components
quants_long n =
    All-cons IsLong (due n 0) (due n 1 ∷ due n 2 ∷ []) refl (All-cons IsLong (due n 1) (due n 2 ∷ []) refl (All-cons IsLong (due n 2) [] refl (All-nil IsLong)))

at_component : (n i x y : ℕ) → length (component_of (head n) i).quants ≡ 64 → length (encoded_block (head n) (work_image n) i x y) ≡ 64
at_component n i x y l = block_long (component_of (head n) i).quants (forward_dct (samples_of_block (component_plane (head n) (work_image n) i) x y)) l

blocks_long : (n i x y : ℕ) → length ((first_picture n).blocks i x y) ≡ 64
blocks_long n zero x y = shown_whole (is_real (picture_frame (head n)) 0 x y) (encoded_block (head n) (work_image n) 0 x y) (at_component n 0 x y refl)
blocks_long n (suc zero) x y = shown_whole (is_real (picture_frame (head n)) 1 x y) (encoded_block (head n) (work_image n) 1 x y) (at_component n 1 x y refl)
blocks_long n (suc (suc zero)) x y = shown_whole (is_real (picture_frame (head n)) 2 x y) (encoded_block (head n) (work_image n) 2 x y) (at_component n 2 x y refl)
blocks_long n (suc (suc (suc i))) x y =
    let k : ℕ = suc (suc (suc i)) in
    subst (λ (b : Bool). length (cond (b && is_real (picture_frame (head n)) k x y) (encoded_block (head n) (work_image n) k x y) (zeros 64)) ≡ 64) (sym (lt_no k 3 (omega arith))) refl

whole : (n : ℕ) → HasWholeBlocks (first_picture n)
whole n = record { blocks = blocks_long n; quants = quants_long n }

-- THE PICTURE: sides, components and blocks by the law of inverses, and the same process and header

same_picture : (n : ℕ) → IsSamePicture (back_picture n) (first_picture n)
same_picture n =
    moved_back (turned_picture n) (first_picture n) Rotate90 back_choice (whole n) (record { transform = refl; untrimmed = refl; ungrayed = refl; whole = refl })
    (record { width = refl; height = refl; components = refl; blocks = refl })

abbrev as_first : ℕ → ℕ → ℕ → List PictureComponent → Blocks → Meaning
as_first n w h cs bs = record (first_picture n) { width = w; height = h; components = cs; blocks = bs }

pub picture_back : (n : ℕ) → back_picture n ≡ first_picture n
picture_back n =
    let s = same_picture n in
    let M : Meaning = back_picture n in
    let N : Meaning = first_picture n in
    let here : M ≡ as_first n M.width M.height M.components M.blocks = refl in
    here ∙ ap (λ w. as_first n w M.height M.components M.blocks) s.width ∙ ap (λ h. as_first n N.width h M.components M.blocks) s.height
    ∙ ap (λ cs. as_first n N.width N.height cs M.blocks) s.components ∙ ap (λ bs. as_first n N.width N.height N.components bs) s.blocks

pub text_back : (n : ℕ) → back_text n ≡ first_text n
text_back n = ap (λ (M : Meaning). file_text Plain M (script_due standard (frame_of_meaning M) (colour_of M)) off) (picture_back n)

same_line : (n : ℕ) → bytes_eq (back_text n) (first_text n) ≡ true
same_line n = (bytes_eq-Decides (back_text n) (first_text n)).1 (text_back n)

pub lines_back : (n : ℕ) → work_text n ≡ lines (work_info n) (length (first_text n)) (length (turned_text n)) true (samples_sum (first_picture n))
lines_back n =
    ap (λ b. lines (work_info n) (length (first_text n)) (length (turned_text n)) b (samples_sum (back_picture n))) (same_line n)
    ∙ ap (λ M. lines (work_info n) (length (first_text n)) (length (turned_text n)) true (samples_sum M)) (picture_back n)
