-- An encoded image doesn't change if it isn't transformed: its JFIF header is written again.
use Rattle.std.proofs.Common.{◌≡◌, ℕ, ◌/◌, ◌<◌, Bool, true, false, cond, ◌&&◌, ◌||◌, List, [], ◌∷◌, length, map, slice_index, refl, sym, ap, ◌∙◌, arith, None}
use Rattle.std.specs.Prelude.{nat_le, nat_lt}
use Rattle.std.specs.Int.{to_be_bytes, w16}
use Rattle.jpg_spec.specs.Lists.{below}
use Rattle.jpg_spec.specs.Segments.{two_bytes}
use Rattle.jpg_spec.specs.Jfif.{jfif_of, adobe_transform}
use Rattle.jpg_spec.specs.Colours.{colours_of}
use Rattle.jpg_spec.specs.Meaning.{Meaning, colour_of}
use Rattle.jpg_spec_write.specs.Headed.{jfif_contents, headed_kept}
use Rattle.jpg_spec_move.proofs.CroppedScripts.{without_area}
use Rattle.jpg_spec_move.specs.Moved.{moved, moved_text, picture_fault}
use Rattle.jpg_spec_words.specs.EncodedKept.{as_encoded}
use Rattle.jpg_spec_write.specs.ScansAsked.{asks_progressive, process_due, script_due}
use Rattle.jpg_spec.specs.InForce.{first_some}
use Rattle.jpg_spec_write.specs.ScriptFaults.{script_fault}
use Rattle.jpg_spec_write.specs.FileText.{file_text, frame_of_meaning}
use Rattle.jpg_spec_encode.specs.Encoded.{Encoding, is_density, is_gray, any_process, component_due, density_of, encoded, encoded_script, encoded_text, sampling_fault, encode_fault}
use Rattle.jpg_spec_image.specs.Images.{Image}
use Rattle.jpg_spec_image.specs.declared.image.ImageInfo.{ImageInfo}
use Rattle.jpg_spec.specs.declared.jfif.Jfif.{Jfif}
use Rattle.jpg_spec.proofs.Basics.Common.{both, lt_of}

abbrev told_density : Bool → ImageInfo → Jfif
told_density told info = record { seen = true; major = 1; minor = 1; unit = cond told 2 0; x = cond told (info.x_metre / 100) 1; y = cond told (info.y_metre / 100) 1 }

two_again : (n : ℕ) → n < 65536 → two_bytes (slice_index (to_be_bytes w16 n) 0) (slice_index (to_be_bytes w16 n) 1) ≡ n
two_again n h = omega (arith, h)

-- version 1.01
read_again : (unit x y : ℕ) → x < 65536 → y < 65536
    → jfif_of ((0xe0, jfif_contents (record { seen = true; major = 1; minor = 1; unit = unit; x = x; y = y })) ∷ []) ≡ record { seen = true; major = 1; minor = 1; unit = unit; x = x; y = y }
read_again unit x y hx hy = ap (λ n. (let j : Jfif = record { seen = true; major = 1; minor = 1; unit = unit; x = n; y = two_bytes (slice_index (to_be_bytes w16 y) 0) (slice_index (to_be_bytes w16 y) 1) } in j)) (two_again x hx)
    ∙ ap (λ n. (let j : Jfif = record { seen = true; major = 1; minor = 1; unit = unit; x = x; y = n } in j)) (two_again y hy)

small_density : (n : ℕ) → is_density n ≡ true → n < 65536
small_density n e = lt_of n 65536 (both (nat_le 1 n) (nat_lt n 65536) e).1

density_again : (info : ImageInfo) → jfif_of ((0xe0, jfif_contents (density_of info)) ∷ []) ≡ density_of info
density_again info = by (is_density (info.x_metre / 100)) (is_density (info.y_metre / 100)) (small_density (info.x_metre / 100)) (small_density (info.y_metre / 100))
  where
    by : (a b : Bool) → (a ≡ true → info.x_metre / 100 < 65536) → (b ≡ true → info.y_metre / 100 < 65536)
        → jfif_of ((0xe0, jfif_contents (told_density (a && b) info)) ∷ []) ≡ told_density (a && b) info
    by true true hx hy = read_again 2 (info.x_metre / 100) (info.y_metre / 100) (hx refl) (hy refl)
    by true false hx hy = read_again 0 1 1 (omega arith) (omega arith)
    by false b hx hy = read_again 0 1 1 (omega arith) (omega arith)

-- Grayscale or YCbCr, whose header is a JFIF segment
headed_again : (e : Encoding) (image : Image) → headed_kept (colour_of (encoded e image)) (density_of image.info) [] ≡ (0xe0, jfif_contents (density_of image.info)) ∷ []
headed_again e image = by (e.gray || is_gray image.info.kind)
  where
    by : (b : Bool) → headed_kept (colours_of (length (map (component_due e) (below (cond b 1 3)))) (map (λ c. c.id) (map (component_due e) (below (cond b 1 3))))
        (jfif_of ((0xe0, jfif_contents (density_of image.info)) ∷ [])).seen (adobe_transform ((0xe0, jfif_contents (density_of image.info)) ∷ []))) (density_of image.info) []
        ≡ (0xe0, jfif_contents (density_of image.info)) ∷ []
    by true = refl
    by false = refl

process_again : (e : Encoding) (image : Image) (b : Bool) → process_due b (encoded e image) ≡ process_due b (any_process e image)
process_again e image true = refl
process_again e image false = refl

pub stays : (e : Encoding) (image : Image) → moved (as_encoded e) (encoded e image) ≡ encoded e image
stays e image =
    ap (λ p. (let M : Meaning = record (encoded e image) { process = p; kept = headed_kept (colour_of (encoded e image)) (jfif_of (encoded e image).kept) [] } in M))
    (process_again e image (asks_progressive e.scans))
    ∙ ap (λ (k : List (ℕ × List ℕ)). (let M : Meaning = record (encoded e image) { kept = k } in M))
    (ap (λ j. headed_kept (colour_of (encoded e image)) j []) (density_again image.info) ∙ headed_again e image)

pub stays_text : (e : Encoding) (image : Image) → moved_text (as_encoded e) (encoded e image) ≡ encoded_text e image
stays_text e image = ap (λ (H : Meaning). file_text e.huffman H (script_due e.scans (frame_of_meaning H) (colour_of H)) e.restart) (stays e image)

pub stays_fault : (e : Encoding) (image : Image) → sampling_fault e image ≡ None → picture_fault (as_encoded e) (encoded e image) ≡ encode_fault e image
stays_fault e image none =
    without_area (as_encoded e) (encoded e image) refl
    ∙ ap (λ (H : Meaning). script_fault (frame_of_meaning H) (script_due e.scans (frame_of_meaning H) (colour_of H))) (stays e image)
    ∙ sym (ap (λ f. first_some f (script_fault (frame_of_meaning (encoded e image)) (encoded_script e image))) none)
