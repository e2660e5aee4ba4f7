-- Samples of an image, made one by one from those of its file.
use Rattle.std.proofs.Common.{◌≡◌, ℕ, suc, ◌+◌, ◌/◌, ◌<◌, List, [], ◌∷◌, ◌++◌, length, take, map, slice_index, flat_map, refl, sym, ap, ◌∙◌, subst, arith, append_assoc, Ok}
use Rattle.std.proofs.Math.Nat.{mul_comm}
use Rattle.std.proofs.lemmas.Nat.{div-mul-add}
use Rattle.std.proofs.lemmas.List.{get_or-map, length-map, map-append, take_more, append-nil}
use Rattle.std.proofs.lemmas.List.Elements.{All-get_or}
use Rattle.std.proofs.lemmas.Grind.{flat_map-append}
use Rattle.jpg_spec.specs.Lists.{below}
use Rattle.jpg_spec_image.specs.PnmText.{pnm_info, scaled_sample}
use Rattle.jpg_spec_image.specs.ImageFaults.{pnm, image_of}
use Rattle.jpg_spec_image.specs.declared.image.ImageInfo.{ImageInfo}
use Rattle.jpg_pnm_bmp.specs.Known.{list_of}
use Rattle.jpg_pnm_bmp.specs.Made.{AreBytes, Makes}
use Rattle.jpg_pnm_bmp.specs.declared.read.numbers.Numbers.{Numbers}
use Rattle.jpg_pnm_bmp.specs.declared.read.numbers.Numbers.TheVariants.{All}

-- a sample of at most 255 doesn't change
full : (s : ℕ) → scaled_sample 255 s ≡ s
full s = ap (λ n. (n + 127) / 255) (mul_comm 255 s) ∙ div-mul-add s 255 127 (omega arith)

pub all_full : (xs : List ℕ) → map (scaled_sample 255) xs ≡ xs
all_full [] = refl
all_full (x ∷ xs) = ap (λ (n : ℕ). (let l : List ℕ = n ∷ map (scaled_sample 255) xs in l)) (full x) ∙ ap (λ (l : List ℕ). (let m : List ℕ = x ∷ l in m)) (all_full xs)

-- one more
pub scaled_more : (most : ℕ) (samples old made new : List ℕ) (i got : ℕ) → i < length samples
    → (AreBytes (map (scaled_sample most) samples) → made ≡ old ++ map (scaled_sample most) (take i samples))
    → (scaled_sample most (slice_index samples i) < 256 → got ≡ scaled_sample most (slice_index samples i)) → new ≡ made ++ got ∷ []
    → AreBytes (map (scaled_sample most) samples) → new ≡ old ++ map (scaled_sample most) (take (i + 1) samples)
scaled_more most samples old made new i got lt had is added bytes =
    let f : ℕ → ℕ = scaled_sample most in
    let at : slice_index (map f samples) i ≡ f (slice_index samples i) = get_or-map f samples i 0 0 lt in
    let small : f (slice_index samples i) < 256 = subst (λ n. n < 256) at (All-get_or (λ n. n < 256) (map f samples) i 0 (omega (arith, length-map samples f, lt)) bytes) in
    added ∙ ap (λ n. made ++ n ∷ []) (is small) ∙ ap (λ (l : List ℕ). l ++ f (slice_index samples i) ∷ []) (had bytes)
    ∙ append_assoc old (map f (take i samples)) (f (slice_index samples i) ∷ [])
    ∙ ap (λ l. old ++ l) (sym (map-append f (take i samples) (slice_index samples i ∷ [])) ∙ ap (map f) (sym (take_more samples i 0 lt)))

-- one more row
pub rows_more : (row : ℕ → List ℕ) (old made new : List ℕ) (y : ℕ) → made ≡ old ++ flat_map row (below y) → new ≡ made ++ row y → new ≡ old ++ flat_map row (below (y + 1))
rows_more row old made new y had added =
    added ∙ ap (λ (l : List ℕ). l ++ row y) had ∙ append_assoc old (flat_map row (below y)) (row y)
    ∙ ap (λ l. old ++ l) (ap (λ (l : List ℕ). flat_map row (below y) ++ l) (sym (append-nil (row y))) ∙ sym (flat_map-append row (below y) (y ∷ [])) ∙ ap (λ n. flat_map row (below n)) one)
  where
    one : suc y ≡ y + 1
    one = omega arith

-- all samples of a PNM image
pub made_pnm : (format : ℕ) (numbers : Numbers) (samples : List ℕ) (w h m : ℕ) (info : ImageInfo) (new : List ℕ) → numbers ≡ All w h m → info ≡ pnm_info format (w ∷ h ∷ m ∷ [])
    → (AreBytes (map (scaled_sample m) samples) → new ≡ map (scaled_sample m) samples) → Makes (image_of (pnm format (list_of numbers [])) samples) (Ok info) new
made_pnm format numbers samples w h m info new is told made =
    subst (λ k. Makes (image_of (pnm format (list_of k [])) samples) (Ok info) new) (sym is) (told, made)
