-- A picture that may be written may be written transformed, as a choice asks for it.
use Rattle.std.proofs.Common.{◌≡◌, true, List, [], ◌∷◌, length, refl}
use Rattle.std.specs.List.{All}
use Rattle.std.proofs.lemmas.List.{length-map}
use Rattle.std.proofs.lemmas.List.Elements.{All-nil, All-cons}
use Rattle.jpg_spec.specs.Segments.{QuantTable}
use Rattle.jpg_spec.specs.Geometry.{Frame, bounds}
use Rattle.jpg_spec.specs.Elements.{zeros, IsBlockIn, are_in_bounds}
use Rattle.jpg_spec.specs.Meaning.{Meaning, picture_frame}
use Rattle.jpg_spec.specs.Lists.{are_equal}
use Rattle.jpg_spec.proofs.Basics.Common.{equal_itself, or_right}
use Rattle.jpg_spec.proofs.Headers.Precisions.{of_bounds}
use Rattle.jpg_spec.proofs.Places.PlacesFound.{or_first}
use Rattle.jpg_spec.proofs.Writing.WrittenQuants.{is_in}

pub each_among : (tables all : List QuantTable) → ((q : QuantTable) → is_in q tables ≡ true → is_in q all ≡ true) → All (λ q. is_in q all ≡ true) tables
each_among [] all h = All-nil (λ q. is_in q all ≡ true)
each_among (t ∷ tables) all h =
    All-cons (λ q. is_in q all ≡ true) t tables (h t (or_first (are_equal t t) (is_in t tables) (equal_itself t))) (each_among tables all (λ q e. h q (or_right (are_equal q t) (is_in q tables) e)))

pub count_of : (M : Meaning) → length (picture_frame M).components ≡ length M.components
count_of M = length-map M.components _

pub zeros_here : (f : Frame) → IsBlockIn (bounds f) (zeros 64)
zeros_here f = (refl, of_bounds (λ b. are_in_bounds b true (zeros 64) ≡ true) refl refl f.precision)
