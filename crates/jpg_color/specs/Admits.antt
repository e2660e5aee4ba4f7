-- Which pictures can be displayed, and as which kind of image (release 6b's djpeg).
use Rattle.std.specs.Prelude.{ℕ, Bool, not, ◌==◌, if◌then◌else◌, List, take, Option, Some, None, Result, Ok, Err}
use Rattle.jpg_spec_image.specs.Pixels.{shows_gray, out_fault_of}
use Rattle.jpg_spec.specs.declared.fault.Fault.{Fault}
use Rattle.jpg_spec.specs.declared.fault.Fault.TheVariants.{Precision, ColourOut, FractionalSampling}
use Rattle.jpg_spec.specs.declared.frame.Colour.{Colour}
use Rattle.jpg_spec_image.specs.declared.image.ImageKind.{ImageKind}
use Rattle.jpg_spec_image.specs.declared.image.ImageKind.TheVariants as kind

abbrev pub kind_of : Colour → Bool → ImageKind
kind_of colour gray = if shows_gray colour gray then kind.Gray else kind.Rgb

-- the factors of the components that are needed: only the first, if the others aren't displayed
abbrev pub needed_factors : Bool → List (ℕ × ℕ) → List (ℕ × ℕ)
needed_factors alone factors = if alone then take 1 factors else factors

-- only samples of 8 bits are displayed
abbrev pub is_deep : ℕ → Bool
is_deep precision = not (precision == 8)

-- other samples come before colours that can't be displayed, and these before factors
abbrev pub first_fault : Bool → Bool → Bool → Option Fault
first_fault deep out partial =
    if deep then Some Precision
    else if out then Some ColourOut
    else if partial then Some FractionalSampling
    else None

-- a fault, if there is one
abbrev pub kind_or : Option Fault → ImageKind → Result ImageKind Fault
kind_or (Some fault) shown = Err fault
kind_or None shown = Ok shown

-- by the precision, the colours, whether gray is asked for, and the horizontal and vertical factors of each component
abbrev pub admitted_kind : ℕ → Colour → Bool → List (ℕ × ℕ) → Result ImageKind Fault
admitted_kind precision colour gray factors = kind_or (out_fault_of precision colour gray factors) (kind_of colour gray)
