-- A PICTURE HEADED for writing: the process of its file, the JFIF or Adobe segment that is written, and the kept segments that are passed on.
use Rattle.std.specs.Prelude.{ℕ, Bool, not, nat_lt, ◌==◌, if◌then◌else◌, List, [], ◌∷◌, ◌++◌, filter, codes, ◌||◌}
use Rattle.std.specs.Int.{to_be_bytes, w16}
use Rattle.jpg_spec.specs.Lists.{any_of}
use Rattle.jpg_spec.specs.Jfif.{begins_jfif, begins_adobe, jfif_of}
use Rattle.jpg_spec.specs.Meaning.{Meaning, colour_of}
use Rattle.jpg_spec.specs.declared.frame.Process.{Process}
use Rattle.jpg_spec.specs.declared.frame.Process.TheVariants.{Baseline, Extended}
use Rattle.jpg_spec.specs.declared.frame.Copying.{Copying}
use Rattle.jpg_spec.specs.declared.frame.Copying.TheVariants as copying
use Rattle.jpg_spec.specs.declared.frame.Colour.{Colour}
use Rattle.jpg_spec.specs.declared.frame.Colour.TheVariants.{Gray, YCbCr, Rgb, Cmyk, Ycck, Unknown}
use Rattle.jpg_spec.specs.declared.jfif.Jfif.{Jfif}

-- WITH ITS HEADER: the JFIF header or Adobe segment, and then the kept segments that are passed on

-- version 1.01, but a JFIF input's if its major number is 1; the density of the input
abbrev pub jfif_contents : Jfif → List ℕ
jfif_contents j =
    codes "JFIF" ++ 0 ∷ 1 ∷ (if j.major == 1 then j.minor else 1) ∷ j.unit ∷ to_be_bytes w16 j.x ++ to_be_bytes w16 j.y ++ 0 ∷ 0 ∷ []

abbrev pub adobe_contents : ℕ → List ℕ
adobe_contents transform = codes "Adobe" ++ 0 ∷ 100 ∷ 0 ∷ 0 ∷ 0 ∷ 0 ∷ transform ∷ []

abbrev pub headed_kept : Colour → Jfif → List (ℕ × List ℕ) → List (ℕ × List ℕ)
headed_kept Gray j kept = (0xe0, jfif_contents j) ∷ filter (λ s. not (begins_jfif s.0 s.1)) kept
headed_kept YCbCr j kept = (0xe0, jfif_contents j) ∷ filter (λ s. not (begins_jfif s.0 s.1)) kept
headed_kept Rgb j kept = (0xee, adobe_contents 0) ∷ filter (λ s. not (begins_adobe s.0 s.1)) kept
headed_kept Cmyk j kept = (0xee, adobe_contents 0) ∷ filter (λ s. not (begins_adobe s.0 s.1)) kept
headed_kept Ycck j kept = (0xee, adobe_contents 2) ∷ filter (λ s. not (begins_adobe s.0 s.1)) kept
headed_kept Unknown j kept = kept

-- a quantiser needs two bytes
abbrev pub is_wide : List ℕ → Bool
is_wide table = any_of (λ q. nat_lt 255 q) table

-- SOF1 if a quantiser exceeds 255 or the precision isn't 8, otherwise SOF0 (B.2.2, Table B.1)
abbrev pub sequential_process : Meaning → Process
sequential_process M = if not (M.precision == 8) || any_of (λ c. is_wide c.quants) M.components then Extended else Baseline

-- the kept markers that are passed on
abbrev pub copied : Copying → List (ℕ × List ℕ) → List (ℕ × List ℕ)
copied copying.None kept = []
copied copying.Comments kept = filter (λ s. s.0 == 0xfe) kept
copied copying.All kept = kept

-- a picture with the header of a sequential file
abbrev pub headed_by : Copying → Meaning → Meaning
headed_by copying M = record M { process = sequential_process M; kept = headed_kept (colour_of M) (jfif_of M.kept) (copied copying M.kept) }

-- a picture with the header of a sequential file, where only the comments are passed on
abbrev pub headed : Meaning → Meaning
headed M = headed_by copying.Comments M
