-- The image that is made of one that was read.
use Rattle.std.proofs.Common.{◌≡◌, ℕ, ◌<◌, ◌≤◌, ◌+◌, List, [], ◌++◌, length, subst, arith, Ok, Err}
use Rattle.std.proofs.lemmas.List.Elements.{All-nil, All-append}
use Rattle.jpg_base.specs.declared.stop.Stop.{Stop}
use Rattle.jpg_base.specs.declared.stop.Stop.TheVariants as stop
use Rattle.jpg_spec_image.specs.Images.{Image}
use Rattle.jpg_spec_image.specs.ImageSteps.{at_start, run}
use Rattle.jpg_spec_image.specs.ImageFaults.{IsImage}
use Rattle.jpg_spec.specs.declared.frame.Limits.{Limits}
use Rattle.jpg_pnm_bmp.specs.Made.{AreBytes}
use Rattle.jpg_pnm_bmp.specs.Pieces.{MakesWhole}
use Rattle.jpg_pnm_bmp.specs.Reader.{EndsImage, pixels_kind, standing}
use Rattle.jpg_pnm_bmp.specs.declared.read.piece.Fed2.{Fed2}
use Rattle.jpg_pnm_bmp.specs.declared.read.piece.Fed2.TheVariants as fed
use Rattle.jpg_pnm_bmp.specs.declared.read.work.Work.{Work}
use Rattle.jpg_pnm_bmp.proofs.ImageBytes.{image_bytes}

-- limits of n bytes
abbrev up_to : ℕ → Limits
up_to n = record { side = 0; blocks = 0; kept = 0; input = n }

pub samples_whole : (bytes : List ℕ) (image : Image) → ((limits : Limits) (rest : List ℕ) → length bytes ≤ limits.input → IsImage limits (bytes ++ rest) image) → AreBytes bytes → AreBytes image.samples
samples_whole bytes image is all =
    let same : length bytes ≤ length bytes = omega arith in
    image_bytes (up_to (length bytes)) (bytes ++ []) image (is (up_to (length bytes)) [] same) (All-append (λ b. b < 256) bytes [] all (All-nil (λ b. b < 256)))

pub samples_at_end : (bytes : List ℕ) (image : Image) → ((limits : Limits) → length bytes < limits.input → IsImage limits bytes image) → AreBytes bytes → AreBytes image.samples
samples_at_end bytes image is all =
    let less : length bytes < length bytes + 1 = omega arith in
    image_bytes (up_to (length bytes + 1)) bytes image (is (up_to (length bytes + 1)) less) all

-- WHERE THE BYTES END

pub whole_ended : (bytes : List ℕ) (image made : Image) (f : Fed2) → MakesWhole image (Ok f) made → ((limits : Limits) → length bytes < limits.input → IsImage limits bytes image) → AreBytes bytes → EndsImage bytes (Ok tt) made
whole_ended bytes image made fed.More m is all = absurd m
whole_ended bytes image made fed.Done m is all = λ limits l. subst (IsImage limits bytes) (m (samples_at_end bytes image is all)) (is limits l)

pub unmade_ended : (bytes : List ℕ) (image made : Image) (e : Stop) → MakesWhole image (Err e) made → ((limits : Limits) → length bytes < limits.input → IsImage limits bytes image) → EndsImage bytes (Err e) made
unmade_ended bytes image made (stop.Fault f) m is = absurd m
unmade_ended bytes image made stop.NoMemory m is = (image, is)

-- BEFORE ANY BYTES
pub none_read : (w : Work) → w.before ≡ 0 → standing [] w ≡ at_start → pixels_kind.stands [] w
unfolding run
none_read w none e = (none, e)
