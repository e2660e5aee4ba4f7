use Rattle.std.proofs.Common.{ℕ, List, [], ◌∷◌, refl, arith}
use Rattle.jpg_spec.specs.Segments.{standard_limits}
use Rattle.jpg_spec.specs.Markers.{BeginsSegment, soi}
use Rattle.jpg_spec_write.specs.CommentText.{IsFileFront}
use Rattle.jpg_spec_write.proofs.segment_examples.fill_is_left_out.Goals as goal

pub returns : goal.returns
returns c = λ rest.
    let tail : List ℕ = 0xff ∷ 0xff ∷ 0xc0 ∷ [] in
    let begins : BeginsSegment [] 0xc0 tail = ((1, refl, ((λ e. omega (arith, e)), (λ e. omega (arith, e)))), refl, (λ e. omega (arith, e))) in
    let head : IsFileFront standard_limits (0xff ∷ 0xd8 ∷ tail) [] 0xc0 = (tail, record { front = soi; cut = refl; spelled = refl; passed = tt }, begins, refl) in
    ([], 0xc0, 0xff ∷ 0xd8 ∷ tail, rest, refl, head, refl)
