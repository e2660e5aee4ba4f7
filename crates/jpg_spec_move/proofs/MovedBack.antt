-- A picture that was transformed is restored by the inverse, whatever else is chosen.
use Rattle.std.proofs.Common.{◌≡◌, ℕ, Bool, false, List, refl, sym, ap, ◌∙◌, subst, Option}
use Rattle.jpg_spec.specs.Scan.{Blocks}
use Rattle.jpg_spec.specs.Meaning.{Meaning, PictureComponent}
use Rattle.jpg_spec_move.specs.Transforms.{transformed, inverse}
use Rattle.jpg_spec_move.specs.Cropped.{cropped_by}
use Rattle.jpg_spec_move.specs.Laws.{UndoesTransform}
use Rattle.jpg_spec_move.specs.Moved.{Choice, moved, headed_as, trimmed, grayed, uncropped, IsSamePicture}
use Rattle.jpg_spec.specs.WholeBlocks.{HasWholeBlocks}
use Rattle.jpg_spec_move.specs.declared.area.Area.{Area}
use Rattle.jpg_spec_move.specs.declared.transform.Transform.{Transform}
use Rattle.jpg_spec_move.specs.declared.transform.Transform.TheVariants.{Keep, FlipH, FlipV, Transpose, Transverse, Rotate90, Rotate180, Rotate270}
use Rattle.jpg_spec_move.proofs.Transforming.{undone}

-- a picture with the numbers of another, and its own process and kept markers
abbrev as_in : Meaning → ℕ → ℕ → List PictureComponent → Blocks → Meaning
as_in M w h cs bs = record M { width = w; height = h; components = cs; blocks = bs }

-- transforms depend only on the picture
alike : (M N : Meaning) (t : Transform) → IsSamePicture (transformed t (as_in M N.width N.height N.components N.blocks)) (transformed t N)
alike M N Keep = record { width = refl; height = refl; components = refl; blocks = refl }
alike M N FlipH = record { width = refl; height = refl; components = refl; blocks = refl }
alike M N FlipV = record { width = refl; height = refl; components = refl; blocks = refl }
alike M N Transpose = record { width = refl; height = refl; components = refl; blocks = refl }
alike M N Rotate90 = record { width = refl; height = refl; components = refl; blocks = refl }
alike M N Rotate180 = record { width = refl; height = refl; components = refl; blocks = refl }
alike M N Rotate270 = record { width = refl; height = refl; components = refl; blocks = refl }
alike M N Transverse = record { width = refl; height = refl; components = refl; blocks = refl }

is_in : (M N : Meaning) → IsSamePicture M N → M ≡ as_in M N.width N.height N.components N.blocks
is_in M N s =
    ap (λ w. as_in M w M.height M.components M.blocks) s.width ∙ ap (λ h. as_in M N.width h M.components M.blocks) s.height
    ∙ ap (λ cs. as_in M N.width N.height cs M.blocks) s.components ∙ ap (λ bs. as_in M N.width N.height N.components bs) s.blocks

transformed_alike : (M N : Meaning) (t : Transform) → IsSamePicture M N → IsSamePicture (transformed t M) (transformed t N)
transformed_alike M N t s = subst (λ (K : Meaning). IsSamePicture (transformed t K) (transformed t N)) (sym (is_in M N s)) (alike M N t)

pub moved_back : (M M0 : Meaning) (t : Transform) (choice : Choice) → HasWholeBlocks M0 → UndoesTransform t choice → IsSamePicture M (transformed t M0) → IsSamePicture (moved choice M) M0
moved_back M M0 t choice w undoes s =
    let back : IsSamePicture (transformed (inverse t) M) M0 = subst (λ (K : Meaning). IsSamePicture (transformed (inverse t) M) K) (undone M0 t w) (transformed_alike M (transformed t M0) (inverse t) s) in
    let plain : IsSamePicture (headed_as choice (trimmed false (inverse t) (transformed (inverse t) (grayed false M)))) M0 = record { width = back.width; height = back.height; components = back.components; blocks = back.blocks } in
    subst (λ (o : Option Area). IsSamePicture (headed_as choice (cropped_by o (uncropped choice M))) M0) (sym undoes.whole)
    (subst (λ (u : Transform). IsSamePicture (headed_as choice (trimmed choice.trim u (transformed u (grayed choice.gray M)))) M0) (sym undoes.transform)
    (subst (λ (b : Bool). IsSamePicture (headed_as choice (trimmed b (inverse t) (transformed (inverse t) (grayed choice.gray M)))) M0) (sym undoes.untrimmed)
    (subst (λ (b : Bool). IsSamePicture (headed_as choice (trimmed false (inverse t) (transformed (inverse t) (grayed b M)))) M0) (sym undoes.ungrayed) plain)))
