-- Pictures turned upright: they have orientation 1, and are displayed as before.
use Rattle.std.proofs.Common.{◌≡◌, ℕ, Bool, true, false, cond, not, ◌&&◌, ◌==◌, List, [], ◌∷◌, Option, None, Some, refl, sym, ap, ◌∙◌, subst}
use Rattle.std.specs.Prelude.{filter}
use Rattle.std.proofs.lemmas.Bool.{and_parts, true≢false}
use Rattle.jpg_spec.specs.Jfif.{begins_adobe, begins_jfif, jfif_of}
use Rattle.jpg_spec.specs.Meaning.{Meaning, colour_of}
use Rattle.jpg_spec.specs.declared.frame.Colour.{Colour}
use Rattle.jpg_spec.specs.declared.frame.Colour.TheVariants.{Gray, YCbCr, Rgb, Cmyk, Ycck, Unknown}
use Rattle.jpg_spec.specs.declared.frame.Copying.{Copying}
use Rattle.jpg_spec.specs.declared.frame.Copying.TheVariants as copying
use Rattle.jpg_spec.specs.declared.jfif.Jfif.{Jfif}
use Rattle.jpg_spec_write.specs.Headed.{copied, headed_kept}
use Rattle.jpg_spec_move.specs.Cropped.{cropped_by}
use Rattle.jpg_spec_move.specs.Moved.{Choice, IsSamePicture, grayed, headed_as, moved, trimmed, uncropped}
use Rattle.jpg_spec_move.specs.Transforms.{transformed}
use Rattle.jpg_spec_move.specs.declared.area.Area.{Area}
use Rattle.jpg_spec_move.specs.declared.transform.Transform.{Transform}
use Rattle.jpg_spec_move.specs.declared.transform.Transform.TheVariants.{Keep, FlipH, FlipV, Transpose, Transverse, Rotate90, Rotate180, Rotate270}
use Rattle.jpg_spec_upright.specs.Exif.{is_exif, marked_upright, orientation_in, orientation_of}
use Rattle.jpg_spec_upright.specs.Laws.{LeavesNothing}
use Rattle.jpg_spec_upright.specs.Upright.{marked, moved_for, shown, transform_for, upright_choice}
use Rattle.jpg_spec.proofs.Basics.Common.{same_of}
use Rattle.jpg_spec_upright.proofs.Marked.{marked_one}

-- MARKERS THAT ARE LEFT OUT

-- the code of Exif data
pub exif_code : (s : ℕ × List ℕ) → is_exif s ≡ true → s.0 ≡ 0xe1
exif_code s e = same_of s.0 0xe1 (and_parts (s.0 == 0xe1) _ e).0

-- of markers among which all Exif data remain
remains : (test : ℕ × List ℕ → Bool) → ((s : ℕ × List ℕ) → is_exif s ≡ true → test s ≡ true) → (kept : List (ℕ × List ℕ)) → orientation_of (filter test kept) ≡ orientation_of kept
remains test all [] = refl
remains test all (s ∷ kept) = by (remains test all kept) (is_exif s) refl (test s) refl
  where
    by : orientation_of (filter test kept) ≡ orientation_of kept → (b : Bool) → is_exif s ≡ b → (k : Bool) → test s ≡ k → orientation_of (cond k (s ∷ filter test kept) (filter test kept)) ≡ cond b (orientation_in s.1) (orientation_of kept)
    by others true e true k = ap (λ (b : Bool). cond b (orientation_in s.1) (orientation_of (filter test kept))) e
    by others true e false k = absurd (true≢false (sym (all s e) ∙ k))
    by others false e true k = ap (λ (b : Bool). cond b (orientation_in s.1) (orientation_of (filter test kept))) e ∙ others
    by others false e false k = others

-- of markers among which none remain
without : (test : ℕ × List ℕ → Bool) → ((s : ℕ × List ℕ) → test s ≡ true → is_exif s ≡ false) → (kept : List (ℕ × List ℕ)) → orientation_of (filter test kept) ≡ 1
without test none [] = refl
without test none (s ∷ kept) = by (without test none kept) (test s) refl
  where
    by : orientation_of (filter test kept) ≡ 1 → (k : Bool) → test s ≡ k → orientation_of (cond k (s ∷ filter test kept) (filter test kept)) ≡ 1
    by others true k = ap (λ (b : Bool). cond b (orientation_in s.1) (orientation_of (filter test kept))) (none s k) ∙ others
    by others false k = others

not_jfif : (s : ℕ × List ℕ) → is_exif s ≡ true → not (begins_jfif s.0 s.1) ≡ true
not_jfif s e = ap (λ (n : ℕ). not (begins_jfif n s.1)) (exif_code s e)

not_adobe : (s : ℕ × List ℕ) → is_exif s ≡ true → not (begins_adobe s.0 s.1) ≡ true
not_adobe s e = ap (λ (n : ℕ). not (begins_adobe n s.1)) (exif_code s e)

no_comment : (s : ℕ × List ℕ) → (s.0 == 0xfe) ≡ true → is_exif s ≡ false
no_comment s e = ap (λ (n : ℕ). is_exif (n, s.1)) (same_of s.0 0xfe e)

headed_one : (colour : Colour) (j : Jfif) (kept : List (ℕ × List ℕ)) → orientation_of kept ≡ 1 → orientation_of (headed_kept colour j kept) ≡ 1
headed_one Gray j kept one = remains (λ s. not (begins_jfif s.0 s.1)) not_jfif kept ∙ one
headed_one YCbCr j kept one = remains (λ s. not (begins_jfif s.0 s.1)) not_jfif kept ∙ one
headed_one Rgb j kept one = remains (λ s. not (begins_adobe s.0 s.1)) not_adobe kept ∙ one
headed_one Cmyk j kept one = remains (λ s. not (begins_adobe s.0 s.1)) not_adobe kept ∙ one
headed_one Ycck j kept one = remains (λ s. not (begins_adobe s.0 s.1)) not_adobe kept ∙ one
headed_one Unknown j kept one = one

copied_one : (c : Copying) (kept : List (ℕ × List ℕ)) → orientation_of kept ≡ 1 → orientation_of (copied c kept) ≡ 1
copied_one copying.None kept one = refl
copied_one copying.Comments kept one = without (λ s. s.0 == 0xfe) no_comment kept
copied_one copying.All kept one = one

-- MARKERS OF A MOVED PICTURE before its header

gray_kept : (gray : Bool) (M : Meaning) → (grayed gray M).kept ≡ M.kept
gray_kept true M = refl
gray_kept false M = refl

turned_kept : (t : Transform) (M : Meaning) → (transformed t M).kept ≡ M.kept
turned_kept Keep M = refl
turned_kept FlipH M = refl
turned_kept FlipV M = refl
turned_kept Transpose M = refl
turned_kept Transverse M = refl
turned_kept Rotate90 M = refl
turned_kept Rotate180 M = refl
turned_kept Rotate270 M = refl

trimmed_kept : (trim : Bool) (t : Transform) (M : Meaning) → (trimmed trim t M).kept ≡ M.kept
trimmed_kept true t M = refl
trimmed_kept false t M = refl

cropped_kept : (crop : Option Area) (M : Meaning) → (cropped_by crop M).kept ≡ M.kept
cropped_kept None M = refl
cropped_kept (Some area) M = refl

kept_stays : (choice : Choice) (M : Meaning) → (cropped_by choice.crop (uncropped choice M)).kept ≡ M.kept
kept_stays choice M =
    cropped_kept choice.crop (uncropped choice M) ∙ trimmed_kept choice.trim choice.transform (transformed choice.transform (grayed choice.gray M)) ∙ turned_kept choice.transform (grayed choice.gray M) ∙ gray_kept choice.gray M

moved_one : (choice : Choice) (M : Meaning) → orientation_of M.kept ≡ 1 → orientation_of (moved choice M).kept ≡ 1
moved_one choice M one =
    let N = cropped_by choice.crop (uncropped choice M) in
    headed_one (colour_of N) (jfif_of N.kept) (copied choice.copying N.kept) (copied_one choice.copying N.kept (ap orientation_of (kept_stays choice M) ∙ one))

pub upright_one : (choice : Choice) (M : Meaning) → orientation_of (moved_for true choice M).kept ≡ 1
upright_one choice M = moved_one (upright_choice choice M) (marked M) (marked_one M.kept)

-- THE PICTURE

-- with other markers the blocks are the same
marked_alike : (t : Transform) (M : Meaning) → IsSamePicture (transformed t (marked M)) (transformed t M)
marked_alike Keep M = record { width = refl; height = refl; components = refl; blocks = refl }
marked_alike FlipH M = record { width = refl; height = refl; components = refl; blocks = refl }
marked_alike FlipV M = record { width = refl; height = refl; components = refl; blocks = refl }
marked_alike Transpose M = record { width = refl; height = refl; components = refl; blocks = refl }
marked_alike Transverse M = record { width = refl; height = refl; components = refl; blocks = refl }
marked_alike Rotate90 M = record { width = refl; height = refl; components = refl; blocks = refl }
marked_alike Rotate180 M = record { width = refl; height = refl; components = refl; blocks = refl }
marked_alike Rotate270 M = record { width = refl; height = refl; components = refl; blocks = refl }

-- the picture of a choice that leaves nothing out is the transformed one
plain : (choice : Choice) (M : Meaning) → LeavesNothing choice → IsSamePicture (moved choice M) (transformed choice.transform M)
plain choice M n =
    let t = choice.transform in
    let here : IsSamePicture (headed_as choice (trimmed false t (transformed t (grayed false M)))) (transformed t M) = record { width = refl; height = refl; components = refl; blocks = refl } in
    subst (λ (o : Option Area). IsSamePicture (headed_as choice (cropped_by o (uncropped choice M))) (transformed t M)) (sym n.whole)
    (subst (λ (b : Bool). IsSamePicture (headed_as choice (trimmed b t (transformed t (grayed choice.gray M)))) (transformed t M)) (sym n.untrimmed)
    (subst (λ (b : Bool). IsSamePicture (headed_as choice (trimmed false t (transformed t (grayed b M)))) (transformed t M)) (sym n.ungrayed) here))

then_same : (L M N : Meaning) → IsSamePicture L M → IsSamePicture M N → IsSamePicture L N
then_same L M N a b = record { width = a.width ∙ b.width; height = a.height ∙ b.height; components = a.components ∙ b.components; blocks = a.blocks ∙ b.blocks }

-- what is displayed of an upright picture is the picture
upright_shown : (M : Meaning) → orientation_of M.kept ≡ 1 → shown M ≡ M
upright_shown M one = ap (λ (o : ℕ). transformed (transform_for o) M) one

pub shown_alike : (choice : Choice) (M : Meaning) → LeavesNothing choice → IsSamePicture (shown (moved_for true choice M)) (shown M)
shown_alike choice M n =
    let t = transform_for (orientation_of M.kept) in
    let out = moved_for true choice M in
    let turned = plain (upright_choice choice M) (marked M) (record { untrimmed = n.untrimmed; ungrayed = n.ungrayed; whole = n.whole }) in
    subst (λ (K : Meaning). IsSamePicture K (shown M)) (sym (upright_shown out (upright_one choice M))) (then_same out (transformed t (marked M)) (transformed t M) turned (marked_alike t M))

-- turned upright again
again_alike : (choice : Choice) (M : Meaning) → LeavesNothing choice → orientation_of M.kept ≡ 1 → IsSamePicture (moved_for true choice M) M
again_alike choice M n one =
    let t = transform_for (orientation_of M.kept) in
    let turned = plain (upright_choice choice M) (marked M) (record { untrimmed = n.untrimmed; ungrayed = n.ungrayed; whole = n.whole }) in
    then_same (moved_for true choice M) (transformed t (marked M)) M turned
    (subst (λ (K : Meaning). IsSamePicture (transformed t (marked M)) K) (upright_shown M one) (marked_alike t M))

pub upright_again : (first second : Choice) (M : Meaning) → LeavesNothing second → IsSamePicture (moved_for true second (moved_for true first M)) (moved_for true first M)
upright_again first second M n = again_alike second (moved_for true first M) n (upright_one first M)
