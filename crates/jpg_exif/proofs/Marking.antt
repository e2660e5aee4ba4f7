-- The first segment of Exif data is marked upright.
use Rattle.std.proofs.Common.{◌≡◌, ℕ, List, [], Option, None, Some, sym, ap, ◌∙◌}
use Rattle.std.specs.Prelude.{slice_get, slice_set}
use Rattle.std.proofs.lemmas.List.{set-get_or}
use Rattle.std.proofs.lemmas.Option.{get_or_from_slice_get}
use Rattle.jpg_markers.specs.Kept.{with_byte_at}
use Rattle.jpg_spec_upright.specs.Exif.{marked_upright, orientation_by, orientation_in, orientation_of, turned_place, upright_by, upright_contents}
use Rattle.jpg_exif.specs.FirstExif.{IsFirstExif, member}

at_member : (kept : List (ℕ × List ℕ)) (i : ℕ) (s : ℕ × List ℕ) → slice_get kept i ≡ Some s → member kept i ≡ s
at_member kept i s e = get_or_from_slice_get kept i s (0, []) e

-- by the place of its orientation
marked_by : (kept : List (ℕ × List ℕ)) (i : ℕ) (s : ℕ × List ℕ) (o : Option ℕ) → IsFirstExif kept i → slice_get kept i ≡ Some s → turned_place s.1 ≡ o → marked_upright kept ≡ slice_set kept i (s.0, upright_by s.1 o)
marked_by kept i s o f e is =
    f.marked ∙ ap (λ (t : ℕ × List ℕ). slice_set kept i (t.0, upright_contents t.1)) (at_member kept i s e) ∙ ap (λ (p : Option ℕ). slice_set kept i (s.0, upright_by s.1 p)) is

pub orientation_is : (kept : List (ℕ × List ℕ)) (i : ℕ) (s : ℕ × List ℕ) (o : Option ℕ) → IsFirstExif kept i → slice_get kept i ≡ Some s → turned_place s.1 ≡ o → orientation_of kept ≡ orientation_by s.1 o
orientation_is kept i s o f e is = f.turned ∙ ap (λ (t : ℕ × List ℕ). orientation_in t.1) (at_member kept i s e) ∙ ap (orientation_by s.1) is

pub marked_none : (kept : List (ℕ × List ℕ)) (i : ℕ) (s : ℕ × List ℕ) → IsFirstExif kept i → slice_get kept i ≡ Some s → turned_place s.1 ≡ None → kept ≡ marked_upright kept
marked_none kept i s f e is = sym (marked_by kept i s None f e is ∙ ap (slice_set kept i) (sym (at_member kept i s e)) ∙ set-get_or kept i (0, []))

pub marked_some : (kept : List (ℕ × List ℕ)) (i : ℕ) (s : ℕ × List ℕ) (p : ℕ) → IsFirstExif kept i → slice_get kept i ≡ Some s → turned_place s.1 ≡ Some p → with_byte_at i p 1 kept ≡ marked_upright kept
marked_some kept i s p f e is =
    sym (marked_by kept i s (Some p) f e is ∙ ap (λ (t : ℕ × List ℕ). slice_set kept i (t.0, slice_set t.1 p 1)) (sym (at_member kept i s e)))
