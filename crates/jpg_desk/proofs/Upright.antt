-- A picture that is turned upright, written as the picture with its marker marked.
use Rattle.std.proofs.Common.{◌≡◌, ℕ, Bool, true, false, cond, not, ◌==◌, List, [], ◌∷◌, ◌++◌, length, map, Option, None, refl, sym, ap, ◌∙◌, subst}
use Rattle.std.specs.Prelude.{filter, find, reverse, nat_le, codes}
use Rattle.jpg_base.specs.declared.names.Name.{Name}
use Rattle.jpg_base.specs.Desk.{DeskState}
use Rattle.jpg_spec.specs.Colours.{colours_of}
use Rattle.jpg_spec.specs.Jfif.{adobe_transform, begins_adobe, begins_jfif, is_adobe, is_jfif, jfif_of, parsed_jfif}
use Rattle.jpg_spec.specs.Lists.{begins_with}
use Rattle.jpg_spec.specs.Markers.{Segment}
use Rattle.jpg_spec.specs.Meaning.{Meaning, colour_of}
use Rattle.jpg_spec.specs.Segments.{standard_limits}
use Rattle.jpg_spec.specs.declared.jfif.Jfif.{Jfif}
use Rattle.jpg_spec.proofs.Basics.Common.{both, same_of}
use Rattle.jpg_spec.proofs.Writing.WrittenFront.{standard_are_limits}
use Rattle.jpg_spec_write.specs.WrittenFile.{IsRestart}
use Rattle.jpg_spec_write.specs.declared.picture_fault.PictureFault.{PictureFault}
use Rattle.jpg_spec_move.specs.Moved.{Choice, moved_text, picture_fault}
use Rattle.jpg_spec_upright.specs.Exif.{is_exif, marked_upright, upright_contents}
use Rattle.jpg_spec_upright.specs.Upright.{fault_for, marked, text_for, upright_choice}
use Rattle.jpg_spec_upright.proofs.MarkedWritten.{upright_means}
use Rattle.jpg_spec_upright.proofs.TurnedUpright.{exif_code}
use Rattle.jpg_file.specs.Read.PictureKept.{ArePictureParts, PictureParts, parts_meaning}
use Rattle.jpg_file.specs.Read.PictureRead.{picture_meaning}
use Rattle.jpg_file.specs.declared.read.picture.Picture.{Picture}
use Rattle.jpg_file.proofs.Headers.InForce.{filter_reverse, find_in}
use Rattle.jpg_desk.specs.Writing.{AfterMade, IsMeant, MeansUpright, WritesOwn, why_wrote}
use Rattle.jpg_desk.specs.declared.moved.Wrote.{Wrote}
use Rattle.jpg_desk.specs.declared.moved.Wrote.TheVariants as wrote

-- ITS TEXT means it

upright_right : (c : Choice) (M : Meaning) → fault_for true c M ≡ None → IsRestart c.restart → IsMeant M → MeansUpright true c M
upright_right c M none small (bytes, are, means) =
    upright_means true c M (text_for true c M)
    (record { limits = standard_limits; input = bytes; limited = standard_are_limits; are_bytes = are; means = means; faultless = none; small = small; text = refl })

pub upright_made : (c : Choice) (N M : Meaning) (p : Picture) (output : Name) (s1 s2 : DeskState) (w : Wrote) → N ≡ M → picture_meaning p ≡ marked N → WritesOwn (upright_choice c N) p output s1 w s2
    → AfterMade (fault_for true c M) (text_for true c M) (IsMeant M → MeansUpright true c M) output s1 (why_wrote w) s2
upright_made c N M p output s1 s2 w same is h = by w (subst (λ (K : Meaning). P K (marked K)) same (subst (λ (L : Meaning). P N L) is h))
  where
    P : Meaning → Meaning → Type 0
    P K L = AfterMade (picture_fault (upright_choice c K) L) (moved_text (upright_choice c K) L) (IsRestart c.restart) output s1 (why_wrote w) s2

    F : Option PictureFault
    F = fault_for true c M

    T : List ℕ
    T = text_for true c M

    by : (v : Wrote) → AfterMade F T (IsRestart c.restart) output s1 (why_wrote v) s2 → AfterMade F T (IsMeant M → MeansUpright true c M) output s1 (why_wrote v) s2
    by wrote.Done (none, out, small) = (none, out, upright_right c M none small)
    by other r = r

-- THE COLOURS AND THE JFIF HEADER are as before: Exif data are neither JFIF nor Adobe segments

-- segments that aren't APP1
abbrev is_other : Segment → Bool
is_other s = not (s.0 == 0xe1)

others_same : (kept : List Segment) → filter is_other (marked_upright kept) ≡ filter is_other kept
others_same [] = refl
others_same (s ∷ kept) = by (is_exif s) refl (others_same kept)
  where
    by : (b : Bool) → is_exif s ≡ b → filter is_other (marked_upright kept) ≡ filter is_other kept
        → filter is_other (cond b ((s.0, upright_contents s.1) ∷ kept) (s ∷ marked_upright kept)) ≡ filter is_other (s ∷ kept)
    by true e same =
        let none : is_other s ≡ false = ap (λ (n : ℕ). not (n == 0xe1)) (exif_code s e) in
        rw (none) refl
    by false e same = ap (λ (l : List Segment). cond (is_other s) (s ∷ l) l) same

jfif_other : (s : Segment) → is_jfif s ≡ true → is_other s ≡ true
jfif_other s e =
    let begins = (both (begins_jfif s.0 s.1) (nat_le 14 (length s.1)) e).0 in
    ap (λ (n : ℕ). not (n == 0xe1)) (same_of s.0 0xe0 (both (s.0 == 0xe0) (begins_with (codes "JFIF" ++ 0 ∷ []) s.1) begins).0)

adobe_other : (s : Segment) → is_adobe s ≡ true → is_other s ≡ true
adobe_other s e =
    let begins = (both (begins_adobe s.0 s.1) (nat_le 12 (length s.1)) e).0 in
    ap (λ (n : ℕ). not (n == 0xe1)) (same_of s.0 0xee (both (s.0 == 0xee) (begins_with (codes "Adobe") s.1) begins).0)

found_same : (test : Segment → Bool) → ((s : Segment) → test s ≡ true → is_other s ≡ true) → (kept : List Segment) → find test (reverse (marked_upright kept)) ≡ find test (reverse kept)
found_same test lets kept =
    sym (find_in test is_other lets (reverse (marked_upright kept))) ∙ ap (find test) (filter_reverse is_other (marked_upright kept)) ∙ ap (λ (l : List Segment). find test (reverse l)) (others_same kept)
    ∙ ap (find test) (sym (filter_reverse is_other kept)) ∙ find_in test is_other lets (reverse kept)

pub marked_jfif : (kept : List Segment) → jfif_of (marked_upright kept) ≡ jfif_of kept
marked_jfif kept = ap parsed_jfif (found_same is_jfif jfif_other kept)

marked_adobe : (kept : List Segment) → adobe_transform (marked_upright kept) ≡ adobe_transform kept
marked_adobe kept = let e = found_same is_adobe adobe_other kept in rw (e) refl

pub marked_colour : (M : Meaning) → colour_of (marked M) ≡ colour_of M
marked_colour M =
    let ids = map (λ c. c.id) M.components in
    ap (λ (j : Jfif). colours_of (length M.components) ids j.seen (adobe_transform (marked_upright M.kept))) (marked_jfif M.kept)
    ∙ ap (λ (a : Option ℕ). colours_of (length M.components) ids (jfif_of M.kept).seen a) (marked_adobe M.kept)

-- so the parts of a picture with marked markers are those of a picture
pub parts_marked : (p : PictureParts) (kept : List Segment) → kept ≡ marked_upright p.kept → ArePictureParts p → ArePictureParts (record p { kept = kept })
parts_marked p kept same is = subst (λ (ks : List Segment). ArePictureParts (record p { kept = ks })) (sym same)
    (record {
      frame = is.frame;
      tables = is.tables;
      quants = is.quants;
      grids = is.grids;
      range = is.range;
      colour = is.colour ∙ sym (marked_colour (parts_meaning p));
      jfif = is.jfif ∙ sym (marked_jfif p.kept);
    })
