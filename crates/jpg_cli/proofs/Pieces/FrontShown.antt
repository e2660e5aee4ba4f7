-- Showing the front of a picture's file: reading it, and then writing its image.
use Rattle.std.proofs.Common.{◌≡◌, ℕ, Bool, List, [], ◌∷◌, take, Option, None, Some, refl, ap, ◌∙◌, subst, arith, inr}
use Rattle.jpg_base.specs.declared.names.Put.TheVariants as put
use Rattle.jpg_base.specs.Desk.{DeskState, NotesName}
use Rattle.jpg_base.specs.Laws.{Grows}
use Rattle.jpg_spec.specs.Meaning.{Meaning}
use Rattle.jpg_spec.specs.declared.frame.Copying.TheVariants.{All}
use Rattle.jpg_spec_image.specs.Pixels.{out_fault}
use Rattle.jpg_spec_words.specs.declared.answers.Why.{Why}
use Rattle.jpg_spec_words.specs.declared.answers.Why.TheVariants as why
use Rattle.jpg_spec_words.specs.declared.answers.Which.TheVariants as which
use Rattle.jpg_color.specs.DecodeRows.{picture_text}
use Rattle.jpg_file.specs.Read.PictureRead.{MeansFor, picture_meaning}
use Rattle.jpg_file.specs.declared.read.picture.Picture.{Picture}
use Rattle.jpg_desk.specs.ReadFront.{IsReadFront}
use Rattle.jpg_cli.specs.Outcome.{ReadsValue, WritesPart}
use Rattle.jpg_cli.specs.Tools.FrontShown.{FrontShown, front_conversion}
use Rattle.jpg_cli.specs.Tools.Showing.{AfterImage, Showing, shown_text}
use Rattle.jpg_desk.proofs.Endings.{asks_next}
use Rattle.jpg_cli.proofs.ByRow.ImageShown.{text_shown}
use Rattle.jpg_desk.proofs.KeepingLaws.{out_same}
use Rattle.jpg_cli.proofs.Outcomes.Outcome.{HasValueRead, value_on, wrote_on}

module _ (scans : ℕ) (s : Showing) (M : Meaning) (early : Option ℕ) (s0 s1 s2 : DeskState) (h : HasValueRead Meaning (front_conversion scans s) M early s0 s1 s2) where
  front_read : ReadsValue Meaning (front_conversion scans s) M early None s0 s2
  front_read = value_on Meaning (front_conversion scans s) M early s0 s1 s2 h None refl

  read_as : (o : Option ℕ) → early ≡ o → ReadsValue Meaning (front_conversion scans s) M o None s0 s2
  read_as o is = subst (λ (x : Option ℕ). ReadsValue Meaning (front_conversion scans s) M x None s0 s2) is front_read

  abbrev in_part : (n : ℕ) → NotesName s1.asked (s.output, put.Done) s2.asked → Grows s1.outputs (s.output, take n (shown_text s M)) s2.outputs → WritesPart Meaning (front_conversion scans s) s0 s2
  in_part n noted grows = record { value = M; early = early; count = n; read = front_read; wrote = wrote_on Meaning (front_conversion scans s) M early s0 s1 s2 h (take n (shown_text s M)) noted grows }

  front_written : (w : Why) → AfterImage s.output early s1 (shown_text s M) w s2 → FrontShown scans s s0 w s2
  front_written why.Done (whole, noted, grows) = (M, (read_as None whole, wrote_on Meaning (front_conversion scans s) M early s0 s1 s2 h (shown_text s M) noted grows, tt))
  front_written (why.Warned n) (cut, noted, grows) = (M, (read_as (Some n) cut, wrote_on Meaning (front_conversion scans s) M early s0 s1 s2 h (shown_text s M) noted grows, tt))
  front_written (why.OpenFault which.Output) (noted, rose, same) = (
    record {
      stopped = record { asked = asks_next s0 s1 s2 (s.input ∷ []) s.output put.Failed h.asked noted; outputs = same ∙ h.kept.outputs };
      opens = (let f = h.kept.works.stays.counts.opens in omega (arith, rose, f));
    },
    (M, early, front_read),
  )
  front_written why.WriteFault (noted, rose, (n, grows)) = ((let f = h.kept.works.stays.counts.writes in omega (arith, rose, f)), in_part n noted grows)
  front_written why.NoMemory (noted, (n, less, grows)) = inr (record { part = in_part n noted grows; left = less })
  front_written other k = absurd k

  -- as its picture was written
  pub front_drawn : (p : Picture) (w : Why) → MeansFor All p M → AfterImage s.output early s1 (picture_text s.kind p s.gray s.smooth) w s2 → FrontShown scans s s0 w s2
  front_drawn p w means wrote = front_written w (subst (λ (due : List ℕ). AfterImage s.output early s1 due w s2) (ap (shown_text s) means ∙ text_shown s All M) wrote)

-- the picture of a front that was read can be displayed
pub front_admitted : (scans : ℕ) (gray : Bool) (M : Meaning) (early : Option ℕ) (rest bytes : List ℕ) (p : Picture) → MeansFor All p M → IsReadFront scans gray M early rest bytes → out_fault gray (picture_meaning p) ≡ None
front_admitted scans gray M None rest bytes p means h = ap (out_fault gray) means ∙ out_same All gray M ∙ h.wanted
front_admitted scans gray M (Some n) rest bytes p means h = ap (out_fault gray) means ∙ out_same All gray M ∙ h.wanted
