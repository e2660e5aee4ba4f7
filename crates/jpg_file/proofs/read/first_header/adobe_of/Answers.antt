use Rattle.std.proofs.Common.{List, [], ◌∷◌, ◌++◌, ◌∙◌, Option, sym, ap, cond, Some, ℕ, slice_index, append_assoc}
use Rattle.jpg_spec.specs.Jfif.{is_adobe}
use Rattle.jpg_spec.specs.Markers.{Segment}
use Rattle.jpg_markers.specs.Kept.{kept_pair}
use Rattle.jpg_file.proofs.Headers.InForce.{adobe_more}
use Rattle.jpg_file.proofs.read.first_header.adobe_of.Goals as goal

pub loop-marker-preserved : goal.loop-marker-preserved
loop-marker-preserved c =
    let (before, joined, told) = c.loop-marker.invariant in
    let s = kept_pair c.in-Some.marker in (
      before ++ s ∷ [],
      append_assoc before (s ∷ []) c.next.new.self ∙ ap (λ (l : List Segment). before ++ l) (sym c.in-Some.ensures.next) ∙ joined,
      c.transform_after-last.ensures ∙ ap (λ (o : Option ℕ). cond (is_adobe s) (Some (slice_index s.1 11)) o) told ∙ sym (adobe_more before s),
    )
