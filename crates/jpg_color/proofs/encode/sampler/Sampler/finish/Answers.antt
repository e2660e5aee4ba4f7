use Rattle.std.proofs.Common.{◌≡◌, ◌∙◌, ◌==◌, ◌&&◌, refl, ap, subst, sym}
use Rattle.jpg_spec.specs.FrameHeader.{IsFrame}
use Rattle.jpg_spec.specs.Geometry.{Frame, mcus_down}
use Rattle.jpg_spec.specs.Segments.{AreQuantisers}
use Rattle.jpg_spec.proofs.Basics.Common.{both, same_of}
use Rattle.jpg_spec_write.specs.WrittenFile.{HasBlocksIn}
use Rattle.jpg_color.specs.EncodedParts.{HasAllRows, blocks_of}
use Rattle.jpg_color.proofs.EncodedPictures.{parts_due, put_together}
use Rattle.jpg_color.proofs.EncodedViews.{all_rows, blocks_in, finished}
use Rattle.jpg_color.proofs.encode.sampler.Sampler.finish.Goals as goal

pub invariant_of-result : goal.invariant_of-result
invariant_of-result c =
    let s = c.args.self in
    let all = both (s.dropped == 0) (s.made == mcus_down s.frame && s.left == 0) (sym c.is_all.ensures ∙ c.if-not-is_all.false) in
    let none = same_of s.dropped 0 all.0 in
    let done = both (s.made == mcus_down s.frame) (s.left == 0) all.1 in
    let head = c.in_ok-head.ensures in
    let together = put_together s.info s.encoding _ _ s.keeps.can s.keeps.none (subst IsFrame s.keeps.frame s.keeps.checked) head in
    let frame : c.in_ok-head.head.frame ≡ s.frame = head.frame ∙ sym s.keeps.frame in
    let rows = all_rows s.keeps.checked none (same_of s.made (mcus_down s.frame) done.0) s.keeps.planes in
    let eight : s.frame.precision ≡ 8 = ap (λ (f : Frame). f.precision) s.keeps.frame in
    let range = blocks_in s.frame s.planes _ _ eight (subst AreQuantisers (sym c.divisors_of-first.ensures) s.keeps.can.first) (subst AreQuantisers (sym c.divisors_of-others.ensures) s.keeps.can.others) rows in
    record {
      keeps = parts_due s.info s.encoding _ together (subst (λ (f : Frame). HasBlocksIn f (blocks_of s.planes c.divisors_of-first.result c.divisors_of-others.result)) (sym frame) range);
      rows = subst (λ (f : Frame). HasAllRows f s.planes) (sym frame) rows;
    }

pub returns : goal.returns
returns c =
    let s = c.args.self in
    let all = both (s.dropped == 0) (s.made == mcus_down s.frame && s.left == 0) (sym c.is_all.ensures ∙ c.if-not-is_all.false) in
    let none = same_of s.dropped 0 all.0 in
    let done = both (s.made == mcus_down s.frame) (s.left == 0) all.1 in
    let head = c.in_ok-head.ensures in
    let together = put_together s.info s.encoding _ _ s.keeps.can s.keeps.none (subst IsFrame s.keeps.frame s.keeps.checked) head in
    let frame : c.in_ok-head.head.frame ≡ s.frame = head.frame ∙ sym s.keeps.frame in
    finished s _ together
    refl none (same_of s.made (mcus_down s.frame) done.0 ∙ ap mcus_down (sym frame)) (same_of s.left 0 done.1) c.divisors_of-first.ensures c.divisors_of-others.ensures
