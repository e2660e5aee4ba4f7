use Rattle.std.proofs.Common.{ℕ, List, sym, subst, ◌∙◌}
use Rattle.jpg_markers.specs.Kept.{kept_pair}
use Rattle.jpg_exif.proofs.Firsts.{NoneBefore, found_first, passed_one}
use Rattle.jpg_exif.proofs.upright.first_exif.Goals as goal

pub returns-then-is_exif-clause-found : goal.returns-then-is_exif-clause-found
returns-then-is_exif-clause-found c =
    let left = subst (λ (l : List (ℕ × List ℕ)). NoneBefore c.args.kept.now l c.loop-index.index) c.in-Some.ensures.next c.loop-index.invariant in
    found_first c.args.kept.now c.next.new.self c.loop-index.index (kept_pair c.in-Some.member) left (sym c.is_exif.ensures ∙ c.if-is_exif.true)

pub loop-index-preserved : goal.loop-index-preserved
loop-index-preserved c =
    let left = subst (λ (l : List (ℕ × List ℕ)). NoneBefore c.args.kept.now l c.loop-index.index) c.in-Some.ensures.next c.loop-index.invariant in
    passed_one c.args.kept.now c.next.new.self c.loop-index.index (kept_pair c.in-Some.member) left (sym c.is_exif.ensures ∙ c.if-is_exif.false)
