use Rattle.std.proofs.Common.{rules, ◌≡◌, length, sym, ap, subst, arith, true, false}
use Rattle.jpg_spec.specs.Geometry.{Frame, is_progressive}
use Rattle.jpg_spec.specs.Segments.{ScanHead}
use Rattle.jpg_spec.proofs.Basics.Common.{clash}
use Rattle.jpg_file.specs.Read.Strips.{IsHeadOfAll, contents_held}
use Rattle.jpg_file.proofs.ByRow.StripBegin.{none_other, head_found, frame_there}
use Rattle.jpg_file.proofs.read.file.FileState.head_of_all.Goals.{then-is_progressive-via-then-is_progressive, then-is_progressive-via-else-is_progressive+then-len-count}
use Rattle.jpg_file.proofs.read.file.FileState.head_of_all.Goals as goal

pub returns-in_default-clause-none : goal.returns-in_default-clause-none
returns-in_default-clause-none c = λ limits bytes h. absurd (frame_there limits bytes c.args.self.now h (search rules))

pub returns-then-is_progressive-clause-none : goal.returns-then-is_progressive-clause-none
returns-then-is_progressive-clause-none c = λ limits bytes h rule all.
    let w = c.args.self.now in
    let f = c.in-Some.frame in
    let head = c.in-Ok.head in
    none_other limits bytes w f head c.contents.result.now h (search rules) (search rules) c.in-Ok.ensures
    (λ sequential count. elim c.then-is_progressive.branch [
      | then-is_progressive-via-then-is_progressive v ↦ (let x : is_progressive f.process ≡ true = search rules in clash (is_progressive f.process) x sequential)
      | then-is_progressive-via-else-is_progressive+then-len-count v ↦ omega (arith, count, v.len.ensures.value, v.count.ensures.value, v.if-len-count.true, ap (λ (x : ScanHead). length x.parts) c.head.view_is)
    ])
    all

pub returns-clause-head : goal.returns-clause-head
returns-clause-head c = λ limits bytes h.
    let w = c.args.self.now in
    let f = c.in-Some.frame in
    let head = c.in-Ok.head in
    let sequential : is_progressive f.process ≡ false = search rules in
    let count : length head.parts ≡ length f.components = omega (arith, c.len.ensures.value, c.count.ensures.value, c.if-len-count.false, ap (λ (x : ScanHead). length x.parts) c.head.view_is) in
    subst (λ (g : Frame). IsHeadOfAll limits h.items (contents_held w) g head) (sym c.copy.ensures) (head_found limits bytes w f head c.contents.result.now h (search rules) (search rules) sequential count c.in-Ok.ensures)
