use Rattle.std.proofs.Common.{◌≡◌, ℕ, ◌+◌, ◌%◌, ◌<◌, ◌≤◌, ◌++◌, min, rules, List, length, take, get_or, sym, ap, ◌∙◌, subst, arith}
use Rattle.std.proofs.lemmas.List.{length-append, length-take-le}
use Rattle.jpg_spec.proofs.Basics.Common.{take_shorter}
use Rattle.jpg_spec_image.specs.Images.{Body}
use Rattle.jpg_spec_image.specs.ImageFaults.{ImageHead, body_of}
use Rattle.jpg_spec_image.specs.ImageSteps.{in_body, failed, run}
use Rattle.jpg_spec.specs.declared.fault.Fault.TheVariants.{ImageValue}
use Rattle.jpg_pnm_bmp.specs.Shapes.{body_view, AreBelow}
use Rattle.jpg_pnm_bmp.specs.Reader.{CanStretch, HoldsBodyPart}
use Rattle.jpg_pnm_bmp.proofs.Stretch.{PartFits, stretched, wrong_run}
use Rattle.jpg_pnm_bmp.proofs.read.work.Work.stretch.Goals as goal

-- a part of `long` bytes
fits : (b : Body) (at held long : ℕ) (part : List ℕ) → at ≡ held → length part ≡ long → (at < b.count → at + long ≤ b.count) → (0 < b.line → at % b.line < b.used → at % b.line + long ≤ b.used)
    → (0 < b.line → b.used ≤ at % b.line → at % b.line + long ≤ b.line) → PartFits b held part
fits b at held long part e l few along behind =
    subst (λ n. PartFits b n part) e
    (record {
      few = λ h. subst (λ n. at + n ≤ b.count) (sym l) (few h);
      along_samples = λ some h. subst (λ n. at % b.line + n ≤ b.used) (sym l) (along some h);
      after_samples = λ some h. subst (λ n. at % b.line + n ≤ b.line) (sym l) (behind some h);
    })

wrong : (head : ImageHead) (samples piece : List ℕ) (long k at : ℕ) (b : Body) → b ≡ body_of head → CanStretch head samples → at ≡ length samples → long ≤ length piece → (at < b.count → at + long ≤ b.count)
    → (0 < b.line → at % b.line < b.used → at % b.line + long ≤ b.used) → (0 < b.line → at % b.line < b.used) → k < length (take long piece) → AreBelow b.limit (take long piece) k → b.limit ≤ get_or (take long piece) k 0
    → run (in_body head samples) (take (k + 1) piece) ≡ failed ImageValue
wrong head samples piece long k at b e can same within few along judged h below above =
    subst (λ (x : Body). (at < x.count → at + long ≤ x.count) → (0 < x.line → at % x.line < x.used → at % x.line + long ≤ x.used) → (0 < x.line → at % x.line < x.used) → AreBelow x.limit (take long piece) k → x.limit ≤ get_or (take long piece) k 0 → run (in_body head samples) (take (k + 1) piece) ≡ failed ImageValue) (sym e)
    (λ few along judged below above.
    let l = length-take-le long piece within in
    let room = can.room in
    let line = along can.some (judged can.some) in
    let cnt = few (omega (arith, same, room)) in
    let line' : length samples % (body_of head).line + length (take long piece) ≤ (body_of head).used = subst (λ n. n % (body_of head).line + length (take long piece) ≤ (body_of head).used) same (subst (λ n. at % (body_of head).line + n ≤ (body_of head).used) (sym l) line) in
    ap (run (in_body head samples)) (sym (take_shorter (k + 1) long piece (omega (arith, h, l))))
    ∙ wrong_run head samples (take long piece) k h below above line' can.lined (omega (arith, l, same, cnt)))
    few along judged below above

-- the place after those that are given away and held
placed : (front samples : List ℕ) (before held at count most : ℕ) → length front ≡ before → held ≡ length samples → at ≡ min (before + held) most → count ≤ most → length (front ++ samples) < count → at ≡ length (front ++ samples)
placed front samples before held at count most long h is few room = let l = length-append front samples in omega (arith, l, long, h, is, few, room)

pub returns-in-Some-clause-led : goal.returns-in-Some-clause-led
returns-in-Some-clause-led c = λ head e front long can.
    let body : List ℕ = front ++ c.args.self.now.samples in
    let few : c.args.shape.count < 18446744073709551616 = search rules in
    let count = ap (λ (b : Body). b.count) e in
    let room = can.room in
    let at = placed front c.args.self.now.samples c.args.self.now.before c.held.result c.saturating_add-at.result c.args.shape.count 18446744073709551615 long c.held.ensures c.saturating_add-at.ensures (omega (arith, few)) (omega (arith, count, room)) in
    wrong head body c.args.piece.now c.part_long-long.result c.in-Some.wrong c.saturating_add-at.result (body_view c.args.shape) e can at c.part_long-long.ensures.within c.part_long-long.ensures.few c.part_long-long.ensures.along
    c.in-Some.ensures.judged c.in-Some.ensures.within c.in-Some.ensures.before c.in-Some.ensures.above

pub returns-in-None-clause-led : goal.returns-in-None-clause-led
returns-in-None-clause-led c = λ head e front long can.
    let body : List ℕ = front ++ c.args.self.now.samples in
    let few : c.args.shape.count < 18446744073709551616 = search rules in
    let count = ap (λ (b : Body). b.count) e in
    let room = can.room in
    let at = placed front c.args.self.now.samples c.args.self.now.before c.held.result c.saturating_add-at.result c.args.shape.count 18446744073709551615 long c.held.ensures c.saturating_add-at.ensures (omega (arith, few)) (omega (arith, count, room)) in
    let part = take c.part_long-long.result c.args.piece.now in
    let l : length part ≡ c.part_long-long.result = length-take-le c.part_long-long.result c.args.piece.now c.part_long-long.ensures.within in
    let some = c.part_long-long.ensures.some in
    let f : PartFits (body_view c.args.shape) (length body) part = fits (body_view c.args.shape) c.saturating_add-at.result (length body) c.part_long-long.result part at l c.part_long-long.ensures.few c.part_long-long.ensures.along c.part_long-long.ensures.behind in
    let below = subst (λ n. 0 < c.args.shape.line → n % c.args.shape.line < c.args.shape.used → AreBelow c.args.shape.limit part (length part)) at c.in-None.ensures.none in
    stretched front head c.args.self.now c.hold-answer.new.self part c.hold-answer.result long can (subst (λ b. PartFits b (length body) part) e f) (omega (arith, l, some))
    (subst (λ (b : Body). 0 < b.line → length body % b.line < b.used → AreBelow b.limit part (length part)) e below)
    (subst (λ (b : Body). HoldsBodyPart c.args.self.now part b.count c.hold-answer.result c.hold-answer.new.self) e c.hold-answer.ensures.part)

pub returns-in-None-clause-stays : goal.returns-in-None-clause-stays
returns-in-None-clause-stays c = c.hold-answer.ensures.stays
