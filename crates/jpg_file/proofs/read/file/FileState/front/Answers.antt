use Rattle.std.proofs.Common.{◌≡◌, ◌-◌, ◌+◌, ◌∙◌, ℕ, rules, ap, arith, length, min, subst, take, is_some}
use Rattle.jpg_file.specs.Read.Going.{has_waiting}
use Rattle.jpg_file.specs.Read.Passing.{PassesMost}
use Rattle.jpg_file.proofs.Files.FileSteps.{all_between, can_front, front_fills, front_passes, goes_segment, passes_most}
use Rattle.jpg_file.proofs.read.file.FileState.front.Goals as goal
use Rattle.jpg_file.specs.Read.File.{limits_of}

-- BETWEEN ITEMS

pub returns-in_default-clause-after : goal.returns-in_default-clause-after
returns-in_default-clause-after c =
    let most = c.min-most.ensures in
    let input = ap (λ l. l.input) c.limits.ensures in
    let o = c.requires.stands in
    let done = c.segments-done in
    let took = c.contents-n in
    front_passes c.args.self.now _ c.args.bytes.now (c.min-most.result - 1) _ (omega (arith, most, input, c.requires.some, c.requires.room)) (omega (arith, most, input, c.requires.some, c.requires.room)) (ap is_some c.in_default.is)
    (goes_segment c.args.self.now done.new.self took.new.self (take (c.min-most.result - 1) c.args.bytes.now) done.result took.result
    (can_front c.args.self.now o.0 o.1 c.args.bytes.now (c.min-most.result - 1) o.2 c.in_default.is (omega (arith, most, input, c.requires.some, c.requires.room)) (omega (arith, most, input, c.requires.some, c.requires.room))) done.ensures.after took.ensures.after)
    (took.ensures.keeps.keeping ∙ done.ensures.keeping) (λ s. (let n = done.ensures.sparing s in record { keeping = ap (λ s. s.0) took.ensures.keeps.keeping ∙ n.keeping; scanned = took.ensures.keeps.scanned ∙ n.scanned; room = took.ensures.keeps.room n.room }))

pub returns-in_default-clause-most : goal.returns-in_default-clause-most
returns-in_default-clause-most c =
    let w = c.args.self.now in
    let bytes = c.args.bytes.now in
    let is : c.min-most.result ≡ min (length bytes) ((limits_of w).input - w.taken) = omega (arith, c.min-most.ensures, ap (λ l. l.input) c.limits.ensures) in
    all_between w.scan w bytes (c.segments-done.result + c.contents-n.result) (ap is_some c.in_default.is)
    (subst (λ (m : ℕ). PassesMost w (take (m - 1) bytes) (c.segments-done.result + c.contents-n.result)) is
    (passes_most w c.segments-done.new.self (take (c.min-most.result - 1) bytes) c.segments-done.result c.contents-n.result c.segments-done.ensures.after c.segments-done.ensures.none c.contents-n.ensures.most))

-- INSIDE THE DATA of a scan

pub returns-clause-after : goal.returns-clause-after
returns-clause-after c =
    let most = c.min-most.ensures in
    let input = ap (λ l. l.input) c.limits.ensures in
    front_fills c.args.self.now c.args.bytes.now (c.min-most.result - 1) c.fill_length-n.result (omega (arith, most, input, c.requires.some, c.requires.room)) (omega (arith, most, input, c.requires.some, c.requires.room)) (ap is_some c.in-Some.is)
    c.fill_length-n.ensures.within c.fill_length-n.ensures.all (λ some. ap has_waiting c.in-Some.is ∙ (search rules))
