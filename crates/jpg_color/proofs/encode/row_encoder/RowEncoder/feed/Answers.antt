use Rattle.std.proofs.Common.{◌≡◌, ◌++◌, ◌-◌, ◌≤◌, List, ℕ, length, drop, take, sym, subst, arith}
use Rattle.std.proofs.Math.Seq.{take-add}
use Rattle.std.proofs.lemmas.List.{length-drop, take_all}
use Rattle.jpg_color.specs.EncodeRows.{AddsEncoded}
use Rattle.jpg_color.proofs.RowsEncoded.{encoded_then}
use Rattle.jpg_color.proofs.encode.row_encoder.RowEncoder.feed.Goals as goal

pub take_some-requires-clause-has : goal.take_some-requires-clause-has
take_some-requires-clause-has c = (let r = c.requires.has in (r.0, r.1, r.2, r.3 ++ take c.loop-done.done c.args.samples.now, c.loop-done.invariant.2 r.0 r.1 r.2 r.3 r.4))

pub returns-clause-adds : goal.returns-clause-adds
returns-clause-adds c =
    subst (λ (xs : List ℕ). AddsEncoded c.args.self.now xs c.loop-done.self) (take_all c.loop-done.done c.args.samples.now c.loop-done-test.false) c.loop-done.invariant.2

pub loop-done-preserved : goal.loop-done-preserved
loop-done-preserved c =
    let done = c.loop-done.done in
    let samples = c.args.samples.now in
    let n = c.in_ok-done.field-0 in
    let rest = drop done samples in
    let all : take (length samples - done) rest ≡ rest = take_all (length samples - done) rest (omega (arith, length-drop done samples)) in
    let l : length rest ≡ length samples - done = length-drop done samples in
    let e = c.in_ok-done.ensures in
    let some = subst (λ (xs : List ℕ). n ≤ length xs) all e.some.1 in (
      omega (arith, some, l, c.loop-done.invariant.0),
      omega (arith, e.left, c.loop-done.invariant.1),
      subst (λ (xs : List ℕ). AddsEncoded c.args.self.now xs c.take_some.new.self) (sym (take-add done n samples))
          (encoded_then c.args.self.now c.loop-done.self c.take_some.new.self (take done samples) (take n rest) c.loop-done.invariant.2
          (subst (λ (xs : List ℕ). AddsEncoded c.loop-done.self (take n xs) c.take_some.new.self) all e.adds)),
    )
