use Rattle.std.proofs.Common.{◌≡◌, ℕ, ◌+◌, ◌-◌, ◌≤◌, length, sym, ap, ◌∙◌, arith}
use Rattle.jpg_spec_upright.specs.Exif.{entry_among}
use Rattle.jpg_exif.proofs.Entries.{met, passed}
use Rattle.jpg_exif.proofs.directory.entry_among.Goals as goal

pub returns-then-is_orientation-clause-found : goal.returns-then-is_orientation-clause-found
returns-then-is_orientation-clause-found c =
    let fits : c.loop.place + 12 ≤ length c.args.contents.now = omega (arith, c.if-contents-place-lt12.false, c.loop.invariant.1) in
    let some : 1 ≤ c.args.count - c.loop.counter = omega (arith, c.loop-test.true) in
    sym (c.loop.invariant.0 ∙ met c.args.little c.args.contents.now (c.args.count - c.loop.counter) c.loop.place some fits (sym c.is_orientation.ensures ∙ c.if-is_orientation.true))

pub loop-preserved : goal.loop-preserved
loop-preserved c =
    let fits : c.loop.place + 12 ≤ length c.args.contents.now = omega (arith, c.if-contents-place-lt12.false, c.loop.invariant.1) in
    let some : 1 ≤ c.args.count - c.loop.counter = omega (arith, c.loop-test.true) in
    let less : c.args.count - c.loop.counter - 1 ≡ c.args.count - (c.loop.counter + 1) = omega arith in (
      c.loop.invariant.0 ∙ passed c.args.little c.args.contents.now (c.args.count - c.loop.counter) c.loop.place some fits (sym c.is_orientation.ensures ∙ c.if-is_orientation.false)
          ∙ ap (λ (n : ℕ). entry_among c.args.little c.args.contents.now n (c.loop.place + 12)) less,
      fits,
    )
