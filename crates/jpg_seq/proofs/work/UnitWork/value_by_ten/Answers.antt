use Rattle.std.proofs.Common.{rules, ◌-◌, ◌++◌, ◌∷◌, [], arith, length, w16, to_z-of_z}
use Rattle.jpg_spec.specs.Elements.{zeros}
use Rattle.jpg_seq.specs.Work.{env_by}
use Rattle.jpg_seq.proofs.Takings.{entry_element, entry_end, no_place, none_placed, short_end, short_value, no_part}
use Rattle.jpg_seq.proofs.work.UnitWork.value_by_ten.Goals as goal

pub returns-then-at-entry-lt64-clause-takes : goal.returns-then-at-entry-lt64-clause-takes
returns-then-at-entry-lt64-clause-takes c = λ is.
    (let entry = c.in-Some.entry in let s = c.args.self.now in let e = env_by c.args.env.now in
    let here = zeros entry.run ++ entry.value ∷ [] in
    let first = short_value e.ac c.args.store.now entry c.in-Some.ensures.value (omega (arith, c.if-at-entry-lt64.true)) in (
      entry.length,
      here,
      omega (arith, first.sum, first.some),
      c.in-Some.ensures.fits.1,
      entry_element e s.values c.args.store.now entry c.requires.sane c.apart.ensures.one c.requires.left.0 c.requires.left.1 first (omega (arith, c.if-at-entry-lt64.true, c.count-at.ensures.value)),
      c.skip_few.ensures,
      no_part s c.place.new.self (s.values ++ here) c.requires.none (rw (to_z-of_z {w = w16} {z = entry.value} (search rules)) at c.place.ensures),
    ))

pub returns-then-entry-eq-END_RUN-clause-takes : goal.returns-then-entry-eq-END_RUN-clause-takes
returns-then-entry-eq-END_RUN-clause-takes c = λ is.
    (let entry = c.in-Some.entry in let s = c.args.self.now in let e = env_by c.args.env.now in
    let here = zeros (64 - length s.values) in
    let first = short_end e.ac c.args.store.now entry c.in-Some.ensures.value c.if-entry-eq-END_RUN.true in (
      entry.length,
      here,
      first.some,
      first.there,
      entry_end e s.values c.args.store.now entry c.requires.sane c.apart.ensures.one c.requires.left.0 c.requires.left.1 first,
      c.skip_few-then-entry-eq-END_RUN.ensures,
      no_part s c.cover.new.self (s.values ++ here) c.requires.none (rw c.count-at.ensures.value at c.cover.ensures),
    ))

pub returns-else-entry-eq-END_RUN-clause-none : goal.returns-else-entry-eq-END_RUN-clause-none
returns-else-entry-eq-END_RUN-clause-none c = λ is.
    no_place c.args.env.now.coder.now.ac (length c.args.self.now.values) c.args.store.now c.in-Some.entry c.apart.ensures.one c.in-Some.ensures.value (omega (arith, c.if-at-entry-lt64.false, c.count-at.ensures.value)) c.if-entry-eq-END_RUN.false

pub returns-in_default-clause-none : goal.returns-in_default-clause-none
returns-in_default-clause-none c = λ is. none_placed c.args.env.now.coder.now.ac (length c.args.self.now.values) c.args.store.now c.in_default.ensures.value
