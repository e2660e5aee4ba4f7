use Rattle.std.proofs.Common.{rules, ◌-◌, ◌++◌, ◌∷◌, [], ℕ, drop, ap, ◌∙◌, w16, to_z-of_z}
use Rattle.jpg_spec.specs.Elements.{zeros}
use Rattle.jpg_seq.specs.Work.{env_by, Work}
use Rattle.jpg_seq.proofs.Takings.{can_skip, element_takes, part_takes, shown_takes}
use Rattle.jpg_seq.proofs.work.UnitWork.element.Goals as goal

pub overflow_sub-length : goal.overflow_sub-length
overflow_sub-length c = (can_skip (env_by c.args.env.now) c.args.self.now c.args.store.now c.args.bits.now c.in-Bad.length c.args.have c.requires.work.part c.requires.have c.requires.next c.in-Bad.ensures.1 c.in-Bad.ensures.2.ends).0

pub skip-requires : goal.skip-requires
skip-requires c = (can_skip (env_by c.args.env.now) c.args.self.now c.args.store.now c.args.bits.now c.in-Bad.length c.args.have c.requires.work.part c.requires.have c.requires.next c.in-Bad.ensures.1 c.in-Bad.ensures.2.ends).1

pub overflow_sub-length-in-Value : goal.overflow_sub-length-in-Value
overflow_sub-length-in-Value c = (can_skip (env_by c.args.env.now) c.args.self.now c.args.store.now c.args.bits.now c.in-Value.length c.args.have c.requires.work.part c.requires.have c.requires.next c.in-Value.ensures.1 c.in-Value.ensures.2.ends).0

pub skip-requires-in-Value : goal.skip-requires-in-Value
skip-requires-in-Value c = (can_skip (env_by c.args.env.now) c.args.self.now c.args.store.now c.args.bits.now c.in-Value.length c.args.have c.requires.work.part c.requires.have c.requires.next c.in-Value.ensures.1 c.in-Value.ensures.2.ends).1

pub overflow_sub-length-in-Zeros : goal.overflow_sub-length-in-Zeros
overflow_sub-length-in-Zeros c = (can_skip (env_by c.args.env.now) c.args.self.now c.args.store.now c.args.bits.now c.in-Zeros.length c.args.have c.requires.work.part c.requires.have c.requires.next c.in-Zeros.ensures.1 c.in-Zeros.ensures.2.ends).0

pub skip-requires-in-Zeros : goal.skip-requires-in-Zeros
skip-requires-in-Zeros c = (can_skip (env_by c.args.env.now) c.args.self.now c.args.store.now c.args.bits.now c.in-Zeros.length c.args.have c.requires.work.part c.requires.have c.requires.next c.in-Zeros.ensures.1 c.in-Zeros.ensures.2.ends).1

pub returns-in-Part-clause-takes : goal.returns-in-Part-clause-takes
returns-in-Part-clause-takes c =
    part_takes (env_by c.args.env.now) c.args.self.now c.keep.new.self c.args.store.now c.keep.new.store c.args.bits.now c.requires.work.left c.requires.next c.in-Part.ensures.0 c.in-Part.ensures.1 c.keep.ensures.work c.keep.ensures.empty

pub returns-in-Bad-clause-takes : goal.returns-in-Bad-clause-takes
returns-in-Bad-clause-takes c =
    let s = c.args.self.now in
    shown_takes (env_by c.args.env.now) s s c.args.store.now c.skip.new.self c.args.bits.now c.in-Bad.length c.in-Bad.fault c.requires.work.part c.requires.next c.in-Bad.ensures.1 c.in-Bad.ensures.2
    (c.skip.ensures ∙ ap (λ (n : ℕ). drop (c.in-Bad.length - n) c.args.store.now) c.requires.have)

pub returns-in-Value-clause-takes : goal.returns-in-Value-clause-takes
returns-in-Value-clause-takes c =
    let s = c.args.self.now in
    let here = zeros c.in-Value.run' ++ c.in-Value.value ∷ [] in
    element_takes (env_by c.args.env.now) s c.place.new.self c.args.store.now c.skip-in-Value.new.self c.args.bits.now c.in-Value.length here c.covered.result c.requires.work.part c.requires.next c.in-Value.ensures.1 c.in-Value.ensures.2
    (c.skip-in-Value.ensures ∙ ap (λ (n : ℕ). drop (c.in-Value.length - n) c.args.store.now) c.requires.have)
    (rw (to_z-of_z {w = w16} {z = c.in-Value.value} (search rules)) at c.place.ensures ∙ ap (λ (w : Work). (let n : Work = record w { values = w.values ++ here } in n)) c.clear.ensures) c.covered.ensures

pub returns-in-Zeros-clause-takes : goal.returns-in-Zeros-clause-takes
returns-in-Zeros-clause-takes c =
    let s = c.args.self.now in
    element_takes (env_by c.args.env.now) s c.cover.new.self c.args.store.now c.skip-in-Zeros.new.self c.args.bits.now c.in-Zeros.length (zeros c.in-Zeros.count) c.covered-in-Zeros.result c.requires.work.part c.requires.next c.in-Zeros.ensures.1 c.in-Zeros.ensures.2
    (c.skip-in-Zeros.ensures ∙ ap (λ (n : ℕ). drop (c.in-Zeros.length - n) c.args.store.now) c.requires.have)
    (c.cover.ensures ∙ ap (λ (w : Work). (let n : Work = record w { values = w.values ++ zeros c.in-Zeros.count } in n)) c.clear-in-Zeros.ensures) c.covered-in-Zeros.ensures
