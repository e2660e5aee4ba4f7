use Rattle.std.proofs.Common.{◌≡◌, ◌⊎◌, ◌∙◌, ◌+◌, ◌-◌, ◌≤◌, length, take, refl, sym, ap, arith, inl, inr, ⊎_elim}
use Rattle.std.proofs.lemmas.List.{length-take-le}
use Rattle.jpg_color.specs.SamplerState.{strip_room}
use Rattle.jpg_color.proofs.Sampling.{adds_part, adds_row, complete_yes, factors_of, keeps_after, whole_now}
use Rattle.jpg_color.proofs.encode.sampler.Sampler.take_some.Goals as goal

pub returns-then-not-is_complete-clause-adds : goal.returns-then-not-is_complete-clause-adds
returns-then-not-is_complete-clause-adds c =
    let s = c.args.self.now in
    let n = c.min-count.result in
    let few : n ≤ length c.args.samples.now = omega (arith, c.min-count.ensures) in
    let some : 1 ≤ s.left = omega (arith, c.requires.some, c.requires.most) in
    let long = length-take-le n c.args.samples.now few in
    adds_part s _ (take n c.args.samples.now) some refl refl refl refl refl c.in_ok-push_all.ensures.whole (omega (arith, long, few, c.requires.most))

pub make_row-requires-clause-whole : goal.make_row-requires-clause-whole
make_row-requires-clause-whole c =
    let s = c.args.self.now in
    let n = c.min-count.result in
    let had : length c.as_slice-had.result.now ≡ length s.pending = ap length c.as_slice-had.ensures in
    let room : c.strip_room-room.result ≡ strip_room s.info s.frame = c.strip_room-room.ensures.value in
    let few : n ≤ length c.args.samples.now = omega (arith, c.min-count.ensures) in
    let some : 1 ≤ s.left = omega (arith, c.requires.some, c.requires.most) in
    let short = s.keeps.short some in
    let one : 1 ≤ n = omega (arith, c.min-count.ensures, c.requires.some, had, room, short) in
    let long = length-take-le n c.args.samples.now few in
    let full = complete_yes _ _ _ (sym c.is_complete.ensures ∙ c.if-not-is_complete.false) in
    whole_now s (take n c.args.samples.now) _ (s.left - n) some (omega (arith, long, one)) c.in_ok-push_all.ensures.whole (omega (arith, long, few, c.requires.most)) (omega (arith, long, c.min-count.ensures, had, room, short))
    (⊎_elim (λ (h : length c.as_slice-had.result.now + n ≡ c.strip_room-room.result). (let r : (length s.pending + length (take n c.args.samples.now) ≡ strip_room s.info s.frame) ⊎ (s.left - n ≡ 0) = inl (omega (arith, h, had, room, long)) in r)) (λ (h : s.left - n ≡ 0). inr h) full)

pub invariant_of-self-2 : goal.invariant_of-self-2
invariant_of-self-2 c =
    let s = c.args.self.now in
    let n = c.min-count.result in
    let had : length c.as_slice-had.result.now ≡ length s.pending = ap length c.as_slice-had.ensures in
    let room : c.strip_room-room.result ≡ strip_room s.info s.frame = c.strip_room-room.ensures.value in
    let few : n ≤ length c.args.samples.now = omega (arith, c.min-count.ensures) in
    let some : 1 ≤ s.left = omega (arith, c.requires.some, c.requires.most) in
    let full = complete_yes _ _ _ (sym c.is_complete.ensures ∙ c.if-not-is_complete.false) in
    record {
      keeps = keeps_after s _ c.make_row.new.self n (s.left - n) some refl refl refl c.in_ok-make_row.ensures.makes (omega (arith, few, c.requires.most))
          (⊎_elim (λ (h : length c.as_slice-had.result.now + n ≡ c.strip_room-room.result). (let r : (length s.pending + n ≡ strip_room s.info s.frame) ⊎ (s.left - n ≡ 0) = inl (omega (arith, h, had, room)) in r)) (λ (h : s.left - n ≡ 0). inr h) full);
    }

pub returns-clause-adds : goal.returns-clause-adds
returns-clause-adds c =
    let s = c.args.self.now in
    let n = c.min-count.result in
    let had : length c.as_slice-had.result.now ≡ length s.pending = ap length c.as_slice-had.ensures in
    let room : c.strip_room-room.result ≡ strip_room s.info s.frame = c.strip_room-room.ensures.value in
    let few : n ≤ length c.args.samples.now = omega (arith, c.min-count.ensures) in
    let some : 1 ≤ s.left = omega (arith, c.requires.some, c.requires.most) in
    let short = s.keeps.short some in
    let one : 1 ≤ n = omega (arith, c.min-count.ensures, c.requires.some, had, room, short) in
    let long = length-take-le n c.args.samples.now few in
    let full = complete_yes _ _ _ (sym c.is_complete.ensures ∙ c.if-not-is_complete.false) in
    let whole =
    whole_now s (take n c.args.samples.now) _ (s.left - n) some (omega (arith, long, one)) c.in_ok-push_all.ensures.whole (omega (arith, long, few, c.requires.most)) (omega (arith, long, c.min-count.ensures, had, room, short))
    (⊎_elim (λ (h : length c.as_slice-had.result.now + n ≡ c.strip_room-room.result). (let r : (length s.pending + length (take n c.args.samples.now) ≡ strip_room s.info s.frame) ⊎ (s.left - n ≡ 0) = inl (omega (arith, h, had, room, long)) in r)) (λ (h : s.left - n ≡ 0). inr h) full) in
    adds_row s _ c.make_row.new.self _ (take n c.args.samples.now) some refl refl refl refl refl c.in_ok-push_all.ensures.whole (factors_of s.info s.encoding s.frame s.keeps.frame s.keeps.none s.keeps.checked) whole c.in_ok-make_row.ensures.makes
    refl refl refl refl refl refl (omega (arith, long, few, c.requires.most))
