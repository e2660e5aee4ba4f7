use Rattle.std.proofs.Common.{◌≡◌, ◌∙◌, ap, sym, arith, ◌-◌, ◌<◌, ◌≤◌, length, take, drop}
use Rattle.jpg_spec.specs.Bits.{bits_of}
use Rattle.jpg_prog_read.specs.ExtraWork.{ExtraWork}
use Rattle.jpg_prog_read.specs.InWork.{InWork}
use Rattle.jpg_prog_read.proofs.BandBits.{number_taken, taken, waits_for}
use Rattle.jpg_prog_read.proofs.Leaf.{empty_is}
use Rattle.jpg_prog_read.proofs.band.BandReader.take_number.Goals as goal

pub peek-requires-clause-few : goal.peek-requires-clause-few
peek-requires-clause-few c = omega (arith, c.size-size.ensures.small)

pub returns-then-size-len : goal.returns-then-size-len
returns-then-size-len c =
    let i = c.self.inside in
    let old = c.args.self.now in
    let store = c.args.store.now in
    let size : c.size-size.result ≡ old.size = c.size-size.ensures.value ∙ ap (λ (s : InWork). s.size) c.self.view_is in
    let none = ap (λ (s : InWork). s.extra) (sym c.self.view_is) ∙ empty_is _ (sym c.is_new.ensures ∙ c.if-is_new.true) in
    let v : ExtraWork → InWork = λ x. (let m : InWork = record { front = take i.start i.values; done = take (i.at - i.start) (drop i.start i.values); rest = take (i.end - i.at) (drop i.at i.values); behind = drop i.end i.values; stage = i.stage; walked = i.walk; run = i.run; size = x.size; extra = x.bits; due = i.due; bands = i.bands } in m) in
    let peeked : bits_of c.size-size.result c.peek.result ≡ take old.size store = c.peek.ensures.value ∙ ap (λ n. take n store) size in
    let whole : c.fill.new.self ≡ record i.extra { bits = take old.size store } = c.fill.ensures ∙ ap (λ b. (let x : ExtraWork = record i.extra { bits = b } in x)) peeked in
    let filled : v c.fill.new.self ≡ taken old (take old.size store) = ap v whole ∙ ap (λ (s : InWork). taken s (take old.size store)) c.self.view_is in
    let wants : length old.extra < old.size = waits_for c.args.scan.now old c.requires.stage c.requires.open in
    let fits : old.size ≤ length store = omega (arith, size, c.if-size-len.true, c.len.ensures.value) in
    let rest : c.skip_few.new.self ≡ drop old.size store = c.skip_few.ensures ∙ ap (λ n. drop n store) size in
    number_taken c.args.scan.now c.args.codes.now c.args.left old (v c.fill.new.self) store c.number.result c.number.new.self c.skip_few.new.self c.requires.stage c.requires.open none (omega (arith, wants)) fits filled rest
    c.number.ensures.outside c.number.ensures.open c.number.ensures.answered
