use Rattle.std.proofs.Common.{sym, subst, refl, arith}
use Rattle.jpg_prog_read.specs.declared.band.BandStep.TheVariants.{More}
use Rattle.jpg_prog_read.specs.declared.band.correcting.Correcting.{Correcting}
use Rattle.jpg_prog_read.specs.BandBits.{TakesBand}
use Rattle.jpg_prog_read.specs.InWork.{InWork}
use Rattle.jpg_prog_read.proofs.BandBits.{HasGone, gone_then}
use Rattle.jpg_prog_read.proofs.Corrected.{corrections_taken, corrections_gone, state_moved, begins_at}
use Rattle.jpg_prog_read.proofs.band.BandReader.take_corrections.Goals as goal

pub returns-then-len-eq0 : goal.returns-then-len-eq0
returns-then-len-eq0 c = λ ac left.
    let i = c.self.inside in let s = c.args.self.now in let b = c.args.scan.now in let x = c.correct-next.ensures in
    let from : Correcting = record { at = i.at; olds = i.olds; run = i.run } in
    subst (λ (n : InWork). TakesBand b ac left s c.args.store.now More n c.correct-next.new.store)
    (sym (state_moved i.start i.end from c.correct-next.result i.values c.correct-next.new.values c.self.view_is refl refl refl c.self.invariant.begins x))
    (corrections_taken b i.end ac left s x (begins_at i.end from i.values c.self.view_is refl refl c.requires.passing) c.requires.open c.requires.some (omega (arith, c.if-len-eq0.true, c.len.ensures.value)))

pub returns-else-len-eq0 : goal.returns-else-len-eq0
returns-else-len-eq0 c = λ ac left.
    let i = c.self.inside in let s = c.args.self.now in let b = c.args.scan.now in let x = c.correct-next.ensures in
    let from : Correcting = record { at = i.at; olds = i.olds; run = i.run } in
    let is = state_moved i.start i.end from c.correct-next.result i.values c.correct-next.new.values c.self.view_is refl refl refl c.self.invariant.begins x in
    let gone = subst (λ (n : InWork). HasGone b ac left s c.args.store.now n c.correct-next.new.store) (sym is)
    (corrections_gone b i.end ac left s x (begins_at i.end from i.values c.self.view_is refl refl c.requires.passing) c.requires.open (omega (arith, c.if-len-eq0.false, c.len.ensures.value))) in
    gone_then b ac left c.take_correction.result gone (c.take_correction.ensures ac left)
