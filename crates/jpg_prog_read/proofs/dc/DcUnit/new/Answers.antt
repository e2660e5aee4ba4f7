use Rattle.std.proofs.Common.{◌∙◌, ap, sym, subst, arith, List, Bool}
use Rattle.jpg_prog_read.specs.ExtraWork.{ExtraWork}
use Rattle.jpg_prog_read.specs.DcWork.{DcWork, IsDcOpen, fresh}
use Rattle.jpg_prog_read.specs.RepresentsDcUnit.{BeginsDc}
use Rattle.jpg_prog_read.proofs.DcUnits.{dc_begins}
use Rattle.jpg_prog_read.proofs.dc.DcUnit.new.Goals as goal

pub returns-clause-fresh : goal.returns-clause-fresh
returns-clause-fresh c =
    ap (λ (w : List Bool). (let n : DcWork = record { walked = w; size = c.new-2.result.size; extra = c.new-2.result.bits } in n)) c.new.ensures
    ∙ ap (λ (e : ExtraWork). (let n : DcWork = record fresh { size = e.size; extra = e.bits } in n)) c.new-2.ensures

pub returns-clause-open : goal.returns-clause-open
returns-clause-open c = subst (λ (n : DcWork). IsDcOpen n) (sym (returns-clause-fresh c)) (λ some. absurd (omega (arith, some)))

pub returns-clause-begins : goal.returns-clause-begins
returns-clause-begins c = subst (λ (n : DcWork). BeginsDc n) (sym (returns-clause-fresh c)) dc_begins
