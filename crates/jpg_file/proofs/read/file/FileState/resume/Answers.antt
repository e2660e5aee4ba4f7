use Rattle.std.proofs.Common.{◌≤◌, arith, length, refl, subst, sym}
use Rattle.jpg_file.specs.Read.File.{limits_of}
use Rattle.jpg_file.specs.Read.Strips.{AfterRows, RepresentsStrip}
use Rattle.jpg_file.specs.Read.Window.{rows_in}
use Rattle.jpg_file.specs.declared.read.step.Step.{Step}
use Rattle.jpg_file.specs.declared.read.step.Step.TheVariants as step
use Rattle.jpg_file.specs.declared.read.window.Window.{Window}
use Rattle.jpg_file.proofs.ByRow.StripBytes.{no_stop, rest_at_fault}
use Rattle.jpg_file.proofs.ByRow.RowTurns.{counts_rows, rows_then}
use Rattle.jpg_file.proofs.ByRow.StripRows.{file_with, next_counts, next_ready, nothing, ready_goes, ready_half, rest_counts, rest_goes, rest_stops}
use Rattle.jpg_file.proofs.ByRow.WindowBytes.{goes_data, goes_fault, rests_after, rows_resumed}
use Rattle.jpg_file.proofs.read.file.FileState.resume.Goals as goal

pub returns-in_default : goal.returns-in_default
returns-in_default c =
    let w = c.args.self.now in
    let rows = c.in-Row.rows in
    rows_resumed w _ rows rows step.More c.in-Row.is refl (record { by_row = refl; strip = refl; keeping = refl }) refl refl (rests_after w rows c.in-Row.is c.in_default.is) tt refl tt

pub returns-then-len-eq0 : goal.returns-then-len-eq0
returns-then-len-eq0 c =
    let w = c.args.self.now in
    let scan = c.in-Some.scan in
    let rows = c.in-Row.rows in
    let new = c.next.new.self in
    let o = c.requires in
    let k = subst (λ (o : Window). RepresentsStrip (limits_of w) c.requires.0 (rows_in o) w) c.in-Row.is o.1 in
    rows_resumed w _ rows new step.More c.in-Row.is refl (record { by_row = refl; strip = refl; keeping = refl }) refl refl
    (λ bytes k. (ready_goes (limits_of w) bytes w scan new (next_ready (limits_of w) bytes w scan c.in-Some.is rows new k c.next.ensures.at c.next.ensures.of c.next.ensures.waiting) (nothing new.waiting (omega (arith, c.len.ensures.value, c.if-len-eq0.true))), λ f e. absurd cc)) tt
    (next_counts (limits_of w) o.0 w scan c.in-Some.is rows new k c.next.ensures.at) tt

pub rest_in_row-requires : goal.rest_in_row-requires
rest_in_row-requires c =
    let w = c.args.self.now in
    let scan = c.in-Some.scan in
    let new = c.next.new.self in
    let o = c.requires in
    let k = subst (λ (o : Window). RepresentsStrip (limits_of w) c.requires.0 (rows_in o) w) c.in-Row.is o.1 in
    ready_half (limits_of w) o.0 w scan new (next_ready (limits_of w) o.0 w scan c.in-Some.is c.in-Row.rows new k c.next.ensures.at c.next.ensures.of c.next.ensures.waiting) (omega (arith, c.len.ensures.value, c.if-len-eq0.false))

pub returns-in-Ok : goal.returns-in-Ok
returns-in-Ok c =
    let w = c.args.self.now in
    let scan = c.in-Some.scan in
    let rows = c.in-Row.rows in
    let new = c.next.new.self in
    let took = c.rest_in_row in
    let came = c.row_step.ensures.is in
    let some : 1 ≤ length new.waiting = omega (arith, c.len.ensures.value, c.if-len-eq0.false) in
    let o = c.requires in
    let g = subst (λ (o : Window). RepresentsStrip (limits_of w) c.requires.0 (rows_in o) w) c.in-Row.is o.1 in
    let ready = next_ready (limits_of w) o.0 w scan c.in-Some.is rows new g c.next.ensures.at c.next.ensures.of c.next.ensures.waiting in
    rows_resumed w _ rows took.new.rows c.row_step.result c.in-Row.is refl (record { by_row = refl; strip = refl; keeping = refl }) refl refl
    (λ bytes k. (let r = next_ready (limits_of w) bytes w scan c.in-Some.is rows new k c.next.ensures.at c.next.ensures.of c.next.ensures.waiting in (
      rest_goes (limits_of w) bytes w scan new r some took.new.self took.new.rows took.result c.row_step.result took.ensures.takes c.in-Ok.is took.ensures.passes took.ensures.gate came,
      no_stop (limits_of w) bytes rows _ c.row_step.result came,
    )))
    (goes_data c.row_step.result _ came)
    (rows_then rows new took.new.rows c.row_step.result (next_counts (limits_of w) o.0 w scan c.in-Some.is rows new g c.next.ensures.at)
    (counts_rows scan took.new.self new took.new.rows _ c.row_step.result (rest_counts (limits_of w) o.0 w scan new ready some took.new.self took.new.rows took.result took.ensures.passes) came)) c.row_step.ensures.memory

pub returns-in-Err : goal.returns-in-Err
returns-in-Err c =
    let w = c.args.self.now in
    let scan = c.in-Some.scan in
    let rows = c.in-Row.rows in
    let new = c.next.new.self in
    let took = c.rest_in_row in
    let some : 1 ≤ length new.waiting = omega (arith, c.len.ensures.value, c.if-len-eq0.false) in
    rows_resumed w _ rows took.new.rows c.fault_at.result c.in-Row.is refl (record { by_row = refl; strip = refl; keeping = refl }) refl refl
    (λ bytes k. (let r = next_ready (limits_of w) bytes w scan c.in-Some.is rows new k c.next.ensures.at c.next.ensures.of c.next.ensures.waiting in (
      subst (λ (a : Step). AfterRows (limits_of w) bytes a (file_with w took.new.rows took.new.self w.taken) took.new.rows) (sym c.fault_at.ensures.is) (rest_stops (limits_of w) bytes w scan new r some took.new.self took.new.rows took.result c.in-Err.fault took.ensures.takes c.in-Err.is),
      λ f e. rest_at_fault bytes w scan new r rows took.new.rows took.new.self took.result c.in-Err.fault some (next_counts (limits_of w) bytes w scan c.in-Some.is rows new k c.next.ensures.at) took.ensures.passes c.in-Err.is,
    )))
    (goes_fault c.fault_at.result _ c.fault_at.ensures.is) (c.fault_at.ensures.rows rows took.new.rows) c.fault_at.ensures.memory
