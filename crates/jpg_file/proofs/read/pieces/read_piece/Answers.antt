use Rattle.std.proofs.Common.{◌≡◌, ◌++◌, ◌∙◌, ℕ, Ok, Err, take, refl, inl, inr, is_some, ap, sym, subst, arith}
use Rattle.jpg_spec.specs.declared.frame.Limits.{Limits}
use Rattle.jpg_spec.proofs.Basics.Common.{clash}
use Rattle.jpg_base.specs.declared.stop.Stop.{Stop}
use Rattle.jpg_base.specs.declared.stop.Stop.TheVariants as stop
use Rattle.jpg_file.specs.Read.File.{scans_ended, limits_of}
use Rattle.jpg_file.specs.Read.Window.{rows_in}
use Rattle.jpg_file.specs.Read.ReadFile.{ReadsPiece, ReadsUpTo, TakesPiece}
use Rattle.jpg_file.specs.Read.Strips.{StripGoes}
use Rattle.jpg_file.specs.declared.read.pieces.FedRow.TheVariants as fed
use Rattle.jpg_file.specs.declared.read.step.Step.{Step}
use Rattle.jpg_file.specs.declared.read.step.Step.TheVariants as step
use Rattle.jpg_file.specs.Read.Strips.{FileSeen, seen_of}
use Rattle.jpg_file.proofs.ByRow.StripWorks.{after_some, piece_full, resumed_piece, work_limits}
use Rattle.jpg_file.proofs.Files.ReaderFed.{scans_counted, scans_early, scans_passed}
use Rattle.jpg_file.proofs.read.pieces.read_piece.Goals as goal
use Rattle.jpg_file.proofs.read.pieces.read_piece.Goals.{else-scans-via-then-scans+else-scans_ended-ended, else-scans-via-else-scans}
use Rattle.jpg_spec.specs.declared.fault.Fault.TheVariants.{InputTooLong}

pub loop-step-init : goal.loop-step-init
loop-step-init c =
    let r = c.resume-step.ensures in
    record {
      taken = resumed_piece (limits_of c.args.work.now) c.args.piece.now c.resume-step.result (seen_of c.args.work.now) (seen_of c.resume-step.new.self) r;
      scans = λ on.
          (let same = r.plain (ap is_some (c.requires.plain on).1) in
          let count = ap (λ (w : FileSeen). scans_ended w.file) same.1 in
          (c.scans_ended-ended.ensures ∙ count, record { at = inl (refl, same.0, count) }));
    }

pub returns-then-work-limits : goal.returns-then-work-limits
returns-then-work-limits c =
    let full = c.if-work-limits.true in
    let input = ap (λ l. l.input) c.limits-limits.ensures in
    let s = c.loop-step.invariant.taken in
    subst (λ (e : Stop). ReadsPiece c.args.scans (limits_of c.args.work.now) (seen_of c.args.work.now) c.args.piece.now (Err e) (seen_of c.loop-step.work)) (ap (λ (n : ℕ). let s : Stop = stop.Fault (record { fault = InputTooLong; at = n }) in s) (sym input) ∙ sym c.too_long.ensures) (record {
      keeps = s.keeps;
      read = (
        c.loop-step.done,
        piece_full (subst (λ (a : Step). TakesPiece (limits_of c.args.work.now) (seen_of c.args.work.now) c.args.piece.now c.loop-step.done a (seen_of c.loop-step.work)) c.in-More.is s) (omega (arith, full, input)),
        λ on. scans_early (c.loop-step.invariant.scans on).1,
      );
    })

pub returns-then-scans_ended-ended : goal.returns-then-scans_ended-ended
returns-then-scans_ended-ended c =
    let s = c.loop-step.invariant.taken in
    let short = c.if-work-limits.false in
    let now = c.scans_ended.ensures in
    let differs = c.if-scans_ended-ended.true in
    let k = c.loop-step.invariant.scans c.if-scans.true in
    let other : scans_ended c.loop-step.work ≡ scans_ended c.args.work.now → ⊥ = λ same. differs (now ∙ same ∙ sym k.0) in
    record {
      keeps = s.keeps;
      read =
          subst (λ b. ReadsUpTo b (limits_of c.args.work.now) (seen_of c.args.work.now) c.args.piece.now (Ok (fed.Row c.loop-step.done)) (seen_of c.loop-step.work)) (sym c.if-scans.true) (
            (subst (λ (a : Step). TakesPiece (limits_of c.args.work.now) (seen_of c.args.work.now) c.args.piece.now c.loop-step.done a (seen_of c.loop-step.work)) c.in-More.is s, omega (arith, short, ap (λ l. l.input) c.limits-limits.ensures)),
            scans_passed k.1 (λ more same. other same),
            other,
          );
    }

pub returns-in-Whole : goal.returns-in-Whole
returns-in-Whole c =
    let s = c.loop-step.invariant.taken in
    record {
      keeps = s.keeps;
      read = (
        subst (λ (a : Step). TakesPiece (limits_of c.args.work.now) (seen_of c.args.work.now) c.args.piece.now c.loop-step.done a (seen_of c.loop-step.work)) c.in-Whole.is s,
        λ on. scans_passed (c.loop-step.invariant.scans on).1 (λ more same. (let z : step.Whole ≡ step.More = sym c.in-Whole.is ∙ more in cc)),
      );
    }

pub some-n-requires-clause-stands : goal.some-n-requires-clause-stands
some-n-requires-clause-stands c =
    let o = c.requires.open in
    let work = c.loop-step.work in
    let s = subst (λ (a : Step). TakesPiece (limits_of c.args.work.now) (seen_of c.args.work.now) c.args.piece.now c.loop-step.done a (seen_of c.loop-step.work)) c.in-More.is c.loop-step.invariant.taken in
    let front = o.0 ++ take c.loop-step.done c.args.piece.now in
    (front, subst (λ (l : Limits). StripGoes l front (rows_in work.window) work) (sym (work_limits s o)) (s.after o.0 o.1).goes)

pub loop-step-preserved : goal.loop-step-preserved
loop-step-preserved c =
    let s = subst (λ (a : Step). TakesPiece (limits_of c.args.work.now) (seen_of c.args.work.now) c.args.piece.now c.loop-step.done a (seen_of c.loop-step.work)) c.in-More.is c.loop-step.invariant.taken in
    record {
      taken = after_some s c.some-n.result.1 c.requires.open c.some-n.ensures;
      scans = λ on.
          (let was = c.loop-step.invariant.scans on in
          let plain = c.requires.plain on in
          let same : scans_ended c.loop-step.work ≡ scans_ended c.args.work.now =
          elim c.else-scans.branch [
            | else-scans-via-then-scans+else-scans_ended-ended w ↦ (let now = w.scans_ended.ensures in let equal = w.if-scans_ended-ended.false in let before = was.0 in omega (arith, now, equal, before))
            | else-scans-via-else-scans w ↦ absurd (clash c.args.scans on w.if-scans.false)
          ] in
          (was.0, record { at = inr (scans_counted c.some-n.result.1 s plain.1 plain.0 same c.some-n.ensures) }));
    }
