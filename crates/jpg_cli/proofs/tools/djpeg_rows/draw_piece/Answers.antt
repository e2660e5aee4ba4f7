use Rattle.std.proofs.Common.{◌+◌, sym, subst}
use Rattle.jpg_spec_words.specs.declared.answers.Why.{Why}
use Rattle.jpg_huff.proofs.Emitted.{OnlyWrites-then}
use Rattle.jpg_cli.specs.Tools.Showing.{Shown}
use Rattle.jpg_cli.proofs.ByRow.RowsPushed.{at_row, begun_row, draws_still, less_rows, row_here, row_stopped, row_then, row_waits}
use Rattle.jpg_cli.proofs.tools.djpeg_rows.draw_piece.Goals as goal
use Rattle.jpg_preview.proofs.PieceSteps.{rest_is}

pub row_coefs-requires : goal.row_coefs-requires
row_coefs-requires g c = begun_row ((row_waits c.requires.draws c.loop-used.invariant.shows c.in-Some.ensures).showing).read

pub push-requires-clause-due : goal.push-requires-clause-due
push-requires-clause-due g c = (at_row c.row_coefs.ensures (row_waits c.requires.draws c.loop-used.invariant.shows c.in-Some.ensures).showing).due

pub push-requires-clause-row : goal.push-requires-clause-row
push-requires-clause-row g c = (at_row c.row_coefs.ensures (row_waits c.requires.draws c.loop-used.invariant.shows c.in-Some.ensures).showing).row

pub push-requires-clause-end : goal.push-requires-clause-end
push-requires-clause-end g c = (((draws_still c.requires.draws c.loop-used.invariant.shows).showing).drawing).end

pub push-requires-clause-created : goal.push-requires-clause-created
push-requires-clause-created g c = (((draws_still c.requires.draws c.loop-used.invariant.shows).showing).desk).created

pub returns-in-Err-clause-drawn : goal.returns-in-Err-clause-drawn
returns-in-Err-clause-drawn g c = λ s run m k.
    subst (λ (w : Why). Shown s run.old w (g.D.Desk.state c.push.new.desk)) (sym c.why_of.ensures)
    (row_stopped c.row_coefs.ensures c.in-Err.ensures (row_here c.in-Some.ensures (c.loop-used.invariant.shows s run m k).1))

pub slice_bounds-rest-count : goal.slice_bounds-rest-count
slice_bounds-rest-count g c = (at_row c.row_coefs.ensures (row_waits c.requires.draws c.loop-used.invariant.shows c.in-Some.ensures).showing).within

pub slice_bounds-rest-start : goal.slice_bounds-rest-start
slice_bounds-rest-start g c = (at_row c.row_coefs.ensures (row_waits c.requires.draws c.loop-used.invariant.shows c.in-Some.ensures).showing).within

pub loop-used-smaller : goal.loop-used-smaller
loop-used-smaller g c =
    let k = (row_waits c.requires.draws c.loop-used.invariant.shows c.in-Some.ensures).showing in
    less_rows (at_row c.row_coefs.ensures k).due c.in_default-push.is c.push.ensures

pub loop-used-preserved : goal.loop-used-preserved
loop-used-preserved g c =
    let so = c.loop-used in
    let next = c.push.ensures in
    let fed = c.feed_row-answer.ensures in
    record {
      kept = OnlyWrites-then _ _ _ so.invariant.kept next.only;
      done = fed.done;
      by_row = fed.by_row;
      shows = λ s run m k.
          (let a = so.invariant.shows s run m k in
          let b = row_here c.in-Some.ensures a.1 in
          (a.0 + 1, row_then (rest_is so.rest.now c.in-Some.used) c.in_default-push.is c.row_coefs.ensures next fed.answered fed.limits b));
    }

pub end_piece-requires-clause-draws : goal.end_piece-requires-clause-draws
end_piece-requires-clause-draws g c = draws_still c.requires.draws c.loop-used.invariant.shows

pub returns-in_default-clause-drawn : goal.returns-in_default-clause-drawn
returns-in_default-clause-drawn g c = λ s run m k.
    let a = c.loop-used.invariant.shows s run m k in
    c.end_piece.ensures.drawn s run a.0 a.1
