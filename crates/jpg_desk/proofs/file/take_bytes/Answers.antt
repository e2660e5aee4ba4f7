use Rattle.std.proofs.Common.{[], Err, refl, sym, subst}
use Rattle.jpg_spec_words.specs.declared.answers.Why.{Why}
use Rattle.jpg_desk.specs.BytesTaken.{AfterBytes}
use Rattle.jpg_desk.specs.declared.file.BytesSink.{BytesSink}
use Rattle.jpg_desk.proofs.FilesTaken.{all_taken, bytes_fed, none_taken}
use Rattle.jpg_desk.proofs.file.take_bytes.Goals as goal

pub pump-requires-clause-can : goal.pump-requires-clause-can
pump-requires-clause-can g c =
    let sink : BytesSink = record { bytes = c.new.result; limit = c.args.limit } in
    let s = g.D.Desk.state c.args.desk.now in
    ((sink, s), [], refl, bytes_fed sink s c.requires.some c.new.ensures)

pub returns-in-Ok : goal.returns-in-Ok
returns-in-Ok g c =
    let state = g.D.Desk.state in
    let sink : BytesSink = record { bytes = c.new.result; limit = c.args.limit } in
    let s = state c.args.desk.now in
    let h = all_taken sink s c.args.which (c.pump.new.sink, state c.pump.new.desk) c.in-Ok.field-0 (c.in-Ok.ensures (sink, s) [] refl (bytes_fed sink s c.requires.some c.new.ensures)) in
    record { kept = h.0; after = h.1 }

pub returns-in-Err : goal.returns-in-Err
returns-in-Err g c =
    let state = g.D.Desk.state in
    let sink : BytesSink = record { bytes = c.new.result; limit = c.args.limit } in
    let s = state c.args.desk.now in
    let now = state c.pump.new.desk in
    let h = none_taken sink s c.args.which (c.pump.new.sink, now) c.in-Err.why (c.in-Err.ensures (sink, s) [] refl (bytes_fed sink s c.requires.some c.new.ensures)) in
    record { kept = h.0; after = subst (λ (w : Why). AfterBytes c.args.limit c.args.which s (Err w) now) (sym c.why_of_file.ensures) h.1 }
