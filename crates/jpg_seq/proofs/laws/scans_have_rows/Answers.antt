use Rattle.jpg_spec.specs.Geometry.{mcu_row_frame}
use Rattle.jpg_seq.specs.Reader.{IsInRow}
use Rattle.jpg_seq.proofs.Machines.{row_inside, row_next}
use Rattle.jpg_seq.proofs.laws.scans_have_rows.Goals as goal

pub returns-clause-inside : goal.returns-clause-inside
returns-clause-inside c = λ f ids tops places k left n.
    row_next (IsInRow (mcu_row_frame f) tops) f ids places k left n.next n.row n.few (row_inside f ids tops k n.frame n.there n.all n.begins)
