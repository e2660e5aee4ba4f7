use Rattle.std.proofs.Common.{◌∙◌, ◌++◌, ◌∷◌, [], ℕ, List, Bool, refl, sym, subst, inl, inr}
use Rattle.jpg_file.specs.Read.InData.{AfterByte, InRowData, MarkerAt}
use Rattle.jpg_file.specs.declared.read.scan.InScan.{InScan}
use Rattle.jpg_file.specs.Read.Machine.{any_scan}
use Rattle.jpg_file.specs.Read.Window.{waiting_in}
use Rattle.jpg_file.proofs.ByRow.RowTurns.{half_after, open_scan}
use Rattle.jpg_file.proofs.Scans.Runs.{one_given}
use Rattle.jpg_file.proofs.Scans.ScanBytes.{as_stepped, data_answer, data_at, ff_byte, marker_at, marker_byte, read_at}
use Rattle.jpg_spec.proofs.Files.ScanAnswers.{interval_extra}
use Rattle.jpg_file.proofs.read.scan.InScan.byte.Goals as goal

pub returns-in-More-clause-takes : goal.returns-in-More-clause-takes
returns-in-More-clause-takes c = λ whole shows i. (
  whole,
  shows,
  λ limits items contents bytes d.
      subst (λ (z : List Bool). InRowData limits items contents (bytes ++ c.args.byte ∷ []) z (record (c.args.self.now) { gate = c.byte.new.self }) whole) (sym c.requires.none)
      (ff_byte limits items contents bytes c.args.byte c.args.self.now c.byte.new.self whole d c.in-More.ensures.0 c.in-More.ensures.1),
)

pub returns-then-self-clause-takes : goal.returns-then-self-clause-takes
returns-then-self-clause-takes c = λ whole shows i. (
  whole,
  shows,
  λ limits items contents bytes d.
      interval_extra limits (bytes ++ c.args.byte ∷ []) d.place c.in-Data.data (data_at limits items contents bytes c.args.byte c.in-Data.data c.args.self.now whole d c.in-Data.ensures.0) (read_at limits d.place c.args.self.now whole c.if-self.true d.work).completes,
)

pub returns-else-self-clause-takes : goal.returns-else-self-clause-takes
returns-else-self-clause-takes c = λ whole shows i.
    let took = c.take_bytes-taken in let s = c.args.self.now in let answer = took.result.1 in
    let t = took.ensures.takes whole shows (open_scan i.0 i.1 i.2 i.3 s whole i.4 c.if-self.false) in
    let waiting = waiting_in took.new.self in let byte = c.args.byte in (
      t.0,
      t.1,
      λ limits items contents bytes d.
          (let all : List ℕ = bytes ++ byte ∷ [] in
          let here = data_at limits items contents bytes byte c.in-Data.data s whole d c.in-Data.ensures.0 in
          let k = half_after limits items contents all d.place c.in-Data.data s whole t.0 answer waiting took.new.machine d.of here d.work c.if-self.false (one_given any_scan s.machine took.new.machine whole t.0 c.in-Data.data took.result.0 answer waiting t.2).1 in
          as_stepped s c.stepped.new.self took.new.machine answer c.stepped.result (λ a v. AfterByte limits items contents all byte a waiting v t.0) c.stepped.ensures.answer c.stepped.ensures.work (data_answer limits items contents all byte answer waiting _ t.0 k)),
    )

pub returns-in-Marker-clause-takes : goal.returns-in-Marker-clause-takes
returns-in-Marker-clause-takes c = λ whole shows i. (
  whole,
  shows,
  λ limits items contents bytes d.
      (let e = c.in-Marker.ensures in
      let all : List ℕ = bytes ++ c.args.byte ∷ [] in
      let old : InScan = record (c.args.self.now) { gate = c.byte.new.self } in
      let m = subst (λ n. MarkerAt limits (bytes ++ n ∷ []) d.place c.in-Marker.code old whole) e.3 (marker_at limits items contents bytes c.in-Marker.code c.args.self.now whole c.byte.new.self d e.0 (λ h. e.2 (sym e.3 ∙ h)) (λ h. e.1 (sym e.3 ∙ h))) in
      let k = marker_byte limits items contents all d.place c.in-Marker.code old c.marker.new.self whole c.marker.result d.of m (c.marker.ensures.gate ∙ e.4) (c.marker.ensures.takes whole limits d.place all m) in
      subst (λ (w : List Bool). AfterByte limits items contents all c.args.byte c.marker.result w c.marker.new.self whole) (sym c.requires.none) (subst (λ n. AfterByte limits items contents all n c.marker.result [] c.marker.new.self whole) e.3 k)),
)

pub returns-in-Marker-clause-passes : goal.returns-in-Marker-clause-passes
returns-in-Marker-clause-passes c =
    let e = c.in-Marker.ensures in
    inl (record { same = refl; left = c.marker.ensures.left; why = λ fault is. inr (e.0, e.2, e.1, λ over next. c.marker.ensures.wrong fault is over (e.3 ∙ next)) })

pub marker-requires : goal.marker-requires
marker-requires c =
    let o = c.requires.inside in
    let i = o.inside in
    let e = c.in-Marker.ensures in
    (i.0, (i.4).place, i.3 ++ c.in-Marker.code ∷ [], o.whole, marker_at i.0 i.1 i.2 i.3 c.in-Marker.code c.args.self.now o.whole c.byte.new.self i.4 e.0 (λ h. e.2 (sym e.3 ∙ h)) (λ h. e.1 (sym e.3 ∙ h)))
