use Rattle.std.proofs.Common.{◌∙◌, List, ap, refl, sym, subst}
use Rattle.jpg_spec.specs.InForce.{first_some}
use Rattle.jpg_spec.specs.QuantContents.{quant_in}
use Rattle.jpg_spec.specs.Segments.{ScanHead}
use Rattle.jpg_spec.specs.declared.frame.ScanPart.{ScanPart}
use Rattle.jpg_scans.specs.Progress.{RepresentsScans}
use Rattle.jpg_file.specs.Read.SegmentState.{RepresentsHeads, quant_named}
use Rattle.jpg_file.proofs.read.scan_history.ScanHistory.note.Goals as goal

pub returns-in-Some : goal.returns-in-Some
returns-in-Some c = record {
  scans = λ heads k. c.note.ensures c.args.frame.now heads (subst (λ o. RepresentsHeads o c.args.frame.now heads) c.in-Some.is k);
  quants = λ i. c.keep_quants.ensures i ∙ ap (λ (l : List ScanPart). first_some (quant_in c.args.self.now.quants i) (quant_named c.args.frame.now c.args.quants.now l i)) (c.as_slice.ensures.value ∙ ap (λ (h : ScanHead). h.parts) c.head.view_is);
  count = refl;
}

pub returns-in-None : goal.returns-in-None
returns-in-None c = record {
  scans = λ heads k.
      (let none = subst (λ o. RepresentsHeads o c.args.frame.now heads) c.in-None.is k in
      c.note-in-None.ensures c.args.frame.now heads (subst (λ hs. RepresentsScans c.new-progress.result c.args.frame.now hs) (sym none) c.new-progress.ensures));
  quants = λ i. c.keep_quants.ensures i ∙ ap (λ (l : List ScanPart). first_some (quant_in c.args.self.now.quants i) (quant_named c.args.frame.now c.args.quants.now l i)) (c.as_slice.ensures.value ∙ ap (λ (h : ScanHead). h.parts) c.head.view_is);
  count = refl;
}
