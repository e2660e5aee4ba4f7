use Rattle.std.proofs.Common.{sym, ◌∙◌, subst, true, false}
use Rattle.jpg_spec_write.specs.ScanText.{scan_elements, symbol_counts, symbols_used}
use Rattle.jpg_spec_write.specs.declared.huffman.Huffman.{Huffman}
use Rattle.jpg_file.specs.Write.WriteScan.{GivesTables}
use Rattle.jpg_file.proofs.Writing.ScansDue.{kind_given, tables_by}
use Rattle.jpg_file.proofs.write.sets.put_tables.Goals as goal

pub returns-then-has_typical : goal.returns-then-has_typical
returns-then-has_typical g c =
    let elements = scan_elements (g.V.BlockView.numbers c.args.view.now) c.args.scan.head.now c.args.scan.interval (g.V.BlockView.blocks c.args.view.now) in
    kind_given c.args.huffman c.args.frame.now c.args.scan.head.now elements c.put_typical.new.set true (sym c.has_typical.ensures ∙ c.if-has_typical.true) c.put_typical.ensures

pub returns-in-Plain : goal.returns-in-Plain
returns-in-Plain g c =
    let frame = c.args.frame.now in
    let head = c.args.scan.head.now in
    let set = c.put_flat.new.set in
    let elements = scan_elements (g.V.BlockView.numbers c.args.view.now) head c.args.scan.interval (g.V.BlockView.blocks c.args.view.now) in
    let counts = c.counts_of-counts.ensures in
    kind_given c.args.huffman frame head elements set false (sym c.has_typical.ensures ∙ c.if-has_typical.false)
    (subst (λ (h : Huffman). GivesTables set (tables_by false h head elements)) (sym c.in-Plain.is) (c.put_flat.ensures (symbols_used head elements) counts.used))

pub returns-in-Fitted : goal.returns-in-Fitted
returns-in-Fitted g c =
    let frame = c.args.frame.now in
    let head = c.args.scan.head.now in
    let set = c.put_fitted.new.set in
    let elements = scan_elements (g.V.BlockView.numbers c.args.view.now) head c.args.scan.interval (g.V.BlockView.blocks c.args.view.now) in
    let counts = c.counts_of-counts.ensures in
    kind_given c.args.huffman frame head elements set false (sym c.has_typical.ensures ∙ c.if-has_typical.false)
    (subst (λ (h : Huffman). GivesTables set (tables_by false h head elements)) (sym c.in-Fitted.is) (c.put_fitted.ensures (symbol_counts head elements) counts.often))
