use Rattle.std.proofs.Common.{ap, subst, arith}
use Rattle.jpg_spec.specs.Segments.{ScanHead}
use Rattle.jpg_huff.specs.Counts.{Notes}
use Rattle.jpg_coefs.specs.MarkSinks.{scan_marks}
use Rattle.jpg_coefs.proofs.SymbolCounts.{counted}
use Rattle.jpg_huff.specs.declared.counts.SymbolCounts.{SymbolCounts}
use Rattle.jpg_prog_write.proofs.Marks.{no_marks, unmarked_counts}
use Rattle.jpg_prog_write.proofs.count.count_scan.Goals as goal

pub returns-then-head-gt0-clause-dc : goal.returns-then-head-gt0-clause-dc
returns-then-head-gt0-clause-dc g c =
    let f = g.V.BlockView.numbers c.args.view.now in
    let blocks = g.V.BlockView.blocks c.args.view.now in
    let marks = scan_marks f c.args.head.now c.args.interval blocks in
    (counted f c.args.head.now c.args.interval blocks c.count_bands.new.counts (subst (λ (u : SymbolCounts). Notes u marks c.count_bands.new.counts) c.none-counts.ensures.value c.count_bands.ensures)).0

pub returns-then-head-gt0-clause-ac : goal.returns-then-head-gt0-clause-ac
returns-then-head-gt0-clause-ac g c =
    let f = g.V.BlockView.numbers c.args.view.now in
    let blocks = g.V.BlockView.blocks c.args.view.now in
    let marks = scan_marks f c.args.head.now c.args.interval blocks in
    (counted f c.args.head.now c.args.interval blocks c.count_bands.new.counts (subst (λ (u : SymbolCounts). Notes u marks c.count_bands.new.counts) c.none-counts.ensures.value c.count_bands.ensures)).1

pub returns-then-head-eq0-clause-dc : goal.returns-then-head-eq0-clause-dc
returns-then-head-eq0-clause-dc g c =
    let f = g.V.BlockView.numbers c.args.view.now in
    let blocks = g.V.BlockView.blocks c.args.view.now in
    let marks = scan_marks f c.args.head.now c.args.interval blocks in
    (counted f c.args.head.now c.args.interval blocks c.count_differences.new.counts (subst (λ (u : SymbolCounts). Notes u marks c.count_differences.new.counts) c.none-counts.ensures.value c.count_differences.ensures)).0

pub returns-then-head-eq0-clause-ac : goal.returns-then-head-eq0-clause-ac
returns-then-head-eq0-clause-ac g c =
    let f = g.V.BlockView.numbers c.args.view.now in
    let blocks = g.V.BlockView.blocks c.args.view.now in
    let marks = scan_marks f c.args.head.now c.args.interval blocks in
    (counted f c.args.head.now c.args.interval blocks c.count_differences.new.counts (subst (λ (u : SymbolCounts). Notes u marks c.count_differences.new.counts) c.none-counts.ensures.value c.count_differences.ensures)).1

pub returns-else-head-eq0-clause-dc : goal.returns-else-head-eq0-clause-dc
returns-else-head-eq0-clause-dc g c =
    let f = g.V.BlockView.numbers c.args.view.now in
    let head = c.args.head.now in
    let blocks = g.V.BlockView.blocks c.args.view.now in
    let ss = ap (λ (h : ScanHead). h.ss) c.head.view_is in
    let ah = ap (λ (h : ScanHead). h.ah) c.head.view_is in
    let none = no_marks f head c.args.interval blocks c.requires.scan.progressive (omega (arith, ss, c.if-head-gt0.false)) (omega (arith, ah, c.if-head-eq0.false)) in
    (counted f head c.args.interval blocks c.none-counts.result (unmarked_counts c.none-counts.result _ none c.none-counts.ensures.value c.none-counts.ensures.counts)).0

pub returns-else-head-eq0-clause-ac : goal.returns-else-head-eq0-clause-ac
returns-else-head-eq0-clause-ac g c =
    let f = g.V.BlockView.numbers c.args.view.now in
    let head = c.args.head.now in
    let blocks = g.V.BlockView.blocks c.args.view.now in
    let ss = ap (λ (h : ScanHead). h.ss) c.head.view_is in
    let ah = ap (λ (h : ScanHead). h.ah) c.head.view_is in
    let none = no_marks f head c.args.interval blocks c.requires.scan.progressive (omega (arith, ss, c.if-head-gt0.false)) (omega (arith, ah, c.if-head-eq0.false)) in
    (counted f head c.args.interval blocks c.none-counts.result (unmarked_counts c.none-counts.result _ none c.none-counts.ensures.value c.none-counts.ensures.counts)).1
