-- The MCU rows that are decoded belong to the scan that the file's header begins, which has as many as its picture.
use Rattle.std.proofs.Common.{◌≡◌, ℕ, ◌+◌, ◌≤◌, false, List, [], ◌++◌, length, sym, ap, ◌∙◌, subst, arith, None}
use Rattle.std.proofs.lemmas.List.{append_assoc, append-nil}
use Rattle.jpg_spec.specs.FrameHeader.{AreLimits, IsFrame}
use Rattle.jpg_spec.specs.Scan.{Blocks}
use Rattle.jpg_spec.specs.Markers.{Segment, code_fault, has_scan}
use Rattle.jpg_spec.specs.InForce.{frame_of}
use Rattle.jpg_spec.specs.Header.{IsHeader}
use Rattle.jpg_spec.specs.Items.{segments_of}
use Rattle.jpg_spec.specs.FileMeaning.{no_blocks, scan_after}
use Rattle.jpg_spec.specs.FirstFault.{InsideScan}
use Rattle.jpg_spec.specs.RowsParsed.{BeginsScanOfAll, CompletesRows, TellsRows, row_places}
use Rattle.jpg_spec.specs.declared.frame.Limits.{Limits}
use Rattle.jpg_spec.proofs.Headers.BeforeScans.{header_leads}
use Rattle.jpg_spec.proofs.Headers.FileHeader.{no_scan_spelled}
use Rattle.jpg_spec.proofs.Headers.FirstScan.{first_some_places}
use Rattle.jpg_spec.proofs.Headers.FrameAfter.{leads_pass}
use Rattle.jpg_spec.proofs.Headers.HeaderFirst.{scan_passed, with_scan}
use Rattle.jpg_spec.proofs.Headers.HeadersOnce.{items_of, segments_of_items}
use Rattle.jpg_spec.proofs.Headers.OneHeader.{whole_once}
use Rattle.jpg_spec.proofs.McuRows.RowsLater.{frame_there}
use Rattle.jpg_spec.proofs.McuRows.RowsBegin.{told_fit}
use Rattle.jpg_spec.proofs.McuRows.RowsOnce.{ToldAlso}

-- A PLACE INSIDE THE FIRST SCAN is after the header of the file

pub place_header : (limits : Limits) (bytes tail : List ℕ) (i : InsideScan limits bytes tail) → has_scan (segments_of i.items) ≡ false → IsHeader limits (i.front ++ i.head) (segments_of i.items) i.contents
place_header limits bytes tail i none =
    with_scan limits (segments_of i.items) i.front i.head i.contents (no_scan_spelled i.items i.front i.spelled none, leads_pass limits i.items i.blocks i.leads, none) i.header i.allowed.0
    (scan_passed limits (segments_of i.items) i.contents i.allowed.1)

-- so they are decoded with a scan of all components begun
pub rows_begin : (limits : Limits) (bytes : List ℕ) (rows : ℕ) (x : Blocks) (w : TellsRows limits bytes rows x) → BeginsScanOfAll limits bytes (segments_of (w.place).items) (w.place).contents
rows_begin limits bytes rows x w =
    let i = w.place in
    record {
      front = i.front ++ i.head;
      rest = i.text ++ w.rest;
      cut = w.cut ∙ ap (λ l. l ++ w.rest) (i.cut ∙ append-nil (i.front ++ i.head ++ i.text)) ∙ append_assoc (i.front ++ i.head) i.text w.rest;
      header = place_header limits w.front [] i (w.of_all).first;
      unbroken = i.allowed.1;
      of_all = w.of_all;
    }

-- and bytes begin one
pub begun_once : (limits : Limits) (bytes : List ℕ) (before others : List Segment) (contents more : List ℕ) → BeginsScanOfAll limits bytes before contents → BeginsScanOfAll limits bytes others more
    → (before ≡ others) × (contents ≡ more)
begun_once limits bytes before others contents more a b =
    let h = whole_once limits a.front b.front a.rest b.rest before others contents more a.header b.header (sym a.cut ∙ b.cut) in (h.1, h.2)

pub begun_frame : (limits : Limits) (bytes : List ℕ) (before : List Segment) (contents : List ℕ) → AreLimits limits → BeginsScanOfAll limits bytes before contents → IsFrame (frame_of limits before)
begun_frame limits bytes before contents limited w =
    let same = segments_of_items before in
    subst (λ xs. IsFrame (frame_of limits xs)) same
    (frame_there limits (items_of before) no_blocks limited (header_leads limits before (w.of_all).first (w.header).passed.2) (subst (λ xs. code_fault xs 0xda ≡ None) (sym same) (w.header).passed.0))

pub begun_places : (limits : Limits) (bytes : List ℕ) (before : List Segment) (contents : List ℕ) → BeginsScanOfAll limits bytes before contents → 1 ≤ length (scan_after limits before contents).places
begun_places limits bytes before contents w = first_some_places limits w.front before contents w.header w.unbroken

-- ALL ROWS that are decoded are complete, whatever follows

pub told_here : (limits : Limits) (bytes : List ℕ) (rows : ℕ) (x : Blocks) (before : List Segment) (contents : List ℕ) → BeginsScanOfAll limits bytes before contents → (w : TellsRows limits bytes rows x)
    → ToldAlso limits w before contents
told_here limits bytes rows x before contents b w =
    let same = begun_once limits bytes (segments_of (w.place).items) before (w.place).contents contents (rows_begin limits bytes rows x w) b in
    subst (λ c. ToldAlso limits w before c) same.1 (subst (λ s. ToldAlso limits w s (w.place).contents) same.0 (record { tells = w.tells; first = w.first; same = w.same }))

-- no more rows are decoded than there are
pub rows_few : (limits : Limits) (bytes : List ℕ) (rows all : ℕ) (x : Blocks) (before : List Segment) (contents : List ℕ) → BeginsScanOfAll limits bytes before contents
    → (scan_after limits before contents).places ≡ row_places limits before contents all → TellsRows limits bytes rows x → rows ≤ all
rows_few limits bytes rows all x before contents b whole w = told_fit limits before contents all w whole (begun_places limits bytes before contents b) (told_here limits bytes rows x before contents b w)

pub all_complete : (limits : Limits) (bytes : List ℕ) (rows : ℕ) (x : Blocks) (before : List Segment) (contents : List ℕ) → BeginsScanOfAll limits bytes before contents
    → (scan_after limits before contents).places ≡ row_places limits before contents rows → TellsRows limits bytes rows x → CompletesRows limits bytes rows x
all_complete limits bytes rows x before contents b all w = (w, λ y v. (let few = rows_few limits bytes (rows + 1) rows y before contents b all v in omega (arith, few)))
