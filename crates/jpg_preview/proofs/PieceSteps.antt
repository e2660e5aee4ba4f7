-- A PIECE of a file that is previewed, part by part.
use Rattle.std.proofs.Common.{◌≡◌, ℕ, ◌+◌, ◌-◌, ◌≤◌, false, List, ◌++◌, length, take, drop, sym, ap, ◌∙◌, subst, arith, None, Ok, Err}
use Rattle.std.specs.Prelude.{Result}
use Rattle.std.proofs.Math.Seq.{take_all, take-add}
use Rattle.std.proofs.lemmas.List.{append_assoc, length-append, length-drop, take-append-drop}
use Rattle.jpg_base.specs.declared.stop.Fed.{Fed}
use Rattle.jpg_base.specs.declared.stop.Fed.TheVariants as fed
use Rattle.jpg_base.specs.declared.stop.Stop.{Stop}
use Rattle.jpg_base.specs.declared.stop.Stop.TheVariants as stop
use Rattle.jpg_file.specs.Read.File.{keeping_of}
use Rattle.jpg_file.specs.Read.PictureRead.{TakesEarly, TakesPicture}
use Rattle.jpg_file.specs.Read.ReadFile.{AfterEnd, HasRead, IsEarlyEnd, ReaderState, IsPlain}
use Rattle.jpg_file.specs.declared.read.ends.End.{End}
use Rattle.jpg_file.specs.declared.read.picture.Picture.{Picture}
use Rattle.jpg_file.specs.Read.ScanPieces.{AfterFeedScan, EndsDoneScan, FeedsScan, ScanEnds}
use Rattle.jpg_file.specs.declared.read.pieces.FedScan.{FedScan}
use Rattle.jpg_file.specs.declared.read.pieces.FedScan.TheVariants as came
use Rattle.jpg_spec.specs.FirstFault.{HaveBegun}
use Rattle.jpg_preview.proofs.PartSteps.{part_done, part_more, part_stop, scan_goes, scan_shown}
use Rattle.jpg_preview.specs.Viewing.{AfterEarly, AfterPiece, AfterStop, AfterView, EndsThere, HasScans, HasViewed, IsShown, IsUnwanted, IsWanted, PreviewState, Views, ViewsFile, ViewsPiece}

-- what stays
pub record StaysReady (old new : ReaderState) : Type 0 where
  pub limits : new.limits ≡ old.limits
  pub keeping : keeping_of new.file ≡ keeping_of old.file
  pub plain : IsPlain new

-- The first `used` bytes of the piece were taken, and the front goes on.
pub record PieceViewed (scans : ℕ) (old : ReaderState) (piece : List ℕ) (used : ℕ) (new : ReaderState) : Type 0 where
  pub within : used ≤ length piece
  pub undone : new.done ≡ false
  pub ready : StaysReady old new
  pub goes : (bytes : List ℕ) → Views scans bytes old → Views scans (bytes ++ take used piece) new

-- a part of what is left
taken_on : (piece : List ℕ) (used n : ℕ) (bytes : List ℕ) → (bytes ++ take used piece) ++ take n (drop used piece) ≡ bytes ++ take (used + n) piece
taken_on piece used n bytes = append_assoc bytes (take used piece) (take n (drop used piece)) ∙ ap (λ l. bytes ++ l) (sym (take-add used n piece))

all_left : (piece : List ℕ) (used : ℕ) (bytes : List ℕ) → (bytes ++ take used piece) ++ drop used piece ≡ bytes ++ piece
all_left piece used bytes = append_assoc bytes (take used piece) (drop used piece) ∙ ap (λ l. bytes ++ l) (take-append-drop used piece)

module _ (scans : ℕ) (old mid new : ReaderState) (piece : List ℕ) (used : ℕ) (w : PieceViewed scans old piece used mid) (x : Result FedScan Stop) (same : new.limits ≡ mid.limits) (f : FeedsScan mid (drop used piece) x new) where
  fed_of : (y : Result FedScan Stop) → x ≡ y → (bytes : List ℕ) → Views scans bytes old → AfterFeedScan (bytes ++ take used piece) (drop used piece) y new
  fed_of y e bytes v = subst (λ a. AfterFeedScan (bytes ++ take used piece) (drop used piece) a new) e (f (bytes ++ take used piece) (w.goes bytes v).read)

  pub piece_more : x ≡ Ok came.More → ViewsPiece scans old piece (Ok fed.More) new
  piece_more e = λ bytes v.
      subst (λ l. Views scans l new) (all_left piece used bytes) (part_more scans mid new (drop used piece) same (bytes ++ take used piece) (w.goes bytes v) (fed_of (Ok came.More) e bytes v))

  pub piece_done : (n : ℕ) → x ≡ Ok (came.Done n) → ViewsPiece scans old piece (Ok (fed.Done (used + n))) new
  piece_done n e = λ bytes v.
      (let k = part_done scans mid new (drop used piece) same (bytes ++ take used piece) (w.goes bytes v) n (fed_of (Ok (came.Done n)) e bytes v) in
      let some = k.1 in
      let low = k.2 in
      let long = length-drop used piece in
      let within = w.within in
      (subst (λ l. IsShown scans l new) (taken_on piece used n bytes) k.0, omega (arith, some), omega (arith, low, long, within)))

  pub piece_stopped : (s : Stop) → x ≡ Err s → ViewsPiece scans old piece (Err s) new
  piece_stopped s e = λ bytes v.
      later bytes s
      (subst (λ l. AfterStop scans (length (bytes ++ take used piece)) l s new) (all_left piece used bytes) (part_stop scans mid new (drop used piece) same (bytes ++ take used piece) (w.goes bytes v) s (fed_of (Err s) e bytes v)))
    where
      later : (bytes : List ℕ) (s : Stop) → AfterStop scans (length (bytes ++ take used piece)) (bytes ++ piece) s new → AfterStop scans (length bytes) (bytes ++ piece) s new
      later bytes (stop.Fault f) h = (let late = h.1 in let long = length-append bytes (take used piece) in (h.0, omega (arith, late, long), h.2))
      later bytes stop.NoMemory h = (let late = h.1 in let long = length-append bytes (take used piece) in (h.0, omega (arith, late, long), h.2))

  -- where the data of a scan ended: it isn't wanted, or the front ends there
  pub piece_goes : (n : ℕ) → x ≡ Ok (came.Scan n) → n ≤ length (drop used piece) → new.done ≡ false → StaysReady mid new → IsUnwanted scans new → PieceViewed scans old piece (used + n) new
  piece_goes n e low undone s unwanted = record {
    within = (let long = length-drop used piece in let within = w.within in omega (arith, low, long, within));
    undone = undone;
    ready = record { limits = s.limits ∙ (w.ready).limits; keeping = s.keeping ∙ (w.ready).keeping; plain = s.plain };
    goes = λ bytes v.
        (let front = bytes ++ take used piece in
        let k = fed_of (Ok (came.Scan n)) e bytes v in
        subst (λ l. Views scans l new) (taken_on piece used n bytes)
        (scan_goes scans mid new (drop used piece) same front (w.goes bytes v) n k.1 k.0 (unwanted (front ++ take n (drop used piece)) k.0)));
  }

  pub piece_ends : (last : ReaderState) (n : ℕ) (answer : Result Fed Stop) → x ≡ Ok (came.Scan n) → 1 ≤ n → n ≤ length (drop used piece) → last.limits ≡ new.limits → IsWanted scans new → EndsThere new (used + n) answer last → ViewsPiece scans old piece answer last
  piece_ends last n answer e some low on wanted ends = λ bytes v.
      (let front = bytes ++ take used piece in
      let here = front ++ take n (drop used piece) in
      let k = fed_of (Ok (came.Scan n)) e bytes v in
      let scan = subst (λ l. ScanEnds l front (drop used piece) n) (sym on) k.1 in
      let is = wanted here k.0 in
      let shown = scan_shown scans mid last (drop used piece) (on ∙ same) front (w.goes bytes v) n scan in
      by bytes answer (λ early. subst (λ l. IsShown scans l last) (taken_on piece used n bytes) (shown early (subst (λ l. HasScans scans l here × HaveBegun l here) (sym on) is))) (ends here k.0 is.1))
    where
      by : (bytes : List ℕ) (answer : Result Fed Stop) → (IsEarlyEnd ((bytes ++ take used piece) ++ take n (drop used piece)) last → IsShown scans (bytes ++ take (used + n) piece) last)
          → AfterEarly ((bytes ++ take used piece) ++ take n (drop used piece)) (used + n) answer last → AfterPiece scans bytes piece answer last
      by bytes (Ok fed.More) shown a = absurd a
      by bytes (Err s) shown a = absurd a
      by bytes (Ok (fed.Done m)) shown a =
          let long = length-drop used piece in
          let within = w.within in
          subst (λ m. IsShown scans (bytes ++ take m piece) last × (1 ≤ m) × (m ≤ length piece)) (sym a.0) (shown a.1, omega (arith, some), omega (arith, low, long, within))

pub piece_wanted : (scans : ℕ) (old new : ReaderState) (piece : List ℕ) (used : ℕ) → PieceViewed scans old piece used new → length piece ≤ used → ViewsPiece scans old piece (Ok fed.More) new
piece_wanted scans old new piece used w full = λ bytes v. subst (λ l. Views scans (bytes ++ l) new) (take_all used piece full) (w.goes bytes v)

-- THE REST of a piece, as it is sliced
pub rest_is : (piece : List ℕ) (used : ℕ) → take (length piece - used) (drop used piece) ≡ drop used piece
rest_is piece used = (let size = length-drop used piece in take_all (length piece - used) (drop used piece) (omega (arith, size)))

pub rest_fed : (old new : ReaderState) (piece : List ℕ) (used : ℕ) (x : Result FedScan Stop) → FeedsScan old (take (length piece - used) (drop used piece)) x new → FeedsScan old (drop used piece) x new
rest_fed old new piece used x k = subst (λ l. FeedsScan old l x new) (rest_is piece used) k

pub rest_done : (piece : List ℕ) (used n : ℕ) (x : Result FedScan Stop) (r : ReaderState) → x ≡ Ok (came.Scan n) → EndsDoneScan (take (length piece - used) (drop used piece)) x r → (r.done ≡ false) × (1 ≤ n) × (n ≤ length (drop used piece))
rest_done piece used n x r e k = (let d = subst (λ a. EndsDoneScan (take (length piece - used) (drop used piece)) a r) e k in (d.0, d.1, subst (λ l. n ≤ length l) (rest_is piece used) d.2))

-- THE ANSWER of a preview
pub viewed_ok : (p : PreviewState) (new : ReaderState) (piece : List ℕ) (x : Result Fed Stop) (a : Fed) → x ≡ Ok a → ViewsPiece p.scans p.reader piece x new → ViewsFile p piece (Ok a) (record p { reader = new })
viewed_ok p new piece x a e k = λ bytes v. by bytes a v.0 (subst (λ y. AfterPiece p.scans bytes piece y new) e (k bytes v.1))
  where
    by : (bytes : List ℕ) (a : Fed) → p.stop ≡ None → AfterPiece p.scans bytes piece (Ok a) new → AfterView bytes piece (Ok a) (record p { reader = new })
    by bytes fed.More e h = (e, h)
    by bytes (fed.Done used) e h = h

-- what a picture is taken of
pub taken_of : (r : ReaderState) (p : PreviewState) (x : Picture) → p.reader ≡ r → TakesPicture r x × TakesEarly r x → TakesPicture p.reader x × TakesEarly p.reader x
taken_of r p x e k = subst (λ s. TakesPicture s x × TakesEarly s x) (sym e) k

-- where the file ends
pub view_ends : (p : PreviewState) (r : ReaderState) (x y : End) (new : ReaderState) → p.reader ≡ r → x ≡ y → ((bytes : List ℕ) → HasRead bytes r → AfterEnd bytes x new) → (bytes : List ℕ) → HasViewed bytes p → AfterEnd bytes y new
view_ends p r x y new e same k bytes h = subst (λ a. AfterEnd bytes a new) same (k bytes (subst (HasRead bytes) e h.1.read))

pub view_room : (p : PreviewState) (r : ReaderState) (room : ℕ) → p.reader ≡ r → ((bytes : List ℕ) → HasRead bytes r → room + length bytes ≡ r.limits.input) → (bytes : List ℕ) → HasViewed bytes p → room + length bytes ≡ p.reader.limits.input
view_room p r room e k bytes h = k bytes (subst (HasRead bytes) e h.1.read) ∙ ap (λ (s : ReaderState). s.limits.input) (sym e)
