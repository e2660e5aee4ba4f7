-- The file that is written in a progressive script means its picture.
use Rattle.std.proofs.Common.{◌≡◌, ℕ, zero, suc, ◌<◌, ◌≤◌, Bool, true, false, cond, List, [], ◌∷◌, ◌++◌, length, refl, ap, arith, Option, Some, None, pos, ◌&&◌}
use Rattle.std.specs.Prelude.{◌||◌, nat_le, find, option_map}
use Rattle.std.proofs.lemmas.List.{get_or-replicate}
use Rattle.jpg_spec.specs.Lists.{all_of, below}
use Rattle.jpg_spec.specs.Geometry.{is_progressive, bounds_of}
use Rattle.jpg_spec.specs.FrameHeader.{AreLimits}
use Rattle.jpg_spec.specs.Segments.{ScanHead}
use Rattle.jpg_spec.specs.Scan.{Blocks}
use Rattle.jpg_spec.specs.Meaning.{Meaning}
use Rattle.jpg_spec_write.specs.declared.huffman.Huffman.{Huffman}
use Rattle.jpg_spec_write.specs.Script.{Entry}
use Rattle.jpg_spec.specs.History.{names, has_begun, has_coefficient, known_to, is_known_to}
use Rattle.jpg_spec.specs.FileMeaning.{no_blocks, Means}
use Rattle.jpg_spec_write.specs.FileText.{Written, nothing_written, Restart, front_text, frame_of_meaning, scans_text, file_text}
use Rattle.jpg_spec_write.specs.WrittenFile.{IsHeaded, is_progressive_after, IsRestart}
use Rattle.jpg_spec.specs.declared.frame.Limits.{Limits}
use Rattle.jpg_spec.proofs.Places.PictureInWork.{leads_sizes}
use Rattle.jpg_spec.proofs.Writing.WrittenFront.{frame_is}
use Rattle.jpg_spec_write.proofs.WrittenStart.{starts}
use Rattle.jpg_spec_write.proofs.WrittenState.{Sends}
use Rattle.jpg_spec_write.proofs.WrittenMeans.{count_is, ends}
use Rattle.jpg_spec_write.proofs.ProgressiveKnown.{IsKnown, known_whole}
use Rattle.jpg_spec_write.proofs.ProgressiveScript.{IsFit, script_step}
use Rattle.jpg_spec.proofs.Bits.FirstPasses.{all_below}
use Rattle.jpg_spec.proofs.Basics.Common.{both, and_intro, or_right}

-- AT THE START nothing is known
pub none_known : (H : Meaning) → IsKnown H [] no_blocks
none_known H = record {
  ac = λ i x y k l real a b. get_or-replicate 64 k (pos 0) (pos 0) b;
  dc = λ i x y l real. refl;
  pad = λ i x y l. refl;
  few = λ i k al e. nothing al e;
}
  where
    nothing : (al : ℕ) → (let o : Option ℕ = None in o) ≡ Some al → al ≤ (bounds_of H.precision).al
    nothing al e = cc

-- AT THE END each component was in a scan
begun_by : (heads : List ScanHead) (i k al : ℕ) → known_to heads i k ≡ Some al → has_begun heads i ≡ true
begun_by [] i k al e = cc
begun_by (head ∷ heads) i k al e = by (has_coefficient head i k) refl e (begun_by heads i k al)
  where
    by : (b : Bool) → has_coefficient head i k ≡ b → option_map (λ (h : ScanHead). h.al) (cond b (Some head) (find (λ head. has_coefficient head i k) heads)) ≡ Some al
        → (known_to heads i k ≡ Some al → has_begun heads i ≡ true) → (names head i || has_begun heads i) ≡ true
    by true h z later = ap (λ b. b || has_begun heads i) (both (names head i) (nat_le head.ss k && nat_le k head.se) h).0
    by false h z later = or_right (names head i) (has_begun heads i) (later z)

all_by : (test : ℕ → Bool) (n : ℕ) → ((i : ℕ) → i < n → test i ≡ true) → all_of test (below n) ≡ true
all_by test zero h = refl
all_by test (suc n) h = join (below n) (all_by test n (λ i l. h i (omega (arith, l)))) (h n (omega arith))
  where
    join : (xs : List ℕ) → all_of test xs ≡ true → test n ≡ true → all_of test (xs ++ n ∷ []) ≡ true
    join [] e k = and_intro (test n) true k refl
    join (x ∷ xs) e k = let b = both (test x) (all_of test xs) e in and_intro (test x) (all_of test (xs ++ n ∷ [])) b.0 (join xs b.1 k)

is_known : (o : Option ℕ) → is_known_to o 0 ≡ true → (al : ℕ) × (o ≡ Some al)
is_known None e = cc
is_known (Some al) e = (al, refl)

-- the sizes of the blocks, in addition to what holds of them
abbrev AreSized : (Blocks → Type 0) → Blocks → Type 0
AreSized P blocks = P blocks × ((i x y : ℕ) → length (blocks i x y) ≡ 64)

sized : (limits : Limits) (H : Meaning) (heads : List ScanHead) (P : Blocks → Type 0) (w : Written) (text : List ℕ) → Sends limits H heads P w text → Sends limits H heads (AreSized P) w text
sized limits H heads P w text (items, s) = (
  items,
  record {
    blocks = s.blocks;
    spelled = s.spelled;
    leads = s.leads;
    frame = s.frame;
    framed = s.framed;
    kept = s.kept;
    quants = s.quants;
    first = s.first;
    sent_heads = s.sent_heads;
    tables = s.tables;
    interval = s.interval;
    picture = (s.picture, leads_sizes limits items s.blocks s.leads);
  },
)

-- THE LAW
pub progressive_means : (huffman : Huffman) (limits : Limits) (H : Meaning) (script : List Entry) (restart : Restart) → AreLimits limits → IsHeaded limits H → is_progressive H.process ≡ true → is_progressive_after H [] script ≡ true → IsRestart restart
    → length (file_text huffman H script restart) ≤ limits.input → Means limits (file_text huffman H script restart) H
unfolding file_text
progressive_means huffman limits H script restart limited headed progressive passes small long =
    let f = frame_of_meaning H in
    let fit : IsFit H = record { frame = frame_is limits f f limited headed.frame; progressive = progressive; blocks = headed.blocks; count = count_is H } in
    let k = script_step huffman limits H restart [] nothing_written (front_text H) script fit small passes (starts limits H (IsKnown H []) limited headed (none_known H)) in
    let begun = all_by (has_begun k.heads) (length H.components) (λ i l.
    (let here = all_below (λ i. all_of (λ k'. is_known_to (known_to k.heads i k') 0) (below 64)) (length H.components) i k.complete l in
    let o = is_known (known_to k.heads i 0) (all_below (λ k'. is_known_to (known_to k.heads i k') 0) 64 0 here (omega arith)) in
    begun_by k.heads i 0 o.0 o.1)) in
    ends limits H k.heads (AreSized (IsKnown H k.heads)) k.w (front_text H ++ scans_text huffman H restart nothing_written script) headed (sized limits H k.heads (IsKnown H k.heads) k.w (front_text H ++ scans_text huffman H restart nothing_written script) k.sends) begun
    (λ blocks s i x y l real. known_whole H k.heads blocks i x y s.0 l real k.complete (s.1 i x y) (headed.blocks i x y l real).0) long
