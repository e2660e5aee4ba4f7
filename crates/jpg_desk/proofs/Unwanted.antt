-- What the first scan header that a reader was fed reveals of what isn't wanted.
use Rattle.std.proofs.Common.{◌≡◌, ℕ, ◌<◌, ◌≤◌, Bool, List, [], ◌++◌, length, take, drop, refl, sym, ap, ◌∙◌, subst, arith, inl, inr, ◌⊎◌, Option, Some, None}
use Rattle.std.proofs.lemmas.Bool.{cases_lt}
use Rattle.std.proofs.lemmas.List.{append_assoc, append-nil, length-append, length-take, length-take-le, take-append-drop, take-append-le}
use Rattle.std.specs.Option.{option_map}
use Rattle.jpg_spec.specs.FirstFault.{IsFirstFault, Reveals}
use Rattle.jpg_spec.specs.Header.{IsHeader}
use Rattle.jpg_spec.specs.Markers.{Segment}
use Rattle.jpg_spec.specs.FileMeaning.{Means}
use Rattle.jpg_spec.specs.UnfinishedFile.{UnfinishedFile, IsWholeFile}
use Rattle.jpg_spec.specs.Geometry.{Frame}
use Rattle.jpg_spec.specs.InForce.{colours_after}
use Rattle.jpg_spec_image.specs.Pixels.{out_fault, out_fault_of}
use Rattle.jpg_spec.specs.Segments.{standard_limits}
use Rattle.jpg_spec.specs.declared.fault.FaultAt.{FaultAt}
use Rattle.jpg_spec.specs.declared.fault.Fault.{Fault}
use Rattle.jpg_spec.specs.declared.frame.Colour.{Colour}
use Rattle.jpg_spec.specs.declared.frame.Limits.{Limits}
use Rattle.jpg_spec.proofs.Basics.Common.{some_once}
use Rattle.jpg_spec.proofs.Files.FileLaws.{means_more, means_no_fault, shown_not_standing}
use Rattle.jpg_spec.proofs.Headers.FirstScan.{header_stands}
use Rattle.jpg_spec.proofs.Headers.OneHeader.{whole_once}
use Rattle.jpg_spec_image.proofs.OneReason.{reason_after}
use Rattle.jpg_spec_image.proofs.ShownAlike.{shown_alike}
use Rattle.jpg_color.specs.Admits.{kind_of, kind_or}
use Rattle.jpg_color.specs.Shown.{factors_of}
use Rattle.jpg_file.specs.Read.FirstHeader.{IsFirstHeader, IsFirstHeaderOf}
use Rattle.jpg_file.specs.Read.File.{IsStop}
use Rattle.jpg_file.specs.Read.ReadFile.{HasRead, IsDone, KeepsHeadAt, ReaderState}
use Rattle.jpg_file.specs.declared.read.first_header.Head.{Head}
use Rattle.jpg_file.proofs.Headers.InForce.{no_head}
use Rattle.jpg_desk.specs.ReadPicture.{IsRefused, IsRefusedFor, IsUnwanted, fault_told, unwanted_for, unwanted_in, Wanted, Coefficients, Image}
use Rattle.jpg_desk.proofs.RefusedOnce.{one_refusal}
use Rattle.jpg_desk.proofs.Judged.{none_out}

-- THE HEADER that a reader keeps

abbrev pub head_of : Option Head → Option (Frame × Colour × ℕ)
head_of o = option_map (λ (h : Head). (h.frame, h.colour, h.at)) o

-- the fault of a first scan header, as its segments reveal it
same_reason : (limits : Limits) (gray : Bool) (bytes : List ℕ) (h : Head) → (k : IsFirstHeader limits bytes h) → out_fault_of h.frame.precision h.colour gray (factors_of h.frame) ≡ reason_after limits gray k.before
same_reason limits gray bytes h k =
    ap (λ (c : Colour). out_fault_of h.frame.precision c gray (factors_of h.frame)) k.colour ∙ ap (λ (f : Frame). out_fault_of f.precision (colours_after limits k.before) gray (factors_of f)) k.frame

parsed_some : (o : Option Fault) (c : Colour) (gray : Bool) (at : ℕ) (f : FaultAt) → fault_told (kind_or o (kind_of c gray)) at ≡ Some f → (o ≡ Some f.fault) × (at ≡ f.at)
parsed_some None c gray at f e = cc
parsed_some (Some fault) c gray at f e =
    let same = some_once (record { fault = fault; at = at }) f e in
    (ap (λ (x : FaultAt). Some x.fault) same, ap (λ (x : FaultAt). x.at) same)

no_entry : (o : Option Fault) (c : Colour) (gray : Bool) (at : ℕ) → fault_told (kind_or o (kind_of c gray)) at ≡ None → o ≡ None
no_entry None c gray at e = refl
no_entry (Some fault) c gray at e = cc

-- the picture isn't wanted for what the header reveals
head_unwanted : (gray : Bool) (bytes : List ℕ) (o : Option Head) (f : FaultAt) → IsFirstHeaderOf standard_limits bytes o → unwanted_in (Image gray) (head_of o) ≡ Some f → IsUnwanted (Image gray) bytes f
head_unwanted gray bytes None f k e = cc
head_unwanted gray bytes (Some h) f k e =
    let told = parsed_some (out_fault_of h.frame.precision h.colour gray (factors_of h.frame)) h.colour gray h.at f e in
    let at = told.1 in
    record {
      before = k.before;
      contents = k.contents;
      within = subst (λ n. n ≤ length bytes) at k.within;
      header = subst (λ n. IsHeader standard_limits (take n bytes) k.before k.contents) at k.header;
      unbroken = k.unbroken;
      fault = sym (same_reason standard_limits gray bytes h k) ∙ told.0;
    }

-- and if it reveals nothing, it is wanted
head_wanted : (gray : Bool) (bytes : List ℕ) (o : Option Head) → IsFirstHeaderOf standard_limits bytes o → unwanted_in (Image gray) (head_of o) ≡ None → (f : FaultAt) → IsUnwanted (Image gray) bytes f → ⊥
head_wanted gray bytes None k e f s = k s.before s.contents f.at s.header
head_wanted gray bytes (Some h) k e f s =
    let cut = take-append-drop h.at bytes ∙ sym (take-append-drop f.at bytes) in
    let one = whole_once standard_limits (take h.at bytes) (take f.at bytes) (drop h.at bytes) (drop f.at bytes) k.before s.before k.contents s.contents k.header s.header cut in
    let none = no_entry (out_fault_of h.frame.precision h.colour gray (factors_of h.frame)) h.colour gray h.at e in
    none_out f (sym none ∙ same_reason standard_limits gray bytes h k ∙ ap (reason_after standard_limits gray) one.1 ∙ s.fault)

-- before any byte there is none
pub no_header : (before : List Segment) (contents : List ℕ) (n : ℕ) → IsHeader standard_limits (take n []) before contents → ⊥
no_header before contents n k = no_head standard_limits [] (inl (inl refl)) before contents n k

-- WHATEVER IS ASKED FOR

pub unwanted_head : (w : Wanted) (bytes : List ℕ) (o : Option Head) (f : FaultAt) → IsFirstHeaderOf standard_limits bytes o → unwanted_in w (head_of o) ≡ Some f → IsUnwanted w bytes f
unwanted_head Coefficients bytes o f k e = cc
unwanted_head (Image gray) bytes o f k e = head_unwanted gray bytes o f k e

pub wanted_head : (w : Wanted) (bytes : List ℕ) (o : Option Head) → IsFirstHeaderOf standard_limits bytes o → unwanted_in w (head_of o) ≡ None → (f : FaultAt) → IsUnwanted w bytes f → ⊥
wanted_head Coefficients bytes o k e f h = h
wanted_head (Image gray) bytes o k e f h = head_wanted gray bytes o k e f h

pub unwanted_within : (w : Wanted) (bytes : List ℕ) (f : FaultAt) → IsUnwanted w bytes f → f.at ≤ length bytes
unwanted_within Coefficients bytes f h = absurd h
unwanted_within (Image gray) bytes f s = s.within

-- longer bytes, and a prefix of them
pub unwanted_more : (w : Wanted) (bytes rest : List ℕ) (f : FaultAt) → IsUnwanted w bytes f → IsUnwanted w (bytes ++ rest) f
unwanted_more Coefficients bytes rest f h = absurd h
unwanted_more (Image gray) bytes rest f s =
    let within = s.within in
    record {
      before = s.before;
      contents = s.contents;
      within = omega (arith, within, length-append bytes rest);
      header = subst (λ l. IsHeader standard_limits l s.before s.contents) (sym (take-append-le f.at bytes rest within)) s.header;
      unbroken = s.unbroken;
      fault = s.fault;
    }

pub unwanted_less : (w : Wanted) (bytes rest all : List ℕ) (f : FaultAt) → all ≡ bytes ++ rest → f.at ≤ length bytes → IsUnwanted w all f → IsUnwanted w bytes f
unwanted_less Coefficients bytes rest all f cut few h = absurd h
unwanted_less (Image gray) bytes rest all f cut few s = record {
  before = s.before;
  contents = s.contents;
  within = few;
  header = subst (λ l. IsHeader standard_limits l s.before s.contents) (ap (take f.at) cut ∙ take-append-le f.at bytes rest few) s.header;
  unbroken = s.unbroken;
  fault = s.fault;
}

-- AT THE PLACE of what isn't wanted no byte has a fault

pub no_stop_there : (w : Wanted) (bytes : List ℕ) (f g : FaultAt) → IsUnwanted w bytes g → f.at ≡ g.at → IsStop standard_limits (take f.at bytes) f → ⊥
no_stop_there Coefficients bytes f g h same stop = h
no_stop_there (Image gray) bytes f g s same (long, shown) =
    shown_not_standing standard_limits f.fault (take f.at bytes) [] (take g.at bytes) shown (header_stands standard_limits (take g.at bytes) s.before s.contents s.header s.unbroken)
    (append-nil (take f.at bytes) ∙ ap (λ n. take n bytes) same)

-- WHAT FOLLOWS bytes without a fault

pub fault_after : (bytes rest : List ℕ) (fault : Fault) (n : ℕ) → UnfinishedFile standard_limits bytes → length bytes ≤ standard_limits.input → IsFirstFault standard_limits (bytes ++ rest) fault n → length bytes ≤ n
fault_after bytes rest fault n stands short (inl k) = by (cases_lt n (length bytes))
  where
    by : (n < length bytes) ⊎ (length bytes ≤ n) → length bytes ≤ n
    by (inr many) = many
    by (inl few) =
        absurd (shown_not_standing standard_limits fault (take n bytes) (drop n bytes) bytes
        (subst (λ l. Reveals standard_limits fault l) (take-append-le n bytes rest (omega (arith, few))) k.1.1) stands (take-append-drop n bytes))
fault_after bytes rest fault n stands short (inr (inl k)) = (let at = k.1 in omega (arith, at, short))
fault_after bytes rest fault n stands short (inr (inr k)) = (let at = k.1 in omega (arith, at, length-append bytes rest))

-- A reader that goes on: what isn't wanted in its bytes comes before any refusal.
pub unwanted_first : (w : Wanted) (bytes rest : List ℕ) (r : ReaderState) (f : FaultAt) → r.limits ≡ standard_limits → HasRead bytes r → IsUnwanted w bytes f → IsRefusedFor w (bytes ++ rest) f
unwanted_first w bytes rest r f e h k =
    let within = unwanted_within w bytes f k in
    let stands = subst (λ (l : Limits). UnfinishedFile l bytes) e h.stands in
    let short : length bytes < standard_limits.input = subst (λ (l : Limits). length bytes < l.input) e h.short in
    inr (unwanted_more w bytes rest f k, λ g refused. (let late = fault_after bytes rest g.fault g.at stands (omega (arith, short)) refused in omega (arith, within, late)))

-- A reader that stopped: what isn't wanted comes before the fault, if there is anything unwanted.
pub stop_unwanted : (w : Wanted) (bytes rest : List ℕ) (n : ℕ) (f g : FaultAt) → n ≤ f.at → IsUnwanted w (take n bytes) g → IsRefused (bytes ++ rest) f → IsRefusedFor w (bytes ++ rest) g
stop_unwanted w bytes rest n f g few k refused =
    let all : List ℕ = bytes ++ rest in
    let there = subst (λ l. IsUnwanted w l g) (ap (λ l. l ++ rest) (take-append-drop n bytes)) (unwanted_more w (take n bytes ++ drop n bytes) rest g (unwanted_more w (take n bytes) (drop n bytes) g k)) in
    let low = unwanted_within w (take n bytes) g k in
    let cut = length-take n bytes in
    inr (there, λ other again. (let same = ap (λ (x : FaultAt). x.at) (one_refusal all f other refused again) in omega (arith, low, cut, few, same)))

pub stop_wanted : (w : Wanted) (bytes rest : List ℕ) (o : Option Head) (f : FaultAt) → f.at ≤ length bytes → KeepsHeadAt standard_limits bytes f o → unwanted_in w (head_of o) ≡ None → IsRefused (bytes ++ rest) f → IsRefusedFor w (bytes ++ rest) f
stop_wanted w bytes rest o f within keeps none refused = inl (refused, λ g k. late g k (cases_lt f.at g.at))
  where
    all : List ℕ
    all = bytes ++ rest

    -- what isn't wanted up to some bytes
    there : (n : ℕ) (g : FaultAt) → n ≤ length bytes → g.at ≤ n → IsUnwanted w all g → IsUnwanted w (take n bytes) g
    there n g many few k =
        let size = length-take-le n bytes many in
        unwanted_less w (take n bytes) (drop n bytes ++ rest) all g (ap (λ l. l ++ rest) (sym (take-append-drop n bytes)) ∙ append_assoc (take n bytes) (drop n bytes) rest) (omega (arith, size, few)) k

    early : (g : FaultAt) → g.at ≤ f.at → IsUnwanted w all g → KeepsHeadAt standard_limits bytes f o → ⊥
    early g few k (inl head) = wanted_head w (take f.at bytes) o head none g (there f.at g within few k)
    early g few k (inr (m, at, head, stop)) = by (cases_lt m g.at)
      where
        by : (m < g.at) ⊎ (g.at ≤ m) → ⊥
        by (inr low) = wanted_head w (take m bytes) o head none g (there m g (omega (arith, at, within)) low k)
        by (inl high) = no_stop_there w bytes f g (unwanted_less w bytes rest all g refl (omega (arith, few, within)) k) (omega (arith, few, at, high)) stop

    late : (g : FaultAt) → IsUnwanted w all g → (f.at < g.at) ⊎ (g.at ≤ f.at) → f.at < g.at
    late g k (inl less) = less
    late g k (inr few) = absurd (early g few k keeps)

-- A COMPLETE FILE

-- what isn't wanted in it comes before any refusal, since there is none
pub done_unwanted : (w : Wanted) (bytes rest : List ℕ) (r : ReaderState) (f : FaultAt) → r.limits ≡ standard_limits → IsDone bytes r → IsUnwanted w bytes f → IsRefusedFor w (bytes ++ rest) f
done_unwanted w bytes rest r f e d k = inr (unwanted_more w bytes rest f k, λ g refused. absurd (none g refused))
  where
    means : Means standard_limits (bytes ++ rest) d.meaning
    means = means_more standard_limits bytes rest d.meaning (subst (λ (l : Limits). IsWholeFile l bytes d.meaning) e d.whole).0

    none : (g : FaultAt) → IsRefused (bytes ++ rest) g → ⊥
    none g first = means_no_fault standard_limits (bytes ++ rest) d.meaning g.fault g.at means first

-- and if nothing is unwanted, its picture is wanted
pub done_wanted : (w : Wanted) (bytes : List ℕ) (r : ReaderState) → r.limits ≡ standard_limits → (d : IsDone bytes r) → unwanted_in w (head_of r.file.head) ≡ None → unwanted_for w d.meaning ≡ None
done_wanted Coefficients bytes r e d none = refl
done_wanted (Image gray) bytes r e d none = by (out_fault gray d.meaning) refl
  where
    means : Means standard_limits bytes d.meaning
    means = (subst (λ (l : Limits). IsWholeFile l bytes d.meaning) e d.whole).0

    head : IsFirstHeaderOf standard_limits bytes r.file.head
    head = subst (λ (l : Limits). IsFirstHeaderOf l bytes r.file.head) e d.head

    by : (o : Option Fault) → out_fault gray d.meaning ≡ o → o ≡ None
    by None same = refl
    by (Some fault) same =
        let alike = shown_alike standard_limits gray bytes d.meaning (inl means) in
        let t = alike.told fault same in
        absurd (head_wanted gray bytes r.file.head head none t.0 t.1)
