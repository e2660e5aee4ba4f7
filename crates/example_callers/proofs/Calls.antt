-- What calls with a complete file result in.
use Rattle.std.proofs.Common.{◌≡◌, ℕ, List, [], ◌∷◌, ◌++◌, take, inl, inr, Option, Some, Result, Ok, Err, sym, ap, ◌∙◌, subst}
use Rattle.std.proofs.lemmas.List.{append-nil}
use Rattle.jpg_spec_write.specs.CommentText.{IsReadFault}
use Rattle.jpg_spec.specs.Early.{MeansEarly}
use Rattle.jpg_spec.specs.FileMeaning.{meaning_of}
use Rattle.jpg_spec.specs.UnfinishedFile.{IsWholeFile}
use Rattle.jpg_spec.specs.InForce.{frame_of}
use Rattle.jpg_spec.specs.Meaning.{Meaning}
use Rattle.jpg_spec_move.specs.Moved.{Choice}
use Rattle.jpg_spec.specs.Segments.{standard_limits}
use Rattle.jpg_spec.specs.declared.frame.Copying.{Copying}
use Rattle.jpg_spec.specs.declared.frame.Copying.TheVariants.{All}
use Rattle.jpg_spec.specs.declared.frame.Limits.{Limits}
use Rattle.jpg_base.specs.declared.names.Name.{Name}
use Rattle.jpg_base.specs.declared.names.Name.TheVariants.{Out}
use Rattle.jpg_base.specs.declared.names.Put.TheVariants as put
use Rattle.jpg_base.specs.declared.stop.Fed.TheVariants as fed
use Rattle.jpg_base.specs.declared.stop.Stop.{Stop}
use Rattle.jpg_base.specs.declared.stop.Stop.TheVariants as stop
use Rattle.jpg_base.specs.Desk.{DeskState, AppendsLast, Creates}
use Rattle.jpg_base.specs.Laws.{Grows, Grows-from}
use Rattle.jpg_base.specs.declared.memory.MemoryDesk.{MemoryDesk}
use Rattle.jpg_comments.specs.SegmentsSoFar.{Appends}
use Rattle.jpg_comments.specs.Printing.{PrintsWhole}
use Rattle.jpg_comments.specs.ReadComments.{AfterFeed as AfterComments, StopsAt as CommentsStopAt}
use Rattle.jpg_comments.specs.declared.comments.Comments.{Comments}
use Rattle.jpg_file.specs.Read.File.{keeping_of}
use Rattle.jpg_file.specs.Read.SegmentState.{kept_for}
use Rattle.jpg_file.specs.Read.PictureRead.{TakesEarly, TakesPicture}
use Rattle.jpg_file.specs.Read.ReadFile.{AfterEnd, AfterFeed, IsRefusal, ReaderState, StopsAt}
use Rattle.jpg_file.specs.declared.read.ends.End.TheVariants as ends
use Rattle.jpg_file.specs.declared.read.picture.Picture.{Picture}
use Rattle.jpg_file.proofs.Headers.InForce.{kept_for_all}
use Rattle.example_callers.specs.Calling.{BeginsWith, HoldsTurned, IsCommentsOf, IsNotTurned, IsPictureOf, IsTurned}
use Rattle.example_callers.specs.declared.pictures.NotTurned.{NotTurned}
use Rattle.example_callers.specs.declared.pictures.NotTurned.TheVariants as unturned

-- COMMENTS

pub comments_whole : (file had text : List ℕ) (used : ℕ) (c : Comments) → had ≡ [] → c.limits ≡ standard_limits → Appends (λ all. AfterComments [] file all (Ok (fed.Done used)) c) [] had text → IsCommentsOf file (Ok text)
comments_whole file had text used c none e (more, is, h) =
    let same : text ≡ more = is ∙ ap (λ (l : List ℕ). l ++ more) none in
    (used, subst (λ (t : List ℕ). PrintsWhole standard_limits (take used file) t) (sym same) (subst (λ (l : Limits). PrintsWhole l (take used file) more) e h.0))

pub comments_stopped : (file had out : List ℕ) (s : Stop) (c : Comments) → c.limits ≡ standard_limits → Appends (λ all. AfterComments [] file all (Err s) c) [] had out → IsCommentsOf file (Err s)
comments_stopped file had out (stop.Fault f) c e (more, is, h) =
    subst (λ (b : List ℕ). IsReadFault standard_limits b f.fault f.at) (append-nil file) (subst (λ (l : Limits). IsReadFault l (file ++ []) f.fault f.at) e (h.0 []))
comments_stopped file had out stop.NoMemory c e h = tt

pub comments_ended : (file : List ℕ) (s : Stop) (limits : Limits) → limits ≡ standard_limits → CommentsStopAt limits file s → IsCommentsOf file (Err s)
comments_ended file (stop.Fault f) limits e h = subst (λ (l : Limits). IsReadFault l file f.fault f.at) e h
comments_ended file stop.NoMemory limits e h = tt

-- PICTURES

pub picture_whole : (file : List ℕ) (used : ℕ) (r : ReaderState) (p : Picture) → r.limits ≡ standard_limits → keeping_of r.file ≡ All → TakesPicture r p → AfterFeed [] file (Ok (fed.Done used)) r → IsPictureOf file (Ok p)
picture_whole file used r p e all takes h =
    let done = h.0 in
    let means = takes (take used file) done ∙ ap (λ (k : Copying). kept_for k done.meaning) all ∙ kept_for_all done.meaning in
    (used, inl (subst (λ (M : Meaning). IsWholeFile standard_limits (take used file) M) (sym means) (subst (λ (l : Limits). IsWholeFile l (take used file) done.meaning) e done.whole)))

pub picture_stopped : (file : List ℕ) (s : Stop) (r : ReaderState) → r.limits ≡ standard_limits → AfterFeed [] file (Err s) r → IsPictureOf file (Err s)
picture_stopped file (stop.Fault f) r e h =
    subst (λ (b : List ℕ). IsRefusal standard_limits b f) (append-nil file) (subst (λ (l : Limits). IsRefusal l (file ++ []) f) e (h.0 []))
picture_stopped file stop.NoMemory r e h = tt

pub picture_early : (file : List ℕ) (n : ℕ) (r : ReaderState) (p : Picture) → r.limits ≡ standard_limits → keeping_of r.file ≡ All → TakesEarly r p → AfterEnd file (ends.Early n) r → IsPictureOf file (Ok p)
picture_early file n r p e all takes (at, is) =
    let M = meaning_of (frame_of r.limits is.segments) is.segments is.blocks in
    let means = takes file is ∙ ap (λ (k : Copying). kept_for k M) all ∙ kept_for_all M in
    (n, inr (subst (λ (N : Meaning). MeansEarly standard_limits file N) (sym means) (subst (λ (l : Limits). MeansEarly l file M) e is.early), at))

pub picture_ended : (file : List ℕ) (s : Stop) (limits : Limits) → limits ≡ standard_limits → StopsAt limits file s → IsPictureOf file (Err s)
picture_ended file (stop.Fault f) limits e h = subst (λ (l : Limits). IsRefusal l file f) e h
picture_ended file stop.NoMemory limits e h = tt

-- TRANSFORMED

-- the only output of a new desk
pub only_output : (s0 s1 s2 : DeskState) (due : List ℕ) (outputs : List (Name × List ℕ)) → s0.outputs ≡ Some [] → Creates s0 Out put.Done s1 → AppendsLast s1.outputs due s2.outputs → s2.outputs ≡ Some outputs → outputs ≡ (Out, due) ∷ []
only_output s0 s1 s2 due outputs none creates appends is =
    let grows = Grows-from s0.outputs s1.outputs s2.outputs Out due creates.after.1 appends in
    let from = subst (λ (o : Option (List (Name × List ℕ))). Grows o (Out, due) s2.outputs) none grows in
    subst (λ (o : Option (List (Name × List ℕ))). Grows (Some []) (Out, due) o) is from

pub turned_by : (file : List ℕ) (M : Meaning) (choice : Choice) (answer : Result MemoryDesk NotTurned) → BeginsWith file M → HoldsTurned choice M answer → IsTurned file choice answer
turned_by file M choice (Ok desk) begins h = (M, begins, h)
turned_by file M choice (Err (unturned.Picture fault)) begins h = absurd h
turned_by file M choice (Err (unturned.Stop (stop.Fault f))) begins h = absurd h
turned_by file M choice (Err (unturned.Stop stop.NoMemory)) begins h = tt

pub unread : (file : List ℕ) (choice : Choice) (s : Stop) → IsPictureOf file (Err s) → IsNotTurned file choice (unturned.Stop s)
unread file choice (stop.Fault f) h = h
unread file choice stop.NoMemory h = tt
