-- An output that was created while its input is read, over the states of a desk.
use Rattle.std.proofs.Common.{ℕ, ◌≤◌, List, [], ◌∷◌, ◌++◌, length, Option, None, Some, sym, ap, ◌∙◌, subst}
use Rattle.jpg_base.specs.declared.names.Name.{Name}
use Rattle.jpg_base.specs.declared.names.Put.{Put}
use Rattle.jpg_base.specs.declared.names.Put.TheVariants as put
use Rattle.jpg_base.specs.Desk.{AppendsLast, DeskState, NotesName, append_last, append_last-push}
use Rattle.jpg_base.specs.Laws.{Grows}
use Rattle.jpg_huff.specs.Out.{OnlyWrites}
use Rattle.jpg_spec.specs.Segments.{standard_limits}
use Rattle.jpg_desk.specs.Endings.{Added}
use Rattle.jpg_desk.specs.Judging.{ReadsFrom}
use Rattle.jpg_cli.specs.Tools.Showing.{Showing}
use Rattle.jpg_cli.specs.Tools.ShowingRows.{HasCreated}
use Rattle.jpg_desk.specs.Stays.{OnlyWorks}
use Rattle.jpg_desk.proofs.PiecesRead.{left_still, works_then}
use Rattle.jpg_desk.proofs.Endings.{asks_next}
use Rattle.jpg_desk.proofs.Input.{file_read, notes_one}

pub writes_work : {a b : DeskState} → OnlyWrites a b → OnlyWorks a b
writes_work k = record { stays = record { counts = k.counts; files = k.files }; said = k.said }

grows_more : (a b c : Option (List (Name × List ℕ))) (output : Name) (had more : List ℕ) → Grows a (output, had) b → AppendsLast b more c → Grows a (output, had ++ more) c
grows_more None b c output had more h k = tt
grows_more (Some a) None c output had more h k = absurd h
grows_more (Some a) (Some b) None output had more h k = absurd k
grows_more (Some a) (Some b) (Some c) output had more h k = k ∙ ap (λ (o : List (Name × List ℕ)). append_last o more) h ∙ append_last-push a output had more

-- more was written to it
pub created_more : {s : Showing} {old start : DeskState} {all had : List ℕ} (more : List ℕ) {s0 s1 : DeskState} → HasCreated s old start all had s0 → OnlyWrites s0 s1 → AppendsLast s0.outputs more s1.outputs → HasCreated s old start all (had ++ more) s1
created_more {s} {start} {all} {had} more {s0} {s1} h k w = record {
  opened = h.opened;
  works = works_then h.works (writes_work k);
  left = left_still s0 s1 all start k.left h.left;
  asked = (let P : Option (List (Name × Put)) → Type 0 = λ a. NotesName start.asked (s.output, put.Done) a in subst P (sym k.asked) h.asked);
  outputs = grows_more start.outputs s0.outputs s1.outputs s.output had more h.outputs w;
  created = k.output_created ∙ h.created;
}

-- from the names on
pub created_added : {s : Showing} {old start : DeskState} {all written : List ℕ} {now : DeskState} → HasCreated s old start all written now → Added (s.input ∷ []) s.output written old now
created_added {s} {old} {start} {written} {now} h = record {
  asked = asks_next old start now (s.input ∷ []) s.output put.Done (notes_one old.asked start.asked (s.input, put.Done) (h.opened).asked) h.asked;
  outputs = (let P : Option (List (Name × List ℕ)) → Type 0 = λ a. Grows a (s.output, written) now.outputs in subst P (h.opened).outputs h.outputs);
}

abbrev pub created_read : {s : Showing} {old start : DeskState} {all written : List ℕ} {now : DeskState} (Is : List ℕ → Type 0) → HasCreated s old start all written now → length all ≤ standard_limits.input → Is all → ReadsFrom (Some s.input) Is old now
created_read {s} {old} {start} {all} {now} Is h most is = record { bytes = all; read = file_read old.files s.input start.left now.left all (h.opened).after.2 h.left; most = most; is = is }
