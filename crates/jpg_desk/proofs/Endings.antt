-- What holds when a command has ended still holds after its message.
use Rattle.std.proofs.Common.{◌≡◌, ℕ, List, [], ◌∷◌, ◌++◌, Option, refl, sym, ap, ◌∙◌, subst, arith}
use Rattle.jpg_base.specs.declared.names.Name.{Name}
use Rattle.jpg_base.specs.declared.names.Put.{Put}
use Rattle.jpg_base.specs.declared.names.Put.TheVariants as put
use Rattle.jpg_base.specs.Desk.{DeskState, NotesName}
use Rattle.jpg_base.specs.Laws.{Grows, NotesNames, NotesNames-then}
use Rattle.jpg_spec.specs.Segments.{standard_limits}
use Rattle.jpg_desk.specs.Endings.{Added, asked_for, Asks, Copied, Stopped, Unopened, Unread}
use Rattle.jpg_desk.specs.Reading.{IsFile, ReadsBytes, rest_of}
use Rattle.jpg_desk.specs.Stays.{OnlySays, Untouched}

-- ONE MORE NAME

asked_next : (names : List Name) (name : Name) (answer : Put) → asked_for (names ++ name ∷ []) answer ≡ asked_for names put.Done ++ (name, answer) ∷ []
asked_next [] name answer = refl
asked_next (first ∷ []) name answer = refl
asked_next (first ∷ next ∷ names) name answer = ap (λ (rest : List (Name × Put)). (first, put.Done) ∷ rest) (asked_next (next ∷ names) name answer)

pub asks_next : (s0 s1 s2 : DeskState) (names : List Name) (name : Name) (answer : Put) → Asks names put.Done s0 s1 → NotesName s1.asked (name, answer) s2.asked → Asks (names ++ name ∷ []) answer s0 s2
asks_next s0 s1 s2 names name answer h k =
    let P : List (Name × Put) → Type 0 = λ entries. NotesNames s0.asked entries s2.asked in
    subst P (sym (asked_next names name answer)) (NotesNames-then s0.asked s1.asked s2.asked (asked_for names put.Done) (name, answer) h k)

-- no more were opened or created
pub asks_still : (s0 s1 s2 : DeskState) (names : List Name) (answer : Put) → s2.asked ≡ s1.asked → Asks names answer s0 s1 → Asks names answer s0 s2
asks_still s0 s1 s2 names answer e h = let P : Option (List (Name × Put)) → Type 0 = λ a. NotesNames s0.asked (asked_for names answer) a in subst P (sym e) h

-- A MESSAGE THEN

pub stopped_then : (s0 s1 s2 : DeskState) (names : List Name) (answer : Put) → OnlySays s1 s2 → Stopped names answer s0 s1 → Stopped names answer s0 s2
stopped_then s0 s1 s2 names answer k h = record { asked = asks_still s0 s1 s2 names answer k.same.asked h.asked; outputs = k.same.outputs ∙ h.outputs }

pub unopened_then : (s0 s1 s2 : DeskState) (names : List Name) → OnlySays s1 s2 → Unopened names s0 s1 → Unopened names s0 s2
unopened_then s0 s1 s2 names k h = record { stopped = stopped_then s0 s1 s2 names put.Failed k h.stopped; opens = (let r = h.opens in let f = k.stays.counts.opens in omega arith) }

pub unread_then : (s0 s1 s2 : DeskState) (names : List Name) → OnlySays s1 s2 → Unread names s0 s1 → Unread names s0 s2
unread_then s0 s1 s2 names k h = record { stopped = stopped_then s0 s1 s2 names put.Done k h.stopped; reads = (let r = h.reads in let f = k.stays.counts.reads in omega arith) }

pub wrote_then : (s0 s1 s2 : DeskState) (names : List Name) (output : Name) (text : List ℕ) → OnlySays s1 s2 → Added names output text s0 s1 → Added names output text s0 s2
wrote_then s0 s1 s2 names output text k h = record {
  asked = asks_still s0 s1 s2 (names ++ output ∷ []) put.Done k.same.asked h.asked;
  outputs = (let G : Option (List (Name × List ℕ)) → Type 0 = λ a. Grows s0.outputs (output, text) a in subst G (sym k.same.outputs) h.outputs);
}

pub bytes_then : (s0 s1 s2 : DeskState) (most : ℕ) (file : Name) (bytes : List ℕ) → s2.left ≡ s1.left → ReadsBytes most file bytes s0 s1 → ReadsBytes most file bytes s0 s2
bytes_then s0 s1 s2 most file bytes e h = (h.0, (let P : Option (List ℕ) → Type 0 = λ l. IsFile s0.files file (bytes ++ rest_of l) in subst P (sym e) h.1))

pub copied_then : (s0 s1 s2 : DeskState) (before : List Name) (input output : Name) (Is : List ℕ → List ℕ → Type 0) → OnlySays s1 s2 → Copied before input output Is s0 s1 → Copied before input output Is s0 s2
copied_then s0 s1 s2 before input output Is k h = record {
  bytes = h.bytes;
  text = h.text;
  read = bytes_then s0 s1 s2 standard_limits.input input h.bytes k.same.left h.read;
  wrote = wrote_then s0 s1 s2 (before ++ input ∷ []) output h.text k h.wrote;
  is = h.is;
}

pub untouched_then : (s0 s1 s2 : DeskState) → OnlySays s1 s2 → Untouched s0 s1 → Untouched s0 s2
untouched_then s0 s1 s2 k t = record { asked = k.same.asked ∙ t.asked; outputs = k.same.outputs ∙ t.outputs; left = k.same.left ∙ t.left }
