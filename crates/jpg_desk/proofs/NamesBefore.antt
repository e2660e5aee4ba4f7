-- What a command does after names that were opened before.
use Rattle.std.proofs.Common.{◌≡◌, ℕ, List, [], ◌∷◌, ◌++◌, Option, Some, None, refl, sym, ap, ◌∙◌, subst, arith}
use Rattle.std.proofs.lemmas.List.{append-nil, append_assoc}
use Rattle.jpg_base.specs.declared.names.Name.{Name}
use Rattle.jpg_base.specs.declared.names.Put.{Put}
use Rattle.jpg_base.specs.declared.names.Put.TheVariants as put
use Rattle.jpg_base.specs.Desk.{DeskState}
use Rattle.jpg_base.specs.Laws.{Grows, NotesNames}
use Rattle.jpg_desk.specs.Endings.{Added, asked_for, Asks, GoesOnAfter, Stopped, Unopened, Unread}
use Rattle.jpg_desk.specs.Judging.{IsInput, ReadsFrom, left_of}
use Rattle.jpg_desk.specs.Stays.{Keeps}
use Rattle.jpg_desk.proofs.PiecesRead.{works_then}

asked_more : (xs : List Name) (y : Name) (ys : List Name) (answer : Put) → asked_for (xs ++ y ∷ ys) answer ≡ asked_for xs put.Done ++ asked_for (y ∷ ys) answer
asked_more [] y ys answer = refl
asked_more (x ∷ []) y ys answer = refl
asked_more (x ∷ next ∷ xs) y ys answer = ap (λ (rest : List (Name × Put)). (x, put.Done) ∷ rest) (asked_more (next ∷ xs) y ys answer)

notes_more : (a b c : Option (List (Name × Put))) (xs ys : List (Name × Put)) → NotesNames a xs b → NotesNames b ys c → NotesNames a (xs ++ ys) c
notes_more a b None xs ys h k = tt
notes_more a None (Some c) xs ys h k = absurd k
notes_more None (Some b) (Some c) xs ys h k = absurd h
notes_more (Some a) (Some b) (Some c) xs ys h k = k ∙ ap (λ r. r ++ ys) h ∙ append_assoc a xs ys

asks_more : (xs : List Name) (y : Name) (ys : List Name) (answer : Put) (s0 s1 s2 : DeskState) → GoesOnAfter xs s0 s1 → Asks (y ∷ ys) answer s1 s2 → Asks (xs ++ y ∷ ys) answer s0 s2
asks_more xs y ys answer s0 s1 s2 b h =
    subst (λ (entries : List (Name × Put)). NotesNames s0.asked entries s2.asked) (sym (asked_more xs y ys answer))
    (notes_more s0.asked s1.asked s2.asked (asked_for xs put.Done) (asked_for (y ∷ ys) answer) b.asked h)

pub after_none : (xs : List Name) (s0 s1 s2 : DeskState) → GoesOnAfter xs s0 s1 → Asks [] put.Done s1 s2 → Asks (xs ++ []) put.Done s0 s2
after_none xs s0 s1 s2 b h =
    subst (λ (entries : List (Name × Put)). NotesNames s0.asked entries s2.asked) (append-nil (asked_for xs put.Done) ∙ sym (ap (λ names. asked_for names put.Done) (append-nil xs)))
    (notes_more s0.asked s1.asked s2.asked (asked_for xs put.Done) [] b.asked h)

keeps_then : (a b c : DeskState) → Keeps a b → Keeps b c → Keeps a c
keeps_then a b c h k = record { works = works_then h.works k.works; outputs = k.outputs ∙ h.outputs }

pub goes_on_more : (xs ys : List Name) (s0 s1 s2 : DeskState) → GoesOnAfter xs s0 s1 → GoesOnAfter ys s1 s2 → GoesOnAfter (xs ++ ys) s0 s2
goes_on_more xs ys s0 s1 s2 b c = record {
  asked = by ys c.asked;
  kept = keeps_then s0 s1 s2 b.kept c.kept;
}
  where
    by : (ys : List Name) → Asks ys put.Done s1 s2 → Asks (xs ++ ys) put.Done s0 s2
    by [] h = after_none xs s0 s1 s2 b h
    by (y ∷ ys) h = asks_more xs y ys put.Done s0 s1 s2 b h

pub stopped_more : (xs : List Name) (y : Name) (ys : List Name) (answer : Put) (s0 s1 s2 : DeskState) → GoesOnAfter xs s0 s1 → Stopped (y ∷ ys) answer s1 s2 → Stopped (xs ++ y ∷ ys) answer s0 s2
stopped_more xs y ys answer s0 s1 s2 b h = record { asked = asks_more xs y ys answer s0 s1 s2 b h.asked; outputs = h.outputs ∙ b.kept.outputs }

pub unopened_more : (xs : List Name) (y : Name) (ys : List Name) (s0 s1 s2 : DeskState) → GoesOnAfter xs s0 s1 → Unopened (y ∷ ys) s1 s2 → Unopened (xs ++ y ∷ ys) s0 s2
unopened_more xs y ys s0 s1 s2 b h = record {
  stopped = stopped_more xs y ys put.Failed s0 s1 s2 b h.stopped;
  opens = (let r = h.opens in let f = b.kept.works.stays.counts.opens in omega (arith, r, f));
}

pub unread_more : (xs : List Name) (y : Name) (ys : List Name) (s0 s1 s2 : DeskState) → GoesOnAfter xs s0 s1 → Unread (y ∷ ys) s1 s2 → Unread (xs ++ y ∷ ys) s0 s2
unread_more xs y ys s0 s1 s2 b h = record {
  stopped = stopped_more xs y ys put.Done s0 s1 s2 b h.stopped;
  reads = (let r = h.reads in let f = b.kept.works.stays.counts.reads in omega (arith, r, f));
}

pub from_before : (xs : List Name) (input : Option Name) (Is : List ℕ → Type 0) (s0 s1 s2 : DeskState) → GoesOnAfter xs s0 s1 → ReadsFrom input Is s1 s2 → ReadsFrom input Is s0 s2
from_before xs input Is s0 s1 s2 b h = record {
  bytes = h.bytes;
  read = subst (λ (files : Option (Name → Option (List ℕ))). IsInput files input (h.bytes ++ left_of input s2)) b.kept.works.stays.files h.read;
  most = h.most;
  is = h.is;
}

-- THE NAMES OF AN INPUT, if there is one, and then an output

pub stopped_after : (xs ys : List Name) (s0 s1 s2 : DeskState) → GoesOnAfter xs s0 s1 → Stopped ys put.Done s1 s2 → Stopped (xs ++ ys) put.Done s0 s2
stopped_after xs [] s0 s1 s2 b h = record { asked = after_none xs s0 s1 s2 b h.asked; outputs = h.outputs ∙ b.kept.outputs }
stopped_after xs (y ∷ ys) s0 s1 s2 b h = stopped_more xs y ys put.Done s0 s1 s2 b h

asks_output : (xs ys : List Name) (output : Name) (answer : Put) (s0 s1 s2 : DeskState) → GoesOnAfter xs s0 s1 → Asks (ys ++ output ∷ []) answer s1 s2 → Asks ((xs ++ ys) ++ output ∷ []) answer s0 s2
asks_output xs ys output answer s0 s1 s2 b h = subst (λ (names : List Name). Asks names answer s0 s2) (sym (append_assoc xs ys (output ∷ []))) (by ys h)
  where
    by : (ys : List Name) → Asks (ys ++ output ∷ []) answer s1 s2 → Asks (xs ++ (ys ++ output ∷ [])) answer s0 s2
    by [] h = asks_more xs output [] answer s0 s1 s2 b h
    by (y ∷ ys) h = asks_more xs y (ys ++ output ∷ []) answer s0 s1 s2 b h

pub output_uncreated : (xs ys : List Name) (output : Name) (s0 s1 s2 : DeskState) → GoesOnAfter xs s0 s1 → Unopened (ys ++ output ∷ []) s1 s2 → Unopened ((xs ++ ys) ++ output ∷ []) s0 s2
output_uncreated xs ys output s0 s1 s2 b h = record {
  stopped = record { asked = asks_output xs ys output put.Failed s0 s1 s2 b h.stopped.asked; outputs = h.stopped.outputs ∙ b.kept.outputs };
  opens = (let r = h.opens in let f = b.kept.works.stays.counts.opens in omega (arith, r, f));
}

pub added_after : (xs ys : List Name) (output : Name) (text : List ℕ) (s0 s1 s2 : DeskState) → GoesOnAfter xs s0 s1 → Added ys output text s1 s2 → Added (xs ++ ys) output text s0 s2
added_after xs ys output text s0 s1 s2 b h = record {
  asked = asks_output xs ys output put.Done s0 s1 s2 b h.asked;
  outputs = subst (λ (had : Option (List (Name × List ℕ))). Grows had (output, text) s2.outputs) b.kept.outputs h.outputs;
}
