-- A text of another file that is taken before the input is opened: if nothing failed, it has a fault, or there was no
-- memory; and over known files there is one result.
use Rattle.std.proofs.Common.{◌≡◌, ◌⊎◌, ℕ, List, Result, Err, refl, subst, inl, inr}
use Rattle.jpg_base.specs.declared.names.Name.{Name}
use Rattle.jpg_base.specs.Desk.{DeskState}
use Rattle.jpg_spec.specs.declared.fault.FaultAt.{FaultAt}
use Rattle.jpg_spec_words.specs.declared.answers.Why.{Why}
use Rattle.jpg_spec_words.specs.declared.answers.Why.TheVariants as why
use Rattle.jpg_desk.specs.TextTaken.{StopsAtText, TellsIn, TextKind}
use Rattle.jpg_cli.specs.Due.{IsFaultOf, NoneRose, TellsFiles}
use Rattle.jpg_cli.proofs.Outcomes.Due.{same_bytes}

abbrev pub FaultOrNoMemory : (DeskState → FaultAt → Type 0) → DeskState → Why → Type 0
FaultOrNoMemory Faulty s w = IsFaultOf Faulty s w ⊎ (w ≡ why.NoMemory)

module _ (A : Type 0) (t : TextKind A) (file : Name) where
  pub text_stops : (before : List Name) (s0 s1 : DeskState) (w : Why) → NoneRose s0.counts s1.counts → StopsAtText t before file s0 w s1 → FaultOrNoMemory (λ s f. TellsIn A t file (Err f) s) s0 w
  text_stops before s0 s1 (why.Refused f) n h = inl h.fault
  text_stops before s0 s1 (why.OpenFault is) n (same, h) = absurd (n.0 h.opens)
  text_stops before s0 s1 (why.ReadFault is) n (same, h, part) = absurd (n.1 h.reads)
  text_stops before s0 s1 why.NoMemory n h = inr refl
  text_stops before s0 s1 other n h = absurd h

  pub text_once : ((text : List ℕ) (x y : Result A FaultAt) → t.tells text x → t.tells text y → x ≡ y) → (s : DeskState) (x y : Result A FaultAt) → TellsFiles s → TellsIn A t file x s → TellsIn A t file y s → y ≡ x
  text_once one s x y k h i =
      let same = same_bytes s file h.text i.text k h.is i.is in one h.text y x (subst (λ (b : List ℕ). t.tells b y) same i.tells) h.tells
