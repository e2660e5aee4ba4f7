-- A text of another file that is taken before the input is opened.
use Rattle.std.proofs.Common.{◌≡◌, ℕ, ◌+◌, ◌-◌, List, [], ◌∷◌, ◌++◌, take, Option, Result, Ok, Err, ap, subst, arith}
use Rattle.jpg_base.specs.declared.names.Name.{Name}
use Rattle.jpg_base.specs.declared.names.Put.TheVariants as put
use Rattle.jpg_base.specs.Desk.{DeskState}
use Rattle.jpg_spec.specs.declared.fault.FaultAt.{FaultAt}
use Rattle.jpg_spec_words.specs.declared.answers.Why.{Why}
use Rattle.jpg_spec_words.specs.declared.answers.Why.TheVariants as why
use Rattle.jpg_desk.specs.Endings.{GoesOnAfter}
use Rattle.jpg_desk.specs.FileTaken.{AfterFile}
use Rattle.jpg_desk.specs.Reading.{IsFile, ReadsPart, rest_of}
use Rattle.jpg_desk.specs.TextTaken.{StopsAtText, TellsIn, TextKind}
use Rattle.jpg_desk.specs.Stays.{Keeps, OnlySays}
use Rattle.jpg_desk.proofs.Endings.{stopped_then, unopened_then, unread_then}
use Rattle.jpg_desk.proofs.Input.{part_still, read_still}
use Rattle.jpg_desk.proofs.NamesBefore.{stopped_more, unopened_more, unread_more}

module _ (A : Type 0) (t : TextKind A) (file : Name) where
  -- THE FILE, read

  pub told_in : ((text : List ℕ) (told : Result A FaultAt) → t.tells (take (t.longest + 1) text) told → t.tells text told) → (old new : DeskState) (bytes : List ℕ) (told : Result A FaultAt) → AfterFile file (t.longest + 1) t.which old (Ok bytes) new → t.tells bytes told → TellsIn A t file told old
  told_in whole old new bytes told (asked, is, front) h =
      let text = bytes ++ rest_of new.left in
      record { text = text; is = is; tells = whole text told (subst (λ (b : List ℕ). t.tells b told) front h) }

  pub text_refused : ((text : List ℕ) (told : Result A FaultAt) → t.tells (take (t.longest + 1) text) told → t.tells text told) → (old new : DeskState) (bytes : List ℕ) (f : FaultAt) → Keeps old new → AfterFile file (t.longest + 1) t.which old (Ok bytes) new → t.tells bytes (Err f) → StopsAtText t [] file old (why.Refused f) new
  unfolding told_in
  text_refused whole old new bytes f k h told = record {
    stopped = record { asked = h.0; outputs = k.outputs };
    fault = told_in whole old new bytes (Err f) h told;
    read = ap (λ (b : List ℕ). b ++ rest_of new.left) h.2;
  }

  one_less : (t.longest + 1) - 1 ≡ t.longest
  one_less = omega arith

  pub text_unread : (old new : DeskState) (w : Why) → AfterFile file (t.longest + 1) t.which old (Err w) new → StopsAtText t [] file old w new
  text_unread old new (why.OpenFault is) h = h
  text_unread old new (why.ReadFault is) (same, unread, part) = (same, unread, subst (λ n. ReadsPart n file old new) one_less part)
  text_unread old new why.NoMemory h = h
  text_unread old new other h = absurd h

  -- A MESSAGE THEN

  pub text_then : (before : List Name) (s0 s1 s2 : DeskState) (w : Why) → OnlySays s1 s2 → StopsAtText t before file s0 w s1 → StopsAtText t before file s0 w s2
  text_then before s0 s1 s2 (why.Refused f) k h = record {
    stopped = stopped_then s0 s1 s2 (before ++ file ∷ []) put.Done k h.stopped;
    fault = h.fault;
    read = read_still (t.longest + 1) (h.fault).text s1 s2 k.same.left h.read;
  }
  text_then before s0 s1 s2 (why.OpenFault is) k (same, h) = (same, unopened_then s0 s1 s2 (before ++ file ∷ []) k h)
  text_then before s0 s1 s2 (why.ReadFault is) k (same, unread, part) = (same, unread_then s0 s1 s2 (before ++ file ∷ []) k unread, part_still t.longest file s0 s1 s2 k.same.left part)
  text_then before s0 s1 s2 why.NoMemory k h = (stopped_then s0 s1 s2 (before ++ file ∷ []) put.Done k h.0, part_still (t.longest + 1) file s0 s1 s2 k.same.left h.1)
  text_then before s0 s1 s2 other k h = absurd h

  -- AFTER NAMES that were opened before

  -- what a file encodes is the same for each desk that has the same files
  pub tells_before : (told : Result A FaultAt) (s0 s1 : DeskState) → s1.files ≡ s0.files → TellsIn A t file told s1 → TellsIn A t file told s0
  tells_before told s0 s1 e h = record { text = h.text; is = subst (λ (files : Option (Name → Option (List ℕ))). IsFile files file h.text) e h.is; tells = h.tells }

  part_before : (most : ℕ) (s0 s1 s2 : DeskState) → s1.files ≡ s0.files → ReadsPart most file s1 s2 → ReadsPart most file s0 s2
  part_before most s0 s1 s2 e (bytes, h) = (bytes, (h.0, subst (λ (files : Option (Name → Option (List ℕ))). IsFile files file (bytes ++ rest_of s2.left)) e h.1))

  pub text_before : (xs : List Name) (s0 s1 s2 : DeskState) (w : Why) → GoesOnAfter xs s0 s1 → StopsAtText t [] file s1 w s2 → StopsAtText t xs file s0 w s2
  unfolding tells_before
  text_before xs s0 s1 s2 (why.Refused f) b h = record {
    stopped = stopped_more xs file [] put.Done s0 s1 s2 b h.stopped;
    fault = tells_before (Err f) s0 s1 b.kept.works.stays.files h.fault;
    read = h.read;
  }
  text_before xs s0 s1 s2 (why.OpenFault is) b (same, h) = (same, unopened_more xs file [] s0 s1 s2 b h)
  text_before xs s0 s1 s2 (why.ReadFault is) b (same, unread, part) = (same, unread_more xs file [] s0 s1 s2 b unread, part_before t.longest s0 s1 s2 b.kept.works.stays.files part)
  text_before xs s0 s1 s2 why.NoMemory b h = (stopped_more xs file [] put.Done s0 s1 s2 b h.0, part_before (t.longest + 1) s0 s1 s2 b.kept.works.stays.files h.1)
  text_before xs s0 s1 s2 other b h = absurd h
