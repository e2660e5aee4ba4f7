-- The bytes of an input that are taken up to a limit, and of a file.
use Rattle.std.proofs.Common.{◌≡◌, ℕ, ◌≤◌, List, [], ◌∷◌, ◌++◌, length, take, Option, Result, Ok, Err, refl, sym, ap, ◌∙◌, subst, arith, inl, inr}
use Rattle.std.specs.Prelude.{◌⊎◌}
use Rattle.std.specs.Io.KnownBytes.{IsAtEnd}
use Rattle.std.proofs.lemmas.List.{take_all, take_at, append-nil}
use Rattle.jpg_base.specs.declared.names.Name.{Name}
use Rattle.jpg_base.specs.declared.names.Put.TheVariants as put
use Rattle.jpg_base.specs.Desk.{DeskState, Opens}
use Rattle.jpg_base.specs.Laws.{NotesNames}
use Rattle.jpg_spec_words.specs.declared.answers.Why.{Why}
use Rattle.jpg_spec_words.specs.declared.answers.Why.TheVariants as why
use Rattle.jpg_spec_words.specs.declared.answers.Which.{Which}
use Rattle.jpg_spec_words.specs.declared.answers.Which.TheVariants as which
use Rattle.jpg_desk.specs.BytesTaken.{AfterBytes, bytes_kind, why_of_file}
use Rattle.jpg_desk.specs.FileTaken.{AfterFile}
use Rattle.jpg_desk.specs.Pump.{EndsAll, IsFed, IsUnread}
use Rattle.jpg_desk.specs.Reading.{IsFile, rest_of}
use Rattle.jpg_desk.specs.Stays.{OnlyReads}
use Rattle.jpg_desk.specs.declared.file.BytesSink.{BytesSink}
use Rattle.jpg_desk.proofs.Input.{file_read, none_left, noted}
use Rattle.jpg_desk.proofs.PiecesRead.{left_still, none_read, reads_none, reads_then}

-- AN INPUT, fed piece by piece

never_both : {early : Option ℕ} {w : Why} → Ok early ≡ Err w → ⊥
never_both e = cc

abbrev of_answer : Result (Option ℕ) Why → Why
of_answer (Ok early) = why.Done
of_answer (Err w) = w

same_why : (v w : Why) → (let answer : Result (Option ℕ) Why = Err v in answer) ≡ Err w → v ≡ w
same_why v w e = ap of_answer e

module _ (s : BytesSink) (start : DeskState) (file : Which) (now : BytesSink × DeskState) where
  pub all_taken : (early : Option ℕ) → EndsAll bytes_kind (s, start) (Ok early) now → OnlyReads start now.1 × AfterBytes s.limit file start (Ok (now.0).bytes) now.1
  all_taken early (inl h) = (h.0.kept, (h.0.read, h.1, h.2))
  all_taken early (inr h) = absurd (never_both h.is)

  unread : (answer : Result (Option ℕ) Why) → IsUnread BytesSink bytes_kind (s, start) answer now → OnlyReads start now.1 × AfterBytes s.limit file start (Err (why.ReadFault file)) now.1
  unread answer h = (
    reads_then h.fed.fed.kept h.failed.kept,
    (refl, (h.bytes, left_still h.desk now.1 h.bytes start h.failed.left h.fed.fed.read, (let few = h.fed.short in let same = h.fed.fed.limit in omega (arith, few, same))), (let f = h.fed.fed.kept.copies.works.stays.counts.reads in let r = h.failed.rose in omega (arith, r, f))),
  )

  pub none_taken : (w : Why) → EndsAll bytes_kind (s, start) (Err w) now → OnlyReads start now.1 × AfterBytes s.limit file start (Err (why_of_file w file)) now.1
  none_taken w (inr h) =
      subst (λ (v : Why). OnlyReads start now.1 × AfterBytes s.limit file start (Err (why_of_file v file)) now.1) (sym (same_why w (why.ReadFault which.Input) h.is)) (unread (Err w) h)
  none_taken why.NoMemory (inl h) = h
  none_taken other (inl h) = absurd h

-- before the first byte
pub bytes_fed : (s : BytesSink) (desk : DeskState) → 1 ≤ s.limit → s.bytes ≡ [] → IsFed BytesSink bytes_kind (s, desk) [] (s, desk)
bytes_fed s desk some none = record { short = omega (arith, some); fed = record { is = none; limit = refl; kept = reads_none desk; read = none_read desk.left } }

-- A FILE

-- what was taken is a prefix of an input
front_is : (limit : ℕ) (input taken rest : List ℕ) → input ≡ taken ++ rest → length taken ≤ limit → (limit ≤ length taken) ⊎ (rest ≡ []) → taken ≡ take limit input
front_is limit input taken rest e le (inl ge) = sym (ap (take limit) e ∙ take_at taken rest limit (omega (arith, le, ge)))
front_is limit input taken rest e le (inr none) = sym (ap (take limit) (e ∙ ap (λ r. taken ++ r) none ∙ append-nil taken) ∙ take_all limit taken le)

none_behind : (limit : ℕ) (taken : List ℕ) (left : Option (List ℕ)) → (limit ≤ length taken) ⊎ IsAtEnd left → (limit ≤ length taken) ⊎ (rest_of left ≡ [])
none_behind limit taken left (inl ge) = inl ge
none_behind limit taken left (inr end) = inr (none_left left end)

-- an input is read
took : (limit : ℕ) (file : Which) (s0 s1 s2 : DeskState) (n : Name) (v : List ℕ) → Opens s0 n put.Done s1 → OnlyReads s1 s2 → AfterBytes limit file s1 (Ok v) s2
    → NotesNames s0.asked ((n, put.Done) ∷ []) s2.asked × IsFile s0.files n (v ++ rest_of s2.left) × (v ≡ take limit (v ++ rest_of s2.left))
took limit file s0 s1 s2 n v h k r = (
  noted s0 s1 s2 n h k,
  file_read s0.files n s1.left s2.left v h.after.2 r.0,
  front_is limit (v ++ rest_of s2.left) v (rest_of s2.left) refl r.1 (none_behind limit v s2.left r.2),
)

pub file_taken : (limit : ℕ) (file : Which) (s0 s1 s2 : DeskState) (n : Name) (answer : Result (List ℕ) Why) → 1 ≤ limit → Opens s0 n put.Done s1 → OnlyReads s1 s2 → AfterBytes limit file s1 answer s2 → AfterFile n limit file s0 answer s2
file_taken limit file s0 s1 s2 n (Ok v) some h k r = took limit file s0 s1 s2 n v h k r
file_taken limit file s0 s1 s2 n (Err (why.ReadFault is)) some h k (same, (bytes, read, few), rose) = (
  same,
  record { stopped = record { asked = noted s0 s1 s2 n h k; outputs = k.outputs ∙ h.outputs }; reads = (let f = h.counts.reads in omega (arith, rose, f)) },
  (bytes, (omega (arith, few, some), file_read s0.files n s1.left s2.left bytes h.after.2 read)),
)
file_taken limit file s0 s1 s2 n (Err why.NoMemory) some h k (bytes, read, few) =
    (record { asked = noted s0 s1 s2 n h k; outputs = k.outputs ∙ h.outputs }, (bytes, (few, file_read s0.files n s1.left s2.left bytes h.after.2 read)))
file_taken limit file s0 s1 s2 n (Err other) some h k r = absurd r
