-- What reading the input does, over the states of a desk.
use Rattle.std.proofs.Common.{◌≡◌, ℕ, List, [], ◌∷◌, ◌++◌, take, Option, None, Some, refl, sym, ap, ◌∙◌, subst}
use Rattle.std.specs.Io.KnownBytes.{Consumes, IsAtEnd}
use Rattle.jpg_base.specs.declared.names.Name.{Name}
use Rattle.jpg_base.specs.declared.names.Put.{Put}
use Rattle.jpg_base.specs.declared.names.Put.TheVariants as put
use Rattle.jpg_base.specs.Desk.{DeskState, NotesName, OpensFile, Opens}
use Rattle.jpg_base.specs.Laws.{NotesNames}
use Rattle.jpg_desk.specs.Reading.{IsFile, ReadsPart, rest_of, IsReadTo}
use Rattle.jpg_desk.specs.Stays.{OnlyReads}

pub notes_one : (a b : Option (List (Name × Put))) (entry : Name × Put) → NotesName a entry b → NotesNames a (entry ∷ []) b
notes_one a None entry h = tt
notes_one None (Some b) entry h = absurd h
notes_one (Some a) (Some b) entry h = h

pub none_is_none : (x : List ℕ) → None ≡ Some x → ⊥
none_is_none x e = cc

pub some_inj : (x y : List ℕ) → Some x ≡ Some y → x ≡ y
some_inj x y e = cc

-- none are left of an input at its end
pub none_left : (left : Option (List ℕ)) → IsAtEnd left → rest_of left ≡ []
none_left None h = refl
none_left (Some left) h = h

-- a file that is opened and read has the bytes that were read, and those that are left
pub file_read : (files : Option (Name → Option (List ℕ))) (n : Name) (l1 l2 : Option (List ℕ)) (bytes : List ℕ) → OpensFile files n l1 → Consumes l1 l2 bytes → IsFile files n (bytes ++ rest_of l2)
file_read None n l1 l2 bytes h k = tt
file_read (Some files) n None l2 bytes h k = absurd (none_is_none h.0 h.2)
file_read (Some files) n (Some l) None bytes h k = absurd k
file_read (Some files) n (Some l) (Some rest) bytes h k = h.1 ∙ ap Some (sym (some_inj l h.0 h.2) ∙ k)

pub noted : (s0 s1 s2 : DeskState) (n : Name) → Opens s0 n put.Done s1 → OnlyReads s1 s2 → NotesNames s0.asked ((n, put.Done) ∷ []) s2.asked
noted s0 s1 s2 n h k = notes_one s0.asked s2.asked (n, put.Done) (let P : Option (List (Name × Put)) → Type 0 = λ a. NotesName s0.asked (n, put.Done) a in subst P (sym k.copies.asked) h.asked)

-- what was read of a file is the same if no more of it is read
pub part_still : (most : ℕ) (file : Name) (a b c : DeskState) → c.left ≡ b.left → ReadsPart most file a b → ReadsPart most file a c
part_still most file a b c e (bytes, (few, is)) = (bytes, (few, (let P : Option (List ℕ) → Type 0 = λ l. IsFile a.files file (bytes ++ rest_of l) in subst P (sym e) is)))

pub read_still : (most : ℕ) (bytes : List ℕ) (b c : DeskState) → c.left ≡ b.left → IsReadTo most bytes b → IsReadTo most bytes c
read_still most bytes b c e h = let P : Option (List ℕ) → Type 0 = λ l. bytes ≡ take most bytes ++ rest_of l in subst P (sym e) h
