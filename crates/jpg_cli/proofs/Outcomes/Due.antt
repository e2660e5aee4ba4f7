-- If nothing failed, the answer is the one that is due; and only one is.
use Rattle.std.proofs.Common.{◌≡◌, ◌⊎◌, ℕ, List, ◌++◌, Option, None, Some, refl, sym, ap, ◌∙◌, subst, inl, inr}
use Rattle.jpg_base.specs.declared.names.Name.{Name}
use Rattle.jpg_base.specs.Desk.{DeskState, Rose}
use Rattle.jpg_spec.specs.declared.fault.FaultAt.{FaultAt}
use Rattle.jpg_spec_words.specs.declared.answers.Why.{Why}
use Rattle.jpg_spec_words.specs.declared.answers.Why.TheVariants as why
use Rattle.jpg_spec_words.specs.declared.answers.Which.TheVariants as which
use Rattle.jpg_spec_write.specs.declared.picture_fault.PictureFault.{PictureFault}
use Rattle.jpg_cli.specs.Certain.{IsOrNoMemory, IsTold}
use Rattle.jpg_desk.specs.Judging.{IsAllRead, IsInput, done_as, left_of}
use Rattle.jpg_desk.specs.Reading.{IsFile}
use Rattle.jpg_cli.specs.Due.{InputHas, InputRefused, IsDueFor, IsDueAfter, IsFaultOf, NoneRose, OrNoMemory, TellsFiles}
use Rattle.jpg_cli.specs.Outcome.{Conversion, Converted, InputUnopened, ReadsValue, bytes_before}
use Rattle.jpg_desk.proofs.Input.{some_inj}
use Rattle.jpg_desk.proofs.Judged.{IsJudged}
use Rattle.jpg_cli.proofs.Outcomes.Outcome.{so_read}

-- A KNOWN FILE has one list of bytes

pub one_file : (files : Option (Name → Option (List ℕ))) (n : Name) (bytes other : List ℕ) → IsTold files n bytes → IsFile files n other → other ≡ bytes
one_file None n bytes other told is = absurd told
one_file (Some files) n bytes other told is = some_inj other bytes (sym is ∙ told)

-- a desk that knows one knows all
pub tells_files : (s : DeskState) (n : Name) (bytes : List ℕ) → IsTold s.files n bytes → TellsFiles s
tells_files s n bytes told = by s.files refl told
  where
    by : (files : Option (Name → Option (List ℕ))) → s.files ≡ files → IsTold files n bytes → TellsFiles s
    by None e h = absurd h
    by (Some files) e h = record { files = files; told = e }

pub is_told : (s : DeskState) (n : Name) (bytes : List ℕ) → TellsFiles s → IsFile s.files n bytes → IsTold s.files n bytes
is_told s n bytes t h =
    subst (λ (f : Option (Name → Option (List ℕ))). IsTold f n bytes) (sym t.told) (subst (λ (f : Option (Name → Option (List ℕ))). IsFile f n bytes) t.told h)

pub is_file : (files : Option (Name → Option (List ℕ))) (n : Name) (bytes : List ℕ) → IsTold files n bytes → IsFile files n bytes
is_file None n bytes h = absurd h
is_file (Some files) n bytes h = h

pub same_bytes : (s : DeskState) (n : Name) (a b : List ℕ) → TellsFiles s → IsFile s.files n a → IsFile s.files n b → b ≡ a
same_bytes s n a b t h k = one_file s.files n a b (is_told s n a t h) k

pub one_input : (s : DeskState) (input : Option Name) (a b : List ℕ) → TellsFiles s → IsInput s.files input a → IsInput s.files input b → b ≡ a
one_input s None a b t h k = k ∙ sym h
one_input s (Some file) a b t h k = same_bytes s file a b t h k

-- A CONVERSION

module _ (V : Type 0) (c : Conversion V) (law : IsJudged V c.judging) where
  -- what was judged of the bytes that were read holds of the input, or of no bytes if there is none
  none_left : (early : Option ℕ) (s : DeskState) → IsAllRead early (record s { left = None })
  none_left None s = tt
  none_left (Some n) s = refl

  read_means : (input : Option Name) (x : V) (early : Option ℕ) (bytes : List ℕ) (s : DeskState) → c.judging.has x early (left_of input s) bytes → IsAllRead early s → c.judging.means early x (bytes ++ left_of input s)
  read_means None x early bytes s is all = law.read x early bytes (record s { left = None }) is (none_left early s)
  read_means (Some file) x early bytes s is all = law.read x early bytes s is all

  input_has : (x : V) (early : Option ℕ) (fault : Option PictureFault) (s0 s1 : DeskState) → ReadsValue V c x early fault s0 s1 → InputHas V c early fault s0
  input_has x early fault s0 s1 h = record {
    value = x;
    bytes = (h.read).bytes ++ left_of c.input s1;
    file = (h.read).read;
    means = read_means c.input x early (h.read).bytes s1 (h.read).is h.all;
    is = h.is;
  }

  pub input_refused : (f : FaultAt) (s0 s1 : DeskState) → Converted c s0 (why.Refused f) s1 → InputRefused V c f s0
  input_refused f s0 s1 h =
      let k = so_read V c c.writing (bytes_before f) (c.judging.refused f (left_of c.input s1)) s0 s1 h in
      record { bytes = k.bytes ++ left_of c.input s1; file = k.read; refused = law.refused f (left_of c.input s1) k.bytes k.is }

  pub converted_due : (s0 s1 : DeskState) (w : Why) → NoneRose s0.counts s1.counts → Converted c s0 w s1 → OrNoMemory (IsDueFor c) s0 w
  converted_due s0 s1 why.Done n (x, (read, wrote, right)) = inl (input_has x None None s0 s1 read)
  converted_due s0 s1 (why.Warned m) n (x, (read, wrote, right)) = inl (input_has x (Some m) None s0 s1 read)
  converted_due s0 s1 (why.Refused f) n h = inl (input_refused f s0 s1 h)
  converted_due s0 s1 (why.Picture p) n (stopped, (x, early, h)) = inl (early, input_has x early (Some p) s0 s1 h)
  converted_due s0 s1 (why.OpenFault which.Input) n h = absurd (n.0 (unopened c.before c.input h))
    where
      unopened : (before : List Name) (input : Option Name) → InputUnopened before input s0 s1 → Rose s0.counts.opens s1.counts.opens
      unopened before None k = absurd k
      unopened before (Some input) k = k.opens
  converted_due s0 s1 (why.OpenFault which.Output) n h = absurd (n.0 h.0.opens)
  converted_due s0 s1 (why.ReadFault which.Input) n h = absurd (n.1 h.0)
  converted_due s0 s1 why.WriteFault n h = absurd (n.2 h.0)
  converted_due s0 s1 why.NoMemory n h = inr refl
  converted_due s0 s1 other n h = absurd h

  -- a run refused the known input
  pub refuses_told : (s0 s1 : DeskState) (bytes : List ℕ) (f : FaultAt) → ((other : List ℕ) → IsInput s0.files c.input other → other ≡ bytes) → Converted c s0 (why.Refused f) s1
      → c.judging.refuses f bytes
  refuses_told s0 s1 bytes f told h =
      let k = input_refused f s0 s1 h in subst (λ (b : List ℕ). c.judging.refuses f b) (told k.bytes k.file) k.refused

  -- a value that is made without a fault
  pub due_as : (s : DeskState) (early : Option ℕ) → InputHas V c early None s → IsDueFor c s (done_as early)
  due_as s None h = h
  due_as s (Some n) h = h

  -- the answer of one file

  bytes_once : (s : DeskState) (a b : List ℕ) → TellsFiles s → IsInput s.files c.input a → IsInput s.files c.input b → b ≡ a
  bytes_once s a b t h k = one_input s c.input a b t h k

  early_once : (s : DeskState) (e d : Option ℕ) (p q : Option PictureFault) → TellsFiles s → InputHas V c e p s → InputHas V c d q s → d ≡ e
  early_once s e d p q t h k =
      law.early_once h.bytes e d h.value k.value h.means (subst (λ (b : List ℕ). c.judging.means d k.value b) (bytes_once s h.bytes k.bytes t h.file k.file) k.means)

  result_once : (s : DeskState) (e d : Option ℕ) (p q : Option PictureFault) → TellsFiles s → InputHas V c e p s → InputHas V c d q s → q ≡ p
  result_once s e d p q t h k =
      let means = subst (λ (b : List ℕ). c.judging.means d k.value b) (bytes_once s h.bytes k.bytes t h.file k.file) k.means in
      sym k.is ∙ ap (λ (x : V). c.fault x) (law.value_once h.bytes e d h.value k.value h.means means) ∙ h.is

  refused_once : (s : DeskState) (f g : FaultAt) → TellsFiles s → InputRefused V c f s → InputRefused V c g s → g ≡ f
  refused_once s f g t h k = law.fault_once h.bytes f g h.refused (subst (λ (b : List ℕ). c.judging.refuses g b) (bytes_once s h.bytes k.bytes t h.file k.file) k.refused)

  not_refused : (s : DeskState) (e : Option ℕ) (p : Option PictureFault) (f : FaultAt) → TellsFiles s → InputHas V c e p s → InputRefused V c f s → ⊥
  not_refused s e p f t h k = law.never_both h.bytes e h.value f h.means (subst (λ (b : List ℕ). c.judging.refuses f b) (bytes_once s h.bytes k.bytes t h.file k.file) k.refused)

  -- an answer that is due is by a value, with how it ended and its fault, or by a fault of the input
  abbrev answer_of : Option ℕ → Option PictureFault → Why
  answer_of early (Some p) = why.Picture p
  answer_of None None = why.Done
  answer_of (Some n) None = why.Warned n

  abbrev IsDueBy : DeskState → Why → Type 0
  IsDueBy s w = ((early : Option ℕ) × (fault : Option PictureFault) × InputHas V c early fault s × (w ≡ answer_of early fault)) ⊎ ((f : FaultAt) × InputRefused V c f s × (w ≡ why.Refused f))

  due_by : (s : DeskState) (w : Why) → IsDueFor c s w → IsDueBy s w
  due_by s why.Done h = inl (None, None, h, refl)
  due_by s (why.Warned n) h = inl (Some n, None, h, refl)
  due_by s (why.Refused f) h = inr (f, h, refl)
  due_by s (why.Picture p) (early, h) = inl (early, Some p, h, refl)
  due_by s other h = absurd h

  pub due_once : (s : DeskState) (v w : Why) → TellsFiles s → IsDueFor c s v → IsDueFor c s w → w ≡ v
  due_once s v w t h k = by (due_by s v h) (due_by s w k)
    where
      by : IsDueBy s v → IsDueBy s w → w ≡ v
      by (inl (e, p, a, i)) (inl (d, q, b, j)) =
          j ∙ ap (λ (o : Option ℕ). answer_of o q) (early_once s e d p q t a b) ∙ ap (λ (o : Option PictureFault). answer_of e o) (result_once s e d p q t a b) ∙ sym i
      by (inl (e, p, a, i)) (inr (g, b, j)) = absurd (not_refused s e p g t a b)
      by (inr (f, a, i)) (inl (d, q, b, j)) = absurd (not_refused s d q f t b a)
      by (inr (f, a, i)) (inr (g, b, j)) = j ∙ ap (λ (x : FaultAt). why.Refused x) (refused_once s f g t a b) ∙ sym i

-- AFTER SOMETHING was taken

module _ (A : Type 0) (Faulty : DeskState → FaultAt → Type 0) (Has : DeskState → A → Type 0) (Next : A → DeskState → Why → Type 0) where
  fault_of : (s : DeskState) (w : Why) → IsFaultOf Faulty s w → (f : FaultAt) × Faulty s f × (w ≡ why.Refused f)
  fault_of s (why.Refused f) h = (f, h, refl)
  fault_of s other h = absurd h

  pub after_once : (s : DeskState) (v w : Why) → ((x y : A) → Has s x → Has s y → y ≡ x) → ((f g : FaultAt) → Faulty s f → Faulty s g → g ≡ f) → ((x : A) (f : FaultAt) → Has s x → Faulty s f → ⊥)
      → ((x : A) → Next x s v → Next x s w → w ≡ v) → IsDueAfter Faulty Has Next s v → IsDueAfter Faulty Has Next s w → w ≡ v
  after_once s v w one fault never next (inl h) (inl k) =
      let a = fault_of s v h in let b = fault_of s w k in b.2 ∙ ap (λ (x : FaultAt). why.Refused x) (fault a.0 b.0 a.1 b.1) ∙ sym a.2
  after_once s v w one fault never next (inl h) (inr (y, has, k)) = let a = fault_of s v h in absurd (never y a.0 has a.1)
  after_once s v w one fault never next (inr (x, has, h)) (inl k) = let b = fault_of s w k in absurd (never x b.0 has b.1)
  after_once s v w one fault never next (inr (x, has, h)) (inr (y, had, k)) = next x h (subst (λ (z : A). Next z s w) (one x y has had) k)

  -- by what was taken
  pub due_taken : (s : DeskState) (w : Why) (x : A) → Has s x → OrNoMemory (Next x) s w → OrNoMemory (IsDueAfter Faulty Has Next) s w
  due_taken s w x has (inl h) = inl (inr (x, has, h))
  due_taken s w x has (inr e) = inr e

-- ONE ANSWER
pub only_answer : (Due : DeskState → Why → Type 0) (s : DeskState) (v w : Why) → ((w : Why) → Due s v → Due s w → w ≡ v) → Due s v → OrNoMemory Due s w → IsOrNoMemory v w
only_answer Due s v w once h (inl k) = inl (once w h k)
only_answer Due s v w once h (inr e) = inr e
