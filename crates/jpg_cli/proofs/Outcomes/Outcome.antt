-- A conversion: its input is read, and what is made of that is written; a message after it; and names before it.
use Rattle.std.proofs.Common.{◌≡◌, ℕ, List, [], ◌∷◌, ◌++◌, take, Option, None, Some, refl, sym, ap, ◌∙◌, subst, arith, inl, inr}
use Rattle.jpg_base.specs.declared.names.Name.{Name}
use Rattle.jpg_base.specs.declared.names.Put.TheVariants as put
use Rattle.jpg_base.specs.Desk.{DeskState, NotesName}
use Rattle.jpg_base.specs.Laws.{Grows}
use Rattle.jpg_spec_words.specs.declared.answers.Why.{Why}
use Rattle.jpg_spec_words.specs.declared.answers.Why.TheVariants as why
use Rattle.jpg_spec_words.specs.declared.answers.Which.TheVariants as which
use Rattle.jpg_spec_write.specs.declared.picture_fault.PictureFault.{PictureFault}
use Rattle.jpg_desk.specs.Endings.{Added, Asks, GoesOnAfter, Stopped}
use Rattle.jpg_desk.specs.Judging.{IsAllRead, IsInput, NoValueRead, ReadsFrom, done_as, input_names, left_of}
use Rattle.jpg_desk.specs.Reading.{rest_of}
use Rattle.jpg_cli.specs.Outcome.{Conversion, Converted, InputUnopened, MayCreate, ReadsValue, RowTexts, Writing, at_end, by_rows, RunsShort, StopsReading, StopsWriting, WritesPart, WritesRowsInPart, WritesValue, all_bytes, bytes_before, names_to_read, names_to_write, drawn}
use Rattle.jpg_desk.specs.Writing.{AfterMade, AfterOutput, as_early}
use Rattle.jpg_desk.specs.declared.moved.Wrote.TheVariants as wrote
use Rattle.jpg_desk.specs.Stays.{Keeps, OnlySays, Untouched}
use Rattle.jpg_desk.proofs.Endings.{asks_next, asks_still, stopped_then, unopened_then, wrote_then}
use Rattle.jpg_desk.proofs.NamesBefore.{added_after, from_before, output_uncreated, stopped_after, unopened_more}
use Rattle.jpg_cli.proofs.Encoding.ImageStopped.{all_still}

-- WHAT WAS READ, if no more is; its bytes are the same ones
pub same_left : (input : Option Name) (s1 s2 : DeskState) → s2.left ≡ s1.left → left_of input s1 ≡ left_of input s2
same_left None s1 s2 e = refl
same_left (Some file) s1 s2 e = ap rest_of (sym e)

abbrev pub reads_still : (s0 s1 s2 : DeskState) (input : Option Name) (Is : List ℕ → List ℕ → Type 0) → s2.left ≡ s1.left → ReadsFrom input (Is (left_of input s1)) s0 s1 → ReadsFrom input (Is (left_of input s2)) s0 s2
reads_still s0 s1 s2 input Is e h = record {
  bytes = h.bytes;
  read = subst (λ (rest : List ℕ). IsInput s0.files input (h.bytes ++ rest)) (same_left input s1 s2 e) h.read;
  most = h.most;
  is = subst (λ (rest : List ℕ). Is rest h.bytes) (same_left input s1 s2 e) h.is;
}

abbrev value_still : (V : Type 0) (c : Conversion V) (x : V) (early : Option ℕ) (fault : Option PictureFault) (s0 s1 s2 : DeskState) → s2.left ≡ s1.left → ReadsValue V c x early fault s0 s1 → ReadsValue V c x early fault s0 s2
value_still V c x early fault s0 s1 s2 e h = record { read = reads_still s0 s1 s2 c.input (c.judging.has x early) e h.read; all = all_still early s1 s2 e h.all; is = h.is }

-- whenever the output is written
pub so_read : (V : Type 0) (c : Conversion V) (w : Writing) (upto : List ℕ → List ℕ) (Is : List ℕ → Type 0) (s0 s1 : DeskState) → StopsReading c w upto Is s0 s1 → ReadsFrom c.input Is s0 s1
so_read V c (by_rows r) upto Is s0 s1 (inl h) = record { bytes = h.1.bytes; read = h.1.read; most = h.1.most; is = h.1.is.0 }
so_read V c (by_rows r) upto Is s0 s1 (inr h) = record { bytes = (h.read).bytes; read = (h.read).read; most = (h.read).most; is = (h.read).is.0 }
so_read V c other upto Is s0 s1 h = h.1

-- A MESSAGE THEN

module _ (V : Type 0) (c : Conversion V) (s0 s1 s2 : DeskState) (k : OnlySays s1 s2) where
  whole_then : (x : V) (early : Option ℕ) → WritesValue c x early s0 s1 → WritesValue c x early s0 s2
  whole_then x early (read, wrote, right) = (value_still V c x early None s0 s1 s2 k.same.left read, wrote_then s0 s1 s2 (names_to_read c) c.output (c.text x) k wrote, right)

  abbrev part_then : WritesPart V c s0 s1 → WritesPart V c s0 s2
  part_then h = record {
    value = h.value;
    early = h.early;
    count = h.count;
    read = value_still V c h.value h.early None s0 s1 s2 k.same.left h.read;
    wrote = wrote_then s0 s1 s2 (names_to_read c) c.output (take h.count (c.text h.value)) k h.wrote;
  }

  abbrev rows_then : (r : RowTexts) → WritesRowsInPart V c r s0 s1 → WritesRowsInPart V c r s0 s2
  rows_then r h = record {
    text = h.text;
    count = h.count;
    read = reads_still s0 s1 s2 c.input (λ rest bytes. c.judging.short bytes × r.determine bytes h.text) k.same.left h.read;
    wrote = wrote_then s0 s1 s2 (names_to_read c) c.output (take h.count h.text) k h.wrote;
  }

  reading_then : (w : Writing) (upto : List ℕ → List ℕ) (Is : List ℕ → List ℕ → Type 0) → StopsReading c w upto (Is (left_of c.input s1)) s0 s1 → StopsReading c w upto (Is (left_of c.input s2)) s0 s2
  reading_then (by_rows r) upto Is (inl h) =
      inl (stopped_then s0 s1 s2 (names_to_read c) put.Done k h.0, reads_still s0 s1 s2 c.input (λ rest bytes. Is rest bytes × (r.begin (upto bytes) → ⊥)) k.same.left h.1)
  reading_then (by_rows r) upto Is (inr h) = inr (record {
    text = h.text;
    read = reads_still s0 s1 s2 c.input (λ rest bytes. Is rest bytes × r.begin (upto bytes) × r.complete (upto bytes) h.text) k.same.left h.read;
    wrote = wrote_then s0 s1 s2 (names_to_read c) c.output h.text k h.wrote;
  })
  reading_then other upto Is h = (stopped_then s0 s1 s2 (names_to_read c) put.Done k h.0, reads_still s0 s1 s2 c.input Is k.same.left h.1)

  create_then : (w : Writing) → MayCreate c w s0 s1 → MayCreate c w s0 s2
  create_then (by_rows r) (inl (x, early, h)) = inl (x, early, value_still V c x early None s0 s1 s2 k.same.left h)
  create_then (by_rows r) (inr h) = inr (reads_still s0 s1 s2 c.input (λ rest bytes. c.judging.short bytes × r.begin bytes) k.same.left h)
  create_then other h = (h.0, h.1, value_still V c h.0 h.1 None s0 s1 s2 k.same.left h.2)

  writing_then : (w : Writing) → StopsWriting c w s0 s1 → StopsWriting c w s0 s2
  writing_then (by_rows r) (inl h) = inl (record { part = part_then h.part; early = h.early })
  writing_then (by_rows r) (inr h) = inr (record { part = rows_then r h.part; early = h.early })
  writing_then other h = part_then h

  short_then : (w : Writing) → RunsShort c w s0 s1 → RunsShort c w s0 s2
  short_then at_end h = (stopped_then s0 s1 s2 (names_to_read c) put.Done k h.0, reads_still s0 s1 s2 c.input (λ rest. c.judging.short) k.same.left h.1)
  short_then drawn (inl h) = inl (stopped_then s0 s1 s2 (names_to_read c) put.Done k h.0, reads_still s0 s1 s2 c.input (λ rest. c.judging.short) k.same.left h.1)
  short_then drawn (inr h) = inr (record { part = part_then h.part; left = h.left })
  short_then (by_rows r) (inl h) = inl (stopped_then s0 s1 s2 (names_to_read c) put.Done k h.0, reads_still s0 s1 s2 c.input (λ rest. c.judging.short) k.same.left h.1)
  short_then (by_rows r) (inr (inl h)) = inr (inl (record { part = part_then h.part; left = h.left }))
  short_then (by_rows r) (inr (inr h)) = inr (inr (record {
    part = rows_then r h.part;
    left = λ x is. h.left x (subst (λ (rest : List ℕ). c.judging.has x None rest ((h.part).read).bytes) (sym (same_left c.input s1 s2 k.same.left)) is);
  }))

  unopened_input : (before : List Name) (input : Option Name) → InputUnopened before input s0 s1 → InputUnopened before input s0 s2
  unopened_input before None h = absurd h
  unopened_input before (Some input) h = unopened_then s0 s1 s2 (before ++ input ∷ []) k h

  pub converted_then : (w : Why) → Converted c s0 w s1 → Converted c s0 w s2
  converted_then why.Done (x, h) = (x, whole_then x None h)
  converted_then (why.Warned n) (x, h) = (x, whole_then x (Some n) h)
  converted_then (why.Refused f) h = reading_then c.writing (bytes_before f) (c.judging.refused f) h
  converted_then (why.Picture p) (stopped, (x, early, h)) = (stopped_then s0 s1 s2 (names_to_read c) put.Done k stopped, (x, early, value_still V c x early (Some p) s0 s1 s2 k.same.left h))
  converted_then (why.OpenFault which.Input) h = unopened_input c.before c.input h
  converted_then (why.OpenFault which.Output) h = (unopened_then s0 s1 s2 (names_to_write c) k h.0, create_then c.writing h.1)
  converted_then (why.ReadFault which.Input) h = ((let rose = h.0 in let f = k.stays.counts.reads in omega (arith, rose, f)), reading_then c.writing all_bytes (λ rest. c.judging.unfinished) h.1)
  converted_then why.WriteFault h = ((let rose = h.0 in let f = k.stays.counts.writes in omega (arith, rose, f)), writing_then c.writing h.1)
  converted_then why.NoMemory h = short_then c.writing h
  converted_then other h = absurd h

-- AFTER NAMES that were opened before, where the output is created after the input was read

abbrev pub after_names : (V : Type 0) → List Name → Conversion V → Conversion V
after_names V names c = record c { before = names; writing = at_end }

input_unopened : (xs : List Name) (input : Option Name) (s0 s1 s2 : DeskState) → GoesOnAfter xs s0 s1 → InputUnopened [] input s1 s2 → InputUnopened xs input s0 s2
input_unopened xs None s0 s1 s2 b h = absurd h
input_unopened xs (Some input) s0 s1 s2 b h = unopened_more xs input [] s0 s1 s2 b h

module _ (V : Type 0) (c : Conversion V) (xs : List Name) (s0 s1 s2 : DeskState) (b : GoesOnAfter xs s0 s1) where
  value_more : (x : V) (early : Option ℕ) (fault : Option PictureFault) → ReadsValue V (after_names V [] c) x early fault s1 s2 → ReadsValue V (after_names V xs c) x early fault s0 s2
  value_more x early fault h = record { read = from_before xs c.input (c.judging.has x early (left_of c.input s2)) s0 s1 s2 b h.read; all = h.all; is = h.is }

  whole_more : (x : V) (early : Option ℕ) → WritesValue (after_names V [] c) x early s1 s2 → WritesValue (after_names V xs c) x early s0 s2
  whole_more x early (read, wrote, right) = (value_more x early None read, added_after xs (input_names c.input) c.output (c.text x) s0 s1 s2 b wrote, right)

  pub converted_after : (w : Why) → Converted (after_names V [] c) s1 w s2 → Converted (after_names V xs c) s0 w s2
  converted_after why.Done (x, h) = (x, whole_more x None h)
  converted_after (why.Warned n) (x, h) = (x, whole_more x (Some n) h)
  converted_after (why.Refused f) h = (stopped_after xs (input_names c.input) s0 s1 s2 b h.0, from_before xs c.input (c.judging.refused f (left_of c.input s2)) s0 s1 s2 b h.1)
  converted_after (why.Picture p) (stopped, (x, early, h)) = (stopped_after xs (input_names c.input) s0 s1 s2 b stopped, (x, early, value_more x early (Some p) h))
  converted_after (why.OpenFault which.Input) h = input_unopened xs c.input s0 s1 s2 b h
  converted_after (why.OpenFault which.Output) (unopened, (x, early, h)) = (output_uncreated xs (input_names c.input) c.output s0 s1 s2 b unopened, (x, early, value_more x early None h))
  converted_after (why.ReadFault which.Input) (rose, (stopped, h)) = (
    (let f = b.kept.works.stays.counts.reads in omega (arith, rose, f)),
    (stopped_after xs (input_names c.input) s0 s1 s2 b stopped, from_before xs c.input c.judging.unfinished s0 s1 s2 b h),
  )
  converted_after why.WriteFault (rose, h) = (
    (let f = b.kept.works.stays.counts.writes in omega (arith, rose, f)),
    record { value = h.value; early = h.early; count = h.count; read = value_more h.value h.early None h.read; wrote = added_after xs (input_names c.input) c.output (take h.count (c.text h.value)) s0 s1 s2 b h.wrote },
  )
  converted_after why.NoMemory h = (stopped_after xs (input_names c.input) s0 s1 s2 b h.0, from_before xs c.input c.judging.short s0 s1 s2 b h.1)
  converted_after other h = absurd h

-- NO VALUE was read

abbrev pub from_file : (V : Type 0) → Name → Conversion V → Conversion V
from_file V input c = record c { before = []; input = Some input; writing = at_end }

pub converted_unread : (V : Type 0) (c : Conversion V) (input : Name) (s0 s1 : DeskState) (w : Why) → NoValueRead c.judging input s0 w s1 → Converted (from_file V input c) s0 w s1
converted_unread V c input s0 s1 (why.Refused f) h = h
converted_unread V c input s0 s1 (why.OpenFault which.Input) h = h
converted_unread V c input s0 s1 (why.ReadFault which.Input) h = (h.0.reads, (h.0.stopped, h.1))
converted_unread V c input s0 s1 why.NoMemory h = h
converted_unread V c input s0 s1 other h = absurd h

-- where the output would have been drawn
abbrev pub drawn_from : (V : Type 0) → Name → Conversion V → Conversion V
drawn_from V input c = record c { before = []; input = Some input; writing = drawn }

pub drawn_unread : (V : Type 0) (c : Conversion V) (input : Name) (s0 s1 : DeskState) (w : Why) → NoValueRead c.judging input s0 w s1 → Converted (drawn_from V input c) s0 w s1
drawn_unread V c input s0 s1 (why.Refused f) h = h
drawn_unread V c input s0 s1 (why.OpenFault which.Input) h = h
drawn_unread V c input s0 s1 (why.ReadFault which.Input) h = (h.0.reads, (h.0.stopped, h.1))
drawn_unread V c input s0 s1 why.NoMemory h = inl h
drawn_unread V c input s0 s1 other h = absurd h

-- A VALUE was read, and its desk is used further

pub record HasValueRead (V : Type 0) (c : Conversion V) (x : V) (early : Option ℕ) (s0 s1 s2 : DeskState) : Type 0 where
  pub kept : Keeps s0 s1
  pub asked : Asks (input_names c.input) put.Done s0 s1
  pub read : ReadsFrom c.input (c.judging.has x early (left_of c.input s1)) s0 s1
  pub all : IsAllRead early s1
  pub left : s2.left ≡ s1.left

module _ (V : Type 0) (c : Conversion V) (x : V) (early : Option ℕ) (s0 s1 s2 : DeskState) (h : HasValueRead V c x early s0 s1 s2) where
  abbrev pub value_on : (fault : Option PictureFault) → c.fault x ≡ fault → ReadsValue V c x early fault s0 s2
  value_on fault is = record { read = reads_still s0 s1 s2 c.input (c.judging.has x early) h.left h.read; all = all_still early s1 s2 h.left h.all; is = is }

  reads_on : (fault : Option PictureFault) → c.fault x ≡ fault → ReadsValue V (after_names V [] c) x early fault s0 s2
  reads_on fault is = let r = value_on fault is in record { read = r.read; all = r.all; is = is }

  pub wrote_on : (text : List ℕ) → NotesName s1.asked (c.output, put.Done) s2.asked → Grows s1.outputs (c.output, text) s2.outputs → Added (input_names c.input) c.output text s0 s2
  wrote_on text noted grows = record {
    asked = asks_next s0 s1 s2 (input_names c.input) c.output put.Done h.asked noted;
    outputs = (let P : Option (List (Name × List ℕ)) → Type 0 = λ a. Grows a (c.output, text) s2.outputs in subst P h.kept.outputs grows);
  }

  stopped_on : Untouched s1 s2 → Stopped (input_names c.input) put.Done s0 s2
  stopped_on same = record { asked = asks_still s0 s1 s2 (input_names c.input) put.Done same.asked h.asked; outputs = same.outputs ∙ h.kept.outputs }

  made_whole : AfterMade (c.fault x) (c.text x) (c.right x) c.output s1 why.Done s2 → WritesValue (after_names V [] c) x early s0 s2
  made_whole (none, (noted, grows), right) = (reads_on None none, wrote_on (c.text x) noted grows, right)

  -- and what was made of it was written, by why that ended
  pub converted_made : (w : Why) → AfterMade (c.fault x) (c.text x) (c.right x) c.output s1 w s2 → Converted (after_names V [] c) s0 (as_early early w) s2
  converted_made why.Done k = by early refl
    where
      by : (o : Option ℕ) → early ≡ o → Converted (after_names V [] c) s0 (done_as o) s2
      by None same = (x, subst (λ (o : Option ℕ). WritesValue (after_names V [] c) x o s0 s2) same (made_whole k))
      by (Some n) same = (x, subst (λ (o : Option ℕ). WritesValue (after_names V [] c) x o s0 s2) same (made_whole k))
  converted_made (why.Picture p) (is, same) = (stopped_on same, (x, early, reads_on (Some p) is))
  converted_made (why.OpenFault which.Output) (none, (noted, rose, same)) = (
    record {
      stopped = record { asked = asks_next s0 s1 s2 (input_names c.input) c.output put.Failed h.asked noted; outputs = same ∙ h.kept.outputs };
      opens = (let f = h.kept.works.stays.counts.opens in omega (arith, rose, f));
    },
    (x, early, reads_on None none),
  )
  converted_made why.WriteFault (none, (noted, rose, (n, grows))) = (
    (let f = h.kept.works.stays.counts.writes in omega (arith, rose, f)),
    record { value = x; early = early; count = n; read = reads_on None none; wrote = wrote_on (take n (c.text x)) noted grows },
  )
  converted_made other k = absurd k

  -- or nothing was, as there was no memory
  pub converted_short : ((rest bytes : List ℕ) → c.judging.has x early rest bytes → c.judging.short bytes) → Untouched s1 s2 → Converted (after_names V [] c) s0 why.NoMemory s2
  converted_short short same =
      let read = reads_still s0 s1 s2 c.input (λ rest. c.judging.has x early rest) h.left h.read in
      (stopped_on same, record { bytes = read.bytes; read = read.read; most = read.most; is = short (left_of c.input s2) read.bytes read.is })

-- WHAT WAS MADE, said in another way

pub none_early : (w : Why) → as_early None w ≡ w
none_early why.Done = refl
none_early other = refl

module _ (fault other : Option PictureFault) (text also : List ℕ) where
  pub made_same : (Right Is : Type 0) (output : Name) (s0 s1 : DeskState) → other ≡ fault → text ≡ also → (other ≡ None → Right → Is) → (w : Why)
      → AfterMade fault text Right output s0 w s1 → AfterMade other also Is output s0 w s1
  made_same Right Is output s0 s1 e d right why.Done (none, out, is) = (e ∙ none, subst (λ (t : List ℕ). AfterOutput output s0 t wrote.Done s1) d out, right (e ∙ none) is)
  made_same Right Is output s0 s1 e d right (why.Picture p) (is, same) = (e ∙ is, same)
  made_same Right Is output s0 s1 e d right (why.OpenFault which.Output) (none, out) = (e ∙ none, subst (λ (t : List ℕ). AfterOutput output s0 t wrote.OpenFault s1) d out)
  made_same Right Is output s0 s1 e d right why.WriteFault (none, out) = (e ∙ none, subst (λ (t : List ℕ). AfterOutput output s0 t wrote.WriteFault s1) d out)
  made_same Right Is output s0 s1 e d right others h = absurd h
