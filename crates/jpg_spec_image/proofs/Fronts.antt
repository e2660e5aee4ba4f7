-- THE LAWS of the front of a file that shows its first scans.
use Rattle.std.proofs.Common.{◌≡◌, ◌⊎◌, ℕ, suc, ◌<◌, ◌≤◌, Bool, true, false, List, [], ◌∷◌, ◌++◌, length, take, refl, sym, ap, ◌∙◌, subst, arith, inl, inr, None, Some, ◌==◌}
use Rattle.std.specs.Prelude.{Option}
use Rattle.std.proofs.Math.Seq.{take_all}
use Rattle.std.proofs.lemmas.List.{append_assoc, append-nil, length-append, take-append-le}
use Rattle.std.proofs.lemmas.Bool.{cases_lt}
use Rattle.jpg_spec.specs.Meaning.{Meaning}
use Rattle.jpg_spec.specs.Markers.{SpellsMarker, code_fault}
use Rattle.jpg_spec.specs.InForce.{frame_of}
use Rattle.jpg_spec.specs.History.{is_complete}
use Rattle.jpg_spec.specs.Items.{Item, segment, scan, segments_of, ends_in_scan}
use Rattle.jpg_spec.specs.FileMeaning.{Means}
use Rattle.jpg_spec.specs.FirstFault.{AfterItems, HasMeaning, HaveBegun, IsEarly, IsFirstFault, Reveals, RevealsNone}
use Rattle.jpg_spec.specs.declared.fault.Fault.{Fault}
use Rattle.jpg_spec.specs.declared.fault.Fault.TheVariants.{Truncated}
use Rattle.jpg_spec.specs.declared.frame.Limits.{Limits}
use Rattle.jpg_spec.proofs.Basics.Common.{clash, same_of}
use Rattle.jpg_spec.proofs.Files.FileLaws.{means_more}
use Rattle.jpg_spec.proofs.Files.FilesOnce.{ends_apart, items_end_once}
use Rattle.jpg_spec.proofs.Segments.MarkersOnce.{no_head}
use Rattle.jpg_spec.proofs.Files.TailsOnce.{Ends}
use Rattle.jpg_spec_image.specs.Front.{BeginsWith, EndsNotBefore, EndsScan, IsFront}
use Rattle.jpg_spec_image.specs.Laws.{EndsShort, IsStoppedIn}

-- FIRST BYTES of the front are those of the file

front_bytes : (bytes front rest : List ℕ) (m : ℕ) → bytes ≡ front ++ rest → m ≤ length front → take m bytes ≡ take m front
front_bytes bytes front rest m e low = ap (take m) e ∙ take-append-le m front rest low

whole_front : (front : List ℕ) → take (length front) front ≡ front
whole_front front = take_all (length front) front (omega arith)

not_before : (limits : Limits) (scans : ℕ) (bytes front rest : List ℕ) (n : ℕ) → bytes ≡ front ++ rest → n ≤ suc (length front) → EndsNotBefore limits scans bytes n → EndsNotBefore limits scans front n
not_before limits scans bytes front rest n e low none = λ m less ends. none m less (subst (EndsScan limits scans) (sym (front_bytes bytes front rest m e (omega (arith, less, low)))) ends)

-- ONE FRONT

no_end_short : (limits : Limits) (scans : ℕ) (bytes a b : List ℕ) → BeginsWith limits scans bytes a → BeginsWith limits scans bytes b → length a < length b → ⊥
no_end_short limits scans bytes a b v w less = w.first (length a) less (subst (EndsScan limits scans) (sym (front_bytes bytes a v.rest (length a) v.cut (omega arith) ∙ whole_front a)) v.ends)

no_end_there : (limits : Limits) (scans : ℕ) (bytes a : List ℕ) → BeginsWith limits scans bytes a → EndsNotBefore limits scans bytes (suc (length bytes)) → ⊥
no_end_there limits scans bytes a v none =
    let long = ap length v.cut ∙ length-append a v.rest in
    none (length a) (omega (arith, long)) (subst (EndsScan limits scans) (sym (front_bytes bytes a v.rest (length a) v.cut (omega arith) ∙ whole_front a)) v.ends)

same_length : (bytes a b x y : List ℕ) → bytes ≡ a ++ x → bytes ≡ b ++ y → length a ≡ length b → a ≡ b
same_length bytes a b x y e f same =
    sym (front_bytes bytes a x (length a) e (omega arith) ∙ whole_front a) ∙ ap (λ n. take n bytes) same ∙ (front_bytes bytes b y (length b) f (omega arith) ∙ whole_front b)

pub one_front : (limits : Limits) (scans : ℕ) (bytes a b : List ℕ) → IsFront limits scans bytes a → IsFront limits scans bytes b → a ≡ b
one_front limits scans bytes a b (inl v) (inl w) = by (cases_lt (length a) (length b)) (cases_lt (length b) (length a))
  where
    by : (length a < length b) ⊎ (length b ≤ length a) → (length b < length a) ⊎ (length a ≤ length b) → a ≡ b
    by (inl less) k = absurd (no_end_short limits scans bytes a b v w less)
    by (inr h) (inl less) = absurd (no_end_short limits scans bytes b a w v less)
    by (inr h) (inr k) = same_length bytes a b v.rest w.rest v.cut w.cut (omega (arith, h, k))
one_front limits scans bytes a b (inl v) (inr w) = absurd (no_end_there limits scans bytes a v w.1)
one_front limits scans bytes a b (inr v) (inl w) = absurd (no_end_there limits scans bytes b w v.1)
one_front limits scans bytes a b (inr v) (inr w) = v.0 ∙ sym w.0

pub own_front : (limits : Limits) (scans : ℕ) (bytes front : List ℕ) → IsFront limits scans bytes front → IsFront limits scans front front
own_front limits scans bytes front (inl v) = inl (record {
  rest = [];
  cut = sym (append-nil front);
  ends = v.ends;
  first = not_before limits scans bytes front v.rest (length front) v.cut (omega arith) v.first;
})
own_front limits scans bytes front (inr v) = inr (refl, subst (λ l. EndsNotBefore limits scans l (suc (length l))) (sym v.0) v.1)

pub more_front : (limits : Limits) (scans : ℕ) (bytes more front : List ℕ) → BeginsWith limits scans bytes front → BeginsWith limits scans (bytes ++ more) front
more_front limits scans bytes more front v = record {
  rest = v.rest ++ more;
  cut = ap (λ l. l ++ more) v.cut ∙ append_assoc front v.rest more;
  ends = v.ends;
  first = λ m less ends. v.first m less (subst (EndsScan limits scans) (early m less) ends);
}
  where
    early : (m : ℕ) → m < length front → take m (bytes ++ more) ≡ take m bytes
    early m less = let long = ap length v.cut ∙ length-append front v.rest in take-append-le m bytes more (omega (arith, less, long))

-- AFTER A COMPLETE FILE no scan ends

module _ (limits : Limits) (bytes : List ℕ) (byte : ℕ) (more : List ℕ) (M : Meaning) (w : Means limits bytes M) (full : w.rest ≡ []) where
  abbrev stream : List ℕ
  stream = bytes ++ byte ∷ more

  up_to_eoi : bytes ≡ w.front ++ w.marker
  up_to_eoi = w.cut ∙ ap (λ l. (w.front ++ w.marker) ++ l) full ∙ append-nil (w.front ++ w.marker)

  behind_eoi : AfterItems limits stream w.items (w.marker ++ byte ∷ more)
  behind_eoi = record {
    front = w.front;
    blocks = w.blocks;
    cut = ap (λ l. l ++ byte ∷ more) up_to_eoi ∙ append_assoc w.front w.marker (byte ∷ more);
    spelled = w.spelled;
    leads = w.leads;
  }

  no_end_there_twice : (items : List Item) (marker : List ℕ) → AfterItems limits stream items (marker ++ []) → Ends limits items marker → ⊥
  no_end_there_twice items marker b k = no_head byte more (sym (items_end_once limits stream w.items items w.marker (byte ∷ more) marker [] behind_eoi (inr (w.ended, w.framed)) b k).2)

  pub none_after : (scans : ℕ) → EndsScan limits scans (bytes ++ byte ∷ more) → ⊥
  none_after scans e = by (code_fault (segments_of e.items) e.code) refl (e.code == 0xd9) refl
    where
      behind : AfterItems limits stream e.items (e.marker ++ [])
      behind = subst (λ t. AfterItems limits stream e.items t) (sym (append-nil e.marker)) e.behind

      by : (o : Option Fault) → code_fault (segments_of e.items) e.code ≡ o → (b : Bool) → (e.code == 0xd9) ≡ b → ⊥
      by (Some f) o b h = no_end_there_twice e.items e.marker behind (inl (f, inr (inl (inl (e.code, e.spelled, o)))))
      by None o true h =
          let end = same_of e.code 0xd9 h in
          no_end_there_twice e.items e.marker behind (inr (subst (λ c. SpellsMarker c e.marker) end e.spelled, subst (λ c. code_fault (segments_of e.items) c ≡ None) end o))
      by None o false h =
          ends_apart limits stream w.items e.items w.marker (byte ∷ more) e.marker behind_eoi (inr (w.ended, w.framed)) e.behind
          (inl (e.code, (e.spelled, o, λ end. clash (e.code == 0xd9) (subst (λ c. (c == 0xd9) ≡ true) (sym end) refl) h)))

-- FAULTS

pub front_cut : (limits : Limits) (scans : ℕ) (bytes front : List ℕ) → IsFront limits scans bytes front → (rest : List ℕ) × (bytes ≡ front ++ rest)
front_cut limits scans bytes front (inl v) = (v.rest, v.cut)
front_cut limits scans bytes front (inr v) = ([], sym v.0 ∙ sym (append-nil front))

pub fault_inside : (limits : Limits) (bytes front rest : List ℕ) (f : Fault) (n : ℕ) → bytes ≡ front ++ rest → n ≤ length front → (f ≡ Truncated → n ≡ length bytes → ⊥) → IsFirstFault limits bytes f n → IsFirstFault limits front f n
fault_inside limits bytes front rest f n e low other (inl k) = inl (
  k.0,
  (
    low,
    subst (Reveals limits f) (front_bytes bytes front rest n e low) k.1.1,
    λ g m less t. k.1.2 g m less (subst (Reveals limits g) (sym (front_bytes bytes front rest m e (omega (arith, less, low)))) t),
    λ g less t. k.1.3 g less (subst (Reveals limits g) (sym (front_bytes bytes front rest n e low)) t),
  ),
)
fault_inside limits bytes front rest f n e low other (inr (inl k)) = inr (inl (
  k.0,
  k.1,
  (let at = k.1 in omega (arith, at, low)),
  subst (RevealsNone limits) (front_bytes bytes front rest n e low) k.3,
  λ m. k.4 (m.0, subst (λ l. Means limits l m.0) (sym e) (means_more limits front rest m.0 m.1)),
))
fault_inside limits bytes front rest f n e low other (inr (inr k)) = absurd (other k.0 k.1)

pub fault_of_front : (limits : Limits) (scans : ℕ) (bytes front : List ℕ) (f : Fault) (n : ℕ) → IsStoppedIn limits scans bytes front f n → IsFirstFault limits front f n
fault_of_front limits scans bytes front f n w =
    let c = front_cut limits scans bytes front w.front_of in fault_inside limits bytes front c.0 f n c.1 w.inside (λ e at. w.other e) w.shown

-- EACH COMPONENT HAS BEGUN where such a scan ends

pub ends_begun : (limits : Limits) (scans : ℕ) (front : List ℕ) → EndsScan limits scans front → HaveBegun limits front
ends_begun limits scans front e = by e.items e.last e.behind e.named
  where
    by : (items : List Item) → ends_in_scan items ≡ true → AfterItems limits front items e.marker → is_complete (frame_of limits (segments_of items)) (segments_of items) ≡ true → HaveBegun limits front
    by [] last b named = absurd (clash false last refl)
    by (segment code contents ∷ items) last b named = absurd (clash false last refl)
    by (scan contents intervals ∷ items) last b named =
        let s = b.spelled in
        let l = b.leads in
        let t = s.4 in
        record {
          items = items;
          blocks = l.0;
          contents = contents;
          front = s.0;
          head = t.0;
          rest = t.1 ++ e.marker;
          cut = b.cut ∙ ap (λ k. k ++ e.marker) (s.2 ∙ ap (λ k. s.0 ++ k) t.2 ∙ sym (append_assoc s.0 t.0 t.1)) ∙ append_assoc (s.0 ++ t.0) t.1 e.marker;
          spelled = s.3;
          header = t.3;
          leads = l.3;
          allowed = (l.1, l.2);
          complete = named;
        }

pub ends_early : (limits : Limits) (scans : ℕ) (front : List ℕ) → EndsShort limits scans front → (HasMeaning limits front → ⊥) → IsEarly limits front
ends_early limits scans front w open_end = record { short = w.short; faultless = w.faultless; unended = open_end; begun = ends_begun limits scans front w.ends }
