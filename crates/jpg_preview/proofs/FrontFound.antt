-- THE FRONT of a file is found: no file is without one, and what a preview shows has one.
use Rattle.std.proofs.Common.{◌≡◌, ℕ, zero, suc, ◌<◌, ◌≤◌, Bool, true, false, List, [], ◌∷◌, ◌++◌, length, take, drop, refl, sym, ap, ◌∙◌, subst, arith, inl, inr, None, Some, ◌==◌}
use Rattle.std.specs.Prelude.{◌⊎◌, Option}
use Rattle.std.proofs.lemmas.List.{append-nil, length-take-le, take-append-drop}
use Rattle.std.proofs.lemmas.Bool.{cases_lt}
use Rattle.jpg_spec.specs.Meaning.{Meaning}
use Rattle.jpg_spec.specs.Markers.{SpellsMarker, code_fault}
use Rattle.jpg_spec.specs.Items.{Item, ends_in_scan, segments_of}
use Rattle.jpg_spec.specs.FileMeaning.{Means}
use Rattle.jpg_spec.specs.FirstFault.{AfterItems}
use Rattle.jpg_spec.specs.declared.fault.Fault.{Fault}
use Rattle.jpg_spec.specs.declared.frame.Limits.{Limits}
use Rattle.jpg_spec.proofs.Basics.Common.{clash, same_of}
use Rattle.jpg_spec.proofs.Files.FilesOnce.{ends_apart, items_end_once}
use Rattle.jpg_spec.proofs.Files.TailsOnce.{Ends}
use Rattle.jpg_spec_image.specs.Front.{EndsNotBefore, EndsScan, IsFront, scans_in}
use Rattle.jpg_spec_image.proofs.Fronts.{none_after}
use Rattle.jpg_file.specs.Read.ReadFile.{IsDone, IsEarlyEnd, ReaderState}
use Rattle.jpg_preview.specs.Viewing.{HasFront, IsShown}
use Rattle.jpg_preview.proofs.ViewSteps.{none_of_front, take_front}

-- NO FILE IS WITHOUT ONE

module _ (limits : Limits) (scans : ℕ) (bytes : List ℕ) (no : (front : List ℕ) → IsFront limits scans bytes front → ⊥) where
  -- no first bytes end a front, if fewer don't
  no_end_at : (n : ℕ) → n ≤ length bytes → EndsNotBefore limits scans bytes n → EndsScan limits scans (take n bytes) → ⊥
  no_end_at n low none ends =
      no (take n bytes) (inl (record {
        rest = drop n bytes;
        cut = sym (take-append-drop n bytes);
        ends = ends;
        first = subst (EndsNotBefore limits scans bytes) (sym (length-take-le n bytes low)) none;
      }))

  none_next : (n : ℕ) → n ≤ length bytes → EndsNotBefore limits scans bytes n → EndsNotBefore limits scans bytes (suc n)
  none_next n low none = λ m less ends. by m less ends (cases_lt m n)
    where
      by : (m : ℕ) → m < suc n → EndsScan limits scans (take m bytes) → (m < n) ⊎ (n ≤ m) → ⊥
      by m less ends (inl k) = none m k ends
      by m less ends (inr k) = no_end_at m (omega (arith, low, less)) (λ j few e. none j (omega (arith, few, less)) e) ends

  none_up_to : (n : ℕ) → n ≤ suc (length bytes) → EndsNotBefore limits scans bytes n
  none_up_to zero low = λ m less ends. (let z : ⊥ = omega (arith, less) in z)
  none_up_to (suc n) low = none_next n (omega (arith, low)) (none_up_to n (omega (arith, low)))

  pub never_without : ⊥
  never_without = no bytes (inr (refl, none_up_to (suc (length bytes)) (omega arith)))

-- A COMPLETE FILE ends a front, or doesn't

module _ (limits : Limits) (scans : ℕ) (bytes : List ℕ) (M : Meaning) (w : Means limits bytes M) (full : w.rest ≡ []) where
  up_to_end : bytes ≡ w.front ++ w.marker
  up_to_end = w.cut ∙ ap (λ l. (w.front ++ w.marker) ++ l) full ∙ append-nil (w.front ++ w.marker)

  behind_end : AfterItems limits bytes w.items w.marker
  behind_end = record { front = w.front; blocks = w.blocks; cut = up_to_end; spelled = w.spelled; leads = w.leads }

  behind_with : (items : List Item) (tail : List ℕ) → AfterItems limits bytes items tail → AfterItems limits bytes items (tail ++ [])
  behind_with items tail b = subst (λ t. AfterItems limits bytes items t) (sym (append-nil tail)) b

  -- the items before the marker that ends one are those before EOI
  same_items : (e : EndsScan limits scans bytes) → w.items ≡ e.items
  same_items e = by (code_fault (segments_of e.items) e.code) refl (e.code == 0xd9) refl
    where
      once : Ends limits e.items e.marker → w.items ≡ e.items
      once k = (items_end_once limits bytes w.items e.items w.marker [] e.marker [] (behind_with w.items w.marker behind_end) (inr (w.ended, w.framed)) (behind_with e.items e.marker e.behind) k).0

      by : (o : Option Fault) → code_fault (segments_of e.items) e.code ≡ o → (b : Bool) → (e.code == 0xd9) ≡ b → w.items ≡ e.items
      by (Some f) o b h = once (inl (f, inr (inl (inl (e.code, e.spelled, o)))))
      by None o true h =
          let end = same_of e.code 0xd9 h in
          once (inr (subst (λ c. SpellsMarker c e.marker) end e.spelled, subst (λ c. code_fault (segments_of e.items) c ≡ None) end o))
      by None o false h =
          absurd (ends_apart limits bytes w.items e.items w.marker [] e.marker (behind_with w.items w.marker behind_end) (inr (w.ended, w.framed)) e.behind
          (inl (e.code, (e.spelled, o, λ end. clash (e.code == 0xd9) (subst (λ c. (c == 0xd9) ≡ true) (sym end) refl) h))))

  pub ends_or_not : EndsScan limits scans bytes ⊎ (EndsScan limits scans bytes → ⊥)
  ends_or_not = by (ends_in_scan w.items) refl (cases_lt (scans_in w.items) scans)
    where
      by : (b : Bool) → ends_in_scan w.items ≡ b → (scans_in w.items < scans) ⊎ (scans ≤ scans_in w.items) → EndsScan limits scans bytes ⊎ (EndsScan limits scans bytes → ⊥)
      by true last (inr enough) = inl (record { items = w.items; code = 0xd9; marker = w.marker; behind = behind_end; last = last; spelled = w.ended; other = refl; enough = enough; named = w.complete })
      by true last (inl few) = inr (λ e. (let same = ap scans_in (same_items e) in let enough = e.enough in let z : ⊥ = omega (arith, few, same, enough) in z))
      by false last k = inr (λ e. clash (ends_in_scan w.items) (ap ends_in_scan (same_items e) ∙ e.last) last)

-- WHAT IS SHOWN has a front: these bytes, or all of the file, where they are a complete one

-- none ends among more bytes, after a complete file that ends none
none_of_whole : (limits : Limits) (scans : ℕ) (bytes rest : List ℕ) (M : Meaning) → (w : Means limits bytes M) → w.rest ≡ [] → EndsNotBefore limits scans bytes (length bytes) → (EndsScan limits scans bytes → ⊥)
    → EndsNotBefore limits scans (bytes ++ rest) (suc (length (bytes ++ rest)))
none_of_whole limits scans bytes rest M w full first here = λ m less ends. by m ends (cases_lt m (length bytes)) (cases_lt (length bytes) m)
  where
    later : (m : ℕ) (x : List ℕ) → take m (bytes ++ rest) ≡ bytes ++ x → EndsScan limits scans (bytes ++ x) → ⊥
    later m [] e ends = here (subst (EndsScan limits scans) (append-nil bytes) ends)
    later m (b ∷ x) e ends = none_after limits bytes b x M w full scans ends

    by : (m : ℕ) → EndsScan limits scans (take m (bytes ++ rest)) → (m < length bytes) ⊎ (length bytes ≤ m) → (length bytes < m) ⊎ (m ≤ length bytes) → ⊥
    by m ends (inl few) k = first m few (subst (EndsScan limits scans) (take_front bytes rest m (omega (arith, few))) ends)
    by m ends (inr many) k = (let e = take_more_of m bytes rest many in later m (drop (length bytes) (take m (bytes ++ rest))) e (subst (EndsScan limits scans) e ends))
      where
        take_more_of : (m : ℕ) (a x : List ℕ) → length a ≤ m → take m (a ++ x) ≡ a ++ drop (length a) (take m (a ++ x))
        take_more_of m [] x low = refl
        take_more_of zero (b ∷ a) x low = (let z : ⊥ = omega (arith, low) in absurd z)
        take_more_of (suc m) (b ∷ a) x low = ap (λ l. b ∷ l) (take_more_of m a x (omega (arith, low)))

pub shown_has_front : (scans : ℕ) (bytes rest : List ℕ) (r : ReaderState) → IsShown scans bytes r → HasFront scans bytes rest r
shown_has_front scans bytes rest r w = by w.meaning
  where
    ends_here : EndsScan r.limits scans bytes → IsFront r.limits scans (bytes ++ rest) bytes
    ends_here ends = inl (record { rest = rest; cut = refl; ends = ends; first = none_of_front r.limits scans bytes rest (length bytes) (omega arith) w.first })

    whole : (d : IsDone bytes r) → EndsScan r.limits scans bytes ⊎ (EndsScan r.limits scans bytes → ⊥) → HasFront scans bytes rest r
    whole d (inl ends) = inl (ends_here ends)
    whole d (inr here) = inr (d, inr (refl, none_of_whole r.limits scans bytes rest d.meaning d.whole.0 d.whole.1 w.first here))

    by : IsDone bytes r ⊎ (IsEarlyEnd bytes r × EndsScan r.limits scans bytes) → HasFront scans bytes rest r
    by (inl d) = whole d (ends_or_not r.limits scans bytes d.meaning d.whole.0 d.whole.1)
    by (inr e) = inl (ends_here e.1)
