use Rattle.std.proofs.Common.{rules, ◌≡◌, ℕ, Bool, List, [], ◌∷◌, ◌++◌, true, false, cond, refl, sym, ap, ◌∙◌, subst, None, Some, ◌&&◌, ◌||◌, ◌==◌, filter, find, nat_le, length, reverse}
use Rattle.std.proofs.lemmas.Grind.{reverse_onto}
use Rattle.jpg_spec.specs.Markers.{Segment, has_scan, is_kept_if, kept_after, kept_rule}
use Rattle.jpg_spec.specs.Items.{contents_rule}
use Rattle.jpg_spec.specs.Jfif.{begins_adobe, begins_jfif, is_jfif, parsed_jfif}
use Rattle.jpg_spec.specs.declared.frame.Copying.{Copying}
use Rattle.jpg_spec.specs.declared.frame.Copying.TheVariants as copying
use Rattle.jpg_spec.specs.declared.frame.Limits.{Limits}
use Rattle.jpg_spec.specs.declared.jfif.Jfif.{Jfif}
use Rattle.jpg_spec.proofs.Basics.Common.{neither}
use Rattle.jpg_markers.specs.Apps.{IsApp}
use Rattle.jpg_markers.specs.Seen.{IsOther}
use Rattle.jpg_markers.specs.declared.app.App.{App}
use Rattle.jpg_markers.specs.declared.app.App.TheVariants as app
use Rattle.jpg_file.specs.Read.SegmentState.{SegmentView, Holds, TakesSegment, segments_view, is_wanted}
use Rattle.jpg_file.specs.declared.read.segment_state.SegmentTaken.TheVariants as took
use Rattle.jpg_file.proofs.Headers.InForce.{other_holds}
use Rattle.jpg_file.proofs.read.segment_state.SegmentState.take_other.Goals as goal

no_jfif : (code : ℕ) (contents : List ℕ) (told : App) → IsApp code contents told → ((j : Jfif) → told ≡ app.Jfif j → ⊥) → is_jfif (code, contents) ≡ false
no_jfif code contents (app.Jfif j) is other = absurd (other j refl)
no_jfif code contents (app.Adobe transform) is other = is.0
no_jfif code contents app.Other is other = is.0

-- what isn't to be kept is no JFIF header
unwanted_jfif : (keeping : Copying) (code : ℕ) (contents : List ℕ) → is_wanted keeping (code, contents) ≡ false → is_jfif (code, contents) ≡ false
unwanted_jfif copying.None code contents e = ap (λ b. b && nat_le 14 (length contents)) (neither (begins_jfif code contents) (begins_adobe code contents) e).0
unwanted_jfif copying.Comments code contents e =
    ap (λ b. b && nat_le 14 (length contents)) (neither (begins_jfif code contents) (begins_adobe code contents) (neither (code == 0xfe) (begins_jfif code contents || begins_adobe code contents) e).1).0
unwanted_jfif copying.All code contents e = cc

module _ (limits : Limits) (h : SegmentView) (before : List Segment) (code : ℕ) (contents : List ℕ) (other : IsOther code) (holds : Holds limits h before)
    (within : kept_rule limits before code contents ≡ None) where
  -- of the kept markers those that are to be kept, and the last JFIF header
  taken : (b : Bool) (kept : List Segment) (jfif : Jfif) → is_kept_if h.scanned code contents ≡ b
      → (let after : List Segment = cond b ((code, contents) ∷ kept_after before) (kept_after before) in kept ≡ reverse (filter (is_wanted h.keeping) after)
      → jfif ≡ parsed_jfif (find is_jfif after) → TakesSegment limits before code contents took.Done (record h { kept = kept; jfif = jfif }))
  taken b kept jfif is k j =
      let e : is_kept_if (has_scan before) code contents ≡ b = ap (λ s. is_kept_if s code contents) (sym holds.scanned) ∙ is in
      let P : Bool → List Segment = λ t. cond t ((code, contents) ∷ kept_after before) (kept_after before) in (
        (let rule : contents_rule limits before code contents ≡ None = search (rules, within, other) in rule),
        other_holds limits h before code contents kept jfif other holds (k ∙ ap (λ t. reverse (filter (is_wanted h.keeping) (P t))) (sym e)) (j ∙ ap (λ t. parsed_jfif (find is_jfif (P t))) (sym e)),
      )

  -- a marker that isn't kept
  left : is_kept_if h.scanned code contents ≡ false → TakesSegment limits before code contents took.Done h
  left e = taken false h.kept h.jfif e holds.kept holds.jfif

  -- one that is, if it is to be kept
  passed : (wanted found : Bool) (kept : List Segment) (jfif : Jfif) → is_kept_if h.scanned code contents ≡ true → is_wanted h.keeping (code, contents) ≡ wanted
      → is_jfif (code, contents) ≡ found → kept ≡ cond wanted (h.kept ++ (code, contents) ∷ []) h.kept → jfif ≡ cond found (parsed_jfif (Some (code, contents))) h.jfif
      → TakesSegment limits before code contents took.Done (record h { kept = kept; jfif = jfif })
  passed wanted found kept jfif e w f k j =
      taken true kept jfif e (k ∙ list wanted ∙ ap (λ b. reverse (cond b ((code, contents) ∷ filter (is_wanted h.keeping) (kept_after before)) (filter (is_wanted h.keeping) (kept_after before)))) (sym w))
      (j ∙ header found ∙ ap (λ b. parsed_jfif (cond b (Some (code, contents)) (find is_jfif (kept_after before)))) (sym f))
    where
      list : (b : Bool) → cond b (h.kept ++ (code, contents) ∷ []) h.kept ≡ reverse (cond b ((code, contents) ∷ filter (is_wanted h.keeping) (kept_after before)) (filter (is_wanted h.keeping) (kept_after before)))
      list true = ap (λ l. l ++ (code, contents) ∷ []) holds.kept ∙ sym (reverse_onto (filter (is_wanted h.keeping) (kept_after before)) (code, contents) [])
      list false = holds.kept

      header : (b : Bool) → cond b (parsed_jfif (Some (code, contents))) h.jfif ≡ parsed_jfif (cond b (Some (code, contents)) (find is_jfif (kept_after before)))
      header true = refl
      header false = holds.jfif

pub returns-then-not-is_kept-clause-held : goal.returns-then-not-is_kept-clause-held
returns-then-not-is_kept-clause-held c = λ before holds within.
    left c.args.limits (segments_view c.args.self.now) before c.args.code c.args.contents.now c.requires.other holds within (sym c.is_kept.ensures ∙ c.if-not-is_kept.true)

pub returns-then-not-is_wanted-clause-held : goal.returns-then-not-is_wanted-clause-held
returns-then-not-is_wanted-clause-held c = λ before holds within.
    let h = segments_view c.args.self.now in let code = c.args.code in let contents = c.args.contents.now in
    let unwanted = sym c.is_wanted.ensures ∙ c.if-not-is_wanted.true in
    passed c.args.limits h before code contents c.requires.other holds within false false h.kept h.jfif (sym c.is_kept.ensures ∙ c.if-not-is_kept.false) unwanted (unwanted_jfif h.keeping code contents unwanted) refl refl

pub returns-in_default-clause-held : goal.returns-in_default-clause-held
returns-in_default-clause-held c = λ before holds within.
    let h = segments_view c.args.self.now in let code = c.args.code in let contents = c.args.contents.now in
    passed c.args.limits h before code contents c.requires.other holds within true false c.push.new.self h.jfif (sym c.is_kept.ensures ∙ c.if-not-is_kept.false) (sym c.is_wanted.ensures ∙ c.if-not-is_wanted.false)
    (no_jfif code contents c.read_app.result c.read_app.ensures c.in_default.not-Jfif) c.in-Ok.ensures.pushed refl

pub returns-in-Jfif-clause-held : goal.returns-in-Jfif-clause-held
returns-in-Jfif-clause-held c = λ before holds within.
    let h = segments_view c.args.self.now in let code = c.args.code in let contents = c.args.contents.now in
    let header : IsApp code contents (app.Jfif c.in-Jfif.jfif) = subst (λ (a : App). IsApp code contents a) c.in-Jfif.is c.read_app.ensures in
    passed c.args.limits h before code contents c.requires.other holds within true true c.push.new.self c.in-Jfif.jfif (sym c.is_kept.ensures ∙ c.if-not-is_kept.false) (sym c.is_wanted.ensures ∙ c.if-not-is_wanted.false) header.0 c.in-Ok.ensures.pushed header.1
