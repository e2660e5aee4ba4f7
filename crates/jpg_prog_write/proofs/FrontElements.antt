-- The elements of a band up to its last newly sent value, all at once.
use Rattle.std.proofs.Common.{◌≡◌, List, [], ◌∷◌, ◌++◌, length, refl, sym, ap, ◌∙◌, arith}
use Rattle.jpg_spec_write.specs.Sending.{Sent, value_elements}
use Rattle.jpg_prog_write.specs.Bands.{IsReady, sents, elements_due, elements_left, ends_new}
use Rattle.jpg_prog_write.specs.Steps.{PassesValues}
use Rattle.jpg_prog_write.specs.declared.bands.Bands.{Bands}
use Rattle.jpg_prog_write.proofs.ElementsDue.{Waiting}
use Rattle.jpg_prog_write.proofs.Fronts.{sents_none}

due_values : (front rest : List Sent) (later : List (List Sent)) → elements_due 0 [] front rest later ≡ value_elements 0 [] front ++ elements_due 0 [] [] rest later
unfolding elements_due
due_values [] rest later = refl
due_values (t ∷ front) rest later = refl

abbrev pub passed : Bands → Waiting → Bands
passed b waiting = record b { at = b.last; waiting = waiting }

ready_passed : (b : Bands) (waiting : Waiting) → IsReady b → waiting.items ≡ [] → IsReady (passed b waiting)
ready_passed b waiting r none = record {
  band = r.band;
  short = r.short;
  marks = r.marks;
  at = omega (arith, r.at, r.order);
  order = omega arith;
  most = r.most;
  front = ap ends_new (sents_none b.band b.last b.last b.block (omega arith));
  few = r.few;
  waits = (let n = ap length none in omega (arith, n));
  none = λ z. none;
}

pub passes_values : (b : Bands) (waiting : Waiting) → IsReady b → waiting.items ≡ [] → PassesValues b (passed b waiting)
passes_values b waiting r none = record { ready = ready_passed b waiting r none; band = refl; fewer = omega (arith, r.order) }

pub passes_none : (b : Bands) → IsReady b → PassesValues b b
passes_none b r = record { ready = r; band = refl; fewer = omega arith }

-- the elements of those values, and what is left after them
pub values_first : (b : Bands) (waiting : Waiting) (later : List (List Sent)) → IsReady b → b.bands ≡ 0 → waiting.items ≡ []
    → elements_left b later ≡ value_elements 0 [] (sents b.band b.at b.last b.block) ++ elements_left (passed b waiting) later
values_first b waiting later r none nothing =
    let front = sents b.band b.at b.last b.block in
    let rest = sents b.band b.last b.band.end b.block in
    ap (λ n. elements_due n b.waiting.items front rest later) none ∙ ap (λ bits. elements_due 0 bits front rest later) (r.none none) ∙ due_values front rest later
    ∙ ap (λ es. value_elements 0 [] front ++ es)
    (ap (λ n. elements_due n [] [] rest later) (sym none) ∙ ap (λ bits. elements_due b.bands bits [] rest later) (sym nothing)
    ∙ ap (λ xs. elements_due b.bands waiting.items xs rest later) (sym (sents_none b.band b.last b.last b.block (omega arith))))
