-- Text that is appended piece by piece.
use Rattle.std.proofs.Common.{◌≡◌, ℕ, ◌+◌, ◌<◌, List, [], ◌++◌, length, take, min, Result, Ok, Err, refl, sym, ap, ◌∙◌, append_assoc, arith}
use Rattle.std.proofs.lemmas.List.{append-nil, length-append, take_min, take-append-le}
use Rattle.std.proofs.Math.Seq.{take-append-add}
use Rattle.std.specs.Prelude.{OnOk, OnErr}
use Rattle.std.specs.Result.{IsErrAnd}
use Rattle.jpg_base.specs.declared.names.NoMemory.{NoMemory}
use Rattle.jpg_comments.specs.Appending.{AppendsText}

-- a piece that is appended completely or not at all
pub pushed : (r : Result (Unit {0}) NoMemory) (piece old new : List ℕ) → OnOk r (new ≡ old ++ piece) → OnErr r (new ≡ old) → OnErr r (0 < length piece) → AppendsText piece r old new
pushed (Ok u) piece old new whole same some = whole
pushed (Err e) piece old new whole same some = (0, same ∙ sym (append-nil old), some)

-- all of the text except this rest was appended
pub record Leaves (text old now rest : List ℕ) : Type 0 where
  pub done : List ℕ
  pub appended : now ≡ old ++ done
  pub left : text ≡ done ++ rest

pub leaves_all : (text old : List ℕ) → Leaves text old old text
leaves_all text old = record { done = []; appended = sym (append-nil old); left = refl }

pub leaves_same : (text old now a b : List ℕ) → a ≡ b → Leaves text old now a → Leaves text old now b
leaves_same text old now a b e h = record { done = h.done; appended = h.appended; left = h.left ∙ ap (λ l. h.done ++ l) e }

-- a piece was appended, and the rest is left
pub leaves_rest : (text old now new piece rest : List ℕ) → Leaves text old now (piece ++ rest) → new ≡ now ++ piece → Leaves text old new rest
leaves_rest text old now new piece rest h e = record {
  done = h.done ++ piece;
  appended = e ∙ ap (λ l. l ++ piece) h.appended ∙ append_assoc old h.done piece;
  left = h.left ∙ sym (append_assoc h.done piece rest);
}

pub leaves_none : (text old now rest new : List ℕ) (r : Result (Unit {0}) NoMemory) → Leaves text old now rest → AppendsText rest r now new → AppendsText text r old new
leaves_none text old now rest new (Ok u) h e = e ∙ ap (λ l. l ++ rest) h.appended ∙ append_assoc old h.done rest ∙ ap (λ l. old ++ l) (sym h.left)
leaves_none text old now rest new (Err e) h k = (
  length h.done + k.0,
  k.1 ∙ ap (λ l. l ++ take k.0 rest) h.appended ∙ append_assoc old h.done (take k.0 rest)
      ∙ ap (λ l. old ++ l) (sym (ap (take (length h.done + k.0)) h.left ∙ take-append-add h.done rest k.0)),
  (let size = ap length h.left in let less = k.2 in omega (arith, size, less, length-append h.done rest)),
)

-- a first part of a piece was appended
pub leaves_part : (text old now new piece rest : List ℕ) (e : NoMemory) → Leaves text old now (piece ++ rest) → AppendsText piece (Err e) now new → AppendsText text (Err e) old new
leaves_part text old now new piece rest e h k =
    let same : take k.0 piece ≡ take (min k.0 (length piece)) (piece ++ rest) =
    sym (take_min k.0 piece) ∙ sym (take-append-le (min k.0 (length piece)) piece rest (omega arith)) in
    let less = k.2 in
    leaves_none text old now (piece ++ rest) new (Err e) h (min k.0 (length piece), k.1 ∙ ap (λ l. now ++ l) same, omega (arith, less, length-append piece rest))

-- nothing was appended of what is left, the first piece of which has bytes
pub leaves_still : (text old now new piece rest : List ℕ) (e : NoMemory) → Leaves text old now (piece ++ rest) → 0 < length piece → new ≡ now → AppendsText text (Err e) old new
leaves_still text old now new piece rest e h some same =
    leaves_none text old now (piece ++ rest) new (Err e) h (0, same ∙ sym (append-nil now), omega (arith, some, length-append piece rest))

-- at the exit of a `?`
pub at_exit : (Q : NoMemory → Type 0) (text old new : List ℕ) (r : Result (Unit {0}) NoMemory) (e : NoMemory) → IsErrAnd r Q → AppendsText text (Err e) old new → AppendsText text r old new
at_exit Q text old new (Ok u) e is h = absurd is
at_exit Q text old new (Err f) e is h = h
