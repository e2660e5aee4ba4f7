-- The answers of a command that copies: a message after them, and from a desk before.
use Rattle.std.proofs.Common.{ℕ, List, Option, sym, subst, arith}
use Rattle.jpg_base.specs.Desk.{DeskState, NoneFell}
use Rattle.jpg_spec_words.specs.declared.answers.Why.{Why}
use Rattle.jpg_spec_words.specs.declared.answers.Why.TheVariants as why
use Rattle.jpg_spec_words.specs.declared.answers.Which.TheVariants as which
use Rattle.jpg_cli.specs.Copies.{Copies, CopyTexts}
use Rattle.jpg_desk.specs.Reading.{rest_of}
use Rattle.jpg_desk.specs.Stays.{OnlySays}

-- A MESSAGE THEN, which doesn't change what was read and written

pub texts_then : (t : CopyTexts) (Does : (List ℕ → List ℕ → Type 0) → DeskState → DeskState → Type 0) (s0 s1 s2 : DeskState) → OnlySays s1 s2
    → ((Is : List ℕ → List ℕ → Type 0) → Does Is s0 s1 → Does Is s0 s2) → (w : Why) → Copies t Does s0 w s1 → Copies t Does s0 w s2
texts_then t Does s0 s1 s2 k still why.Done h =
    let P : Option (List ℕ) → Type 0 = λ l. Does (t.whole (rest_of l)) s0 s2 in subst P (sym k.same.left) (still (t.whole (rest_of s1.left)) h)
texts_then t Does s0 s1 s2 k still (why.Refused f) h =
    let P : Option (List ℕ) → Type 0 = λ l. Does (t.refused f (rest_of l)) s0 s2 in subst P (sym k.same.left) (still (t.refused f (rest_of s1.left)) h)
texts_then t Does s0 s1 s2 k still (why.ReadFault which.Input) h = (still t.unread h.0, (let r = h.1 in let f = k.stays.counts.reads in omega (arith, r, f)))
texts_then t Does s0 s1 s2 k still why.WriteFault h = (still t.part h.0, (let r = h.1 in let f = k.stays.counts.writes in omega (arith, r, f)))
texts_then t Does s0 s1 s2 k still why.NoMemory h = still t.less h
texts_then t Does s0 s1 s2 k still other h = absurd h

-- FROM A DESK BEFORE, where no count fell

module _ (t : CopyTexts) (Does Did : (List ℕ → List ℕ → Type 0) → DeskState → DeskState → Type 0) where
  pub texts_from : (s0 s1 s2 : DeskState) → NoneFell s0.counts s1.counts → ((Is : List ℕ → List ℕ → Type 0) → Does Is s1 s2 → Did Is s0 s2) → (w : Why)
      → Copies t Does s1 w s2 → Copies t Did s0 w s2
  texts_from s0 s1 s2 k from why.Done h = from (t.whole (rest_of s2.left)) h
  texts_from s0 s1 s2 k from (why.Refused f) h = from (t.refused f (rest_of s2.left)) h
  texts_from s0 s1 s2 k from (why.ReadFault which.Input) h = (from t.unread h.0, (let r = h.1 in let f = k.reads in omega (arith, r, f)))
  texts_from s0 s1 s2 k from why.WriteFault h = (from t.part h.0, (let r = h.1 in let f = k.writes in omega (arith, r, f)))
  texts_from s0 s1 s2 k from why.NoMemory h = from t.less h
  texts_from s0 s1 s2 k from other h = absurd h
