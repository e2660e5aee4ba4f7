-- A piece that is fed to an intake.
use Rattle.std.proofs.Common.{◌≡◌, ℕ, ◌+◌, ◌-◌, ◌≤◌, Bool, List, ◌++◌, length, take, drop, false, Ok, sym, ap, ◌∙◌, subst, arith, Result}
use Rattle.std.proofs.lemmas.List.{length-drop, length-take-le, take_all, take-append-drop}
use Rattle.std.proofs.Math.Seq.{take-append-add}
use Rattle.jpg_base.specs.declared.stop.Stop.{Stop}
use Rattle.jpg_base.specs.Intake.{IntakeKind, TakesSome}

abbrev pub at : {S O : Type 0} → S → O → S × O
at state out = (state, out)

-- some bytes, and some more
pub take_both : (n m : ℕ) (xs : List ℕ) → n ≤ length xs → take (n + m) xs ≡ take n xs ++ take m (drop n xs)
take_both n m xs few =
    let size = length-take-le n xs few in
    ap (take (n + m)) (sym (take-append-drop n xs)) ∙ ap (λ k. take (k + m) (take n xs ++ drop n xs)) (sym size) ∙ take-append-add (take n xs) (drop n xs) m

-- of a piece that is fed, so many bytes were taken since a state
module _ {S O : Type 0} (k : IntakeKind S O) (from : S × O) (piece : List ℕ) (used : ℕ) where
  -- with some of the rest
  pub some_fed : (old new : S × O) (n : ℕ) (answer : Result Bool Stop) → used ≤ length piece → n ≤ length (take (length piece - used) (drop used piece))
      → k.after from (take used piece) (Ok false) old → TakesSome k old (take n (take (length piece - used) (drop used piece))) answer new
      → (used + n ≤ length piece) × k.after from (take (used + n) piece) answer new
  some_fed old new n answer few less h takes =
      let size = length-drop used piece in
      let rest = take_all (length piece - used) (drop used piece) (omega (arith, size)) in
      let long = ap length rest in (
        omega (arith, few, less, size, long),
        subst (λ l. k.after from l answer new) (ap (λ l. take used piece ++ take n l) rest ∙ sym (take_both used n piece few)) (takes from (take used piece) h),
      )
