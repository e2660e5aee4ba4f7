-- A piece that is taken part by part, and the samples that it gives, in any format.
use Rattle.std.proofs.Common.{◌≡◌, ℕ, ◌+◌, ◌-◌, List, ◌++◌, length, take, drop, sym, ap, ◌∙◌, subst}
use Rattle.std.proofs.lemmas.List.{append_assoc, take-append-drop, take_rest}
use Rattle.std.proofs.Math.Seq.{take-add}
use Rattle.jpg_pnm_bmp.specs.Samples.{SampleKind, AfterGiven, Appends}
use Rattle.jpg_pnm_bmp.specs.declared.read.piece.Answer.{Answer}

module _ {W : Type 0} (k : SampleKind W) (bytes piece given : List ℕ) where
  -- one more part
  pub some_given : (at used : ℕ) (first made new more : List ℕ) (a b : Answer) (w : W) → a ≡ b → made ≡ first ++ more
      → Appends made new (λ later. AfterGiven k ((bytes ++ take at piece) ++ take used (take (length piece - at) (drop at piece))) ((bytes ++ take at piece) ++ take (length piece - at) (drop at piece)) ((given ++ more) ++ later) a w)
      → Appends first new (λ all. AfterGiven k (bytes ++ take (at + used) piece) (bytes ++ piece) (given ++ all) b w)
  some_given at used first made new more a b w is e h =
      let later = h.0 in
      let part = append_assoc bytes (take at piece) (take used (drop at piece)) ∙ ap (λ x. bytes ++ x) (sym (take-add at used piece)) in
      let whole = append_assoc bytes (take at piece) (drop at piece) ∙ ap (λ x. bytes ++ x) (take-append-drop at piece) in
      let all = append_assoc given more later in (
        more ++ later,
        h.1 ∙ ap (λ (l : List ℕ). l ++ later) e ∙ append_assoc first more later,
        subst (λ x. AfterGiven k (bytes ++ take (at + used) piece) (bytes ++ piece) (given ++ (more ++ later)) x w) is
            (subst (λ x. AfterGiven k (bytes ++ take (at + used) piece) (bytes ++ piece) x a w) all
            (subst (λ x. AfterGiven k x (bytes ++ piece) ((given ++ more) ++ later) a w) part
            (subst (λ x. AfterGiven k ((bytes ++ take at piece) ++ take used (drop at piece)) x ((given ++ more) ++ later) a w) whole
            (subst (λ x. AfterGiven k ((bytes ++ take at piece) ++ take used x) ((bytes ++ take at piece) ++ x) ((given ++ more) ++ later) a w) (take_rest piece at) h.2)))),
      )
