-- A text that is read byte by byte.
use Rattle.std.proofs.Common.{◌≡◌, ℕ, Bool, cond, sym, ap, ◌∙◌, Option}
use Rattle.std.specs.Prelude.{option_map}
use Rattle.jpg_spec.specs.NumberTexts.{in_comment}
use Rattle.jpg_spec.specs.TextReaders.{ReaderState, reader_step, taken}

-- after comments or outside them
abbrev pub behind_as : {S : Type 0} → Bool → S → ReaderState S
behind_as behind text = record { behind = behind; text = text }

pub stepped : {S : Type 0} (step : S → ℕ → Option S) (s : S) (was behind : Bool) (b seen : ℕ) (ok : Bool) (new : S) → behind ≡ in_comment was b → seen ≡ cond behind 32 b → taken ok new ≡ step s seen
    → reader_step step (behind_as was s) b ≡ option_map (behind_as behind) (taken ok new)
stepped step s was behind b seen ok new e f h =
    ap (λ v. option_map (behind_as v) (step s (cond v 32 b))) (sym e) ∙ ap (λ n. option_map (behind_as behind) (step s n)) (sym f) ∙ ap (option_map (behind_as behind)) (sym h)
