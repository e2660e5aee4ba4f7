-- Letters compared with names.
use Rattle.std.proofs.Common.{◌≡◌, ℕ, ◌<◌, Bool, false, List, [], ◌∷◌, length, map, drop, sym, ap, ◌∙◌, arith}
use Rattle.std.proofs.lemmas.List.{drop_more}
use Rattle.jpg_spec.specs.Lists.{begins_with}
use Rattle.jpg_spec_words.specs.Switches.{lower}

-- letters are left, and nothing of the name
pub none_left : (letters rest : List ℕ) (i : ℕ) (whole : Bool) → i < length letters → length rest < 1 → begins_with (map lower (drop i letters)) rest ≡ whole → false ≡ whole
none_left letters [] i whole less short e = sym (ap (λ l. begins_with (map lower l) []) (drop_more letters i 0 less)) ∙ e
none_left letters (b ∷ rest) i whole less short e = let f : ⊥ = omega arith in absurd f
