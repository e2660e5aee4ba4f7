use Rattle.std.proofs.Common.{◌≡◌, ℕ, suc, ◌<◌, ◌≤◌, List, [], ◌∷◌, ◌++◌, length, take, set, ap, ◌∙◌, subst, arith, rules}
use Rattle.std.proofs.lemmas.List.{set_split, drop_all}
use Rattle.jpg_spec_image.specs.TargaSteps.{head_so_far}
use Rattle.jpg_targa.specs.Reader.{Reaches}
use Rattle.jpg_targa.proofs.read.work.Work.head_byte.Goals as goal

last_set : (head : List ℕ) (n b : ℕ) → length head ≡ 18 → n < 18 → 17 ≤ n → set head n b ≡ take n head ++ b ∷ []
last_set head n b long low high = set_split head n b (omega (arith, long, low)) ∙ ap (λ (x : List ℕ). take n head ++ b ∷ x) (drop_all (suc n) head (omega (arith, long, high)))

pub returns-clause-led : goal.returns-clause-led
returns-clause-led c = λ low.
    (let long : length c.args.self.now.head ≡ 18 = search rules in
    subst (λ x. Reaches [] (head_so_far x) c.head_grown.result c.head_grown.new.self) (last_set c.args.self.now.head c.args.n c.args.byte long c.if-n-ge18.false c.if-n-lt17.false) c.head_grown.ensures.led)
