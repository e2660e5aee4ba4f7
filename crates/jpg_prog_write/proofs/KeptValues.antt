-- Values of which nothing is sent are left out of a block.
use Rattle.std.proofs.Common.{◌≡◌, ℕ, suc, ◌+◌, ◌-◌, ◌/◌, ◌%◌, ◌==◌, ◌^◌, ◌<◌, ◌≤◌, Bool, true, false, cond, List, ◌∷◌, ◌++◌, [], length, take, drop, set, get_or, map, refl, sym, ap, ◌∙◌, subst, arith, ℤ, pos, negsuc, neg_ℤ, nat_abs}
use Rattle.std.specs.Prelude.{nat_lt}
use Rattle.std.proofs.Math.Path.{fun_ext}
use Rattle.std.proofs.lemmas.List.{append-nil, append_assoc, drop-map, drop_all, drop_more, get_or-map, length-map, length-take-le, set_at, take-map, take_all, take_more}
use Rattle.jpg_spec_write.specs.Sending.{Sent, correction, divided, newly_significant, sent}
use Rattle.jpg_spec.proofs.Basics.Common.{same_of}
use Rattle.jpg_spec.proofs.Basics.Rows.{map_map}
use Rattle.jpg_prog_write.specs.Bands.{IsShort, band_sents, kept_of, sents}
use Rattle.jpg_prog_write.specs.declared.band.Band.{Band}

-- THE SAME IS SENT

nothing : (v : ℤ) (al : ℕ) → nat_abs v / 2 ^ al ≡ 0 → divided al v ≡ pos 0
nothing (pos n) al e = ap pos e
nothing (negsuc n) al e = (let s : n + 1 ≡ suc n = omega arith in ap (λ m. neg_ℤ (pos (m / 2 ^ al))) s ∙ ap (λ m. neg_ℤ (pos m)) e)

sent_nothing : (r : Bool) (al : ℕ) (v : ℤ) → nat_abs v / 2 ^ al ≡ 0 → sent r al v ≡ newly_significant (pos 0)
sent_nothing false al v e = ap newly_significant (nothing v al e)
sent_nothing true al v e =
    ap (λ n. cond (nat_lt 1 n) (correction (n % 2 == 1)) (newly_significant (divided al v))) e ∙ ap newly_significant (nothing v al e)

zero_over : (m : ℕ) → 0 / m ≡ 0
zero_over m = omega arith

sent_kept : (r : Bool) (al : ℕ) (v : ℤ) → sent r al (kept_of al v) ≡ sent r al v
sent_kept r al v = by (nat_abs v / 2 ^ al == 0) refl
  where
    by : (b : Bool) → (nat_abs v / 2 ^ al == 0) ≡ b → sent r al (cond b (pos 0) v) ≡ sent r al v
    by true e = sent_nothing r al (pos 0) (zero_over (2 ^ al)) ∙ sym (sent_nothing r al v (same_of _ _ e))
    by false e = refl

sents_kept : (b : Band) (from end : ℕ) (block : List ℤ) → sents b from end (map (kept_of b.al) block) ≡ sents b from end block
unfolding sents
sents_kept b from end block =
    let f = sent b.refines b.al in
    let k = kept_of b.al in
    ap (λ l. map f (take (end - from) l)) (drop-map k from block) ∙ ap (map f) (take-map k (end - from) (drop from block))
    ∙ map_map f k (take (end - from) (drop from block)) ∙ ap (λ (g : ℤ → Sent). map g (take (end - from) (drop from block))) (fun_ext (λ v. sent_kept b.refines b.al v))

pub band_kept : (b : Band) (block kept : List ℤ) → kept ≡ map (kept_of b.al) block → band_sents b kept ≡ band_sents b block
band_kept b block kept e = ap (band_sents b) e ∙ sents_kept b b.start b.end block

-- NO VALUE GROWS

kept_less : (al : ℕ) (v : ℤ) → nat_abs (kept_of al v) ≤ nat_abs v
kept_less al v = by (nat_abs v / 2 ^ al == 0)
  where
    by : (b : Bool) → nat_abs (cond b (pos 0) v) ≤ nat_abs v
    by true = omega arith
    by false = omega arith

pub short_kept : (al : ℕ) (block kept : List ℤ) → kept ≡ map (kept_of al) block → IsShort block → IsShort kept
short_kept al block kept e is = subst IsShort (sym e) (record {
  long = length-map block (kept_of al) ∙ is.long;
  short = λ k low less.
      (let at : get_or (map (kept_of al) block) k (pos 0) ≡ kept_of al (get_or block k (pos 0)) = get_or-map (kept_of al) block k (pos 0) (pos 0) (omega (arith, less, is.long)) in
      let few = is.short k low less in
      let most = kept_less al (get_or block k (pos 0)) in
      subst (λ v. nat_abs v < 2 ^ 14) (sym at) (omega (arith, few, most)));
})

-- PLACE BY PLACE

pub kept_step : (al : ℕ) (block values : List ℤ) (k : ℕ) (v : ℤ) → length block ≡ 64 → k < 64 → values ≡ take k (map (kept_of al) block) ++ drop k block → v ≡ kept_of al (get_or block k (pos 0))
    → set values k v ≡ take (k + 1) (map (kept_of al) block) ++ drop (k + 1) block
kept_step al block values k v long less e is =
    let want = map (kept_of al) block in
    let lw : length want ≡ 64 = length-map block (kept_of al) ∙ long in
    let at : get_or want k (pos 0) ≡ v = get_or-map (kept_of al) block k (pos 0) (pos 0) (omega (arith, less, long)) ∙ sym is in
    let d : drop k block ≡ get_or block k (pos 0) ∷ drop (k + 1) block = drop_more block k (pos 0) (omega (arith, less, long)) in
    let len : length (take k want) ≡ k = length-take-le k want (omega (arith, less, lw)) in
    let t : take (k + 1) want ≡ take k want ++ get_or want k (pos 0) ∷ [] = take_more want k (pos 0) (omega (arith, less, lw)) in
    ap (λ ys. set ys k v) (e ∙ ap (λ r. take k want ++ r) d) ∙ set_at (take k want) (get_or block k (pos 0)) (drop (k + 1) block) v k len
    ∙ ap (λ (w : ℤ). take k want ++ w ∷ drop (k + 1) block) (sym at) ∙ sym (append_assoc (take k want) (get_or want k (pos 0) ∷ []) (drop (k + 1) block))
    ∙ ap (λ r. r ++ drop (k + 1) block) (sym t)

pub all_kept : (al : ℕ) (block values : List ℤ) (k : ℕ) → length block ≡ 64 → k ≡ 64 → values ≡ take k (map (kept_of al) block) ++ drop k block → values ≡ map (kept_of al) block
all_kept al block values k long e is =
    let want = map (kept_of al) block in
    let lw : length want ≡ 64 = length-map block (kept_of al) ∙ long in
    is ∙ ap (λ r. take k want ++ r) (drop_all k block (omega (arith, e, long))) ∙ append-nil (take k want) ∙ take_all k want (omega (arith, e, lw))
