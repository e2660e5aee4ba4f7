-- What follows an image's rows is sent part by part.
use Rattle.std.proofs.Common.{◌≡◌, ◌⊎◌, inl, inr, ℕ, zero, suc, ◌+◌, ◌-◌, ◌<◌, ◌≤◌, min, Bool, true, false, if◌then◌else◌, List, [], ◌∷◌, ◌++◌, length, take, drop, flat_map, slice_index_or, is_some, Result, Ok, Err, refl, sym, ap, ◌∙◌, subst, arith}
use Rattle.std.proofs.lemmas.Bool.Decides.{nat_tests}
use Rattle.std.proofs.lemmas.List.{append-nil, append_assoc, take_more}
use Rattle.std.proofs.lemmas.Grind.{flat_map-append}
use Rattle.jpg_pnm_bmp.specs.EndState.{EndState, CanFinish, info_of, parts_due, is_last, with_part}
use Rattle.jpg_pnm_bmp.specs.declared.write.end.Finish.{Finish}
use Rattle.jpg_pnm_bmp.specs.declared.write.end.Finish.TheVariants.{More, Done}
use Rattle.jpg_color.specs.DecodeRows.{end_parts, finished, only_stop}
use Rattle.jpg_color.specs.declared.decode.DecodeStop.{DecodeStop}
use Rattle.jpg_color.proofs.Sent.{Sends, TakesPart, Writing, sends_nothing, sends_then, sends_stop, sends_same}

abbrev pub joined : List (List ℕ) → List ℕ
joined parts = flat_map (λ part. part) parts

-- Some parts of the rest of an image were appended, and more are pending, or there are none at all.
pub record IsEnding (v0 v : Writing) : Type 0 where
  pub can : CanFinish v.end
  pub same : v.end ≡ record (v0.end) { parts = v.end.parts }
  pub some : (v.end.parts < length (parts_due v0.end)) ⊎ ((parts_due v0.end ≡ []) × (v.end.parts ≡ 0))
  pub created : v.out.desk.output_created ≡ true
  pub sent : Sends v0.out (joined (take v.end.parts (parts_due v0.end))) (Ok tt) v.out

pub starts : {v : Writing} → CanFinish v.end → v.end.parts ≡ 0 → v.out.desk.output_created ≡ true → IsEnding v v
starts {v} can none created =
    record {
      can = can;
      same = refl;
      some = begun (parts_due v.end) refl;
      created = created;
      sent = subst (λ n. Sends v.out (joined (take n (parts_due v.end))) (Ok tt) v.out) (sym none) sends_nothing;
    }
  where
    begun : (due : List (List ℕ)) → parts_due v.end ≡ due → (v.end.parts < length (parts_due v.end)) ⊎ ((parts_due v.end ≡ []) × (v.end.parts ≡ 0))
    begun [] is = inr (is, none)
    begun (p ∷ ps) is = inl (subst (λ n. n < length (parts_due v.end)) (sym none) (subst (λ d. 0 < length d) (sym is) (omega arith)))

-- all parts are the first ones, the next one, and the remaining ones
parts_split : (due : List (List ℕ)) (k : ℕ) → (k < length due) ⊎ ((due ≡ []) × (k ≡ 0)) → joined due ≡ joined (take k due) ++ (slice_index_or due k [] ++ joined (drop (suc k) due))
parts_split [] k (inl less) = absurd (omega (arith, less))
parts_split [] zero (inr (none, first)) = refl
parts_split [] (suc k) (inr (none, first)) = absurd (omega (arith, first))
parts_split (p ∷ ps) k (inr (none, first)) = absurd (omega (arith, ap (λ (d : List (List ℕ)). length d) none))
parts_split (p ∷ ps) zero (inl less) = refl
parts_split (p ∷ ps) (suc k) (inl less) =
    ap (λ q. p ++ q) (parts_split ps k (inl (omega (arith, less))))
    ∙ sym (append_assoc p (joined (take k ps)) (slice_index_or ps k [] ++ joined (drop (suc k) ps)))

-- nothing follows the last one
last_split : (due : List (List ℕ)) (k : ℕ) → length due ≤ k + 1 → joined (drop (suc k) due) ≡ []
last_split [] k le = refl
last_split (p ∷ []) zero le = refl
last_split (p ∷ q ∷ ps) zero le = absurd (omega (arith, le))
last_split (p ∷ ps) (suc k) le = last_split ps k (omega (arith, le))

parts_same : {v0 v : Writing} → IsEnding v0 v → parts_due v.end ≡ parts_due v0.end
parts_same h = ap parts_due h.same

-- the part that is appended next
abbrev part_of : Writing → Writing → List ℕ
part_of v0 v = slice_index_or (parts_due v0.end) v.end.parts []

-- It is sent, or sending stopped.
one_more : {v0 v v2 : Writing} {r : Result Finish DecodeStop} → IsEnding v0 v → TakesPart v r v2
    → Sends v0.out (joined (take v.end.parts (parts_due v0.end)) ++ part_of v0 v) (only_stop r) v2.out
one_more {v = v} h k = sends_then h.sent (sends_same (ap (λ d. slice_index_or d v.end.parts []) (parts_same h)) k.sent)

-- the answer says whether it is the last one
more_left : (b : Bool) → More ≡ (if b then Done else More) → b ≡ false
more_left false e = refl
more_left true e = cc

none_left : (b : Bool) → Done ≡ (if b then Done else More) → b ≡ true
none_left true e = refl
none_left false e = cc

-- the same answer in another way
pub answered_so : {v w : Writing} {f g : Finish} → f ≡ g → TakesPart v (Ok f) w → TakesPart v (Ok g) w
answered_so {v} {w} is h = subst (λ (x : Finish). TakesPart v (Ok x) w) is h

pub part_fails : {v0 v v2 : Writing} {f : DecodeStop} → IsEnding v0 v → TakesPart v (Err f) v2 → Sends v0.out (end_parts v0.end) (Err f) v2.out
part_fails {v0} {v} h k =
    let due = parts_due v0.end in
    let more : List ℕ = joined (drop (suc v.end.parts) due) in
    sends_same (append_assoc (joined (take v.end.parts due)) (part_of v0 v) more ∙ sym (parts_split due v.end.parts h.some)) (sends_stop more (one_more h k))

-- the last part
is_all : {v0 v v2 : Writing} → IsEnding v0 v → TakesPart v (Ok Done) v2 → length (parts_due v.end) ≤ v.end.parts + 1
is_all {v = v} h k = let last : is_last v.end ≡ true = none_left (is_last v.end) k.answer in grind (arith, nat_tests, last)

pub part_last : {v0 v v2 : Writing} → IsEnding v0 v → TakesPart v (Ok Done) v2 → Sends v0.out (end_parts v0.end) (Ok tt) v2.out
part_last {v0} {v} h k =
    let due = parts_due v0.end in
    let n = v.end.parts in
    let none : joined (drop (suc n) due) ≡ [] = last_split due n (subst (λ d. length d ≤ n + 1) (parts_same h) (is_all h k)) in
    let all : joined due ≡ joined (take n due) ++ part_of v0 v =
    parts_split due n h.some ∙ ap (λ m. joined (take n due) ++ (part_of v0 v ++ m)) none ∙ ap (λ m. joined (take n due) ++ m) (append-nil (part_of v0 v))
    in
    sends_same (sym all) (one_more h k)

-- and the image writer is finished with it
pub part_finished : {v0 v v2 : Writing} → IsEnding v0 v → TakesPart v (Ok Done) v2 → v2.end ≡ finished v0.end
part_finished {v0} {v} {v2} h k =
    let e = v.end in
    let few : min (e.parts + 1) (length (parts_due e)) ≡ length (parts_due v0.end) =
    (let all : min (e.parts + 1) (length (parts_due e)) ≡ length (parts_due e) = omega (arith, is_all h k) in all) ∙ ap length (parts_same h)
    in
    let now : v2.end ≡ with_part e = k.end in
    now
    ∙ ap (λ (n : ℕ). (let x : EndState = record e { parts = n; done = is_last e } in x)) few
    ∙ ap (λ (b : Bool). (let x : EndState = record e { parts = length (parts_due v0.end); done = b } in x)) (none_left (is_last e) k.answer)
    ∙ ap (λ (x : EndState). (let y : EndState = record x { parts = length (parts_due v0.end); done = true } in y)) h.same

-- one more part
next_taken : (due : List (List ℕ)) (k : ℕ) → k < length due → joined (take k due) ++ slice_index_or due k [] ≡ joined (take (k + 1) due)
next_taken due k less =
    sym (append_nil_after (joined (take k due)) (slice_index_or due k [])) ∙ sym (flat_map-append (λ part. part) (take k due) (slice_index_or due k [] ∷ []))
    ∙ ap joined (sym (take_more due k [] less))
  where
    append_nil_after : (xs ys : List ℕ) → xs ++ (ys ++ []) ≡ xs ++ ys
    append_nil_after xs ys = ap (λ z. xs ++ z) (append-nil ys)

record IsNext (v0 v v2 : Writing) : Type 0 where
  parts : v2.end.parts ≡ v.end.parts + 1
  less : v.end.parts + 1 < length (parts_due v0.end)

part_next : {v0 v v2 : Writing} → IsEnding v0 v → TakesPart v (Ok More) v2 → IsNext v0 v v2
part_next {v0} {v} {v2} h k =
    let last : is_last v.end ≡ false = more_left (is_last v.end) k.answer in
    let more : v.end.parts + 1 < length (parts_due v.end) = grind (arith, nat_tests, last) in
    let is : v2.end.parts ≡ min (v.end.parts + 1) (length (parts_due v.end)) = ap (λ (x : EndState). x.parts) k.end in
    record { parts = omega (arith, is, more); less = subst (λ d. v.end.parts + 1 < length d) (parts_same h) more }

pub fewer : {v0 v v2 : Writing} → IsEnding v0 v → TakesPart v (Ok More) v2 → length (parts_due v0.end) - v2.end.parts < length (parts_due v0.end) - v.end.parts
fewer {v0} {v} {v2} h k =
    let n : IsNext v0 v v2 = part_next h k in
    omega (arith, n.parts, n.less)

pub part_more : {v0 v v2 : Writing} → IsEnding v0 v → TakesPart v (Ok More) v2 → IsEnding v0 v2
part_more {v0} {v} {v2} h k =
    let due = parts_due v0.end in
    let n : IsNext v0 v v2 = part_next h k in
    let last : is_last v.end ≡ false = more_left (is_last v.end) k.answer in
    let now : v2.end ≡ with_part v.end = k.end in
    record {
      can = record {
        started = ap (λ (x : EndState). is_some x.info) now ∙ h.can.started;
        all = ap (λ (x : EndState). x.taken) now ∙ h.can.all ∙ sym (ap (λ (x : EndState). (info_of x).height) now);
        before = ap (λ (x : EndState). x.done) now ∙ last;
      };
      same = now ∙ moved now last;
      some = inl (omega (arith, n.parts, n.less));
      created = k.sent.only.output_created ∙ h.created;
      sent = sends_same (next_taken due v.end.parts (omega (arith, n.less)) ∙ ap (λ m. joined (take m due)) (sym n.parts)) (one_more h k);
    }
  where
    moved : v2.end ≡ with_part v.end → is_last v.end ≡ false → with_part v.end ≡ record (v0.end) { parts = v2.end.parts }
    moved now last =
        let e = v.end in
        let p = v2.end.parts in
        let undone : v0.end.done ≡ false = sym (ap (λ (x : EndState). x.done) h.same) ∙ h.can.before in
        ap (λ (n : ℕ). (let x : EndState = record e { parts = n; done = is_last e } in x)) (sym (ap (λ (x : EndState). x.parts) now))
        ∙ ap (λ (b : Bool). (let x : EndState = record e { parts = p; done = b } in x)) last
        ∙ ap (λ (x : EndState). (let y : EndState = record x { parts = p; done = false } in y)) h.same
        ∙ ap (λ (b : Bool). (let y : EndState = record (v0.end) { parts = p; done = b } in y)) (sym undone)
