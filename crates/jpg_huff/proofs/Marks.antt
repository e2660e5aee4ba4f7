-- Marks that are counted, one after another.
use Rattle.std.proofs.Common.{◌≡◌, ℕ, zero, suc, ◌+◌, ◌<◌, ◌≤◌, ◌==◌, ◌&&◌, Bool, false, cond, List, [], ◌∷◌, ◌++◌, length, set, refl, sym, ap, ◌∙◌, subst, arith, lit<, ⊎_elim}
use Rattle.std.specs.Prelude.{nat_lt, filter, replicate, count_by, slice_index}
use Rattle.std.proofs.lemmas.Bool.{cases_eq}
use Rattle.std.proofs.lemmas.List.{append_assoc, append-nil, get_or-replicate, get_or-set_same, get_or-set_other, length-set}
use Rattle.std.proofs.lemmas.List.Elements.{filter-append}
use Rattle.std.proofs.lemmas.List.Sums.{sum_by-append}
use Rattle.jpg_spec.specs.Lists.{below}
use Rattle.jpg_spec.proofs.Basics.Common.{length_below, not_same, same_itself, and_none, filter_less}
use Rattle.jpg_huff.specs.Flat.{symbols_in}
use Rattle.jpg_huff.specs.Counts.{Rows, row, count_of, capped, AreRows, AreCounts, no_rows, Mark, is_mark, CountsToo, Notes, NotesBut}
use Rattle.jpg_huff.specs.declared.counts.SymbolCounts.{SymbolCounts}

-- CAPPED COUNTS

-- no more is counted
pub capped_same : (n : ℕ) → n ≤ 4294967295 → n ≡ capped (n + 0)
unfolding capped
capped_same n h = omega (arith, h)

capped_more : (n k m : ℕ) → capped (capped (n + k) + m) ≡ capped (n + (k + m))
unfolding capped
capped_more n k m = omega arith

nothing_more : (class : ℕ) (rows : Rows) → AreRows rows → CountsToo class rows [] rows
nothing_more class rows are = λ slot symbol s few. capped_same (count_of rows slot symbol) (are.within slot symbol s few)

pub notes_nothing : (counts : SymbolCounts) → AreCounts counts → Notes counts [] counts
notes_nothing counts are = record { counts = are; dc = nothing_more 0 counts.dc are.dc; ac = nothing_more 1 counts.ac are.ac }

too_then : (class : ℕ) (old mid new : Rows) (xs ys : List Mark) → CountsToo class old xs mid → CountsToo class mid ys new → CountsToo class old (xs ++ ys) new
too_then class old mid new xs ys h k = λ slot symbol s few.
    let t = is_mark class slot symbol in
    k slot symbol s few ∙ ap (λ n. capped (n + count_by t ys)) (h slot symbol s few) ∙ capped_more (count_of old slot symbol) (count_by t xs) (count_by t ys)
    ∙ ap (λ n. capped (count_of old slot symbol + n)) (sym (sum_by-append (λ m. cond (t m) 1 0) xs ys))

pub notes_then : (old mid new : SymbolCounts) (xs ys : List Mark) → Notes old xs mid → Notes mid ys new → Notes old (xs ++ ys) new
notes_then old mid new xs ys h k = record { counts = k.counts; dc = too_then 0 old.dc mid.dc new.dc xs ys h.dc k.dc; ac = too_then 1 old.ac mid.ac new.ac xs ys h.ac k.ac }

pub notes_same : (old new : SymbolCounts) (xs ys : List Mark) → xs ≡ ys → Notes old xs new → Notes old ys new
notes_same old new xs ys e h = subst (λ x. Notes old x new) e h

pub but_start : (counts : SymbolCounts) (all rest : List Mark) → AreCounts counts → rest ≡ all → NotesBut counts all rest counts
but_start counts all rest are e = record { front = []; joined = e; done = notes_nothing counts are }

pub but_then : (old mid new : SymbolCounts) (all rest piece left : List Mark) → rest ≡ piece ++ left → NotesBut old all rest mid → Notes mid piece new → NotesBut old all left new
but_then old mid new all rest piece left e h k = record {
  front = h.front ++ piece;
  joined = append_assoc h.front piece left ∙ ap (λ x. h.front ++ x) (sym e) ∙ h.joined;
  done = notes_then old mid new h.front piece h.done k;
}

pub but_same : (old new : SymbolCounts) (all rest left : List Mark) → rest ≡ left → NotesBut old all rest new → NotesBut old all left new
but_same old new all rest left e h = subst (λ x. NotesBut old all x new) e h

pub but_last : (old mid new : SymbolCounts) (all rest piece : List Mark) → rest ≡ piece → NotesBut old all rest mid → Notes mid piece new → Notes old all new
but_last old mid new all rest piece e h k = notes_same old new (h.front ++ piece) all (ap (λ x. h.front ++ x) (sym e) ∙ h.joined) (notes_then old mid new h.front piece h.done k)

-- ROWS

pub no_count : (slot s : ℕ) → slot < 2 → s < 256 → count_of no_rows slot s ≡ 0
unfolding no_rows
no_count slot s h few = ap (λ r. slice_index r s) (get_or-replicate 2 slot (replicate 256 0) [] h) ∙ get_or-replicate 256 s 0 0 few

pub rows_none : AreRows no_rows
unfolding no_rows
rows_none = record { two = refl; long = at; within = λ slot s h few. (let e = no_count slot s h few in omega (arith, e)); last = λ slot h. no_count slot 255 h (lit< tt) }
  where
    at : (slot : ℕ) → slot < 2 → length (row (replicate 2 (replicate 256 0)) slot) ≡ 256
    at zero h = refl
    at (suc zero) h = refl
    at (suc (suc n)) h = absurd (omega (arith, h))

-- without 255 there are fewer than 256
pub few_symbols : (counts : List ℕ) → slice_index counts 255 ≡ 0 → length (symbols_in counts) ≤ 255
unfolding symbols_in
few_symbols counts e =
    let test : ℕ → Bool = λ s. nat_lt 0 (slice_index counts s) in
    let last : filter test (255 ∷ []) ≡ [] = ap (λ n. (let l : List ℕ = cond (nat_lt 0 n) (255 ∷ []) [] in l)) e in
    let parts : filter test (below 256) ≡ filter test (below 255) = filter-append test (below 255) (255 ∷ []) ∙ ap (λ xs. filter test (below 255) ++ xs) last ∙ append-nil (filter test (below 255)) in
    let l = ap length parts in
    omega (arith, l, filter_less test (below 255), length_below 255)

-- A COUNT RAISED

abbrev pub raised : Rows → ℕ → ℕ → ℕ → Rows
raised rows slot symbol m = set rows slot (set (row rows slot) symbol m)

capped_most : (n : ℕ) → capped n ≤ 4294967295
unfolding capped
capped_most n = omega arith

kept : (old new one : ℕ) (b : Bool) → old ≤ 4294967295 → new ≡ old → b ≡ false → new ≡ capped (old + cond b one 0)
kept old new one b small e f = e ∙ capped_same old small ∙ ap (λ t. capped (old + cond t one 0)) (sym f)

-- one place has another count
pub count_raised : (rows : Rows) (slot symbol m : ℕ) → AreRows rows → slot < 2 → symbol < 256 → m ≡ capped (count_of rows slot symbol + 1)
    → (s n : ℕ) → s < 2 → n < 256 → count_of (raised rows slot symbol m) s n ≡ capped (count_of rows s n + cond (slot == s && symbol == n) 1 0)
count_raised rows slot symbol m are in_two few e s n h k = ⊎_elim same other (cases_eq slot s)
  where
    old : ℕ
    old = count_of rows s n

    small : old ≤ 4294967295
    small = are.within s n h k

    other : (slot ≡ s → ⊥) → count_of (raised rows slot symbol m) s n ≡ capped (old + cond (slot == s && symbol == n) 1 0)
    other apart =
        kept old _ 1 (slot == s && symbol == n) small (ap (λ r. slice_index r n) (get_or-set_other rows slot s (set (row rows slot) symbol m) [] (λ q. apart (sym q))))
        (ap (λ b. b && symbol == n) (not_same slot s apart))

    here : slot ≡ s → row (raised rows slot symbol m) s ≡ set (row rows slot) symbol m
    here q = ap (row (raised rows slot symbol m)) (sym q) ∙ get_or-set_same rows slot (set (row rows slot) symbol m) [] (omega (arith, are.two, in_two))

    same : slot ≡ s → count_of (raised rows slot symbol m) s n ≡ capped (old + cond (slot == s && symbol == n) 1 0)
    same q = ap (λ r. slice_index r n) (here q) ∙ ⊎_elim this that (cases_eq symbol n)
      where
        this : symbol ≡ n → slice_index (set (row rows slot) symbol m) n ≡ capped (old + cond (slot == s && symbol == n) 1 0)
        this p =
            ap (slice_index (set (row rows slot) symbol m)) (sym p) ∙ get_or-set_same (row rows slot) symbol m 0 (let l = are.long slot in_two in omega (arith, l, few)) ∙ e
            ∙ ap (λ k. capped (count_of rows slot k + 1)) p ∙ ap (λ k. capped (count_of rows k n + 1)) q
            ∙ ap (λ b. capped (old + cond b 1 0)) (sym (ap (λ k. k == s && symbol == n) q ∙ ap (λ b. b && symbol == n) (same_itself s) ∙ ap (λ k. k == n) p ∙ same_itself n))

        that : (symbol ≡ n → ⊥) → slice_index (set (row rows slot) symbol m) n ≡ capped (old + cond (slot == s && symbol == n) 1 0)
        that apart =
            kept old _ 1 (slot == s && symbol == n) small (get_or-set_other (row rows slot) symbol n m 0 (λ p. apart (sym p)) ∙ ap (λ k. count_of rows k n) q)
            (ap (λ b. slot == s && b) (not_same symbol n apart) ∙ and_none (slot == s))

pub rows_raised : (rows : Rows) (slot symbol m : ℕ) → AreRows rows → slot < 2 → symbol < 255 → m ≡ capped (count_of rows slot symbol + 1) → AreRows (raised rows slot symbol m)
rows_raised rows slot symbol m are in_two few e = record {
  two = length-set rows slot (set (row rows slot) symbol m) ∙ are.two;
  long = long;
  within = λ s n h k. subst (λ x. x ≤ 4294967295) (sym (count_raised rows slot symbol m are in_two (omega (arith, few)) e s n h k)) (capped_most _);
  last = λ s h. count_raised rows slot symbol m are in_two (omega (arith, few)) e s 255 h (lit< tt) ∙ sym (kept 0 0 1 false (omega arith) refl refl ∙ ap (λ b. capped (0 + cond b 1 0)) (sym (apart s)) ∙ ap (λ n. capped (n + cond (slot == s && symbol == 255) 1 0)) (sym (are.last s h)));
}
  where
    apart : (s : ℕ) → (slot == s && symbol == 255) ≡ false
    apart s = ap (λ b. slot == s && b) (not_same symbol 255 (λ p. omega (arith, p, few))) ∙ and_none (slot == s)

    long : (s : ℕ) → s < 2 → length (row (raised rows slot symbol m) s) ≡ 256
    long s h = ⊎_elim this that (cases_eq slot s)
      where
        this : slot ≡ s → length (row (raised rows slot symbol m) s) ≡ 256
        this q =
            ap (λ k. length (row (raised rows slot symbol m) k)) (sym q) ∙ ap length (get_or-set_same rows slot (set (row rows slot) symbol m) [] (omega (arith, are.two, in_two)))
            ∙ length-set (row rows slot) symbol m ∙ are.long slot in_two

        that : (slot ≡ s → ⊥) → length (row (raised rows slot symbol m) s) ≡ 256
        that apart = ap length (get_or-set_other rows slot s (set (row rows slot) symbol m) [] (λ q. apart (sym q))) ∙ are.long s h

-- ONE MARK

marked : (t : Mark → Bool) (m : Mark) → cond (t m) 1 0 ≡ count_by t (m ∷ [])
marked t m = omega arith

pub one_more : (class : ℕ) (old new : Rows) (slot symbol : ℕ) → ((s n : ℕ) → s < 2 → n < 256 → count_of new s n ≡ capped (count_of old s n + cond (slot == s && symbol == n) 1 0)) → CountsToo class old (((class, slot), symbol) ∷ []) new
one_more class old new slot symbol counted = λ s n h k.
    counted s n h k ∙ ap (λ b. capped (count_of old s n + cond (b && slot == s && symbol == n) 1 0)) (sym (same_itself class))
    ∙ ap (λ m. capped (count_of old s n + m)) (marked (is_mark class s n) ((class, slot), symbol))

-- of another class
pub others_same : (class : ℕ) (rows : Rows) (other slot symbol : ℕ) → AreRows rows → (other == class) ≡ false → CountsToo class rows (((other, slot), symbol) ∷ []) rows
others_same class rows other slot symbol are e = λ s n h k.
    kept (count_of rows s n) (count_of rows s n) 1 (other == class && slot == s && symbol == n) (are.within s n h k) refl (ap (λ b. b && slot == s && symbol == n) e)
    ∙ ap (λ m. capped (count_of rows s n + m)) (marked (is_mark class s n) ((other, slot), symbol))
