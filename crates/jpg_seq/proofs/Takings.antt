-- Bits that are put after those that the caller has.
use Rattle.std.proofs.Common.{◌≡◌, Bool, List, [], Result, Ok, Err, sym, subst, ℕ, ◌+◌, ◌-◌, ◌*◌, ◌<◌, ◌≤◌, ◌∷◌, ◌++◌, length, take, drop, refl, ap, ◌∙◌, arith, ℤ, inl, inr, ⊎_elim, append_assoc, append-nil, length-append, length-take-le, take-append-drop, Option, None, Some, ◌⊎◌, ◌/◌, ◌%◌, get_or, set, ◌==◌, take-take, take_all, Contains, length-drop}
use Rattle.jpg_base.specs.Desk.{DeskState}
use Rattle.jpg_base.specs.declared.stop.WriteFault.{WriteFault}
use Rattle.jpg_huff.specs.Waiting.{Waiting}
use Rattle.jpg_huff.specs.BitOut.{Puts, PutsAfter, holding}
use Rattle.jpg_huff.proofs.InParts.{DoneButFor, of_bits, part_last}
use Rattle.std.proofs.Math.Seq.{drop-append_seam}
use Rattle.std.proofs.lemmas.Bool.{cases_lt}
use Rattle.jpg_coefs.specs.declared.machine.UnitFault.{UnitFault}
use Rattle.jpg_seq.specs.declared.work.UnitEnd.{UnitEnd}
use Rattle.jpg_seq.specs.declared.work.UnitEnd.TheVariants.{Empty, Done, Fault}
use Rattle.jpg_seq.specs.Work.{Work, Env, IsPartOf, Adds, BitsRevealAfter, FrontsAre, NoPartBegins, IsElement, IsShownFault, StepsTo, StepsThrough, BitsComeTo, IsUnitCovered, TakesFromStore, TakesElement, AreNext, AreSane}
use Rattle.jpg_seq.proofs.Elements.{cut, part_front, ac_code, end_element, value_taken}
use Rattle.jpg_spec.proofs.Basics.Common.{last_split}
use Rattle.std.proofs.lemmas.Grind.{elements}
use Rattle.std.proofs.lemmas.List.{drop-take}
use Rattle.jpg_spec.specs.Bits.{bits_of, bits_of_bytes}
use Rattle.jpg_spec.specs.Codes.{Code}
use Rattle.jpg_spec.specs.Parts.{IsFront}
use Rattle.jpg_spec.proofs.Basics.Strings.{bits_of-split, length-bits_of}
use Rattle.jpg_huff.specs.Laws.{AreApart}
use Rattle.jpg_huff.specs.Walk.{BeginsNoCode}
use Rattle.jpg_seq.specs.Values.{BeginsWithShortValue, IsNextEnd, IsNextShortValue, TellsNoPlace, TellsNone, TellsOrNone, no_entry}
use Rattle.jpg_seq.specs.declared.values.ShortValue.{ShortValue}
use Rattle.jpg_spec.specs.Elements.{zeros}
use Rattle.jpg_seq.specs.declared.source.Source.{Source}
use Rattle.jpg_seq.specs.Source.{bits_in}
use Rattle.jpg_spec_write.proofs.ProgressiveLength.{bytes_long}

-- the last ones of some of which a first part is done
pub last_after : (s0 s1 s2 : DeskState) (old mid new : Waiting) (before held all rest piece : List Bool) (r : Result (List Bool) WriteFault) → rest ≡ piece
    → DoneButFor Puts s0 (holding old before) all rest (holding mid held) s1 → PutsAfter s1 mid held piece r new s2 → PutsAfter s0 old before all r new s2
last_after s0 s1 s2 old mid new before held all rest piece (Ok left) e h k = part_last Puts of_bits s0 s1 s2 (holding old before) (holding mid held) (holding new left) all rest piece (Ok tt) e h k
last_after s0 s1 s2 old mid new before held all rest piece (Err fault) e h k = part_last Puts of_bits s0 s1 s2 (holding old before) (holding mid held) (holding new []) all rest piece (Err fault) e h k

-- after a fault none are held
pub none_held : (s0 s1 : DeskState) (old new : Waiting) (bits : List Bool) (fault : WriteFault) → new.bits ≡ [] → Puts s0 old bits (Err fault) (holding new []) s1 → Puts s0 old bits (Err fault) new s1
none_held s0 s1 old new bits fault none h = subst (λ held. Puts s0 old bits (Err fault) (holding new held) s1) (sym none) h

-- Bits of a unit, taken from a store.

abbrev at : List ℤ → List Bool → Work
at values part = record { values = values; part = part }

pub leads_then : (e : Env) (s mid t : Work) (xs ys : List Bool) → StepsThrough e s xs mid → StepsThrough e mid ys t → StepsThrough e s (xs ++ ys) t
leads_then e s mid t [] ys h k = subst (λ m. StepsThrough e m ys t) h k
leads_then e s mid t (b ∷ xs) ys h k = (h.0, h.1, leads_then e h.0 mid t xs ys h.2 k)

pub comes_then : (e : Env) (s mid t : Work) (xs ys : List Bool) (answer : Option UnitEnd) → StepsThrough e s xs mid → BitsComeTo e mid ys answer t → BitsComeTo e s (xs ++ ys) answer t
comes_then e s mid t xs ys None h k = leads_then e s mid t xs ys h k
comes_then e s mid t xs ys (Some Empty) h k = leads_then e s mid t xs ys h k
comes_then e s mid t xs ys (Some Done) h k =
    (xs ++ k.0, k.1, k.2, ap (λ z. xs ++ z) k.3 ∙ sym (append_assoc xs k.0 (k.1 ∷ [])), leads_then e s mid k.2 xs k.0 h k.4, k.5)
comes_then e s mid t xs ys (Some (Fault fault)) h k =
    (xs ++ k.0, k.1, k.2, ap (λ z. xs ++ z) k.3 ∙ sym (append_assoc xs k.0 (k.1 ∷ [])), leads_then e s mid k.2 xs k.0 h k.4, k.5)

-- up to the last of the bits each is a part of an element
pub record ToLast (e : Env) (values : List ℤ) (p y : List Bool) : Type 0 where
  pub front : List Bool
  pub bit : Bool
  pub split : y ≡ front ++ bit ∷ []
  pub leads : StepsThrough e (at values p) front (at values (p ++ front))

pub to_last : (e : Env) (values : List ℤ) (w p y : List Bool) → w ≡ p ++ y → 1 ≤ length y → FrontsAre e values w → ToLast e values p y
to_last e values w p [] s h fronts = absurd (omega arith)
to_last e values w p (b ∷ []) s h fronts = record { front = []; bit = b; split = refl; leads = ap (at values) (append-nil p) }
to_last e values w p (b ∷ d ∷ y) s h fronts =
    let q : w ≡ (p ++ b ∷ []) ++ d ∷ y = s ∙ sym (append_assoc p (b ∷ []) (d ∷ y)) in
    let r = to_last e values w (p ++ b ∷ []) (d ∷ y) q (omega arith) fronts in
    record {
      front = b ∷ r.front;
      bit = r.bit;
      split = ap (λ z. b ∷ z) r.split;
      leads = (at values (p ++ b ∷ []), inl (refl, fronts (p ++ b ∷ []) (d ∷ y) q (omega arith)), subst (λ m. StepsThrough e (at values (p ++ b ∷ [])) r.front m) (ap (at values) (append_assoc p (b ∷ []) r.front)) r.leads);
    }

-- all bits are a part of an element
pub part_leads : (e : Env) (values : List ℤ) (p y : List Bool) → IsPartOf e values (p ++ y) → StepsThrough e (at values p) y (at values (p ++ y))
part_leads e values p [] part = ap (at values) (append-nil p)
part_leads e values p (b ∷ y) part =
    let q : p ++ b ∷ y ≡ (p ++ b ∷ []) ++ y = sym (append_assoc p (b ∷ []) y) in
    let whole : IsPartOf e values ((p ++ b ∷ []) ++ y) = subst (λ z. IsPartOf e values z) q part in (
      at values (p ++ b ∷ []),
      inl (refl, part_front e values (p ++ b ∷ []) y whole),
      subst (λ m. StepsThrough e (at values (p ++ b ∷ [])) y m) (ap (at values) (sym q)) (part_leads e values (p ++ b ∷ []) y whole),
    )

-- FROM A STORE

-- of the next bits, `n` are an element or reveal a fault: those of the store among them
pub record IsCut (p store bits : List Bool) (n : ℕ) : Type 0 where
  pub taken : List Bool
  pub front : take n bits ≡ p ++ taken
  pub some : 1 ≤ length taken
  pub rest : store ≡ taken ++ drop (n - length p) store
  pub more : length p < n
  pub there : n - length p ≤ length store

pub cut_off : (e : Env) (values : List ℤ) (p store bits : List Bool) (n : ℕ) → IsPartOf e values p → AreNext p store bits → n ≤ length bits → NoPartBegins e values (take n bits) → IsCut p store bits n
cut_off e values p store bits n part next le ends =
    let l = length-take-le n bits le in
    let behind = drop n bits ++ next.rest in
    let whole : take n bits ++ behind ≡ p ++ store =
    sym (append_assoc (take n bits) (drop n bits) next.rest) ∙ ap (λ z. z ++ next.rest) (take-append-drop n bits) ∙ sym next.split in
    ⊎_elim
    (λ (a : length p < n). (let k = cut p store (take n bits) behind (sym whole) (omega (arith, a, l)) in
    let len : n - length p ≡ length k.0 = omega (arith, ap length k.1, length-append p k.0, l) in
    let rest : drop (n - length p) store ≡ behind = ap (λ m. drop m store) len ∙ ap (drop (length k.0)) k.2 ∙ drop-append_seam k.0 behind in
    record {
      taken = k.0;
      front = k.1;
      some = omega (arith, len, a);
      rest = k.2 ∙ ap (λ z. k.0 ++ z) (sym rest);
      more = a;
      there = omega (arith, len, ap length k.2, length-append k.0 behind);
    }))
    (λ (b : n ≤ length p). absurd (let k = cut (take n bits) behind p store whole (omega (arith, b, l)) in ends p k.0 part k.1))
    (cases_lt (length p) n)

-- they may be skipped
pub can_skip : (e : Env) (s : Work) (store bits : List Bool) (n have : ℕ) → IsPartOf e s.values s.part → have ≡ length s.part → AreNext s.part store bits → n ≤ length bits → NoPartBegins e s.values (take n bits) → (have ≤ n) × (n - have ≤ length store)
can_skip e s store bits n have part is next le ends = (let k = cut_off e s.values s.part store bits n part next le ends in (omega (arith, is, k.more), omega (arith, is, k.there)))

pub element_takes : (e : Env) (s t : Work) (store rest bits : List Bool) (n : ℕ) (here : List ℤ) (answer : Option UnitEnd) → IsPartOf e s.values s.part → AreNext s.part store bits → n ≤ length bits → IsElement e s.values (take n bits) here
    → rest ≡ drop (n - length s.part) store → t ≡ at (s.values ++ here) [] → IsUnitCovered t answer → TakesFromStore e s store answer t rest
element_takes e s t store rest bits n here answer part next le el is to cov = by answer cov
  where
    k : IsCut s.part store bits n
    k = cut_off e s.values s.part store bits n part next le el.ends

    r : ToLast e s.values s.part k.taken
    r = to_last e s.values (take n bits) s.part k.taken k.front k.some el.fronts

    split : store ≡ k.taken ++ rest
    split = k.rest ∙ ap (λ z. k.taken ++ z) (sym is)

    adds : Adds e s.values ((s.part ++ r.front) ++ r.bit ∷ []) here
    adds = subst (λ b. Adds e s.values b here) (k.front ∙ sym (last_split s.part r.front k.taken r.bit r.split)) el.adds

    none : t.part ≡ []
    none = ap (λ (x : Work). x.part) to

    by : (answer : Option UnitEnd) → IsUnitCovered t answer → TakesFromStore e s store answer t rest
    by None cov =
        let step : StepsTo e (at s.values (s.part ++ r.front)) r.bit t = inr (here, to, adds, omega (arith, cov, ap (λ (x : Work). length x.values) to)) in
        let steps = leads_then e s (at s.values (s.part ++ r.front)) t r.front (r.bit ∷ []) r.leads (t, step, refl) in
        (k.taken, split, subst (λ z. StepsThrough e s z t) (sym r.split) steps, (cov, none), λ h. absurd cc)
    by (Some Done) cov =
        (k.taken, split, (r.front, r.bit, at s.values (s.part ++ r.front), r.split, r.leads, (here, adds, ap (λ (x : Work). x.values) to, cov)), (cov, none), λ h. absurd cc)
    by (Some Empty) cov = absurd cov
    by (Some (Fault fault)) cov = absurd cov

pub shown_takes : (e : Env) (s t : Work) (store rest bits : List Bool) (n : ℕ) (fault : UnitFault) → IsPartOf e s.values s.part → AreNext s.part store bits → n ≤ length bits → IsShownFault e s.values (take n bits) fault
    → rest ≡ drop (n - length s.part) store → TakesFromStore e s store (Some (Fault fault)) t rest
shown_takes e s t store rest bits n fault part next le sh is =
    let k = cut_off e s.values s.part store bits n part next le sh.ends in
    let r = to_last e s.values (take n bits) s.part k.taken k.front k.some sh.fronts in
    let shows = subst (λ b. BitsRevealAfter e s.values fault b) (k.front ∙ sym (last_split s.part r.front k.taken r.bit r.split)) sh.shows in
    (k.taken, k.rest ∙ ap (λ z. k.taken ++ z) (sym is), (r.front, r.bit, at s.values (s.part ++ r.front), r.split, r.leads, shows), tt, λ h. absurd cc)

-- if the next bits are few, all are there
pub all_next : (p store bits : List Bool) → (next : AreNext p store bits) → length bits < 32 → p ++ store ≡ bits
all_next p store bits next few = next.split ∙ ap (λ z. bits ++ z) (next.all few) ∙ append-nil bits

pub part_takes : (e : Env) (s t : Work) (store rest bits : List Bool) → length s.values < 64 → AreNext s.part store bits → IsPartOf e s.values bits → length bits < 32 → t ≡ at s.values (s.part ++ store) → rest ≡ []
    → TakesFromStore e s store (Some Empty) t rest
part_takes e s t store rest bits less next part few to none =
    let joined = subst (IsPartOf e s.values) (sym (all_next s.part store bits next few)) part in
    (store, rw none (sym (append-nil store)), subst (λ m. StepsThrough e s store m) (sym to) (part_leads e s.values s.part store joined), rw to (record { left = less; part = joined }), λ h. none)

-- where nothing waits
pub no_part : (s t : Work) (values : List ℤ) → s.part ≡ [] → t ≡ record s { values = values } → t ≡ at values []
no_part s t values none is = is ∙ ap (at values) none

pub one_taken : (e : Env) (s t : Work) (store rest : List Bool) (answer : Option UnitEnd) → s.part ≡ [] → TakesElement e s store t rest → IsUnitCovered t answer → TakesFromStore e s store answer t rest
one_taken e s t store rest answer none (n, here, some, le, el, is, to) cov =
    let e0 : n ≡ n - length s.part = omega (arith, ap length none) in
    element_takes e s t store rest store n here answer (inl none) (record { rest = []; split = ap (λ z. z ++ store) none ∙ sym (append-nil store); all = λ h. refl }) le el (is ∙ ap (λ m. drop m store) e0) to cov

pub covered_done : (t : Work) (answer : Option UnitEnd) → IsUnitCovered t answer → answer ≡ Some Empty → ⊥
covered_done t answer cov is = subst (IsUnitCovered t) is cov

pub one_grows : (e : Env) (s t : Work) (store rest : List Bool) → TakesElement e s store t rest → length s.values < length t.values
one_grows e s t store rest (n, here, some, le, el, is, to) = omega (arith, el.some, ap (λ (x : Work). length x.values) to, length-append s.values here)

-- further bits
pub takes_then : (e : Env) (s mid t : Work) (store between rest : List Bool) (answer : Option UnitEnd) → TakesFromStore e s store None mid between → TakesFromStore e mid between answer t rest → TakesFromStore e s store answer t rest
takes_then e s mid t store between rest answer h k =
    (h.0 ++ k.0, h.1 ∙ ap (λ z. h.0 ++ z) k.1 ∙ sym (append_assoc h.0 k.0 rest), comes_then e s mid t h.0 k.0 answer h.2 k.2, k.3, k.4)

-- Values that ten bits determine at once.

-- the bits of a number below 1024, and those of its parts
pub ten_split : (ten : ℕ) (store first second third : List Bool) → store ≡ [] → first ≡ store ++ bits_of 8 (ten / 4) → second ≡ first ++ (ten / 2 % 2 == 1) ∷ [] → third ≡ second ++ (ten % 2 == 1) ∷ [] → third ≡ bits_of 10 ten
ten_split ten store first second third none a b c =
    let half : ten / 2 / 2 ≡ ten / 4 = omega arith in
    c ∙ ap (λ l. l ++ (ten % 2 == 1) ∷ []) (b ∙ ap (λ l. l ++ (ten / 2 % 2 == 1) ∷ []) (a ∙ ap (λ l. l ++ bits_of 8 (ten / 4)) none ∙ ap (bits_of 8) (sym half)) ∙ sym (bits_of-split 8 (ten / 2)))
    ∙ sym (bits_of-split 9 ten)

-- a further entry
pub entry_more : (codes : List Code) (entries : List ShortValue) (i : ℕ) (t : ShortValue) → i < length entries → ((n : ℕ) → n < i → TellsOrNone codes (bits_of 10 n) (get_or entries n no_entry)) → TellsOrNone codes (bits_of 10 i) t
    → (n : ℕ) → n < i + 1 → TellsOrNone codes (bits_of 10 n) (get_or (set entries i t) n no_entry)
entry_more codes entries i t lt so_far here n h =
    ⊎_elim
    (λ (a : n < i). let e : get_or (set entries i t) n no_entry ≡ get_or entries n no_entry = grind (arith, elements) in subst (λ x. TellsOrNone codes (bits_of 10 n) x) (sym e) (so_far n a))
    (λ (b : i ≤ n). (let e : i ≡ n = omega arith in
    let w : get_or (set entries i t) i no_entry ≡ t = grind (arith, elements) in
    let P : ℕ → Type 0 = λ m. TellsOrNone codes (bits_of 10 m) (get_or (set entries i t) m no_entry) in
    subst P e (subst (λ x. TellsOrNone codes (bits_of 10 i) x) (sym w) here)))
    (cases_lt n i)

-- the first ten bits are enough to determine it
same_ten : (codes : List Code) (a b : List Bool) (t : ShortValue) → take 10 a ≡ take 10 b → 10 ≤ length b → BeginsWithShortValue codes a t → BeginsWithShortValue codes b t
same_ten codes a b t is long f =
    let k = f.code in let size = f.size in
    let few = f.few in
    let C : List Bool → Type 0 = λ x. Contains codes (x, 16 * t.run + size) in
    let low : k ≤ 10 = omega (arith, few) in
    let front : take k a ≡ take k b = sym (take-take k 10 a low) ∙ ap (take k) is ∙ take-take k 10 b low in
    let ten_is : k + (10 - k) ≡ 10 = omega (arith, few) in
    let part = λ (x : List Bool).
    ap (λ n. take size (drop k (take n x))) (sym ten_is) ∙ ap (take size) (drop-take k (10 - k) x) ∙ take-take size (10 - k) (drop k x) (omega (arith, few)) in
    let behind : take size (drop k a) ≡ take size (drop k b) = sym (part a) ∙ ap (λ x. take size (drop k x)) is ∙ part b in
    record {
      code = k;
      size = size;
      some = f.some;
      sized = f.sized;
      sum = f.sum;
      few = few;
      there = omega (arith, few, long);
      run = f.run;
      in_codes = subst C front f.in_codes;
      category = f.category;
      extra = f.extra ∙ behind;
    }

same_ten_end : (codes : List Code) (a b : List Bool) (t : ShortValue) → take 10 a ≡ take 10 b → 10 ≤ length b → IsNextEnd codes a t → IsNextEnd codes b t
same_ten_end codes a b t is long f =
    let n = t.length in
    let C : List Bool → Type 0 = λ x. Contains codes (x, 0) in
    let front : take n a ≡ take n b = sym (take-take n 10 a f.few) ∙ ap (take n) is ∙ take-take n 10 b f.few in
    record { some = f.some; few = f.few; there = omega (arith, f.few, long); run = f.run; in_codes = subst C front f.in_codes }

same_short : (codes : List Code) (a b : List Bool) (t : ShortValue) → take 10 a ≡ take 10 b → 10 ≤ length b → IsNextShortValue codes a t → IsNextShortValue codes b t
same_short codes a b t is long (inl f) = inl (same_ten codes a b t is long f)
same_short codes a b t is long (inr f) = inr (same_ten_end codes a b t is long f)

-- some bits encode it
some_short : (codes : List Code) (bits : List Bool) (t : ShortValue) → IsNextShortValue codes bits t → 1 ≤ t.length
some_short codes bits t (inl f) = omega (arith, f.sum, f.some)
some_short codes bits t (inr f) = f.some

-- which it is, by its run
pub short_value : (codes : List Code) (bits : List Bool) (t : ShortValue) → IsNextShortValue codes bits t → t.run < 64 → BeginsWithShortValue codes bits t
short_value codes bits t (inl f) less = f
short_value codes bits t (inr f) less = absurd (omega (arith, f.run, less))

pub short_end : (codes : List Code) (bits : List Bool) (t : ShortValue) → IsNextShortValue codes bits t → t.run ≡ 64 → IsNextEnd codes bits t
short_end codes bits t (inl f) is = absurd (omega (arith, f.run, is))
short_end codes bits t (inr f) is = f

first_ten : (bits : List Bool) (ten : ℕ) → bits_of 10 ten ≡ take 10 bits → take 10 (bits_of 10 ten) ≡ take 10 bits
first_ten bits ten is = take_all 10 (bits_of 10 ten) (omega (arith, length-bits_of 10 ten)) ∙ is

-- the first ten bits determine it, so all do
pub entry_first : (codes : List Code) (bits : List Bool) (ten : ℕ) (t : ShortValue) → 10 ≤ length bits → bits_of 10 ten ≡ take 10 bits → TellsOrNone codes (bits_of 10 ten) t → (t.length ≡ 0 → ⊥) → IsNextShortValue codes bits t
entry_first codes bits ten t long is (inl none) some = absurd (some none.0)
entry_first codes bits ten t long is (inr f) some = same_short codes (bits_of 10 ten) bits t (first_ten bits ten is) long f

-- they determine none
pub entry_not : (codes : List Code) (bits : List Bool) (ten : ℕ) (t : ShortValue) → bits_of 10 ten ≡ take 10 bits → TellsOrNone codes (bits_of 10 ten) t → t.length ≡ 0 → TellsNone codes bits
entry_not codes bits ten t is (inl none) e = λ u f. none.1 u (same_short codes bits (bits_of 10 ten) u (sym (first_ten bits ten is)) (omega (arith, length-bits_of 10 ten)) f)
entry_not codes bits ten t is (inr f) e = absurd (omega (arith, some_short codes (bits_of 10 ten) t f, e))

-- WHERE NONE COMES FIRST

-- two codes that come first
code_apart : (codes : List Code) → AreApart codes → (bits : List Bool) (k n s t : ℕ) → k ≤ length bits → n ≤ length bits → Contains codes (take k bits, s) → Contains codes (take n bits, t) → (k ≡ n) × (s ≡ t)
code_apart codes apart bits k n s t a b h g =
    let e = apart (take k bits, s) (take n bits, t) (drop k bits) (drop n bits) h g (take-append-drop k bits ∙ sym (take-append-drop n bits)) in
    let l = ap (λ (c : Code). length c.0) e in
    (omega (arith, l, length-take-le k bits a, length-take-le n bits b), ap (λ (c : Code). c.1) e)

-- a code comes first, and its symbol
abbrev pub CodeFirst : List Code → List Bool → ℕ → ℕ → Type 0
CodeFirst codes bits k symbol = (1 ≤ k) × (k ≤ length bits) × Contains codes (take k bits, symbol)

-- a value and the end of a block have codes
short_code : (codes : List Code) (bits : List Bool) (t : ShortValue) → IsNextShortValue codes bits t → (k : ℕ) × (symbol : ℕ) × CodeFirst codes bits k symbol
short_code codes bits t (inl f) = (f.code, 16 * t.run + f.size, (f.some, omega (arith, f.there), f.in_codes))
short_code codes bits t (inr f) = (t.length, 0, (f.some, f.there, f.in_codes))

-- all that they begin with have one run
run_once : (codes : List Code) (bits : List Bool) (t u : ShortValue) → AreApart codes → IsNextShortValue codes bits t → IsNextShortValue codes bits u → t.run ≡ u.run
run_once codes bits t u apart (inl f) (inl g) =
    let e = code_apart codes apart bits f.code g.code (16 * t.run + f.size) (16 * u.run + g.size) (omega (arith, f.there)) (omega (arith, g.there)) f.in_codes g.in_codes in
    omega (arith, e.1, f.few, f.some, g.few, g.some)
run_once codes bits t u apart (inl f) (inr g) =
    let e = code_apart codes apart bits f.code u.length (16 * t.run + f.size) 0 (omega (arith, f.there)) g.there f.in_codes g.in_codes in
    absurd (omega (arith, e.1, f.sized))
run_once codes bits t u apart (inr f) (inl g) =
    let e = code_apart codes apart bits t.length g.code 0 (16 * u.run + g.size) f.there (omega (arith, g.there)) f.in_codes g.in_codes in
    absurd (omega (arith, e.1, g.sized))
run_once codes bits t u apart (inr f) (inr g) = f.run ∙ sym g.run

-- what they begin with has no place after this many values, so nothing that they begin with has
pub no_place : (codes : List Code) (at : ℕ) (bits : List Bool) (t : ShortValue) → AreApart codes → IsNextShortValue codes bits t → 64 ≤ at + t.run → (t.run ≡ 64 → ⊥) → TellsNoPlace codes at bits
no_place codes at bits t apart f far not = inr (λ u g. (let e = run_once codes bits t u apart f g in (omega (arith, e, far), λ is. not (e ∙ is))))

pub none_placed : (codes : List Code) (at : ℕ) (bits : List Bool) → (length bits < 10) ⊎ TellsNone codes bits → TellsNoPlace codes at bits
none_placed codes at bits (inl few) = inl few
none_placed codes at bits (inr none) = inr (λ u g. absurd (none u g))

-- another code comes first, whose symbol gives no value that short, nor the end
pub none_symbol : (codes : List Code) (bits : List Bool) (n symbol : ℕ) → AreApart codes → n ≤ length bits → Contains codes (take n bits, symbol) → (symbol ≡ 0 → ⊥) → ((1 ≤ symbol % 16) × (n + symbol % 16 ≤ 10) → ⊥) → TellsNone codes bits
none_symbol codes bits n symbol apart l h other not u (inr f) = other (sym (code_apart codes apart bits u.length n 0 symbol f.there l f.in_codes h).1)
none_symbol codes bits n symbol apart l h other not u (inl f) =
    let e = code_apart codes apart bits f.code n (16 * u.run + f.size) symbol (omega (arith, f.there)) l f.in_codes h in
    let m : (16 * u.run + f.size) % 16 ≡ f.size = omega (arith, f.few, f.some) in
    let z : f.size ≡ symbol % 16 = sym m ∙ ap (λ q. q % 16) e.1 in
    not (omega (arith, f.sized, z), omega (arith, f.few, e.0, z))

-- the bits are a part of a code
front_apart : (codes : List Code) (bits : List Bool) (k symbol : ℕ) → AreApart codes → IsFront codes bits → 1 ≤ k → k ≤ length bits → Contains codes (take k bits, symbol) → ⊥
front_apart codes bits k symbol apart (inl nil) some low h = omega (arith, some, low, ap length nil)
front_apart codes bits k symbol apart (inr b) some low h =
    let more = b.1 ∷ b.2 in
    let joined : take k bits ++ (drop k bits ++ more) ≡ b.0.0 ++ [] =
    sym (append_assoc (take k bits) (drop k bits) more) ∙ ap (λ l. l ++ more) (take-append-drop k bits) ∙ sym b.4 ∙ sym (append-nil b.0.0) in
    let l = ap (λ (c : Code). length c.0) (apart (take k bits, symbol) b.0 (drop k bits ++ more) [] h b.3 joined) in
    omega (arith, l, ap length b.4, length-append bits more, length-take-le k bits low, low)

pub none_part : (codes : List Code) (bits : List Bool) → AreApart codes → IsFront codes bits → TellsNone codes bits
none_part codes bits apart front = λ u f.
    let c = short_code codes bits u f in
    front_apart codes bits c.0 c.1 apart front c.2.0 c.2.1 c.2.2

-- they begin none with their nth bit
pub none_begins : (codes : List Code) (bits : List Bool) (n : ℕ) → AreApart codes → 1 ≤ n → n ≤ length bits → IsFront codes (take (n - 1) bits) → BeginsNoCode codes (take n bits) → TellsNone codes bits
none_begins codes bits n apart some low front none = λ u f.
    let c = short_code codes bits u f in
    let k = c.0 in let symbol = c.1 in
    let C : List Bool → Type 0 = λ x. Contains codes (x, symbol) in
    ⊎_elim
    (λ (a : k < n). (let le : k ≤ n - 1 = omega (arith, a) in
    front_apart codes (take (n - 1) bits) k symbol apart front c.2.0 (omega (arith, le, low, length-take-le (n - 1) bits (omega (arith, low))))
    (subst C (sym (take-take k (n - 1) bits le)) c.2.2)))
    (λ (b : n ≤ k). none (take k bits, symbol) (drop n (take k bits)) c.2.2 (sym (take-append-drop n (take k bits)) ∙ ap (λ x. x ++ drop n (take k bits)) (take-take n k bits b)))
    (cases_lt k n)

-- Values that ten bits determine, as elements.

module _ (e : Env) (values : List ℤ) (bits : List Bool) (t : ShortValue) (sane : AreSane e.bounds) (apart : AreApart e.ac) (some : 1 ≤ length values) (less : length values < 64) where
  pub entry_element : BeginsWithShortValue e.ac bits t → t.run + length values < 64 → IsElement e values (take t.length bits) (zeros t.run ++ t.value ∷ [])
  entry_element entry room =
      let code = ac_code {e = e} {values = values} bits entry.code (16 * t.run + entry.size) sane apart some less entry.some (omega (arith, entry.there)) entry.in_codes in
      subst (λ n. IsElement e values (take n bits) (zeros t.run ++ t.value ∷ [])) (sym entry.sum)
      (value_taken bits entry.code t.run entry.size t.value code entry.there entry.sized (omega (arith, entry.some, entry.few, sane.nine)) room entry.run entry.category entry.extra)

  pub entry_end : IsNextEnd e.ac bits t → IsElement e values (take t.length bits) (zeros (64 - length values))
  entry_end entry = end_element (ac_code {e = e} {values = values} bits t.length 0 sane apart some less entry.some entry.there entry.in_codes) (64 - length values) refl refl

-- Bits of a source, taken from its store.

-- what is taken of the bits at hand after others, is taken of all
pub then_at_hand : (e : Env) (s0 s t : Work) (all : List Bool) (old filled new : Source) (answer : Option UnitEnd) → TakesFromStore e s0 all None s (bits_in old) → bits_in filled ≡ bits_in old
    → (answer ≡ Some Empty → filled.bytes.now ≡ []) → TakesFromStore e s filled.store answer t new.store → new.bytes.now ≡ filled.bytes.now → TakesFromStore e s0 all answer t (bits_in new)
then_at_hand e s0 s t all old filled new answer before same none k bytes =
    let behind = bits_of_bytes filled.bytes.now in
    let rest : bits_in new ≡ new.store ++ behind = ap (λ (b : List ℕ). new.store ++ bits_of_bytes b) bytes in
    takes_then e s0 s t all (bits_in old) (bits_in new) answer before (
      k.0,
      sym same ∙ ap (λ (x : List Bool). x ++ behind) k.1 ∙ append_assoc k.0 new.store behind ∙ ap (λ (x : List Bool). k.0 ++ x) (sym rest),
      k.2,
      k.3,
      λ is. rest ∙ ap (λ (x : List Bool). x ++ behind) (k.4 is) ∙ ap bits_of_bytes (none is),
    )

pub source_long : (s : Source) → length (bits_in s) ≡ length s.store + 8 * length s.bytes.now
source_long s = omega (arith, length-append s.store (bits_of_bytes s.bytes.now), bytes_long s.bytes.now)

pub pushed_long : (store new : List Bool) (byte : ℕ) → new ≡ store ++ bits_of 8 byte → length new ≡ length store + 8
pushed_long store new byte is = omega (arith, ap length is, length-append store (bits_of 8 byte), length-bits_of 8 byte)

pub byte_fits : (store now : List Bool) (items : List ℕ) (i : ℕ) → i < length items → store ++ bits_of_bytes (drop i items) ≡ now → length store + 8 ≤ length now
byte_fits store now items i h all = omega (arith, ap length all, length-append store (bits_of_bytes (drop i items)), bytes_long (drop i items), length-drop i items)

-- how many bits of the bytes were taken
pub taken_count : (bytes : List ℕ) (taken rest : List Bool) (n left : ℕ) → bits_of_bytes bytes ≡ taken ++ rest → n ≡ length (bits_of_bytes bytes) - left → left ≡ length rest → rest ≡ drop n (bits_of_bytes bytes)
taken_count bytes taken rest n left split is count =
    let l : n ≡ length taken = omega (arith, is, count, ap length split, length-append taken rest) in
    sym (ap (drop n) split ∙ ap (λ k. drop k (taken ++ rest)) l ∙ drop-append_seam taken rest)

-- four more bytes at hand
pub four_long : (store new : List Bool) (a b c d : ℕ) → new ≡ store ++ (((bits_of 8 a ++ bits_of 8 b) ++ bits_of 8 c) ++ bits_of 8 d) → 32 ≤ length new
four_long store new a b c d is =
    let A = bits_of 8 a in let B = bits_of 8 b in let C = bits_of 8 c in let D = bits_of 8 d in
    let each = length-bits_of 8 in
    omega (arith, ap length is, length-append store (((A ++ B) ++ C) ++ D), length-append ((A ++ B) ++ C) D, length-append (A ++ B) C, length-append A B, each a, each b, each c, each d)
