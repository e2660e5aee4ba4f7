-- Some data bytes passed to a machine at once: the last of them is passed by itself, after the bits of those before it.
use Rattle.std.proofs.Common.{◌≡◌, ℕ, ◌+◌, Bool, List, [], ◌∷◌, ◌++◌, refl, sym, ap, ◌∙◌, subst, arith, Ok, ◌-◌, ◌*◌, ◌/◌, ◌%◌, min, ◌<◌, ◌≤◌, length, take, drop, get_or, Err, Result, append_assoc, append-nil, length-append, length-drop, length-take-le, take_all, take-append-drop, take-take, get_or-take, get_or-append-add, length-take}
use Rattle.std.proofs.lemmas.List.{append_cancel_left, take_more, take-append-le}
use Rattle.jpg_coefs.specs.Picture.{Picture}
use Rattle.jpg_coefs.specs.Machine.{Chain, ChainTo, Kind, TakesBits, Interval}
use Rattle.jpg_coefs.specs.declared.machine.UnitFault.{UnitFault}
use Rattle.jpg_coefs.specs.declared.machine.UnitStep.{UnitStep}
use Rattle.jpg_coefs.specs.declared.machine.UnitStep.TheVariants as step
use Rattle.jpg_coefs.specs.declared.machine.Taken.{Taken}
use Rattle.jpg_coefs.specs.declared.machine.Taken.TheVariants as taken
use Rattle.jpg_coefs.proofs.Chains.{chain_then, chain_stands, some_taken}
use Rattle.jpg_file.specs.Read.Machine.{AnswersIn, GivesBits, waits_of, GivesRun}
use Rattle.std.proofs.Math.Seq.{drop-append_seam, take-append-add, take-append_seam}
use Rattle.jpg_spec.specs.Bits.{bits_of, bits_of_bytes}
use Rattle.jpg_spec.proofs.Bits.DataFacts.{bits_join}
use Rattle.jpg_spec.proofs.Basics.Strings.{length-bits_of}
use Rattle.jpg_spec_write.proofs.ProgressiveLength.{bytes_long}

-- The result of bits that are given to a machine, as a chain of them.

module _ {M : Type 0} (k : Kind M) (m : M) (now : Picture) where
  pub chain_all : (most : ℕ) (new : M) (after : Picture) (bits : List Bool) → ChainTo k most m now bits (Ok step.More) new after → Chain k m now bits new after
  chain_all most new after bits (front, bit, mid, between, cut, chain, few, last) =
      let C : List Bool → Type 0 = λ l. Chain k m now l new after in
      let one : Chain k mid between (bit ∷ []) new after = (new, after, last, (refl, refl)) in
      subst C (sym cut) (chain_then k m mid new now between after front (bit ∷ []) chain one)

  -- as many units as were asked for, or fewer
  pub given : (most : ℕ) (new : M) (after : Picture) (store rest : List Bool) (answer : Taken) → TakesBits k most m now store answer new after rest
      → GivesBits k m now store answer (waits_of answer rest) new after
  given most new after store rest taken.More (bits, cut, (chain, few, none)) =
      let C : List Bool → Type 0 = λ z. Chain k m now z new after in
      (refl, subst C (sym (append-nil bits) ∙ ap (λ z. bits ++ z) (sym none) ∙ sym cut) chain)
  given most new after store rest taken.Units (bits, cut, (chain, many, some)) = (bits, cut, chain_all most new after bits chain)
  given most new after store rest taken.IntervalDone (bits, cut, chain) = (refl, (most, bits, rest, cut, chain))
  given most new after store rest (taken.Fault f) (bits, cut, chain) = (refl, (most, bits, rest, cut, chain))

  -- an answer after a chain
  pub answers_after : (mid new : M) (between after : Picture) (front bits : List Bool) (answer : Result UnitStep UnitFault) → Chain k m now front mid between
      → AnswersIn k mid between bits answer new after → AnswersIn k m now (front ++ bits) answer new after
  answers_after mid new between after front bits answer chain (most, first, rest, cut, (before, bit, last, there, is, more, few, ends)) = (
    k.left m + 1,
    front ++ first,
    rest,
    ap (λ z. front ++ z) cut ∙ sym (append_assoc front first rest),
    (
      front ++ before,
      bit,
      last,
      there,
      ap (λ z. front ++ z) is ∙ sym (append_assoc front before (bit ∷ [])),
      chain_then k m mid last now between there front before chain more,
      omega arith,
      ends,
    ),
  )

-- A CHAIN of bits, split in two

pub record ChainCut (M : Type 0) (k : Kind M) (m : M) (now : Picture) (xs ys : List Bool) (new : M) (after : Picture) : Type 0 where
  pub mid : M
  pub between : Picture
  pub first : Chain k m now xs mid between
  pub second : Chain k mid between ys new after

pub chain_cut : {M : Type 0} (k : Kind M) (m new : M) (now after : Picture) (xs ys : List Bool) → Chain k m now (xs ++ ys) new after → ChainCut M k m now xs ys new after
chain_cut k m new now after [] ys h = record { mid = m; between = now; first = (refl, refl); second = h }
chain_cut k m new now after (b ∷ xs) ys h =
    let c = chain_cut k h.0 new h.1 after xs ys h.3 in
    record { mid = c.mid; between = c.between; first = (h.0, h.1, h.2, c.first); second = c.second }

-- THE BITS of bytes

-- how many bytes have these first bits
pub given_bytes : (bytes : List ℕ) (bits n : ℕ) → bits ≤ 8 * length bytes → n ≡ bits / 8 + min 1 (bits % 8) → n ≡ length bytes - length (drop bits (bits_of_bytes bytes)) / 8
given_bytes bytes bits n within is = omega (arith, within, is, length-drop bits (bits_of_bytes bytes), bytes_long bytes)

-- the split of the bytes where bits were left: the byte with the last of some first bits
pub record RunCut (bytes : List ℕ) (bits : List Bool) (n : ℕ) : Type 0 where
  pub early : ℕ
  pub count : n ≡ early + 1
  pub within : early < length bytes
  pub front : List Bool
  pub rest : List Bool
  pub cut : bits ≡ bits_of_bytes (take early bytes) ++ front
  pub byte : bits_of 8 (get_or bytes early 0) ≡ front ++ rest
  pub some : 1 ≤ length front

bytes_cut : (bytes : List ℕ) (n : ℕ) → n < length bytes → bits_of_bytes bytes ≡ bits_of_bytes (take n bytes) ++ (bits_of 8 (get_or bytes n 0) ++ bits_of_bytes (drop (n + 1) bytes))
bytes_cut bytes n low =
    ap bits_of_bytes (sym (take-append-drop (n + 1) bytes)) ∙ bits_join (take (n + 1) bytes) (drop (n + 1) bytes)
    ∙ ap (λ l. bits_of_bytes l ++ bits_of_bytes (drop (n + 1) bytes)) (take_more bytes n 0 low)
    ∙ ap (λ l. l ++ bits_of_bytes (drop (n + 1) bytes)) (bits_join (take n bytes) (get_or bytes n 0 ∷ []) ∙ ap (λ l. bits_of_bytes (take n bytes) ++ l) (append-nil (bits_of 8 (get_or bytes n 0))))
    ∙ append_assoc (bits_of_bytes (take n bytes)) (bits_of 8 (get_or bytes n 0)) (bits_of_bytes (drop (n + 1) bytes))

pub run_cut : (bytes : List ℕ) (bits rest : List Bool) (n : ℕ) → bits_of_bytes bytes ≡ bits ++ rest → 1 ≤ length bits → n ≡ length bytes - length rest / 8 → RunCut bytes bits n
run_cut bytes bits rest n e some is =
    let long = bytes_long bytes in
    let sum : length bits + length rest ≡ length (bits_of_bytes bytes) = omega (arith, ap length e, length-append bits rest) in
    let early = n - 1 in
    let count : early + 1 + length rest / 8 ≡ length bytes = omega (arith, is, sum, long, some) in
    let low : early < length bytes = omega (arith, count) in
    let x = bits_of_bytes (take early bytes) in
    let y = bits_of 8 (get_or bytes early 0) in
    let z = bits_of_bytes (drop (early + 1) bytes) in
    let all : bits ++ rest ≡ x ++ (y ++ z) = sym e ∙ bytes_cut bytes early low in
    let eight = length-bits_of 8 (get_or bytes early 0) in
    let x_long = bytes_long (take early bytes) in
    let x_count = length-take-le early bytes (omega (arith, low)) in
    let t = length bits - length x in
    let behind : length x + 1 ≤ length bits = omega (arith, sum, long, x_long, x_count, count, some) in
    let few : length bits ≤ length x + 8 = omega (arith, sum, long, x_long, x_count, count) in
    let same : length bits ≡ length x + t = omega (arith, behind) in
    let cut : bits ≡ x ++ take t y =
    sym (take-append_seam bits rest) ∙ ap (take (length bits)) all ∙ ap (λ n. take n (x ++ (y ++ z))) same ∙ take-append-add x (y ++ z) t ∙ ap (λ l. x ++ l) (take-append-le t y z (omega (arith, few, eight, behind))) in
    record {
      early = early;
      count = omega (arith, is, sum, long, some);
      within = low;
      front = take t y;
      rest = drop t y;
      cut = cut;
      byte = sym (take-append-drop t y);
      some = (let size = length-take-le t y (omega (arith, few, eight, behind)) in omega (arith, size, behind));
    }

-- BYTES THAT FOLLOW others

-- bytes were passed, and more are there
pub record HasRun (M : Type 0) (k : Kind M) (m : M) (now : Picture) (bytes : List ℕ) (new : M) (after : Picture) (rest : List ℕ) : Type 0 where
  pub done : List ℕ
  pub cut : bytes ≡ done ++ rest
  pub chain : Chain k m now (bits_of_bytes done) new after
  pub some : 1 ≤ length rest
  pub left : 1 ≤ k.left new
  pub interval : Interval
  pub bits : List Bool
  pub standing : k.stands new interval bits after

-- A CHAIN TO AN ANSWER, split before its last byte

record AnswerCut (M : Type 0) (k : Kind M) (m : M) (now : Picture) (xs front : List Bool) (answer : Result UnitStep UnitFault) (new : M) (after : Picture) : Type 0 where
  pub mid : M
  pub between : Picture
  pub most : ℕ
  pub first : Chain k m now xs mid between
  pub second : ChainTo k most mid between front answer new after

-- those before the last one, after first ones that don't reach it
pub bits_before : (bits xs front before : List Bool) (bit : Bool) → bits ≡ before ++ bit ∷ [] → bits ≡ xs ++ front → 1 ≤ length front → (g : List Bool) × (before ≡ xs ++ g)
bits_before bits xs front before bit is cut some =
    let long = ap length is in
    let l1 = length-append before (bit ∷ []) in
    let l2 = ap length cut in
    let l3 = length-append xs front in
    let within : length xs ≤ length before = omega (arith, long, l1, l2, l3, some) in
    let g = drop (length xs) before in
    let begins : take (length xs) before ≡ xs =
    sym (take-append-le (length xs) before (bit ∷ []) within) ∙ ap (take (length xs)) (sym is ∙ cut) ∙ take-append_seam xs front in
    (g, sym (take-append-drop (length xs) before) ∙ ap (λ l. l ++ g) begins)

module _ {M : Type 0} (k : Kind M) (m new : M) (now after : Picture) where
  answer_cut : (most : ℕ) (bits xs front : List Bool) (answer : Result UnitStep UnitFault) → bits ≡ xs ++ front → 1 ≤ length front
      → ChainTo k most m now bits answer new after → AnswerCut M k m now xs front answer new after
  answer_cut most bits xs front answer cut some (before, bit, last, there, is, chain, few, ends) =
      let split = bits_before bits xs front before bit is cut some in
      let g = split.0 in
      let parts = split.1 in
      let front_is : front ≡ g ++ bit ∷ [] = append_cancel_left xs front (g ++ bit ∷ []) (sym cut ∙ is ∙ ap (λ l. l ++ bit ∷ []) parts ∙ append_assoc xs g (bit ∷ [])) in
      let C : List Bool → Type 0 = λ l. Chain k m now l last there in
      let c = chain_cut k m last now there xs g (subst C parts chain) in
      record {
        mid = c.mid;
        between = c.between;
        most = k.left c.mid + 1;
        first = c.first;
        second = (g, bit, last, there, front_is, c.second, omega arith, ends);
      }

  -- THE RESULT OF THE BITS OF ALL THE BYTES

  -- where some may wait: these are those of the last byte after the bits that were taken
  run_part : (bytes : List ℕ) (bits rest waiting : List Bool) (n : ℕ) → bits_of_bytes bytes ≡ bits ++ rest → 1 ≤ length bits
      → n ≡ length bytes - length rest / 8 → waiting ≡ drop (length bits - 8 * (n - 1)) (bits_of 8 (get_or bytes (n - 1) 0)) → Chain k m now bits new after
      → GivesRun M k m now bytes n taken.Units waiting new after
  run_part bytes bits rest waiting n cut some count waits chain =
      let c = run_cut bytes bits rest n cut some count in
      let C : List Bool → Type 0 = λ z. Chain k m now z new after in
      let two = chain_cut k m new now after (bits_of_bytes (take c.early bytes)) c.front (subst C c.cut chain) in
      let long : length bits ≡ 8 * c.early + length c.front = omega (arith, ap length c.cut, length-append (bits_of_bytes (take c.early bytes)) c.front, bytes_long (take c.early bytes), length-take-le c.early bytes (omega (arith, c.within))) in
      let early : n - 1 ≡ c.early = omega (arith, c.count) in
      let byte = get_or bytes c.early 0 in
      let size : length bits - 8 * (n - 1) ≡ length c.front = omega (arith, long, early) in
      let is : waiting ≡ c.rest =
      waits ∙ ap (λ e. drop (length bits - 8 * (n - 1)) (bits_of 8 (get_or bytes e 0))) early ∙ ap (λ z. drop z (bits_of 8 byte)) size ∙ ap (drop (length c.front)) c.byte ∙ drop-append_seam c.front c.rest in
      record {
        mid = two.mid;
        between = two.between;
        early = c.early;
        count = c.count;
        within = c.within;
        chain = two.first;
        last = (c.front, c.byte ∙ ap (λ z. c.front ++ z) (sym is), two.second);
      }

  -- all of them are taken
  run_more : (most : ℕ) (bytes : List ℕ) (rest : List Bool) (n : ℕ) → 1 ≤ length bytes → n ≡ length bytes - length rest / 8
      → TakesBits k most m now (bits_of_bytes bytes) taken.More new after rest → GivesRun M k m now bytes n taken.More [] new after
  run_more most bytes rest n some count (bits, cut, (chain, few, none)) =
      let no_rest : length rest ≡ 0 = ap length none in
      let long : length bits ≡ 8 * length bytes = omega (arith, ap length cut, length-append bits rest, bytes_long bytes, no_rest) in
      let eight = length-bits_of 8 (get_or bytes (n - 1) 0) in
      let g = run_part bytes bits rest [] n cut (omega (arith, long, some)) count (sym (dropped _ (length bits - 8 * (n - 1)) (omega (arith, long, count, no_rest, some, eight)))) chain in
      record { mid = g.mid; between = g.between; early = g.early; count = g.count; within = g.within; chain = g.chain; last = (refl, whole g.mid g.between g.last) }
    where
      dropped : (xs : List Bool) (i : ℕ) → length xs ≤ i → drop i xs ≡ []
      dropped xs i h = append_cancel_left xs (drop i xs) [] (ap (λ l. l ++ drop i xs) (sym (take_all i xs h)) ∙ take-append-drop i xs ∙ sym (append-nil xs))

      whole : (mid : M) (between : Picture) {z : List Bool} → GivesBits k mid between z taken.Units [] new after → Chain k mid between z new after
      whole mid between (front, cut, chain) = (let C : List Bool → Type 0 = λ l. Chain k mid between l new after in subst C (sym (cut ∙ append-nil front)) chain)

  run_ends : (most : ℕ) (bytes : List ℕ) (bits rest : List Bool) (n : ℕ) (answer : Result UnitStep UnitFault) (came : Taken)
      → ((mid : M) (between : Picture) (z : List Bool) → AnswersIn k mid between z answer new after → GivesBits k mid between z came [] new after)
      → n ≡ length bytes - length rest / 8 → bits_of_bytes bytes ≡ bits ++ rest → ChainTo k most m now bits answer new after
      → GivesRun M k m now bytes n came [] new after
  run_ends most bytes bits rest n answer came turn count cut chain =
      let c = run_cut bytes bits rest n cut (some_taken k most m new now after bits answer chain) count in
      let a = answer_cut most bits (bits_of_bytes (take c.early bytes)) c.front answer c.cut c.some chain in
      record {
        mid = a.mid;
        between = a.between;
        early = c.early;
        count = c.count;
        within = c.within;
        chain = a.first;
        last = turn a.mid a.between (bits_of 8 (get_or bytes c.early 0)) (a.most, c.front, c.rest, c.byte, a.second);
      }

  -- where all units that are left were asked for
  pub run_all : (most : ℕ) (bytes : List ℕ) (rest : List Bool) (n : ℕ) (answer : Taken) → 1 ≤ length bytes → (answer ≡ taken.Units → most ≡ k.left m)
      → n ≡ length bytes - length rest / 8 → TakesBits k most m now (bits_of_bytes bytes) answer new after rest → GivesRun M k m now bytes n answer [] new after
  run_all most bytes rest n taken.More some all count t = run_more most bytes rest n some count t
  run_all most bytes rest n taken.Units some all count (bits, cut, (chain, many, more)) = absurd (omega (arith, all refl, many, more))
  run_all most bytes rest n taken.IntervalDone some all count (bits, cut, chain) =
      run_ends most bytes bits rest n (Ok step.IntervalDone) taken.IntervalDone (λ mid between z a. (refl, a)) count cut chain
  run_all most bytes rest n (taken.Fault f) some all count (bits, cut, chain) =
      run_ends most bytes bits rest n (Err f) (taken.Fault f) (λ mid between z a. (refl, a)) count cut chain

  pub run_given : (most : ℕ) (bytes : List ℕ) (count n : ℕ) (last : List Bool) (answer : Taken) → 1 ≤ length bytes → count ≤ 8 * length bytes
      → n ≡ length bytes - length (drop count (bits_of_bytes bytes)) / 8 → last ≡ drop (count - 8 * (n - 1)) (bits_of 8 (get_or bytes (n - 1) 0))
      → TakesBits k most m now (bits_of_bytes bytes) answer new after (drop count (bits_of_bytes bytes))
      → GivesRun M k m now bytes n answer (waits_of answer last) new after
  run_given most bytes count n last taken.Units some within given is (bits, cut, (chain, many, more)) =
      let rest = drop count (bits_of_bytes bytes) in
      let long : length bits ≡ count = omega (arith, within, length-drop count (bits_of_bytes bytes), bytes_long bytes, ap length cut, length-append bits rest) in
      run_part bytes bits rest last n cut (some_taken k most m new now after bits (Ok step.More) chain) given (is ∙ ap (λ z. drop (z - 8 * (n - 1)) (bits_of 8 (get_or bytes (n - 1) 0))) (sym long))
      (chain_all k m now most new after bits chain)
  run_given most bytes count n last other some within given is t = run_all most bytes _ n other some (λ e. absurd cc) given t

  -- AFTER BYTES that were passed before

  pub run_after : (mid : M) (between : Picture) (bytes rest : List ℕ) (n most given : ℕ) (answer : Taken) → HasRun M k m now bytes mid between rest
      → GivesRun M k mid between (take most rest) n answer [] new after → given ≡ length bytes - length rest + n
      → GivesRun M k m now bytes given answer [] new after
  run_after mid between bytes rest n most given answer h g count =
      let d = length h.done in
      let all = ap length h.cut in
      let long = length-append h.done rest in
      let l = length-take most rest in
      let low : g.early < length rest = omega (arith, g.within, l) in
      let e : take (d + g.early) bytes ≡ h.done ++ take g.early rest = ap (take (d + g.early)) h.cut ∙ take-append-add h.done rest g.early in
      let b : bits_of_bytes (take (d + g.early) bytes) ≡ bits_of_bytes h.done ++ bits_of_bytes (take g.early (take most rest)) = ap bits_of_bytes e ∙ bits_join h.done (take g.early rest) ∙ ap (λ l. bits_of_bytes h.done ++ bits_of_bytes l) (sym (take-take g.early most rest (omega (arith, g.within, l)))) in
      let at : get_or (take most rest) g.early 0 ≡ get_or bytes (d + g.early) 0 = get_or-take most rest g.early 0 (omega (arith, g.within, l)) ∙ sym (get_or-append-add h.done rest g.early 0) ∙ ap (λ l. get_or l (d + g.early) 0) (sym h.cut) in
      let C : List Bool → Type 0 = λ l. Chain k m now l g.mid g.between in
      record {
        mid = g.mid;
        between = g.between;
        early = d + g.early;
        count = omega (arith, count, g.count, all, long);
        within = omega (arith, low, all, long);
        chain = subst C (sym b) (chain_then k m mid g.mid now between g.between (bits_of_bytes h.done) (bits_of_bytes (take g.early (take most rest))) h.chain g.chain);
        last = subst (λ (x : ℕ). GivesBits k g.mid g.between (bits_of 8 x) answer [] new after) at g.last;
      }

  pub run_on : (mid : M) (between : Picture) (bytes rest : List ℕ) (left : List Bool) → HasRun M k m now bytes mid between rest → 8 < length rest
      → TakesBits k (k.left mid) mid between (bits_of_bytes (take 8 rest)) taken.More new after left → HasRun M k m now bytes new after (drop 8 rest)
  run_on mid between bytes rest left h more (bits, cut, (chain, few, none)) =
      let all : bits ≡ bits_of_bytes (take 8 rest) = sym (append-nil bits) ∙ ap (λ l. bits ++ l) (sym none) ∙ sym cut in
      let C : List Bool → Type 0 = λ l. Chain k mid between l new after in
      let D : List Bool → Type 0 = λ l. Chain k m now l new after in
      let c = subst C all chain in
      record {
        done = h.done ++ take 8 rest;
        cut = h.cut ∙ ap (λ l. h.done ++ l) (sym (take-append-drop 8 rest)) ∙ sym (append_assoc h.done (take 8 rest) (drop 8 rest));
        chain = subst D (sym (bits_join h.done (take 8 rest))) (chain_then k m mid new now between after (bits_of_bytes h.done) (bits_of_bytes (take 8 rest)) h.chain c);
        some = omega (arith, more, length-drop 8 rest);
        left = omega (arith, few);
        interval = h.interval;
        bits = h.bits ++ bits_of_bytes (take 8 rest);
        standing = chain_stands k mid new between after h.interval h.bits (bits_of_bytes (take 8 rest)) c h.standing;
      }

-- ONE BYTE
pub one_given : {M : Type 0} (k : Kind M) (m new : M) (now after : Picture) (byte n : ℕ) (answer : Taken) (waiting : List Bool) → GivesRun M k m now (byte ∷ []) n answer waiting new after
    → (n ≡ 1) × GivesBits k m now (bits_of 8 byte) answer waiting new after
one_given k m new now after byte n answer waiting g =
    let none : g.early ≡ 0 = omega (arith, g.within) in
    let (same, still) = subst (λ e. Chain k m now (bits_of_bytes (take e (byte ∷ []))) g.mid g.between) none g.chain in
    let last = subst (λ e. GivesBits k g.mid g.between (bits_of 8 (get_or (byte ∷ []) e 0)) answer waiting new after) none g.last in (
      omega (arith, g.count, none),
      subst (λ q. GivesBits k q now (bits_of 8 byte) answer waiting new after) same (subst (λ (q : Picture). GivesBits k g.mid q (bits_of 8 byte) answer waiting new after) still last),
    )
