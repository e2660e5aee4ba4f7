-- Reading the bytes of an image gives the image, or their first fault.
use Rattle.std.proofs.Common.{◌≡◌, ℕ, ◌<◌, ◌≤◌, Bool, true, false, cond, not, ◌&&◌, List, [], ◌∷◌, ◌++◌, length, take, drop, refl, sym, ap, ◌∙◌, subst, arith, inl, inr, ⊎_elim, Option, None, Some, Ok, Err}
use Rattle.std.specs.Prelude.{Result}
use Rattle.std.proofs.lemmas.Bool.{cases_lt}
use Rattle.std.proofs.lemmas.List.{take-append-drop, length-take-le, length-drop, take_all}
use Rattle.jpg_spec.specs.Faults.{number_of}
use Rattle.jpg_spec.specs.Markers.{IsLeast}
use Rattle.jpg_spec.specs.NumberTexts.{number_text}
use Rattle.jpg_spec.proofs.Basics.Common.{both, take_shorter}
use Rattle.jpg_spec_image.specs.Images.{Image}
use Rattle.jpg_spec_image.specs.PnmText.{is_plain, is_number_due, number_fault, greatest_sample, AfterNumber}
use Rattle.jpg_spec_image.specs.ImageFaults.{IsWholeImage, ShowsImageFault, EndShows, EndIsWhole, IsOpenImage, IsImage, IsEndFault, IsImageFault}
use Rattle.jpg_spec_image.specs.ImageSteps.{ImageState, at_start, in_number, whole, failed, past, capped, plain_image, step, run, state_end, ended_by}
use Rattle.jpg_spec_image.specs.ImageReading.{RepresentsImage}
use Rattle.jpg_spec_image.proofs.ImageRuns.{run_join, capped_fault, right_small}
use Rattle.jpg_spec_image.proofs.ImageTextRuns.{greatest_byte, number_run}
use Rattle.jpg_spec_image.proofs.ImageBodyRuns.{whole_run, shows_run}
use Rattle.jpg_spec_image.proofs.ImageStands.{stands}
use Rattle.jpg_spec.specs.declared.fault.Fault.{Fault}
use Rattle.jpg_spec.specs.declared.fault.Fault.TheVariants.{ImageShort, InputTooLong}
use Rattle.jpg_spec.specs.declared.frame.Limits.{Limits}

-- AFTER AN ANSWER

pub data IsStop : ImageState → Type 0 where
  at_image : (image : Image) → IsStop (whole image)
  at_fault : (fault : Fault) → IsStop (failed fault)

stop_step : (s : ImageState) (b : ℕ) → IsStop s → step s b ≡ past
stop_step s b (at_image image) = refl
stop_step s b (at_fault fault) = refl

past_run : (bytes : List ℕ) → run past bytes ≡ past
unfolding run
past_run [] = refl
past_run (b ∷ bytes) = past_run bytes

after_stop : (s : ImageState) (bytes : List ℕ) → IsStop s → 1 ≤ length bytes → run s bytes ≡ past
unfolding run
after_stop s [] i h = absurd (omega (arith, h))
after_stop s (b ∷ bytes) i h = ap (λ x. run x bytes) (stop_step s b i) ∙ past_run bytes

-- bytes after a prefix that is complete or has a fault
pub past_stop : (bytes : List ℕ) (n m : ℕ) → n < m → m ≤ length bytes → IsStop (run at_start (take n bytes)) → run at_start (take m bytes) ≡ past
past_stop bytes n m h l i =
    let front : take n (take m bytes) ≡ take n bytes = take_shorter n m bytes (omega (arith, h)) in
    let long = length-take-le m bytes l in
    let left = length-drop n (take m bytes) in
    ap (run at_start) (sym (take-append-drop n (take m bytes)))
    ∙ run_join at_start (take n (take m bytes)) (drop n (take m bytes))
    ∙ ap (λ x. run (run at_start x) (drop n (take m bytes))) front
    ∙ after_stop (run at_start (take n bytes)) (drop n (take m bytes)) i (omega (arith, long, left, h))

stop_of : (s t : ImageState) → s ≡ t → IsStop t → IsStop s
stop_of s t e i = subst IsStop (sym e) i

no_past : (s : ImageState) → IsStop s → s ≡ past → ⊥
no_past s (at_image image) e = cc
no_past s (at_fault fault) e = cc

-- two prefixes that stop are one
pub one_stop : (bytes : List ℕ) (n m : ℕ) → n ≤ length bytes → m ≤ length bytes → IsStop (run at_start (take n bytes)) → IsStop (run at_start (take m bytes)) → n ≡ m
one_stop bytes n m hn hm i j =
    ⊎_elim
    (λ (a : n < m). absurd (no_past (run at_start (take m bytes)) j (past_stop bytes n m a hm i)))
    (λ (a : m ≤ n). ⊎_elim
    (λ (b : m < n). absurd (no_past (run at_start (take n bytes)) i (past_stop bytes m n b hn j)))
    (λ (b : n ≤ m). (let e : n ≡ m = omega (arith, a, b) in e))
    (cases_lt m n))
    (cases_lt n m)

pub whole_stops : (bytes : List ℕ) (image : Image) → IsWholeImage bytes image → IsStop (run at_start bytes)
whole_stops bytes image w = stop_of (run at_start bytes) (whole image) (whole_run bytes image w) (at_image image)

pub fault_stops : (bytes : List ℕ) (fault : Fault) → ShowsImageFault fault bytes → IsStop (run at_start bytes)
fault_stops bytes fault s = stop_of (run at_start bytes) (failed fault) (shows_run fault bytes s) (at_fault fault)

pub same_fault : (f g : Fault) → failed f ≡ failed g → f ≡ g
same_fault f g e = cc

pub same_image : (x y : Image) → whole x ≡ whole y → x ≡ y
same_image x y e = cc

pub fault_no_image : (s : ImageState) (f : Fault) (x : Image) → s ≡ failed f → s ≡ whole x → ⊥
fault_no_image s f x e g = let h : failed f ≡ whole x = sym e ∙ g in cc

-- THE SHORTEST PREFIX

pub is_least : (bytes : List ℕ) (fault : Fault) (n : ℕ) → n ≤ length bytes → ShowsImageFault fault (take n bytes) → IsLeast ShowsImageFault bytes fault n
is_least bytes fault n h s =
    let i = fault_stops (take n bytes) fault s in (
      h,
      s,
      (λ other m less shown. (let e = one_stop bytes m n (omega (arith, h, less)) h (fault_stops (take m bytes) other shown) i in omega (arith, less, e))),
      (λ other less shown. (let e : other ≡ fault = same_fault other fault (sym (shows_run other (take n bytes) shown) ∙ shows_run fault (take n bytes) s) in
          let f : number_of other ≡ number_of fault = ap number_of e in
          omega (arith, less, f))),
    )

-- no byte completed the image or revealed a fault
abbrev pub IsLive : ImageState → Type 0
IsLive (whole image) = ⊥
IsLive (failed fault) = ⊥
IsLive past = ⊥
IsLive s = Unit {0}

live_no_stop : (s : ImageState) → IsLive s → IsStop s → ⊥
live_no_stop s l (at_image image) = l
live_no_stop s l (at_fault fault) = l

live_no_past : (s : ImageState) → IsLive s → s ≡ past → ⊥
live_no_past s l e = subst IsLive e l

no_front_stops : (bytes : List ℕ) (n : ℕ) → IsLive (run at_start bytes) → n ≤ length bytes → IsStop (run at_start (take n bytes)) → ⊥
no_front_stops bytes n l h i =
    let all : take (length bytes) bytes ≡ bytes = take_all (length bytes) bytes (omega arith) in
    ⊎_elim
    (λ (a : n < length bytes). live_no_past (run at_start bytes) l (ap (run at_start) (sym all) ∙ past_stop bytes n (length bytes) a (omega arith) i))
    (λ (a : length bytes ≤ n). (let e : n ≡ length bytes = omega (arith, a, h) in
    live_no_stop (run at_start bytes) l (subst (λ x. IsStop (run at_start x)) (ap (λ k. take k bytes) e ∙ all) i)))
    (cases_lt n (length bytes))

pub live_shows_nothing : (bytes : List ℕ) → IsLive (run at_start bytes) → IsOpenImage bytes
live_shows_nothing bytes l = λ n h. (
  (λ fault s. no_front_stops bytes n l h (fault_stops (take n bytes) fault s)),
  (λ image w. no_front_stops bytes n l h (whole_stops (take n bytes) image w)),
)

-- WHERE THE BYTES END

pub end_number : (bytes : List ℕ) (format : ℕ) (numbers : List ℕ) (n : ℕ) → AfterNumber bytes format numbers n [] → run at_start bytes ≡ in_number format numbers (capped n)
unfolding run
end_number bytes format numbers n r = number_run bytes format numbers n [] r

pub end_byte : (bytes : List ℕ) (format : ℕ) (numbers : List ℕ) (n : ℕ) → AfterNumber bytes format numbers n [] → greatest_sample numbers ≤ 255
end_byte bytes format numbers n r = greatest_byte bytes format numbers (number_text r.word ++ []) r.before

-- a number at the end, and its result
pub record EndsIn (s : ImageState) (o : Option Fault) : Type 0 where
  pub format : ℕ
  pub numbers : List ℕ
  pub n : ℕ
  pub is : s ≡ in_number format numbers n
  pub fault : number_fault numbers n ≡ o

pub end_shows : (fault : Fault) (bytes : List ℕ) → EndShows fault bytes → EndsIn (run at_start bytes) (Some fault)
end_shows fault bytes (format, numbers, n, r, e) = record {
  format = format;
  numbers = numbers;
  n = capped n;
  is = end_number bytes format numbers n r;
  fault = capped_fault numbers n (end_byte bytes format numbers n r) ∙ e;
}

pub record EndsWhole (s : ImageState) (image : Image) : Type 0 where
  pub format : ℕ
  pub numbers : List ℕ
  pub n : ℕ
  pub is : s ≡ in_number format numbers n
  pub fault : number_fault numbers n ≡ None
  pub image_is : image ≡ plain_image format (numbers ++ n ∷ [])

pub end_whole : (bytes : List ℕ) (image : Image) → EndIsWhole bytes image → EndsWhole (run at_start bytes) image
end_whole bytes image (format, numbers, l, plain, e) =
    let byte = end_byte bytes format l.before l.last l.read in
    record {
      format = format;
      numbers = l.before;
      n = l.last;
      is = end_number bytes format l.before l.last l.read ∙ ap (in_number format l.before) (right_small l.before l.last byte l.right);
      fault = l.right;
      image_is = e ∙ ap (plain_image format) l.all;
    }

-- the answer at the end
abbrev pub EndAnswer : List ℕ → Result Image Fault → Type 0
EndAnswer bytes (Ok image) = EndIsWhole bytes image
EndAnswer bytes (Err fault) = IsEndFault bytes fault

number_of_standing : (s : ImageState) (format : ℕ) (numbers : List ℕ) (n : ℕ) (format' : ℕ) (numbers' : List ℕ) (n' : ℕ) → s ≡ in_number format numbers n → s ≡ in_number format' numbers' n' → (format ≡ format') × (numbers ≡ numbers') × (n ≡ n')
number_of_standing s format numbers n format' numbers' n' e f = let g : in_number format numbers n ≡ in_number format' numbers' n' = sym e ∙ f in (cc, cc, cc)

pub same_end : (s : ImageState) (f g : Option Fault) → EndsIn s f → EndsIn s g → f ≡ g
same_end s f g a b =
    let h = number_of_standing s a.format a.numbers a.n b.format b.numbers b.n a.is b.is in
    sym a.fault ∙ ap (λ x. number_fault x a.n) h.1 ∙ ap (number_fault b.numbers) h.2 ∙ b.fault

pub same_end_image : (s : ImageState) (x y : Image) → EndsWhole s x → EndsWhole s y → x ≡ y
same_end_image s x y a b =
    let h = number_of_standing s a.format a.numbers a.n b.format b.numbers b.n a.is b.is in
    a.image_is ∙ ap (λ k. plain_image k (a.numbers ++ a.n ∷ [])) h.0 ∙ ap (λ k. plain_image b.format (k ++ a.n ∷ [])) h.1 ∙ ap (λ k. plain_image b.format (b.numbers ++ k ∷ [])) h.2 ∙ sym b.image_is

pub whole_end : (s : ImageState) (x : Image) → EndsWhole s x → EndsIn s None
whole_end s x a = record { format = a.format; numbers = a.numbers; n = a.n; is = a.is; fault = a.fault }

pub whole_no_fault : (s : ImageState) (f : Fault) (x : Image) → EndsIn s (Some f) → EndsWhole s x → ⊥
whole_no_fault s f x a b = let e : Some f ≡ None = same_end s (Some f) None a (whole_end s x b) in cc

-- if there is no number at the end
short_end : (bytes : List ℕ) (s : ImageState) → run at_start bytes ≡ s → ((format : ℕ) (numbers : List ℕ) (n : ℕ) → s ≡ in_number format numbers n → ⊥) → IsEndFault bytes ImageShort
short_end bytes s e none =
    inr (
      refl,
      (λ other shown. (let a = end_shows other bytes shown in none a.format a.numbers a.n (sym e ∙ a.is))),
      (λ image w. (let a = end_whole bytes image w in none a.format a.numbers a.n (sym e ∙ a.is))),
    )

number_end : (bytes : List ℕ) (format : ℕ) (numbers : List ℕ) (m : ℕ) → AfterNumber bytes format numbers m [] → EndAnswer bytes (ended_by format numbers (capped m) (number_fault numbers (capped m)))
number_end bytes format numbers m r = by_fault (number_fault numbers m) refl (capped_fault numbers m byte)
  where
    byte : greatest_sample numbers ≤ 255
    byte = end_byte bytes format numbers m r

    at : run at_start bytes ≡ in_number format numbers (capped m)
    at = end_number bytes format numbers m r

    none : number_fault numbers m ≡ None → EndsIn (run at_start bytes) None
    none f = record { format = format; numbers = numbers; n = capped m; is = at; fault = capped_fault numbers m byte ∙ f }

    not_false : (v : Bool) → not v ≡ true → v ≡ false
    not_false true e = cc
    not_false false e = refl

    due_false : (u v : Bool) → (u && not v) ≡ false → u ≡ true → v ≡ true
    due_false true true e f = refl
    due_false true false e f = cc
    due_false false v e f = cc

    by_plain : (v : Bool) → (is_plain format && not (is_number_due format (numbers ++ m ∷ []))) ≡ v → number_fault numbers m ≡ None → EndAnswer bytes (cond v (Ok (plain_image format (numbers ++ m ∷ []))) (Err ImageShort))
    by_plain true p f =
        let s = both (is_plain format) (not (is_number_due format (numbers ++ m ∷ []))) p in
        (format, numbers ++ m ∷ [], record { before = numbers; last = m; all = refl; read = r; right = f; none_due = not_false (is_number_due format (numbers ++ m ∷ [])) s.1 }, s.0, refl)
    by_plain false p f =
        inr (
          refl,
          (λ other shown. (let e : Some other ≡ None = same_end (run at_start bytes) (Some other) None (end_shows other bytes shown) (none f) in let g : ⊥ = cc in g)),
          (λ image w. unfinished w),
        )
      where
        unfinished : {image : Image} → EndIsWhole bytes image → ⊥
        unfinished (format', numbers', l, plain, e) =
            let h = number_of_standing (run at_start bytes) format numbers (capped m) format' l.before (capped l.last) at (end_number bytes format' l.before l.last l.read) in
            let mm = right_small numbers m byte f in
            let ll = right_small l.before l.last (end_byte bytes format' l.before l.last l.read) l.right in
            let same_n : m ≡ l.last = sym mm ∙ h.2 ∙ ll in
            let pl : is_plain format ≡ true = ap is_plain h.0 ∙ plain in
            let d : is_number_due format (numbers ++ m ∷ []) ≡ true = due_false (is_plain format) (is_number_due format (numbers ++ m ∷ [])) p pl in
            let d' : is_number_due format (numbers ++ m ∷ []) ≡ false = ap (λ k. is_number_due k (numbers ++ m ∷ [])) h.0 ∙ ap (λ k. is_number_due format' (k ++ m ∷ [])) h.1 ∙ ap (λ k. is_number_due format' (l.before ++ k ∷ [])) same_n ∙ ap (is_number_due format') (sym l.all) ∙ l.none_due in
            clash (is_number_due format (numbers ++ m ∷ [])) d d'
          where
            clash : (v : Bool) → v ≡ true → v ≡ false → ⊥
            clash v a b = cc

    by_fault : (o : Option Fault) → number_fault numbers m ≡ o → number_fault numbers (capped m) ≡ number_fault numbers m → EndAnswer bytes (ended_by format numbers (capped m) (number_fault numbers (capped m)))
    by_fault (Some fault) e c = subst (λ x. EndAnswer bytes (ended_by format numbers (capped m) x)) (sym (c ∙ e)) (inl (format, numbers, m, r, e))
    by_fault None e c =
        subst (λ x. EndAnswer bytes (ended_by format numbers (capped m) x)) (sym (c ∙ e))
        (subst (λ k. EndAnswer bytes (ended_by format numbers k None)) (sym (right_small numbers m byte e)) (by_plain (is_plain format && not (is_number_due format (numbers ++ m ∷ []))) refl e))

end_by : (bytes : List ℕ) (s : ImageState) → run at_start bytes ≡ s → IsLive s → RepresentsImage bytes s → EndAnswer bytes (state_end s)
end_by bytes (in_number format numbers n) e l (m, r, c) = subst (λ k. EndAnswer bytes (state_end (in_number format numbers k))) (sym c) (number_end bytes format numbers m r)
end_by bytes (whole image) e l h = absurd l
end_by bytes (failed fault) e l h = absurd l
end_by bytes past e l h = absurd l
end_by bytes s e l h = short_end bytes s e (λ f n k g. cc)

pub end_told : (bytes : List ℕ) (s : ImageState) → run at_start bytes ≡ s → IsLive s → EndAnswer bytes (state_end s)
end_told bytes s e l = end_by bytes s e l (subst (RepresentsImage bytes) e (stands bytes))

-- THE ANSWERS, by the result of the bytes

pub image_at : (limits : Limits) (bytes : List ℕ) (n : ℕ) (image : Image) → n ≤ length bytes → n ≤ limits.input → run at_start (take n bytes) ≡ whole image → IsImage limits bytes image
image_at limits bytes n image h l e = inl (n, h, l, subst (RepresentsImage (take n bytes)) e (stands (take n bytes)))

pub fault_at : (limits : Limits) (bytes : List ℕ) (n : ℕ) (fault : Fault) → n ≤ length bytes → n ≤ limits.input → run at_start (take n bytes) ≡ failed fault → IsImageFault limits bytes fault n
fault_at limits bytes n fault h l e = inl (l, is_least bytes fault n h (subst (RepresentsImage (take n bytes)) e (stands (take n bytes))))

pub too_long_at : (limits : Limits) (bytes : List ℕ) → limits.input ≤ length bytes → IsLive (run at_start (take limits.input bytes)) → IsImageFault limits bytes InputTooLong limits.input
too_long_at limits bytes h l = inr (inl (refl, refl, h, live_shows_nothing (take limits.input bytes) l))

-- the image, or the fault and its place
abbrev pub Judges : Limits → List ℕ → Result Image Fault → Type 0
Judges limits bytes (Ok image) = IsImage limits bytes image
Judges limits bytes (Err fault) = IsImageFault limits bytes fault (length bytes)

pub end_judged : (limits : Limits) (bytes : List ℕ) (s : ImageState) → length bytes < limits.input → run at_start bytes ≡ s → IsLive s → Judges limits bytes (state_end s)
end_judged limits bytes s h e l = by (state_end s) (end_told bytes s e l) (live_shows_nothing bytes (subst IsLive (sym e) l))
  where
    by : (a : Result Image Fault) → EndAnswer bytes a → IsOpenImage bytes → Judges limits bytes a
    by (Ok image) w n = inr (h, n, w)
    by (Err fault) f n = inr (inr (refl, h, n, f))

pub end_image : (limits : Limits) (bytes : List ℕ) (image : Image) → length bytes < limits.input → (s : ImageState) → run at_start bytes ≡ s → IsLive s → state_end s ≡ Ok image → IsImage limits bytes image
end_image limits bytes image h s e l a = subst (Judges limits bytes) a (end_judged limits bytes s h e l)

pub end_fault : (limits : Limits) (bytes : List ℕ) (fault : Fault) → length bytes < limits.input → (s : ImageState) → run at_start bytes ≡ s → IsLive s → state_end s ≡ Err fault → IsImageFault limits bytes fault (length bytes)
end_fault limits bytes fault h s e l a = subst (Judges limits bytes) a (end_judged limits bytes s h e l)
