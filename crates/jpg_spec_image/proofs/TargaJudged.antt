-- Reading the bytes of a Targa file gives the image, or their first fault.
use Rattle.std.proofs.Common.{◌≡◌, ℕ, ◌<◌, ◌≤◌, List, [], ◌∷◌, length, take, drop, refl, sym, ap, ◌∙◌, subst, arith, inl, inr, ⊎_elim}
use Rattle.std.proofs.lemmas.Bool.{cases_lt}
use Rattle.std.proofs.lemmas.List.{take-append-drop, length-take-le, length-drop, take_all}
use Rattle.jpg_spec.specs.Faults.{number_of}
use Rattle.jpg_spec.specs.Markers.{IsLeast}
use Rattle.jpg_spec.proofs.Basics.Common.{take_shorter}
use Rattle.jpg_spec_image.specs.Images.{Image}
use Rattle.jpg_spec_image.specs.TargaFaults.{IsWholeTarga, TargaMeans, ShowsTargaFault, IsOpenTarga, IsTargaFault}
use Rattle.jpg_spec_image.specs.TargaSteps.{TargaState, whole, failed, past, at_start, step, run}
use Rattle.jpg_spec_image.specs.TargaReading.{RepresentsTarga}
use Rattle.jpg_spec_image.proofs.TargaRuns.{run_join, whole_run, shows_run}
use Rattle.jpg_spec_image.proofs.TargaStands.{stands}
use Rattle.jpg_spec.specs.declared.fault.Fault.{Fault}
use Rattle.jpg_spec.specs.declared.fault.Fault.TheVariants.{ImageShort}

-- AFTER AN ANSWER

pub data IsStop : TargaState → Type 0 where
  at_image : (image : Image) → IsStop (whole image)
  at_fault : (fault : Fault) → IsStop (failed fault)

stop_step : (s : TargaState) (b : ℕ) → IsStop s → step s b ≡ past
stop_step s b (at_image image) = refl
stop_step s b (at_fault fault) = refl

past_run : (bytes : List ℕ) → run past bytes ≡ past
unfolding run
past_run [] = refl
past_run (b ∷ bytes) = past_run bytes

after_stop : (s : TargaState) (bytes : List ℕ) → IsStop s → 1 ≤ length bytes → run s bytes ≡ past
unfolding run
after_stop s [] i h = absurd (omega (arith, h))
after_stop s (b ∷ bytes) i h = ap (λ x. run x bytes) (stop_step s b i) ∙ past_run bytes

-- bytes after a prefix that is complete or has a fault
past_stop : (bytes : List ℕ) (n m : ℕ) → n < m → m ≤ length bytes → IsStop (run at_start (take n bytes)) → run at_start (take m bytes) ≡ past
past_stop bytes n m h l i =
    let front : take n (take m bytes) ≡ take n bytes = take_shorter n m bytes (omega (arith, h)) in
    let long = length-take-le m bytes l in
    let left = length-drop n (take m bytes) in
    ap (run at_start) (sym (take-append-drop n (take m bytes)))
    ∙ run_join at_start (take n (take m bytes)) (drop n (take m bytes))
    ∙ ap (λ x. run (run at_start x) (drop n (take m bytes))) front
    ∙ after_stop (run at_start (take n bytes)) (drop n (take m bytes)) i (omega (arith, long, left, h))

stop_of : (s t : TargaState) → s ≡ t → IsStop t → IsStop s
stop_of s t e i = subst IsStop (sym e) i

no_past : (s : TargaState) → IsStop s → s ≡ past → ⊥
no_past s (at_image image) e = cc
no_past s (at_fault fault) e = cc

-- two prefixes that stop are one
pub one_stop : (bytes : List ℕ) (n m : ℕ) → n ≤ length bytes → m ≤ length bytes → IsStop (run at_start (take n bytes)) → IsStop (run at_start (take m bytes)) → n ≡ m
one_stop bytes n m hn hm i j =
    ⊎_elim
    (λ (a : n < m). absurd (no_past (run at_start (take m bytes)) j (past_stop bytes n m a hm i)))
    (λ (a : m ≤ n). ⊎_elim
    (λ (b : m < n). absurd (no_past (run at_start (take n bytes)) i (past_stop bytes m n b hn j)))
    (λ (b : n ≤ m). (let e : n ≡ m = omega (arith, a, b) in e))
    (cases_lt m n))
    (cases_lt n m)

pub whole_stops : (bytes : List ℕ) (image : Image) → IsWholeTarga bytes image → IsStop (run at_start bytes)
whole_stops bytes image w = stop_of (run at_start bytes) (whole image) (whole_run bytes image w) (at_image image)

pub fault_stops : (bytes : List ℕ) (fault : Fault) → ShowsTargaFault fault bytes → IsStop (run at_start bytes)
fault_stops bytes fault s = stop_of (run at_start bytes) (failed fault) (shows_run fault bytes s) (at_fault fault)

pub same_fault : (f g : Fault) → failed f ≡ failed g → f ≡ g
same_fault f g e = cc

pub same_image : (x y : Image) → whole x ≡ whole y → x ≡ y
same_image x y e = cc

pub fault_no_image : (s : TargaState) (f : Fault) (x : Image) → s ≡ failed f → s ≡ whole x → ⊥
fault_no_image s f x e g = let h : failed f ≡ whole x = sym e ∙ g in cc

-- THE SHORTEST PREFIX

pub is_least : (bytes : List ℕ) (fault : Fault) (n : ℕ) → n ≤ length bytes → ShowsTargaFault fault (take n bytes) → IsLeast ShowsTargaFault bytes fault n
is_least bytes fault n h s =
    let i = fault_stops (take n bytes) fault s in (
      h,
      s,
      (λ other m less shown. (let e = one_stop bytes m n (omega (arith, h, less)) h (fault_stops (take m bytes) other shown) i in omega (arith, less, e))),
      (λ other less shown. (let e : other ≡ fault = same_fault other fault (sym (shows_run other (take n bytes) shown) ∙ shows_run fault (take n bytes) s) in
          let f : number_of other ≡ number_of fault = ap number_of e in
          omega (arith, less, f))),
    )

-- no byte completed the image or revealed a fault
abbrev pub IsLive : TargaState → Type 0
IsLive (whole image) = ⊥
IsLive (failed fault) = ⊥
IsLive past = ⊥
IsLive s = Unit {0}

live_no_stop : (s : TargaState) → IsLive s → IsStop s → ⊥
live_no_stop s l (at_image image) = l
live_no_stop s l (at_fault fault) = l

live_no_past : (s : TargaState) → IsLive s → s ≡ past → ⊥
live_no_past s l e = subst IsLive e l

no_front_stops : (bytes : List ℕ) (n : ℕ) → IsLive (run at_start bytes) → n ≤ length bytes → IsStop (run at_start (take n bytes)) → ⊥
no_front_stops bytes n l h i =
    let all : take (length bytes) bytes ≡ bytes = take_all (length bytes) bytes (omega arith) in
    ⊎_elim
    (λ (a : n < length bytes). live_no_past (run at_start bytes) l (ap (run at_start) (sym all) ∙ past_stop bytes n (length bytes) a (omega arith) i))
    (λ (a : length bytes ≤ n). (let e : n ≡ length bytes = omega (arith, a, h) in
    live_no_stop (run at_start bytes) l (subst (λ x. IsStop (run at_start x)) (ap (λ k. take k bytes) e ∙ all) i)))
    (cases_lt n (length bytes))

pub live_open : (bytes : List ℕ) → IsLive (run at_start bytes) → IsOpenTarga bytes
live_open bytes l = λ n h. (
  (λ fault s. no_front_stops bytes n l h (fault_stops (take n bytes) fault s)),
  (λ image w. no_front_stops bytes n l h (whole_stops (take n bytes) image w)),
)

-- THE ANSWERS, by the result of the bytes

pub targa_at : (bytes : List ℕ) (n : ℕ) (image : Image) → n ≤ length bytes → run at_start (take n bytes) ≡ whole image → TargaMeans bytes image
targa_at bytes n image h e = (n, h, subst (RepresentsTarga (take n bytes)) e (stands (take n bytes)))

pub fault_at : (bytes : List ℕ) (n : ℕ) (fault : Fault) → n ≤ length bytes → run at_start (take n bytes) ≡ failed fault → IsTargaFault bytes fault n
fault_at bytes n fault h e = inl (is_least bytes fault n h (subst (RepresentsTarga (take n bytes)) e (stands (take n bytes))))

pub short_at : (bytes : List ℕ) → IsLive (run at_start bytes) → IsTargaFault bytes ImageShort (length bytes)
short_at bytes l = inr (refl, refl, live_open bytes l)
