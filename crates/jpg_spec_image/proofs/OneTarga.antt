-- The bytes of a Targa file have one image, or one first fault.
use Rattle.std.proofs.Common.{◌≡◌, ℕ, ◌≤◌, List, length, take, sym, ◌∙◌, subst, arith, inl, inr}
use Rattle.std.specs.Prelude.{◌⊎◌}
use Rattle.std.proofs.lemmas.List.{take_all}
use Rattle.jpg_spec.specs.Laws.{AtMostOneFault}
use Rattle.jpg_spec_image.specs.Images.{Image}
use Rattle.jpg_spec_image.specs.TargaFaults.{IsWholeTarga, TargaMeans, ShowsTargaFault, IsOpenTarga, IsTargaFault}
use Rattle.jpg_spec_image.specs.TargaSteps.{TargaState, whole, failed, past, at_start, run}
use Rattle.jpg_spec_image.specs.TargaReading.{RepresentsTarga, IsAnswered}
use Rattle.jpg_spec_image.specs.TargaLaws.{HasTarga, HasTargaFault}
use Rattle.jpg_spec_image.proofs.TargaRuns.{whole_run, shows_run}
use Rattle.jpg_spec_image.proofs.TargaStands.{stands}
use Rattle.jpg_spec_image.proofs.TargaJudged.{IsLive, one_stop, whole_stops, fault_stops, same_fault, same_image, fault_no_image, is_least, short_at}
use Rattle.jpg_spec.specs.declared.fault.Fault.{Fault}
use Rattle.jpg_spec.specs.declared.fault.Fault.TheVariants.{ImageShort}
use Rattle.jpg_spec_image.proofs.OneImage.{same_front}

pub one_image : (bytes : List ℕ) (x y : Image) → TargaMeans bytes x → TargaMeans bytes y → x ≡ y
one_image bytes x y (n, h, a) (m, k, b) =
    let e = one_stop bytes n m h k (whole_stops (take n bytes) x a) (whole_stops (take m bytes) y b) in
    let c = same_front bytes n m (λ front. IsWholeTarga front x) e a in
    same_image x y (sym (whole_run (take m bytes) x c) ∙ whole_run (take m bytes) y b)

pub one_fault : (bytes : List ℕ) → AtMostOneFault (IsTargaFault bytes)
one_fault bytes f g m n (inl a) (inl b) =
    let e = one_stop bytes m n a.0 b.0 (fault_stops (take m bytes) f a.1) (fault_stops (take n bytes) g b.1) in
    let c = same_front bytes m n (λ front. ShowsTargaFault f front) e a.1 in
    (same_fault f g (sym (shows_run f (take n bytes) c) ∙ shows_run g (take n bytes) b.1), e)
one_fault bytes f g m n (inl a) (inr (e, at, q)) = absurd ((q m a.0).0 f a.1)
one_fault bytes f g m n (inr (e, at, q)) (inl b) = absurd ((q n b.0).0 g b.1)
one_fault bytes f g m n (inr (e, at, q)) (inr (e', at', q')) = (e ∙ sym e', at ∙ sym at')

pub never_both : (bytes : List ℕ) (x : Image) (f : Fault) (n : ℕ) → TargaMeans bytes x → IsTargaFault bytes f n → ⊥
never_both bytes x f n (m, h, w) (inl a) =
    let e = one_stop bytes m n h a.0 (whole_stops (take m bytes) x w) (fault_stops (take n bytes) f a.1) in
    let c = same_front bytes m n (λ front. IsWholeTarga front x) e w in
    fault_no_image (run at_start (take n bytes)) f x (shows_run f (take n bytes) a.1) (whole_run (take n bytes) x c)
never_both bytes x f n (m, h, w) (inr (e, at, q)) = (q m h).1 x w

-- ONE OR THE OTHER

answered : (bytes : List ℕ) (n : ℕ) → n ≤ length bytes → IsAnswered (take n bytes) → HasTarga bytes ⊎ HasTargaFault bytes
answered bytes n h (inl (image, w)) = inl (image, (n, h, w))
answered bytes n h (inr (fault, s)) = inr (fault, n, inl (is_least bytes fault n h s))

all_of_them : (bytes : List ℕ) → IsAnswered bytes → IsAnswered (take (length bytes) bytes)
all_of_them bytes a = let same : length bytes ≤ length bytes = omega arith in subst IsAnswered (sym (take_all (length bytes) bytes same)) a

state_told : (bytes : List ℕ) (s : TargaState) → RepresentsTarga bytes s → (IsLive s → HasTarga bytes ⊎ HasTargaFault bytes) → HasTarga bytes ⊎ HasTargaFault bytes
state_told bytes (whole image) t live = answered bytes (length bytes) (omega arith) (all_of_them bytes (inl (image, t)))
state_told bytes (failed fault) t live = answered bytes (length bytes) (omega arith) (all_of_them bytes (inr (fault, t)))
state_told bytes past (n, less, a) live = answered bytes n (omega (arith, less)) a
state_told bytes s t live = live tt

pub one_of_two : (bytes : List ℕ) → HasTarga bytes ⊎ HasTargaFault bytes
one_of_two bytes = state_told bytes (run at_start bytes) (stands bytes) (λ l. inr (ImageShort, length bytes, short_at bytes l))

answer_clash : (bytes : List ℕ) (n : ℕ) → n ≤ length bytes → IsAnswered (take n bytes) → IsOpenTarga bytes → ⊥
answer_clash bytes n h (inl (image, w)) q = (q n h).1 image w
answer_clash bytes n h (inr (fault, s)) q = (q n h).0 fault s

-- of bytes without an image or a fault the state is live
pub open_live : (bytes : List ℕ) (s : TargaState) → RepresentsTarga bytes s → IsOpenTarga bytes → IsLive s
open_live bytes (whole image) t q = answer_clash bytes (length bytes) (omega arith) (all_of_them bytes (inl (image, t))) q
open_live bytes (failed fault) t q = answer_clash bytes (length bytes) (omega arith) (all_of_them bytes (inr (fault, t))) q
open_live bytes past (n, less, a) q = answer_clash bytes n (omega (arith, less)) a q
open_live bytes s t q = tt
