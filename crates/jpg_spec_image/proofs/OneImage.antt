-- Bytes have one image, or one first fault.
use Rattle.std.proofs.Common.{◌≡◌, ℕ, ◌<◌, ◌≤◌, List, ◌∷◌, ◌++◌, length, take, refl, sym, ap, ◌∙◌, subst, arith, inl, inr, ⊎_elim, Some, Ok, Err}
use Rattle.std.specs.Prelude.{◌⊎◌, Result}
use Rattle.std.proofs.lemmas.Bool.{cases_lt}
use Rattle.std.proofs.lemmas.List.{length-append, length-take-le, take_all}
use Rattle.std.proofs.Math.Seq.{take-append_seam}
use Rattle.jpg_spec.proofs.Basics.Common.{take_shorter}
use Rattle.jpg_spec_image.specs.Images.{Image}
use Rattle.jpg_spec_image.specs.ImageFaults.{IsWholeImage, ShowsImageFault, EndIsWhole, IsOpenImage, IsImage, IsEndFault, IsImageFault}
use Rattle.jpg_spec_image.specs.ImageSteps.{ImageState, at_start, whole, failed, past, run, state_end}
use Rattle.jpg_spec_image.specs.ImageReading.{RepresentsImage, IsPast}
use Rattle.jpg_spec_image.specs.ImageLaws.{HasImage, HasFault, ImageAnswer, to_image, to_fault, HasImageAnswer}
use Rattle.jpg_spec_image.proofs.ImageBodyRuns.{whole_run, shows_run}
use Rattle.jpg_spec_image.proofs.ImageStands.{stands}
use Rattle.jpg_spec_image.proofs.ImageJudged.{IsStop, IsLive, one_stop, whole_stops, fault_stops, same_fault, same_image, fault_no_image, is_least, end_shows, end_whole, same_end, same_end_image, whole_no_fault, end_judged, too_long_at, Judges}
use Rattle.jpg_spec.specs.declared.fault.Fault.{Fault}
use Rattle.jpg_spec.specs.declared.fault.Fault.TheVariants.{InputTooLong}
use Rattle.jpg_spec.specs.declared.frame.Limits.{Limits}

-- PREFIXES of the same bytes

pub same_front : (bytes : List ℕ) (n m : ℕ) (P : List ℕ → Type 0) → n ≡ m → P (take n bytes) → P (take m bytes)
same_front bytes n m P e p = subst (λ k. P (take k bytes)) e p

two_images : (bytes : List ℕ) (x y : Image) → IsWholeImage bytes x → IsWholeImage bytes y → x ≡ y
two_images bytes x y a b = same_image x y (sym (whole_run bytes x a) ∙ whole_run bytes y b)

two_faults : (bytes : List ℕ) (f g : Fault) → ShowsImageFault f bytes → ShowsImageFault g bytes → f ≡ g
two_faults bytes f g a b = same_fault f g (sym (shows_run f bytes a) ∙ shows_run g bytes b)

image_and_fault : (bytes : List ℕ) (x : Image) (f : Fault) → IsWholeImage bytes x → ShowsImageFault f bytes → ⊥
image_and_fault bytes x f a b = fault_no_image (run at_start bytes) f x (shows_run f bytes b) (whole_run bytes x a)

images_meet : (bytes : List ℕ) (n m : ℕ) (x y : Image) → n ≤ length bytes → m ≤ length bytes → IsWholeImage (take n bytes) x → IsWholeImage (take m bytes) y → n ≡ m
images_meet bytes n m x y h k a b = one_stop bytes n m h k (whole_stops (take n bytes) x a) (whole_stops (take m bytes) y b)

faults_meet : (bytes : List ℕ) (n m : ℕ) (f g : Fault) → n ≤ length bytes → m ≤ length bytes → ShowsImageFault f (take n bytes) → ShowsImageFault g (take m bytes) → n ≡ m
faults_meet bytes n m f g h k a b = one_stop bytes n m h k (fault_stops (take n bytes) f a) (fault_stops (take m bytes) g b)

image_meets_fault : (bytes : List ℕ) (n m : ℕ) (x : Image) (f : Fault) → n ≤ length bytes → m ≤ length bytes → IsWholeImage (take n bytes) x → ShowsImageFault f (take m bytes) → ⊥
image_meets_fault bytes n m x f h k a b =
    let e = one_stop bytes n m h k (whole_stops (take n bytes) x a) (fault_stops (take m bytes) f b) in
    image_and_fault (take m bytes) x f (same_front bytes n m (λ front. IsWholeImage front x) e a) b

-- if a prefix has no fault none of its prefixes does
quiet_image : (bytes : List ℕ) (limit n : ℕ) (x : Image) → IsOpenImage (take limit bytes) → n ≤ limit → n ≤ length (take limit bytes) → IsWholeImage (take n bytes) x → ⊥
quiet_image bytes limit n x q h l w = (q n l).1 x (subst (λ front. IsWholeImage front x) (sym (take_shorter n limit bytes h)) w)

quiet_fault : (bytes : List ℕ) (limit n : ℕ) (f : Fault) → IsOpenImage (take limit bytes) → n ≤ limit → n ≤ length (take limit bytes) → ShowsImageFault f (take n bytes) → ⊥
quiet_fault bytes limit n f q h l s = (q n l).0 f (subst (λ front. ShowsImageFault f front) (sym (take_shorter n limit bytes h)) s)

within : (bytes : List ℕ) (limit n : ℕ) → n ≤ limit → limit ≤ length bytes → n ≤ length (take limit bytes)
within bytes limit n h l = let e = length-take-le limit bytes l in omega (arith, e, h)

-- ONE IMAGE

pub one_image : (limits : Limits) (bytes : List ℕ) (x y : Image) → IsImage limits bytes x → IsImage limits bytes y → x ≡ y
one_image limits bytes x y (inl (n, h, l, a)) (inl (m, k, o, b)) =
    let e = images_meet bytes n m x y h k a b in
    two_images (take m bytes) x y (same_front bytes n m (λ front. IsWholeImage front x) e a) b
one_image limits bytes x y (inl (n, h, l, a)) (inr (short, q, w)) = absurd ((q n h).1 x a)
one_image limits bytes x y (inr (short, q, w)) (inl (m, k, o, b)) = absurd ((q m k).1 y b)
one_image limits bytes x y (inr (short, q, w)) (inr (short', q', v)) = same_end_image (run at_start bytes) x y (end_whole bytes x w) (end_whole bytes y v)

-- NEVER BOTH

end_clash : (bytes : List ℕ) (x : Image) (f : Fault) → EndIsWhole bytes x → IsEndFault bytes f → ⊥
end_clash bytes x f w (inl s) = whole_no_fault (run at_start bytes) f x (end_shows f bytes s) (end_whole bytes x w)
end_clash bytes x f w (inr (e, a, b)) = b x w

pub never_both : (limits : Limits) (bytes : List ℕ) (x : Image) (f : Fault) (n : ℕ) → IsImage limits bytes x → IsImageFault limits bytes f n → ⊥
never_both limits bytes x f n (inl (m, h, l, w)) (inl (k, least)) = image_meets_fault bytes m n x f h least.0 w least.1
never_both limits bytes x f n (inl (m, h, l, w)) (inr (inl (e, at, long, q))) = quiet_image bytes limits.input m x q l (within bytes limits.input m l long) w
never_both limits bytes x f n (inl (m, h, l, w)) (inr (inr (at, short, q, e))) = (q m h).1 x w
never_both limits bytes x f n (inr (short, q, w)) (inl (k, least)) = (q n least.0).0 f least.1
never_both limits bytes x f n (inr (short, q, w)) (inr (inl (e, at, long, q'))) = (let c : ⊥ = omega (arith, short, long) in c)
never_both limits bytes x f n (inr (short, q, w)) (inr (inr (at, short', q', e))) = end_clash bytes x f w e

-- ONE FAULT

end_once : (bytes : List ℕ) (f g : Fault) → IsEndFault bytes f → IsEndFault bytes g → f ≡ g
end_once bytes f g (inl s) (inl t) = some_once f g (same_end (run at_start bytes) (Some f) (Some g) (end_shows f bytes s) (end_shows g bytes t))
  where
    some_once : (f g : Fault) → Some f ≡ Some g → f ≡ g
    some_once f g e = cc
end_once bytes f g (inl s) (inr (e, a, b)) = absurd (a f s)
end_once bytes f g (inr (e, a, b)) (inl t) = absurd (a g t)
end_once bytes f g (inr (e, a, b)) (inr (e', a', b')) = e ∙ sym e'

pub one_fault : (limits : Limits) (bytes : List ℕ) (f g : Fault) (m n : ℕ) → IsImageFault limits bytes f m → IsImageFault limits bytes g n → (f ≡ g) × (m ≡ n)
one_fault limits bytes f g m n (inl (h, a)) (inl (k, b)) =
    let e = faults_meet bytes m n f g a.0 b.0 a.1 b.1 in
    (two_faults (take n bytes) f g (same_front bytes m n (λ front. ShowsImageFault f front) e a.1) b.1, e)
one_fault limits bytes f g m n (inl (h, a)) (inr (inl (e, at, long, q))) = absurd (quiet_fault bytes limits.input m f q h (within bytes limits.input m h long) a.1)
one_fault limits bytes f g m n (inl (h, a)) (inr (inr (at, short, q, e))) = absurd ((q m a.0).0 f a.1)
one_fault limits bytes f g m n (inr (inl (e, at, long, q))) (inl (k, b)) = absurd (quiet_fault bytes limits.input n g q k (within bytes limits.input n k long) b.1)
one_fault limits bytes f g m n (inr (inl (e, at, long, q))) (inr (inl (e', at', long', q'))) = (e ∙ sym e', at ∙ sym at')
one_fault limits bytes f g m n (inr (inl (e, at, long, q))) (inr (inr (at', short, q', e'))) = absurd (omega (arith, long, short))
one_fault limits bytes f g m n (inr (inr (at, short, q, e))) (inl (k, b)) = absurd ((q n b.0).0 g b.1)
one_fault limits bytes f g m n (inr (inr (at, short, q, e))) (inr (inl (e', at', long, q'))) = absurd (omega (arith, long, short))
one_fault limits bytes f g m n (inr (inr (at, short, q, e))) (inr (inr (at', short', q', e'))) = (end_once bytes f g e e', at ∙ sym at')

-- ONE OR THE OTHER

-- of a prefix that stops, is past a stop, or is live
stopped_front : (limits : Limits) (bytes : List ℕ) (n : ℕ) → n ≤ length bytes → n ≤ limits.input → ((image : Image) × IsWholeImage (take n bytes) image) ⊎ ((fault : Fault) × ShowsImageFault fault (take n bytes)) → HasImage limits bytes ⊎ HasFault limits bytes
stopped_front limits bytes n h l (inl (image, w)) = inl (image, inl (n, h, l, w))
stopped_front limits bytes n h l (inr (fault, s)) = inr (fault, n, inl (l, is_least bytes fault n h s))

past_front : (limits : Limits) (bytes : List ℕ) (n : ℕ) → n ≤ length bytes → n ≤ limits.input → IsPast (take n bytes) → HasImage limits bytes ⊎ HasFault limits bytes
past_front limits bytes n h l (m, less, s) =
    let long = length-take-le n bytes h in
    stopped_front limits bytes m (omega (arith, less, long, h)) (omega (arith, less, long, l))
    (subst (λ front. ((image : Image) × IsWholeImage front image) ⊎ ((fault : Fault) × ShowsImageFault fault front)) (take_shorter m n bytes (omega (arith, less, long))) s)

front_told : (limits : Limits) (bytes : List ℕ) (n : ℕ) (s : ImageState) → n ≤ length bytes → n ≤ limits.input → RepresentsImage (take n bytes) s → (IsLive s → HasImage limits bytes ⊎ HasFault limits bytes) → HasImage limits bytes ⊎ HasFault limits bytes
front_told limits bytes n (whole image) h l t live = stopped_front limits bytes n h l (inl (image, t))
front_told limits bytes n (failed fault) h l t live = stopped_front limits bytes n h l (inr (fault, t))
front_told limits bytes n past h l t live = past_front limits bytes n h l t
front_told limits bytes n s h l t live = live tt

pub one_of_two : (limits : Limits) (bytes : List ℕ) → HasImage limits bytes ⊎ HasFault limits bytes
one_of_two limits bytes =
    ⊎_elim
    (λ (short : length bytes < limits.input). (let all : take (length bytes) bytes ≡ bytes = take_all (length bytes) bytes (omega arith) in
    front_told limits bytes (length bytes) (run at_start bytes) (omega arith) (omega (arith, short)) (subst (λ x. RepresentsImage x (run at_start bytes)) (sym all) (stands bytes))
    (λ live. by_end (state_end (run at_start bytes)) (end_judged limits bytes (run at_start bytes) short refl live))))
    (λ (long : limits.input ≤ length bytes).
    front_told limits bytes limits.input (run at_start (take limits.input bytes)) long (omega arith) (stands (take limits.input bytes))
    (λ live. inr (InputTooLong, limits.input, too_long_at limits bytes long live)))
    (cases_lt (length bytes) limits.input)
  where
    by_end : (a : Result Image Fault) → Judges limits bytes a → HasImage limits bytes ⊎ HasFault limits bytes
    by_end (Ok image) j = inl (image, j)
    by_end (Err fault) j = inr (fault, length bytes, j)

-- WITH THEIR LAST BYTE

pub comes_once : (bytes : List ℕ) (x y : ImageAnswer) → HasImageAnswer bytes x → HasImageAnswer bytes y → x ≡ y
comes_once bytes (to_image x) (to_image y) a b = ap to_image (two_images bytes x y a b)
comes_once bytes (to_image x) (to_fault g) a b = absurd (image_and_fault bytes x g a b)
comes_once bytes (to_fault f) (to_image y) a b = absurd (image_and_fault bytes y f b a)
comes_once bytes (to_fault f) (to_fault g) a b = ap to_fault (two_faults bytes f g a b)

comes_stops : (bytes : List ℕ) (x : ImageAnswer) → HasImageAnswer bytes x → IsStop (run at_start bytes)
comes_stops bytes (to_image x) a = whole_stops bytes x a
comes_stops bytes (to_fault f) a = fault_stops bytes f a

pub nothing_after : (front : List ℕ) (b : ℕ) (rest : List ℕ) (x y : ImageAnswer) → HasImageAnswer front x → HasImageAnswer (front ++ b ∷ rest) y → ⊥
nothing_after front b rest x y a c =
    let bytes = front ++ b ∷ rest in
    let long = length-append front (b ∷ rest) in
    let all : take (length bytes) bytes ≡ bytes = take_all (length bytes) bytes (omega arith) in
    let e = one_stop bytes (length front) (length bytes) (omega (arith, long)) (omega arith) (subst (λ z. IsStop (run at_start z)) (sym (take-append_seam front (b ∷ rest))) (comes_stops front x a)) (subst (λ z. IsStop (run at_start z)) (sym all) (comes_stops bytes y c)) in
    (let f : ⊥ = omega (arith, e, long) in f)
