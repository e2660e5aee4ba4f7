-- Whatever is asked for, an input is refused with at most one fault, at one place; and a file that means a picture with
-- none.
use Rattle.std.proofs.Common.{◌≡◌, ℕ, Bool, List, refl, sym, subst, inl, inr}
use Rattle.jpg_base.specs.Desk.{DeskState}
use Rattle.jpg_spec.specs.declared.fault.FaultAt.{FaultAt}
use Rattle.jpg_spec_words.specs.declared.answers.Why.{Why}
use Rattle.jpg_spec_words.specs.declared.answers.Why.TheVariants as why
use Rattle.jpg_spec.specs.Meaning.{Meaning}
use Rattle.jpg_words.specs.Commands.{name_of}
use Rattle.jpg_cli.specs.Certain.{HasFile, HasSomeMeaning, IsNotRefused, IsTold}
use Rattle.jpg_cli.specs.Laws.{MeanShown, WasRefused, WasRefusedShown}
use Rattle.jpg_desk.specs.ReadPicture.{IsRefused, IsRefusedFor, Coefficients, Image}
use Rattle.jpg_cli.specs.Tools.Showing.{showing_conversion}
use Rattle.jpg_spec_write.specs.ScansAsked.{Scans}
use Rattle.jpg_spec_words.specs.TransformWords.{ScansSource, in_file, TransformAsked}
use Rattle.jpg_desk.specs.ScriptTaken.{HasScansFault, StopsAtScans}
use Rattle.jpg_cli.specs.Tools.Turned.{Transformed, Turned, Turning, turning_conversion, turning_of}
use Rattle.jpg_desk.proofs.RefusedOnce.{one_refusal}
use Rattle.jpg_cli.proofs.Outcomes.Due.{one_file, refuses_told, tells_files}
use Rattle.jpg_desk.proofs.Judged.{none_faulty, none_refused_for, picture_judged, refused_alone, refused_for_one}
use Rattle.jpg_cli.proofs.Outcomes.TakenOnce.{scans_or_fault, told_scans}

-- OF RUNS

run_refused : (t : Turning) (old new : DeskState) (bytes : List ℕ) (f : FaultAt) → IsTold old.files t.input bytes → Turned t old (why.Refused f) new → IsRefused bytes f
run_refused t old new bytes f told h = refused_alone bytes f (refuses_told Meaning (turning_conversion t) (picture_judged Coefficients) old new bytes f (λ other is. one_file old.files t.input bytes other told is) h)

pub runs_refuse_once : (input : List ℕ) (f g : FaultAt) → WasRefused input f → WasRefused input g → f ≡ g
runs_refuse_once input f g a b = one_refusal input f g (run_refused a.turning a.old a.new input f a.told a.turned) (run_refused b.turning b.old b.new input g b.told b.turned)

shown_refusal : (gray : Bool) (input : List ℕ) (f : FaultAt) → WasRefusedShown gray input f → IsRefusedFor (Image gray) input f
shown_refusal gray input f a = subst (λ (g : Bool). IsRefusedFor (Image g) input f) a.grayed (refuses_told Meaning (showing_conversion a.showing) (picture_judged (Image a.showing.gray)) a.old a.new input f (λ other is. one_file a.old.files (a.showing).input input other a.told is) a.shown)

pub runs_show_once : (gray : Bool) (input : List ℕ) (f g : FaultAt) → WasRefusedShown gray input f → WasRefusedShown gray input g → f ≡ g
runs_show_once gray input f g a b = refused_for_one (Image gray) input f g (shown_refusal gray input f a) (shown_refusal gray input g b)

-- A FILE THAT MEANS A PICTURE

pub none_refused_shown : (gray : Bool) (input : List ℕ) (f : FaultAt) → IsRefusedFor (Image gray) input f → MeanShown gray input → ⊥
none_refused_shown gray input f refused (M, means, shown) = none_refused_for (Image gray) input M f means shown refused

pub none_refused : (input : List ℕ) (f : FaultAt) → IsRefused input f → HasSomeMeaning input → ⊥
none_refused input f a (M, means) = none_faulty input M f means a

turned_file : (a : TransformAsked) (scans : Scans) (old new : DeskState) (w : Why) → HasFile a old → Turned (turning_of a scans) old w new → IsNotRefused w
turned_file a scans old new (why.Usage u) has h = absurd h
turned_file a scans old new (why.Refused f) has h = absurd (none_refused has.bytes f (run_refused (turning_of a scans) old new has.bytes f has.told h) has.means)
turned_file a scans old new other has h = tt

told_script : (a : TransformAsked) (source : ScansSource) (old new : DeskState) (w : Why) → source ≡ a.scans → HasFile a old → StopsAtScans source old w new → IsNotRefused w
told_script a (in_file file) old new why.Done e has h = tt
told_script a (in_file file) old new (why.Warned n) e has h = absurd h
told_script a (in_file file) old new (why.Usage u) e has h = absurd h
told_script a (in_file file) old new (why.Picture p) e has h = tt
told_script a (in_file file) old new (why.Refused f) e has h =
    absurd (scans_or_fault old a.scans (tells_files old (name_of a.files.input) has.bytes has.told) has.scans f (told_scans old a.scans has.scans has.asked)
    (subst (λ (source : ScansSource). HasScansFault source old f) e h.fault))
told_script a (in_file file) old new (why.OpenFault which) e has h = tt
told_script a (in_file file) old new (why.ReadFault which) e has h = tt
told_script a (in_file file) old new why.WriteFault e has h = tt
told_script a (in_file file) old new why.NoMemory e has h = tt
told_script a other old new w e has h = absurd h

pub transformed_file : (a : TransformAsked) (old new : DeskState) (w : Why) → HasFile a old → Transformed a old w new → IsNotRefused w
transformed_file a old new w has (inl h) = told_script a a.scans old new w refl has h
transformed_file a old new w has (inr (inl (scans, is, turned))) = turned_file a scans old new w has turned
transformed_file a old new w has (inr (inr (wanting, same))) = subst IsNotRefused (sym wanting) tt
