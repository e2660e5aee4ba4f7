-- Faults with one number are one fault.
use Rattle.std.proofs.Common.{◌≡◌, ℕ, List, [], ◌∷◌, refl, sym, ap, ◌∙◌}
use Rattle.std.specs.Prelude.{slice_index_or}
use Rattle.jpg_spec.specs.Faults.{number_of}
use Rattle.jpg_spec.specs.declared.fault.Fault.{Fault}
use Rattle.jpg_spec.specs.declared.fault.Fault.TheVariants.{NotJpeg, Truncated, NoMarker, UnexpectedMarker, UnsupportedProcess, SecondFrame, SosBeforeSof, BadLength, MarkersTooLarge, EmptyImage, TooLarge, Precision, ComponentCount, Sampling, DuplicateComponent, QuantSlot, TooManyBlocks, BadQuant, BadHuffman, ScanComponent, McuTooLarge, ScanParameters, RepeatedScan, Progression, MissingTable, QuantChanged, NoCode, BadSymbol, BadRun, CoefRange, RunPastEnd, EntropyShort, ExtraData, RestartWrong, MissingComponent, InputTooLong, ColourOut, FractionalSampling, ScriptText, TableText, CommentTooLong, ImageText, ImageHeader, ImageUnsupported, ImageShort, ImageValue}

-- all faults, each at its number
abbrev faults : List Fault
faults =
    NotJpeg ∷ NotJpeg ∷ Truncated ∷ NoMarker ∷ UnexpectedMarker ∷ UnsupportedProcess ∷ SecondFrame
    ∷ SosBeforeSof ∷ BadLength ∷ MarkersTooLarge ∷ EmptyImage ∷ TooLarge ∷ Precision ∷ ComponentCount ∷ Sampling
    ∷ DuplicateComponent ∷ QuantSlot ∷ TooManyBlocks ∷ BadQuant ∷ BadHuffman ∷ ScanComponent ∷ McuTooLarge
    ∷ ScanParameters ∷ RepeatedScan ∷ Progression ∷ MissingTable ∷ QuantChanged ∷ NoCode ∷ BadSymbol ∷ BadRun
    ∷ CoefRange ∷ RunPastEnd ∷ EntropyShort ∷ ExtraData ∷ RestartWrong ∷ MissingComponent ∷ InputTooLong
    ∷ ColourOut ∷ FractionalSampling ∷ ScriptText ∷ TableText ∷ CommentTooLong ∷ ImageText ∷ ImageHeader
    ∷ ImageUnsupported ∷ ImageShort ∷ ImageValue ∷ []

abbrev of_number : ℕ → Fault
of_number n = slice_index_or faults n NotJpeg

found : (f : Fault) → of_number (number_of f) ≡ f
found NotJpeg = refl
found Truncated = refl
found NoMarker = refl
found UnexpectedMarker = refl
found UnsupportedProcess = refl
found SecondFrame = refl
found SosBeforeSof = refl
found BadLength = refl
found MarkersTooLarge = refl
found EmptyImage = refl
found TooLarge = refl
found Precision = refl
found ComponentCount = refl
found Sampling = refl
found DuplicateComponent = refl
found QuantSlot = refl
found TooManyBlocks = refl
found BadQuant = refl
found BadHuffman = refl
found ScanComponent = refl
found McuTooLarge = refl
found ScanParameters = refl
found RepeatedScan = refl
found Progression = refl
found MissingTable = refl
found QuantChanged = refl
found NoCode = refl
found BadSymbol = refl
found BadRun = refl
found CoefRange = refl
found RunPastEnd = refl
found EntropyShort = refl
found ExtraData = refl
found RestartWrong = refl
found MissingComponent = refl
found InputTooLong = refl
found ColourOut = refl
found FractionalSampling = refl
found ScriptText = refl
found TableText = refl
found CommentTooLong = refl
found ImageText = refl
found ImageHeader = refl
found ImageUnsupported = refl
found ImageShort = refl
found ImageValue = refl

pub same_fault : (f g : Fault) → number_of f ≡ number_of g → f ≡ g
same_fault f g e = sym (found f) ∙ ap of_number e ∙ found g
