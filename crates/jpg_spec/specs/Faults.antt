-- THE FAULTS of an input: their order and their names, and values or faults.
use Rattle.std.specs.Prelude.{ℕ, Bool, List, if◌then◌else◌, Result, Err, codes}
use Rattle.jpg_spec.specs.declared.fault.Fault.{Fault}
use Rattle.jpg_spec.specs.declared.fault.Fault.TheVariants.{NotJpeg, Truncated, NoMarker, UnexpectedMarker, UnsupportedProcess, SecondFrame, SosBeforeSof, BadLength, MarkersTooLarge, EmptyImage, TooLarge, Precision, ComponentCount, Sampling, DuplicateComponent, QuantSlot, TooManyBlocks, BadQuant, BadHuffman, ScanComponent, McuTooLarge, ScanParameters, RepeatedScan, Progression, MissingTable, QuantChanged, NoCode, BadSymbol, BadRun, CoefRange, RunPastEnd, EntropyShort, ExtraData, RestartWrong, MissingComponent, InputTooLong, ColourOut, FractionalSampling, ScriptText, TableText, CommentTooLong, ImageText, ImageHeader, ImageUnsupported, ImageShort, ImageValue}

-- the order of faults at one place
abbrev pub number_of : Fault → ℕ
number_of NotJpeg = 1
number_of Truncated = 2
number_of NoMarker = 3
number_of UnexpectedMarker = 4
number_of UnsupportedProcess = 5
number_of SecondFrame = 6
number_of SosBeforeSof = 7
number_of BadLength = 8
number_of MarkersTooLarge = 9
number_of EmptyImage = 10
number_of TooLarge = 11
number_of Precision = 12
number_of ComponentCount = 13
number_of Sampling = 14
number_of DuplicateComponent = 15
number_of QuantSlot = 16
number_of TooManyBlocks = 17
number_of BadQuant = 18
number_of BadHuffman = 19
number_of ScanComponent = 20
number_of McuTooLarge = 21
number_of ScanParameters = 22
number_of RepeatedScan = 23
number_of Progression = 24
number_of MissingTable = 25
number_of QuantChanged = 26
number_of NoCode = 27
number_of BadSymbol = 28
number_of BadRun = 29
number_of CoefRange = 30
number_of RunPastEnd = 31
number_of EntropyShort = 32
number_of ExtraData = 33
number_of RestartWrong = 34
number_of MissingComponent = 35
number_of InputTooLong = 36
number_of ColourOut = 37
number_of FractionalSampling = 38
number_of ScriptText = 39
number_of TableText = 40
number_of CommentTooLong = 41
number_of ImageText = 42
number_of ImageHeader = 43
number_of ImageUnsupported = 44
number_of ImageShort = 45
number_of ImageValue = 46

-- as messages name them
abbrev pub fault_name : Fault → List ℕ
fault_name NotJpeg = codes "NotJpeg"
fault_name Truncated = codes "Truncated"
fault_name NoMarker = codes "NoMarker"
fault_name UnexpectedMarker = codes "UnexpectedMarker"
fault_name UnsupportedProcess = codes "UnsupportedProcess"
fault_name SecondFrame = codes "SecondFrame"
fault_name SosBeforeSof = codes "SosBeforeSof"
fault_name BadLength = codes "BadLength"
fault_name MarkersTooLarge = codes "MarkersTooLarge"
fault_name EmptyImage = codes "EmptyImage"
fault_name TooLarge = codes "TooLarge"
fault_name Precision = codes "Precision"
fault_name ComponentCount = codes "ComponentCount"
fault_name Sampling = codes "Sampling"
fault_name DuplicateComponent = codes "DuplicateComponent"
fault_name QuantSlot = codes "QuantSlot"
fault_name TooManyBlocks = codes "TooManyBlocks"
fault_name BadQuant = codes "BadQuant"
fault_name BadHuffman = codes "BadHuffman"
fault_name ScanComponent = codes "ScanComponent"
fault_name McuTooLarge = codes "McuTooLarge"
fault_name ScanParameters = codes "ScanParameters"
fault_name RepeatedScan = codes "RepeatedScan"
fault_name Progression = codes "Progression"
fault_name MissingTable = codes "MissingTable"
fault_name QuantChanged = codes "QuantChanged"
fault_name NoCode = codes "NoCode"
fault_name BadSymbol = codes "BadSymbol"
fault_name BadRun = codes "BadRun"
fault_name CoefRange = codes "CoefRange"
fault_name RunPastEnd = codes "RunPastEnd"
fault_name EntropyShort = codes "EntropyShort"
fault_name ExtraData = codes "ExtraData"
fault_name RestartWrong = codes "RestartWrong"
fault_name MissingComponent = codes "MissingComponent"
fault_name InputTooLong = codes "InputTooLong"
fault_name ColourOut = codes "ColourOut"
fault_name FractionalSampling = codes "FractionalSampling"
fault_name ScriptText = codes "ScriptText"
fault_name TableText = codes "TableText"
fault_name CommentTooLong = codes "CommentTooLong"
fault_name ImageText = codes "ImageText"
fault_name ImageHeader = codes "ImageHeader"
fault_name ImageUnsupported = codes "ImageUnsupported"
fault_name ImageShort = codes "ImageShort"
fault_name ImageValue = codes "ImageValue"

-- A value, or the first fault instead of it. `refuse f bad rest` means: if the test holds the fault is f, otherwise go
-- on.
abbrev pub Parsed : Type 0 → Type 0
Parsed X = Result X Fault

abbrev pub refuse : {X : Type 0} → Fault → Bool → Parsed X → Parsed X
refuse f bad rest = if bad then Err f else rest
