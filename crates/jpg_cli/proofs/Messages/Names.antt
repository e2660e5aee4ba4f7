-- The names in messages are short.
use Rattle.std.proofs.Common.{◌≤◌, length, lit≤}
use Rattle.jpg_spec.specs.Faults.{fault_name}
use Rattle.jpg_spec_write.specs.PictureFaults.{picture_name}
use Rattle.jpg_spec_words.specs.Messages.{usage_name, which_name}
use Rattle.jpg_spec.specs.declared.fault.Fault.{Fault}
use Rattle.jpg_spec.specs.declared.fault.Fault.TheVariants as fault
use Rattle.jpg_spec_words.specs.declared.answers.UsageFault.{UsageFault}
use Rattle.jpg_spec_words.specs.declared.answers.UsageFault.TheVariants as usage
use Rattle.jpg_spec_words.specs.declared.answers.Which.{Which}
use Rattle.jpg_spec_words.specs.declared.answers.Which.TheVariants as which
use Rattle.jpg_spec_write.specs.declared.picture_fault.PictureFault.{PictureFault}
use Rattle.jpg_spec_write.specs.declared.picture_fault.PictureFault.TheVariants as picture

pub fault_short : (f : Fault) → length (fault_name f) ≤ 20
fault_short fault.NotJpeg = lit≤ tt
fault_short other = lit≤ tt

pub usage_short : (f : UsageFault) → length (usage_name f) ≤ 20
usage_short usage.NoTool = lit≤ tt
usage_short other = lit≤ tt

pub which_short : (w : Which) → length (which_name w) ≤ 20
which_short which.Input = lit≤ tt
which_short other = lit≤ tt

pub picture_short : (f : PictureFault) → length (picture_name f) ≤ 20
picture_short picture.GrayColour = lit≤ tt
picture_short other = lit≤ tt
