-- What a reader of images answers where the bytes end.
use Rattle.std.proofs.Common.{◌≡◌, ℕ, ◌<◌, List, [], length, sym, subst, Ok, Err}
use Rattle.jpg_spec_image.specs.Images.{Image}
use Rattle.jpg_spec_image.specs.ImageFaults.{IsImage, IsImageFault, IsOpenImage}
use Rattle.jpg_spec_image.specs.ImageSteps.{ImageState, at_start, run, state_end}
use Rattle.jpg_spec_image.proofs.ImageJudged.{IsLive, end_image, end_fault, live_shows_nothing}
use Rattle.jpg_spec.specs.declared.fault.Fault.{Fault}
use Rattle.jpg_spec.specs.declared.frame.Limits.{Limits}
use Rattle.jpg_pnm_bmp.specs.Reader.{standing_of}
use Rattle.jpg_pnm_bmp.specs.PixelsRead.{HasFedImage}
use Rattle.jpg_pnm_bmp.specs.declared.read.pixels.PixelReader.{PixelReader}
use Rattle.jpg_pnm_bmp.specs.declared.read.work.Stage.{Stage}
use Rattle.jpg_pnm_bmp.specs.declared.read.work.Stage.TheVariants as stage
use Rattle.jpg_pnm_bmp.specs.declared.read.work.Work.{Work}

pub standing_live : (front : List ℕ) (st : Stage) (w : Work) → IsLive (standing_of front st w)
standing_live front stage.Start w = tt
standing_live front (stage.First first) w = tt
standing_live front (stage.Gap some commented) w = tt
standing_live front (stage.Number n) w = tt
standing_live front stage.BmpHead w = tt
standing_live front (stage.BmpFront passed) w = tt
standing_live front stage.PnmBody w = tt
standing_live front stage.BmpBody w = tt

pub fed_open : (bytes : List ℕ) (r : PixelReader) → HasFedImage bytes r → IsOpenImage bytes
fed_open bytes r h = live_shows_nothing bytes (subst IsLive h.3.stands.1 (standing_live [] r.reader.work.stage r.reader.work))

pub image_at_end : (limits : Limits) (s : ImageState) (bytes : List ℕ) (image : Image) → s ≡ run at_start bytes → IsLive s → length bytes < limits.input → state_end s ≡ Ok image → IsImage limits bytes image
image_at_end limits s bytes image e live h a = end_image limits bytes image h s (sym e) live a

pub fault_at_end : (limits : Limits) (s : ImageState) (bytes : List ℕ) (taken : ℕ) (fault : Fault) → s ≡ run at_start bytes → IsLive s → taken ≡ length bytes → length bytes < limits.input → state_end s ≡ Err fault → IsImageFault limits bytes fault taken
fault_at_end limits s bytes taken fault e live t h a = subst (IsImageFault limits bytes fault) (sym t) (end_fault limits bytes fault h s (sym e) live a)
