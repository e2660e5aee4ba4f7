use Rattle.jpg_file.proofs.Headers.InForce.{kept_for_all}
use Rattle.jpg_desk.proofs.KeepingLaws.{fault_same, info_same, moved_same, out_same, pixels_same}
use Rattle.jpg_cli.proofs.laws.unwanted_markers_are_not_missed.Goals as goal

pub returns : goal.returns
returns c = record { all = kept_for_all; moved = moved_same; fault = fault_same; shown = out_same; told = info_same; pixels = pixels_same }
