use Rattle.std.proofs.Common.{◌≡◌, map, drop}
use Rattle.jpg_base.specs.Name.{file_of}
use Rattle.jpg_base.specs.Memory.{named}
use Rattle.jpg_base.proofs.memory.parts.find.Given as goal

-- the first file among those that are left is the first one
abbrev pub invariant-loop-file : goal.invariant-loop-file
invariant-loop-file l = file_of (map named (drop l.file-index l.files)) l.name ≡ file_of (map named l.files) l.name
