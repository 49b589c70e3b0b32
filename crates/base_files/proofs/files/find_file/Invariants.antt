use Rattle.std.proofs.Common.{◌≡◌, drop}
use Rattle.base_files.specs.Files.{file_of}
use Rattle.base_files.proofs.files.find_file.Given as goal

abbrev pub invariant-loop-file : goal.invariant-loop-file
invariant-loop-file l = file_of l.files l.name ≡ file_of (drop l.file-index l.files) l.name
