use Rattle.std.proofs.Common.{◌≡◌, ◌+◌, drop}
use Rattle.std.specs.Option.{option_map}
use Rattle.base_files.specs.Files.{place_of}
use Rattle.base_files.proofs.files.find_place.Given as goal

abbrev pub invariant-loop-i : goal.invariant-loop-i
invariant-loop-i l = place_of l.files l.name ≡ option_map (λ place. l.i + place) (place_of (drop l.i l.files) l.name)
