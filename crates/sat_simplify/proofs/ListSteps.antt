-- Steps of the loops over literals and slots.
use Rattle.std.proofs.Common.{◌≡◌, ℕ, ◌+◌, ◌<◌, true, false, not, List, [], ◌∷◌, ◌++◌, get_or, length, take, ap, ◌∙◌}
