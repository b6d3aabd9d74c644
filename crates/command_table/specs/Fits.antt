-- What the code of a command may rely on: paths that fit their 40 bytes.
use Rattle.std.specs.Prelude.{◌≤◌}
use Rattle.card.specs.declared.Keys.{Keys}

-- both paths take at most 40 bytes
abbrev pub PathsFit : Keys → Type 0
PathsFit k = (k.current.len ≤ 40) × (k.pinless.len ≤ 40)
