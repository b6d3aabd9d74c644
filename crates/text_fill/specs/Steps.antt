-- Bytes that go on by a step.
use Rattle.std.specs.Prelude.{ℕ, ◌+◌, ◌*◌, ◌%◌, List}
use Rattle.octets.specs.Bytes.{tabulate}

-- n bytes: the first is `first`, and each is by `step` more than the one before it, the carry dropped
abbrev pub stepped : ℕ → ℕ → ℕ → List ℕ
stepped first step n = tabulate n (λ k. (first + k * step) % 256)
