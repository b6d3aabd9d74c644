use mathlib.Core.Path.{◌≡◌}
use Prim.Native.Nat.{◌+◌, ◌-◌, ◌≤◌}
use lib.ListN.{length, drop}
use Rattle.template_walk.specs.Walk.{plus, sequence_of}
use Rattle.template_walk.proofs.+read_field_read_sequence.Given as goal

abbrev pub invariant-read_sequence-loop-at : goal.invariant-read_sequence-loop-at
invariant-read_sequence-loop-at l = (l.at ≤ length l.s) × (l.count ≤ l.at) × (sequence_of l.levels l.s ≡ plus l.count l.at (sequence_of l.levels (drop l.at l.s)))

abbrev pub decreases-read_sequence-loop-at : goal.decreases-read_sequence-loop-at
decreases-read_sequence-loop-at l = length l.s - l.at

abbrev pub decreases-read_field : goal.decreases-read_field
decreases-read_field l = length l.s.now + l.levels + l.levels

abbrev pub decreases-read_sequence : goal.decreases-read_sequence
decreases-read_sequence l = length l.s.now + l.levels + l.levels + 1
