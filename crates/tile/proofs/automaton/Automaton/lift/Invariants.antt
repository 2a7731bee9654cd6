use Rattle.std.proofs.Common.{◌≡◌, ◌*◌, ◌/◌, ◌%◌, length, take}
use Rattle.std.specs.List.{range_with_len, flat_map}
use Rattle.picture.specs.Quadrants.{named}
use Rattle.picture.specs.Steps.{spreads}
use Rattle.index.specs.Terms.{edges}
use Rattle.tile.specs.Bands.{slot}
use Rattle.tile.proofs.automaton.Automaton.lift.Given as goal

abbrev pub invariant-loop-c : goal.invariant-loop-c
invariant-loop-c g l =
    let k = g.W.Weight.kind in
    (length l.longer ≡ length l.initial.longer)
    × (take (l.c * l.n) l.longer ≡ flat_map (λ c. spreads k (edges l.self.arcs) l.n (slot l.n (c % l.count) l.columns) (named (c / l.count))) (range_with_len 0 l.c))
