-- `Series::place` meets its contract.
-- Assumes nothing.
use Prim.Native.Nat.{◌-◌, ◌≤◌}
use native.Mathlib.Omega.{arith}
use lib.ListN.{length}
use mir.Syntax.{w64}
use mir.Val.{to_z}
use Rattle.whole.proofs.Words.{Word, count-read, plain-is, bounds}
use Rattle.exact.specs.Weights.{place}
use Rattle.series.proofs.sums.Series.place.Goals as goal

-- j, and n - 1, the place of the last value
pub returns : goal.returns
unfolding place
returns c =
    let few : c.args.j ≤ 52 = omega (arith, c.requires, c.args.self.now.count) in
    let last : length c.args.self.now.values.now - 1 ≤ 52 = omega (arith, c.args.self.now.count) in
    let j : Word (to_z w64 c.args.j) = count-read few in
    let l : Word (to_z w64 (length c.args.self.now.values.now - 1)) = count-read last in
    plain-is (search bounds depth 9) tt
