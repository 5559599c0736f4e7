-- How great the numbers of a thermo line are.
use Rattle.std.proofs.Common.{◌≡◌, ◌+◌, ◌*◌, ◌^◌, ◌≤◌, ℕ, ℤ, unsigned_abs, of_z, to_z, arith}
use Rattle.std.specs.Int.{w128}
use Rattle.std.proofs.lemmas.Int.{fits_signed_from_abs, to_z-of_z}
use Rattle.std.proofs.lemmas.List.Elements.{All-from_recursion}
use Rattle.std.proofs.lemmas.Nat.{mul-le}
use Rattle.box_geo.specs.declared.sim_box.Sides.{Sides}
use Rattle.box_geo.specs.Sides.{edge}
use Rattle.script_runs.specs.declared.numbers.Values.{Values}
use Rattle.script_runs.specs.Line.{IsPrintable, numbers_under}
use Rattle.step_engine.specs.Ranges.{IsSmall}
use Rattle.step_engine.specs.declared.tally.Tally.{Tally}
use Rattle.thermo_text.specs.Thermo.{HasEachNumber, HasNumber, style_one}

-- the sum of the edges of a box
abbrev pub edges : Sides → ℕ
edges s = unsigned_abs (edge s.x) + unsigned_abs (edge s.y) + unsigned_abs (edge s.z)

square_bound : (n : ℕ) → n ≤ 2 ^ 20 → n * n ≤ n * 2 ^ 20
square_bound n few = mul-le n n n (2 ^ 20) (omega arith) few

-- the energy of all pairs
pub pair_bound : (s : Sides) (n : ℕ) (t : Tally) → n ≤ 2 ^ 20 → IsSmall s n t → unsigned_abs t.pair ≤ 2 ^ 97
pair_bound s n t few small =
    let square : n * n ≤ 2 ^ 40 = omega (arith, square_bound n few) in
    omega (arith, small.pair, mul-le (2 ^ 58) (n * n) (2 ^ 58) (2 ^ 40) (omega arith) square)

-- the virial by the edges, and by the greatest cutoff
pub virial_bound : (s : Sides) (n : ℕ) (t : Tally) → n ≤ 2 ^ 20 → IsSmall s n t → unsigned_abs t.virial ≤ 2 ^ 81 * edges s
virial_bound s n t few small =
    let square : n * n ≤ 2 ^ 40 = omega (arith, square_bound n few) in
    omega (arith, small.virial, mul-le (2 ^ 42 * edges s) (n * n) (2 ^ 42 * edges s) (2 ^ 40) (omega arith) square)

pub virial_reached : (s : Sides) (n : ℕ) (t : Tally) → n ≤ 2 ^ 20 → IsSmall s n t → unsigned_abs t.virial ≤ 3 * 2 ^ 109
virial_reached s n t few small =
    let square : n * n ≤ 2 ^ 40 = omega (arith, square_bound n few) in
    omega (arith, small.reached)

-- a number far within 128 bits is stored as it is
pub stored : (z : ℤ) → unsigned_abs z ≤ 2 ^ 121 → to_z w128 (of_z w128 z) ≡ z
stored z small = to_z-of_z w128 z (fits_signed_from_abs w128 z (omega arith))

-- each column of style one has its number
pub printable_ready : (v : Values) → IsPrintable v → HasEachNumber (numbers_under v) style_one
printable_ready v h = All-from_recursion (HasNumber (numbers_under v)) style_one (h.step, (h.temp, (h.energies.pair, (h.energies.molecular, (h.energies.total, (h.press, tt))))))
