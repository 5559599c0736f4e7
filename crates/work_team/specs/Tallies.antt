-- Sums of tallies, and how large they are.
use Rattle.std.specs.Prelude.{ℕ, ◌≤◌, pos, ◌+ℤ◌, unsigned_abs}
use Rattle.work_team.specs.declared.tally.Tally.{Tally}

-- of no term
abbrev pub no_tally : Tally
no_tally = record { pair = pos 0; bond = pos 0; angle = pos 0; virial = pos 0 }

-- of two together
abbrev pub plus : Tally → Tally → Tally
plus s t = record { pair = s.pair +ℤ t.pair; bond = s.bond +ℤ t.bond; angle = s.angle +ℤ t.angle; virial = s.virial +ℤ t.virial }

-- each of the four numbers is at most this in magnitude
pub record IsWithin (most : ℕ) (t : Tally) : Type 0 where
  pub pair : unsigned_abs t.pair ≤ most
  pub bond : unsigned_abs t.bond ≤ most
  pub angle : unsigned_abs t.angle ≤ most
  pub virial : unsigned_abs t.virial ≤ most
