-- Worked runs: scripts over data files, against logs that were worked out by hand.
use Rattle.std.proofs.Common.{◌≡◌, ◌++◌, ◌∷◌, ◌*◌, ◌^◌, [], ℕ, pos, Some, List, true, false, refl}
use Rattle.box_geo.specs.declared.atoms.Atom.{Atom}
use Rattle.box_geo.specs.declared.sim_box.Extent.{Extent}
use Rattle.meaning.specs.declared.settings.Settings.{Settings}
use Rattle.std.specs.Prelude.{codes}
use Rattle.std.specs.Fmt.{digits}
use Rattle.box_geo.specs.Sides.{box_refusal, near_image, volume_of}
use Rattle.box_geo.specs.Wrap.{wrap}
use Rattle.command_words.specs.Read.{form_among, read}
use Rattle.computes.specs.Quantities.{energy_share, kinetic_share, kinetic_sum, pressure, temperature}
use Rattle.fx_num.specs.Decimal.{decimal_of, decimal_units, read_count, read_number}
use Rattle.fx_num.specs.Print.{fix_text}
use Rattle.fx_num.specs.Rounding.{div_rounded, nearest_of}
use Rattle.log_output.specs.Errors.{fault_text, refusal_text}
use Rattle.meaning.specs.declared.code.Code.TheVariants.{EdgeTooSmall, TwiceMoved}
use Rattle.meaning.specs.Lines.{line_command}
use Rattle.meaning.specs.Play.{Played, complete, failed_at, played, refused_at}
use Rattle.meaning.specs.Runs.{run_from, run_of}
use Rattle.meaning.specs.Shown.{shown}
use Rattle.meaning.proofs.Worked.{both, few, log_name, put_later, start}
use Rattle.outside.specs.declared.press.Piece.{Piece}
use Rattle.pair_lj.specs.Pairs.{are_all_had, numbers_at}
use Rattle.pair_lj.specs.PairTerm.{energy_at, force_along, inverse_square, pair_term, sixth_power, strength, twelfth_power, weighted_term}
use Rattle.serial_step.specs.Forces.{force_on, forces_fault, pair_energy, pair_virial, term_of, terms_fault, with_forces}
use Rattle.serial_step.specs.Rebuild.{neighbour_pairs, renews}
use Rattle.serial_step.specs.Room.{edge_too_small}
use Rattle.serial_step.specs.Step.{drifted, kicked_again, serial_step, set_up}
use Rattle.thermo_text.specs.Thermo.{footer_text, header_text, line_text}

-- a cube from 0 to an edge
cube : List ℕ → List ℕ
cube edge = codes "region b block 0 " ++ edge ++ codes " 0 " ++ edge ++ codes " 0 " ++ edge ++ codes " units box\ncreate_box 1 b\nmass 1 1.0\n"

-- an atom on a line along x
atom_line : List ℕ → List ℕ
atom_line x = codes "create_atoms 1 single " ++ x ++ codes " 5 5 units box\n"

-- two atoms
two_atoms : List ℕ → List ℕ → List ℕ → List ℕ
two_atoms edge first second = cube edge ++ atom_line first ++ atom_line second

-- the state in which one atom stands near the side of the box, at (9.75, 5, 5) with velocity 1
side : Extent
side = record { lo = pos 0; hi = pos (10 * 2 ^ 24); periodic = true }

mover : Atom
mover = record { id = 1; mol = 0; kind = 1; x = pos 163577856 ∷ pos 83886080 ∷ pos 83886080 ∷ []; v = pos (2 ^ 24) ∷ pos 0 ∷ pos 0 ∷ []; f = pos 0 ∷ pos 0 ∷ pos 0 ∷ []; image = pos 0 ∷ pos 0 ∷ pos 0 ∷ [] }

one_atom : Settings
one_atom = record (start []) { body = Some record { step = 0; sides = record { x = side; y = side; z = side; dim = 3 }; mass = pos (2 ^ 24) ∷ []; atoms = mover ∷ []; bonds = []; angles = [] } }

-- lines in that state
moves : List ℕ → Played
moves lines = few (codes "pair_style lj/cut 2.5\npair_coeff 1 1 1.0 1.0\n" ++ lines) one_atom

-- lines over a system
over : List ℕ → List ℕ → Played
over system lines = few (system ++ codes "pair_style lj/cut 2.5\npair_coeff 1 1 1.0 1.0\n" ++ lines) (start [])

-- the first text that is shown, and a later one
first : List ℕ → List Piece
first text = both log_name true true text

later : List ℕ → List Piece
later text = both log_name false false text

header_line : List ℕ
header_line = codes "      Step                 Temp               E_pair                E_mol               TotEng                Press\n"

-- two atoms at distance 2
at_two : over (two_atoms (codes "10") (codes "4") (codes "6")) (codes "run 0\n") ≡ record {
  pieces =
      first header_line
      ++ later (codes "         0           0.00000000          -0.03076172           0.00000000          -0.03076172          -0.00012112\n")
      ++ later (codes "Neighbor pairs 1 builds 0\n");
  end = complete;
  pairs = 1;
}
unfolding cube atom_line two_atoms over first later header_line both log_name put_later start few line_command played shown form_among read box_refusal read_number read_count decimal_of decimal_units nearest_of div_rounded are_all_had numbers_at edge_too_small run_of run_from set_up with_forces force_on forces_fault terms_fault term_of pair_energy pair_virial near_image pair_term weighted_term force_along energy_at strength twelfth_power sixth_power inverse_square neighbour_pairs fix_text volume_of kinetic_sum temperature kinetic_share energy_share pressure header_text line_text footer_text digits
at_two = refl

-- too close
too_close : over (two_atoms (codes "10") (codes "5") (codes "5.2")) (codes "run 0\n") ≡ record {
  pieces = first (codes "ERROR: Close 1 2 in forces at step 0\n");
  end = failed_at record { phase = 2; kind = 1; a = 1; b = 2 } 0;
  pairs = 1;
}
unfolding cube atom_line two_atoms over first later header_line both log_name put_later start few line_command played shown form_among read box_refusal read_number read_count decimal_of decimal_units nearest_of div_rounded are_all_had numbers_at edge_too_small run_of run_from set_up with_forces force_on forces_fault terms_fault term_of pair_energy pair_virial near_image pair_term weighted_term force_along energy_at strength twelfth_power sixth_power inverse_square fault_text digits
too_close = refl

-- twice the sum of the cutoff and the skin is 93952410 units; an edge of one unit less is refused
small_box : over (two_atoms (codes "5.59999996") (codes "1") (codes "3")) (codes "run 0\n") ≡ record {
  pieces = first (codes "ERROR: EdgeTooSmall at s.in:8\n");
  end = refused_at EdgeTooSmall (codes "s.in") 8;
  pairs = 0;
}
unfolding cube atom_line two_atoms over first later both log_name put_later start few line_command played shown form_among read box_refusal read_number read_count decimal_of decimal_units nearest_of div_rounded are_all_had numbers_at edge_too_small refusal_text digits
small_box = refl

-- an atom that two fixes move
twice_moved : moves (codes "fix a all nve\nfix b all nve\nrun 1\n") ≡ record {
  pieces = first (codes "ERROR: TwiceMoved at s.in:5\n");
  end = refused_at TwiceMoved (codes "s.in") 5;
  pairs = 0;
}
unfolding side mover one_atom moves first later both log_name put_later start few line_command played shown form_among read box_refusal read_number read_count decimal_of decimal_units nearest_of div_rounded are_all_had numbers_at edge_too_small refusal_text digits
twice_moved = refl

-- the atom wraps in one step, and the references are renewed; a second run goes on from the step of the first
goes_on : moves (codes "timestep 0.5\nfix 1 all nve\nrun 1\nrun 2 upto\n") ≡ record {
  pieces =
      first header_line
      ++ later (codes "         0           0.00000000           0.00000000           0.00000000           0.50000000           0.00033331\n")
      ++ later (codes "         1           0.00000000           0.00000000           0.00000000           0.50000000           0.00033331\n")
      ++ later (codes "Neighbor pairs 0 builds 1\n")
      ++ later header_line
      ++ later (codes "         1           0.00000000           0.00000000           0.00000000           0.50000000           0.00033331\n")
      ++ later (codes "         2           0.00000000           0.00000000           0.00000000           0.50000000           0.00033331\n")
      ++ later (codes "Neighbor pairs 0 builds 1\n");
  end = complete;
  pairs = 0;
}
unfolding side mover one_atom moves first later header_line both log_name put_later start few line_command played shown form_among read box_refusal read_number read_count decimal_of decimal_units nearest_of div_rounded are_all_had numbers_at edge_too_small run_of run_from set_up with_forces force_on forces_fault terms_fault term_of pair_energy pair_virial near_image pair_term weighted_term force_along energy_at strength twelfth_power sixth_power inverse_square neighbour_pairs fix_text volume_of kinetic_sum temperature kinetic_share energy_share pressure header_text line_text footer_text digits serial_step drifted kicked_again wrap renews
goes_on = refl
