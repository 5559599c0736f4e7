-- What a data file says keeps to the limits of settings.
use Rattle.std.proofs.Common.{◌≡◌, ◌≤◌, ◌≤ℤ◌, ◌<ℤ◌, ◌*ℤ◌, ◌||◌, ◌∙◌, Bool, true, false, not, cond, ℕ, ℤ, pos, unsigned_abs, Option, Some, None, unwrap_or, Result, Ok, Err, List, [], ◌∷◌, length, map, IfOk, refl, sym, ap, subst, arith}
use Rattle.std.specs.Prelude.{IfSome, int_le, slice_index}
use Rattle.std.specs.List.{All, list_any}
use Rattle.std.proofs.lemmas.Int.{ints}
use Rattle.std.proofs.lemmas.Bool.Decides.{nat_tests}
use Rattle.std.proofs.lemmas.List.Elements.{All-head, All-nil, All-tail, All-weaker}
use Rattle.box_geo.specs.declared.atoms.Atom.{Atom}
use Rattle.box_geo.specs.declared.limits.TheConstants.{MAX_CUTOFF, MAX_FORCE, MAX_KINDS}
use Rattle.box_geo.specs.declared.sim_box.Sides.{Sides}
use Rattle.box_geo.specs.Sides.{IsSound as IsSoundSides, IsWithin}
use Rattle.command_words.specs.Limits.{IsCutoff}
use Rattle.data_file.specs.declared.contents.PairLine.{PairLine}
use Rattle.data_file.specs.Data.{Contents}
use Rattle.data_file.specs.Sections.{has_angles, has_bonds}
use Rattle.data_file.specs.Sound.{AreKinds, IsAtom, IsPairLine, IsSoundSet}
use Rattle.meaning.specs.declared.code.Code.{Code}
use Rattle.meaning.specs.declared.code.Code.TheVariants.{DataLine}
use Rattle.meaning.specs.declared.settings.Settings.{Settings}
use Rattle.meaning.specs.Sound.{IsSound, IsSoundAtom, IsSoundBody}
use Rattle.meaning.specs.SystemFiles.{body_of, is_uncovered_line, pair_of, pairs_with, with_lines}
use Rattle.pair_lj.specs.declared.pair_settings.PairCoefficients.{PairCoefficients}
use Rattle.pair_lj.specs.Pairs.{IsSoundPair, is_covered, set_pair}
use Rattle.pair_lj.proofs.SetLemmas.{set_pair_sound}

-- the cutoff that counts of a line
counts : (cutoff : ℤ) (own : Option ℤ) (sigma : ℤ) → IsCutoff cutoff → IfSome own (λ c. (pos 0 <ℤ c) × (c ≤ℤ MAX_CUTOFF) × (sigma ≤ℤ (pos 4 *ℤ c))) → (pos 0 <ℤ unwrap_or own cutoff) × (unwrap_or own cutoff ≤ℤ MAX_CUTOFF)
counts cutoff None sigma h own = (h.low, h.high)
counts cutoff (Some c) sigma h own = (own.0, own.1)

covers : (p : PairCoefficients) → not (is_covered p.cutoff p) ≡ false → p.sigma ≤ℤ (pos 4 *ℤ p.cutoff)
covers p e = grind (arith, ints, nat_tests)

-- a line sets a sound pair
line_sound : (kinds : ℕ) (cutoff : ℤ) (p : PairLine) → kinds ≤ MAX_KINDS → IsCutoff cutoff → IsPairLine kinds p → is_uncovered_line cutoff p ≡ false → IsSoundPair (pair_of cutoff p)
line_sound kinds cutoff p few h line e =
    let c = counts cutoff p.cutoff p.sigma h line.cutoff in
    record {
      low = line.kind.0;
      ordered = omega arith;
      high = omega (arith, line.kind.1, few);
      epsilon_low = line.epsilon_low;
      epsilon_high = line.epsilon_high;
      sigma_low = line.sigma_low;
      sigma_high = line.sigma_high;
      cutoff_low = c.0;
      cutoff_high = c.1;
      covered = covers (pair_of cutoff p) e;
    }

any_head : (a b : Bool) → (a || b) ≡ false → a ≡ false
any_head true b e = cc
any_head false b e = refl

any_tail : (a b : Bool) → (a || b) ≡ false → b ≡ false
any_tail true b e = cc
any_tail false b e = e

lines_sound : (kinds : ℕ) (cutoff : ℤ) (lines : List PairLine) (pairs : List PairCoefficients) → kinds ≤ MAX_KINDS → IsCutoff cutoff → All (IsPairLine kinds) lines
    → list_any (is_uncovered_line cutoff) lines ≡ false → All IsSoundPair pairs → All IsSoundPair (with_lines cutoff lines pairs)
lines_sound kinds cutoff [] pairs few h all e g = g
lines_sound kinds cutoff (p ∷ lines) pairs few h all e g =
    lines_sound kinds cutoff lines (set_pair (pair_of cutoff p) pairs) few h (All-tail (IsPairLine kinds) p lines all) (any_tail (is_uncovered_line cutoff p) (list_any (is_uncovered_line cutoff) lines) e)
    (set_pair_sound (pair_of cutoff p) pairs (line_sound kinds cutoff p few h (All-head (IsPairLine kinds) p lines all) (any_head (is_uncovered_line cutoff p) (list_any (is_uncovered_line cutoff) lines) e)) g)

by_cover : (kinds : ℕ) (cutoff : ℤ) (lines : List PairLine) (pairs : List PairCoefficients) (b : Bool) → list_any (is_uncovered_line cutoff) lines ≡ b → kinds ≤ MAX_KINDS → IsCutoff cutoff → All (IsPairLine kinds) lines → All IsSoundPair pairs
    → IfOk (cond b (Err DataLine) (Ok (with_lines cutoff lines pairs))) (All IsSoundPair)
by_cover kinds cutoff lines pairs true e few h all g = tt
by_cover kinds cutoff lines pairs false e few h all g = lines_sound kinds cutoff lines pairs few h all e g

by_none : (lines : List PairLine) (pairs : List PairCoefficients) (b : Bool) → All IsSoundPair pairs → IfOk (cond b (Ok pairs) (Err DataLine)) (All IsSoundPair)
by_none lines pairs true g = g
by_none lines pairs false g = tt

pub pairs_sound : (kinds : ℕ) (style : Option ℤ) (lines : List PairLine) (pairs : List PairCoefficients) → kinds ≤ MAX_KINDS → IfSome style IsCutoff → All (IsPairLine kinds) lines → All IsSoundPair pairs → IfOk (pairs_with style lines pairs) (All IsSoundPair)
pairs_sound kinds None lines pairs few h all g = by_none lines pairs _ g
pairs_sound kinds (Some cutoff) lines pairs few h all g = by_cover kinds cutoff lines pairs _ refl few h all g

-- no force is within each bound
atom_sound : (s : Sides) (kinds n : ℕ) (a : Atom) → kinds ≡ n → IsAtom s kinds a → IsSoundAtom s n a
atom_sound s kinds n a e h = record {
  inside = h.inside;
  kind_low = h.kind.0;
  kind_high = omega (arith, h.kind.1, e);
  id_low = h.id_low;
  id_high = h.id_high;
  v = h.v;
  f = subst (λ (v : List ℤ). IsWithin (unsigned_abs MAX_FORCE) v) (sym h.f) (omega arith, omega arith, omega arith);
  image = h.image;
}

body_sound : (s : Settings) (c : Contents) → IsSound s → IsSoundSides c.sides → IsSoundSet s.setup.style s.setup.dim c → IsSoundBody (body_of c)
body_sound s c old sides h = record {
  step = omega arith;
  sides = sides;
  some = omega (arith, h.kinds.some, h.kinds.masses);
  kinds = omega (arith, h.kinds.atoms, h.kinds.masses);
  mass = h.kinds.mass;
  few = h.bound.few_atoms;
  atoms = All-weaker (IsAtom c.sides (slice_index c.kinds 0)) (IsSoundAtom c.sides (length c.mass)) (λ a. atom_sound c.sides (slice_index c.kinds 0) (length c.mass) a (sym h.kinds.masses)) c.atoms h.bound.atoms;
  rising = h.bound.rising;
  bonds = h.bound.without_bonds (ap has_bonds old.setup.style);
  angles = h.bound.without_angles (ap has_angles old.setup.style);
}

pub taken_sound : (s : Settings) (c : Contents) (pairs : List PairCoefficients) → IsSound s → IsSoundSides c.sides → IsSoundSet s.setup.style s.setup.dim c → All IsSoundPair pairs
    → IsSound (record s { body = Some (body_of c); force = record s.force { pairs = pairs } })
taken_sound s c pairs old sides h g = record {
  setup = old.setup;
  force = record { style = old.force.style; pairs = g; comm_low = old.force.comm_low; comm_high = old.force.comm_high; skin_low = old.force.skin_low; skin_high = old.force.skin_high };
  body = body_sound s c old sides h;
  dim = h.dim;
}
