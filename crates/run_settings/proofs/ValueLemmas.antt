-- The values of a variable for atoms, and the ids of those for which it is not 0.
use Rattle.std.proofs.Common.{◌≡◌, ℕ, ℤ, Option, Some, None, Result, Ok, Err, List, ap, subst, ◌∙◌}
use Rattle.box_geo.specs.declared.atoms.Atom.{Atom}
use Rattle.box_geo.specs.Ids.{Rises}
use Rattle.fx_num.specs.declared.numbers.Number.{Number}
use Rattle.meaning.specs.declared.code.Code.{Code}
use Rattle.meaning.specs.MassesGroups.{ids_of}
use Rattle.meaning.specs.ValueGroups.{first_code, is_nonzero, nonzero_ids, unless_coded, valued_ids}
use Rattle.run_settings.proofs.MemberLemmas.{rises_where}
use Rattle.variable_values.specs.Values.{KnownNumbers}

rises_uncoded : (why : Option Code) (all ids : List ℕ) → Rises all → unless_coded why all ≡ Ok ids → Rises ids
rises_uncoded None all ids r h = let same : all ≡ ids = cc in subst (λ (l : List ℕ). Rises l) same r
rises_uncoded (Some why) all ids r h = cc

pub rises_valued : (value : Atom → Result ℤ Code) (atoms : List Atom) (ids : List ℕ) → Rises (ids_of atoms) → valued_ids value atoms ≡ Ok ids → Rises ids
rises_valued value atoms ids r h =
    rises_uncoded (first_code value atoms) (nonzero_ids value atoms) ids (rises_where (λ (a : Atom). is_nonzero (value a)) atoms r) h

-- the numbers that are known of an atom
known_of : List Number → List Number → KnownNumbers
known_of state own = record { state = state; atom = own }

pub known_for : (k : KnownNumbers) (state own state' own' : List Number) → k ≡ record { state = state; atom = own } → state ≡ state' → own ≡ own' → k ≡ record { state = state'; atom = own' }
unfolding known_of
known_for k state own state' own' is s o = is ∙ ap (λ (l : List Number). known_of l own) s ∙ ap (λ (l : List Number). known_of state' l) o
