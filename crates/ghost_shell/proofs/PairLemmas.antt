-- From pairs of places to pairs of atoms.
use Rattle.std.proofs.Common.{◌≡◌, ◌<◌, ◌+◌, ℕ, List, [], ◌∷◌, length, get_or, map, filter, refl, sym, ap, ◌∙◌, arith}
use Rattle.std.specs.List.{All}
use Rattle.std.proofs.lemmas.List.Elements.{All-filter, All-weaker}
use Rattle.box_geo.specs.declared.atoms.Atom.{Atom}
use Rattle.box_geo.specs.declared.sim_box.Sides.{Sides}
use Rattle.box_geo.specs.Sides.{near_image}
use Rattle.rank_grid.specs.Owned.{numbered}
use Rattle.sums.specs.Totals.{half}
use Rattle.ghost_shell.specs.Lists.{are_near, atom_pair, is_short, near_places}
use Rattle.sums.proofs.Lists.{All-half, filter-map, half-map, map-map, map_same}
use Rattle.ghost_shell.proofs.PlaceLemmas.{length-numbered, numbered_at}

-- the elements of numbered ones
elements : {X : Type 0} (m : ℕ) (xs : List X) → map (λ e. e.1) (numbered m xs) ≡ xs
elements m [] = refl
elements m (x ∷ xs) = ap (λ (l : List _). x ∷ l) (elements (m + 1) xs)

stands_at : (atoms : List Atom) (d : Atom) → All (λ e. get_or atoms e.0 d ≡ e.1) (numbered 0 atoms)
stands_at atoms d = λ k e lt.
    let room : k < length atoms = omega (arith, length-numbered 0 atoms) in
    let is = numbered_at 0 atoms k k e d room (omega arith) in
    rw is refl

same_pair : (atoms : List Atom) (d : Atom) (p : (ℕ × Atom) × (ℕ × Atom)) → get_or atoms p.0.0 d ≡ p.0.1 → get_or atoms p.1.0 d ≡ p.1.1 → atom_pair atoms d (p.0.0, p.1.0) ≡ (p.0.1, p.1.1)
same_pair atoms d p f g = cc

pub near_atoms : (s : Sides) (reach : ℕ) (atoms : List Atom) (d : Atom)
    → map (atom_pair atoms d) (near_places s reach atoms) ≡ filter (λ p. is_short reach (near_image s p.0.x p.1.x)) (half atoms)
near_atoms s reach atoms d =
    let es : List (ℕ × Atom) = numbered 0 atoms in
    let kept : List ((ℕ × Atom) × (ℕ × Atom)) = filter (are_near s reach) (half es) in
    let pair : (ℕ × Atom) × (ℕ × Atom) → Atom × Atom = λ p. (p.0.1, p.1.1) in
    map-map (atom_pair atoms d) (λ (p : (ℕ × Atom) × (ℕ × Atom)). (p.0.0, p.1.0)) kept
    ∙ map_same (λ p. atom_pair atoms d (p.0.0, p.1.0)) pair kept
    (All-filter (are_near s reach) (λ p. atom_pair atoms d (p.0.0, p.1.0) ≡ pair p) (half es)
    (All-weaker (λ p. (get_or atoms p.0.0 d ≡ p.0.1) × (get_or atoms p.1.0 d ≡ p.1.1)) (λ p. atom_pair atoms d (p.0.0, p.1.0) ≡ pair p) (λ p h. same_pair atoms d p h.0 h.1) (half es)
    (All-half (λ e. get_or atoms e.0 d ≡ e.1) es (stands_at atoms d))))
    ∙ sym (filter-map (λ (p : Atom × Atom). is_short reach (near_image s p.0.x p.1.x)) pair (half es))
    ∙ ap (filter (λ (p : Atom × Atom). is_short reach (near_image s p.0.x p.1.x))) (sym (half-map (λ e. e.1) es) ∙ ap half (elements 0 atoms))
