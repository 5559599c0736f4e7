-- Near places: the lesser first, and both in the list.
use Rattle.std.proofs.Common.{◌+◌, ◌<◌, ◌≤◌, ℕ, List, [], ◌∷◌, length, arith}
use Rattle.std.specs.List.{All}
use Rattle.std.proofs.lemmas.List.Elements.{All-append, All-cons, All-filter, All-map, All-nil, All-weaker}
use Rattle.box_geo.specs.declared.atoms.Atom.{Atom}
use Rattle.box_geo.specs.declared.sim_box.Sides.{Sides}
use Rattle.ghost_shell.specs.Lists.{are_near, near_places}
use Rattle.rank_grid.specs.Owned.{numbered}
use Rattle.sums.specs.Totals.{half}

-- places from k on, below an end
places_from : (k n : ℕ) (atoms : List Atom) → k + length atoms ≤ n → All (λ e. (k ≤ e.0) × (e.0 < n)) (numbered k atoms)
places_from k n [] le = All-nil (λ e. (k ≤ e.0) × (e.0 < n))
places_from k n (a ∷ atoms) le =
    All-cons (λ e. (k ≤ e.0) × (e.0 < n)) (k, a) (numbered (k + 1) atoms) (omega arith, omega arith)
    (All-weaker (λ e. (k + 1 ≤ e.0) × (e.0 < n)) (λ e. (k ≤ e.0) × (e.0 < n)) (λ e h. (omega (arith, h.0), h.1)) (numbered (k + 1) atoms) (places_from (k + 1) n atoms (omega arith)))

half_rises : (k n : ℕ) (atoms : List Atom) → k + length atoms ≤ n → All (λ p. (p.0.0 < p.1.0) × (p.1.0 < n)) (half (numbered k atoms))
half_rises k n [] le = All-nil (λ p. (p.0.0 < p.1.0) × (p.1.0 < n))
half_rises k n (a ∷ atoms) le =
    All-append (λ p. (p.0.0 < p.1.0) × (p.1.0 < n)) _ (half (numbered (k + 1) atoms))
    (All-map (λ p. (p.0.0 < p.1.0) × (p.1.0 < n)) (λ e. ((k, a), e)) (numbered (k + 1) atoms)
    (All-weaker (λ e. (k + 1 ≤ e.0) × (e.0 < n)) (λ e. (k < e.0) × (e.0 < n)) (λ e h. (omega (arith, h.0), h.1)) (numbered (k + 1) atoms) (places_from (k + 1) n atoms (omega arith))))
    (half_rises (k + 1) n atoms (omega arith))

pub places_rise : (s : Sides) (reach : ℕ) (atoms : List Atom) → All (λ p. (p.0 < p.1) × (p.1 < length atoms)) (near_places s reach atoms)
places_rise s reach atoms =
    All-map (λ p. (p.0 < p.1) × (p.1 < length atoms)) (λ p. (p.0.0, p.1.0)) _
    (All-filter (are_near s reach) (λ p. (p.0.0 < p.1.0) × (p.1.0 < length atoms)) (half (numbered 0 atoms)) (half_rises 0 (length atoms) atoms (omega arith)))
