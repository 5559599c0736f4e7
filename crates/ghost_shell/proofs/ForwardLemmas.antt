-- Steps of the loop that moves ghosts with their atoms.
use Rattle.std.proofs.Common.{◌≡◌, ◌++◌, ◌<◌, ◌+◌, ℕ, zero, suc, ℤ, List, [], ◌∷◌, length, get_or, map, take, drop, set, append_assoc, refl, sym, ap, ◌∙◌, arith}
use Rattle.std.specs.List.{All}
use Rattle.std.proofs.lemmas.Grind.{common_steps}
use Rattle.std.proofs.lemmas.List.{drop_more, map_more, set_at}
use Rattle.std.proofs.Math.Seq.{get_or-append_seam}
use Rattle.std.proofs.lemmas.List.Elements.{All-map}
use Rattle.box_geo.specs.declared.atoms.Atom.{Atom}
use Rattle.box_geo.specs.declared.sim_box.Sides.{Sides}
use Rattle.box_geo.specs.Sides.{near_image}
use Rattle.ghost_shell.specs.declared.atom.Ghost.{Ghost}
use Rattle.ghost_shell.specs.Images.{moved}
use Rattle.ghost_shell.specs.Ghosts.{IsGhostOf, IsSoundGhost, forwarded, position_at}

pub position_at-get_or : (atoms : List Atom) (k : ℕ) (d : Atom) → k < length atoms → position_at atoms k ≡ (get_or atoms k d).x
position_at-get_or [] k d lt = absurd (omega arith)
position_at-get_or (a ∷ others) zero d lt = refl
position_at-get_or (a ∷ others) (suc k) d lt = position_at-get_or others k d (omega arith)

pub forwarded_is : (s : Sides) (atoms : List Atom) (g : Ghost) (d : Atom) (near x : List ℤ) → g.site.place < length atoms
    → near ≡ near_image s (get_or atoms g.site.place d).x g.reference → x ≡ moved g.built near → record g { site = record g.site { x = x } } ≡ forwarded s atoms g
unfolding forwarded
forwarded_is s atoms g d near x lt is so =
    let at = position_at-get_or atoms g.site.place d lt in
    ap (λ (y : List ℤ). record g { site = record g.site { x = y } })
    (so ∙ ap (moved g.built) (is ∙ ap (λ (p : List ℤ). near_image s p g.reference) (sym at)))

at_seam : {X : Type 0} (front : List X) (x : X) (back : List X) (i : ℕ) (d : X) → length front ≡ i → get_or (front ++ (x ∷ back)) i d ≡ x
at_seam front x back i d e = rw (← e) (get_or-append_seam front x back d)

module _ {X : Type 0} (f : X → X) (xs ys : List X) (i : ℕ) (d : X) (lt : i < length xs) (is : ys ≡ map f (take i xs) ++ drop i xs) where
  done : length (map f (take i xs)) ≡ i
  done = grind (arith, common_steps)

  rest : drop i xs ≡ get_or xs i d ∷ drop (i + 1) xs
  rest = drop_more xs i d lt

  pub untouched : get_or ys i d ≡ get_or xs i d
  untouched = ap (λ (l : List X). get_or l i d) (is ∙ ap (λ (l : List X). map f (take i xs) ++ l) rest) ∙ at_seam (map f (take i xs)) (get_or xs i d) (drop (i + 1) xs) i d done

  pub mapped_more : (y : X) → y ≡ f (get_or xs i d) → set ys i y ≡ map f (take (i + 1) xs) ++ drop (i + 1) xs
  mapped_more y so =
      ap (λ (l : List X). set l i y) (is ∙ ap (λ (l : List X). map f (take i xs) ++ l) rest)
      ∙ set_at (map f (take i xs)) (get_or xs i d) (drop (i + 1) xs) y i done
      ∙ ap (λ (z : X). map f (take i xs) ++ (z ∷ drop (i + 1) xs)) so
      ∙ sym (append_assoc (map f (take i xs)) (f (get_or xs i d) ∷ []) (drop (i + 1) xs))
      ∙ ap (λ (l : List X). l ++ drop (i + 1) xs) (sym (map_more f xs i d lt))

-- what a ghost keeps when it moves
pub forwarded-of : (s : Sides) (atoms : List Atom) (gs : List Ghost) → All (IsGhostOf atoms) gs → All (IsGhostOf atoms) (map (forwarded s atoms) gs)
unfolding forwarded
forwarded-of s atoms gs all = All-map (IsGhostOf atoms) (forwarded s atoms) gs all

pub forwarded-sound : (s : Sides) (atoms : List Atom) (gs : List Ghost) → All (IsSoundGhost s) gs → All (IsSoundGhost s) (map (forwarded s atoms) gs)
unfolding forwarded
forwarded-sound s atoms gs all = All-map (IsSoundGhost s) (forwarded s atoms) gs all
