-- Rows of cells that grow by a cell at the end.
use Rattle.std.proofs.Common.{◌≡◌, ◌+◌, ◌<◌, ◌++◌, ◌∷◌, [], ℕ, List, length, map, take, get_or, refl, sym, append_assoc, arith}
use Rattle.std.specs.List.{join_with_byte}
use Rattle.std.proofs.lemmas.List.{map_more}
use Rattle.std.proofs.lemmas.Grind.{common_steps}
use Rattle.thermo_text.specs.Thermo.{separator_at}

-- one more cell at the end of a row
pub join_with_byte-push : (cells : List (List ℕ)) (cell : List ℕ) → join_with_byte 32 (cells ++ cell ∷ []) ≡ join_with_byte 32 cells ++ separator_at (length cells) ++ cell
join_with_byte-push [] cell = refl
join_with_byte-push (a ∷ []) cell = sym (append_assoc a (32 ∷ []) cell)
join_with_byte-push (a ∷ b ∷ cells) cell =
    rw (join_with_byte-push (b ∷ cells) cell) (grind (arith, append_assoc))

-- the row of one more of the columns
pub cells_more : {X : Type 0} → (cell : X → List ℕ) (xs : List X) (k : ℕ) (d : X) → k < length xs
    → join_with_byte 32 (map cell (take (k + 1) xs)) ≡ join_with_byte 32 (map cell (take k xs)) ++ separator_at k ++ cell (get_or xs k d)
cells_more cell xs k d h =
    let counted : length (map cell (take k xs)) ≡ k = grind (arith, common_steps) in
    rw (map_more cell xs k d h, join_with_byte-push, counted) refl
