-- Rows of words that grow by a word at the end, and texts of rows that grow by a row.
use Rattle.std.proofs.Common.{◌≡◌, ◌∙◌, ◌+◌, ◌<◌, ◌≤◌, ◌++◌, ◌∷◌, [], ℕ, ℤ, List, length, map, take, drop, get_or, refl, ap, sym, append_assoc, append-nil, arith}
use Rattle.std.specs.List.{join_with_byte}
use Rattle.std.proofs.lemmas.List.{map_more}
use Rattle.std.proofs.lemmas.Grind.{common_steps}
use Rattle.box_geo.specs.declared.atoms.Atom.{Atom}
use Rattle.box_geo.specs.declared.sim_box.Sides.{Sides}
use Rattle.box_geo.specs.Ids.{Rises}
use Rattle.dump_text.specs.declared.columns.Column.{Column}
use Rattle.dump_text.specs.Frame.{ids_of, line_text, members, row_text, rows_text, separator_at}
use Rattle.dump_text.specs.Walk.{begins_with, ids_from, one_if}
use Rattle.dump_text.proofs.WalkLemmas.{members_more}

-- one more word at the end of a row
pub join_with_byte-push : (words : List (List ℕ)) (word : List ℕ) → join_with_byte 32 (words ++ word ∷ []) ≡ join_with_byte 32 words ++ separator_at (length words) ++ word
join_with_byte-push [] word = refl
join_with_byte-push (a ∷ []) word = sym (append_assoc a (32 ∷ []) word)
join_with_byte-push (a ∷ b ∷ words) word =
    rw (join_with_byte-push (b ∷ words) word) (grind (arith, append_assoc))

-- the row of one more of the columns
pub words_more : {X : Type 0} → (word : X → List ℕ) (xs : List X) (k : ℕ) (d : X) → k < length xs
    → join_with_byte 32 (map word (take (k + 1) xs)) ≡ join_with_byte 32 (map word (take k xs)) ++ separator_at k ++ word (get_or xs k d)
words_more word xs k d h =
    let counted : length (map word (take k xs)) ≡ k = grind (arith, common_steps) in
    rw (map_more word xs k d h, join_with_byte-push, counted) refl

-- rows and further rows
rows_text-append : (s : Sides) (masses : List ℤ) (columns : List Column) (some more : List Atom)
    → rows_text s masses columns (some ++ more) ≡ rows_text s masses columns some ++ rows_text s masses columns more
unfolding rows_text
rows_text-append s masses columns [] more = refl
rows_text-append s masses columns (a ∷ some) more =
    ap (λ (t : List ℕ). line_text (row_text s masses columns a) ++ t) (rows_text-append s masses columns some more)
    ∙ sym (append_assoc (line_text (row_text s masses columns a)) (rows_text s masses columns some) (rows_text s masses columns more))

-- the row of one more of the members
pub rows_more : (s : Sides) (masses : List ℤ) (columns : List Column) (atoms : List Atom) (i : ℕ) (d : Atom) (ids rest text new : List ℕ)
    → i < length atoms → Rises (ids_of (drop i atoms)) → Rises ids → rest ≡ ids_from (get_or atoms i d).id ids
    → new ≡ text ++ rows_text s masses columns (one_if (begins_with rest (get_or atoms i d).id) (get_or atoms i d))
    → new ++ rows_text s masses columns (members rest (drop (i + 1) atoms)) ≡ text ++ rows_text s masses columns (members ids (drop i atoms))
rows_more s masses columns atoms i d ids rest text new h rises_atoms rises_ids e pushed =
    let one = one_if (begins_with rest (get_or atoms i d).id) (get_or atoms i d) in
    let left = members rest (drop (i + 1) atoms) in
    ap (λ (t : List ℕ). t ++ rows_text s masses columns left) pushed
    ∙ append_assoc text (rows_text s masses columns one) (rows_text s masses columns left)
    ∙ ap (λ (t : List ℕ). text ++ t) (sym (rows_text-append s masses columns one left))
    ∙ ap (λ (xs : List Atom). text ++ rows_text s masses columns xs) (sym (members_more atoms i d ids rest h rises_atoms rises_ids e))

none_left : (atoms : List Atom) (i : ℕ) → length atoms ≤ i → drop i atoms ≡ []
none_left atoms i h = grind (arith, common_steps)

-- no atom is left
pub rows_end : (s : Sides) (masses : List ℤ) (columns : List Column) (atoms : List Atom) (i : ℕ) (ids text whole : List ℕ) → length atoms ≤ i
    → text ++ rows_text s masses columns (members ids (drop i atoms)) ≡ whole → text ≡ whole
unfolding rows_text
rows_end s masses columns atoms i ids text whole h e =
    sym (append-nil text)
    ∙ ap (λ (xs : List Atom). text ++ rows_text s masses columns (members ids xs)) (sym (none_left atoms i h)) ∙ e
