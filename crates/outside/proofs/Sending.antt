-- Sending goes on: what was sent by one call and then by another.
use Rattle.std.specs.Prelude.{◌≡◌, List, [], ◌∷◌, ◌++◌, Option, Some, None, refl}
use Rattle.std.proofs.Common.{sym, ◌∙◌, ap, append_assoc, append-nil}
use Rattle.outside.specs.Sent.{plus, cut_piece, PutsCut, SendsFront, SendsCut}
use Rattle.outside.specs.declared.press.Piece.{Piece}

-- pieces added after pieces
pub plus-plus : (old : Option (List Piece)) (ps qs : List Piece) → plus (plus old ps) qs ≡ plus old (ps ++ qs)
plus-plus None ps qs = refl
plus-plus (Some old) ps qs = ap Some (append_assoc old ps qs)

-- no piece added
pub plus-nil : (old : Option (List Piece)) → plus old [] ≡ old
plus-nil None = refl
plus-nil (Some old) = ap Some (append-nil old)

-- what was sent as a whole, and then more
pub plus_after : (old : Option (List Piece)) {mid new : Option (List Piece)} (ps qs : List Piece) → mid ≡ plus old ps → new ≡ plus mid qs → new ≡ plus old (ps ++ qs)
plus_after old ps qs first then = then ∙ ap (λ w. plus w qs) first ∙ plus-plus old ps qs

-- the same, one piece first
pub plus_first : (old : Option (List Piece)) {mid new : Option (List Piece)} (p : Piece) (qs : List Piece) → mid ≡ plus old (p ∷ []) → new ≡ plus mid qs → new ≡ plus old (p ∷ qs)
plus_first old p qs first then = plus_after old (p ∷ []) qs first then

-- a front of the pieces is a front of the pieces and more
pub SendsFront-more : {old new : Option (List Piece)} {ps : List Piece} (qs : List Piece) → SendsFront old ps new → SendsFront old (ps ++ qs) new
SendsFront-more {old} {new} {ps} qs h =
    record { done = h.done; rest = h.rest ++ qs; pieces_are = ap (λ w. w ++ qs) h.pieces_are ∙ append_assoc h.done h.rest qs; new_is = h.new_is }

-- the pieces and then a front of more are a front of all
pub SendsFront-after : {old mid new : Option (List Piece)} (ps : List Piece) {qs : List Piece} → mid ≡ plus old ps → SendsFront mid qs new → SendsFront old (ps ++ qs) new
SendsFront-after {old} ps first h =
    record {
      done = ps ++ h.done;
      rest = h.rest;
      pieces_are = ap (λ w. ps ++ w) h.pieces_are ∙ sym (append_assoc ps h.done h.rest);
      new_is = plus_after old ps h.done first h.new_is;
    }

-- the same, one piece first
pub SendsFront-first : {old mid new : Option (List Piece)} {p : Piece} {qs : List Piece} → mid ≡ plus old (p ∷ []) → SendsFront mid qs new → SendsFront old (p ∷ qs) new
SendsFront-first {old} {mid} {new} {p} {qs} first h = SendsFront-after (p ∷ []) first h

-- nothing sent is a front
pub SendsFront-none : (old : Option (List Piece)) (ps : List Piece) → SendsFront old ps old
SendsFront-none old ps = record { done = []; rest = ps; pieces_are = refl; new_is = sym (plus-nil old) }

-- the same, where the press stands as before by an equation
pub SendsFront-same : {old new : Option (List Piece)} (ps : List Piece) → new ≡ old → SendsFront old ps new
SendsFront-same {old} ps same = record { done = []; rest = ps; pieces_are = refl; new_is = same ∙ sym (plus-nil old) }

-- all of the pieces are a front
pub SendsFront-all : {old new : Option (List Piece)} {ps : List Piece} → new ≡ plus old ps → SendsFront old ps new
SendsFront-all {old} {new} {ps} all = record { done = ps; rest = []; pieces_are = sym (append-nil ps); new_is = all }

-- a piece that was cut is a cut of it alone
pub PutsCut-sends : {old new : Option (List Piece)} {piece : Piece} → PutsCut old piece new → SendsCut old (piece ∷ []) new
PutsCut-sends {old} {new} {piece} h =
    record { done = []; next = piece; rest = []; kept = h.kept; pieces_are = refl; new_is = h.new_is }

-- a cut of the pieces is a cut of the pieces and more
pub SendsCut-more : {old new : Option (List Piece)} {ps : List Piece} (qs : List Piece) → SendsCut old ps new → SendsCut old (ps ++ qs) new
SendsCut-more {old} {new} {ps} qs h =
    record {
      done = h.done;
      next = h.next;
      rest = h.rest ++ qs;
      kept = h.kept;
      pieces_are = ap (λ w. w ++ qs) h.pieces_are ∙ append_assoc h.done (h.next ∷ h.rest) qs;
      new_is = h.new_is;
    }

-- the pieces and then a cut of more are a cut of all
pub SendsCut-after : {old mid new : Option (List Piece)} (ps : List Piece) {qs : List Piece} → mid ≡ plus old ps → SendsCut mid qs new → SendsCut old (ps ++ qs) new
SendsCut-after {old} ps first h =
    record {
      done = ps ++ h.done;
      next = h.next;
      rest = h.rest;
      kept = h.kept;
      pieces_are = ap (λ w. ps ++ w) h.pieces_are ∙ sym (append_assoc ps h.done (h.next ∷ h.rest));
      new_is = plus_after old ps (h.done ++ cut_piece h.next h.kept ∷ []) first h.new_is ∙ ap (λ w. plus old w) (sym (append_assoc ps h.done (cut_piece h.next h.kept ∷ [])));
    }

-- the same, one piece first
pub SendsCut-first : {old mid new : Option (List Piece)} {p : Piece} {qs : List Piece} → mid ≡ plus old (p ∷ []) → SendsCut mid qs new → SendsCut old (p ∷ qs) new
SendsCut-first {old} {mid} {new} {p} {qs} first h = SendsCut-after (p ∷ []) first h

-- a piece that was cut stands first in the pieces
pub PutsCut-first : {old new : Option (List Piece)} {piece : Piece} (qs : List Piece) → PutsCut old piece new → SendsCut old (piece ∷ qs) new
PutsCut-first qs h = SendsCut-more qs (PutsCut-sends h)
