-- What a press was sent. A press that does not tell has `None`.
use Rattle.std.specs.Prelude.{◌≡◌, ℕ, Bool, List, [], ◌∷◌, ◌++◌, take, Option, Some, None}
use Rattle.outside.specs.declared.press.Piece.{Piece}

-- what contracts see of a press: the pieces that it was sent, or `None` where it does not tell; and how often it failed
pub record Pressed : Type 0 where
  pub sent : Option (List Piece)
  pub faults : ℕ

-- what was sent, and then these pieces
abbrev pub plus : Option (List Piece) → List Piece → Option (List Piece)
plus None pieces = None
plus (Some old) pieces = Some (old ++ pieces)

-- a piece of the file with this name
abbrev pub piece_of : List ℕ → Bool → List ℕ → Piece
piece_of name fresh bytes = record { name = name; fresh = fresh; bytes = bytes }

-- the piece with only the first `kept` of its bytes
abbrev pub cut_piece : Piece → ℕ → Piece
cut_piece piece kept = record piece { bytes = take kept piece.bytes }

-- to what was sent before, this piece was added with a front of its bytes
pub record PutsCut (old : Option (List Piece)) (piece : Piece) (new : Option (List Piece)) : Type 0 where
  pub kept : ℕ
  pub new_is : new ≡ plus old (cut_piece piece kept ∷ [])

-- to what was sent before, a front of the pieces was added
pub record SendsFront (old : Option (List Piece)) (pieces : List Piece) (new : Option (List Piece)) : Type 0 where
  pub done : List Piece
  pub rest : List Piece
  pub pieces_are : pieces ≡ done ++ rest
  pub new_is : new ≡ plus old done

-- to what was sent before, a front of the pieces was added, and of the next piece a front of its bytes, under its
-- name and with its freshness
pub record SendsCut (old : Option (List Piece)) (pieces : List Piece) (new : Option (List Piece)) : Type 0 where
  pub done : List Piece
  pub next : Piece
  pub rest : List Piece
  pub kept : ℕ
  pub pieces_are : pieces ≡ done ++ next ∷ rest
  pub new_is : new ≡ plus old (done ++ cut_piece next kept ∷ [])
