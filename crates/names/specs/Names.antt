-- Names of files, and ids.
use Rattle.std.specs.Char.{is_ascii_alphanumeric}
use Rattle.std.specs.Prelude.{◌==◌, ◌&&◌, ◌||◌, Bool, false, not, ℕ, nat_le, nat_eq, List, [], ◌∷◌, length, codes}
use Rattle.std.specs.List.{list_all, ends_with}
use Rattle.box_geo.specs.declared.limits.TheConstants.{MAX_FILE_NAME_BYTES, MAX_NAME_BYTES}

-- printable ASCII, but no blank, quote, `*` or `%`
abbrev pub is_name_byte : ℕ → Bool
is_name_byte c = nat_le 33 c && nat_le c 126 && not (c == 34) && not (c == 39) && not (c == 42) && not (c == 37)

-- the name of a file: 1 to MAX_FILE_NAME_BYTES such bytes
abbrev pub is_file_name : List ℕ → Bool
is_file_name name = nat_le 1 (length name) && nat_le (length name) MAX_FILE_NAME_BYTES && list_all is_name_byte name

-- a name that stands for a compressed file
abbrev pub is_compressed : List ℕ → Bool
is_compressed name =
    ends_with nat_eq name (codes ".gz") || ends_with nat_eq name (codes ".bz2") || ends_with nat_eq name (codes ".xz") || ends_with nat_eq name (codes ".zst") || ends_with nat_eq name (codes ".lz4")

-- an ASCII digit, letter or `_`
abbrev pub is_id_byte : ℕ → Bool
is_id_byte c = is_ascii_alphanumeric c || (c == 95)

-- an id, as of a fix, or the name of a variable: 1 to MAX_NAME_BYTES such bytes
abbrev pub is_id : List ℕ → Bool
is_id name = nat_le 1 (length name) && nat_le (length name) MAX_NAME_BYTES && list_all is_id_byte name

-- `c_` and an id, as formulas and columns name a compute
abbrev pub is_compute : List ℕ → Bool
is_compute [] = false
is_compute (a ∷ []) = false
is_compute (a ∷ b ∷ id) = (a == 99) && (b == 95) && is_id id
