-- Bytes in quotes, as strace(1) prints a string.
use Rattle.std.specs.Prelude.{◌++◌, ◌+◌, ◌/◌, ◌%◌, ◌==◌, ◌&&◌, ℕ, Bool, List, [], ◌∷◌, codes, nat_le, if◌then◌else◌}
use Rattle.std.specs.List.{flat_map}

-- a backslash and three octal digits
abbrev pub octal : ℕ → List ℕ
octal byte = 92 ∷ (48 + byte / 64) ∷ (48 + byte / 8 % 8) ∷ (48 + byte % 8) ∷ []

-- a printing character of ASCII, or the space
abbrev pub is_printed : ℕ → Bool
is_printed byte = nat_le 0x20 byte && nat_le byte 0x7e

-- a byte in quotes: the escapes of C, a printing character as it is, and any other by its number
unfoldable pub escaped : ℕ → List ℕ
escaped byte =
    if byte == 10 then codes "\\n"
    else if byte == 9 then codes "\\t"
    else if byte == 11 then codes "\\v"
    else if byte == 12 then codes "\\f"
    else if byte == 13 then codes "\\r"
    else if byte == 34 then codes "\\\""
    else if byte == 92 then codes "\\\\"
    else if is_printed byte then byte ∷ []
    else octal byte

abbrev pub quoted : List ℕ → List ℕ
quoted bytes = 34 ∷ (flat_map escaped bytes ++ 34 ∷ [])

-- with dots after it, where there are more bytes
abbrev pub shortened : Bool → List ℕ → List ℕ
shortened more bytes = quoted bytes ++ (if more then codes "..." else [])
