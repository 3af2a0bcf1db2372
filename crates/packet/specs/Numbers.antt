use Rattle.std.specs.Prelude.{ℕ, ◌+◌, ◌*◌, ◌/◌, ◌%◌, List, [], ◌∷◌, sum, slice_index}

-- the checksum of some bytes: their sum modulo 256
abbrev pub checksum_of : List ℕ → ℕ
checksum_of bs = sum bs % 256

-- the sum that goes with a password: its bytes added up
abbrev pub password_sum : List ℕ → ℕ
password_sum bs = sum bs

-- the number in the two bytes from a place on, low byte first
abbrev pub le16 : List ℕ → ℕ → ℕ
le16 bs i = slice_index bs i + slice_index bs (i + 1) * 256

-- the number in the four bytes from a place on, low byte first
abbrev pub le32 : List ℕ → ℕ → ℕ
le32 bs i = slice_index bs i + slice_index bs (i + 1) * 256 + slice_index bs (i + 2) * 65536
    + slice_index bs (i + 3) * 16777216

-- the two bytes of a number, low byte first
abbrev pub bytes16 : ℕ → List ℕ
bytes16 n = n % 256 ∷ n / 256 % 256 ∷ []

-- the four bytes of a number, low byte first
abbrev pub bytes32 : ℕ → List ℕ
bytes32 n = n % 256 ∷ n / 256 % 256 ∷ n / 65536 % 256 ∷ n / 16777216 % 256 ∷ []
