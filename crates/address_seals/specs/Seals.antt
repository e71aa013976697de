-- Seals of addresses: what a node puts behind the path of an address that it gives out, so that nobody else can make one.
use Rattle.std.specs.Prelude.{ℕ, List, ◌++◌, ◌-◌, ◌≡◌, Option, Some, None, bit_xor, bytes_eq, codes, if◌then◌else◌, length, map, replicate, take}
use Rattle.hex.specs.Hex.{encode_lower}
use Rattle.sha2.specs.Sha256.{sha256}

-- A key of at most 64 bytes, filled up with zeros to a block of the hash (RFC 2104, section 2).
abbrev pub block_of : List ℕ → List ℕ
block_of key = key ++ replicate (64 - length key) 0

-- each byte with this one
abbrev pub xored : ℕ → List ℕ → List ℕ
xored pad bytes = map (λ byte. bit_xor byte pad) bytes

abbrev pub padded : ℕ → List ℕ → List ℕ
padded pad key = xored pad (block_of key)

-- HMAC with SHA-256 (RFC 2104, section 2; FIPS 180-4).
unfoldable pub hmac : List ℕ → List ℕ → List ℕ
hmac key text = sha256 (padded 0x5c key ++ sha256 (padded 0x36 key ++ text))

-- The seal of a path under a node's secret: the first 16 bytes of that (RFC 2104, section 5), in hexadecimal.
abbrev pub seal_of : List ℕ → List ℕ → List ℕ
seal_of secret path = encode_lower (take 16 (hmac secret path))

-- what stands behind a sealed path: a slash and the seal
abbrev pub end_of : List ℕ → List ℕ → List ℕ
end_of secret path = codes "/" ++ seal_of secret path

-- the path with that
abbrev pub sealed : List ℕ → List ℕ → List ℕ
sealed secret path = path ++ end_of secret path

-- a text without its last 33 bytes, which a slash and a seal have
abbrev pub front_of : List ℕ → List ℕ
front_of text = take (length text - 33) text

-- The path that such a text seals; none where its end isn't the seal of what stands before.
abbrev pub opened : List ℕ → List ℕ → Option (List ℕ)
opened secret text = if bytes_eq text (sealed secret (front_of text)) then Some (front_of text) else None

-- What is sealed is opened, under the same secret; and nothing else is.
abbrev pub SealsOpen : Type 0
SealsOpen = (secret path : List ℕ) → opened secret (sealed secret path) ≡ Some path

abbrev pub SealsAlone : Type 0
SealsAlone = (secret path text : List ℕ) → opened secret text ≡ Some path → text ≡ sealed secret path
