-- Chunked bodies, by the grammar of RFC 2616, section 3.6.1:
--
--   Chunked-Body  = *chunk last-chunk trailer CRLF
--   chunk         = size line, chunk-data CRLF
--   last-chunk    = size line that says 0
--   trailer       = *(line CRLF)
--
-- It is narrowed by three bounds (8 digits, 256 bytes of extension, 1,024 bytes of trailer), and widened in that an extension
-- and a trailer's lines may hold any bytes that do not end them.
use Rattle.std.specs.Prelude.{◌≡◌, ℕ, ◌+◌, ◌*◌, ◌^◌, ◌<◌, ◌≤◌, ◌≢◌, List, [], ◌∷◌, ◌++◌, length, Some}
use Rattle.chunks.specs.Machine.{digit_of}

abbrev pub CRLF : List ℕ
CRLF = 13 ∷ 10 ∷ []

-- hexadecimal digits, and the number that they say
pub data Hex : List ℕ → ℕ → Type 0 where
  none : Hex [] 0
  digit : {b d v : ℕ} {hs : List ℕ} → digit_of b ≡ Some d → Hex hs v → Hex (b ∷ hs) (d * 16 ^ length hs + v)

-- neither CR nor LF among the bytes
abbrev pub Plain : List ℕ → Type 0
Plain [] = Unit {0}
Plain (b ∷ bs) = (b ≢ 13) × (b ≢ 10) × Plain bs

-- of at most 256 bytes with its `;`
pub data Extension : List ℕ → Type 0 where
  absent : Extension []
  present : {cs : List ℕ} → Plain cs → length cs ≤ 255 → Extension (59 ∷ cs)

-- a size line that says a number
pub record SizeLine (bs : List ℕ) (size : ℕ) : Type 0 where
  pub digits : List ℕ
  pub extension : List ℕ
  pub says : Hex digits size
  pub some : 0 < length digits
  pub few : length digits ≤ 8
  pub extends : Extension extension
  pub is : bs ≡ digits ++ (extension ++ CRLF)

-- no CR LF among the bytes
abbrev pub Unbroken : List ℕ → Type 0
Unbroken [] = Unit {0}
Unbroken (b ∷ []) = Unit {0}
Unbroken (b ∷ c ∷ bs) = (b ≡ 13 → c ≢ 10) × Unbroken (c ∷ bs)

-- a trailer's lines, none of them empty, and the empty line that ends them
pub data Lines : List ℕ → Type 0 where
  blank : Lines CRLF
  line : (x : List ℕ) {t : List ℕ} → 0 < length x → Unbroken x → Lines t → Lines (x ++ (CRLF ++ t))

-- a chunked body, and its data
pub data Body : List ℕ → List ℕ → Type 0 where
  last : {l t : List ℕ} → SizeLine l 0 → Lines t → length t ≤ 1024 → Body (l ++ t) []
  chunk : {l bs ds : List ℕ} (d : List ℕ) → SizeLine l (length d) → 0 < length d → Body bs ds → Body (l ++ (d ++ (CRLF ++ bs))) (d ++ ds)
