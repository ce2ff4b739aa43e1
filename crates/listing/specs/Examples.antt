-- Whole listings by example.
use Rattle.std.specs.Prelude.{◌≡◌, ℕ, List, [], ◌∷◌, ◌++◌, take, None, codes}
use Prim.Native.String.{String}
use Rattle.carrier.specs.declared.endings.Ending.TheVariants.{Clean}
use Rattle.packet.specs.declared.grammar.BodyKind.{BodyKind}
use Rattle.packet.specs.declared.grammar.BodyKind.TheVariants as body
use Rattle.listing.specs.Listings.{lines, listed}

-- a header of one $H with two bytes, a delivered $D with one, a stale $D with none, and the end
abbrev pub header_bytes : List ℕ
header_bytes = 0x24 ∷ 0x48 ∷ 0x0A ∷ 0x00 ∷ 0x00 ∷ 0x00 ∷ 0x00 ∷ 0x00 ∷ 0x05 ∷ 0x0C ∷ 0x0A ∷ 0x00 ∷ 0xAA ∷ 0xBB ∷ []

abbrev pub data_bytes : List ℕ
data_bytes = 0x24 ∷ 0x44 ∷ 0x09 ∷ 0x00 ∷ 0x07 ∷ 0x00 ∷ 0x00 ∷ 0x00 ∷ 0x05 ∷ 0x00 ∷ 0x09 ∷ 0x00 ∷ 0xCC ∷ []

abbrev pub stale_bytes : List ℕ
stale_bytes = 0x24 ∷ 0x44 ∷ 0x08 ∷ 0x00 ∷ 0x08 ∷ 0x00 ∷ 0x00 ∷ 0x00 ∷ 0x04 ∷ 0x01 ∷ 0x08 ∷ 0x00 ∷ []

abbrev pub end_bytes : List ℕ
end_bytes = 0x24 ∷ 0x45 ∷ 0x04 ∷ 0x00 ∷ 0x00 ∷ 0x00 ∷ 0x00 ∷ 0x00 ∷ []

abbrev pub sample_body : List ℕ
sample_body = header_bytes ++ (data_bytes ++ (stale_bytes ++ end_bytes))

-- the same body, recorded as pieces of 1 and 46 bytes with a clean ending
abbrev pub sample_capture : List ℕ
sample_capture = (2 ∷ 0 ∷ 0 ∷ 0 ∷ 1 ∷ 0 ∷ 0 ∷ 0 ∷ 46 ∷ 0 ∷ 0 ∷ 0 ∷ []) ++ ((47 ∷ 0 ∷ 0 ∷ 0 ∷ []) ++ (sample_body ++ (1 ∷ 0 ∷ 0 ∷ 0 ∷ 0 ∷ [])))

abbrev whole : BodyKind → List ℕ → List ℕ
whole b bs = lines b None bs Clean

-- listings, each with its text: the capture; its body, and the body cut behind 39 bytes; a wrong mark and a wrong PacketLength; a $D where a header is due; and empty bodies of two kinds
abbrev pub examples : List (List ℕ × String)
examples =
    (listed sample_capture, "H 0 1 0 5 2 0\nD 14 1 7 5 1 0\nS 27 1 8 4 0 0\nE 39 1 0 0 0 0\n. 47\n")
    ∷ (whole body.Play sample_body, "H 0 1 0 5 2 0\nD 14 1 7 5 1 0\nS 27 1 8 4 0 0\nE 39 1 0 0 0 0\n. 47\n")
    ∷ (whole body.Play (take 39 sample_body), "H 0 1 0 5 2 0\nD 14 1 7 5 1 0\nS 27 1 8 4 0 0\n! 28 39\n")
    ∷ (whole body.Play (0x25 ∷ 0x48 ∷ 0x0A ∷ 0x00 ∷ []), "! 21 0\n")
    ∷ (whole body.Play (0x24 ∷ 0x45 ∷ 0x05 ∷ 0x00 ∷ []), "! 23 0\n")
    ∷ (whole body.Play data_bytes, "! 26 0\n")
    ∷ (whole body.PlayNext [], ". 0\n")
    ∷ (whole body.Play [], "! 28 0\n")
    ∷ []

-- each is that text
abbrev pub Reads : List (List ℕ × String) → Type 0
Reads [] = Unit {0}
Reads (example ∷ rest) = (example.0 ≡ codes example.1) × Reads rest

abbrev pub ExampleListings : Type 0
ExampleListings = Reads examples
