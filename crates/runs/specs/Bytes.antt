-- Byte strings that are packets one behind the other, and bodies.
use Rattle.std.specs.Prelude.{◌≡◌, ℕ, List, [], ◌∷◌, ◌++◌, Option}
use Rattle.packet.specs.declared.wire.Packet.{Packet}
use Rattle.packet.specs.declared.grammar.BodyKind.{BodyKind}
use Rattle.bodies.specs.Layout.{ByteString, Laid}
use Rattle.bodies.specs.Grammar.{Body}

-- the bytes bs are the packets ps
abbrev pub Bytes : List Packet → List ℕ → Type 0
Bytes [] bs = bs ≡ []
Bytes (p ∷ ps) bs = (payload ws rest : List ℕ) × Laid p payload ws × (bs ≡ ws ++ rest) × Bytes ps rest

-- the bytes bs are a body of a kind
abbrev pub BodyBytes : BodyKind → Option ℕ → List ℕ → Type 0
BodyBytes b before bs = (ps : List Packet) × Bytes ps bs × Body b before ps

-- some body of the kind begins with the bytes bs, and goes on in bytes
abbrev pub BeginsABody : BodyKind → Option ℕ → List ℕ → Type 0
BeginsABody b before bs = (rest : List ℕ) × ByteString rest × BodyBytes b before (bs ++ rest)
