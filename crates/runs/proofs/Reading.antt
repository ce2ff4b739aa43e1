-- A packet is read whole from the bytes that it is laid out in, and what is read whole is laid out so.
use Rattle.std.proofs.Common.{◌≡◌, ℕ, suc, ◌+◌, ◌-◌, ◌≤◌, Bool, true, false, cond, eqb, leb, List, [], ◌∷◌, ◌++◌, length, take, drop, Some, None, Ok, Err, Option, Result, sym, refl, ap, ◌∙◌, subst, inl, inr, arith, length-append, take-append-drop, length-take, eq-eqb, eqb-true, le-leb, leb-true}
use Rattle.std.proofs.lemmas.Bool.{cond-true, cond_both, cases_cond}
use Rattle.carrier.specs.declared.endings.Ending.{Ending}
use Rattle.carrier.specs.declared.filling.Short.{Short}
use Rattle.packet.specs.declared.wire.Kind.{Kind}
use Rattle.packet.specs.declared.wire.Kind.TheVariants as kind
use Rattle.packet.specs.declared.wire.Head.{Head}
use Rattle.packet.specs.declared.wire.Fields.{Fields}
use Rattle.packet.specs.declared.wire.Packet.{Packet}
use Rattle.packet.specs.Wire.{mark, kind_of, le2, of_kind, head_of, lawful, framed, fixed, fields_of, sized_as, sized}
use Rattle.packet.specs.declared.grammar.PacketFault.{PacketFault}
use Rattle.packet.specs.declared.grammar.PacketFault.TheVariants as fault
use Rattle.receiver.specs.declared.drawing.NoPacket.TheVariants.{CutShort}
use Rattle.receiver.specs.Draws.{packet_of, cut_short, headed, draws, used, front}
use Rattle.bodies.specs.Layout.{letter, Notice, Framed, Laid}

-- the bytes ws are the head of p and as many bytes behind it as it announces, among them p's fields
record Parts (p : Packet) (ws : List ℕ) : Type 0 where
  low : ℕ
  high : ℕ
  rest : List ℕ
  whole : ws ≡ mark ∷ letter p.kind ∷ low ∷ high ∷ rest
  announced : le2 low high ≡ p.length
  allowed : lawful p.kind p.length ≡ true
  long : length rest ≡ p.length
  fields : (r : List ℕ) → fields_of p.kind (rest ++ r) ≡ p.fields
  right : sized p ≡ true

-- each kind of packet has these parts: $C and $E, then $D, $H and $M, then all
notice_parts : (k : Kind) (n : ℕ) (f : Fields) (payload ws : List ℕ)
    → lawful k 4 ≡ true
    → ((bs : List ℕ) → fields_of k bs ≡ fields_of kind.EndOfStream bs)
    → sized_as k f.packet_size n ≡ true
    → Notice (record { kind = k; length = n; fields = f }) payload ws
    → Parts (record { kind = k; length = n; fields = f }) ws
notice_parts k n f payload ws four reads right (l, m, a, b, c, d, is, announced, length-is, fields_are, none) =
    record {
      low = l;
      high = m;
      rest = a ∷ b ∷ c ∷ d ∷ [];
      whole = is;
      announced = announced;
      allowed = rw length-is four;
      long = sym length-is;
      fields = λ r. reads (a ∷ b ∷ c ∷ d ∷ r) ∙ sym fields_are;
      right = right;
    }

framed_parts : (k : Kind) (n : ℕ) (f : Fields) (payload ws : List ℕ)
    → lawful k n ≡ leb 8 n
    → ((bs : List ℕ) → fields_of k bs ≡ framed bs)
    → sized_as k f.packet_size n ≡ eqb f.packet_size n
    → Framed (record { kind = k; length = n; fields = f }) payload ws
    → Parts (record { kind = k; length = n; fields = f }) ws
framed_parts k n f payload ws eight reads compares (l, m, a, b, c, d, i, g, s, t, is, announced, length-is, size_is, fields_are) =
    record {
      low = l;
      high = m;
      rest = a ∷ b ∷ c ∷ d ∷ i ∷ g ∷ s ∷ t ∷ payload;
      whole = is;
      announced = announced;
      allowed = eight ∙ le-leb 8 n (omega arith);
      long = omega arith;
      fields = λ r. reads (a ∷ b ∷ c ∷ d ∷ i ∷ g ∷ s ∷ t ∷ payload ++ r) ∙ sym fields_are;
      right = compares ∙ eq-eqb f.packet_size n (rw fields_are size_is);
    }

parts_as : (k : Kind) (n : ℕ) (f : Fields) (payload ws : List ℕ)
    → Laid (record { kind = k; length = n; fields = f }) payload ws
    → Parts (record { kind = k; length = n; fields = f }) ws
parts_as kind.StreamChange n f payload ws laid = notice_parts kind.StreamChange n f payload ws refl (λ bs. refl) refl laid
parts_as kind.EndOfStream n f payload ws laid = notice_parts kind.EndOfStream n f payload ws refl (λ bs. refl) refl laid
parts_as kind.PacketPair n f payload ws (l, m, is, announced, length-is, fields_are) =
    record { low = l; high = m; rest = payload; whole = is; announced = announced; allowed = refl; long = sym length-is; fields = λ r. sym fields_are; right = refl }
parts_as k n f payload ws laid = framed_parts k n f payload ws refl (λ bs. refl) refl laid

-- the letter of a kind names it
named : (k : Kind) → kind_of (letter k) ≡ Some k
named kind.StreamChange = refl
named kind.Data = refl
named kind.EndOfStream = refl
named kind.Header = refl
named kind.Metadata = refl
named kind.PacketPair = refl

-- reading a packet from its bytes, whatever stands behind them
pub record Read (p : Packet) (ws : List ℕ) : Type 0 where
  pub size : length ws ≡ 4 + p.length
  pub right : sized p ≡ true
  pub drawn_whole : (r : List ℕ) (e : Ending) → draws (ws ++ r) e ≡ Ok p
  pub used_whole : (r : List ℕ) → used (ws ++ r) ≡ length ws
  pub front_whole : (r : List ℕ) → front (ws ++ r) ≡ take (p.length - fixed p.kind) (drop (fixed p.kind) (drop 4 (ws ++ r)))

module _ (p : Packet) (ws : List ℕ) (parts : Parts p ws) where
  open parts use {low, high, rest, whole, announced, allowed, long, fields, right}

  -- the four bytes of the head are read as the kind and the length
  head : head_of (mark ∷ letter p.kind ∷ low ∷ high ∷ []) ≡ Ok (record { kind = p.kind; length = p.length })
  head = rw (named p.kind, announced, allowed)

  module _ (r : List ℕ) where
    four : leb 4 (length (mark ∷ letter p.kind ∷ low ∷ high ∷ (rest ++ r))) ≡ true
    four = le-leb 4 (length (mark ∷ letter p.kind ∷ low ∷ high ∷ (rest ++ r))) (omega arith)

    enough : p.length ≤ length (rest ++ r)
    enough = simp length-append (omega arith)

  -- the parts are read as the packet
  parts_read : Read p ws
  parts_read =
      record {
        size = ap length whole ∙ omega arith;
        right = right;
        drawn_whole = λ r e. rw (whole, four r, head, le-leb p.length (length (rest ++ r)) (enough r), fields r);
        used_whole = λ r. let few = enough r in rw (whole, four r, head) (omega arith);
        front_whole = λ r. rw (whole, four r, head);
      }

-- a packet is read from the bytes that it is laid out in
pub laid_read : (p : Packet) (payload ws : List ℕ) → Laid p payload ws → Read p ws
laid_read p payload ws laid = parts_read p ws (parts_as p.kind p.length p.fields payload ws laid)

-- one test of a letter: it is the letter of that kind, or the other tests decide
named_by : (y : ℕ) (k' k : Kind) (others : Option Kind) → (others ≡ Some k → y ≡ letter k) → cond (eqb y (letter k')) (Some k') others ≡ Some k → y ≡ letter k
named_by y k' k others more =
    cond_both (eqb y (letter k')) (Some k') others (λ o. o ≡ Some k → y ≡ letter k) (λ same is. eqb-true y (letter k') same ∙ ap letter (cc)) (λ other is. more is)

-- a letter that names a kind is its letter
letter_is : (y : ℕ) (k : Kind) → kind_of y ≡ Some k → y ≡ letter k
letter_is y k =
    named_by y kind.StreamChange k _
    (named_by y kind.Data k _
    (named_by y kind.EndOfStream k _
    (named_by y kind.Header k _
    (named_by y kind.Metadata k _
    (named_by y kind.PacketPair k None (λ none. absurd (cc)))))))

-- what four bytes are that make a head
record Headed (x y l m : ℕ) (h : Head) : Type 0 where
  marked : x ≡ mark
  letter_of : y ≡ letter h.kind
  announced : le2 l m ≡ h.length
  allowed : lawful h.kind h.length ≡ true

-- where a result is Ok, the test in front of it has passed
passed : {A E : Type 0} (b : Bool) (r : Result A E) (f : E) (x : A) → cond b r (Err f) ≡ Ok x → (b ≡ true) × (r ≡ Ok x)
passed true r f x is = (refl, is)
passed false r f x is = absurd (cc)

-- a head that is read has the kind and the length, which the kind may have
kind_is : (o : Option Kind) (n : ℕ) (h : Head) → of_kind o n ≡ Ok h → (o ≡ Some h.kind) × (n ≡ h.length) × (lawful h.kind h.length ≡ true)
kind_is None n h is = absurd (cc)
kind_is (Some k) n h is =
    let (ok, made) = passed (lawful k n) (Ok (record { kind = k; length = n })) fault.PacketLength h is in
    let same : record { kind = k; length = n } ≡ h = cc in
    rw (← same) (refl, refl, ok)

head_is : (x y l m : ℕ) (h : Head) → head_of (x ∷ y ∷ l ∷ m ∷ []) ≡ Ok h → Headed x y l m h
head_is x y l m h is =
    let (marks, of) = passed (eqb x mark) (of_kind (kind_of y) (le2 l m)) fault.Mark h is in
    let (names, long, ok) = kind_is (kind_of y) (le2 l m) h of in
    record { marked = eqb-true x mark marks; letter_of = letter_is y h.kind names; announced = long; allowed = ok }

-- a packet that is read from a head and the bytes behind it is laid out in them
notice_out : (k : Kind) (n l m : ℕ) (bs : List ℕ)
    → n ≡ 4
    → le2 l m ≡ n
    → n ≤ length bs
    → Notice (record { kind = k; length = n; fields = fields_of kind.EndOfStream bs }) [] (mark ∷ letter k ∷ l ∷ m ∷ take n bs)
notice_out k n l m (a ∷ b ∷ c ∷ d ∷ more) four announced enough = (l, m, a, b, c, d, rw four refl, announced, four, refl, refl)
notice_out k n l m few four announced enough = absurd (omega arith)

framed_out : (k : Kind) (n l m : ℕ) (bs : List ℕ)
    → 8 ≤ n
    → le2 l m ≡ n
    → n ≤ length bs
    → (framed bs).packet_size ≡ n
    → (payload : List ℕ) × Framed (record { kind = k; length = n; fields = framed bs }) payload (mark ∷ letter k ∷ l ∷ m ∷ take n bs)
framed_out k n l m (a ∷ b ∷ c ∷ d ∷ i ∷ f ∷ s ∷ t ∷ more) eight announced enough size =
    let split : n ≡ suc (suc (suc (suc (suc (suc (suc (suc (n - 8)))))))) = omega arith in (
      take (n - 8) more,
      (l, m, a, b, c, d, i, f, s, t, ap (λ x. mark ∷ letter k ∷ l ∷ m ∷ take x (a ∷ b ∷ c ∷ d ∷ i ∷ f ∷ s ∷ t ∷ more)) split, announced, simp length-take (omega arith), size, refl),
    )
framed_out k n l m few eight announced enough size = absurd (omega arith)

-- whatever the kind
laid_out : (k : Kind) (n l m : ℕ) (bs : List ℕ)
    → lawful k n ≡ true
    → le2 l m ≡ n
    → n ≤ length bs
    → sized (packet_of (record { kind = k; length = n }) bs) ≡ true
    → (payload : List ℕ) × Laid (packet_of (record { kind = k; length = n }) bs) payload (mark ∷ letter k ∷ l ∷ m ∷ take n bs)
laid_out kind.StreamChange n l m bs allowed announced enough right = ([], notice_out kind.StreamChange n l m bs (eqb-true n 4 allowed) announced enough)
laid_out kind.EndOfStream n l m bs allowed announced enough right = ([], notice_out kind.EndOfStream n l m bs (eqb-true n 4 allowed) announced enough)
laid_out kind.PacketPair n l m bs allowed announced enough right = (take n bs, (l, m, refl, announced, simp length-take (omega arith), refl))
laid_out k n l m bs allowed announced enough right = framed_out k n l m bs (leb-true 8 n allowed) announced enough (eqb-true _ n right)

-- what is drawn behind four bytes
behind_four : (x y l m : ℕ) (bs : List ℕ) (e : Ending) → draws (x ∷ y ∷ l ∷ m ∷ bs) e ≡ headed (head_of (x ∷ y ∷ l ∷ m ∷ [])) bs e
behind_four x y l m bs e = cond-true _ _ _ (le-leb 4 (length (x ∷ y ∷ l ∷ m ∷ bs)) (omega arith))

-- a packet that is drawn behind a head is the one that the head and the bytes make
drawn_is : (r : Result Head PacketFault) (bs : List ℕ) (e : Ending) (p : Packet) → headed r bs e ≡ Ok p → (h : Head) × (r ≡ Ok h) × (h.length ≤ length bs) × (packet_of h bs ≡ p)
drawn_is (Err f) bs e p is = absurd (cc)
drawn_is (Ok h) bs e p is =
    let (enough, made) = passed (leb h.length (length bs)) (Ok (packet_of h bs)) (cut_short (4 + length bs) e) p is in
    (h, refl, leb-true h.length (length bs) enough, cc)

-- a packet that is drawn whole, with the right PacketSize, stands in front of the bytes
pub drawn_laid : (bs : List ℕ) (e : Ending) (p : Packet) → draws bs e ≡ Ok p → sized p ≡ true → (payload ws r : List ℕ) × Laid p payload ws × (bs ≡ ws ++ r)
drawn_laid (x ∷ y ∷ l ∷ m ∷ bs) e p whole right =
    let (h, head, enough, made) = drawn_is (head_of (x ∷ y ∷ l ∷ m ∷ [])) bs e p (sym (behind_four x y l m bs e) ∙ whole) in
    let is = head_is x y l m h head in
    let (payload, laid) = laid_out h.kind h.length l m bs is.allowed is.announced enough (ap sized made ∙ right) in (
      payload,
      mark ∷ letter h.kind ∷ l ∷ m ∷ take h.length bs,
      drop h.length bs,
      subst (λ q. Laid q payload (mark ∷ letter h.kind ∷ l ∷ m ∷ take h.length bs)) made laid,
      cc (is.marked, is.letter_of, take-append-drop h.length bs),
    )
drawn_laid few e p whole right = absurd (cc)

-- behind a head, too few bytes are all that came
cut_behind : (r : Result Head PacketFault) (bs : List ℕ) (e : Ending) (cut : Short) → headed r bs e ≡ Err (CutShort cut) → (cut.came ≡ 4 + length bs) × (cut.ending ≡ e)
cut_behind (Err f) bs e cut is = absurd (cc)
cut_behind (Ok h) bs e cut is = elim (cases_cond (leb h.length (length bs)) _ _ _ (sym is)) [ inl whole ↦ absurd (cc) | inr short ↦ (cc, cc) ]

-- too few bytes are all the bytes there are
pub short_is : (bs : List ℕ) (e : Ending) (cut : Short) → draws bs e ≡ Err (CutShort cut) → (cut.came ≡ length bs) × (cut.ending ≡ e)
short_is (x ∷ y ∷ l ∷ m ∷ bs) e cut short =
    let (came, ending) = cut_behind (head_of (x ∷ y ∷ l ∷ m ∷ [])) bs e cut (sym (behind_four x y l m bs e) ∙ short) in
    (omega arith, ending)
short_is few e cut short = (cc, cc)
