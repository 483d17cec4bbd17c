use Rattle.std.proofs.Common.{◌≡◌, ◌<◌, ◌+◌, ◌-◌, ◌*◌, ◌≤◌, ◌∙◌, ℕ, List, ap, arith, get_or, length, length-take, subst, sym, take}
use Rattle.std.proofs.lemmas.List.{get_or-take, get_or_default, length-take-le}
use Rattle.tm_base.specs.Bits.{AreOctets}
use Rattle.tm_config.specs.Configuration.{Configuration}
use Rattle.tm_inner.specs.Sending.{most_symbols}
use Rattle.tm_codeblock.specs.Cadu.{unit_size}
use Rattle.tm_channel.specs.Sending.{Makes, Sending, most_made}
use Rattle.tm_channel.proofs.Sending.{framed-few, framed-fits, makes-of}
use Rattle.tm_channel.proofs.sender.Sender.symbols.Goals as goal

-- ---- the unit is what is sent

-- the first ones of a slice of octets
first-octets : (room : List ℕ) (count : ℕ) → ((i : ℕ) → get_or room i 0 < 256) → AreOctets (take count room)
first-octets room count each = λ k d within.
    let size = length-take count room in
    omega (
      arith,
      get_or-take count room k d (omega (arith, within, size)),
      get_or_default room k d 0 (omega (arith, within, size)),
      each k,
    )

pub returns-then-is_plain-clause-made : goal.returns-then-is_plain-clause-made
returns-then-is_plain-clause-made c =
    let s = c.self.inside in
    let t = c.take in
    let now : Sending = record { config = s.config; held = take t.new.self.count t.new.self.octets; inner = s.inner } in
    let piece = take t.result.0 c.args.octets.now in
    let unit = take t.result.1 t.new.room in
    subst (λ (a : Sending). Makes a now piece unit) c.self.view_is
    (makes-of s.config s.inner s.inner _ _ piece _ (omega arith) t.ensures.framed c.self.invariant.2 unit
    (c.is_plain.ensures.same c.if-is_plain.true unit
    (first-octets t.new.room t.result.1 (λ i. omega (arith, c.type_inv.room i)))))

pub returns-then-is_plain-clause-few : goal.returns-then-is_plain-clause-few
returns-then-is_plain-clause-few c =
    let s = c.self.inside in
    let t = c.take in
    let octets = c.args.octets.now in
    let unit = take t.result.1 t.new.room in
    let now : Sending = record { config = s.config; held = take t.new.self.count t.new.self.octets; inner = s.inner } in
    let size : length unit ≡ t.result.1 =
    length-take-le t.result.1 t.new.room (omega (arith, t.ensures.fits, c.take.auto.room)) in
    let one : most_symbols s.config ≡ 1 =
    ap most_symbols (sym c.self.invariant.2) ∙ c.is_plain.ensures.one c.if-is_plain.true in
    subst (λ (a : Sending). t.result.1 + most_made now (length octets - t.result.0) ≤ most_made a (length octets))
    c.self.view_is
    (framed-few s.config _ _ _ _ t.result.0 (length octets) t.result.1 (omega arith) t.ensures.framed
    (length-take-le t.result.0 octets t.ensures.most) t.ensures.most
    (subst (λ n. t.result.1 ≤ n * length unit) (sym one) (omega (arith, size))))

-- ---- its symbols are

pub symbols-count-requires : goal.symbols-count-requires
symbols-count-requires c =
    let s = c.self.inside in
    let t = c.take-taken in
    let octets = c.args.octets.now in
    let room = length c.args.room.now in
    subst (λ (k : Configuration). most_symbols k * length (take t.result.1 t.new.room) ≤ room) (sym c.self.invariant.2)
    (framed-fits s.config _ _ _ _ (length octets) room t.ensures.framed (omega (arith, length-take t.result.0 octets))
    (subst (λ (a : Sending). a.config.frame_length ≤ length a.held + length octets
    → most_symbols a.config * unit_size a.config ≤ room) (sym c.self.view_is) c.requires.room))

pub returns-clause-made : goal.returns-clause-made
returns-clause-made c =
    let s = c.self.inside in
    let t = c.take-taken in
    let i = c.symbols-count in
    let now : Sending = record { config = s.config; held = take t.new.self.count t.new.self.octets; inner = i.new.self } in
    let piece = take t.result.0 c.args.octets.now in
    let symbols = take i.result i.new.room in
    subst (λ (a : Sending). Makes a now piece symbols) c.self.view_is
    (makes-of s.config s.inner i.new.self _ _ piece _ (omega arith) t.ensures.framed c.self.invariant.2 symbols
    i.ensures.made)

pub returns-clause-few : goal.returns-clause-few
returns-clause-few c =
    let s = c.self.inside in
    let t = c.take-taken in
    let i = c.symbols-count in
    let octets = c.args.octets.now in
    let now : Sending = record { config = s.config; held = take t.new.self.count t.new.self.octets; inner = i.new.self } in
    subst (λ (a : Sending). i.result + most_made now (length octets - t.result.0) ≤ most_made a (length octets))
    c.self.view_is
    (framed-few s.config _ _ _ _ t.result.0 (length octets) i.result (omega arith) t.ensures.framed
    (length-take-le t.result.0 octets t.ensures.most) t.ensures.most
    (subst (λ (k : Configuration). i.result ≤ most_symbols k * length (take t.result.1 t.new.room)) c.self.invariant.2
    i.ensures.most))
