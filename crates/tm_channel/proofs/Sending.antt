-- What is sent for a longer list, and a sender that is given one piece after another.
use Rattle.std.proofs.Common.{◌≡◌, ℕ, zero, suc, ◌+◌, ◌-◌, ◌*◌, ◌/◌, ◌<◌, ◌≤◌, arith, drop, length, length-append, List, [], ◌∷◌, ◌++◌, flat_map, Option, Some, refl, sym, ◌∙◌, ap, subst, take}
use Rattle.std.proofs.Math.Nat.{add-mul-div_right, zero-div}
use Rattle.std.proofs.Math.Seq.{take-add}
use Rattle.std.proofs.lemmas.Grind.{flat_map-append}
use Rattle.std.proofs.lemmas.List.{append-nil, take_rest}
use Rattle.std.proofs.lemmas.Slice.{take-put_mid}
use borrow.Rule.Slice.PartMut.{put_mid}
use Rattle.tm_base.specs.Written.{Wrote, WrotePrefix}
use Rattle.tm_base.specs.Pieces.{beyond, further, Fed, FedPrefix, GoesOn}
use Rattle.tm_base.proofs.Pieces.{fed-none, fed-more, fed-prefix, fed-prefix_of_longer}
use Rattle.tm_config.specs.Configuration.{Configuration}
use Rattle.tm_inner.specs.Symbols.{symbols_of_octets}
use Rattle.tm_inner.specs.Sending.{InnerMakes, InnerSending, InnerSenderStandsFor, InnerSends, InnerSendsPrefix, most_symbols}
use Rattle.tm_inner.proofs.Symbols.{symbols-go_on, symbols-none}
use Rattle.tm_codeblock.specs.Frames.{Splits, first_frames, whole_frames, after_frames}
use Rattle.tm_codeblock.specs.Cadu.{cadu, unit_size}
use Rattle.tm_codeblock.proofs.Frames.{splits, splits-more, frames-are, after-is, whole_frames-more}
use Rattle.tm_channel.specs.Sent.{cadus, sent}
use Rattle.tm_channel.specs.Sending.{Framed, Makes, Sending, SenderStandsFor, Sends, SendsPrefix}

-- ---- lists

-- a piece was put after a prefix
pub prefix-put : (count taken : ℕ) (frame piece new : List ℕ) → new ≡ piece → length piece ≡ taken
    → count ≤ length frame
    → take (count + taken) (put_mid count ((count + taken) - count) frame new) ≡ take count frame ++ piece
prefix-put count taken frame piece new is size within =
    take-put_mid count ((count + taken) - count) frame new (count + taken)
    (omega (arith, ap length is, size)) within ∙ ap (λ (l : List ℕ). take count frame ++ l) is

-- the octets that were taken of the rest follow those before
pub rest-taken : (done count : ℕ) (octets : List ℕ)
    → take done octets ++ take count (take (length octets - done) (drop done octets)) ≡ take (done + count) octets
rest-taken done count octets =
    ap (λ (l : List ℕ). take done octets ++ take count l) (take_rest octets done) ∙ sym (take-add done count octets)

-- ---- what is sent for a longer list

cadus-more : (c : Configuration) → 0 < c.frame_length → (given piece : List ℕ)
    → cadus c (given ++ piece) ≡ cadus c given ++ cadus c (after_frames c.frame_length given ++ piece)
cadus-more c some given piece =
    ap (flat_map (cadu c)) (whole_frames-more c.frame_length given piece some)
    ∙ flat_map-append (cadu c) (whole_frames c.frame_length given)
    (whole_frames c.frame_length (after_frames c.frame_length given ++ piece))

pub sent-goes_on : (c : Configuration) → 0 < c.frame_length → GoesOn (sent c)
sent-goes_on c some given piece =
    let more = cadus c (after_frames c.frame_length given ++ piece) in
    let longer : sent c (given ++ piece) ≡ symbols_of_octets c (cadus c given ++ more) =
    ap (symbols_of_octets c) (cadus-more c some given piece) in
    longer ∙ symbols-go_on c (cadus c given) more
    ∙ ap (λ (l : List ℕ). sent c given ++ beyond (sent c given) l) (sym longer)

pub cadus-none : (c : Configuration) → cadus c [] ≡ []
unfolding whole_frames
cadus-none c = ap (λ n. flat_map (cadu c) (first_frames c.frame_length n [])) (zero-div c.frame_length)

pub nothing-held : (size : ℕ) → [] ≡ after_frames size []
nothing-held size =
    let none : 0 * size ≡ 0 = omega arith in
    sym (ap (λ n. drop (n * size) []) (zero-div size) ∙ ap (λ n. drop n []) none)

pub sent-none : (c : Configuration) → sent c [] ≡ []
sent-none c = ap (symbols_of_octets c) (cadus-none c) ∙ symbols-none c

-- ---- a sender

pub sends-none : (sender : Sending) (taken : Option (List ℕ)) → Sends sender sender taken taken []
sends-none sender taken = record {
  config = refl;
  fed = fed-none SenderStandsFor (sent sender.config) sender taken;
}

-- one piece after another
pub sends-more : (a b c : Sending) (taken_a taken_b taken_c : Option (List ℕ)) (first second : List ℕ)
    → 0 < a.config.frame_length → Sends a b taken_a taken_b first → Sends b c taken_b taken_c second
    → Sends a c taken_a taken_c (first ++ second)
sends-more a b c taken_a taken_b taken_c first second some p q = record {
  config = q.config ∙ p.config;
  fed = fed-more SenderStandsFor (sent a.config) (sent-goes_on a.config some) a b c taken_a taken_b
      taken_c first second p.fed
      (subst (λ (k : Configuration). Fed SenderStandsFor (sent k) b c taken_b taken_c second) p.config q.fed);
}

pub sends-prefix : (a b : Sending) (taken_a taken_b taken_c : Option (List ℕ)) (first second rest : List ℕ)
    → 0 < a.config.frame_length → Sends a b taken_a taken_b first → SendsPrefix b taken_b taken_c second
    → SendsPrefix a taken_a taken_c ((first ++ second) ++ rest)
sends-prefix a b taken_a taken_b taken_c first second rest some p q =
    let on = sent-goes_on a.config some in
    fed-prefix_of_longer SenderStandsFor (sent a.config) on a taken_a taken_c (first ++ second) rest
    (fed-prefix SenderStandsFor (sent a.config) on a b taken_a taken_b taken_c first second p.fed
    (subst (λ (k : Configuration). FedPrefix SenderStandsFor (sent k) b taken_b taken_c second) p.config q))

-- what it made is written
pub makes-sends : (a b : Sending) (taken taken_now : Option (List ℕ)) (octets symbols : List ℕ)
    → Makes a b octets symbols → Wrote taken taken_now symbols → Sends a b taken taken_now octets
makes-sends a b taken taken_now octets symbols m wrote = record {
  config = m.config;
  fed = record {
    stands = m.stands;
    written = λ given stood. subst (Wrote taken taken_now) (sym (m.due given stood)) wrote;
  };
}

-- what is written to a list is what it made
pub makes-sent : (a b : Sending) (octets symbols : List ℕ) → Sends a b (Some []) (Some symbols) octets
    → Makes a b octets symbols
makes-sent a b octets symbols p = record {
  config = p.config;
  stands = p.fed.stands;
  due = λ given stood.
      let same : Some symbols ≡ Some (further (sent a.config) given octets) = p.fed.written given stood in cc;
}

-- ---- what a sender makes of the next octets, by what it keeps

-- no frame is whole
pub framed-none : (c : Configuration) (held octets now : List ℕ) → now ≡ held ++ octets → length now < c.frame_length
    → Framed c held octets now []
framed-none c held octets now is partial =
    let s : Splits c.frame_length (held ++ octets) [] now = record { whole = sym is; sized = tt; partial = partial } in
    record {
      rest = sym (after-is c.frame_length (held ++ octets) [] now s);
      made = ap (flat_map (cadu c)) (sym (frames-are c.frame_length (held ++ octets) [] now s));
      frames = 0;
      one = omega arith;
      whole = omega (arith, ap length is, length-append held octets);
      size = omega arith;
    }

-- a frame is
pub framed-one : (c : Configuration) (held octets frame unit : List ℕ) → frame ≡ held ++ octets
    → length frame ≡ c.frame_length → 0 < c.frame_length → unit ≡ cadu c frame → length unit ≡ unit_size c
    → Framed c held octets [] unit
framed-one c held octets frame unit is sized some made long =
    let s : Splits c.frame_length (held ++ octets) (frame ∷ []) [] = record {
      whole = sym is ∙ sym (append-nil frame) ∙ sym (append-nil (frame ++ []));
      sized = (sized, tt);
      partial = some;
    } in
    record {
      rest = sym (after-is c.frame_length (held ++ octets) (frame ∷ []) [] s);
      made = made ∙ sym (append-nil (cadu c frame))
          ∙ ap (flat_map (cadu c)) (sym (frames-are c.frame_length (held ++ octets) (frame ∷ []) [] s));
      frames = 1;
      one = omega arith;
      whole = omega (arith, ap length is, length-append held octets, sized);
      size = omega (arith, long);
    }

-- and nothing was held before it
pub framed-whole : (c : Configuration) (held frame unit : List ℕ) → held ≡ [] → length frame ≡ c.frame_length
    → 0 < c.frame_length → unit ≡ cadu c frame → length unit ≡ unit_size c → Framed c held frame held unit
framed-whole c held frame unit none sized some made long =
    subst (λ (l : List ℕ). Framed c l frame l unit) (sym none)
    (framed-one c [] frame frame unit refl sized some made long)

-- the octets that are held after a longer list
after-more : (size : ℕ) (given piece : List ℕ) → 0 < size
    → after_frames size (given ++ piece) ≡ after_frames size (after_frames size given ++ piece)
after-more size given piece some =
    let held = after_frames size given in
    let others = whole_frames size (held ++ piece) in
    let rest = after_frames size (held ++ piece) in
    after-is size (given ++ piece) (whole_frames size given ++ others) rest
    (splits-more size given piece held rest (whole_frames size given) others (splits size given some)
    (splits size (held ++ piece) some))

-- the last stage is given the unit
module _ (c : Configuration) (before now : InnerSending) (held rest octets unit : List ℕ) (some : 0 < c.frame_length)
    (f : Framed c held octets rest unit) (same : before.config ≡ c) where
  longer : (given : List ℕ) → held ≡ after_frames c.frame_length given
      → cadus c (given ++ octets) ≡ cadus c given ++ unit
  longer given stood =
      cadus-more c some given octets
      ∙ ap (λ (l : List ℕ). cadus c given ++ l) (ap (λ (l : List ℕ). cadus c (l ++ octets)) (sym stood) ∙ sym f.made)

  stands-on : ((given : List ℕ) → InnerSenderStandsFor before given → InnerSenderStandsFor now (given ++ unit))
      → (given : List ℕ) → SenderStandsFor (record { config = c; held = held; inner = before }) given
      → SenderStandsFor (record { config = c; held = rest; inner = now }) (given ++ octets)
  stands-on on given stood = record {
    held = f.rest ∙ ap (λ (l : List ℕ). after_frames c.frame_length (l ++ octets)) stood.held
        ∙ sym (after-more c.frame_length given octets some);
    inner = subst (InnerSenderStandsFor now) (sym (longer given stood.held)) (on (cadus c given) stood.inner);
  }

  due-on : (P : List ℕ → Type 0)
      → ((given : List ℕ) → InnerSenderStandsFor before given
      → P (further (symbols_of_octets before.config) given unit))
      → (given : List ℕ) → SenderStandsFor (record { config = c; held = held; inner = before }) given
      → P (further (sent c) given octets)
  due-on P due given stood =
      subst (λ (l : List ℕ). P (beyond (sent c given) (symbols_of_octets c l))) (sym (longer given stood.held))
      (subst (λ (k : Configuration). P (further (symbols_of_octets k) (cadus c given) unit)) same
      (due (cadus c given) stood.inner))

  pub makes-of : (symbols : List ℕ) → InnerMakes before now unit symbols
      → Makes (record { config = c; held = held; inner = before }) (record { config = c; held = rest; inner = now })
      octets symbols
  makes-of symbols m = record {
    config = refl;
    stands = stands-on m.stands;
    due = due-on (λ (l : List ℕ). l ≡ symbols) m.due;
  }

  pub sends-of : (taken taken_now : Option (List ℕ)) → InnerSends before now taken taken_now unit
      → Sends (record { config = c; held = held; inner = before }) (record { config = c; held = rest; inner = now })
      taken taken_now octets
  sends-of taken taken_now m = record {
    config = refl;
    fed = record { stands = stands-on m.fed.stands; written = due-on (Wrote taken taken_now) m.fed.written };
  }

  pub prefix-of : (taken taken_now : Option (List ℕ)) → InnerSendsPrefix before taken taken_now unit
      → SendsPrefix (record { config = c; held = held; inner = before }) taken taken_now octets
  prefix-of taken taken_now m = record { prefix = due-on (WrotePrefix taken taken_now) m.prefix }

-- ---- room for the symbols

-- there is room for those of the unit
pub framed-fits : (c : Configuration) (held octets now unit : List ℕ) (all room : ℕ) → Framed c held octets now unit
    → length octets ≤ all → (c.frame_length ≤ length held + all → most_symbols c * unit_size c ≤ room)
    → most_symbols c * length unit ≤ room
framed-fits c held octets now unit all room f within enough = by-count f.frames f.one f.whole f.size
  where
    by-count : (frames : ℕ) → frames ≤ 1 → length held + length octets ≡ frames * c.frame_length + length now
        → length unit ≡ frames * unit_size c → most_symbols c * length unit ≤ room
    by-count zero one whole is =
        let none : length unit ≡ 0 = omega (arith, is) in
        let product : most_symbols c * length unit ≡ 0 = ap (λ n. most_symbols c * n) none ∙ (grind arith) in
        omega (arith, product)
    by-count (suc zero) one whole is =
        let size : length unit ≡ unit_size c = omega (arith, is) in
        subst (λ n. most_symbols c * n ≤ room) (sym size) (enough (omega (arith, whole, within)))
    by-count (suc (suc more)) one whole is = absurd (omega (arith, one))

-- and then for those of the rest
pub framed-few : (c : Configuration) (held octets now unit : List ℕ) (taken all symbols : ℕ) → 0 < c.frame_length
    → Framed c held octets now unit → length octets ≡ taken → taken ≤ all → symbols ≤ most_symbols c * length unit
    → symbols + (length now + (all - taken)) / c.frame_length * unit_size c * most_symbols c
    ≤ (length held + all) / c.frame_length * unit_size c * most_symbols c
framed-few c held octets now unit taken all symbols some f is within few =
    let size = unit_size c in
    let most = most_symbols c in
    let rest = length now + (all - taken) in
    let sum : length held + all ≡ rest + f.frames * c.frame_length = omega (arith, f.whole) in
    let frames : (length held + all) / c.frame_length ≡ rest / c.frame_length + f.frames =
    ap (λ n. n / c.frame_length) sum ∙ add-mul-div_right rest f.frames some in
    let made : symbols ≤ most * (f.frames * size) = subst (λ n. symbols ≤ most * n) f.size few in
    let product : (rest / c.frame_length + f.frames) * size * most
    ≡ rest / c.frame_length * size * most + most * (f.frames * size) = grind arith in
    omega (arith, ap (λ n. n * size * most) frames, made, product)
