-- What is given of what a decoder hands over, piece after piece, and at the end.
use Rattle.std.proofs.Common.{◌≡◌, ◌⊎◌, inl, inr, ℕ, ◌+◌, ◌-◌, ◌<◌, ◌≤◌, ◌==◌, Bool, List, [], ◌∷◌, ◌++◌, length, drop, take, map, refl, sym, ap, ◌∙◌, subst, arith, append_assoc, length-append, length-drop, Option, Some, None}
use Rattle.std.proofs.lemmas.List.{append-nil, length-map, map-append}
use Rattle.tm_base.specs.Bits.{low_bits, octets_of}
use Rattle.tm_base.specs.Count.{raised_by}
use Rattle.tm_base.specs.Handed.{Handed, Phase, Item, items_of}
use Rattle.tm_base.specs.Limits.{most_limit}
use Rattle.tm_base.specs.Takers.{HandedOver}
use Rattle.tm_base.proofs.Handing.{HandedOver-push}
use Rattle.tm_base.proofs.HandedItems.{items_of-append}
use Rattle.tm_base.proofs.Packing.{octets_of-bits_of-append}
use Rattle.tm_config.specs.Configuration.{Configuration}
use Rattle.tm_config.specs.declared.values.Sought.TheVariants.{Given, Find}
use Rattle.tm_config.proofs.Choices.{never_both}
use Rattle.tm_conv.specs.declared.rates.Rate.{Rate}
use Rattle.tm_driver.specs.Lines.{phase_text}
use Rattle.tm_driver.specs.Writing.{Text, Note, notes_of, out_of}
use Rattle.tm_driver.proofs.Writing.{notes_of-append, out_of-append}
use Rattle.tm_windows.specs.declared.choosing.Chosen.{Chosen}
use Rattle.tm_viterbi.specs.Clean.{kept_bits}
use Rattle.tm_viterbi.specs.WindowBlock.{WindowBlock}
use Rattle.tm_inner.specs.Handing.{AreHanded, AreHandedDue, ReadsLast}
use Rattle.tm_inner.specs.Inner.{BlocksAt, DueAt, bits_at, inner_bits, plain_bits, plain_count, reported_slips, soft_value}
use Rattle.tm_inner.specs.InnerDecoding.{InnerDecoding}
use Rattle.tm_inner.specs.Phase.{IsChosenBy, IsSettled, needed_at, phase_octets, skip_of, skipped_at, with_phase}
use Rattle.tm_inner.specs.Receiving.{HasHanded, Hands}
use Rattle.tm_inner.specs.declared.decoder.InnerEnd.{InnerEnd}
use Rattle.tm_inner.proofs.DecoderReads.{handed-due}
use Rattle.tm_inner.proofs.DueBits.{drop-split, kept-append}
use Rattle.tm_inner.proofs.PhasePieces.{items_of-with_phase}
use Rattle.tm_inner.proofs.PlainBits.{bits-nil, length-plain, plain-append}
use Rattle.tm_path_commands.specs.Bits.{bits_of_handed, fill, phase_line}
use Rattle.tm_path_commands.specs.Lines.{bits_end_text}
use Rattle.tm_path_commands.specs.Packing.{AreGiven, Gives, GivesAllBits, GivesBits, IsFirstNote, IsSameLoan, Packs, packed, plain_more}
use Rattle.tm_path_commands.specs.declared.bits_command.PackedWindows.{PackedWindows}
use Rattle.tm_path_commands.proofs.PackedBits.{bits-after, gives-more, no-octets, octets-after, octets-none}
use Rattle.tm_path_commands.proofs.FewHanded.{few-handed}

-- ---- notes before the first octet

pub notes-are : (texts : List Text) (line : List ℕ) → IsFirstNote texts line → notes_of texts ≡ line
notes-are texts line n =
    ap notes_of n.split ∙ notes_of-append n.first n.rest ∙ (λ i. n.noted i ++ n.only i) ∙ append-nil line

no-line : (texts : List Text) (line : List ℕ) → notes_of texts ≡ line → line ≡ [] → IsFirstNote texts line
no-line texts line are none =
    record { first = []; rest = texts; split = refl; silent = refl; noted = sym none; only = are ∙ none }

first-silent : (xs ys : List Text) (line : List ℕ) → IsFirstNote xs line → notes_of ys ≡ []
    → IsFirstNote (xs ++ ys) line
first-silent xs ys line n none = record {
  first = n.first;
  rest = n.rest ++ ys;
  split = ap (λ l. l ++ ys) n.split ∙ append_assoc n.first n.rest ys;
  silent = n.silent;
  noted = n.noted;
  only = notes_of-append n.rest ys ∙ ap (λ l. l ++ notes_of ys) n.only ∙ none;
}

-- further texts have no note, or no octet was given before them
pub first-more : (xs ys : List Text) (line more : List ℕ) → IsFirstNote xs line → IsFirstNote ys more
    → (more ≡ []) ⊎ (out_of xs ≡ []) → IsFirstNote (xs ++ ys) (line ++ more)
first-more xs ys line more n m (inl none) =
    subst (IsFirstNote (xs ++ ys)) (sym (ap (λ l. line ++ l) none ∙ append-nil line))
    (first-silent xs ys line n (notes-are ys more m ∙ none))
first-more xs ys line more n m (inr none) = record {
  first = xs ++ m.first;
  rest = m.rest;
  split = ap (λ l. xs ++ l) m.split ∙ sym (append_assoc xs m.first m.rest);
  silent = out_of-append xs m.first ∙ ap (λ l. l ++ out_of m.first) none ∙ m.silent;
  noted = notes_of-append xs m.first ∙ (λ i. notes-are xs line n i ++ m.noted i);
  only = m.only;
}

-- ---- what windows and a phase do

pub line-append : (xs ys : List (Handed WindowBlock)) → phase_line (xs ++ ys) ≡ phase_line xs ++ phase_line ys
line-append [] ys = refl
line-append (Phase skip cost ∷ xs) ys =
    ap (λ l. phase_text skip cost ++ l) (line-append xs ys)
    ∙ sym (append_assoc (phase_text skip cost) (phase_line xs) (phase_line ys))
line-append (Item block ∷ xs) ys = line-append xs ys

line-items : (items : List WindowBlock) → phase_line (map Item items) ≡ []
line-items [] = refl
line-items (item ∷ items) = line-items items

-- the line of a phase that is not the first that is handed over
abbrev pub later_line : List (Handed WindowBlock) → List ℕ
later_line [] = []
later_line (x ∷ handed) = phase_line handed

-- the bits that blocks keep
abbrev pub all_bits : List WindowBlock → List Bool
all_bits blocks = map (λ bit. bit == 1) (kept_bits blocks)

module _ {T : Type 0} (took : T → Text → T → Type 0) where
  -- what is handed over is packed, and then further bits
  record GivesHanded (a b : PackedWindows T) (more : List (Handed WindowBlock)) (further bits_now : List Bool)
      (taker_now : T) : Type 0 where
    texts : List Text
    gives : Gives took a.packer.now a.texts.now texts (all_bits (items_of more) ++ further) bits_now taker_now
    notes : notes_of texts ≡ phase_line more
    noted : later_line more ≡ [] → IsFirstNote texts (phase_line more)
    windows : (n : ℕ) → a.windows ≡ raised_by n 0 → b.windows ≡ raised_by (n + length (items_of more)) 0

  gives-handed : (more : List (Handed WindowBlock)) (a b : PackedWindows T) (further bits_now : List Bool)
      (taker_now : T)
      → HandedOver (packed took) a more b → Packs took b.packer.now b.texts.now further bits_now taker_now
      → GivesHanded a b more further bits_now taker_now
  gives-handed [] a b further bits_now taker_now same p =
      subst (λ (q : PackedWindows T). Packs took q.packer.now q.texts.now further bits_now taker_now
      → GivesHanded a q [] further bits_now taker_now) same (λ p. record {
        texts = p.texts;
        gives = p.gives;
        notes = p.silent;
        noted = no-line p.texts [] p.silent;
        windows = λ n is. omega (arith, is);
      }) p
  gives-handed (Phase skip cost ∷ more) a b further bits_now taker_now over p =
      let m = over.0 in
      let one = over.1 in
      let g = gives-handed more m b further bits_now taker_now over.2 p in
      let text = phase_text skip cost in record {
        texts = Note text ∷ g.texts;
        gives = record {
          handed = (m.texts.now, one.1, g.gives.handed);
          are_octets = g.gives.are_octets;
          all = g.gives.all ∙ ap (λ bits. bits ++ (all_bits (items_of more) ++ further)) one.2;
        };
        notes = ap (λ l. text ++ l) g.notes;
        noted = λ none. record {
          first = Note text ∷ [];
          rest = g.texts;
          split = refl;
          silent = refl;
          noted = ap (λ l. text ++ l) (sym none);
          only = g.notes ∙ none;
        };
        windows = λ n is. g.windows n (one.3 ∙ is);
      }
  gives-handed (Item block ∷ more) a b further bits_now taker_now over p =
      let m = over.0 in
      let one = over.1.1 in
      let g = gives-handed more m b further bits_now taker_now over.2 p in
      let bits = take block.kept block.bits in
      let kept : List Bool = map (λ bit. bit == 1) bits in
      let rest : List Bool = all_bits (items_of more) in
      let same : kept ++ (rest ++ further) ≡ all_bits (block ∷ items_of more) ++ further =
      sym (append_assoc kept rest further)
      ∙ ap (λ l. l ++ further) (sym (map-append (λ bit. bit == 1) bits (kept_bits (items_of more)))) in
      let notes : notes_of (one.texts ++ g.texts) ≡ phase_line more =
      notes_of-append one.texts g.texts ∙ ap (λ l. l ++ notes_of g.texts) one.silent ∙ g.notes in record {
        texts = one.texts ++ g.texts;
        gives = subst (λ l. Gives took a.packer.now a.texts.now (one.texts ++ g.texts) l bits_now taker_now) same
            (gives-more took a.packer.now m.packer.now bits_now kept (rest ++ further) a.texts.now m.texts.now taker_now
            one.texts g.texts one.gives g.gives);
        notes = notes;
        noted = no-line (one.texts ++ g.texts) (phase_line more) notes;
        windows = λ n is.
            let next : m.windows ≡ raised_by (n + 1) 0 = omega (arith, over.1.2, is) in
            omega (arith, g.windows (n + 1) next);
      }

-- of the same packer and taker of texts
pub same-loan : {T : Type 0} (took : T → Text → T → Type 0) (more : List (Handed WindowBlock)) (a b : PackedWindows T)
    → HandedOver (packed took) a more b → IsSameLoan a b
same-loan took [] a b same = (ap (λ q. q.packer.ghost_name) (sym same), ap (λ q. q.texts.ghost_name) (sym same))
same-loan took (Phase skip cost ∷ more) a b over =
    let rest = same-loan took more over.0 b over.2 in (rest.0 ∙ over.1.0.0, rest.1 ∙ over.1.0.1)
same-loan took (Item block ∷ more) a b over =
    let rest = same-loan took more over.0 b over.2 in (rest.0 ∙ over.1.0.0, rest.1 ∙ over.1.0.1)

-- ---- what is handed over after other

-- it begins with the phase, which is to be found, or has none
pub record Rest (c : Configuration) (done more : List (Handed WindowBlock)) : Type 0 where
  later : later_line more ≡ []
  first : (phase_line more ≡ []) ⊎ ((done ≡ []) × (c.phase ≡ Find))
  none : c.inner ≡ None → items_of more ≡ []

-- after items stand items alone
after-items : (xs ys : List (Handed WindowBlock)) (items : List WindowBlock) → xs ++ ys ≡ map Item items
    → (later_line ys ≡ []) × (phase_line ys ≡ [])
after-items [] ys [] same = (ap later_line same, ap phase_line same)
after-items [] ys (item ∷ items) same =
    (ap later_line same ∙ line-items items, ap phase_line same ∙ line-items items)
after-items (x ∷ xs) ys [] same = absurd cc
after-items (x ∷ xs) ys (item ∷ items) same = after-items xs ys items cc

after-phase : (c : Configuration) (soft : List ℕ) (done more : List (Handed WindowBlock)) (chosen : Option Chosen)
    (items : List WindowBlock) → IsChosenBy c soft chosen → done ++ more ≡ with_phase chosen items
    → (later_line more ≡ []) × ((phase_line more ≡ []) ⊎ ((done ≡ []) × (c.phase ≡ Find)))
after-phase c soft [] more (Some chosen) items choice same =
    (ap later_line same ∙ line-items items, inr (refl, choice.0))
after-phase c soft (x ∷ done) more (Some chosen) items choice same =
    let a = after-items done more items cc in (a.0, inl a.1)
after-phase c soft done more None items choice same =
    let a = after-items done more items same in (a.0, inl a.1)

pub nothing-both : {A : Type 0} (xs ys : List A) → xs ++ ys ≡ [] → (xs ≡ []) × (ys ≡ [])
nothing-both [] ys none = (refl, none)
nothing-both (x ∷ xs) ys none = absurd cc

rest-of : (c : Configuration) (soft : List ℕ) (done more : List (Handed WindowBlock)) (chosen : Option Chosen)
    (items : List WindowBlock) → IsChosenBy c soft chosen → done ++ more ≡ with_phase chosen items
    → (c.inner ≡ None → items ≡ []) → Rest c done more
rest-of c soft done more chosen items choice same none =
    let a = after-phase c soft done more chosen items choice same in record {
      later = a.0;
      first = a.1;
      none = λ plain. (nothing-both (items_of done) (items_of more)
          (sym (items_of-append done more) ∙ ap items_of same ∙ items_of-with_phase chosen items ∙ none plain)).1;
    }

rest-due : (c : Configuration) (octets : List ℕ) (done more : List (Handed WindowBlock))
    → AreHandedDue c octets (done ++ more) → Rest c done more
rest-due c octets done more (inl due) =
    let none = (nothing-both done more due.1).1 in
    record { later = ap later_line none; first = inl (ap phase_line none); none = λ _. ap items_of none }
rest-due c octets done more (inr due) =
    let t = due.1 in
    rest-of c (phase_octets c octets) done more t.chosen t.items t.choice t.are
    (λ plain. subst (λ (r : Option Rate). DueAt r c (skip_of t.chosen) octets t.items) plain t.are_items)

pub rest-all : (c : Configuration) (octets : List ℕ) (done more : List (Handed WindowBlock)) (left : ℕ)
    → AreHanded c octets (done ++ more) left → Rest c done more
rest-all c octets done more left t =
    rest-of c (phase_octets c octets) done more t.chosen t.items t.choice t.are
    (λ plain. (subst (λ (r : Option Rate). BlocksAt r c (skip_of t.chosen) octets t.items left) plain t.are_items).0)

-- ---- no bits come before the phase

bits-unsettled : (rate : Option Rate) (c : Configuration) (given : List ℕ) → c.inner ≡ rate
    → (IsSettled c given → ⊥) → bits_at rate c given [] ≡ []
bits-unsettled None c [] is unsettled = bits-nil None c
bits-unsettled None c (octet ∷ given) is unsettled =
    let needed : needed_at c.inner c ≡ 1 = ap (λ (r : Option Rate). needed_at r c) is in
    let skipped : skipped_at c.inner c ≡ 0 = ap (λ (r : Option Rate). skipped_at r c) is in
    let all : List ℕ = drop (skipped_at c.inner c) (octet ∷ given) in
    absurd (unsettled (inr (omega (
      arith,
      needed,
      skipped,
      length-map all (soft_value c),
      length-drop (skipped_at c.inner c) (octet ∷ given),
    ))))
bits-unsettled (Some rate) c given is unsettled = refl

given-phase : (c : Configuration) (soft : List ℕ) (chosen : Option Chosen) (items : List WindowBlock)
    → IsChosenBy c soft chosen → [] ≡ with_phase chosen items → c.phase ≡ Given
given-phase c soft None items is same = is
given-phase c soft (Some chosen) items is same = absurd cc

bits-before : (c : Configuration) (given : List ℕ) → AreHandedDue c given [] → c.phase ≡ Find
    → bits_of_handed c given [] ≡ []
bits-before c given (inl due) find = bits-unsettled c.inner c given refl due.0
bits-before c given (inr due) find = absurd
    (never_both c.phase (given-phase c (phase_octets c given) due.1.chosen due.1.items due.1.choice due.1.are) find)

-- further texts have no line, or no octet was given before them
pub line-first : (c : Configuration) (given : List ℕ) (done more : List (Handed WindowBlock)) (texts : List Text)
    (line : List ℕ) (bits : List Bool) → AreHandedDue c given done
    → AreGiven texts line (bits_of_handed c given done) bits → Rest c done more
    → (phase_line more ≡ []) ⊎ (out_of texts ≡ [])
line-first c given done more texts line bits due is rest =
    elim rest.first as (λ _. (phase_line more ≡ []) ⊎ (out_of texts ≡ [])) [
      | inl none ↦ inl none
      | inr begins ↦ inr (no-octets (out_of texts) bits (
          is.octets ∙ ap (λ (l : List (Handed WindowBlock)). bits_of_handed c given l) begins.0
          ∙ bits-before c given (subst (AreHandedDue c given) begins.0 due) begins.1
          ))
    ]

-- ---- the bits of further octets

all_bits-append : (xs ys : List WindowBlock) → all_bits (xs ++ ys) ≡ all_bits xs ++ all_bits ys
all_bits-append xs ys =
    ap (map (λ bit. bit == 1)) (kept-append xs ys) ∙ map-append (λ bit. bit == 1) (kept_bits xs) (kept_bits ys)

bits-further : (rate : Option Rate) (c : Configuration) (given octets : List ℕ) (xs ys : List WindowBlock) (skip : ℕ)
    → (rate ≡ None → ys ≡ []) → skip ≡ c.skip - plain_count c (length given)
    → bits_at rate c (given ++ octets) (xs ++ ys) ≡ bits_at rate c given xs ++ (all_bits ys ++ plain_more rate c skip
    octets)
bits-further None c given octets xs ys skip none is =
    ap (drop c.skip) (plain-append c given octets) ∙ drop-split c.skip (plain_bits c given) (plain_bits c octets)
    ∙ ap (λ n. drop c.skip (plain_bits c given) ++ drop n (plain_bits c octets))
    (ap (λ n. c.skip - n) (length-plain c given) ∙ sym is)
    ∙ ap (λ (l : List WindowBlock). drop c.skip (plain_bits c given) ++ (all_bits l ++ drop skip (plain_bits c octets)))
    (sym (none refl))
bits-further (Some rate) c given octets xs ys skip none is =
    all_bits-append xs ys ∙ ap (λ l. all_bits xs ++ l) (sym (append-nil (all_bits ys)))

pub handed-further : (c : Configuration) (given octets : List ℕ) (done more : List (Handed WindowBlock)) (skip : ℕ)
    → Rest c done more → skip ≡ c.skip - plain_count c (length given)
    → bits_of_handed c (given ++ octets) (done ++ more) ≡ bits_of_handed c given done
    ++ (all_bits (items_of more) ++ plain_more c.inner c skip octets)
handed-further c given octets done more skip rest is =
    ap (inner_bits c (given ++ octets)) (items_of-append done more)
    ∙ bits-further c.inner c given octets (items_of done) (items_of more) skip rest.none is

bits-last : (rate : Option Rate) (c : Configuration) (octets : List ℕ) (xs ys : List WindowBlock)
    → (rate ≡ None → ys ≡ []) → bits_at rate c octets (xs ++ ys) ≡ bits_at rate c octets xs ++ all_bits ys
bits-last None c octets xs ys none =
    sym (append-nil (drop c.skip (plain_bits c octets)))
    ∙ ap (λ l. drop c.skip (plain_bits c octets) ++ all_bits l) (sym (none refl))
bits-last (Some rate) c octets xs ys none = all_bits-append xs ys

zeros-fill : low_bits 7 0 ≡ fill
unfolding low_bits
zeros-fill = refl

-- ---- texts after those that were given

-- they are the whole octets of all bits
pub given-octets : (texts : List Text) (line : List ℕ) (all bits : List Bool) → AreGiven texts line all bits
    → length bits < 8 → out_of texts ≡ octets_of all
given-octets texts line all bits is few =
    sym (append-nil (out_of texts)) ∙ ap (λ l. out_of texts ++ l) (sym (octets-none bits few))
    ∙ sym (octets_of-bits_of-append (out_of texts) bits is.are_octets) ∙ ap octets_of is.octets

length-items : (xs ys : List (Handed WindowBlock))
    → length (items_of (xs ++ ys)) ≡ length (items_of xs) + length (items_of ys)
length-items xs ys = ap length (items_of-append xs ys) ∙ length-append (items_of xs) (items_of ys)

module _ {T : Type 0} (took : T → Text → T → Type 0) (d : InnerDecoding) (a b : PackedWindows T)
    (bits_last : List Bool) (last : T) (few : length bits_last < 8) where
  -- with those before
  module _ (c : Configuration) (given : List ℕ) (done : List Text)
      (t : GivesBits c d a.packer.now a.windows given done) (more : List (Handed WindowBlock)) (further : List Bool)
      (g : GivesHanded took a b more further bits_last last) (rest : Rest c t.handed more) where
    now-given : (all : List Bool)
        → bits_of_handed c given t.handed ++ (all_bits (items_of more) ++ further) ≡ all
        → AreGiven (done ++ g.texts) (phase_line (t.handed ++ more)) all bits_last
    now-given all are = record {
      are_octets = octets-after done g.texts t.given.are_octets g.gives.are_octets;
      octets = bits-after done g.texts (bits_of_handed c given t.handed) (all_bits (items_of more) ++ further) a.packer.now
          bits_last t.given.octets g.gives.all ∙ are;
      noted = subst (IsFirstNote (done ++ g.texts)) (sym (line-append t.handed more))
          (first-more done g.texts (phase_line t.handed) (phase_line more) t.given.noted (g.noted rest.later)
          (line-first c given t.handed more done (phase_line t.handed) a.packer.now
          (subst (λ (k : Configuration). AreHandedDue k given t.handed) t.config (handed-due d given t.handed t.stands))
          t.given rest));
    }

    now-counted : b.windows ≡ raised_by (length (items_of (t.handed ++ more))) 0
    now-counted = g.windows (length (items_of t.handed)) t.counted
        ∙ ap (λ n. raised_by n 0) (sym (length-items t.handed more))

  pub gives-fed : (now : InnerDecoding) (octets : List ℕ) (skip : ℕ) → now.config ≡ d.config
      → skip ≡ d.config.skip - plain_count d.config d.count
      → Hands (packed took) HasHanded d now a b octets
      → Packs took b.packer.now b.texts.now (plain_more d.config.inner d.config skip octets) bits_last last
      → (texts : List Text) × HandedOver took a.texts.now texts last
      × ((c : Configuration) (given : List ℕ) (done : List Text) → length given + length octets ≤ most_limit
      → GivesBits c d a.packer.now a.windows given done
      → GivesBits c now bits_last b.windows (given ++ octets) (done ++ texts))
  gives-fed now octets skip config is h p =
      let further = plain_more d.config.inner d.config skip octets in
      let g = gives-handed took h.more a b further bits_last last h.handed p in (
        g.texts,
        g.gives.handed,
        λ c given done within t.
            let handed = t.handed ++ h.more in
            let there = h.stands given t.handed (omega (arith, within)) t.stands in
            let rest = rest-due c (given ++ octets) t.handed h.more (subst (λ (k : Configuration). AreHandedDue k
            (given ++ octets) handed) (config ∙ t.config) (handed-due now (given ++ octets) handed there)) in
            record {
              accepted = t.accepted;
              config = config ∙ t.config;
              handed = handed;
              stands = there;
              counted = now-counted c given done t h.more further g rest;
              few = few;
              given = now-given c given done t h.more further g rest (bits_of_handed c (given ++ octets) handed)
                  (ap (λ k. bits_of_handed c given t.handed ++ (all_bits (items_of h.more) ++ plain_more k.inner k skip
                  octets)) t.config
                  ∙ sym (handed-further c given octets t.handed h.more skip rest
                  (is ∙ (λ i. (t.config i).skip - plain_count (t.config i) (sym t.stands.read.stands.count i)))));
            },
      )

  -- the last bits, filled to a whole octet, and the line after them
  pub gives-end : (now : InnerDecoding) (end : InnerEnd) (taker : T) → ReadsLast (packed took) d now a b end
      → Packs took b.packer.now b.texts.now (low_bits 7 0) bits_last last
      → took last (Note (bits_end_text end.slips b.windows end.bits end.leftover)) taker
      → (texts : List Text) × HandedOver took a.texts.now texts taker
      × ((c : Configuration) (given : List ℕ) (done : List Text) → length given ≤ most_limit
      → GivesBits c d a.packer.now a.windows given done → GivesAllBits c given (done ++ texts))
  gives-end now end taker r p noted =
      let all = r.last in
      let left = end.leftover in
      let text = Note (bits_end_text end.slips b.windows end.bits left) in
      let g = gives-handed took all a b (low_bits 7 0) bits_last last r.handed p in (
        g.texts ++ text ∷ [],
        HandedOver-push took a.texts.now last taker g.texts text g.gives.handed noted,
        λ c given done within t.
            let handed = t.handed ++ all in
            let w = subst (λ (k : Configuration). AreHanded k given handed left
            × (end.bits ≡ length (inner_bits k given (items_of handed)))
            × (end.slips ≡ reported_slips k (items_of handed))) t.config (r.all given t.handed t.stands) in
            let rest = rest-all c given t.handed all left w.0 in
            let windows_are : b.windows ≡ length (items_of handed) =
            omega (
              arith,
              now-counted c given done t all (low_bits 7 0) g rest,
              (few-handed c given handed left t.accepted w.0).0,
              within,
            ) in
            let filled : List Bool = bits_of_handed c given handed ++ fill in
            let is = now-given c given done t all (low_bits 7 0) g rest filled
            (sym (append_assoc (bits_of_handed c given t.handed) (all_bits (items_of all)) (low_bits 7 0))
            ∙ (λ i. (sym (bits-last c.inner c given (items_of t.handed) (items_of all) rest.none)
            ∙ ap (inner_bits c given) (sym (items_of-append t.handed all))) i ++ zeros-fill i)) in
            record {
              accepted = t.accepted;
              handed = handed;
              left = left;
              are_handed = w.0;
              before = done ++ g.texts;
              split = sym (append_assoc done g.texts (text ∷ []))
                  ∙ (λ i. (done ++ g.texts) ++ Note (bits_end_text (w.2 i) (windows_are i) (w.1 i) left) ∷ []);
              out = given-octets (done ++ g.texts) (phase_line handed) filled bits_last is few;
              noted = is.noted;
            },
      )
