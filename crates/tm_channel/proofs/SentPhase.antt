-- The phase of octets that were sent and not disturbed, or complemented.
use Rattle.std.proofs.Common.{◌≡◌, ℕ, zero, suc, ◌+◌, ◌-◌, ◌%◌, ◌<◌, ◌≤◌, ◌==◌, cond, if◌then◌else◌, Bool, true, false, List, [], ◌∷◌, ◌++◌, length, take, drop, map, Option, Some, None, refl, sym, ap, ◌∙◌, subst, arith, take-append-drop, length-drop, inl, inr}
use Rattle.std.proofs.lemmas.Bool.{cases_lt}
use Rattle.std.proofs.lemmas.List.{length-take-le, take_at}
use Rattle.std.proofs.lemmas.List.Elements.{All-cons, All-nil, All-take}
use Rattle.tm_base.specs.Bits.{AreOctets, bits_of}
use Rattle.tm_base.specs.Handed.{Handed}
use Rattle.tm_config.specs.Accepted.{IsAccepted}
use Rattle.tm_config.specs.Configuration.{Configuration, is_signed, is_sought}
use Rattle.tm_config.specs.declared.values.SoftForm.{SoftForm}
use Rattle.tm_config.specs.declared.values.SoftForm.TheVariants.{Unsigned, Signed}
use Rattle.tm_conv.specs.declared.rates.Rate.{Rate}
use Rattle.tm_conv.specs.Path.{AreBits, complement, path, register_after, steps_size}
use Rattle.tm_conv.specs.Cost.{cost, sure}
use Rattle.tm_conv.specs.Best.{IsBest, IsCandidate}
use Rattle.tm_conv.specs.Encoding.{bit_numbers, level, levels, sent_for}
use Rattle.tm_conv.proofs.Clean.{AreDigits, bits-path, cost-sure, length-sure, path-append, sure-append}
use Rattle.tm_conv.proofs.Paths.{length-path, steps_size-more}
use Rattle.tm_conv.proofs.Sizes.{step_size_pos}
use Rattle.tm_viterbi.specs.Clean.{complemented_octets}
use Rattle.tm_viterbi.specs.Starts.{starts_from}
use Rattle.tm_viterbi.proofs.CleanBlocks.{steps-mono}
use Rattle.tm_viterbi.proofs.HasBlocks.{HasBest}
use Rattle.tm_windows.specs.declared.choosing.Chosen.{Chosen}
use Rattle.tm_windows.specs.Phase.{AreCompared, IsCostAt, IsPhase, octets_at, period_size}
use Rattle.tm_inner.specs.Inner.{IsStartKnown, soft_value}
use Rattle.tm_inner.specs.Phase.{IsChosen, PhaseAt, with_phase, phase_octets, skip_of, skipped_at}
use Rattle.tm_inner.specs.Symbols.{is_inverted, low_level, symbols_by}
use Rattle.tm_inner.proofs.InnerBits.{AreBits-bit_numbers, drop-none, soft-sent}
use Rattle.tm_codeblock.specs.Frames.{whole_frames}
use Rattle.tm_channel.specs.Sent.{cadus, sent, sent_phase}
use Rattle.tm_channel.specs.Items.{ItemValue}
use Rattle.tm_channel.specs.declared.totals.Totals.{Totals}
use Rattle.tm_channel.specs.Handing.{AreReceived}
use Rattle.tm_channel.specs.Receive.{Receive}
use Rattle.tm_channel.specs.SentStream.{clean_items, found_frames}

-- no more steps are compared than were sent
sent-steps : (rate : Rate) (invert : Bool) (window register steps : ℕ) (bits : List ℕ)
    → AreCompared rate window (sure (path rate invert 0 register bits)) steps → steps ≤ length bits
sent-steps rate invert window register steps bits are =
    elim (cases_lt (length bits) steps) as (λ _. steps ≤ length bits) [
      | inl less ↦ absurd (too_many less)
      | inr le ↦ le
    ]
  where
    symbols : List ℕ
    symbols = path rate invert 0 register bits

    too_many : length bits < steps → ⊥
    too_many less =
        let n : ℕ = length bits in
        let all : length (sure symbols) ≡ steps_size rate 0 (length bits) = length-sure symbols
        ∙ length-path rate invert 0 register bits in
        let rest : steps_size rate 0 are.most ≤ length (sure symbols) =
        omega (arith, are.whole.whole, length-drop (period_size rate - 1) (sure symbols)) in
        let most : steps ≤ are.most = omega (arith, are.lesser) in
        let next : steps_size rate 0 (n + 1) ≤ steps_size rate 0 steps =
        steps-mono rate 0 (n + 1) steps (omega arith) in
        omega (
          arith,
          all,
          rest,
          next,
          steps-mono rate 0 steps are.most most,
          steps_size-more rate 0 n,
          step_size_pos rate (0 + n),
        )

-- the octets of the first steps
sent-prefix : (rate : Rate) (invert : Bool) (register steps : ℕ) (bits : List ℕ) → steps ≤ length bits
    → take (steps_size rate 0 steps) (sure (path rate invert 0 register bits))
    ≡ sure (path rate invert 0 register (take steps bits))
sent-prefix rate invert register steps bits le =
    let prefix = take steps bits in
    let first = path rate invert 0 register prefix in
    let rest = path rate invert (0 + length prefix) (register_after register prefix) (drop steps bits) in
    let whole : sure (path rate invert 0 register bits) ≡ sure first ++ sure rest =
    ap (λ l. sure (path rate invert 0 register l)) (sym (take-append-drop steps bits))
    ∙ ap sure (path-append rate invert 0 register prefix (drop steps bits)) ∙ sure-append first rest in
    let size : length (sure first) ≡ steps_size rate 0 steps = length-sure first
    ∙ length-path rate invert 0 register prefix ∙ ap (steps_size rate 0) (length-take-le steps bits le) in
    ap (take (steps_size rate 0 steps)) whole ∙ take_at (sure first) (sure rest) (steps_size rate 0 steps) size

-- the first candidate costs nothing where its best path does
free-at : (rate : Rate) (invert : Bool) (steps : ℕ) (octets others : List ℕ) (register : ℕ) (bits : List ℕ)
    → octets_at rate 0 steps octets 0 ≡ others
    → IsBest (starts_from None) rate invert 0 others register bits
    → cost (path rate invert 0 register bits) others ≡ 0 → IsCostAt rate invert 0 steps octets 0 0
free-at rate invert steps octets others register bits same best free = record {
  initial = register;
  bits = bits;
  best = subst (λ (l : List ℕ). IsBest (starts_from None) rate invert 0 l register bits) (sym same) best;
  is = sym (ap (cost (path rate invert 0 register bits)) same ∙ free);
}

-- the path that was sent costs nothing there, and so this candidate is chosen
phase-free : HasBest → (rate : Rate) (invert : Bool) (window register : ℕ) (bits : List ℕ) (chosen : Chosen)
    → register < 64 → AreBits bits
    → IsPhase rate invert window (sure (path rate invert 0 register bits)) chosen → (chosen.skip ≡ 0)
    × (chosen.cost ≡ 0)
phase-free best rate invert window register bits chosen small are p =
    let steps : ℕ = p.steps in
    let symbols = path rate invert 0 register (take steps bits) in
    let within = sent-steps rate invert window register steps bits p.compared in
    let was_sent : IsCandidate (starts_from None) rate invert 0
    (sure (path rate invert 0 register (take steps bits))) register (take steps bits) = record {
      start = refl;
      register = small;
      each = All-take (λ bit. bit < 2) steps bits are;
      covers = sym (length-sure symbols);
    } in
    let size : length (sure (path rate invert 0 register (take steps bits))) ≡ steps_size rate 0 steps =
    length-sure symbols ∙ length-path rate invert 0 register (take steps bits)
    ∙ ap (steps_size rate 0) (length-take-le steps bits within) in
    let h = best (starts_from None) rate invert 0 steps 0 (sure symbols) refl (omega arith) size in
    let free : cost (path rate invert 0 h.0 h.1) (sure (path rate invert 0 register (take steps bits))) ≡ 0 =
    omega (arith, h.2.least register (take steps bits) was_sent, cost-sure symbols) in
    let at = free-at rate invert steps (sure (path rate invert 0 register bits)) (sure symbols) h.0 h.1
    (sent-prefix rate invert register steps bits within) h.2 free in (
      elim (cases_lt 0 chosen.skip) as (λ _. chosen.skip ≡ 0)
          [ inl some ↦ absurd (omega (arith, p.least.first 0 0 some at)) | inr none ↦ omega arith ],
      omega (arith, p.least.least 0 0 (omega (arith, p.least.below)) at),
    )

phase-at : HasBest → (rate : Option Rate) (c : Configuration) (bits : List Bool) (chosen : Chosen) → c.skip ≡ 0
    → PhaseAt rate c (map (soft_value c) (drop (skipped_at rate c) (symbols_by rate c bits))) chosen
    → (chosen.skip ≡ 0) × (chosen.cost ≡ 0)
phase-at best None c bits chosen none p = p
phase-at best (Some rate) c bits chosen none p =
    phase-free best rate (is_inverted rate c.invert) (c.keep + c.ahead) 0 (bit_numbers bits) chosen (omega arith)
    (AreBits-bit_numbers bits)
    (subst (λ (l : List ℕ). IsPhase rate (is_inverted rate c.invert) (c.keep + c.ahead) l chosen)
    (soft-sent c rate bits none) p)

-- ---- symbols complemented

-- the bits and the register complemented have the complemented symbols
abbrev pub Complements : Type 0
Complements = (rate : Rate) (invert : Bool) (t register : ℕ) (bits : List ℕ) → register < 64 → AreBits bits
    → path rate invert t (63 - register) (complement bits) ≡ complement (path rate invert t register bits)

AreBits-complement : (bits : List ℕ) → AreBits (complement bits)
AreBits-complement [] = All-nil (λ b. b < 2)
AreBits-complement (bit ∷ bits) =
    All-cons (λ b. b < 2) (1 - bit) (complement bits) (omega arith) (AreBits-complement bits)

value-complemented : (c : Configuration) (symbol : ℕ) → symbol < 2
    → soft_value c (255 - level (low_level c.soft) symbol) ≡ cond (1 - symbol == 0) 0 255
value-complemented c zero small = go c.soft
  where
    go : (form : SoftForm) → (let octet = 255 - low_level form in cond (is_signed form) ((octet + 128) % 256) octet)
        ≡ 255
    go Unsigned = refl
    go Signed = refl
value-complemented c (suc zero) small = go c.soft
  where
    go : (form : SoftForm) → (let octet = 255 - (255 - low_level form) in cond (is_signed form)
        ((octet + 128) % 256) octet) ≡ 0
    go Unsigned = refl
    go Signed = refl
value-complemented c (suc (suc n)) small = absurd (omega arith)

values-complemented : (c : Configuration) (symbols : List ℕ) → AreDigits symbols
    → map (soft_value c) (complemented_octets (levels (low_level c.soft) symbols)) ≡ sure (complement symbols)
values-complemented c [] are = refl
values-complemented c (symbol ∷ symbols) are =
    (λ i. value-complemented c symbol are.0 i ∷ values-complemented c symbols are.1 i)

phase-complemented_at : HasBest → Complements → (rate : Option Rate) (c : Configuration) (bits : List Bool)
    (chosen : Chosen) → c.skip ≡ 0
    → PhaseAt rate c (map (soft_value c) (drop (skipped_at rate c) (complemented_octets (symbols_by rate c bits))))
    chosen → (chosen.skip ≡ 0) × (chosen.cost ≡ 0)
phase-complemented_at best complemented None c bits chosen none p = p
phase-complemented_at best complemented (Some rate) c bits chosen none p =
    let invert = is_inverted rate c.invert in
    let numbers = bit_numbers bits in
    let symbols = sent_for rate (is_inverted rate c.invert) bits in
    let soft : map (soft_value c) (drop c.skip (complemented_octets (levels (low_level c.soft) symbols)))
    ≡ sure (path rate invert 0 63 (complement numbers)) =
    ap (map (soft_value c)) (drop-none c.skip (complemented_octets (levels (low_level c.soft) symbols)) none)
    ∙ values-complemented c symbols (bits-path rate invert 0 0 numbers)
    ∙ ap sure (sym (complemented rate invert 0 0 numbers (omega arith) (AreBits-bit_numbers bits))) in
    phase-free best rate invert (c.keep + c.ahead) 63 (complement numbers) chosen (omega arith)
    (AreBits-complement numbers)
    (subst (λ (l : List ℕ). IsPhase rate invert (c.keep + c.ahead) l chosen) soft p)

-- ---- the phase that is chosen

chosen-is : (c : Configuration) (octets : List ℕ) (chosen : Option Chosen)
    → ((it : Chosen) → PhaseAt c.inner c (phase_octets c octets) it → (it.skip ≡ 0) × (it.cost ≡ 0))
    → IsChosen c octets chosen → chosen ≡ sent_phase c
chosen-is c octets None each is = rw is refl
chosen-is c octets (Some chosen) each is =
    let it = each chosen is.1 in
    let same : ◌≡◌ {A = Chosen} chosen (record { skip = 0; cost = 0 }) =
    (λ i. record { skip = it.0 i; cost = it.1 i }) in
    rw is.0 (ap (λ (x : Chosen). Some x) same)

pub phase-sent : HasBest → (c : Configuration) (input : List ℕ) (chosen : Option Chosen) → c.skip ≡ 0
    → IsChosen c (sent c input) chosen → chosen ≡ sent_phase c
phase-sent best c input chosen none =
    chosen-is c (sent c input) chosen (λ it p. phase-at best c.inner c (bits_of (cadus c input)) it none p)

pub phase-complemented : HasBest → Complements → (c : Configuration) (input : List ℕ) (chosen : Option Chosen)
    → c.skip ≡ 0 → IsChosen c (complemented_octets (sent c input)) chosen → chosen ≡ sent_phase c
phase-complemented best complemented c input chosen none =
    chosen-is c (complemented_octets (sent c input)) chosen
    (λ it p. phase-complemented_at best complemented c.inner c (bits_of (cadus c input)) it none p)

-- ---- what is handed over

-- no octet stands before those that were sent
pub sent-skip : (c : Configuration) → skip_of (sent_phase c) ≡ 0
sent-skip c = go (is_sought c.phase)
  where
    go : (find : Bool) → skip_of (if find then Some (record { skip = 0; cost = 0 }) else None) ≡ 0
    go true = refl
    go false = refl

-- the phase, where it is to be found, and then the items of the whole frames
pub handed-clean : HasBest → ((c : Configuration) (octets : List ℕ) (items : List ItemValue) → IsAccepted c
    → c.skip ≡ 0 → IsStartKnown c → AreOctets octets
    → Receive c 0 (sent c octets) items → items ≡ clean_items c 0 (found_frames c (whole_frames c.frame_length octets)))
    → (c : Configuration) (octets : List ℕ) (handed : List (Handed ItemValue)) (totals : Totals) → IsAccepted c
    → c.skip ≡ 0 → IsStartKnown c → AreOctets octets
    → AreReceived c (sent c octets) handed totals → handed ≡ with_phase (sent_phase c)
    (clean_items c 0 (found_frames c (whole_frames c.frame_length octets)))
handed-clean best clean c octets handed totals ok none start small r =
    let chosen : r.chosen ≡ sent_phase c = phase-sent best c octets r.chosen none r.choice in
    let receive : Receive c 0 (sent c octets) r.items = subst (λ (n : ℕ). Receive c n (sent c octets) r.items)
    (ap skip_of chosen ∙ sent-skip c) (record {
      bits = r.are_items.0;
      inner = r.are_items.1;
      are_items = r.are_items.3;
      symbols = r.are_items.4;
    }) in
    let items : r.items ≡ clean_items c 0 (found_frames c (whole_frames c.frame_length octets)) =
    clean c octets r.items ok none start small receive in
    r.are ∙ ap (λ (o : Option Chosen). with_phase o r.items) chosen ∙ ap (with_phase (sent_phase c)) items
