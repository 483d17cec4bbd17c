-- For which octets a queue stands once its phase is chosen, octets before a window are dropped, or
-- more octets are put in.
use Rattle.std.proofs.Common.{◌≡◌, ℕ, ◌+◌, ◌-◌, ◌*◌, ◌<◌, ◌≤◌, ◌∙◌, ◌++◌, refl, sym, ap, subst, arith, inl, inr, Bool, true, false, List, [], ◌∷◌, Option, Some, None, take, drop, min, length, length-append, length-drop, mul-le-mul_right}
use Rattle.std.proofs.Math.Seq.{drop-append_seam, take-append_seam}
use Rattle.std.proofs.lemmas.Bool.{cases_lt}
use Rattle.std.proofs.lemmas.List.{drop-append-le, take-append-drop}
use Rattle.tm_base.specs.SoftForm.{from_form}
use Rattle.tm_conv.specs.declared.rates.Rate.{Rate}
use Rattle.tm_conv.specs.Path.{steps_size, period}
use Rattle.tm_conv.proofs.Sizes.{steps_size-le, steps_size-add, steps_size-least, steps_size-most}
use Rattle.tm_viterbi.specs.Starts.{first_start}
use Rattle.tm_viterbi.specs.WindowBlock.{WindowBlock}
use Rattle.tm_viterbi.specs.Settings.{Settings}
use Rattle.tm_windows.specs.Phase.{IsPhase, octets_needed}
use Rattle.tm_windows.specs.Slip.{octets_seen, IsSlip}
use Rattle.tm_windows.specs.Windows.{Windows, Spot, first_spot, starts_after, DropsBy, Begins, Followed, slips_of, dropped_of, kept_of, undecided}
use Rattle.tm_windows.specs.Queue.{Queueing, phase_steps, phase_size, AwaitsPhase, IsChoice, skip_of, room_of, fill_room, fill_room_by, HoldsNoMore, IsOpen, IsAt, AfterPhase, QueueStandsFor}
use Rattle.tm_windows.specs.declared.choosing.Chosen.{Chosen}
use Rattle.tm_windows.proofs.Phases.{IsPhase-prefix, IsPhase-within, period_size-is, period_size_most}
use Rattle.tm_windows.proofs.Beginnings.{longer_spot}
use Rattle.tm_windows.proofs.FollowedOnce.{closed-more}
use Rattle.tm_windows.proofs.FollowedRuns.{place_of, at-more}
use Rattle.tm_windows.proofs.HeldOctets.{most_held, open_room, after_phase}

-- ---- the symbol phase

pub choice-made : (q : Queueing) (given : List ℕ) → IsChoice q given q.chosen → AwaitsPhase q → ⊥
choice-made q given choice awaits = subst (λ (c : Option Chosen). IsChoice q given c) awaits.1 choice awaits.0

-- the octets by which it is chosen close no window more than are decoded at a time
few-chosen : (q : Queueing) (len : ℕ) → 0 < q.most → 8 ≤ q.windows.settings.keep → q.t ≡ 0 → len ≤ phase_size q
    → len < steps_size q.windows.settings.rate q.t
    ((q.most + 1) * q.windows.settings.keep + q.windows.settings.ahead + 1)
few-chosen q len some wide first few =
    let s = q.windows.settings in
    let steps : ℕ = phase_steps q in
    let more : ℕ = (q.most + 1) * s.keep + s.ahead + 1 in
    let two : 2 * s.keep ≤ (q.most + 1) * s.keep = mul-le-mul_right s.keep
    (let le : 2 ≤ q.most + 1 = omega (arith, some) in le) in
    omega (
      arith,
      few,
      period_size_most s.rate,
      steps_size-add s.rate 0 steps 8,
      steps_size-least s.rate (0 + steps) 8,
      steps_size-le s.rate 0 (steps + 8) more (omega (arith, two, wide)),
      ap (λ (t : ℕ). steps_size s.rate t more) first,
    )

-- the phase of all octets that are held is chosen
pub chosen-stands : (q : Queueing) (chosen : Chosen) (ended : Bool) (left given read : List ℕ) (done : List WindowBlock)
    → 0 < q.most → 8 ≤ q.windows.settings.keep → AwaitsPhase q
    → IsPhase q.windows.settings.rate q.windows.settings.invert (phase_steps q) q.held chosen
    → left ≡ drop chosen.skip q.held
    → (ended ≡ false → phase_size q ≤ length q.held) → QueueStandsFor q given done
    → AfterPhase (record q {
      chosen = Some chosen;
      dropped = Some 0;
      held = left;
      has_ended = ended;
      read = read;
    }) given done
chosen-stands q chosen ended left given read done some wide awaits is el many (inr after) =
    absurd (choice-made q given after.choice awaits)
chosen-stands q chosen ended left given read done some wide awaits is el many (inl before) =
    let w = q.windows in
    let from = first_spot w (drop chosen.skip given) in
    let all : left ≡ drop chosen.skip given = el ∙ ap (drop chosen.skip) before.held in
    record {
      choice = (
        awaits.0,
        subst (λ (o : List ℕ). IsPhase w.settings.rate w.settings.invert (phase_steps q) o chosen) before.held is,
      );
      enough = λ going find. omega (arith, many going, ap length before.held);
      to = from;
      closed = subst (λ (v : List WindowBlock). Followed w from v from) (sym before.nothing) refl;
      at = λ i. record { dropped = 0; place = place_of (before.starts i) (before.first i) (all i) };
      few = few-chosen q (length left) some wide before.first
          (omega (arith, before.few, ap length el, length-drop chosen.skip q.held));
      kept = ap kept_of before.nothing ∙ sym before.first;
      slips = ap slips_of before.nothing ∙ sym before.undropped;
      lost = before.nothing_lost ∙ sym (ap dropped_of before.nothing);
    }

-- no octets come any more
pub ended-stands : (q : Queueing) (given : List ℕ) (done : List WindowBlock) → QueueStandsFor q given done
    → (AwaitsPhase q → ⊥) → AfterPhase (record q { has_ended = true }) given done
ended-stands q given done stands chosen =
    let after = after_phase q given done stands chosen in
    record {
      choice = after.choice;
      enough = λ going find. absurd (let never : true ≡ false = going in cc);
      to = after.to;
      closed = after.closed;
      at = after.at;
      few = after.few;
      kept = after.kept;
      slips = after.slips;
      lost = after.lost;
    }

-- ---- octets before a window are dropped

moved-begins : (w : Windows) (steps : ℕ) (starts now : Option ℕ) (t k : ℕ) (held left : List ℕ)
    → w.seen ≡ Some steps → octets_seen w.settings.rate t steps ≤ length held
    → IsSlip w.settings.rate w.settings.invert t steps held k → left ≡ drop k held → now ≡ starts_after k starts
    → Begins w (record { place = place_of starts t held; decided = None })
    (record { dropped = k; place = place_of now t left })
moved-begins w steps starts now t k held left seen many slip el es =
    subst (λ (o : Option ℕ). DropsBy w.settings o (place_of starts t held)
    (record { dropped = k; place = place_of now t left })) (sym seen)
    (many, slip, λ i. place_of (es i) t (el i))

pub moved-stands : (q : Queueing) (steps k : ℕ) (now : Option ℕ) (left given read : List ℕ) (done : List WindowBlock)
    → (AwaitsPhase q → ⊥) → q.dropped ≡ None → q.windows.seen ≡ Some steps
    → octets_seen q.windows.settings.rate q.t steps ≤ length q.held
    → IsSlip q.windows.settings.rate q.windows.settings.invert q.t steps q.held k → left ≡ drop k q.held
    → now ≡ starts_after k q.starts → QueueStandsFor q given done
    → QueueStandsFor (record q { starts = now; dropped = Some k; held = left; read = read }) given done
moved-stands q steps k now left given read done chosen none seen many slip el es stands =
    let w = q.windows in
    let after = after_phase q given done stands chosen in
    let there = subst (λ (o : Option ℕ). IsAt w after.to o (place_of q.starts q.t q.held)) none after.at in
    inr (record {
      choice = after.choice;
      enough = after.enough;
      to = after.to;
      closed = after.closed;
      at = subst (λ (v : Spot). Begins w v (record { dropped = k; place = place_of now q.t left })) (sym there)
          (moved-begins w steps q.starts now q.t k q.held left seen many slip el es);
      few = omega (arith, after.few, ap length el, length-drop k q.held);
      kept = after.kept;
      slips = after.slips;
      lost = after.lost;
    })

-- ---- more octets

pub room-before : (q : Queueing) → AwaitsPhase q → fill_room q ≡ phase_size q
room-before q awaits = λ i. fill_room_by (awaits.0 i) (awaits.1 i) q

room-after_by : (q : Queueing) (find : Bool) (chosen : Option Chosen) → ((find ≡ true) × (chosen ≡ None) → ⊥)
    → fill_room_by find chosen q ≡ room_of q
room-after_by q true None made = absurd (made (refl, refl))
room-after_by q true (Some chosen) made = refl
room-after_by q false chosen made = refl

pub room-after : (q : Queueing) → (AwaitsPhase q → ⊥) → fill_room q ≡ room_of q
room-after q made = room-after_by q q.find q.chosen made

choice-more : (q : Queueing) (given more : List ℕ) (chosen : Option Chosen)
    → (q.find ≡ true → phase_size q ≤ length given) → IsChoice q given chosen → IsChoice q (given ++ more) chosen
choice-more q given more None enough choice = choice
choice-more q given more (Some chosen) enough choice = (
  choice.0,
  IsPhase-prefix q.windows.settings.rate q.windows.settings.invert (phase_steps q) given more chosen
      (enough choice.0) choice.1,
)

skip-within : (q : Queueing) (given : List ℕ) (chosen : Option Chosen) → IsChoice q given chosen
    → skip_of chosen ≤ length given
skip-within q given None choice = omega arith
skip-within q given (Some chosen) choice =
    IsPhase-within q.windows.settings.rate q.windows.settings.invert (phase_steps q) given chosen choice.1

few-more : (q : Queueing) (more : List ℕ) → 0 < q.windows.settings.keep → HoldsNoMore q
    → length more ≤ room_of q - length q.held → HoldsNoMore (record q { held = q.held ++ more })
few-more q more wide few room =
    let p : Queueing = record q { held = q.held ++ more } in
    elim (cases_lt (room_of q) (length (q.held ++ more))) as (λ _. HoldsNoMore (record q { held = q.held ++ more })) [
      | inl less ↦ omega (arith, few, room, less, length-append q.held more)
      | inr le ↦ most_held p wide le
    ]

pub filled-stands : (q : Queueing) (more given read : List ℕ) (done : List WindowBlock) → 0 < q.windows.settings.keep
    → q.has_ended ≡ false → length more ≤ fill_room q - length q.held → QueueStandsFor q given done
    → QueueStandsFor (record q { held = q.held ++ more; read = read }) (given ++ more) done
filled-stands q more given read done wide going room (inl before) = inl (record {
  awaits = before.awaits;
  going = before.going;
  held = ap (λ (o : List ℕ). o ++ more) before.held;
  few = omega (arith, before.few, room, room-before q before.awaits, length-append q.held more);
  nothing = before.nothing;
  starts = before.starts;
  first = before.first;
  undecided = before.undecided;
  undropped = before.undropped;
  nothing_lost = before.nothing_lost;
})
filled-stands q more given read done wide going room (inr after) =
    let w = q.windows in
    let skip : ℕ = skip_of q.chosen in
    let octets = drop skip given in
    let longer : octets ++ more ≡ drop skip (given ++ more) =
    sym (drop-append-le skip given more (skip-within q given q.chosen after.choice)) in
    inr (record {
      choice = choice-more q given more q.chosen (after.enough going) after.choice;
      enough = λ still find. omega (arith, after.enough still find, length-append given more);
      to = longer_spot after.to more;
      closed = subst (λ (o : List ℕ). Followed w (first_spot w o) done (longer_spot after.to more)) longer
          (closed-more w octets more done after.to after.closed);
      at = at-more w after.to q.dropped q.starts q.t q.held more after.at;
      few = few-more q more wide after.few
          (omega (arith, room, room-after q (choice-made q given after.choice)));
      kept = after.kept;
      slips = after.slips;
      lost = after.lost;
    })

-- ---- room

-- by twice as many octets as steps, and two more, the phase is chosen
needed-most : (rate : Rate) (window : ℕ) → 8 ≤ window → octets_needed rate window ≤ 2 * window + 2
needed-most rate window wide =
    let size : ℕ = period rate in
    let rest : ℕ = window - size in
    let sum : size + rest ≡ window = omega (arith, wide, period_size-is rate, period_size_most rate) in
    omega (
      arith,
      period_size-is rate,
      sum,
      ap (steps_size rate 0) sum,
      steps_size-add rate 0 size rest,
      steps_size-most rate (0 + size) rest,
    )

-- what is held at most has room among twice as many octets as a run and one step more have
pub room-most : (q : Queueing) → 0 < q.most → 8 ≤ q.windows.settings.keep
    → fill_room q ≤ 2 * (q.most * q.windows.settings.keep + q.windows.settings.ahead + 1)
room-most q some wide = go q.find q.chosen
  where
    s : Settings
    s = q.windows.settings

    go : (find : Bool) (chosen : Option Chosen)
        → fill_room_by find chosen q ≤ 2 * (q.most * q.windows.settings.keep + q.windows.settings.ahead + 1)
    go true None =
        let one : 1 * s.keep ≤ q.most * s.keep = mul-le-mul_right s.keep
        (let le : 1 ≤ q.most = omega (arith, some) in le) in
        omega (arith, one, needed-most s.rate (phase_steps q) (omega (arith, wide)))
    go true (Some chosen) = steps_size-most s.rate q.t (q.most * s.keep + s.ahead + 1)
    go false chosen = steps_size-most s.rate q.t (q.most * s.keep + s.ahead + 1)

-- as many octets are taken as there are, and as may be held
pub room-taken : (q : Queueing) (len limit space n : ℕ) → 0 < q.most → 8 ≤ q.windows.settings.keep
    → 2 * (q.most * q.windows.settings.keep + q.windows.settings.ahead + 1) ≤ space
    → limit ≡ fill_room q - length q.held → n ≡ min (min len limit) (space - length q.held)
    → n ≡ min len (fill_room q - length q.held)
room-taken q len limit space n some wide room el is = omega (arith, room-most q some wide, room, el, is)

-- there is room for an octet more, as long as no window is closed
pub room-open : (q : Queueing) → 0 < q.most → IsOpen q → length q.held < fill_room q
room-open q some is = elim is.few as (λ _. length q.held < fill_room q) [
  | inl awaits ↦ omega (arith, awaits.1, room-before q awaits.0)
  | inr chosen ↦ omega (arith, open_room q some chosen.1, room-after q chosen.0)
]

-- ---- octets that are converted where they are held

plain-form : (octets : List ℕ) → from_form false octets ≡ octets
plain-form [] = refl
plain-form (octet ∷ octets) = ap (λ (l : List ℕ). octet ∷ l) (plain-form octets)

pub unconverted : (first : ℕ) (octets : List ℕ) → octets ≡ take first octets ++ from_form false (drop first octets)
unconverted first octets =
    sym (take-append-drop first octets) ∙ ap (λ (l : List ℕ). take first octets ++ l) (sym (plain-form (drop first octets)))

pub converted : (form : Bool) (first : ℕ) (held more : List ℕ) → first ≡ length held
    → take first (held ++ more) ++ from_form form (drop first (held ++ more)) ≡ held ++ from_form form more
converted form first held more is =
    ap (λ (n : ℕ). take n (held ++ more) ++ from_form form (drop n (held ++ more))) is
    ∙ (λ i. take-append_seam held more i ++ from_form form (drop-append_seam held more i))

-- ---- a queue to which nothing was given

pub fresh-open : (q : Queueing) → 8 ≤ q.windows.settings.keep → q.chosen ≡ None → q.held ≡ []
    → q.dropped ≡ undecided q.find → IsOpen q
fresh-open q wide none nothing first = go q.find refl
  where
    s : Settings
    s = q.windows.settings

    go : (find : Bool) → q.find ≡ find → IsOpen q
    go true is = record {
      few = inl (
        (is, none),
        omega (arith, ap length nothing, steps_size-least s.rate 0 (phase_steps q), wide),
      );
      unseen = λ still. inl (is, none);
    }
    go false is = record {
      few = inr (
        λ awaits. absurd (let never : false ≡ true = sym is ∙ awaits.0 in cc),
        omega (arith, ap length nothing, steps_size-least s.rate q.t (s.keep + s.ahead + 1)),
      );
      unseen = λ still. absurd (let never = sym still ∙ first ∙ ap undecided is in cc);
    }

pub fresh-stands : (q : Queueing) → q.chosen ≡ None → q.held ≡ [] → q.dropped ≡ undecided q.find
    → q.has_ended ≡ false → q.starts ≡ first_start q.windows.settings.start → q.t ≡ 0 → q.slips ≡ 0 → q.lost ≡ 0
    → QueueStandsFor q [] []
fresh-stands q none nothing undone going starts first still all = go q.find refl
  where
    w : Windows
    w = q.windows

    from : Spot
    from = first_spot w (drop (skip_of q.chosen) [])

    none_left : q.held ≡ drop (skip_of q.chosen) []
    none_left = nothing ∙ ap (λ (c : Option Chosen). drop (skip_of c) []) (sym none)

    go : (find : Bool) → q.find ≡ find → QueueStandsFor q [] []
    go true is = inl (record {
      awaits = (is, none);
      going = going;
      held = nothing;
      few = omega (arith, ap length nothing);
      nothing = refl;
      starts = starts;
      first = first;
      undecided = undone ∙ ap undecided is;
      undropped = still;
      nothing_lost = all;
    })
    go false is = inr (record {
      choice = subst (λ (c : Option Chosen). IsChoice q [] c) (sym none)
          (λ find. absurd (let never : false ≡ true = sym is ∙ find in cc));
      enough = λ _ find. absurd (let never : false ≡ true = sym is ∙ find in cc);
      to = from;
      closed = refl;
      at = subst (λ (o : Option ℕ). IsAt w from o (place_of q.starts q.t q.held)) (sym (undone ∙ ap undecided is))
          (λ i. record { dropped = 0; place = place_of (starts i) (first i) (none_left i) });
      few = omega (
        arith,
        ap length nothing,
        steps_size-least w.settings.rate q.t ((q.most + 1) * w.settings.keep + w.settings.ahead + 1),
      );
      kept = sym first;
      slips = sym still;
      lost = all;
    })
