use Rattle.std.proofs.Common.{◌≡◌, ◌⊎◌, inl, inr, IsTrue, ◌<◌, ◌≤◌, ◌+◌, ◌-◌, ◌^◌, ℕ, Bool, true, false, List, ◌∙◌, ◌++◌, ◌∷◌, [], length, length-drop, refl, sym, subst, ap, arith}
use Rattle.tm_sync.specs.Finding.{Finding, Passes, Tells, places_left}
use Rattle.tm_sync.specs.Rescan.{Soundness}
use Rattle.tm_sync.specs.Places.{Rules}
use Rattle.tm_sync.specs.declared.found.Found.{Found}
use Rattle.tm_channel.specs.Origins.{AreAt}
use Rattle.tm_channel.specs.OctetReceiving.{HasFound}
use Rattle.tm_channel.specs.Receiving.{Batching, HoldsFound}
use Rattle.tm_channel.specs.declared.bit_receiver.BitReceiver.{BitReceiver}
use Rattle.tm_channel.proofs.KeptSymbols.{symbols-kept, symbols-stored}
use Rattle.tm_channel.proofs.Holding.{Takes, recent-count, holding-all, holding-left, holding-passed, holding-taken, holds-config}
use Rattle.tm_channel.proofs.bit_receiver.BitReceiver.keep_next.Goals as goal

-- the search goes on to a later bit, and those from there on are left
passes-on : (r : BitReceiver) (next : Finding) (rest : List Bool) (handed : ℕ) (bits : List Bool) (found : List Found)
    → length bits < 2 ^ 63 → Passes r.finder next r.recent.bits rest
    → HoldsFound r.finder r.recent r.batch handed bits found
    → (r.finder.passed ≤ next.passed) × (next.passed + length rest ≡ length bits)
passes-on r next rest handed bits found few p h =
    let all = recent-count r.batch.config r.finder r.recent.bits r.batch.stored handed bits found h in
    let now : next.passed ≡ r.finder.passed + p.count = p.passed (omega (arith, all, few)) in
    let left : length rest ≡ length r.recent.bits - p.count = ap length p.rest ∙ length-drop p.count r.recent.bits in
    let within = p.within in
    (omega (arith, now), omega (arith, now, left, within, all))

-- ---- none is whole
pub returns-in-None-clause-none : goal.returns-in-None-clause-none
returns-in-None-clause-none g c = λ none at count handed bits found few le h.
    let was = c.args.self.now in
    let b = was.batch in
    let passes = c.next.ensures.passes in
    let now = holding-passed b.config was.finder c.next.new.self was.recent.bits c.next.new.recent.bits b.stored handed
    bits found few passes h.holds in (
      record {
        holds = now;
        has = symbols-stored was
            (record { finder = c.next.new.self; recent = c.next.new.recent; batch = b; origins = was.origins }) count at
            (passes-on was c.next.new.self c.next.new.recent.bits handed bits found few passes h.holds).0 refl refl
            h.has.stored h.has;
      },
      holding-all b.config c.next.new.self c.next.new.recent.bits b.stored handed bits found
          c.in-None.ensures.none now,
    )

-- what is found inside another one and is not sound is left; all else is a place, and kept
is-kept : (inside sound taken : Bool) → (inside ≡ false → taken ≡ true) → (inside ≡ true → taken ≡ sound)
    → ((inside ≡ true → IsTrue sound) × (taken ≡ true))
    ⊎ ((inside ≡ true) × (sound ≡ false) × (taken ≡ false))
is-kept false sound taken outside within = inl ((λ is. absurd (let no = is in cc)), outside refl)
is-kept true true taken outside within = inl ((λ is. refl), within refl)
is-kept true false taken outside within = inr (refl, refl, within refl)

-- these are the places that were found next
abbrev AreNext : BitReceiver → BitReceiver → List Found → Type 0
AreNext was now next = (at : ℕ → ℕ) (count handed : ℕ) (bits : List Bool) (found : List Found) → length bits < 2 ^ 63
    → length bits ≤ count → HasFound was at count handed bits found → HasFound now at count handed bits (found ++ next)

-- ---- one is
pub returns-in-Some-clause-kept : goal.returns-in-Some-clause-kept
returns-in-Some-clause-kept g c = λ one.
    let was = c.args.self.now in
    let b = was.batch in
    let k = b.config in
    let passes = c.next.ensures.passes in
    let f = c.in-Some.found in
    let some = c.in-Some.ensures.some in
    let size = ap (λ (r : Rules). r.block_bits) (passes.rules ∙ c.requires.agree.rules) in
    let kept = c.keep-sound.ensures in
    let inside = c.is_inside-is_inside.ensures in
    let now : BitReceiver = record {
      finder = c.take.new.self;
      recent = c.take.new.recent;
      batch = c.keep-sound.new.self;
      origins = was.origins;
    } in
    let takes : (next : List Found) → ((says : Soundness) (more : List Bool)
    → c.next.new.self.passed + length c.next.new.recent.bits < 2 ^ 63
    → Tells c.next.new.self says f c.keep-sound.result
    → places_left c.next.new.self says (c.next.new.recent.bits ++ more)
    ≡ next ++ places_left now.finder says (now.recent.bits ++ more))
    → Takes k c.next.new.self now.finder c.next.new.recent.bits now.recent.bits f c.keep-sound.result next =
    λ next same. record {
      columns = passes.columns ∙ c.requires.agree.columns;
      at = some.at;
      room = omega (arith, some.room, size);
      is = kept.sound;
      bits = c.take.ensures.bits;
      passed = c.take.ensures.passed;
      same = same;
    } in
    elim (is-kept c.is_inside-is_inside.result c.keep-sound.result c.take.result
    (λ out. c.take.ensures.outside (sym inside ∙ out)) (λ is. c.take.ensures.inside (sym inside ∙ is)))
    as (λ _. (next : List Found) × AreNext was now next) [
      | inl place ↦ (
        f ∷ [],
        λ at count handed bits found few le h.
            let on = passes-on was c.next.new.self c.next.new.recent.bits handed bits found few passes h.holds in
            let taken_on : now.finder.passed ≡ c.next.new.self.passed + 1 =
            c.take.ensures.passed (omega (arith, on.1, few)) in
            let here : f.place ≡ c.next.new.self.passed = some.at in record {
              holds = holds-config k now.batch.config now.finder now.recent.bits now.batch.stored handed bits
                  (found ++ f ∷ []) kept.config
                  (holding-taken k c.next.new.self now.finder c.next.new.recent.bits now.recent.bits b.stored
                  now.batch.stored handed bits found f c.keep-sound.result few
                  (takes (f ∷ []) (λ says more short tells. c.take.ensures.taken place.1 says more short tells))
                  (kept.stored place.0)
                  (holding-passed k was.finder c.next.new.self was.recent.bits c.next.new.recent.bits b.stored handed
                  bits found few passes h.holds));
              has = symbols-kept was now count f.place c.at-origin.result c.symbol-symbol.result at
                  (omega (arith, on.0, taken_on)) kept.config refl (omega (arith, here, on.0))
                  (omega (arith, here, on.1, some.room, le)) c.at-origin.ensures c.symbol-symbol.ensures
                  (kept.symbols place.0) h.has;
            },
      )
      | inr none ↦ (
        [],
        λ at count handed bits found few le h.
            let same = kept.left none.0 none.1 in
            let on = passes-on was c.next.new.self c.next.new.recent.bits handed bits found few passes h.holds in
            let left_on : now.finder.passed ≡ c.next.new.self.passed + 1 =
            c.take.ensures.passed (omega (arith, on.1, few)) in record {
              holds = holds-config k now.batch.config now.finder now.recent.bits now.batch.stored handed bits
                  (found ++ []) kept.config
                  (holding-left k c.next.new.self now.finder c.next.new.recent.bits now.recent.bits b.stored
                  now.batch.stored handed bits found f c.keep-sound.result few
                  (takes [] (λ says more short tells. c.take.ensures.left none.2 says more short tells))
                  (ap (λ (v : Batching). v.stored) same)
                  (holding-passed k was.finder c.next.new.self was.recent.bits c.next.new.recent.bits b.stored handed
                  bits found few passes h.holds));
              has = symbols-stored was now count at (omega (arith, on.0, left_on)) kept.config refl
                  (subst (AreAt at count) (sym (ap (λ (v : Batching). v.symbols) same)) h.has.stored) h.has;
            },
      )
    ]
