-- What a receiver holds, as bits are given to it, are passed, and are places.
use Rattle.std.proofs.Common.{◌≡◌, ℕ, ◌+◌, ◌*◌, ◌^◌, ◌<◌, ◌≤◌, Bool, true, false, cond, List, [], ◌∷◌, ◌++◌, length, take, drop, map, refl, sym, ap, ◌∙◌, subst, arith, append_assoc, length-append, length-drop, Option, Some, None, IfSome}
use Rattle.std.proofs.lemmas.List.{append-nil, drop-append-le, drop-drop, map-append}
use Rattle.tm_config.specs.Configuration.{Configuration, codeblock_length, correctable}
use Rattle.tm_sync.specs.declared.found.Columns.{Columns}
use Rattle.tm_sync.specs.declared.found.Found.{Found}
use Rattle.tm_sync.specs.Rescan.{Last, Soundness}
use Rattle.tm_sync.specs.Places.{settled_by}
use Rattle.tm_sync.specs.Finding.{Ends, Finding, IsWhole, Passes, Recent, Tells, places_left}
use Rattle.tm_sync.proofs.Steps.{settled-room}
use Rattle.tm_codeblock.specs.ReceivedCodeblock.{rules_of, codeblock_in, columns_of, is_sound, places_in, sound_in}
use Rattle.tm_codeblock.proofs.PlacesIn.{sound_in-more, sound_in-rest}
use Rattle.tm_channel.specs.Due.{due_count}
use Rattle.tm_channel.specs.Receiving.{Agree, AreWritten, Batching, Fills, Holding, Holds, HoldsFound, IsReady, Stands, StoredCodeblock, run_size, stored_at, stored_of}
use Rattle.tm_channel.proofs.Streaming.{drop-all, found-end, stored-same}

-- `recent` has as many bits as are not passed
pub recent-count : (c : Configuration) (s : Finding) (recent : List Bool) (stored : List StoredCodeblock) (handed : ℕ)
    (bits : List Bool) (found : List Found) → Holding c s recent stored handed bits found
    → s.passed + length recent ≡ length bits
recent-count c s recent stored handed bits found h =
    let within = h.passed in omega (arith, within, ap length h.left, length-drop s.passed bits)

-- all of the bits were searched
pub stands-all : (s : Finding) (room : Recent) (b : Batching) (bits : List Bool)
    → Holds s room b (due_count b.config bits) bits → Stands s room b bits
stands-all s room b bits holds = record {
  first = bits;
  more = [];
  are = sym (append-nil bits);
  holds = subst (λ (l : List Bool). HoldsFound s room b (due_count b.config bits) l (places_in b.config bits))
      (sym (append-nil bits)) holds;
  same = refl;
}

-- how many bits were given
pub stands-count : (s : Finding) (room : Recent) (b : Batching) (bits : List Bool) → Stands s room b bits
    → s.passed + length room.bits ≡ length bits
stands-count s room b bits stands =
    recent-count b.config s room.bits b.stored (due_count b.config stands.first) (stands.first ++ stands.more)
    (places_in b.config stands.first) stands.holds ∙ ap length (sym stands.are)

-- ---- they agree

-- no codeblocks are stored
abbrev pub no_batch : Configuration → Batching
no_batch c = record { config = c; stored = []; symbols = []; items = [] }

-- no bits were given
pub ready-new : (c : Configuration) (s : Finding) (room : Recent)
    → s ≡ record { rules = rules_of c; columns = columns_of c; passed = 0; last = None } → room.bits ≡ []
    → settled_by s.rules.verify s.rules.block_bits + 8 * run_size + 14 ≤ 8 * room.size → 0 < c.batch
    → IsReady s room (no_batch c)
ready-new c s room new none sized some = record {
  agree = record {
    rules = ap (λ (v : Finding). v.rules) new;
    columns = ap (λ (v : Finding). v.columns) new;
    whole = subst (λ (v : Finding). IsWhole v room.bits) (sym new) tt;
    sized = sized;
    written = λ on. tt;
  };
  short = omega (arith, ap length none, settled-room s.rules);
  few = omega (arith, some);
}

-- the search has passed all that it can, so that there is room
pub ready-fills : (s : Finding) (room : Recent) (b : Batching) → IsReady s room b → Fills s room b
ready-fills s room b ready = record {
  agree = ready.agree;
  free = omega (arith, ready.short, ready.agree.sized);
  few = ready.few;
}

-- the same with another batch
pub agree-batch : (s s' : Finding) (room room' : Recent) (b b' : Batching) → s' ≡ s → room' ≡ room
    → b'.config ≡ b.config → AreWritten b' → Agree s room b → Agree s' room' b'
agree-batch s s' room room' b b' same_finder same_room config written a =
    subst (λ (v : Finding). Agree v room' b') (sym same_finder)
    (subst (λ (l : Recent). Agree s l b') (sym same_room) (record {
      rules = a.rules ∙ ap rules_of (sym config);
      columns = a.columns ∙ ap columns_of (sym config);
      whole = a.whole;
      sized = a.sized;
      written = written;
    }))

-- bits were given
pub agree-more : (s : Finding) (room room' : Recent) (b : Batching) (piece : List Bool) → room'.size ≡ room.size
    → room'.bits ≡ room.bits ++ piece → Agree s room b → Agree s room' b
agree-more s room room' b piece size more a = record {
  rules = a.rules;
  columns = a.columns;
  whole = longer s.last a.whole;
  sized = omega (arith, a.sized, size);
  written = a.written;
}
  where
    longer : (last : Option Last) → IfSome last (λ l. l.end ≤ s.passed + length room.bits)
        → IfSome last (λ l. l.end ≤ s.passed + length room'.bits)
    longer None whole = tt
    longer (Some last) whole = omega (arith, whole, ap length more, length-append room.bits piece)

-- the same with another configuration
pub holds-config : (c k : Configuration) (s : Finding) (recent : List Bool) (stored : List StoredCodeblock)
    (handed : ℕ) (bits : List Bool) (found : List Found) → k ≡ c → Holding c s recent stored handed bits found
    → Holding k s recent stored handed bits found
holds-config c k s recent stored handed bits found same h =
    subst (λ (k : Configuration). Holding k s recent stored handed bits found) (sym same) h

-- ---- bits are given
pub holding-more : (c : Configuration) (s : Finding) (recent : List Bool) (stored : List StoredCodeblock) (handed : ℕ)
    (bits piece : List Bool) (found : List Found) → Holding c s recent stored handed bits found
    → Holding c s (recent ++ piece) stored handed (bits ++ piece) found
holding-more c s recent stored handed bits piece found h =
    let within = h.passed in
    let waiting : List Found = drop handed found in
    let ends = drop-all (λ f. f.place + 32 + (rules_of c).block_bits ≤ length bits) handed found
    (found-end c s recent stored handed bits found h) in
    record {
      passed = omega (arith, within, length-append bits piece);
      left = ap (λ l. l ++ piece) h.left ∙ sym (drop-append-le s.passed bits piece within);
      places = λ more. subst (λ (l : List Bool). places_in c l
          ≡ found ++ places_left s (sound_in c l) ((recent ++ piece) ++ more)) (sym (append_assoc bits piece more))
          (subst (λ (l : List Bool). places_in c (bits ++ (piece ++ more))
          ≡ found ++ places_left s (sound_in c (bits ++ (piece ++ more))) l) (sym (append_assoc recent piece more))
          (h.places (piece ++ more)));
      within = h.within;
      waiting = h.waiting ∙ sym (stored-same c bits piece waiting ends);
    }

-- ---- bits are passed at which no place stands
pub holding-passed : (c : Configuration) (s s' : Finding) (recent recent' : List Bool) (stored : List StoredCodeblock)
    (handed : ℕ) (bits : List Bool) (found : List Found) → length bits < 2 ^ 63 → Passes s s' recent recent'
    → Holding c s recent stored handed bits found → Holding c s' recent' stored handed bits found
holding-passed c s s' recent recent' stored handed bits found few p h =
    let count = recent-count c s recent stored handed bits found h in
    let short : s.passed + length recent < 2 ^ 63 = omega (arith, count, few) in
    let now : s'.passed ≡ s.passed + p.count = p.passed short in
    let within = p.within in
    record {
      passed = omega (arith, now, count, within);
      left = p.rest ∙ ap (drop p.count) h.left ∙ drop-drop p.count s.passed bits
          ∙ ap (λ n. drop n bits) (sym now);
      places = λ more. h.places more ∙ ap (λ fs. found ++ fs) (p.same short (sound_in c (bits ++ more)) more);
      within = h.within;
      waiting = h.waiting;
    }

-- all that the bits have were found
pub holding-all : (c : Configuration) (s : Finding) (recent : List Bool) (stored : List StoredCodeblock) (handed : ℕ)
    (bits : List Bool) (found : List Found) → Ends s recent → Holding c s recent stored handed bits found
    → places_in c bits ≡ found
holding-all c s recent stored handed bits found ends h =
    ap (places_in c) (sym (append-nil bits)) ∙ h.places []
    ∙ ap (λ l. found ++ places_left s (sound_in c (bits ++ [])) l) (append-nil recent)
    ∙ ap (λ fs. found ++ fs) (ends.none (sound_in c (bits ++ []))) ∙ append-nil found

-- ---- the next bit may be a place

-- the bits of its codeblock
abbrev pub next_block : Configuration → List Bool → List Bool
next_block c recent = take (8 * codeblock_length c) (drop 32 recent)

-- whether that is sound, where it matters
abbrev pub IsTold : Configuration → List Bool → Found → Bool → Type 0
IsTold c recent f sound = c.rescan ≡ true → sound ≡ is_sound c (codeblock_in c f.inverted (next_block c recent))

block-is : (c : Configuration) (s : Finding) (recent : List Bool) (stored : List StoredCodeblock) (handed : ℕ)
    (bits : List Bool) (found : List Found) (f : Found) → f.place ≡ s.passed
    → Holding c s recent stored handed bits found → stored_at c bits f ≡ stored_of c f (next_block c recent)
block-is c s recent stored handed bits found f at h =
    ap (λ l. stored_of c f (take (8 * codeblock_length c) l))
    (ap (λ n. drop (n + 32) bits) at ∙ sym (drop-drop 32 s.passed bits) ∙ ap (drop 32) (sym h.left))

told : (c : Configuration) (s : Finding) (recent : List Bool) (stored : List StoredCodeblock) (handed : ℕ)
    (bits more : List Bool) (found : List Found) (f : Found) (sound : Bool) → s.columns ≡ columns_of c
    → f.place ≡ s.passed → 32 + 8 * codeblock_length c ≤ length recent → IsTold c recent f sound
    → Holding c s recent stored handed bits found → Tells s (sound_in c (bits ++ more)) f sound
told c s recent stored handed bits more found f sound columns at room is h =
    subst (λ o. IfSome o (λ columns. sound ≡ sound_in c (bits ++ more) f.place f.inverted)) (sym columns)
    (go c.rescan is)
  where
    count : s.passed + length recent ≡ length bits
    count = recent-count c s recent stored handed bits found h

    same : is_sound c (codeblock_in c f.inverted (next_block c recent))
        ≡ sound_in c (bits ++ more) f.place f.inverted
    same = ap (λ l. is_sound c (codeblock_in c f.inverted (next_block c l))) h.left
        ∙ sym (sound_in-rest c bits s.passed f.inverted)
        ∙ ap (λ n. sound_in c bits n f.inverted) (sym at)
        ∙ sym (sound_in-more c bits more f.place f.inverted (omega (arith, count, room, at)))

    go : (on : Bool) → (on ≡ true → sound ≡ is_sound c (codeblock_in c f.inverted (next_block c recent)))
        → IfSome {T = Columns} (cond on (Some (record { stride = 8 * c.depth; strength = correctable c.code })) None)
        (λ columns. sound ≡ sound_in c (bits ++ more) f.place f.inverted)
    go true is = is refl ∙ same
    go false is = tt

-- what `take` says of a bit that was passed, and of the places from there on: this one, or none, is before those from
-- the next bit on
pub record Takes (c : Configuration) (s s' : Finding) (recent recent' : List Bool) (f : Found) (sound : Bool)
    (next : List Found) : Type 0 where
  pub columns : s.columns ≡ columns_of c
  pub at : f.place ≡ s.passed
  pub room : 32 + 8 * codeblock_length c ≤ length recent
  pub is : IsTold c recent f sound
  pub bits : recent' ≡ drop 1 recent
  pub passed : s.passed + length recent < 2 ^ 63 → s'.passed ≡ s.passed + 1
  pub same : (says : Soundness) (more : List Bool) → s.passed + length recent < 2 ^ 63 → Tells s says f sound
      → places_left s says (recent ++ more) ≡ next ++ places_left s' says (recent' ++ more)

holding-next : (c : Configuration) (s s' : Finding) (recent recent' : List Bool) (stored stored' : List StoredCodeblock)
    (handed : ℕ) (bits : List Bool) (found next : List Found) (f : Found) (sound : Bool) → length bits < 2 ^ 63
    → Takes c s s' recent recent' f sound next → stored' ≡ stored ++ map (stored_at c bits) next
    → Holding c s recent stored handed bits found → Holding c s' recent' stored' handed bits (found ++ next)
holding-next c s s' recent recent' stored stored' handed bits found next f sound few t keeps h =
    let count = recent-count c s recent stored handed bits found h in
    let short : s.passed + length recent < 2 ^ 63 = omega (arith, count, few) in
    let now : s'.passed ≡ s.passed + 1 = t.passed short in
    let room = t.room in
    let below = h.within in
    record {
      passed = omega (arith, now, count, room);
      left = t.bits ∙ ap (drop 1) h.left ∙ drop-drop 1 s.passed bits ∙ ap (λ n. drop n bits) (sym now);
      places = λ more. h.places more
          ∙ ap (λ fs. found ++ fs) (t.same (sound_in c (bits ++ more)) more short
          (told c s recent stored handed bits more found f sound t.columns t.at room t.is h))
          ∙ sym (append_assoc found next (places_left s' (sound_in c (bits ++ more)) (recent' ++ more)));
      within = omega (arith, below, length-append found next);
      waiting = keeps ∙ ap (λ l. l ++ map (stored_at c bits) next) h.waiting
          ∙ sym (map-append (stored_at c bits) (drop handed found) next)
          ∙ ap (map (stored_at c bits)) (sym (drop-append-le handed found next below));
    }

-- it is one, and its codeblock is stored
pub holding-taken : (c : Configuration) (s s' : Finding) (recent recent' : List Bool)
    (stored stored' : List StoredCodeblock) (handed : ℕ) (bits : List Bool) (found : List Found) (f : Found)
    (sound : Bool) → length bits < 2 ^ 63 → Takes c s s' recent recent' f sound (f ∷ [])
    → stored' ≡ stored ++ stored_of c f (next_block c recent) ∷ []
    → Holding c s recent stored handed bits found → Holding c s' recent' stored' handed bits (found ++ f ∷ [])
holding-taken c s s' recent recent' stored stored' handed bits found f sound few t keeps h =
    holding-next c s s' recent recent' stored stored' handed bits found (f ∷ []) f sound few t
    (keeps ∙ ap (λ k. stored ++ k ∷ []) (sym (block-is c s recent stored handed bits found f t.at h))) h

-- it is none, and the codeblock is stored no longer
pub holding-left : (c : Configuration) (s s' : Finding) (recent recent' : List Bool)
    (stored stored' : List StoredCodeblock) (handed : ℕ) (bits : List Bool) (found : List Found) (f : Found)
    (sound : Bool) → length bits < 2 ^ 63 → Takes c s s' recent recent' f sound [] → stored' ≡ stored
    → Holding c s recent stored handed bits found → Holding c s' recent' stored' handed bits (found ++ [])
holding-left c s s' recent recent' stored stored' handed bits found f sound few t keeps h =
    holding-next c s s' recent recent' stored stored' handed bits found [] f sound few t
    (keeps ∙ sym (append-nil stored)) h
