-- What a decoder says of the windows that are ready is what is said of them of received octets.
use Rattle.std.proofs.Common.{◌≡◌, ◌∙◌, ℕ, suc, ◌+◌, ◌<◌, ◌++◌, Bool, List, [], ◌∷◌, length, take, drop, drop-drop, map, refl, sym, ap, arith, append_assoc, length-append, slice_index_or, Option, Some}
use Rattle.std.proofs.Math.Seq.{get_or-append_seam, take-append_seam}
use Rattle.std.proofs.lemmas.List.{append-nil, drop-map}
use Rattle.tm_config.specs.Configuration.{Configuration}
use Rattle.tm_conv.specs.Path.{steps_size}
use Rattle.tm_conv.specs.declared.rates.Rate.{Rate}
use Rattle.tm_viterbi.specs.Settings.{Settings}
use Rattle.tm_viterbi.specs.WindowBlock.{WindowBlock}
use Rattle.tm_windows.specs.Queue.{IsRead, IsSameQueue, QueueStandsFor, Queueing}
use Rattle.tm_windows.specs.Windows.{Windows, block_counts, dropped_of, kept_of}
use Rattle.tm_windows.proofs.FollowedRuns.{dropped-append, kept-append}
use Rattle.tm_inner.specs.Inner.{settings_of, soft_value}
use Rattle.tm_inner.specs.InnerDecoding.{InnerDecoding, InnerDecoderStandsFor, IsQueueOf, ready_in}
use Rattle.tm_inner.specs.InnerWindows.{AreReadOf, counts_at, no_block, window_at, window_in, window_of, window_symbol, windows_after, windows_from, windows_in}
use Rattle.tm_inner.specs.Phase.{phase_octets, skip_of, skipped_at}
use Rattle.tm_inner.specs.SymbolPlaces.{origin_by, symbols_before}
use Rattle.tm_inner.proofs.Decoders.{decoding}
use Rattle.tm_inner.proofs.DecoderCalls.{of-same}
use Rattle.tm_inner.proofs.KeptOctets.{steps-on}

-- blocks that come after these are ready, and their octets are those that were given; octets were
-- dropped before the first of them alone
pub record AreRead (c : Configuration) (q : Queueing) (given : List ℕ)
    (blocks : List WindowBlock) : Type 0 where
  pub inner : c.inner ≡ Some q.windows.settings.rate
  pub settings : q.windows.settings ≡ settings_of c q.windows.settings.rate
  pub read : 0 < length q.ready → IsRead q (phase_octets c given) blocks
  pub later : dropped_of (drop 1 q.ready) ≡ 0
  pub lost : q.lost ≡ dropped_of (blocks ++ q.ready)

pub are-read : (c : Configuration) (q : Queueing) (given : List ℕ) (blocks : List WindowBlock)
    → IsQueueOf c (Some q) → (0 < length q.ready → IsRead q (phase_octets c given) blocks)
    → dropped_of (drop 1 q.ready) ≡ 0 → q.lost ≡ dropped_of (blocks ++ q.ready)
    → AreRead c q given blocks
are-read c q given blocks of read later lost =
    let rate : of.0 ≡ q.windows.settings.rate = ap (λ (w : Windows). w.settings.rate) (sym of.2) in record {
      inner = of.1 ∙ ap (λ (r : Rate). Some r) rate;
      settings = ap (λ (w : Windows). w.settings) of.2 ∙ ap (settings_of c) rate;
      read = read;
      later = later;
      lost = lost;
    }

none-later : (front rest : List WindowBlock) (x : WindowBlock) → dropped_of (drop 1 (front ++ x ∷ rest)) ≡ 0
    → dropped_of rest ≡ 0
none-later [] rest x none = none
none-later (y ∷ ys) rest x none = omega (arith, none, dropped-append ys (x ∷ rest))

-- what the octets of a ready block say, which stand from this number on
counts-read : (c : Configuration) (q : Queueing) (given : List ℕ) (blocks front rest : List WindowBlock)
    (x : WindowBlock) (at : ℕ) → AreRead c q given blocks → q.ready ≡ front ++ x ∷ rest
    → at ≡ c.skip + skip_of q.chosen + dropped_of (blocks ++ q.ready)
    + steps_size q.windows.settings.rate 0 (kept_of (blocks ++ front))
    → block_counts q.windows.settings (q.run_t + kept_of front)
    (drop (steps_size q.windows.settings.rate q.run_t (kept_of front)) q.read) x
    ≡ counts_at c.inner c at given (blocks ++ front) x
counts-read c q given blocks front rest x at a ready is =
    let s = q.windows.settings in
    let f = soft_value c in
    let d = kept_of blocks in
    let k = kept_of front in
    let m = steps_size s.rate d k in
    let from = skip_of q.chosen + dropped_of (blocks ++ q.ready) + steps_size s.rate 0 d in
    let skip = skipped_at c.inner c in
    let read = a.read (omega (arith, ap length ready, length-append front (x ∷ rest))) in
    let sum : kept_of (blocks ++ front) ≡ d + k = kept-append blocks front in
    let place : skip + (from + m) ≡ at = omega (
      arith,
      is,
      ap (λ (r : Option Rate). skipped_at r c) a.inner,
      ap (steps_size s.rate 0) sum,
      steps-on s.rate d k,
    ) in
    let octets = map f (drop at given) in
    let there : drop m q.read ≡ octets =
    ap (drop m) read.octets ∙ drop-drop m from (phase_octets c given) ∙ drop-map f (from + m) (drop skip given)
    ∙ ap (map f) (drop-drop (from + m) skip given ∙ ap (λ (j : ℕ). drop j given) place) in
    ap (λ (t : ℕ). block_counts s (t + k) (drop (steps_size s.rate t k) q.read) x) read.step
    ∙ (let back = sym sum in λ i. block_counts s (back i) (there i) x)
    ∙ ap (λ (v : Settings). block_counts v (kept_of (blocks ++ front)) octets x) a.settings
    ∙ ap (λ (r : Option Rate). counts_at r c at given (blocks ++ front) x) (sym a.inner)

window-read : (c : Configuration) (q : Queueing) (count : ℕ) (has_phase ended : Bool) (given : List ℕ)
    (blocks front rest : List WindowBlock) (x : WindowBlock) → AreRead c q given blocks
    → q.ready ≡ front ++ x ∷ rest
    → window_in (decoding c (Some q) count has_phase ended) (length front)
    ≡ window_at c (skip_of q.chosen) given (blocks ++ front) x
window-read c q count has_phase ended given blocks front rest x a ready =
    let s = q.windows.settings in
    let phase = skip_of q.chosen in
    let i = length front in
    let before = blocks ++ front in
    let prefix : take i q.ready ≡ front = ap (take i) ready ∙ take-append_seam front (x ∷ rest) in
    let block : slice_index_or q.ready i no_block ≡ x =
    ap (λ (l : List WindowBlock). slice_index_or l i no_block) ready
    ∙ get_or-append_seam front x rest no_block in
    let none = none-later front rest x (sym (ap (λ (l : List WindowBlock). dropped_of (drop 1 l)) ready) ∙ a.later) in
    let dropped : dropped_of (blocks ++ q.ready) ≡ dropped_of before + x.dropped =
    omega (
      arith,
      none,
      ap dropped_of ready,
      dropped-append blocks q.ready,
      dropped-append blocks front,
      dropped-append front (x ∷ rest),
    ) in
    let lost : q.lost ≡ dropped_of before + x.dropped = a.lost ∙ dropped in
    let read = a.read (omega (arith, ap length ready, length-append front (x ∷ rest))) in
    let step : q.run_t + kept_of front ≡ kept_of before = omega (arith, read.step, kept-append blocks front) in
    let at = window_symbol c phase before x in
    let place : at ≡ c.skip + phase + dropped_of (blocks ++ q.ready) + steps_size s.rate 0 (kept_of before) =
    ap (λ (r : Option Rate). origin_by r c phase (dropped_of before + x.dropped)
    + symbols_before r (kept_of before)) a.inner
    ∙ ap (λ (n : ℕ). c.skip + phase + n + steps_size s.rate 0 (kept_of before)) (sym dropped) in
    (λ j. window_of (origin_by c.inner c phase q.lost + symbols_before c.inner (q.run_t + kept_of (prefix j)))
    (block j) (block_counts s (q.run_t + kept_of (prefix j))
    (drop (steps_size s.rate q.run_t (kept_of (prefix j))) q.read) (block j)))
    ∙ (λ j. window_of (origin_by c.inner c phase (lost j) + symbols_before c.inner (step j)) x
    (counts-read c q given blocks front rest x at a ready place j))

read-from : (c : Configuration) (q : Queueing) (count : ℕ) (has_phase ended : Bool) (given : List ℕ)
    (blocks front rest : List WindowBlock) → AreRead c q given blocks → q.ready ≡ front ++ rest
    → windows_from (decoding c (Some q) count has_phase ended) (length front) (length rest)
    ≡ windows_after c (skip_of q.chosen) given (blocks ++ front) rest
read-from c q count has_phase ended given blocks front [] a ready = refl
read-from c q count has_phase ended given blocks front (x ∷ xs) a ready =
    let d = decoding c (Some q) count has_phase ended in
    let phase = skip_of q.chosen in
    let next = front ++ x ∷ [] in
    let first = window-read c q count has_phase ended given blocks front xs x a ready in
    let longer : suc (length front) ≡ length next = omega (arith, length-append front (x ∷ [])) in
    let rest = ap (λ (n : ℕ). windows_from d n (length xs)) longer
    ∙ read-from c q count has_phase ended given blocks next xs a (ready ∙ sym (append_assoc front (x ∷ []) xs))
    ∙ ap (λ (l : List WindowBlock). windows_after c phase given l xs) (sym (append_assoc blocks front (x ∷ []))) in
    λ j. first j ∷ rest j

pub windows-read : (c : Configuration) (q : Queueing) (count : ℕ) (has_phase ended : Bool) (given : List ℕ)
    (blocks : List WindowBlock) → AreRead c q given blocks
    → windows_in (decoding c (Some q) count has_phase ended)
    ≡ windows_after c (skip_of q.chosen) given blocks q.ready
windows-read c q count has_phase ended given blocks a =
    read-from c q count has_phase ended given blocks [] q.ready a refl
    ∙ ap (λ (l : List WindowBlock). windows_after c (skip_of q.chosen) given l q.ready) (append-nil blocks)

-- once windows were decoded, what is said of those that are ready is what is said of received octets
abbrev pub Reads : InnerDecoding → InnerDecoding → Type 0
Reads d now = (given : List ℕ) (blocks : List WindowBlock) → InnerDecoderStandsFor d given blocks
    → windows_in now ≡ windows_after now.config (skip_of now.chosen) given blocks (ready_in now.queue)

-- and their octets are those that were put in
abbrev pub ReadsOctets : InnerDecoding → InnerDecoding → Type 0
ReadsOctets d now = (given : List ℕ) (blocks : List WindowBlock) → InnerDecoderStandsFor d given blocks
    → AreReadOf now.queue (phase_octets now.config given) blocks

pub reads-queue : (c : Configuration) (q now : Queueing) (count : ℕ) (has_phase ended : Bool) → IsQueueOf c (Some q)
    → IsSameQueue q now → dropped_of (drop 1 now.ready) ≡ 0
    → ((given : List ℕ) (done : List WindowBlock) → QueueStandsFor q given done
    → now.lost ≡ dropped_of (done ++ now.ready))
    → (0 < length now.ready → (given : List ℕ) (done : List WindowBlock) → QueueStandsFor q given done
    → IsRead now given done)
    → Reads (decoding c (Some q) count has_phase ended) (decoding c (Some now) count has_phase ended)
reads-queue c q now count has_phase ended of same later lost read = λ given blocks s.
    let soft = phase_octets c given in
    windows-read c now count has_phase ended given blocks (are-read c now given blocks (of-same c q now same of)
    (λ some. read some soft blocks s.decodes) later (lost soft blocks s.decodes))
