-- The blocks of all octets that were put into a queue, once its last window is decoded.
use Rattle.std.proofs.Common.{◌≡◌, ℕ, zero, suc, ◌+◌, ◌-◌, ◌*◌, ◌<◌, ◌≤◌, ◌∙◌, ◌++◌, refl, sym, ap, subst, arith, unwrap_or, List, [], ◌∷◌, length, slice_index_or, take}
use Rattle.std.proofs.lemmas.List.{append-nil}
use Rattle.tm_conv.specs.Path.{farthest_step, steps_size}
use Rattle.tm_conv.proofs.Sizes.{steps_size-add, steps_size-most}
use Rattle.tm_viterbi.specs.Settings.{Settings}
use Rattle.tm_viterbi.specs.WindowBlock.{WindowBlock}
use Rattle.tm_viterbi.specs.Blocks.{IsBlock}
use Rattle.tm_windows.specs.Windows.{Beginning, IsLast, undropped, slip_at, slips_of, dropped_of, kept_of}
use Rattle.tm_windows.specs.Queue.{Queueing, AwaitsPhase, IsOpen, IsRead, IsThere, QueueStandsFor, QueueEndsFor}
use Rattle.tm_windows.proofs.FollowedRuns.{dropped-append, kept-append, slips-append}
use Rattle.tm_windows.proofs.HeldOctets.{after_phase, open-few, open-decided, last_whole, last_beginning, ended}
use Rattle.tm_windows.proofs.ReadOctets.{path-last, read-octets}

-- the octets that are held have n whole steps, and `size` octets have these
pub record AreWhole (q : Queueing) (n size : ℕ) : Type 0 where
  pub is : size ≡ steps_size q.windows.settings.rate q.t n
  pub whole : size ≤ length q.held
  pub most : length q.held < steps_size q.windows.settings.rate q.t (n + 1)
  pub few : n ≤ q.windows.settings.keep + q.windows.settings.ahead

pub are_whole : (q : Queueing) (n size : ℕ) → IsOpen q → (AwaitsPhase q → ⊥)
    → size ≡ steps_size q.windows.settings.rate q.t n → steps_size q.windows.settings.rate q.t n ≤ length q.held
    → n ≤ q.windows.settings.keep + q.windows.settings.ahead
    → (n < q.windows.settings.keep + q.windows.settings.ahead
    → length q.held < steps_size q.windows.settings.rate q.t (n + 1)) → AreWhole q n size
are_whole q n size is chosen es whole few all = record {
  is = es;
  whole = omega (arith, es, whole);
  most = last_whole q n all few (open-few q is chosen);
  few = few;
}

-- at most one octet is left over after them
pub few_left : (q : Queueing) (n size : ℕ) → AreWhole q n size → length q.held - size ≤ 1
few_left q n size are =
    let rate = q.windows.settings.rate in
    omega (arith, are.is, are.most, steps_size-add rate q.t n 1, steps_size-most rate (q.t + n) 1)

-- there is no step
pub ends-none : (q : Queueing) (left given read : List ℕ) (done ready : List WindowBlock) (n size : ℕ)
    → AreWhole q n size → n ≡ 0 → IsOpen q → (AwaitsPhase q → ⊥) → QueueStandsFor q given done
    → QueueEndsFor (record q { held = left; ready = ready; read = read }) given (done ++ []) (length q.held - size)
ends-none q left given read done ready n size are none is chosen stands =
    let r = after_phase q given done stands chosen in
    let last = subst (λ (m : ℕ). IsLast q.windows.settings (last_beginning q) m []) (sym none) refl in
    record {
      choice = r.choice;
      blocks = ended q given done [] n size are.is are.whole are.most are.few (open-decided q is chosen) r last;
      kept = ap kept_of (append-nil done) ∙ r.kept;
      slips = ap slips_of (append-nil done) ∙ r.slips;
      lost = r.lost ∙ sym (ap dropped_of (append-nil done));
    }

is-last : (s : Settings) (b : Beginning) (n : ℕ) (block : WindowBlock) → 0 < n → block.dropped ≡ b.dropped
    → IsBlock s.rate s.invert s.keep s.ahead b.place.starts b.place.t n b.place.octets (undropped block)
    → IsLast s b n (block ∷ [])
is-last s b zero block some is_dropped is = absurd (omega (arith, some))
is-last s b (suc n) block some is_dropped is = (block, refl, is_dropped, is)

abbrev pub after_last : Queueing → (n slips lost : ℕ) → (left read : List ℕ) → List WindowBlock → Queueing
after_last q n slips lost left read ready = record q {
  t = q.t + n;
  slips = q.slips + slips;
  lost = q.lost + lost;
  held = left;
  ready = ready;
  run_t = q.t;
  read = read;
}

-- the block of n steps, at least one, and the octets that were held
pub record IsLastBlock (q : Queueing) (n size k : ℕ) (read : List ℕ) (ready : List WindowBlock) (block : WindowBlock)
    : Type 0 where
  pub one : ready ≡ block ∷ []
  pub whole : AreWhole q n size
  pub some : 0 < n
  pub drops : k ≡ unwrap_or q.dropped 0
  pub dropped : block.dropped ≡ k
  pub kept : block.kept ≡ n
  pub is : IsBlock q.windows.settings.rate q.windows.settings.invert q.windows.settings.keep q.windows.settings.ahead
      q.starts q.t n q.held (undropped block)
  pub read_is : read ≡ q.held

pub ends-one : (q : Queueing) (n size k : ℕ) (read : List ℕ) (ready : List WindowBlock) (block : WindowBlock)
    → IsLastBlock q n size k read ready block → (left given : List ℕ) (done : List WindowBlock) (slips lost : ℕ)
    → IsOpen q → (AwaitsPhase q → ⊥) → slips ≡ slip_at k → lost ≡ k → QueueStandsFor q given done
    → QueueEndsFor (after_last q n slips lost left read ready) given (done ++ ready) (length q.held - size)
ends-one q n size k read ready block b left given done slips lost is chosen es el stands =
    let r = after_phase q given done stands chosen in
    let are = b.whole in
    let last = subst (λ (v : List WindowBlock). IsLast q.windows.settings (last_beginning q) n v) (sym b.one)
    (is-last q.windows.settings (last_beginning q) n block b.some (b.dropped ∙ b.drops) b.is) in
    record {
      choice = r.choice;
      blocks = ended q given done ready n size are.is are.whole are.most are.few (open-decided q is chosen) r last;
      kept = omega (arith, r.kept, kept-append done ready, ap kept_of b.one, b.kept);
      slips = omega (arith, r.slips, slips-append done ready, ap slips_of b.one, ap slip_at b.dropped, es);
      lost = omega (arith, r.lost, dropped-append done ready, ap dropped_of b.one, b.dropped, el);
    }

-- its octets are there
pub last-there : (q : Queueing) (n size k : ℕ) (read : List ℕ) (ready : List WindowBlock) (block : WindowBlock)
    → IsLastBlock q n size k read ready block → (left : List ℕ) (slips lost : ℕ)
    → q.t + length q.held ≤ farthest_step
    → IsThere (after_last q n slips lost left read ready)
last-there q n size k read ready block b left slips lost few =
    let s = q.windows.settings in
    let all : kept_of (block ∷ []) ≡ n = omega (arith, b.kept) in
    let inside : steps_size s.rate q.t block.steps ≤ length read =
    omega (arith, ap (steps_size s.rate q.t) steps, b.whole.is, b.whole.whole, ap length b.read_is) in
    subst (λ (v : List WindowBlock). IsThere (after_last q n slips lost left read v)) (sym b.one) (record {
      octets = each inside;
      few = omega (arith, all);
      bound = omega (arith, ap length b.read_is, few);
      paths = path-last s q.starts q.t n q.held block (omega (arith, inside, ap length b.read_is)) b.is;
      kept = none-before;
    })
  where
    steps : block.steps ≡ n
    steps = omega (arith, b.is.steps, b.whole.few)

    each : steps_size q.windows.settings.rate q.t block.steps ≤ length read → (index : ℕ) (d : WindowBlock)
        → index < length (block ∷ []) → steps_size q.windows.settings.rate q.t
        (kept_of (take index (block ∷ [])) + (slice_index_or (block ∷ []) index d).steps) ≤ length read
    each inside zero d less =
        let sum : 0 + block.steps ≡ block.steps = omega arith in
        omega (arith, inside, ap (steps_size q.windows.settings.rate q.t) sum)
    each inside (suc n) d less = absurd (omega (arith, less))

    none-before : (index : ℕ) → index < length (block ∷ []) → kept_of (take index (block ∷ []))
        ≡ index * q.windows.settings.keep
    none-before zero less = omega arith
    none-before (suc n) less = absurd (omega (arith, less))

-- and they are those that were put in
pub last-read : (q : Queueing) (n size k : ℕ) (read : List ℕ) (ready : List WindowBlock) (block : WindowBlock)
    → IsLastBlock q n size k read ready block → (left given : List ℕ) (done : List WindowBlock) (slips lost : ℕ)
    → (AwaitsPhase q → ⊥) → QueueStandsFor q given done
    → IsRead (after_last q n slips lost left read ready) given done
last-read q n size k read ready block b left given done slips lost chosen stands =
    let r = after_phase q given done stands chosen in
    record {
      step = sym r.kept;
      octets =
          read-octets q given read done ready k r b.drops (omega (arith, ap dropped_of b.one, b.dropped)) b.read_is;
    }
