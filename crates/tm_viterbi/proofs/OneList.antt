-- There is one list of blocks, and the blocks of closed windows are the first of it.
use Rattle.std.proofs.Common.{◌≡◌, ℕ, ◌+◌, ◌-◌, ◌<◌, ◌≤◌, ◌∙◌, ◌⊎◌, sym, ap, subst, refl, arith, List, [], ◌∷◌, ◌++◌, Bool, Option, Some, length, length-drop, drop, take, inl, inr}
use Rattle.std.proofs.lemmas.Bool.{cases_lt}
use Rattle.std.proofs.lemmas.Bool.Decides.{nat_tests}
use Rattle.tm_conv.specs.declared.rates.Rate.{Rate}
use Rattle.tm_conv.specs.Path.{steps_size, path, register_after}
use Rattle.tm_conv.specs.Cost.{cost}
use Rattle.tm_conv.specs.Best.{IsBest}
use Rattle.tm_conv.proofs.Sizes.{step_size_pos, steps_size-add, steps_size-le}
use Rattle.tm_conv.proofs.Paths.{steps_size-zero, steps_size-more}
use Rattle.tm_viterbi.specs.Starts.{starts_from, first_start}
use Rattle.tm_viterbi.specs.Settings.{Settings}
use Rattle.tm_viterbi.specs.WindowBlock.{WindowBlock}
use Rattle.tm_viterbi.specs.Blocks.{IsBlock, AreBlocks, AreBlocksOf, AreSteps, kept_steps}
use Rattle.tm_viterbi.specs.Due.{Place, Closed, after_block, first_place, AreDue, AreFirst}
use Rattle.tm_viterbi.proofs.Closing.{kept_is, Closed-append, more_octets}
use Rattle.tm_viterbi.proofs.WholeBlocks.{closed_block}

-- there is one best path
abbrev pub OneBest : Type 0
OneBest =
    (starts : ℕ → Bool) (rate : Rate) (invert : Bool) (t : ℕ) (octets : List ℕ) (register other : ℕ)
    (bits others : List ℕ)
    → IsBest starts rate invert t octets register bits → IsBest starts rate invert t octets other others
    → (register ≡ other) × (bits ≡ others)

same_block : (b d : WindowBlock) → b.start ≡ d.start → b.steps ≡ d.steps → b.kept ≡ d.kept → b.metric ≡ d.metric
    → b.bits ≡ d.bits → b.end_state ≡ d.end_state → b.dropped ≡ d.dropped → b ≡ d
same_block b d e1 e2 e3 e4 e5 e6 e7 =
    let make : ℕ → ℕ → ℕ → ℕ → List ℕ → ℕ → ℕ → WindowBlock = λ start steps kept metric bits end_state dropped.
    record {
      start = start;
      steps = steps;
      kept = kept;
      metric = metric;
      bits = bits;
      end_state = end_state;
      dropped = dropped;
    } in
    ap (λ (v : ℕ). make v b.steps b.kept b.metric b.bits b.end_state b.dropped) e1
    ∙ ap (λ (v : ℕ). make d.start v b.kept b.metric b.bits b.end_state b.dropped) e2
    ∙ ap (λ (v : ℕ). make d.start d.steps v b.metric b.bits b.end_state b.dropped) e3
    ∙ ap (λ (v : ℕ). make d.start d.steps d.kept v b.bits b.end_state b.dropped) e4
    ∙ ap (λ (v : List ℕ). make d.start d.steps d.kept d.metric v b.end_state b.dropped) e5
    ∙ ap (λ (v : ℕ). make d.start d.steps d.kept d.metric d.bits v b.dropped) e6
    ∙ ap (λ (v : ℕ). make d.start d.steps d.kept d.metric d.bits d.end_state v) e7

pub one_block : OneBest → (rate : Rate) (invert : Bool) (keep ahead : ℕ) (starts : Option ℕ) (t n : ℕ)
    (octets : List ℕ) (b d : WindowBlock)
    → IsBlock rate invert keep ahead starts t n octets b → IsBlock rate invert keep ahead starts t n octets d → b ≡ d
one_block one rate invert keep ahead starts t n octets b d h k =
    let steps : b.steps ≡ d.steps = h.steps ∙ sym k.steps in
    let kept : b.kept ≡ d.kept = h.kept ∙ sym k.kept in
    let prefix : take (steps_size rate t d.steps) octets ≡ take (steps_size rate t b.steps) octets =
    ap (λ (v : ℕ). take (steps_size rate t v) octets) (sym steps) in
    let u = one (starts_from starts) rate invert t (take (steps_size rate t b.steps) octets) b.start d.start b.bits
    d.bits h.best
    (subst (λ (v : List ℕ). IsBest (starts_from starts) rate invert t v d.start d.bits) prefix k.best) in
    let metric : b.metric ≡ d.metric = h.metric
    ∙ ap (λ (v : ℕ). cost (path rate invert t v b.bits) (take (steps_size rate t b.steps) octets)) u.0
    ∙ ap (λ (v : List ℕ). cost (path rate invert t d.start v) (take (steps_size rate t b.steps) octets)) u.1
    ∙ ap (λ (v : List ℕ). cost (path rate invert t d.start d.bits) v) (sym prefix) ∙ sym k.metric in
    let end_state : b.end_state ≡ d.end_state = h.end_state
    ∙ ap (λ (v : ℕ). register_after v (take b.kept b.bits)) u.0
    ∙ ap (λ (v : ℕ). register_after d.start (take v b.bits)) kept
    ∙ ap (λ (v : List ℕ). register_after d.start (take d.kept v)) u.1 ∙ sym k.end_state in
    same_block b d u.0 steps kept metric u.1 end_state (h.dropped ∙ sym k.dropped)

-- the octets are no fewer than those of n steps, so a window is closed only where more than
-- keep+ahead of them are there
pub many : (rate : Rate) (t n m : ℕ) (size : ℕ) → size < steps_size rate t (n + 1) → steps_size rate t m ≤ size → m ≤ n
many rate t n m size most le = elim (cases_lt n m) as (λ _. m ≤ n) [
  | inr there ↦ there
  | inl lt ↦ absurd (omega (arith, most, le, steps_size-le rate t (n + 1) m (omega arith)))
]

pub steps_after : (rate : Rate) (t n kept : ℕ) (octets : List ℕ) → kept ≤ n → AreSteps rate t octets n
    → AreSteps rate (t + kept) (drop (steps_size rate t kept) octets) (n - kept)
steps_after rate t n kept octets le h =
    let sum : kept + (n - kept) ≡ n = omega arith in
    let next : kept + (n - kept + 1) ≡ n + 1 = omega arith in
    let long = length-drop (steps_size rate t kept) octets in
    let inside : steps_size rate t kept ≤ length octets = omega (arith, h.whole, steps_size-le rate t kept n le) in
    record {
      whole = omega (arith, long, inside, h.whole, steps_size-add rate t kept (n - kept), ap (steps_size rate t) sum);
      most =
          omega (arith, long, inside, h.most, steps_size-add rate t kept (n - kept + 1), ap (steps_size rate t) next);
    }

-- what is left of all blocks after those of closed windows
pub record After (rate : Rate) (invert : Bool) (keep ahead : ℕ) (to : Place)
    (blocks first : List WindowBlock) : Type 0 where
  pub rest : List WindowBlock
  pub is : blocks ≡ first ++ rest
  pub count : ℕ
  pub steps : AreSteps rate to.t to.octets count
  pub are : AreBlocks rate invert keep ahead to.starts to.t count to.octets rest

prefix_of : OneBest → (rate : Rate) (invert : Bool) (keep ahead : ℕ) (from to : Place)
    (blocks first : List WindowBlock) (n : ℕ)
    → Closed rate invert keep ahead from first to → AreSteps rate from.t from.octets n
    → AreBlocks rate invert keep ahead from.starts from.t n from.octets blocks
    → After rate invert keep ahead to blocks first
prefix_of one rate invert keep ahead from to blocks [] n closed steps are =
    subst (λ (v : Place). After rate invert keep ahead v blocks []) closed
    (record { rest = blocks; is = refl; count = n; steps = steps; are = are })
prefix_of one rate invert keep ahead from to [] (b ∷ first) n closed steps are =
    absurd (omega (arith, are, many rate from.t n (keep + ahead + 1) (length from.octets) steps.most closed.0.room))
prefix_of one rate invert keep ahead from to (d ∷ blocks) (b ∷ first) n closed steps are =
    let big : keep + ahead + 1 ≤ n = many rate from.t n (keep + ahead + 1)
    (length from.octets) steps.most closed.0.room in
    let same : d ≡ b = one_block one rate invert keep ahead from.starts from.t n from.octets d b are.1
    (closed_block rate invert keep ahead from b n closed.0 big) in
    let kept : b.kept ≡ keep = closed.0.is_block.kept ∙ kept_is keep ahead in
    let next = subst (λ (v : WindowBlock). AreBlocks rate invert keep ahead (Some v.end_state) (from.t + v.kept)
    (n - v.kept) (drop (steps_size rate from.t v.kept) from.octets) blocks) same are.2 in
    let h = prefix_of one rate invert keep ahead (after_block rate from b) to blocks first (n - b.kept) closed.1
    (steps_after rate from.t n b.kept from.octets (omega (arith, kept, big)) steps) next in
    record {
      rest = h.rest;
      is = ap (λ (v : WindowBlock). v ∷ blocks) same
          ∙ ap (λ (v : List WindowBlock). b ∷ v) h.is;
      count = h.count;
      steps = h.steps;
      are = h.are;
    }

pub first_blocks : OneBest → (s : Settings) (octets : List ℕ) (first blocks : List WindowBlock) (left : ℕ)
    → AreFirst s octets first → AreBlocksOf s octets blocks left → (rest : List WindowBlock) × (blocks ≡ first ++ rest)
first_blocks one s octets first blocks left closed all =
    let h = prefix_of one s.rate s.invert s.keep s.ahead (first_place s octets) closed.0 blocks first all.count
    closed.1 all.steps all.are in
    (h.rest, h.is)

-- after closed windows a step is left
left_after : (rate : Rate) (invert : Bool) (keep ahead : ℕ) (from to : Place) (b : WindowBlock)
    (first : List WindowBlock)
    → Closed rate invert keep ahead from (b ∷ first) to → steps_size rate to.t 1 ≤ length to.octets
left_after rate invert keep ahead from to b [] closed =
    let kept : b.kept ≡ keep = closed.0.is_block.kept ∙ kept_is keep ahead in
    let long = length-drop (steps_size rate from.t b.kept) from.octets in
    let sum : b.kept + (ahead + 1) ≡ keep + ahead + 1 = omega arith in
    subst (λ (v : Place). steps_size rate v.t 1 ≤ length v.octets) closed.1
    (omega (
      arith,
      long,
      closed.0.room,
      steps_size-add rate from.t b.kept (ahead + 1),
      ap (steps_size rate from.t) sum,
      steps_size-le rate (from.t + b.kept) 1 (ahead + 1) (omega arith),
    ))
left_after rate invert keep ahead from to b (d ∷ first) closed =
    left_after rate invert keep ahead (after_block rate from b) to d first closed.1

-- at most keep+ahead steps are one window, or none
last_alone : (rate : Rate) (invert : Bool) (keep ahead : ℕ) (starts : Option ℕ) (t n : ℕ) (octets : List ℕ)
    (blocks first rest : List WindowBlock) → n ≤ keep + ahead
    → ((b : WindowBlock) (bs : List WindowBlock) → first ≡ b ∷ bs → 1 ≤ n)
    → blocks ≡ first ++ rest → AreBlocks rate invert keep ahead starts t n octets rest
    → ((blocks ≡ []) × (first ≡ [])) ⊎ ((last : WindowBlock) × (blocks ≡ first ++ last ∷ []))
last_alone rate invert keep ahead starts t n octets blocks [] [] few some is are = inl (is, refl)
last_alone rate invert keep ahead starts t n octets blocks (b ∷ first) [] few some is are =
    absurd (omega (arith, some b first refl, are))
last_alone rate invert keep ahead starts t n octets blocks first (b ∷ []) few some is are = inr (b, is)
last_alone rate invert keep ahead starts t n octets blocks first (b ∷ d ∷ rest) few some is are =
    let kept : kept_steps keep ahead n ≡ n = grind (arith, nat_tests) in
    absurd (omega (arith, are.2.0, are.1.kept, kept))

pub all_but_last : OneBest → (s : Settings) (octets : List ℕ) (due blocks : List WindowBlock) (left : ℕ)
    → AreDue s octets due → AreBlocksOf s octets blocks left → ((blocks ≡ []) × (due ≡ []))
    ⊎ ((last : WindowBlock) × (blocks ≡ due ++ last ∷ []))
all_but_last one s octets due blocks left h all =
    let k = prefix_of one s.rate s.invert s.keep s.ahead (first_place s octets) h.to blocks due all.count h.closed
    all.steps all.are in
    let less : length h.to.octets < steps_size s.rate h.to.t (s.keep + s.ahead + 1) = h.few in
    last_alone s.rate s.invert s.keep s.ahead h.to.starts h.to.t k.count h.to.octets blocks due k.rest
    (many s.rate h.to.t (s.keep + s.ahead) k.count (length h.to.octets) less k.steps.whole)
    (λ (b : WindowBlock) (bs : List WindowBlock) (e : due ≡ b ∷ bs). many s.rate h.to.t k.count 1
    (length h.to.octets) k.steps.most
    (left_after s.rate s.invert s.keep s.ahead (first_place s octets) h.to b bs
    (subst (λ (v : List WindowBlock). Closed s.rate s.invert s.keep s.ahead (first_place s octets) v h.to) e
    h.closed)))
    k.is k.are

-- ---- the only list

one_list : OneBest → (rate : Rate) (invert : Bool) (keep ahead : ℕ) (starts : Option ℕ) (t n : ℕ) (octets : List ℕ)
    (blocks others : List WindowBlock)
    → AreBlocks rate invert keep ahead starts t n octets blocks
    → AreBlocks rate invert keep ahead starts t n octets others → blocks ≡ others
one_list one rate invert keep ahead starts t n octets [] [] h k = refl
one_list one rate invert keep ahead starts t n octets [] (d ∷ others) h k = absurd (omega (arith, h, k.0))
one_list one rate invert keep ahead starts t n octets (b ∷ blocks) [] h k = absurd (omega (arith, k, h.0))
one_list one rate invert keep ahead starts t n octets (b ∷ blocks) (d ∷ others) h k =
    let same : d ≡ b = one_block one rate invert keep ahead starts t n octets d b k.1 h.1 in
    let next = subst (λ (v : WindowBlock). AreBlocks rate invert keep ahead (Some v.end_state) (t + v.kept)
    (n - v.kept) (drop (steps_size rate t v.kept) octets) others) same k.2 in
    ap (λ (v : List WindowBlock). b ∷ v) (one_list one rate invert keep ahead (Some b.end_state) (t + b.kept)
    (n - b.kept) (drop (steps_size rate t b.kept) octets) blocks others h.2 next)
    ∙ ap (λ (v : WindowBlock). v ∷ others) (sym same)

pub only_list : OneBest → (s : Settings) (octets : List ℕ) (blocks others : List WindowBlock) (left right : ℕ)
    → AreBlocksOf s octets blocks left → AreBlocksOf s octets others right → (blocks ≡ others) × (left ≡ right)
only_list one s octets blocks others left right h k =
    let up : k.count ≤ h.count = many s.rate 0 h.count k.count (length octets) h.steps.most k.steps.whole in
    let down : h.count ≤ k.count = many s.rate 0 k.count h.count (length octets) k.steps.most h.steps.whole in
    let same : h.count ≡ k.count = omega arith in (
      one_list one s.rate s.invert s.keep s.ahead (first_start s.start) 0 k.count octets blocks others
          (subst (λ (n : ℕ). AreBlocks s.rate s.invert s.keep s.ahead (first_start s.start) 0 n octets blocks) same
          h.are) k.are,
      omega (arith, h.rest, k.rest, ap (steps_size s.rate 0) same),
    )

-- ---- longer lists

longer_closed : OneBest → (rate : Rate) (invert : Bool) (keep ahead : ℕ) (from to till : Place)
    (first all : List WindowBlock)
    → Closed rate invert keep ahead from first to → Closed rate invert keep ahead from all till
    → length till.octets < steps_size rate till.t (keep + ahead + 1)
    → (rest : List WindowBlock) × (all ≡ first ++ rest)
longer_closed one rate invert keep ahead from to till [] all h k few = (all, refl)
longer_closed one rate invert keep ahead from to till (b ∷ first) [] h k few =
    let less : length from.octets < steps_size rate from.t (keep + ahead + 1) =
    subst (λ (v : Place). length v.octets < steps_size rate v.t (keep + ahead + 1)) (sym k) few in
    absurd (omega (arith, h.0.room, less))
longer_closed one rate invert keep ahead from to till (b ∷ first) (d ∷ all) h k few =
    let same : d ≡ b = one_block one rate invert keep ahead from.starts from.t
    (keep + ahead + 1) from.octets d b k.0.is_block h.0.is_block in
    let next = subst (λ (v : WindowBlock). Closed rate invert keep ahead (after_block rate from v) all till) same k.1 in
    let r = longer_closed one rate invert keep ahead (after_block rate from b) to till first all h.1 next few in
    (r.0, ap (λ (v : WindowBlock). v ∷ all) same ∙ ap (λ (v : List WindowBlock). b ∷ v) r.1)

longer_place : (s : Settings) (octets more : List ℕ) → more_octets (first_place s octets) more
    ≡ first_place s (octets ++ more)
unfolding more_octets
longer_place s octets more = refl

pub longer_due : OneBest → (s : Settings) (octets more : List ℕ) (due later : List WindowBlock)
    → AreDue s octets due → AreDue s (octets ++ more) later → (rest : List WindowBlock) × (later ≡ due ++ rest)
longer_due one s octets more due later h k =
    let there = subst (λ (v : Place). Closed s.rate s.invert s.keep s.ahead v due (more_octets h.to more))
    (longer_place s octets more)
    (Closed-append s.rate s.invert s.keep s.ahead (first_place s octets) h.to due more h.closed) in
    longer_closed one s.rate s.invert s.keep s.ahead (first_place s (octets ++ more))
    (more_octets h.to more) k.to due later there k.closed k.few

-- ---- no octets

pub no_blocks : (s : Settings) → AreBlocksOf s [] [] 0
no_blocks s = record {
  count = 0;
  steps =
      record {
        whole = omega (arith, steps_size-zero s.rate 0);
        most = omega (arith, steps_size-more s.rate 0 0, step_size_pos s.rate 0, step_size_pos s.rate (0 + 0));
      };
  are = refl;
  rest = omega (arith, steps_size-zero s.rate 0);
}

pub no_due : (s : Settings) → AreDue s [] []
no_due s = record {
  to = first_place s [];
  closed = refl;
  few =
      omega (
        arith,
        steps_size-more s.rate 0 0,
        step_size_pos s.rate (0 + 0),
        steps_size-le s.rate 0 (0 + 1) (s.keep + s.ahead + 1) (omega arith),
      );
}
