use Rattle.std.proofs.Common.{◌≡◌, ◌==◌, ◌++◌, ◌+◌, ◌<◌, ◌∙◌, ℕ, zero, suc, List, [], ◌∷◌, length, take, map, arith, refl, ap, sym, subst, append_assoc, slice_index_or}
use Rattle.std.proofs.lemmas.List.{append-nil, map-append, take_all}
use Rattle.tm_viterbi.specs.Clean.{kept_bits}
use Rattle.tm_viterbi.specs.WindowBlock.{WindowBlock}
use Rattle.tm_inner.specs.InnerDecoding.{ready_in}
use Rattle.tm_channel.specs.OctetReceiving.{Gathered, IsSearched, IsSettled, Receives, bits_of_blocks}
use Rattle.tm_channel.proofs.Holding.{ready-fills}
use Rattle.tm_channel.proofs.ReceivedPieces.{awaits-on, gathers-begun, receives-after, receives-step, receives-then}
use Rattle.tm_channel.proofs.bit_receiver.BitReceiver.receive_ready.Goals as goal

-- the bits of one block more
kept-next : (blocks : List WindowBlock) (index : ℕ) (bits : List ℕ) → index < length blocks
    → ((block : WindowBlock) → bits
    ≡ take (slice_index_or blocks index block).kept (slice_index_or blocks index block).bits)
    → kept_bits (take (suc index) blocks) ≡ kept_bits (take index blocks) ++ bits
kept-next [] index bits below is = absurd (omega (arith, below))
kept-next (x ∷ blocks) zero bits below is = append-nil (take x.kept x.bits) ∙ sym (is x)
kept-next (x ∷ blocks) (suc index) bits below is =
    ap (λ l. take x.kept x.bits ++ l) (kept-next blocks index bits (omega (arith, below)) is)
    ∙ sym (append_assoc (take x.kept x.bits) (kept_bits (take index blocks)) bits)

bits-next : (blocks : List WindowBlock) (index : ℕ) (bits : List ℕ) → index < length blocks
    → ((block : WindowBlock) → bits
    ≡ take (slice_index_or blocks index block).kept (slice_index_or blocks index block).bits)
    → bits_of_blocks (take (index + 1) blocks) ≡ bits_of_blocks (take index blocks) ++ map (λ bit. bit == 1) bits
bits-next blocks index bits below is =
    let next : index + 1 ≡ suc index = omega arith in
    ap (λ n. bits_of_blocks (take n blocks)) next
    ∙ ap (map (λ bit. bit == 1)) (kept-next blocks index bits below is)
    ∙ map-append (λ bit. bit == 1) (kept_bits (take index blocks)) bits

pub loop-index-init : goal.loop-index-init
loop-index-init g c = record {
  fills = c.requires.awaits.fills;
  gathers = gathers-begun g.T.ItemWatch.took c.args.self.now c.args.taker.now;
}

pub loop-index-preserved : goal.loop-index-preserved
loop-index-preserved g c =
    let took = g.T.ItemWatch.took in
    let index = c.loop-index.index in
    let blocks = ready_in c.args.inner.now.queue in
    let start = c.args.self.now in
    let now = c.gather.new.self in
    let taker = c.args.taker.now in
    let bits = c.kept_bits.result.now in record {
      fills = c.gather.ensures.fills;
      gathers = subst (Receives IsSearched Gathered took start now taker c.gather.new.taker)
          (sym (bits-next blocks index bits (omega (arith, c.loop-index-test.true, c.ready-index-end.ensures))
          c.kept_bits.ensures))
          (receives-then IsSearched Gathered Gathered took start c.loop-index.self now taker c.loop-index.taker
          c.gather.new.taker (bits_of_blocks (take index blocks)) (map (λ bit. bit == 1) bits)
          c.loop-index.invariant.gathers c.gather.ensures.gathers);
    }

pub returns-clause-handed : goal.returns-clause-handed
returns-clause-handed g c =
    let took = g.T.ItemWatch.took in
    let blocks = ready_in c.args.inner.now.queue in
    let start = c.args.self.now in
    let middle = c.loop-index.self in
    let now = c.keep_all.new.self in
    let taker = c.args.taker.now in
    let last = c.keep_all.new.taker in
    let all : take c.loop-index.index blocks ≡ blocks =
    take_all c.loop-index.index blocks (omega (arith, c.loop-index-test.false, c.ready-index-end.ensures)) in
    receives-after IsSearched Gathered IsSearched took start middle now taker c.loop-index.taker last
    (bits_of_blocks blocks)
    (subst (λ (l : List WindowBlock). Receives IsSearched Gathered took start middle taker c.loop-index.taker
    (bits_of_blocks l)) all c.loop-index.invariant.gathers)
    (receives-then Gathered IsSettled IsSearched took middle now now c.loop-index.taker last last [] []
    c.keep_all.ensures.settles
    (receives-step IsSettled IsSearched took now now last refl refl (λ all done count at few le was. was.0)))

pub keep_all-requires-clause-agree : goal.keep_all-requires-clause-agree
keep_all-requires-clause-agree g c = c.loop-index.invariant.fills.agree

pub keep_all-requires-clause-few : goal.keep_all-requires-clause-few
keep_all-requires-clause-few g c = c.loop-index.invariant.fills.few

pub returns-clause-awaits : goal.returns-clause-awaits
returns-clause-awaits g c =
    let p = c.loop-index.invariant.gathers in
    let q = c.keep_all.ensures.settles in
    let r = c.keep_all.new.self in
    let ready = c.keep_all.ensures.ready in
    awaits-on c.args.self.now r c.requires.awaits (q.config ∙ p.config) (q.origins ∙ p.origins)
    (ready-fills r.finder r.recent r.batch ready) (λ _. ready.short)
