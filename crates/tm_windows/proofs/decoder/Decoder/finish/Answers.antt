use Rattle.std.proofs.Common.{◌≡◌, ◌∙◌, ◌++◌, ℕ, false, List, None, ap, sym, subst}
use Rattle.tm_viterbi.specs.Blocks.{AreBlocksOf}
use Rattle.tm_viterbi.specs.Settings.{Settings}
use Rattle.tm_viterbi.specs.WindowBlock.{WindowBlock}
use Rattle.tm_windows.specs.Decoding.{Decoding, DecoderStandsFor}
use Rattle.tm_windows.specs.Queue.{Queueing, IsSameQueue, QueueEndsFor, QueueStandsFor}
use Rattle.tm_windows.specs.Windows.{Windows}
use Rattle.tm_windows.proofs.GivenPhase.{given-blocks, one-broke}
use Rattle.tm_windows.proofs.Undisturbed.{unseen-blocks}
use Rattle.tm_windows.proofs.decoder.Decoder.finish.Goals as goal

-- with the last block they are all blocks
all-blocks : (old d : Decoding) (now : Queueing) (given : List ℕ) (done : List WindowBlock) (left : ℕ)
    → old ≡ d → old.queue.find ≡ false → IsSameQueue old.queue now
    → ((octets : List ℕ) (first : List WindowBlock) → QueueStandsFor old.queue octets first
    → QueueEndsFor now octets (first ++ now.ready) left)
    → DecoderStandsFor d given done → AreBlocksOf d.settings given (done ++ now.ready) left
all-blocks old d now given done left e find same ends stands =
    let all = done ++ now.ready in
    let stood = subst (λ (v : Decoding). DecoderStandsFor v given done) (sym e) stands in
    let blocks = given-blocks now given all left (same.find ∙ find) (ends given done stood.stands) in
    let is : now.windows ≡ record { settings = old.settings; seen = None } = same.windows ∙ stood.settings in
    subst (λ (s : Settings). AreBlocksOf s given all left)
    (ap (λ (w : Windows). w.settings) is ∙ ap (λ (v : Decoding). v.settings) e)
    (unseen-blocks now.windows (ap (λ (w : Windows). w.seen) is) given all left blocks)

pub returns-clause-handed : goal.returns-clause-handed
returns-clause-handed g c =
    let now = c.last-left.new.self in
    let ended = c.last-left.ensures in
    let view : Decoding = record {
      settings = c.self.inside.queue.windows.settings;
      has_stopped = c.self.inside.has_stopped;
      count = c.self.inside.count;
      queue = c.self.inside.queue;
    } in (
      now.ready,
      c.in-Ok.ensures.ok,
      λ given done stands.
          all-blocks view c.args.self.now now given done c.last-left.result c.self.view_is
          c.self.invariant.2 ended.same ended.ends stands,
    )

pub returns-in_default-clause-prefix : goal.returns-in_default-clause-prefix
returns-in_default-clause-prefix g c = λ _.
    let now = c.last-left.new.self in
    let ended = c.last-left.ensures in
    let view : Decoding = record {
      settings = c.self.inside.queue.windows.settings;
      has_stopped = c.self.inside.has_stopped;
      count = c.self.inside.count;
      queue = c.self.inside.queue;
    } in
    let last = one-broke _ _ c.args.blocks.now c.hand.new.blocks now.ready ended.one c.in_default.ensures.err in (
      last.0,
      last.1,
      λ given done stands. (
        c.last-left.result,
        subst (λ (v : List WindowBlock). AreBlocksOf c.args.self.now.settings given (done ++ v) c.last-left.result)
            last.2
            (all-blocks view c.args.self.now now given done c.last-left.result c.self.view_is
            c.self.invariant.2 ended.same ended.ends stands),
      ),
    )
