use Rattle.std.proofs.Common.{◌≡◌, ◌∙◌, ◌++◌, ◌+◌, ℕ, List, None, arith, ap, sym, subst, append_assoc, length, length-append}
use Rattle.tm_viterbi.specs.Due.{AreDue, AreFirst}
use Rattle.tm_viterbi.specs.Settings.{Settings}
use Rattle.tm_windows.specs.Decoding.{Decoding, DecoderStandsFor}
use Rattle.tm_windows.specs.Windows.{Windows, AreFirstIn}
use Rattle.tm_windows.proofs.FollowedOnce.{followed-prefix}
use Rattle.tm_windows.proofs.GivenPhase.{given-due, plain-windows}
use Rattle.tm_windows.proofs.Undisturbed.{unseen-due, unseen-first}
use Rattle.tm_windows.proofs.decoder.Decoder.feed.Goals as goal

pub returns-in-Ok-clause-handed : goal.returns-in-Ok-clause-handed
returns-in-Ok-clause-handed g c =
    let q = c.self.inside.queue in
    let now = c.take.new.queue in
    let taken = c.counted-piece.result.now in
    let same = c.take.ensures.same in
    let ok = c.in-Ok.ensures.ok in
    let more = ok.1.0 in
    let after : Decoding = record {
      settings = now.windows.settings;
      has_stopped = c.self.inside.has_stopped;
      count = c.self.inside.count + length taken;
      queue = now;
    } in
    let set : now.windows.settings ≡ c.args.self.now.settings =
    ap (λ (w : Windows). w.settings) same.windows ∙ ap (λ (d : Decoding). d.settings) c.self.view_is in (
      more,
      ok.1.1,
      λ given done few stands.
          let stood = subst (λ (d : Decoding). DecoderStandsFor d given done) (sym c.self.view_is) stands in
          let none : now.windows.seen ≡ None =
          ap (λ (w : Windows). w.seen) same.windows ∙ ap (λ (w : Windows). w.seen) stood.settings in
          let stands_now = ok.1.2 given done stood.stands in
          let due = given-due now (given ++ taken) (done ++ more) (same.find ∙ c.self.invariant.2) stands_now ok.0 in
          subst (λ (v : List ℕ). DecoderStandsFor after (given ++ v) (done ++ more)
          × AreDue c.args.self.now.settings (given ++ v) (done ++ more))
          (c.counted-piece.ensures.all (omega (arith, few, stood.count))) (
            record {
              settings = plain-windows now.windows none;
              count = omega (arith, stood.count, length-append given taken);
              stands = stands_now;
            },
            subst (λ (s : Settings). AreDue s (given ++ taken) (done ++ more)) set
                (unseen-due now.windows none (given ++ taken) (done ++ more) due),
          ),
    )

pub returns-in-Err-clause-prefix : goal.returns-in-Err-clause-prefix
returns-in-Err-clause-prefix g c = λ _.
    let w = c.self.inside.queue.windows in
    let taken = c.counted-piece.result.now in
    let piece = c.args.piece.now in
    let more = c.counted-piece.ensures.prefix in
    let err = c.in-Err.ensures.err in (
      err.0,
      err.1,
      λ given done stands.
          let stood = subst (λ (d : Decoding). DecoderStandsFor d given done) (sym c.self.view_is) stands in
          let first = followed-prefix w (given ++ taken) more.0 (done ++ err.0) (err.2 given done stood.stands) in
          subst (λ (s : Settings). AreFirst s (given ++ piece) (done ++ err.0))
          (ap (λ (d : Decoding). d.settings) c.self.view_is)
          (unseen-first w (ap (λ (v : Windows). v.seen) stood.settings) (given ++ piece) (done ++ err.0)
          (subst (λ (v : List ℕ). AreFirstIn w v (done ++ err.0))
          (append_assoc given taken more.0 ∙ ap (λ (v : List ℕ). given ++ v) more.1) first)),
    )
