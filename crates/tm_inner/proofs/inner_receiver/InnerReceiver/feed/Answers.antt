use Rattle.std.proofs.Common.{rules, ◌≡◌, ◌∙◌, ◌+◌, ◌-◌, ◌<◌, ◌≤◌, ◌^◌, ◌++◌, ℕ, false, List, length, min, take, ap, refl, sym, subst, arith, length-append, length-take, Ok, Err}
use Rattle.tm_base.specs.Calls.{taker_call}
use Rattle.tm_base.specs.Handed.{Handed, on_handed}
use Rattle.tm_config.specs.Configuration.{Configuration}
use Rattle.tm_viterbi.specs.WindowBlock.{WindowBlock}
use Rattle.tm_viterbi.specs.WindowSizes.{stream_bound}
use Rattle.tm_windows.specs.declared.decoder.FeedError.TheVariants.{Taker}
use Rattle.tm_inner.specs.Calls.{Feeds}
use Rattle.tm_inner.specs.Phase.{IsChosenSoFar}
use Rattle.tm_inner.specs.Receiving.{HasHanded, InnerReceiving}
use Rattle.tm_inner.proofs.GivenPieces.{hands-whole}
use Rattle.tm_inner.proofs.ReadOctets.{hands-all, so_far-whole}
use Rattle.tm_inner.proofs.Until.{feeds-failed, feeds-ok, same-loan}
use Rattle.tm_inner.proofs.inner_receiver.InnerReceiver.feed.Given.{Over}
use Rattle.tm_inner.proofs.inner_receiver.InnerReceiver.feed.Goals as goal
use Rattle.tm_inner.proofs.inner_receiver.InnerReceiver.feed.Goals.{After-watch_due}

module _ (g : Over) (c : After-watch_due g) where
  count : (given : List ℕ) (done : List (Handed WindowBlock)) → HasHanded c.self.inside.decoder given done
      → c.within-within.result ≡ min (length c.args.octets.now) (2 ^ 60 - 1 - length given)
  count given done stood =
      c.within-within.ensures.value
      ∙ ap (λ (n : ℕ). min (length c.args.octets.now) (2 ^ 60 - 1 - n)) (sym stood.read.stands.count)

  all : (given : List ℕ) (done : List (Handed WindowBlock)) → length given + length c.args.octets.now < stream_bound
      → HasHanded c.self.inside.decoder given done → length c.args.octets.now ≤ c.within-within.result
  all given done few stood = omega (arith, count given done stood, few)

  chosen : (given : List ℕ) (done : List (Handed WindowBlock)) → HasHanded c.self.inside.decoder given done
      → c.self.inside.has_stopped ≡ false
      → IsChosenSoFar c.self.inside.decoder.config (given ++ c.args.octets.now) c.watch_due.new.inner.chosen
  chosen given done h _ =
      let d = c.self.inside.decoder in
      let octets = c.args.octets.now in
      let n = c.within-within.result in
      let due = c.watch_due.ensures.read in
      let now = c.watch_due.new.inner.chosen in
      so_far-whole d.config given octets n now
      (λ cut. c.within-within.ensures.settles (given ++ take n octets)
      (omega (arith, count given done h, cut, length-append given (take n octets), length-take n octets)))
      (subst (λ (c : Configuration). IsChosenSoFar c (given ++ take n octets) now) due.config
      ((due.kept given done (omega (arith, count given done h, h.read.stands.few, length-take n octets)) h.read).so_far
      (due.ended ∙ c.self.invariant c.if-self.false)))

pub returns-then-has_failed : goal.returns-then-has_failed
returns-then-has_failed g c =
    let k = (goal.at.returns-then-has_failed g c).After-watch_due in
    let t = g.B.BlockTaker in
    let took = on_handed t.took_phase t.took in
    let broke = on_handed t.broke_phase t.broke in
    let d = c.self.inside.decoder in
    let octets = c.args.octets.now in
    let n = c.within-within.result in
    let now = c.watch_due.new.inner in
    let watch = c.watch_due.new.watch in
    let due = c.watch_due.ensures.read in
    let loan : watch.taker.ghost_name ≡ _ =
    same-loan took broke t.faults t.is_last _ watch due.read.more due.read.handed in
    let fed = subst (λ (r : InnerReceiving). Feeds {R = Unit {0}} r
    (record { decoder = now; has_stopped = watch.has_failed }) octets (taker_call took broke t.faults t.is_last c.args.blocks.now watch.taker.now) (Err Taker)) c.self.view_is
    (feeds-failed took broke t.faults t.is_last (record { decoder = d; has_stopped = c.self.inside.has_stopped }) now
    _ watch c.if-self.false refl octets c.if-has_failed.true due.config (chosen g k)
    (hands-whole _ HasHanded d now _ watch octets n (all g k)
    (hands-all _ d now _ watch (take n octets) (c.self.invariant c.if-self.false) due))) in
    search rules

pub returns : goal.returns
returns g c =
    let k = (goal.at.returns g c).After-watch_due in
    let t = g.B.BlockTaker in
    let took = on_handed t.took_phase t.took in
    let broke = on_handed t.broke_phase t.broke in
    let d = c.self.inside.decoder in
    let octets = c.args.octets.now in
    let n = c.within-within.result in
    let now = c.watch_due.new.inner in
    let watch = c.watch_due.new.watch in
    let due = c.watch_due.ensures.read in
    let loan : watch.taker.ghost_name ≡ _ =
    same-loan took broke t.faults t.is_last _ watch due.read.more due.read.handed in
    let fed = subst (λ (r : InnerReceiving). Feeds {R = Unit {0}} r
    (record { decoder = now; has_stopped = watch.has_failed }) octets (taker_call took broke t.faults t.is_last c.args.blocks.now watch.taker.now) (Ok (tt {0}))) c.self.view_is
    (feeds-ok took broke t.faults t.is_last (record { decoder = d; has_stopped = c.self.inside.has_stopped }) now
    _ watch c.if-self.false refl octets c.if-has_failed.false due.config (chosen g k)
    (hands-whole _ HasHanded d now _ watch octets n (all g k)
    (hands-all _ d now _ watch (take n octets) (c.self.invariant c.if-self.false) due))) in
    search rules
