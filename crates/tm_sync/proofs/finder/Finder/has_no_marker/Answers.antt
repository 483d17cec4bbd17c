use Rattle.std.proofs.Common.{◌≡◌, ◌+◌, ◌-◌, ◌*◌, ◌∙◌, ◌&&◌, Bool, true, false, Option, drop, is_none, sym, ap, arith}
use Rattle.std.specs.List.{list_all, range_with_len}
use Rattle.tm_sync.specs.Places.{match_of}
use Rattle.tm_sync.proofs.Ahead.{none-step}
use Rattle.tm_sync.proofs.finder.Finder.has_no_marker.Goals.{After-polarity}
use Rattle.tm_sync.proofs.finder.Finder.has_no_marker.Goals as goal

-- what one pass of the loop looks at: the next symbols
seen-next : (c : After-polarity) (here : Bool) → is_none c.polarity.result ≡ here
    → list_all
    (λ k. is_none
    (match_of c.args.self.now.rules (drop (c.args.columns.stride * k) c.args.recent.now.bits)))
    (range_with_len 1 c.args.columns.strength)
    ≡ (here && list_all (λ k. is_none (match_of c.args.self.now.rules
    (drop (c.args.columns.stride * k) c.args.recent.now.bits)))
    (range_with_len (1 + (c.loop-seen.seen + 1))
    (c.args.columns.strength - (c.loop-seen.seen + 1))))
seen-next c here is =
    c.loop-seen.invariant.held
    ∙ none-step c.args.self.now.rules c.args.columns c.args.recent.now.bits c.loop-seen.seen here
    c.loop-seen-test.true
    (ap (λ (o : Option Bool). is_none o) (sym c.polarity.ensures) ∙ is)

pub loop-seen-preserved : goal.loop-seen-preserved
loop-seen-preserved c =
    let some = c.loop-seen-test.true in
    record {
      fewer = omega arith;
      held = seen-next (goal.at.loop-seen-preserved c).After-polarity true
          (ap (λ (o : Option Bool). is_none o) c.in-None.is);
    }

pub returns-in-Some : goal.returns-in-Some
returns-in-Some c =
    sym (seen-next (goal.at.returns-in-Some c).After-polarity false
    (ap (λ (o : Option Bool). is_none o) c.in-Some.is))
