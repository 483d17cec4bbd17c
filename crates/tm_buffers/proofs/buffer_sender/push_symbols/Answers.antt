use Rattle.std.proofs.Common.{◌≡◌, ◌+◌, ◌-◌, ◌<◌, ◌≤◌, ◌++◌, ◌∙◌, Some, [], ℕ, List, ap, arith, drop, length, length-drop, length-take, subst, sym, take}
use Rattle.std.proofs.Math.Seq.{take-append-add}
use Rattle.std.proofs.lemmas.Grind.{common_steps}
use Rattle.std.proofs.lemmas.List.{length-take-le, take-append-le, take_all}
use borrow.Rule.Slice.PartMut.{put_mid}
use Rattle.tm_config.specs.Configuration.{Configuration}
use Rattle.tm_channel.specs.Sending.{Sends, most_made}
use Rattle.tm_channel.proofs.Sending.{makes-sends, makes-sent, rest-taken, sends-more, sends-none}
use Rattle.tm_buffers.proofs.SymbolRoom.{most-fits, unit-fits}
use Rattle.tm_buffers.proofs.buffer_sender.push_symbols.Goals as goal

-- what was put at the start of the part that was lent stands there
put-after : (count made k : ℕ) (all new : List ℕ) → count ≤ length all → made ≤ length new
    → take (count + made) (put_mid count k all new) ≡ take count all ++ take made new
put-after count made k all new within few =
    let rest = drop k (drop count all) in
    let at : count + made ≡ length (take count all) + made = omega (arith, length-take-le count all within) in
    ap (λ (n : ℕ). take n (take count all ++ (new ++ rest))) at ∙ take-append-add (take count all) (new ++ rest) made
    ∙ ap (λ (l : List ℕ). take count all ++ l) (take-append-le made new rest few)

pub loop-done-init : goal.loop-done-init
loop-done-init c = record {
  within = omega arith;
  few =
      let s = c.args.sender.now in
      let octets = length c.args.octets.now in
      let all : octets - 0 ≡ octets = omega arith in
      let fits = most-fits s octets (length c.args.symbols.now) c.config.ensures.partial
      (grind (arith, common_steps)) in
      omega (arith, ap (λ (n : ℕ). most_made s n) all, fits);
  sent = sends-none c.args.sender.now (Some []);
}

pub symbols-taken-requires : goal.symbols-taken-requires
symbols-taken-requires c = record {
  room = λ whole.
      let l = c.loop-done in
      let octets = c.args.octets.now in
      let some = subst (λ (k : Configuration). 0 < k.frame_length) (sym l.invariant.sent.config)
      (omega (arith, c.config.ensures.partial)) in
      let here : length (take (length octets - l.done) (drop l.done octets)) ≡ length octets - l.done =
      omega (arith, length-take (length octets - l.done) (drop l.done octets), length-drop l.done octets) in
      let fits = unit-fits l.sender (length octets - l.done) (length l.symbols - l.count) some
      (omega (arith, l.invariant.few)) (omega (arith, here, whole)) in
      omega (
        arith,
        fits,
        length-take (length l.symbols - l.count) (drop l.count l.symbols),
        length-drop l.count l.symbols,
      );
}

pub loop-done-preserved : goal.loop-done-preserved
loop-done-preserved c =
    let s = c.args.sender.now in
    let l = c.loop-done in
    let r = c.symbols-taken in
    let octets = c.args.octets.now in
    let piece = take (length octets - l.done) (drop l.done octets) in
    record {
      within = grind (arith, common_steps);
      few =
          let here : length piece ≡ length octets - l.done =
          omega (arith, length-take (length octets - l.done) (drop l.done octets), length-drop l.done octets) in
          let rest : length piece - r.result.0 ≡ length octets - (l.done + r.result.0) = omega (arith, here) in
          omega (
            arith,
            ap (λ (n : ℕ). most_made l.sender n) here,
            ap (λ (n : ℕ). most_made r.new.self n) rest,
            r.ensures.few,
            l.invariant.few,
          );
      sent = subst (Sends s r.new.self (Some []) (Some (take (l.count + r.result.1) _)))
          (rest-taken l.done r.result.0 octets)
          (sends-more s l.sender r.new.self (Some []) (Some (take l.count l.symbols)) _ (take l.done octets)
          (take r.result.0 piece) (omega (arith, c.config.ensures.partial)) l.invariant.sent
          (makes-sends l.sender r.new.self (Some (take l.count l.symbols)) _ (take r.result.0 piece) _ r.ensures.made
          (ap Some (put-after l.count r.result.1 (length l.symbols - l.count) l.symbols r.new.room (omega arith)
          (omega (arith, r.ensures.fits))))));
    }

pub returns-clause-pushed : goal.returns-clause-pushed
returns-clause-pushed c = λ given stood room.
    let l = c.loop-done in
    let all : take l.done c.args.octets.now ≡ c.args.octets.now = take_all l.done c.args.octets.now (omega arith) in
    let m = makes-sent c.args.sender.now l.sender c.args.octets.now (take l.count l.symbols)
    (subst (Sends c.args.sender.now l.sender (Some []) (Some (take l.count l.symbols))) all l.invariant.sent) in
    let due = sym (m.due given stood) in (
      m.stands given stood,
      (sym (length-take-le l.count l.symbols (omega arith)) ∙ ap length due, due),
    )
