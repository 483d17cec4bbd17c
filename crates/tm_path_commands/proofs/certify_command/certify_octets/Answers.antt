use Rattle.std.proofs.Common.{◌≡◌, ◌+◌, ◌-◌, ◌<◌, ◌≤◌, ◌++◌, ◌∙◌, ℕ, false, List, length, drop, take, arith, refl, sym, subst, length-drop, length-take, take-add, take-take}
use Rattle.std.proofs.lemmas.List.{take_all}
use Rattle.tm_driver.specs.Staged.{Takes}
use Rattle.tm_driver.specs.Writing.{Text}
use Rattle.tm_driver.proofs.FedStage.{takes-more, takes-none}
use Rattle.tm_viterbi.specs.WindowBlock.{WindowBlock}
use Rattle.tm_viterbi.specs.WindowSizes.{stream_bound}
use Rattle.tm_inner.specs.InnerDecoding.{InnerDecoderStandsFor}
use Rattle.tm_path_commands.specs.Certifying.{Certifier, Certifies, certifier}
use Rattle.tm_path_commands.proofs.CertifyStage.{takes-and_run, takes-filled}
use Rattle.tm_path_commands.proofs.certify_command.certify_octets.Goals as goal

abbrev Gives : Certifier → Certifier → List ℕ → List Text → Type 0
Gives _ s octets texts = Certifies s octets texts

pub runs-init : goal.runs-init
runs-init g c = record {
  within = omega arith;
  config = refl;
  ended = refl;
  still = λ _ is. is;
  small = c.requires.start;
  gave = takes-none g.W.TextTaker.took Gives (certifier c.args.inner.now c.args.start.now) c.args.texts.now;
}

pub runs-preserved-then-count-gt0 : goal.runs-preserved-then-count-gt0
runs-preserved-then-count-gt0 g c =
    let l = c.runs in
    let e = c.decode-count.ensures in
    let r = c.certify_ready in record {
      within = l.invariant.within;
      config = e.config ∙ l.invariant.config;
      ended = e.phase.1 ∙ l.invariant.ended;
      still = λ none is. e.still (l.invariant.still none is);
      small = r.ensures.start;
      gave =
          takes-and_run g.W.TextTaker.took (certifier c.args.inner.now c.args.start.now) l.inner
          c.decode-count.new.self l.start r.new.start c.args.texts.now l.texts r.new.texts
          (take l.done c.args.octets.now) l.invariant.gave e.config e.settled
          (λ given blocks s. (e.stands given blocks s).0) e.read r.ensures.gave;
    }

pub runs-preserved : goal.runs-preserved
runs-preserved g c =
    let took = g.W.TextTaker.took in
    let l = c.runs in
    let e = c.decode-count.ensures in
    let r = c.certify_ready in
    let f = c.fill-done in
    let d = c.decode-count.new.self in
    let octets = c.args.octets.now in
    let start = certifier c.args.inner.now c.args.start.now in
    let rest : List ℕ = drop l.done octets in
    let left = length octets - l.done in
    let most : f.result ≤ left = omega (arith, f.ensures.most, length-take left rest) in
    let piece : List ℕ = take f.result rest in
    let same : take f.result (take left rest) ≡ piece = take-take f.result left rest most in
    let size : length piece ≡ f.result = omega (arith, most, length-take f.result rest, length-drop l.done octets) in
    let some : l.done < length octets = omega (arith, l.invariant.within, c.if-done-octets.false) in
    let going : d.has_ended ≡ false = e.phase.1 ∙ l.invariant.ended ∙ c.requires.going (omega (arith, some)) in
    let fills : (given : List ℕ) (blocks : List WindowBlock) → length given + length piece < stream_bound
    → InnerDecoderStandsFor d given blocks → InnerDecoderStandsFor f.new.self (given ++ piece) blocks =
    λ given blocks few stood.
    subst (λ (v : List ℕ). InnerDecoderStandsFor f.new.self (given ++ v) blocks) same
    (f.ensures.stands given blocks going (omega (arith, few, size)) stood) in
    let run = takes-and_run took start l.inner d l.start r.new.start c.args.texts.now l.texts r.new.texts
    (take l.done octets) l.invariant.gave e.config e.settled (λ given blocks s. (e.stands given blocks s).0) e.read
    r.ensures.gave in record {
      within = omega (arith, most, l.invariant.within);
      config = f.ensures.config ∙ e.config ∙ l.invariant.config;
      ended = f.ensures.phase.1 ∙ e.phase.1 ∙ l.invariant.ended;
      still = λ none. absurd (omega (arith, none, some));
      small = r.ensures.start;
      gave = subst (Takes took Gives Gives start (certifier f.new.self r.new.start) c.args.texts.now r.new.texts)
          (sym (take-add l.done f.result octets))
          (takes-more took Gives Gives Gives start (certifier d r.new.start) (certifier f.new.self r.new.start)
          c.args.texts.now r.new.texts r.new.texts (take l.done octets) piece run
          (takes-filled c.certified_law.ensures.longer took d f.new.self r.new.start r.new.texts piece f.ensures.config
          f.ensures.settled fills));
    }

pub returns-then-done-octets-clause-gave : goal.returns-then-done-octets-clause-gave
returns-then-done-octets-clause-gave g c =
    let took = g.W.TextTaker.took in
    let l = c.runs in
    let e = c.decode-count.ensures in
    let r = c.certify_ready in
    let octets = c.args.octets.now in
    let start = certifier c.args.inner.now c.args.start.now in
    subst (Takes took Gives Gives start (certifier c.decode-count.new.self r.new.start) c.args.texts.now r.new.texts)
    (take_all l.done octets (omega (arith, c.if-done-octets.true)))
    (takes-and_run took start l.inner c.decode-count.new.self l.start r.new.start c.args.texts.now l.texts r.new.texts
    (take l.done octets) l.invariant.gave e.config e.settled (λ given blocks s. (e.stands given blocks s).0) e.read
    r.ensures.gave)

pub returns-then-done-octets-clause-so_far : goal.returns-then-done-octets-clause-so_far
returns-then-done-octets-clause-so_far g c = λ going given done few s.
    let l = c.runs in
    let octets = c.args.octets.now in
    let start = certifier c.args.inner.now c.args.start.now in
    let gave = subst (Takes g.W.TextTaker.took Gives Gives start (certifier l.inner l.start) c.args.texts.now l.texts)
    (take_all l.done octets (omega (arith, c.if-done-octets.true))) l.invariant.gave in
    let now = gave.stands start given done few s in
    (c.decode-count.ensures.stands (given ++ octets) now.blocks now.stands).1 (l.invariant.ended ∙ going)
