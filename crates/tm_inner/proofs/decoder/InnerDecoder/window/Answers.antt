use Rattle.std.proofs.Common.{◌<◌, ◌^◌, sym, subst, arith, length, Option}
use Rattle.tm_conv.proofs.Sizes.{steps_size-most}
use Rattle.tm_windows.specs.Queue.{Queueing}
use Rattle.tm_windows.proofs.ReadOctets.{kept-to}
use Rattle.tm_inner.specs.InnerDecoding.{GoesWith, InnerDecoding, ready_in}
use Rattle.tm_inner.specs.InnerWindows.{AreThere, no_block}
use Rattle.tm_inner.proofs.decoder.InnerDecoder.window.Goals as goal
use Rattle.tm_inner.proofs.decoder.InnerDecoder.window.Goals.{After-step}

-- the step of a ready block is below the bound of the octets
step-few : (c : After-step) → c.step.result < 2 ^ 60
step-few c =
    let s = c.self.inside in
    let queue = λ (P : Option Queueing → Type 0) (is : P c.args.self.now.queue).
    subst P c.in-Some.is (subst (λ (d : InnerDecoding). P d.queue) (sym c.self.view_is) is) in
    let less = queue (λ o. c.args.index < length (ready_in o)) c.requires.index in
    let ready = queue AreThere c.requires.there (omega (arith, less)) in
    let few = subst (λ (o : Option Queueing). GoesWith o s.count s.has_ended) c.in-Some.is c.self.invariant.1 in
    omega (arith, c.step.ensures, kept-to c.args.index c.in-Some.queue.ready no_block less, ready.few, few.2)

pub symbols_of-requires : goal.symbols_of-requires
symbols_of-requires c = omega (arith, step-few (goal.at.symbols_of-requires c).After-step)

pub overflow_add-result : goal.overflow_add-result
overflow_add-result c = omega (
  arith,
  c.origin.ensures.few,
  c.symbols_of.ensures,
  steps_size-most c.in-Some-rate_of.rate 0 c.step.result,
  step-few (goal.at.overflow_add-result c).After-step,
)
