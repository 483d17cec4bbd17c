use Rattle.std.proofs.Common.{rules, ◌≡◌, ◌==◌, ◌+◌, ◌*◌, ◌-◌, ◌∙◌, ℕ, List, ap, subst, arith, length, drop, take}
use Rattle.std.proofs.lemmas.List.{take_rest}
use Rattle.tm_conv.specs.Path.{steps_size}
use Rattle.tm_windows.specs.Slip.{IsSlip}
use Rattle.tm_windows.proofs.FirstDrops.{look_room, look_size}
use Rattle.tm_windows.proofs.Slips.{IsSlip-one}
use Rattle.tm_windows.proofs.looks.Looks.is_undropped.Goals as goal

pub slice_bounds-octets-start : goal.slice_bounds-octets-start
slice_bounds-octets-start c =
    omega (arith, (look_room c.args.self.now c.args.number _ c.requires.room c.steps_len-size.ensures).next)

pub slice_bounds-octets-count : goal.slice_bounds-octets-count
slice_bounds-octets-count c =
    omega (arith, (look_room c.args.self.now c.args.number _ c.requires.room c.steps_len-size.ensures).next)

pub slip-requires-clause-octets : goal.slip-requires-clause-octets
slip-requires-clause-octets c =
    omega (
      arith,
      ap length (take_rest c.args.self.now.octets.now c.steps_len-size.result),
      look_size c.args.self.now c.args.number _ c.requires.room c.steps_len-size.ensures,
    )

-- the octets that are looked at are those of the window
pub returns : goal.returns
returns c =
    let l = c.args.self.now in
    let s = l.shape in
    let size = c.steps_len-size in
    let there : ℕ = l.t + c.args.number * s.keep in
    let octets = drop (steps_size s.rate l.t (c.args.number * s.keep)) l.octets.now in
    let looked = take (length l.octets.now - size.result) (drop size.result l.octets.now) in
    let same : looked ≡ octets = take_rest l.octets.now size.result
    ∙ ap (λ (n : ℕ). drop n l.octets.now) size.ensures in
    let seen = subst (λ (o : List ℕ). IsSlip s.rate s.invert there l.steps o c.slip.result) same
    c.slip.ensures.slip in (
      λ still. subst (λ (k : ℕ). IsSlip s.rate s.invert there l.steps octets k)
          (let none : c.slip.result ≡ 0 = search rules in none) seen,
      λ undropped. ap (λ (k : ℕ). k == 0)
          (IsSlip-one s.rate s.invert there l.steps octets c.slip.result 0 seen undropped),
    )
