use Rattle.std.proofs.Common.{◌≡◌, ◌≤◌, ◌+◌, ◌-◌, ◌∙◌, ℕ, List, sym, ap, subst, arith, length, length-drop, take, drop}
use Rattle.std.proofs.lemmas.List.{length-take-le, take_all}
use borrow.Rule.Slice.PartMut.{put_mid}
use Rattle.tm_conv.specs.Path.{steps_size}
use Rattle.tm_viterbi.specs.Carries.{Carries}
use Rattle.tm_viterbi.proofs.Carrying.{length-mid}
use Rattle.tm_viterbi.proofs.Overlap.{part_on, between_size}
use Rattle.tm_viterbi.proofs.window_pass.forward.Goals as goal

pub run-requires-clause-size : goal.run-requires-clause-size
run-requires-clause-size c =
    let overlap : ℕ = c.args.overlap in
    let kept : ℕ = c.args.kept in
    between_size c.args.rate c.args.t overlap kept c.places-first.result.0 c.places-first.result.1 c.args.octets.now
    (omega (arith, c.requires.order.0)) c.places-first.ensures.first c.places-first.ensures.middle
    (omega (arith, c.places-first.ensures.order.1))
    ∙ ap (steps_size c.args.rate (c.args.t + overlap))
    (sym (length-take-le (kept - overlap) (drop overlap c.args.survivors.now)
    (omega (arith, length-drop overlap c.args.survivors.now, c.requires.order.0, c.requires.order.1))))

-- how many survivors the first part leaves
pub run-requires-2-clause-size : goal.run-requires-2-clause-size
run-requires-2-clause-size c =
    let overlap : ℕ = c.args.overlap in
    let kept : ℕ = c.args.kept in
    let before : List ℕ = c.args.survivors.now in
    let n : ℕ = length before in
    let one : List ℕ = c.run.new.survivors in
    let long : length one ≡ kept - overlap =
    c.run.auto.survivors ∙ length-take-le (kept - overlap) (drop overlap before)
    (omega (arith, length-drop overlap before, c.requires.order.0, c.requires.order.1)) in
    let all : List ℕ = put_mid overlap (kept - overlap) before one in
    let same : length all ≡ n =
    length-mid overlap (kept - overlap) before one (omega (arith, c.requires.order.0, c.requires.order.1)) long in
    between_size c.args.rate c.args.t kept n c.places-first.result.1 (length c.args.octets.now) c.args.octets.now
    (omega (arith, c.requires.order.1)) c.places-first.ensures.middle c.requires.size
    (omega arith)
    ∙ ap (steps_size c.args.rate (c.args.t + kept))
    (sym (length-take-le (n - kept) (drop kept all) (omega (arith, length-drop kept all, same))))

pub returns-clause-whole : goal.returns-clause-whole
returns-clause-whole c before there =
    let rate = c.args.rate in
    let invert = c.args.invert in
    let t : ℕ = c.args.t in
    let overlap : ℕ = c.args.overlap in
    let kept : ℕ = c.args.kept in
    let octets : List ℕ = c.args.octets.now in
    let size : ℕ = length octets in
    let first : ℕ = c.places-first.result.0 in
    let middle : ℕ = c.places-first.result.1 in
    let sums : List ℕ = c.args.sums.now in
    let between : List ℕ = c.run.new.sums in
    let last : List ℕ = c.run-2.new.sums in
    let rows : List ℕ = c.args.survivors.now in
    let n : ℕ = length rows in
    let one : List ℕ = c.run.new.survivors in
    let two : List ℕ = c.run-2.new.survivors in
    let long : length one ≡ kept - overlap =
    c.run.auto.survivors ∙ length-take-le (kept - overlap) (drop overlap rows)
    (omega (arith, length-drop overlap rows, c.requires.order.0, c.requires.order.1)) in
    let mid : List ℕ = put_mid overlap (kept - overlap) rows one in
    let mid_long : length mid ≡ n =
    length-mid overlap (kept - overlap) rows one (omega (arith, c.requires.order.0, c.requires.order.1)) long in
    let long_two : length two ≡ n - kept =
    c.run-2.auto.survivors ∙ length-take-le (n - kept) (drop kept mid) (omega (arith, length-drop kept mid, mid_long)) in
    let all : List ℕ = put_mid kept (n - kept) mid two in
    let all_long : length all ≡ n =
    length-mid kept (n - kept) mid two (omega (arith, c.requires.order.1, mid_long)) long_two ∙ mid_long in
    let begun : Carries rate invert t (take first octets) before sums (take overlap rows) =
    subst (λ (m : ℕ). Carries rate invert t (take m octets) before sums (take overlap rows))
    (sym c.places-first.ensures.first) there in
    let to_middle : first + (middle - first) ≡ middle = omega (arith, c.places-first.ensures.order.0) in
    let to_kept : overlap + (kept - overlap) ≡ kept = omega (arith, c.requires.order.0) in
    let half = part_on rate invert t first (middle - first) overlap (kept - overlap) octets before sums between rows one
    c.places-first.ensures.first (omega (arith, c.places-first.ensures.order))
    (omega (arith, c.requires.order)) long begun c.run.ensures.carries in
    let halfway : Carries rate invert t (take middle octets) before between (take kept mid) =
    subst (λ (k : ℕ). Carries rate invert t (take middle octets) before between (take k mid)) to_kept
    (subst (λ (m : ℕ). Carries rate invert t (take m octets) before between (take (overlap + (kept - overlap)) mid)) to_middle
    half) in
    let whole = part_on rate invert t middle (size - middle) kept (n - kept) octets before between last mid two
    c.places-first.ensures.middle (omega (arith, c.places-first.ensures.order.1))
    (omega (arith, c.requires.order.1, mid_long)) long_two halfway c.run-2.ensures.carries in
    subst (λ (w : List ℕ). Carries rate invert t octets before last w)
    (take_all (kept + (n - kept)) all (omega (arith, all_long)))
    (subst (λ (v : List ℕ). Carries rate invert t v before last (take (kept + (n - kept)) all))
    (take_all (middle + (size - middle)) octets (omega arith)) whole)
