use Rattle.std.proofs.Common.{◌≡◌, ◌≤◌, ◌<◌, ◌+◌, ◌-◌, ◌∙◌, ℕ, List, sym, ap, subst, arith, length, length-drop, take, drop, reverse, slice_index}
use Rattle.std.specs.List.{All}
use Rattle.std.proofs.lemmas.List.{length-take-le, take-take, take_rest, with_items_is}
use Rattle.std.proofs.lemmas.List.Elements.{All-same, All-take}
use Rattle.std.proofs.lemmas.Slice.{take-put_mid}
use borrow.Rule.Slice.PartMut.{put_mid}
use Rattle.tm_conv.specs.Path.{steps_size}
use Rattle.tm_conv.proofs.DictionaryOrder.{All-reverse}
use Rattle.tm_viterbi.specs.Carries.{Carries}
use Rattle.tm_viterbi.specs.Walk.{past_of, start_of}
use Rattle.tm_viterbi.proofs.Carrying.{length-mid}
use Rattle.tm_viterbi.proofs.Overlap.{overlap_on, path_of, sum_over}
use Rattle.tm_viterbi.proofs.Walk.{past_of_small}
use Rattle.tm_viterbi.proofs.window_pass.WindowPass.finish.Goals as goal

pub overflow_sub-sums : goal.overflow_sub-sums
overflow_sub-sums c =
    let p = c.args.self.now in
    let n : ℕ = length c.args.bits.now in
    let before : List ℕ = c.deref_mut.result.now in
    let rows : List ℕ = c.forward-between.new.survivors in
    let last : ℕ = c.least_register-last.result in
    let room : n ≤ length before = omega (arith, c.requires.steps.0, c.deref_mut.ensures.len) in
    let long : length rows ≡ n =
    c.forward-between.auto.survivors ∙ length-take-le (n - 0) before (omega (arith, room)) ∙ omega arith in
    let whole = c.forward-between.ensures.whole p.before
    (overlap_on c.args.rate c.args.invert p.t p.overlap p.size (n - 0) p.octets.items c.args.octets.now p.before p.after
    p.survivors.items before c.requires.overlap.size c.requires.octets c.deref_mut.ensures.value
    (omega (arith, c.requires.fits, c.requires.kept)) c.requires.overlap.carries) in
    let all : List ℕ = put_mid 0 (n - 0) before rows in
    let there : take n c.deref.result.now ≡ rows =
    ap (take n) (c.deref.ensures.value ∙ with_items_is p.survivors all
    (length-mid 0 (n - 0) before rows (omega (arith, room)) (omega (arith, long)) ∙ c.deref_mut.ensures.len))
    ∙ take-put_mid 0 (n - 0) before rows n (omega (arith, long)) (omega arith) in
    let start : c.from.result ≡ start_of (reverse rows) last =
    c.from.ensures ∙ c.trace_back-start.ensures.start ∙ ap (λ (v : List ℕ). start_of (reverse v) last) there in
    let same : slice_index p.before c.from.result ≡ slice_index p.before (start_of (reverse rows) last) =
    ap (λ (v : ℕ). slice_index p.before v) start in
    let over = sum_over c.args.rate c.args.invert p.t c.args.octets.now p.before c.forward-between.new.sums rows last
    whole c.least_register-last.ensures.register in
    omega (arith, same, over)

pub end_register-end_state-requires-clause-bits : goal.end_register-end_state-requires-clause-bits
end_register-end_state-requires-clause-bits c =
    let last : ℕ = c.least_register-last.result in
    let survivors = reverse (take (length c.args.bits.now) c.deref.result.now) in
    let bits = c.trace_back-start.new.bits in
    let digits : All (λ b. b < 2) (take c.args.kept bits) = All-take (λ b. b < 2) c.args.kept bits
    (All-same (λ b. b < 2) bits (reverse (past_of survivors last)) c.trace_back-start.ensures.bits
    (All-reverse (past_of survivors last) (past_of_small survivors last c.least_register-last.ensures.register))) in
    λ k lt. digits k 0 lt

pub returns-clause-path : goal.returns-clause-path
returns-clause-path c =
    let p = c.args.self.now in
    let n : ℕ = length c.args.bits.now in
    let before : List ℕ = c.deref_mut.result.now in
    let rows : List ℕ = c.forward-between.new.survivors in
    let last : ℕ = c.least_register-last.result in
    let room : n ≤ length before = omega (arith, c.requires.steps.0, c.deref_mut.ensures.len) in
    let long : length rows ≡ n =
    c.forward-between.auto.survivors ∙ length-take-le (n - 0) before (omega (arith, room)) ∙ omega arith in
    let whole = c.forward-between.ensures.whole p.before
    (overlap_on c.args.rate c.args.invert p.t p.overlap p.size (n - 0) p.octets.items c.args.octets.now p.before p.after
    p.survivors.items before c.requires.overlap.size c.requires.octets c.deref_mut.ensures.value
    (omega (arith, c.requires.fits, c.requires.kept)) c.requires.overlap.carries) in
    let all : List ℕ = put_mid 0 (n - 0) before rows in
    let there : take n c.deref.result.now ≡ rows =
    ap (take n) (c.deref.ensures.value ∙ with_items_is p.survivors all
    (length-mid 0 (n - 0) before rows (omega (arith, room)) (omega (arith, long)) ∙ c.deref_mut.ensures.len))
    ∙ take-put_mid 0 (n - 0) before rows n (omega (arith, long)) (omega arith) in
    let start : c.trace_back-start.result ≡ start_of (reverse rows) last =
    c.trace_back-start.ensures.start ∙ ap (λ (v : List ℕ). start_of (reverse v) last) there in
    let path : c.trace_back-start.new.bits ≡ reverse (past_of (reverse rows) last) =
    c.trace_back-start.ensures.bits ∙ ap (λ (v : List ℕ). reverse (past_of (reverse v) last)) there in
    path_of c.args.rate c.args.invert p.t (length c.trace_back-start.new.bits) c.args.octets.now p.before
    c.forward-between.new.sums rows last c.trace_back-start.result c.trace_back-start.new.bits c.from-metric.result whole
    (c.trace_back-start.auto.bits ∙ sym long) c.least_register-last.ensures start path
    (c.from-metric.ensures
    ∙ ap (λ (v : ℕ). slice_index c.forward-between.new.sums last - slice_index p.before v) c.from.ensures)

pub returns-clause-overlap : goal.returns-clause-overlap
returns-clause-overlap c =
    let p = c.args.self.now in
    let rate = c.args.rate in
    let invert = c.args.invert in
    let kept : ℕ = c.args.kept in
    let n : ℕ = length c.args.bits.now in
    let octets : List ℕ = c.args.octets.now in
    let middle : ℕ = c.places-middle.result.1 in
    let before : List ℕ = c.deref_mut.result.now in
    let rows : List ℕ = c.forward-between.new.survivors in
    let between : List ℕ = c.forward-between.result in
    let sums : List ℕ = c.forward-between.new.sums in
    let room : n ≤ length before = omega (arith, c.requires.steps.0, c.deref_mut.ensures.len) in
    let long : length rows ≡ n =
    c.forward-between.auto.survivors ∙ length-take-le (n - 0) before (omega (arith, room)) ∙ omega arith in
    let all : List ℕ = put_mid 0 (n - 0) before rows in
    let items = with_items_is p.survivors all
    (length-mid 0 (n - 0) before rows (omega (arith, room)) (omega (arith, long)) ∙ c.deref_mut.ensures.len) in
    let there = ap (take n) items
    ∙ take-put_mid 0 (n - 0) before rows n (omega (arith, long)) (omega arith) in
    let P : List ℕ → List ℕ → Type 0 = λ v w. Carries rate invert (p.t + kept) v between sums (drop kept w) in
    let rest : drop (steps_size rate p.t kept) octets ≡ take (length octets - middle) (drop middle octets) =
    ap (λ (m : ℕ). drop m octets) (sym c.places-middle.ensures.middle) ∙ sym (take_rest octets middle) in
    c.keep.ensures.overlap rate invert
    (subst (λ (w : List ℕ). P (take (length octets - middle) (drop middle octets)) w) (sym there)
    (subst (λ (v : List ℕ). P v rows) rest c.forward-between.ensures.rest))
