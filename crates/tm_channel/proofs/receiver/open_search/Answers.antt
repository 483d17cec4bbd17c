use Rattle.std.proofs.Common.{◌≤◌, ◌+◌, ◌*◌, ℕ, zero, suc, arith, ap, ◌∙◌, subst, sym, Option, Some, None, IfSome}
use Rattle.tm_sync.specs.declared.found.Columns.{Columns}
use Rattle.tm_sync.specs.Finding.{Finding, Recent}
use Rattle.tm_sync.specs.Places.{Rules, settled_by}
use Rattle.tm_sync.specs.Rescan.{Fits, reach}
use Rattle.tm_codeblock.specs.ReceivedCodeblock.{rules_of, columns_of}
use Rattle.tm_codeblock.proofs.PlacesIn.{fits}
use Rattle.tm_channel.specs.Receiving.{run_size}
use Rattle.tm_channel.proofs.receiver.open_search.Goals as goal

within : (rules : Rules) (columns : Option Columns) → Fits rules columns
    → IfSome columns (λ c. reach c ≤ rules.block_bits)
within rules None fits = tt
within rules (Some columns) fits = fits

-- the markers and codeblocks that settle a place, and some octets more
has-room : (verify size more : ℕ)
    → settled_by verify (8 * size) + 8 * run_size + 14 ≤ 8 * ((1 + verify) * (4 + size) + 4096 + more)
has-room zero size more = omega arith
has-room (suc verify) size more = omega arith

pub new-finder-requires-clause-columns : goal.new-finder-requires-clause-columns
new-finder-requires-clause-columns c =
    let config = c.args.config.now in
    subst (λ (o : Option Columns). IfSome o (λ k. reach k ≤ 8 * c.codeblock_size-size.result))
    (sym c.columns_of.ensures)
    (subst (λ n. IfSome (columns_of config) (λ k. reach k ≤ 8 * n)) (sym c.codeblock_size-size.ensures.value)
    (within (rules_of config) (columns_of config) (fits config)))

pub returns-clause-sized : goal.returns-clause-sized
returns-clause-sized c =
    let verify = c.verify.result in
    let size = c.codeblock_size-size.result in
    let room = c.new.result.size in
    let units : ℕ → Type 0 = λ n. settled_by verify (8 * size) + 8 * run_size + 14
    ≤ 8 * ((1 + n) * (4 + size) + 4096 + c.expected_octets.result) in
    subst (λ (r : Rules). settled_by r.verify r.block_bits + 8 * run_size + 14 ≤ 8 * room)
    (sym (ap (λ (f : Finding). f.rules) c.new-finder.ensures))
    (subst (λ n. settled_by verify (8 * size) + 8 * run_size + 14 ≤ 8 * n)
    (sym (ap (λ (r : Recent). r.size) c.new.ensures ∙ sym c.in-Ok.room.ok.0 ∙ c.in-Ok.ensures.len))
    (subst units (c.verify.ensures.value ∙ sym c.verify-2.ensures.value)
    (has-room verify size c.expected_octets.result)))
