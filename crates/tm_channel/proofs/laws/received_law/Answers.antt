use Rattle.tm_channel.proofs.HandedItems.{received-due, received-exists, received-first, received-prefix, received-one, received-totals}
use Rattle.tm_channel.proofs.laws.received_law.Goals as goal

pub returns-clause-exists : goal.returns-clause-exists
returns-clause-exists c k octets accepted =
    received-exists c.phase_law.ensures.exists k octets (λ phase. c.items_law.ensures.exists k phase octets accepted)

pub returns-clause-one : goal.returns-clause-one
returns-clause-one c k octets handed others totals sums accepted =
    received-one c.phase_law.ensures.one k octets handed others totals sums
    (λ phase items others. c.items_law.ensures.one k phase octets items others accepted)

pub returns-clause-totals : goal.returns-clause-totals
returns-clause-totals c = received-totals c.phase_law.ensures.one c.inner_law.ensures.one c.inner_law.ensures.blocks

pub returns-clause-due : goal.returns-clause-due
returns-clause-due c k octets more due all totals accepted =
    received-due c.whole_window_law.ensures.prefix c.phase_law.ensures.one k octets more due all totals
    (λ phase first items. c.due_items_law.ensures k phase octets more first items accepted)

pub returns-clause-first : goal.returns-clause-first
returns-clause-first c k octets more first all totals accepted =
    received-first c.whole_window_law.ensures.prefix c.phase_law.ensures.one k octets more first all totals
    (λ phase first items. c.first_items_law.ensures.feed k phase octets more first items accepted)

pub returns-clause-prefix : goal.returns-clause-prefix
returns-clause-prefix c k octets prefix all totals accepted =
    received-prefix c.phase_law.ensures.one k octets prefix all totals
    (λ phase first items. c.first_items_law.ensures.finish k phase octets first items accepted)
