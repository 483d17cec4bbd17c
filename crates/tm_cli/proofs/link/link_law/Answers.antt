use Rattle.tm_cli.proofs.Links.{keeps-clean, keeps-disturbed, keeps-complemented_input, keeps-complemented_symbols, keeps-found}
use Rattle.tm_cli.proofs.link.link_law.Goals as goal

pub returns-clause-clean : goal.returns-clause-clean
returns-clause-clean c = λ e status k octets taken ok stated ends read.
    keeps-clean c.phase_law.ensures.one c.received_law.ensures.one e status k octets taken ok stated ends read
    c.clean_law.ensures.phase c.clean_law.ensures.totals c.clean_law.ensures.items c.clean_law.ensures.frames

pub returns-clause-disturbed : goal.returns-clause-disturbed
returns-clause-disturbed c = λ e status k octets taken ok stated ends read.
    keeps-disturbed c.phase_law.ensures.one c.received_law.ensures.one e status k octets taken ok stated ends read
    c.inner_law.ensures.one c.inner_law.ensures.blocks c.disturbed_law.ensures.items c.disturbed_law.ensures.frames

pub returns-clause-complemented_input : goal.returns-clause-complemented_input
returns-clause-complemented_input c = λ e status k octets taken ok stated ends read.
    keeps-complemented_input c.phase_law.ensures.one c.received_law.ensures.one e status k octets taken ok stated ends
    read c.items_law.ensures.one c.polarity_law.ensures.uncoded

pub returns-clause-complemented_symbols : goal.returns-clause-complemented_symbols
returns-clause-complemented_symbols c = λ e status k octets taken ok stated ends read.
    keeps-complemented_symbols c.phase_law.ensures.one c.received_law.ensures.one e status k octets taken ok stated ends
    read c.polarity_law.ensures.phase c.polarity_law.ensures.totals c.clean_law.ensures.frames
    c.polarity_law.ensures.half_rate

pub returns-clause-found : goal.returns-clause-found
returns-clause-found c = λ e status k octets taken ok stated ends read.
    keeps-found c.phase_law.ensures.one c.received_law.ensures.one e status k octets taken ok stated ends read
    c.inner_law.ensures.one c.inner_law.ensures.blocks c.found_law.ensures.found
