-- What is handed over for received octets.
use Rattle.std.proofs.Common.{ℕ, ◌+◌, ◌≤◌, inl, List, arith, Option, Some, None}
use Rattle.tm_base.specs.Handed.{Handed}
use Rattle.tm_config.specs.Configuration.{Configuration}
use Rattle.tm_conv.specs.declared.rates.Rate.{Rate}
use Rattle.tm_conv.proofs.Sizes.{steps_size_ge}
use Rattle.tm_viterbi.specs.WindowBlock.{WindowBlock}
use Rattle.tm_inner.specs.Phase.{needed_at}
use Rattle.tm_inner.specs.Handing.{AreHandedFirst, AreHandedPrefix}

-- the phase needs an octet or more
pub needed-some : (rate : Option Rate) (c : Configuration) → 1 ≤ c.keep → 1 ≤ needed_at rate c
needed-some None c some = omega arith
needed-some (Some rate) c some = omega (arith, steps_size_ge rate 0 (c.keep + c.ahead))

pub prefix-first : (c : Configuration) (given : List ℕ) (handed : List (Handed WindowBlock))
    → AreHandedFirst c given handed → AreHandedPrefix c given handed
prefix-first c given handed h =
    record {
      chosen = h.1.chosen;
      choice = h.1.choice;
      items = h.1.items;
      are_items = inl h.1.are_items;
      are = h.1.are;
    }
