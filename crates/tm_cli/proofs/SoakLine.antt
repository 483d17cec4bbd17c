-- How `soak` ends, which has one line to write.
use Rattle.std.proofs.Common.{ℕ, List, [], Option, refl, arith}
use Rattle.tm_base.specs.Written.{Wrote, WrotePrefix}
use Rattle.tm_config.specs.Configuration.{Configuration}
use Rattle.tm_driver.specs.Meaning.{Output, Ends, taken_by}
use Rattle.tm_driver.specs.declared.ending.Ending.TheVariants.{Done, Bad, SinkFault}
use Rattle.tm_driver.proofs.SinkTexts.{wrote-nothing, wrote-no_prefix}
use Rattle.tm_cli.specs.Decode.{HasBad}
use Rattle.tm_cli.specs.Generated.{generated}
use Rattle.tm_cli.specs.Soak.{IsSoakLine, soak_meaning}

abbrev line-output : List ℕ → Output
line-output line = record { out = line; notes = [] }

pub soak-done : (c : Configuration) (seed frames hits : ℕ) (line : List ℕ) (taken now noted : Option (List ℕ))
    → IsSoakLine c seed frames hits line
    → Wrote taken now line → (HasBad c (generated c seed frames hits) → ⊥)
    → Ends Done (soak_meaning seed frames hits c) c.limit [] (taken_by taken now noted noted)
soak-done c seed frames hits line taken now noted is wrote none =
    ((line-output line, (is, refl), record { out = wrote; notes = wrote-nothing noted }), omega arith, λ p. p, none)

pub soak-bad : (c : Configuration) (seed frames hits : ℕ) (line : List ℕ) (taken now noted : Option (List ℕ))
    → IsSoakLine c seed frames hits line
    → Wrote taken now line → HasBad c (generated c seed frames hits)
    → Ends Bad (soak_meaning seed frames hits c) c.limit [] (taken_by taken now noted noted)
soak-bad c seed frames hits line taken now noted is wrote some =
    ((line-output line, (is, refl), record { out = wrote; notes = wrote-nothing noted }), omega arith, some)

pub soak-fails : (c : Configuration) (seed frames hits : ℕ) (line : List ℕ) (taken now noted : Option (List ℕ))
    → IsSoakLine c seed frames hits line
    → WrotePrefix taken now line → Ends SinkFault (soak_meaning seed frames hits c) c.limit []
    (taken_by taken now noted noted)
soak-fails c seed frames hits line taken now noted is prefix =
    (line-output line, (is, refl), record { out = prefix; notes = wrote-no_prefix noted [] }, wrote-nothing noted)
