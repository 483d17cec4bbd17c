-- What a command writes, and what each way to end shows of it.
use Rattle.std.specs.Prelude.{◌≡◌, ℕ, ◌+◌, ◌≤◌, List, ◌++◌, length, take, Option}
use Rattle.tm_base.specs.Written.{Wrote, WrotePrefix}
use Rattle.tm_driver.specs.Turns.{but_last_turn}
use Rattle.tm_driver.specs.declared.ending.Ending.{Ending}
use Rattle.tm_driver.specs.declared.ending.Ending.TheVariants.{Done, Bad, BadWindow, LeftOver, SourceFault, SinkFault, PastLimit}

-- the octets for the output and the octets for the notes
pub record Output : Type 0 where
  pub out : List ℕ
  pub notes : List ℕ

-- where the output and the notes stand: what they have taken, where they say which, before and now
pub record Taken : Type 0 where
  pub out : Option (List ℕ)
  pub out_now : Option (List ℕ)
  pub notes : Option (List ℕ)
  pub notes_now : Option (List ℕ)

abbrev pub taken_by : (out out_now notes notes_now : Option (List ℕ)) → Taken
taken_by out out_now notes notes_now = record {
  out = out;
  out_now = out_now;
  notes = notes;
  notes_now = notes_now;
}

-- each sink took the whole of its part
pub record WroteBoth (output : Output) (taken : Taken) : Type 0 where
  pub out : Wrote taken.out taken.out_now output.out
  pub notes : Wrote taken.notes taken.notes_now output.notes

-- each sink took a prefix of its part
pub record WrotePrefixes (output : Output) (taken : Taken) : Type 0 where
  pub out : WrotePrefix taken.out taken.out_now output.out
  pub notes : WrotePrefix taken.notes taken.notes_now output.notes

-- the meaning of a command, for the octets of its input
pub record Meaning : Type 1 where
  -- all that it writes for a whole input
  pub is_output : List ℕ → Output → Type 0
  -- what it has to write for the octets so far, before the end of its input is known
  pub is_due : List ℕ → Output → Type 0
  -- the input is not whole frames, records or windows
  pub is_partial : List ℕ → Type 0
  -- something is uncorrectable, or a window fails
  pub is_bad : List ℕ → Type 0
  -- what the sinks took is where they stop if one of them fails
  pub is_in_order : List ℕ → Output → Taken → Type 0
  -- it stops at a window that fails, and then nothing else is bad
  pub stops_at_bad : Type 0

-- the whole output of these octets was written
abbrev pub WroteOutput : Meaning → List ℕ → Taken → Type 0
WroteOutput meaning octets taken = (output : Output) × meaning.is_output octets output
    × WroteBoth output taken

-- What is due for these octets was written. Whatever octets follow them, their output begins with
-- it.
abbrev pub WroteEarly : Meaning → List ℕ → Taken → Type 0
WroteEarly meaning octets taken = ((output : Output) × meaning.is_due octets output
    × WroteBoth output taken)
    × ((more : List ℕ) → (output : Output) × meaning.is_output (octets ++ more) output
    × WrotePrefixes output taken)

-- what was written, for each ending
abbrev pub Ends : Ending → Meaning → (limit : ℕ) → List ℕ → Taken → Type 0
-- the whole output of the whole input, which is within the limit and whole, and nothing in it is
-- bad
Ends Done meaning limit octets taken = WroteOutput meaning octets taken × (length octets ≤ limit)
    × (meaning.is_partial octets → ⊥) × (meaning.is_bad octets → ⊥)
-- the same where something is
Ends Bad meaning limit octets taken = WroteOutput meaning octets taken × (length octets ≤ limit)
    × meaning.is_bad octets
-- the output of a certificate in which a window fails, as it shows up to the limit, and not before
-- the last turn
Ends BadWindow meaning limit octets taken = meaning.stops_at_bad
    × WroteOutput meaning (take limit octets) taken × meaning.is_bad (take limit octets)
    × (meaning.is_bad (but_last_turn (take limit octets)) → ⊥)
-- the whole output of an input that is within the limit but not whole
Ends LeftOver meaning limit octets taken = WroteOutput meaning octets taken
    × (length octets ≤ limit) × meaning.is_partial octets
-- what is due for the octets so far
Ends SourceFault meaning limit octets taken = WroteEarly meaning octets taken
    × (length octets ≤ limit)
-- prefixes of the output of the octets up to the limit, in order
Ends SinkFault meaning limit octets taken = (output : Output)
    × meaning.is_output (take limit octets) output × WrotePrefixes output taken
    × meaning.is_in_order (take limit octets) output taken
-- what is due for the octets up to the limit, past which there is one
Ends PastLimit meaning limit octets taken = WroteEarly meaning (take limit octets) taken
    × (length octets ≡ limit + 1)
