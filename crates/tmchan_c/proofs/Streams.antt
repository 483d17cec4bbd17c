-- What calls on handles do.
use Rattle.std.proofs.Common.{◌≡◌, ◌∙◌, ℤ, Option, Some, None, sym, subst}
use Rattle.tmchan_c.specs.Streams.{Opens}
use Rattle.tmchan_c.specs.declared.stream.Stream.{Stream}

-- what was opened is what was to be opened
pub opens-as : (Is : Option Stream → Type 0) (answer shown : ℤ) (held : Option Stream) (stream : Stream)
    → answer ≡ shown → Opens answer held (λ held. held ≡ Some stream) → Is (Some stream) → Opens shown held Is
opens-as Is answer shown (Some other) stream same opens is = (sym same ∙ opens.0, subst Is (sym opens.1) is)
opens-as Is answer shown None stream same opens is = sym same ∙ opens
