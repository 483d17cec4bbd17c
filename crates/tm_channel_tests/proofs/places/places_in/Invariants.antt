use Rattle.tm_sync.specs.Finding.{IsWhole}
use Rattle.tm_channel_tests.proofs.places.places_in.Given as goal

abbrev pub invariant-loop : goal.invariant-loop
invariant-loop g l = record { whole : IsWhole l.finder l.recent.bits }
