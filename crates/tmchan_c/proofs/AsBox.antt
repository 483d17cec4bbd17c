-- What is kept, and its parts, own what a box at the same types owns.
use mir.Syntax.{impl, tnil, dnil}
use mathlib.Core.List.{[], ◌∷◌}
use denote.Signature.{Slot, plain}
use denote.Exit.{yes}
use denote.Triple.Walked.{Stays, stay_dropped}
use Rattle.std_alloc.proofs.BoxSteps.Form.{Bx}
use Rattle.std_heap.specs.contracts.Global as Heap
use Rattle.std_heap.specs.contracts.GlobalAllocator.TheImpl.{ghosts, dict}
use Rattle.std_heap.proofs.Global.TheLaws as heap
use Rattle.tmchan_c.specs.contracts.stream.Stream as Home
use Rattle.tmchan_c.proofs.stream.Stream.TheLaws as home
use Rattle.tmchan_c.specs.contracts.parts.Parts as Parts
use Rattle.tmchan_c.specs.contracts.kept.Kept as Kept

abbrev pub E : Bx
E =
    record {
      row = Home.the_row;
      laws = home.the_row_laws;
      al = record { row = Heap.the_row; laws = heap.the_row_laws; g = ghosts; d = dict; drops = impl [] tnil dnil };
    }

abbrev pub FromParts : Slot 0
FromParts = plain (λ _. Parts.the_row Home.the_row Heap.the_row ghosts)

abbrev pub FromKept : Slot 0
FromKept = plain (λ _. Kept.the_row)

abbrev pub FromHeap : Slot 0
FromHeap = plain (λ _. Heap.the_row)

-- nothing is kept of the one parameter
abbrev pub gone : (From : Slot 0) → Stays (From ∷ []) (yes, tt)
gone From = (stay_dropped From yes, tt)
