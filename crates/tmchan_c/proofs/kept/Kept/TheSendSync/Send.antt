-- What is kept may go to another thread, as a stream may: nothing of either belongs to a thread.
use mir.Raw.{raw}
use base.Shift.{Keyless}
use denote.Memory.{lone}
use denote.RawPtr.{Ptr}
use denote.Struct.Struct.{exits_of}
use denote.Struct.Owning.{shape, fields, to}
use denote.Param.Send.{IsSend, AllSend, owning_send, struct_send, sendable}
use Rattle.std.specs.Global.{Global}
use Rattle.std.specs.Prelude.{Option, Some, None}
use Rattle.std.proofs.Crossing as heap
use Rattle.std_alloc.proofs.SendSync.{quiet, lies}
use Rattle.std_heap.proofs.Global.TheSendSync as handle
use Rattle.tmchan_c.specs.Kept.{kept_owns}
use Rattle.tmchan_c.specs.contracts.stream.Stream as Home
use Rattle.tmchan_c.proofs.stream.Stream.TheSendSync.{the_send as home}
use Rattle.tmchan_c.specs.contracts.kept.Kept.{the_row, the_type}

keyless : (alloc : Global) (at : Ptr) (value : Option Home.the_row.Denot) → Keyless (kept_owns alloc at value)
keyless alloc at None = tt
keyless alloc at (Some value) =
    (lies Home.the_row home at value, heap.frees.frees alloc (raw (lone Home.the_row.mir)) at)

pub send : IsSend the_row
send =
    let all : AllSend (fields the_type) = (search sendable, (handle.the_field_send, tt)) in
    owning_send the_type all (λ d. keyless d.alloc d.ptr d.value)
    (λ k. quiet (to the_type) (exits_of k (fields the_type)) ((struct_send (shape the_type) all).leaving k))
