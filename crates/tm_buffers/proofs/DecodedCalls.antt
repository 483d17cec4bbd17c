-- What the calls of a decoder write.
use Rattle.std.proofs.Common.{◌≡◌, ◌∙◌, ℕ, ◌+◌, ◌<◌, ◌≤◌, ◌^◌, ◌++◌, nat_le, true, subst, arith, List, length, Some}
use Rattle.tm_base.specs.Handed.{Handed}
use Rattle.tm_config.specs.Configuration.{Configuration}
use Rattle.tm_viterbi.specs.WindowBlock.{WindowBlock}
use Rattle.tm_viterbi.specs.WindowSizes.{stream_bound}
use Rattle.tm_inner.specs.Handing.{AreHandedDue, ReadsDue}
use Rattle.tm_inner.specs.InnerDecoding.{InnerDecoding}
use Rattle.tm_inner.proofs.DecoderReads.{handed-due}
use Rattle.tm_inner.proofs.HandedBits.{handed-last-few, handed-more-few, needed-few}
use Rattle.tm_inner.proofs.ReadOctets.{hands-all}
use Rattle.tm_buffers.specs.Buffer.{has_room}
use Rattle.tm_buffers.specs.Decoding.{Decodes, DecodesLast, IsDecoding, WritesLastBits, bits_at, bits_room, keeps_handed}
use Rattle.tm_buffers.proofs.KeptBits.{kept-fills}
use Rattle.tm_buffers.proofs.Needed.{needed}

-- the bits that are due with further octets
pub bits-decoded : (d now : InnerDecoding) (given octets : List ℕ) (done : List (Handed WindowBlock))
    (count : ℕ) (bits bits_now : List ℕ) → (count ≤ length bits) × (length bits_now ≡ length bits)
    → ReadsDue keeps_handed d now (bits_at 0 bits) (bits_at count bits_now) octets
    → length given + length octets < stream_bound → IsDecoding d given done
    → has_room (bits_room d.config (length octets)) (length bits) ≡ true
    → Decodes now given octets done (Some count) bits_now
bits-decoded d now given octets done count bits bits_now within r few is room =
    let c = d.config in
    let w = hands-all keeps_handed d now (bits_at 0 bits) (bits_at count bits_now) octets is.going r in
    let stands = w.stands given done few is.stands in
    let due_now = handed-due now (given ++ octets) (done ++ w.more) stands in
    let most = handed-more-few c given octets done w.more is.due
    (subst (λ (k : Configuration). AreHandedDue k (given ++ octets) (done ++ w.more)) r.config due_now) in
    record {
      more = w.more;
      decoding = record { going = r.ended ∙ is.going; stands = stands; due = due_now };
      fills = kept-fills bits bits_now count w.more w.handed (omega (arith, within.0, within.1))
          (omega (
            arith,
            most,
            needed-few c.inner c,
            needed _ (nat_le (length octets) (2 ^ 40)) (length bits) room,
          ));
    }

-- and those of the last blocks
pub bits-ended : (d now : InnerDecoding) (given : List ℕ) (done : List (Handed WindowBlock)) (count : ℕ)
    (bits bits_now : List ℕ) → (count ≤ length bits) × (length bits_now ≡ length bits)
    → WritesLastBits d now bits count bits_now → IsDecoding d given done
    → has_room (bits_room d.config 0) (length bits) ≡ true → DecodesLast d now given done (Some count) bits_now
bits-ended d now given done count bits bits_now within w is room =
    let c = d.config in
    let all = w.all given done is.stands in
    let most = handed-last-few c given done w.last w.left is.due all.0 in
    record {
      last = w.last;
      left = w.left;
      all = all.0;
      fills = kept-fills bits bits_now count w.last w.written (omega (arith, within.0, within.1))
          (omega (arith, most, needed-few c.inner c, needed _ true (length bits) room));
      chosen = all.1;
    }
