-- The frames that are given are whole.
use Rattle.std.proofs.Common.{◌≡◌, ◌≤◌, ◌+◌, ◌*◌, ℕ, Bool, true, cond, List, [], ◌∷◌, length, take, drop, map, sym, ap, ◌∙◌, arith, inl, inr, length-drop}
use Rattle.std.specs.List.{AllByRecursion}
use Rattle.std.proofs.lemmas.List.{length-take-le}
use Rattle.tm_config.specs.Configuration.{Configuration, codeblock_length, data_length}
use Rattle.tm_config.specs.Accepted.{IsAccepted}
use Rattle.tm_config.specs.declared.values.OuterCode.TheVariants.{Uncoded}
use Rattle.tm_config.proofs.Choices.{uncoded_cases}
use Rattle.tm_codeblock.proofs.ColumnLaws.{length-interleaved}
use Rattle.tm_sync.specs.declared.found.Found.{Found}
use Rattle.tm_codeblock.specs.ReceivedCodeblock.{codeblock_at, data_octets, frame_of, places_in}
use Rattle.tm_codeblock.proofs.PlacesIn.{places_in-end}
use Rattle.tm_channel.specs.Items.{ItemValue, is_given, AreItemsOf}
use Rattle.tm_channel.specs.Receive.{Receive}
use Rattle.tm_channel.proofs.SentCodeblocks.{length-codeblock_in}

-- with no outer code the codeblock is the frame
uncoded-length : (c : Configuration) → IsAccepted c → c.code ≡ Uncoded → codeblock_length c ≡ c.frame_length
uncoded-length c ok none = rw none (ap (λ n. c.depth * n) (no-more (data_length c)) ∙ sym ok.whole)
  where
    no-more : (n : ℕ) → n + 0 ≡ n
    no-more n = omega arith

length-frame_of : (c : Configuration) (bits : List Bool) (f : Found) (words : List (List ℕ)) → IsAccepted c
    → f.place + 32 + 8 * codeblock_length c ≤ length bits
    → length (frame_of c (codeblock_at c bits f) words) ≡ c.frame_length
unfolding frame_of
length-frame_of c bits f words ok room = elim (uncoded_cases c.code) [
  | inl none ↦ rw none.0 (
      length-codeblock_in c f.inverted (take (8 * codeblock_length c) (drop (f.place + 32) bits))
      (length-take-le (8 * codeblock_length c) (drop (f.place + 32) bits)
      (omega (arith, room, length-drop (f.place + 32) bits)))
      ∙ uncoded-length c ok none.1)
  | inr some ↦ rw some.0 (
      length-interleaved c.depth (data_length c) (map (data_octets c) words) ∙ sym ok.whole)
]

-- where a frame is given it has the octets of one
abbrev HasWholeFrame : Configuration → ItemValue → Type 0
HasWholeFrame c item = is_given c item.answers ≡ true → length item.frame ≡ c.frame_length

whole-of : (c : Configuration) (bits : List Bool) (fs : List Found) (items : List ItemValue) → IsAccepted c
    → AllByRecursion (λ f. f.place + 32 + 8 * codeblock_length c ≤ length bits) fs → AreItemsOf c bits fs items
    → AllByRecursion (HasWholeFrame c) items
whole-of c bits [] [] ok room are = tt
whole-of c bits [] (item ∷ items) ok room are = absurd are
whole-of c bits (f ∷ fs) [] ok room are = absurd are
whole-of c bits (f ∷ fs) (item ∷ items) ok room are = (
  λ given. ap length (are.0.frame ∙ ap (λ b. cond b (frame_of c (codeblock_at c bits f) are.0.words) []) given)
      ∙ length-frame_of c bits f are.0.words ok room.0,
  whole-of c bits fs items ok room.1 are.1,
)

pub received-whole : (c : Configuration) (phase : ℕ) (octets : List ℕ) (items : List ItemValue) → IsAccepted c
    → Receive c phase octets items → AllByRecursion (HasWholeFrame c) items
received-whole c phase octets items ok r =
    whole-of c r.bits (places_in c r.bits) items ok (places_in-end c r.bits) r.are_items
