-- The items of received octets, and those of them that are due whatever octets follow.
use Rattle.std.specs.Prelude.{ℕ, Bool, List}
use Rattle.tm_config.specs.Configuration.{Configuration}
use Rattle.tm_inner.specs.Inner.{Inner, AreInnerDue, inner_bits}
use Rattle.tm_inner.specs.Receiving.{AreInnerFirst}
use Rattle.tm_inner.specs.SymbolPlaces.{symbol_at}
use Rattle.tm_viterbi.specs.WindowBlock.{WindowBlock}
use Rattle.tm_codeblock.specs.ReceivedCodeblock.{places_in}
use Rattle.tm_channel.specs.Items.{ItemValue, AreItemsOf, AreFirstItemsOf, AreItems, HaveSymbols}
use Rattle.tm_channel.specs.Due.{due}

-- these are the items of received octets: those of the bits that they come to
pub record Receive (c : Configuration) (phase : ℕ) (octets : List ℕ)
    (items : List ItemValue) : Type 0 where
  pub bits : List Bool
  pub inner : Inner c phase octets bits
  pub are_items : AreItems c bits items
  pub symbols : HaveSymbols (symbol_at c phase inner.blocks) items

-- These are the items that are due once octets were received: in whole batches, the first of those
-- of the places in the bits of all blocks but the last, or with no inner code in the bits.
pub record ReceiveDue (c : Configuration) (phase : ℕ) (octets : List ℕ)
    (items : List ItemValue) : Type 0 where
  pub blocks : List WindowBlock
  pub are_due : AreInnerDue c phase octets blocks
  pub are_items : AreItemsOf c (inner_bits c octets blocks)
      (due c (inner_bits c octets blocks)) items
  pub symbols : HaveSymbols (symbol_at c phase blocks) items

-- These are items of the first places in the bits of first blocks of received octets, or with no
-- inner code in the bits.
pub record ReceiveFirst (c : Configuration) (phase : ℕ) (octets : List ℕ)
    (items : List ItemValue) : Type 0 where
  pub blocks : List WindowBlock
  pub are_first : AreInnerFirst c phase octets blocks
  pub are_items : AreFirstItemsOf c (inner_bits c octets blocks)
      (places_in c (inner_bits c octets blocks)) items
  pub symbols : HaveSymbols (symbol_at c phase blocks) items

-- these are the first of the items of received octets
pub record ReceivePrefix (c : Configuration) (phase : ℕ) (octets : List ℕ)
    (items : List ItemValue) : Type 0 where
  pub bits : List Bool
  pub inner : Inner c phase octets bits
  pub are_items : AreFirstItemsOf c bits (places_in c bits) items
  pub symbols : HaveSymbols (symbol_at c phase inner.blocks) items
