-- Items without what is left of frames with an uncorrectable column.
use Rattle.std.proofs.Common.{◌≡◌, ◌∙◌, ◌||◌, ◌+◌, ℕ, Bool, true, false, cond, List, [], ◌∷◌, map, drop, refl, Option, Some, None}
use Rattle.tm_conv.specs.declared.rates.Rate.{Rate}
use Rattle.tm_config.specs.Configuration.{Configuration}
use Rattle.tm_viterbi.specs.WindowBlock.{WindowBlock}
use Rattle.tm_windows.specs.Windows.{dropped_to}
use Rattle.tm_inner.specs.SymbolPlaces.{origin_by, symbol_at, symbols_before}
use Rattle.tm_inner.specs.Inner.{BlocksAt, bits_at, plain_bits_by}
use Rattle.tm_rs.specs.declared.answers.Answer.{Answer}
use Rattle.tm_sync.specs.declared.found.Found.{Found}
use Rattle.tm_codeblock.specs.ReceivedCodeblock.{places_in, codeblock_in, codeblock_at, received_columns, frame_of}
use Rattle.tm_channel.specs.Items.{ItemValue, AreNearest, are_fixed, IsItem, AreItemsOf, dropping, dropped_item}
use Rattle.tm_channel.specs.Receive.{Receive}
use Rattle.tm_channel.proofs.Symbols.{have-map, have-same}

nearest-dropped : (c : Configuration) (columns : List (List ℕ)) (answers : List Answer) (words : List (List ℕ))
    → AreNearest c columns answers words → AreNearest (dropping c) columns answers words
nearest-dropped c [] [] [] are = tt
nearest-dropped c (column ∷ columns) (answer ∷ answers) (word ∷ words) are = (
  record { nearest = are.0.nearest; left = are.0.left },
  nearest-dropped c columns answers words are.1,
)
nearest-dropped c columns answers words are = absurd (assumption)

-- a frame is left where every column is repaired
frame-dropped : (fixed passed : Bool) (frame whole : List ℕ) → frame ≡ cond (fixed || passed) whole []
    → cond fixed frame [] ≡ cond (fixed || false) whole []
frame-dropped true passed frame whole is = is
frame-dropped false passed frame whole is = refl

item-dropped : (c : Configuration) (f : Found) (codeblock : List ℕ) (item : ItemValue) → IsItem c f codeblock item
    → IsItem (dropping c) f codeblock (dropped_item item)
unfolding received_columns frame_of
item-dropped c f codeblock item it = record {
  place = it.place;
  words = it.words;
  nearest = nearest-dropped c (received_columns c codeblock) item.answers it.words it.nearest;
  frame = frame-dropped (are_fixed item.answers) c.pass_bad item.frame (frame_of c codeblock it.words) it.frame;
}

items-dropped : (c : Configuration) (bits : List Bool) (fs : List Found) (items : List ItemValue)
    → AreItemsOf c bits fs items → AreItemsOf (dropping c) bits fs (map dropped_item items)
unfolding codeblock_in
items-dropped c bits [] [] are = tt
items-dropped c bits [] (item ∷ items) are = absurd are
items-dropped c bits (f ∷ fs) [] are = absurd are
items-dropped c bits (f ∷ fs) (item ∷ items) are =
    (item-dropped c f (codeblock_at c bits f) item are.0, items-dropped c bits fs items are.1)

-- the bits are the same
blocks-dropped : (c : Configuration) (rate : Option Rate) (phase : ℕ) (octets : List ℕ) (blocks : List WindowBlock)
    (left : ℕ) → BlocksAt rate c phase octets blocks left → BlocksAt rate (dropping c) phase octets blocks left
blocks-dropped c None phase octets blocks left are = are
blocks-dropped c (Some rate) phase octets blocks left are = are

bits-dropped : (c : Configuration) (rate : Option Rate) (octets : List ℕ) (blocks : List WindowBlock)
    → bits_at rate c octets blocks ≡ bits_at rate (dropping c) octets blocks
bits-dropped c None octets blocks = plain c.pack
  where
    plain : (packed : Bool) → drop c.skip (plain_bits_by packed c octets)
        ≡ drop c.skip (plain_bits_by packed (dropping c) octets)
    plain true = refl
    plain false = refl
bits-dropped c (Some rate) octets blocks = refl

-- and so are their symbols
symbols-dropped : (c : Configuration) (rate : Option Rate) (phase : ℕ) (blocks : List WindowBlock) (n : ℕ)
    → origin_by rate c phase (dropped_to blocks n) + symbols_before rate n
    ≡ origin_by rate (dropping c) phase (dropped_to blocks n) + symbols_before rate n
symbols-dropped c None phase blocks n = refl
symbols-dropped c (Some rate) phase blocks n = refl

pub received-dropped : (c : Configuration) (phase : ℕ) (octets : List ℕ) (items : List ItemValue)
    → Receive c phase octets items → Receive (dropping c) phase octets (map dropped_item items)
unfolding received_columns codeblock_in
received-dropped c phase octets items received = record {
  bits = received.bits;
  inner = record {
    blocks = received.inner.blocks;
    left = received.inner.left;
    are_blocks =
        blocks-dropped c c.inner phase octets received.inner.blocks received.inner.left received.inner.are_blocks;
    are_bits = received.inner.are_bits ∙ bits-dropped c c.inner octets received.inner.blocks;
  };
  are_items = items-dropped c received.bits (places_in c received.bits) items received.are_items;
  symbols =
      have-map (symbol_at (dropping c) phase received.inner.blocks) dropped_item (λ item. refl) items
      (have-same (symbol_at c phase received.inner.blocks) (symbol_at (dropping c) phase received.inner.blocks) items
      (symbols-dropped c c.inner phase received.inner.blocks) received.symbols);
}
