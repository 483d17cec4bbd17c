-- Codeblocks that are whole with the last bits, one after another.
use Rattle.std.proofs.Common.{◌≡◌, ℕ, ◌^◌, ◌<◌, ◌≤◌, Bool, List, ◌++◌, length, map, sym, ap, ◌∙◌, subst}
use Rattle.tm_config.specs.Configuration.{Configuration}
use Rattle.tm_sync.specs.declared.found.Found.{Found}
use Rattle.tm_sync.specs.Finding.{Finding, Recent}
use Rattle.tm_codeblock.specs.ReceivedCodeblock.{places_in}
use Rattle.tm_channel.specs.Items.{ItemValue, AreItemsOf}
use Rattle.tm_channel.specs.Due.{due_count, due_count_of, due_of}
use Rattle.tm_channel.specs.Origins.{AreAt, AreHandedSymbols, place_symbol}
use Rattle.tm_channel.specs.Receiving.{Holding, Holds, HoldsFound, IsHanded}
use Rattle.tm_channel.specs.OctetReceiving.{Gathered, HasFound, IsSettled}
use Rattle.tm_channel.specs.declared.bit_receiver.BitReceiver.{BitReceiver}
use Rattle.tm_channel.proofs.KeptSymbols.{symbols-handed, symbols-then}
use Rattle.tm_channel.proofs.Holding.{stands-all}
use Rattle.tm_channel.proofs.Streaming.{batch-items, batch-stands}

-- of these bits these places were found by now, and these items handed over
pub record Settling (c : Configuration) (at : ℕ → ℕ) (count : ℕ) (bits : List Bool) (now : BitReceiver)
    (items : List ItemValue) : Type 0 where
  pub found : List Found
  pub has : HasFound now at count (due_count_of c found) bits found
  pub are_items : AreItemsOf c bits (due_of c found) items
  pub said : AreAt at count (map place_symbol items)

-- nothing was found in the last bits yet
pub settling-start : (r : BitReceiver) (all : List Bool) (done : List ItemValue) (count : ℕ) (at : ℕ → ℕ)
    → Gathered r.batch.config at count all r done → Settling r.batch.config at count all r done
settling-start r all done count at g =
    let found = places_in r.batch.config g.bits in
    record {
      found = found;
      has = record {
        holds = subst (λ (l : List Bool). HoldsFound r.finder r.recent r.batch
            (due_count_of r.batch.config found) l found) (sym g.are) g.holds;
        has = g.has;
      };
      are_items = g.are_items;
      said = g.said;
    }

-- what a receiver does that keeps the codeblocks of these places more
abbrev pub KeepsPlaces : BitReceiver → BitReceiver → List Found → Type 0
KeepsPlaces b m next = (at : ℕ → ℕ) (count handed : ℕ) (bits : List Bool) (found : List Found)
    → length bits < 2 ^ 63 → length bits ≤ count → HasFound b at count handed bits found
    → HasFound m at count handed bits (found ++ next)

-- the same with another batch, of which other codeblocks are stored
holds-same : (c : Configuration) (m n : BitReceiver) (handed : ℕ) (bits : List Bool) (found : List Found)
    → n.finder ≡ m.finder → n.recent ≡ m.recent → n.batch.config ≡ c
    → Holding c m.finder m.recent.bits n.batch.stored handed bits found
    → HoldsFound n.finder n.recent n.batch handed bits found
holds-same c m n handed bits found finder recent config h =
    subst (λ (v : Finding). Holding n.batch.config v n.recent.bits n.batch.stored handed bits found) (sym finder)
    (subst (λ (l : Recent). Holding n.batch.config m.finder l.bits n.batch.stored handed bits found) (sym recent)
    (subst (λ (k : Configuration). Holding k m.finder m.recent.bits n.batch.stored handed bits found) (sym config) h))

-- some codeblocks more are stored, and the batch is handed over where it is full
pub settling-handed : (b m n : BitReceiver) (next : List Found) (others : List ItemValue) (count : ℕ) (at : ℕ → ℕ)
    → m.batch.config ≡ b.batch.config → n.finder ≡ m.finder → n.recent ≡ m.recent → n.batch.config ≡ m.batch.config
    → n.origins ≡ m.origins → KeepsPlaces b m next
    → IsHanded m.batch.config m.batch.stored n.batch.stored others
    → AreHandedSymbols m.batch.symbols n.batch.symbols others
    → (bits : List Bool) (items : List ItemValue) → length bits < 2 ^ 63 → length bits ≤ count
    → Settling b.batch.config at count bits b items → Settling b.batch.config at count bits n (items ++ others)
settling-handed b m n next others count at config finder recent config_n origins keeps handed parts bits items few le
    s =
    let c = b.batch.config in
    let now : List Found = s.found ++ next in
    let before = due_count_of c s.found in
    let kept = keeps at count before bits s.found few le s.has in
    let held = subst (λ (k : Configuration). Holding k m.finder m.recent.bits m.batch.stored before bits now) config
    kept.holds in
    let is = subst (λ (k : Configuration). IsHanded k m.batch.stored n.batch.stored others) config handed in
    let said = symbols-handed m n count at others finder config_n origins parts kept.has in
    record {
      found = now;
      has = record {
        holds = holds-same c m n (due_count_of c now) bits now finder recent (config_n ∙ config)
            (batch-stands c m.finder m.recent.bits m.batch.stored n.batch.stored s.found now bits others held is);
        has = said.0;
      };
      are_items = batch-items c m.finder m.recent.bits m.batch.stored n.batch.stored s.found next bits items others
          held is s.are_items;
      said = symbols-then at count items others s.said said.1;
    }

-- all places were found
pub settling-all : (b n : BitReceiver) → n.batch.config ≡ b.batch.config
    → ((at : ℕ → ℕ) (count handed : ℕ) (bits : List Bool) (found : List Found) → length bits < 2 ^ 63
    → length bits ≤ count → HasFound b at count handed bits found
    → HasFound n at count handed bits found × (places_in b.batch.config bits ≡ found))
    → (bits : List Bool) (items : List ItemValue) (count : ℕ) (at : ℕ → ℕ) → length bits < 2 ^ 63
    → length bits ≤ count → Settling b.batch.config at count bits b items
    → IsSettled b.batch.config at count bits n items
settling-all b n config none bits items count at few le s =
    let c = b.batch.config in
    let held = none at count (due_count_of c s.found) bits s.found few le s.has in
    let has = held.0.has in
    let there : s.found ≡ places_in n.batch.config bits =
    sym (ap (λ (k : Configuration). places_in k bits) config ∙ held.1) in
    let holds : Holds n.finder n.recent n.batch (due_count n.batch.config bits) bits =
    subst (λ (fs : List Found). HoldsFound n.finder n.recent n.batch (due_count_of n.batch.config fs) bits fs) there
    (subst (λ (k : Configuration). HoldsFound n.finder n.recent n.batch (due_count_of k s.found) bits s.found)
    (sym config) held.0.holds) in (
      (
        record {
          stands = stands-all n.finder n.recent n.batch bits holds;
          are_items = subst (λ (fs : List Found). AreItemsOf c bits (due_of c fs) items) (sym held.1) s.are_items;
          stored = has.stored;
          said = s.said;
        },
        has,
      ),
      holds,
    )
