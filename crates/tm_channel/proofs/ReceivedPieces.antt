-- Bits are received, one piece after another: they are put into the room, and searched.
use Rattle.std.specs.Option.{is_some}
use Rattle.std.proofs.Common.{◌≡◌, ◌==◌, ◌<◌, ◌≤◌, ◌-◌, ℕ, true, Bool, List, [], ◌++◌, length, map, refl, sym, ap, ◌∙◌, subst, arith, append_assoc, length-append}
use Rattle.std.proofs.lemmas.List.{append-nil, map-append}
use Rattle.tm_base.proofs.Handing.{HandedOver-append}
use Rattle.tm_config.specs.Configuration.{Configuration}
use Rattle.tm_viterbi.specs.WindowBlock.{WindowBlock}
use Rattle.tm_viterbi.specs.Clean.{kept_bits}
use Rattle.tm_inner.proofs.DueBits.{kept-append}
use Rattle.tm_sync.specs.declared.found.Found.{Found}
use Rattle.tm_sync.specs.Bits.{bits_bound}
use Rattle.tm_codeblock.specs.ReceivedCodeblock.{places_in, rules_of}
use Rattle.tm_channel.specs.Items.{ItemValue, AreItemsOf}
use Rattle.tm_channel.specs.Due.{due, due_count}
use Rattle.tm_channel.specs.Origins.{Noted, ReachesBack}
use Rattle.tm_channel.specs.Receiving.{Fills, Holding, IsShort, waiting_bits}
use Rattle.tm_channel.specs.OctetReceiving.{AwaitsBits, Gathered, IsSearched, Receives, with_more}
use Rattle.tm_channel.specs.declared.bit_receiver.BitReceiver.{BitReceiver}
use Rattle.tm_channel.proofs.Holding.{holding-more}
use Rattle.tm_channel.proofs.KeptSymbols.{symbols-stored}
use Rattle.tm_channel.proofs.Spare.{none-due}
use Rattle.tm_channel.proofs.Streaming.{due-end, ends-longer, items-more}

-- the bits that blocks keep
abbrev pub all_bits : List WindowBlock → List Bool
all_bits blocks = map (λ bit. bit == 1) (kept_bits blocks)

pub all_bits-append : (xs ys : List WindowBlock) → all_bits (xs ++ ys) ≡ all_bits xs ++ all_bits ys
all_bits-append xs ys = ap (map (λ bit. bit == 1)) (kept-append xs ys) ∙ map-append _ (kept_bits xs) (kept_bits ys)

-- ---- one piece after another

-- no bits, and no items
pub receives-step : {T : Type 0}
    (Was Is : Configuration → (ℕ → ℕ) → ℕ → List Bool → BitReceiver → List ItemValue → Type 0)
    (took : T → ItemValue → T → Type 0) (before now : BitReceiver) (taker : T) → now.batch.config ≡ before.batch.config
    → now.origins ≡ before.origins
    → ((all : List Bool) (done : List ItemValue) (count : ℕ) (at : ℕ → ℕ) → length all < bits_bound
    → length all ≤ count → Was before.batch.config at count all before done
    → Is before.batch.config at count all now done)
    → Receives Was Is took before now taker taker []
receives-step Was Is took before now taker config origins follows = record {
  config = config;
  origins = origins;
  items = [];
  handed = refl;
  on = λ all done count at few le was.
      let none = append-nil all in
      subst (λ (l : List Bool). Is before.batch.config at count l now (done ++ [])) (sym none)
      (subst (Is before.batch.config at count all now) (sym (append-nil done))
      (follows all done count at (omega (arith, few, ap length none)) (omega (arith, le, ap length none)) was));
}

pub receives-none : {T : Type 0}
    (Is : Configuration → (ℕ → ℕ) → ℕ → List Bool → BitReceiver → List ItemValue → Type 0)
    (took : T → ItemValue → T → Type 0) (r : BitReceiver) (taker : T) → Receives Is Is took r r taker taker []
receives-none Is took r taker = receives-step Is Is took r r taker refl refl (λ all done count at few le was. was)

pub receives-then : {T : Type 0}
    (Was Mid Is : Configuration → (ℕ → ℕ) → ℕ → List Bool → BitReceiver → List ItemValue → Type 0)
    (took : T → ItemValue → T → Type 0) (a b c : BitReceiver) (taker middle now : T) (bits more : List Bool)
    → Receives Was Mid took a b taker middle bits → Receives Mid Is took b c middle now more
    → Receives Was Is took a c taker now (bits ++ more)
receives-then Was Mid Is took a b c taker middle now bits more p q = record {
  config = q.config ∙ p.config;
  origins = q.origins ∙ p.origins;
  items = p.items ++ q.items;
  handed = HandedOver-append took taker middle now p.items q.items p.handed q.handed;
  on = λ given done count at few le was.
      let k = a.batch.config in
      let all = append_assoc given bits more in
      let sizes = length-append (given ++ bits) more in
      let there = subst (λ (v : Configuration). Mid v at count (given ++ bits) b (done ++ p.items)
      → Is v at count ((given ++ bits) ++ more) c ((done ++ p.items) ++ q.items)) p.config
      (q.on (given ++ bits) (done ++ p.items) count at (omega (arith, few, ap length all))
      (omega (arith, le, ap length all)))
      (p.on given done count at (omega (arith, few, ap length all, sizes))
      (omega (arith, le, ap length all, sizes)) was)
      in
      subst (λ (l : List Bool). Is k at count l c (done ++ (p.items ++ q.items))) all
      (subst (Is k at count ((given ++ bits) ++ more) c) (append_assoc done p.items q.items) there);
}

pub receives-after : {T : Type 0}
    (Was Mid Is : Configuration → (ℕ → ℕ) → ℕ → List Bool → BitReceiver → List ItemValue → Type 0)
    (took : T → ItemValue → T → Type 0) (a b c : BitReceiver) (taker middle now : T) (bits : List Bool)
    → Receives Was Mid took a b taker middle bits → Receives Mid Is took b c middle now []
    → Receives Was Is took a c taker now bits
receives-after Was Mid Is took a b c taker middle now bits p q =
    subst (Receives Was Is took a c taker now) (append-nil bits)
    (receives-then Was Mid Is took a b c taker middle now bits [] p q)

-- ---- bits that are put into the room before they are searched

pub gathered-of : (r : BitReceiver) (all : List Bool) (done : List ItemValue) (count : ℕ) (at : ℕ → ℕ)
    → IsSearched r.batch.config at count all r done → Gathered r.batch.config at count all r done
gathered-of r all done count at was =
    let stands = was.0.stands in
    record {
      bits = stands.first;
      more = stands.more;
      are = stands.are;
      holds = stands.holds;
      are_items = subst (λ (fs : List Found). AreItemsOf r.batch.config all fs done) stands.same was.0.are_items;
      said = was.0.said;
      has = was.1;
    }

pub gathers-begun : {T : Type 0} (took : T → ItemValue → T → Type 0) (r : BitReceiver) (taker : T)
    → Receives IsSearched Gathered took r r taker taker []
gathers-begun took r taker = receives-step IsSearched Gathered took r r taker refl refl
    (λ all done count at few le was. gathered-of r all done count at was)

pub gathers-pushed : {T : Type 0} (took : T → ItemValue → T → Type 0) (now next : BitReceiver) (taker : T)
    (more : List Bool) → next ≡ with_more now more → Receives Gathered Gathered took now next taker taker more
gathers-pushed took now next taker more is =
    let c = now.batch.config in
    let after = with_more now more in
    subst (λ (r : BitReceiver). Receives Gathered Gathered took now r taker taker more) (sym is) (record {
      config = refl;
      origins = refl;
      items = [];
      handed = refl;
      on = λ all done count at few le g.
          subst (Gathered c at count (all ++ more) after) (sym (append-nil done)) (record {
            bits = g.bits;
            more = g.more ++ more;
            are = ap (λ l. l ++ more) g.are ∙ append_assoc g.bits g.more more;
            holds = subst (λ (l : List Bool). Holding c after.finder after.recent.bits after.batch.stored
                (due_count c g.bits) l (places_in c g.bits)) (append_assoc g.bits g.more more)
                (holding-more c now.finder now.recent.bits now.batch.stored (due_count c g.bits) (g.bits ++ g.more) more
                (places_in c g.bits) g.holds);
            are_items = items-more c all more (due c g.bits) done
                (ends-longer (rules_of c) (length g.bits) (length all) (due c g.bits)
                (omega (arith, ap length g.are, length-append g.bits g.more)) (due-end c g.bits))
                g.are_items;
            said = g.said;
            has = symbols-stored now after count at (omega arith) refl refl g.has.stored g.has;
          });
    })

-- nothing is due with them, and they stay in the room
pub waits-of : (r : BitReceiver) (all : List Bool) (items : List ItemValue) (count : ℕ) (at : ℕ → ℕ)
    → Fills r.finder r.recent r.batch
    → length r.recent.bits < waiting_bits r.batch.config (r.batch.config.batch - length r.batch.stored)
    → Gathered r.batch.config at count all r items → IsSearched r.batch.config at count all r items
waits-of r all items count at fills few g =
    let c = r.batch.config in
    let same : due c all ≡ due c g.bits = ap (due c) g.are
    ∙ none-due r.finder r.recent r.batch g.bits g.more fills.agree fills.few g.holds few in (
      record {
        stands = record { first = g.bits; more = g.more; are = g.are; holds = g.holds; same = same };
        are_items = subst (λ (fs : List Found). AreItemsOf c all fs items) (sym same) g.are_items;
        stored = g.has.stored;
        said = g.said;
      },
      g.has,
    )

-- bits may be given again, whatever was done but for the configuration and the origins
pub awaits-on : (before now : BitReceiver) → AwaitsBits before → now.batch.config ≡ before.batch.config
    → now.origins ≡ before.origins → Fills now.finder now.recent now.batch
    → (is_some before.batch.config.inner ≡ true → IsShort now.finder now.recent) → AwaitsBits now
awaits-on before now awaits config origins fills short = record {
  fills = fills;
  reaches = subst (λ (o : Noted). ReachesBack now.batch.config o.size) (sym origins)
      (subst (λ (k : Configuration). ReachesBack k before.origins.size) (sym config) awaits.reaches);
  short = λ coded. short (ap (λ (k : Configuration). is_some k.inner) (sym config) ∙ coded);
}
